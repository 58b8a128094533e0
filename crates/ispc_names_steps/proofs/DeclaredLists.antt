-- Index variables and parameters, one after another.
use Rattle.std.proofs.Common.{ℕ, suc, ◌+◌, ◌<◌, ◌≡◌, List, [], ◌∷◌, ◌++◌, refl, sym, ap, ◌∙◌, subst, arith, length, get_or, take, map}
use Rattle.std.proofs.lemmas.List.{take_more}
use Rattle.gang_types.specs.declared.places.VarId.TheVariants.{Local}
use Rattle.gang_model.specs.Source.Parsed.{Name, ParsedDim}
use Rattle.gang_model.specs.Names.Bindings.{dim_bindings, param_bindings}
use Rattle.gang_model.specs.Names.Scope.{Binding, bound, Site, with_name, with_dims, with_params}
use Rattle.source_tree.specs.declared.tree.Dim.{Dim}
use Rattle.source_tree.specs.declared.tree.Param.{Param}
use Rattle.source_tree.specs.Tree.{dim_view, param_view}
use Rattle.ispc_names_table.specs.declared.table.Declaration.{Declaration}
use Rattle.ispc_names_steps.specs.Sites.{Declares}
use Rattle.ispc_names_steps.proofs.Growth.{declares-join, declares-length}

pub one_more : {A : Type 0} (xs : List A) (i : ℕ) (x : A) → i < length xs → x ≡ get_or xs i x → take (i + 1) xs ≡ take i xs ++ x ∷ []
one_more xs i x lt is = take_more xs i x lt ∙ ap (λ z. take i xs ++ z ∷ []) (sym is)

-- the last variable that is declared has the number of those before
numbered_last : (a b c : List Declaration) (bs : List Binding) (n : ℕ) (name : Name) → Declares a b bs → length bs ≡ n → Declares b c (bound name (Local (length b)) ∷ [])
    → Declares a c (bs ++ bound name (Local (length a + n)) ∷ [])
numbered_last a b c bs n name d len e =
    declares-join a b c bs (bound name (Local (length a + n)) ∷ []) d
    (subst (λ k. Declares b c (bound name (Local k) ∷ [])) (declares-length a b bs d ∙ ap (λ k. length a + k) len) e)

-- ---- index variables

dim_bindings-length : (k : ℕ) (dims : List Dim) → length (dim_bindings k (map dim_view dims)) ≡ length dims
dim_bindings-length k [] = refl
dim_bindings-length k (d ∷ dims) = ap suc (dim_bindings-length (suc k) dims)

dim_bindings-push : (k : ℕ) (dims : List Dim) (d : Dim) → dim_bindings k (map dim_view (dims ++ d ∷ [])) ≡ dim_bindings k (map dim_view dims) ++ bound d.name.items (Local (k + length dims)) ∷ []
dim_bindings-push k [] d = ap (λ n. bound d.name.items (Local n) ∷ []) (omega arith)
dim_bindings-push k (x ∷ dims) d =
    ap (λ bs. bound x.name.items (Local k) ∷ bs) (dim_bindings-push (suc k) dims d
    ∙ ap (λ n. dim_bindings (suc k) (map dim_view dims) ++ bound d.name.items (Local n) ∷ []) (omega arith))

with_dims-push : (dims : List Dim) (d : Dim) (site : Site) → with_dims (map dim_view (dims ++ d ∷ [])) site ≡ with_name d.name.items (with_dims (map dim_view dims) site)
with_dims-push [] d site = refl
with_dims-push (x ∷ dims) d site = with_dims-push dims d (with_name x.name.items site)

pub with_dims-more : (dims : List Dim) (i : ℕ) (x : Dim) (text : Name) (site : Site) → i < length dims → x ≡ get_or dims i x → text ≡ x.name.items
    → with_name text (with_dims (map dim_view (take i dims)) site) ≡ with_dims (map dim_view (take (i + 1) dims)) site
with_dims-more dims i x text site lt is said =
    ap (λ n. with_name n (with_dims (map dim_view (take i dims)) site)) said ∙ sym (with_dims-push (take i dims) x site)
    ∙ ap (λ xs. with_dims (map dim_view xs) site) (sym (one_more dims i x lt is))

pub dims_declared : (a b c : List Declaration) (dims : List Dim) (i : ℕ) (x : Dim) (text : Name) → i < length dims → x ≡ get_or dims i x → text ≡ x.name.items
    → Declares a b (dim_bindings (length a) (map dim_view (take i dims))) → Declares b c (bound text (Local (length b)) ∷ [])
    → Declares a c (dim_bindings (length a) (map dim_view (take (i + 1) dims)))
dims_declared a b c dims i x text lt is said d e =
    let now = numbered_last a b c (dim_bindings (length a) (map dim_view (take i dims))) (length (take i dims)) text d (dim_bindings-length (length a) (take i dims)) e in
    subst (Declares a c) (ap (λ n. dim_bindings (length a) (map dim_view (take i dims)) ++ bound n (Local (length a + length (take i dims))) ∷ []) said
    ∙ sym (dim_bindings-push (length a) (take i dims) x) ∙ ap (λ xs. dim_bindings (length a) (map dim_view xs)) (sym (one_more dims i x lt is))) now

-- ---- parameters

param_bindings-length : (k : ℕ) (params : List Param) → length (param_bindings k (map param_view params)) ≡ length params
param_bindings-length k [] = refl
param_bindings-length k (p ∷ params) = ap suc (param_bindings-length (suc k) params)

param_bindings-push : (k : ℕ) (params : List Param) (p : Param) → param_bindings k (map param_view (params ++ p ∷ [])) ≡ param_bindings k (map param_view params) ++ bound p.name.items (Local (k + length params)) ∷ []
param_bindings-push k [] p = ap (λ n. bound p.name.items (Local n) ∷ []) (omega arith)
param_bindings-push k (x ∷ params) p =
    ap (λ bs. bound x.name.items (Local k) ∷ bs) (param_bindings-push (suc k) params p
    ∙ ap (λ n. param_bindings (suc k) (map param_view params) ++ bound p.name.items (Local n) ∷ []) (omega arith))

with_params-push : (params : List Param) (p : Param) (site : Site) → with_params (map param_view (params ++ p ∷ [])) site ≡ with_name p.name.items (with_params (map param_view params) site)
with_params-push [] p site = refl
with_params-push (x ∷ params) d site = with_params-push params d (with_name x.name.items site)

pub with_params-more : (params : List Param) (i : ℕ) (x : Param) (text : Name) (site : Site) → i < length params → x ≡ get_or params i x → text ≡ x.name.items
    → with_name text (with_params (map param_view (take i params)) site) ≡ with_params (map param_view (take (i + 1) params)) site
with_params-more params i x text site lt is said =
    ap (λ n. with_name n (with_params (map param_view (take i params)) site)) said ∙ sym (with_params-push (take i params) x site)
    ∙ ap (λ xs. with_params (map param_view xs) site) (sym (one_more params i x lt is))

pub params_declared : (a b c : List Declaration) (params : List Param) (i : ℕ) (x : Param) (text : Name) → i < length params → x ≡ get_or params i x → text ≡ x.name.items
    → Declares a b (param_bindings (length a) (map param_view (take i params))) → Declares b c (bound text (Local (length b)) ∷ [])
    → Declares a c (param_bindings (length a) (map param_view (take (i + 1) params)))
params_declared a b c params i x text lt is said d e =
    let now = numbered_last a b c (param_bindings (length a) (map param_view (take i params))) (length (take i params)) text d (param_bindings-length (length a) (take i params)) e in
    subst (Declares a c) (ap (λ n. param_bindings (length a) (map param_view (take i params)) ++ bound n (Local (length a + length (take i params))) ∷ []) said
    ∙ sym (param_bindings-push (length a) (take i params) x) ∙ ap (λ xs. param_bindings (length a) (map param_view xs)) (sym (one_more params i x lt is))) now

-- ---- as many numbers as index variables

pub dims-length : (k : ℕ) (dims : List ParsedDim) → length (dim_bindings k dims) ≡ length dims
dims-length k [] = refl
dims-length k (d ∷ dims) = ap suc (dims-length (suc k) dims)
