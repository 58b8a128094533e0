-- The index by name has the innermost declaration of each name.
use Rattle.std.proofs.Common.{◌≡◌, ℕ, ◌+◌, List, [], ◌∷◌, ◌++◌, Bool, true, false, length, cond, refl, sym, ap, subst, ◌∙◌, arith, true≢false, Vec, Global, Option, Some, None, is_some}
use Rattle.std.specs.Prelude.{nat_eq, if◌then◌else◌}
use lib.Pointwise.{pointwise}
use Rattle.gang_model.specs.Source.Names.{same_text}
use Rattle.gang_model.specs.Source.Parsed.{Name}
use Rattle.gang_model.specs.Names.Scope.{Environment, bound}
use Rattle.std.specs.Prelude.{Result, Ok, Err, OnOk, OnErr, is_err, drop}
use Rattle.std.specs.Map.{lookup}
use Rattle.std.specs.Option.{option_flatten}
use Rattle.indexmap.specs.IndexMap.{insert_entry}
use Rattle.ispc_names_scopes.specs.declared.bindings.Innermost.{Innermost}
use Rattle.ispc_names_scopes.specs.declared.bindings.Declaration.{Declaration}
use Rattle.ispc_names_scopes.specs.Innermost.{innermost_of}
use Rattle.ispc_names_scopes.specs.Bindings.{binding, within, environment_of, AllHide, Entries, found_in, IsIndexed}
use Rattle.gang_model.proofs.SameTexts.{pointwise-same_text, same_text-sym, same_text-refl, same_text-equal}

pub within-push : (ds : List Declaration) (d : Declaration) (env : Environment) → within (ds ++ d ∷ []) env ≡ binding d ∷ within ds env
within-push [] d env = refl
within-push (x ∷ ds) d env = within-push ds d (binding x ∷ env)

pub length-within : (ds : List Declaration) (env : Environment) → length (within ds env) ≡ length ds + length env
length-within [] env = omega arith
length-within (x ∷ ds) env = omega (arith, length-within ds (binding x ∷ env))

pub length-environment_of : (ds : List Declaration) → length (environment_of ds) ≡ length ds
length-environment_of ds = omega (arith, length-within ds [])

all_push : (ds : List Declaration) (d : Declaration) (env : Environment) → AllHide ds env → d.hides ≡ innermost_of (within ds env) d.name.items
    → AllHide (ds ++ d ∷ []) env
all_push [] d env all h = (h, tt)
all_push (x ∷ ds) d env all h = (all.0, all_push ds d (binding x ∷ env) all.1 h)

all_before : (ds : List Declaration) (d : Declaration) (env : Environment) → AllHide (ds ++ d ∷ []) env → AllHide ds env
all_before [] d env all = tt
all_before (x ∷ ds) d env all = (all.0, all_before ds d (binding x ∷ env) all.1)

last_hides : (ds : List Declaration) (d : Declaration) (env : Environment) → AllHide (ds ++ d ∷ []) env → d.hides ≡ innermost_of (within ds env) d.name.items
last_hides [] d env all = all.0
last_hides (x ∷ ds) d env all = last_hides ds d (binding x ∷ env) all.1

-- ---- entries

abbrev pub same_key : Vec ℕ Global → Vec ℕ Global → Bool
same_key a b = pointwise nat_eq a.items b.items

pub found-insert : (es : Entries) (k : Vec ℕ Global) (v : Option Innermost) (q : Name)
    → found_in (insert_entry same_key es k v) q ≡ (if same_text q k.items then v else found_in es q)
found-insert [] k v q = refl
found-insert (e ∷ es) k v q = by (same_key k e.0) refl (found-insert es k v q)
  where
    at : (t : Bool) → same_text q e.0.items ≡ t → same_text q k.items ≡ t
        → (if t then v else found_in es q) ≡ (if t then v else (if t then e.1 else found_in es q))
    at true h g = refl
    at false h g = refl

    past : (t u : Bool) → same_text q e.0.items ≡ t → same_text q k.items ≡ u → same_text k.items e.0.items ≡ false
        → (if t then e.1 else (if u then v else found_in es q)) ≡ (if u then v else (if t then e.1 else found_in es q))
    past true true h g ne =
        let here : e.0.items ≡ k.items = sym (same_text-equal q e.0.items h) ∙ same_text-equal q k.items g in
        absurd (true≢false (sym (same_text-refl k.items) ∙ (ap (same_text k.items) (sym here) ∙ ne)))
    past true false h g ne = refl
    past false true h g ne = refl
    past false false h g ne = refl

    by : (t : Bool) → same_key k e.0 ≡ t → found_in (insert_entry same_key es k v) q ≡ (if same_text q k.items then v else found_in es q)
        → found_in (if t then (e.0, v) ∷ es else e ∷ insert_entry same_key es k v) q ≡ (if same_text q k.items then v else found_in (e ∷ es) q)
    by true h later =
        let same : k.items ≡ e.0.items = same_text-equal k.items e.0.items (sym (pointwise-same_text k.items e.0.items) ∙ h) in
        let both : same_text q k.items ≡ same_text q e.0.items = ap (same_text q) same in
        let one : (if same_text q e.0.items then v else found_in es q) ≡ (if same_text q e.0.items then v else (if same_text q e.0.items then e.1 else found_in es q))
        = at (same_text q e.0.items) refl both in
        one ∙ ap (λ t. if t then v else (if same_text q e.0.items then e.1 else found_in es q)) (sym both)
    by false h later =
        ap (λ r. if same_text q e.0.items then e.1 else r) later
        ∙ past (same_text q e.0.items) (same_text q k.items) refl refl (sym (pointwise-same_text k.items e.0.items) ∙ h)

-- ---- one more and one less

abbrev innermost : Declaration → ℕ → Innermost
innermost d n = record { id = d.id; outside = n }

pub indexed-push : (ds : List Declaration) (d : Declaration) (es : Entries) (k : Vec ℕ Global) → k.items ≡ d.name.items
    → d.hides ≡ found_in es d.name.items → IsIndexed ds es → IsIndexed (ds ++ d ∷ []) (insert_entry same_key es k (Some (innermost d (length ds))))
indexed-push ds d es k same hides h = (all_push ds d [] h.0 (hides ∙ h.1 d.name.items), found)
  where
    found : (q : Name) → found_in (insert_entry same_key es k (Some (innermost d (length ds)))) q ≡ innermost_of (environment_of (ds ++ d ∷ [])) q
    found q =
        found-insert es k (Some (innermost d (length ds))) q
        ∙ (ap (λ t. if t then Some (innermost d (length ds)) else found_in es q) (ap (same_text q) same ∙ same_text-sym q d.name.items)
        ∙ (ap (λ r. if same_text d.name.items q then Some (innermost d (length ds)) else r) (h.1 q)
        ∙ (ap (λ n. if same_text d.name.items q then Some (innermost d n) else innermost_of (environment_of ds) q) (sym (length-environment_of ds))
        ∙ ap (λ env. innermost_of env q) (sym (within-push ds d [])))))

pub indexed-pop : (ds : List Declaration) (d : Declaration) (es : Entries) → IsIndexed (ds ++ d ∷ []) es → IsIndexed ds (insert_entry same_key es d.name d.hides)
indexed-pop ds d es h = (all_before ds d [] h.0, λ q. found-insert es d.name d.hides q ∙ by q (same_text q d.name.items) refl)
  where
    by : (q : Name) (t : Bool) → same_text q d.name.items ≡ t → (if t then d.hides else found_in es q) ≡ innermost_of (environment_of ds) q
    by q true e = last_hides ds d [] h.0 ∙ ap (innermost_of (environment_of ds)) (sym (same_text-equal q d.name.items e))
    by q false e =
        h.1 q ∙ (ap (λ env. innermost_of env q) (within-push ds d [])
        ∙ ap (λ t. if t then Some (innermost d (length (environment_of ds))) else innermost_of (environment_of ds) q) (same_text-sym d.name.items q ∙ e))

-- the index has the name of each declaration
pub is_found : (ds : List Declaration) (d : Declaration) (es : Entries) → IsIndexed (ds ++ d ∷ []) es → is_some (found_in es d.name.items) ≡ true
is_found ds d es h =
    ap is_some (h.1 d.name.items) ∙ (ap (λ env. is_some (innermost_of env d.name.items)) (within-push ds d [])
    ∙ ap (λ t. is_some (if t then Some (innermost d (length (environment_of ds))) else innermost_of (environment_of ds) d.name.items)) (same_text-refl d.name.items))

-- ---- as the calls leave them

pub found-lookup : (es : Entries) (q : Name) → option_flatten (lookup (λ k. pointwise nat_eq q k.items) es) ≡ found_in es q
found-lookup [] q = refl
found-lookup (e ∷ es) q = by (pointwise nat_eq q e.0.items) (same_text q e.0.items) (pointwise-same_text q e.0.items) (found-lookup es q)
  where
    by : (t u : Bool) → t ≡ u → option_flatten (lookup (λ k. pointwise nat_eq q k.items) es) ≡ found_in es q → option_flatten (cond t (Some e.1) (lookup (λ k. pointwise nat_eq q k.items) es)) ≡ (if u then e.1 else found_in es q)
    by true true h later = refl
    by true false h later = absurd (true≢false h)
    by false true h later = absurd (true≢false (sym h))
    by false false h later = later

pub only_ok : {A B : Type 0} (r : Result A B) (P N : Type 0) → OnOk r P → OnErr r N → (N → ⊥) → P
only_ok (Ok a) P N p n absent = p
only_ok (Err b) P N p n absent = absurd (absent n)

pub not_err : {A B : Type 0} (r : Result A B) (P : Type 0) → is_err r ≡ false → OnOk r P → P
not_err (Ok a) P h p = p
not_err (Err b) P h p = absurd (true≢false h)

pub after_push : (ds new : List Declaration) (d : Declaration) (es entries : Entries) (k : Vec ℕ Global) (n : ℕ) → new ≡ ds ++ d ∷ [] → k.items ≡ d.name.items
    → d.hides ≡ found_in es d.name.items → n ≡ length ds → entries ≡ insert_entry same_key es k (Some (innermost d n))
    → IsIndexed ds es → IsIndexed new entries
after_push ds new d es entries k n grown same hides count inserted h =
    subst (λ xs. IsIndexed xs entries) (sym grown)
    (subst (IsIndexed (ds ++ d ∷ [])) (sym (inserted ∙ ap (λ m. insert_entry same_key es k (Some (innermost d m))) count))
    (indexed-push ds d es k same hides h))

pub after_pop : {A B : Type 0} (old ds : List Declaration) (d : Declaration) (es entries : Entries) (r : Result A B) → old ≡ ds ++ d ∷ [] → IsIndexed old es
    → OnOk r (entries ≡ insert_entry same_key es d.name d.hides) → OnErr r (lookup (same_key d.name) es ≡ None) → IsIndexed ds entries
after_pop old ds d es entries r was h inserted absent =
    let before : IsIndexed (ds ++ d ∷ []) es = subst (λ xs. IsIndexed xs es) was h in
    let new : entries ≡ insert_entry same_key es d.name d.hides =
    only_ok r (entries ≡ insert_entry same_key es d.name d.hides) (lookup (same_key d.name) es ≡ None) inserted absent
    (λ none. true≢false (sym (is_found ds d es before) ∙ ap is_some (sym (found-lookup es d.name.items) ∙ ap option_flatten none))) in
    subst (IsIndexed ds) (sym new) (indexed-pop ds d es before)

pub environment-pop : (old ds : List Declaration) (d : Declaration) (env : Environment) → old ≡ ds ++ d ∷ [] → environment_of old ≡ env → environment_of ds ≡ drop 1 env
environment-pop old ds d env was e = ap (drop 1) (sym (within-push ds d []) ∙ (ap environment_of (sym was) ∙ e))

pub environment-push : (ds new : List Declaration) (d : Declaration) (env : Environment) (name : Name) → new ≡ ds ++ d ∷ [] → d.name.items ≡ name → environment_of ds ≡ env
    → environment_of new ≡ bound name d.id ∷ env
environment-push ds new d env name grown same e =
    ap environment_of grown ∙ (within-push ds d [] ∙ (ap (λ n. bound n d.id ∷ environment_of ds) same ∙ ap (λ xs. bound name d.id ∷ xs) e))
