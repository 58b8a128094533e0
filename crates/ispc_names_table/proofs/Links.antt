-- What is in scope from a variable on, by the numbers of the variables.
use Rattle.std.proofs.Common.{inl, inr, ℕ, zero, suc, ◌<◌, ◌≤◌, ◌≢◌, ◌≡◌, true, false, cond, eqb, List, [], ◌∷◌, ◌++◌, Some, None, refl, sym, ap, ◌∙◌, arith, length, get_or, take, length-append}
use Rattle.std.proofs.Math.Seq.{take-suc}
use Rattle.std.specs.Prelude.{if◌then◌else◌}
use Rattle.std.proofs.lemmas.Bool.{eq-eqb, cases_lt}
use Rattle.std.proofs.lemmas.List.{length-take-le}
use Rattle.std.proofs.lemmas.Bool.Decides.{nat_tests}
use Rattle.gang_types.specs.declared.places.VarId.TheVariants.{Local}
use Rattle.gang_model.specs.Source.Names.{same_text}
use Rattle.gang_model.specs.Names.Scope.{bound, declaration}
use Rattle.ispc_names_table.specs.declared.table.Declaration.{Declaration}
use Rattle.ispc_names_table.specs.Scopes.{newest_first, linked}

pub newest_first-push : (ds : List Declaration) (d : Declaration) → newest_first (ds ++ d ∷ []) ≡ d ∷ newest_first ds
newest_first-push [] d = refl
newest_first-push (x ∷ ds) d = ap (λ xs. xs ++ x ∷ []) (newest_first-push ds d)

pub length-newest_first : (ds : List Declaration) → length (newest_first ds) ≡ length ds
length-newest_first [] = refl
length-newest_first (d ∷ ds) = omega (arith, length-append (newest_first ds) (d ∷ []), length-newest_first ds)

-- nothing is in scope outside every variable
pub linked-none : (ds : List Declaration) → linked ds None ≡ []
linked-none [] = refl
linked-none (d ∷ ds) = refl

-- a link to no variable below leads nowhere
pub linked-past : (ds : List Declaration) (k : ℕ) → length ds ≤ k → linked ds (Some k) ≡ []
linked-past [] k h = refl
linked-past (d ∷ ds) k h =
    let ne : eqb k (length ds) ≡ false = grind (arith, nat_tests) in
    ap (λ t. cond t (bound d.name.items (Local k) ∷ linked ds d.outside) (linked ds (Some k))) ne ∙ linked-past ds k (omega arith)

-- the variables below a number, the newest first
abbrev pub below : List Declaration → ℕ → List Declaration
below ds n = newest_first (take n ds)

pub below-suc : (ds : List Declaration) (n : ℕ) (d : Declaration) → n < length ds → below ds (suc n) ≡ get_or ds n d ∷ below ds n
below-suc ds n d h = ap newest_first (take-suc ds n d h) ∙ newest_first-push (take n ds) (get_or ds n d)

pub length-below : (ds : List Declaration) (n : ℕ) → n ≤ length ds → length (below ds n) ≡ n
length-below ds n h = length-newest_first (take n ds) ∙ length-take-le n ds h

-- the last variable is the one that a link names
pub linked-here : (d : Declaration) (older : List Declaration) (k : ℕ) → k ≡ length older → linked (d ∷ older) (Some k) ≡ bound d.name.items (Local k) ∷ linked older d.outside
linked-here d older k e = ap (λ t. cond t (bound d.name.items (Local k) ∷ linked older d.outside) (linked older (Some k))) (eq-eqb k (length older) e)

-- the last variable is not the one that a link names
pub linked-beside : (d : Declaration) (older : List Declaration) (k : ℕ) → k ≢ length older → linked (d ∷ older) (Some k) ≡ linked older (Some k)
linked-beside d older k ne =
    let e : eqb k (length older) ≡ false = grind (arith, nat_tests) in
    ap (λ t. cond t (bound d.name.items (Local k) ∷ linked older d.outside) (linked older (Some k))) e

-- the variable that a link names, and those outside it
pub linked-at : (ds : List Declaration) (n k : ℕ) (d : Declaration) → n ≤ length ds → k < n
    → linked (below ds n) (Some k) ≡ bound (get_or ds k d).name.items (Local k) ∷ linked (below ds k) (get_or ds k d).outside
linked-at ds zero k d h lt = absurd (omega arith)
linked-at ds (suc n) k d h lt = ap (λ xs. linked xs (Some k)) (below-suc ds n d h) ∙ elim (cases_lt k n) [
  | inl below_n ↦ linked-beside (get_or ds n d) (below ds n) k (omega (arith, length-below ds n (omega arith))) ∙ linked-at ds n k d (omega arith) below_n
  | inr over ↦
      let e : k ≡ n = omega arith in
      linked-here (get_or ds n d) (below ds n) k (omega (arith, length-below ds n (omega arith)))
      ∙ ap (λ j. bound (get_or ds j d).name.items (Local k) ∷ linked (below ds j) (get_or ds j d).outside) (sym e)
]

-- a link to no variable below finds no name
pub found-past : (ds : List Declaration) (n k : ℕ) (name : List ℕ) → n ≤ length ds → n ≤ k → declaration (linked (below ds n) (Some k)) name ≡ None
found-past ds n k name h le = ap (λ xs. declaration xs name) (linked-past (below ds n) k (omega (arith, length-below ds n h)))

-- the variable of a link is the one that is sought
pub found-here : (ds : List Declaration) (n k : ℕ) (d : Declaration) (name : List ℕ) → n ≤ length ds → k < n → d ≡ get_or ds k d → same_text d.name.items name ≡ true
    → declaration (linked (below ds n) (Some k)) name ≡ Some (Local k)
found-here ds n k d name h lt is e =
    ap (λ xs. declaration xs name) (linked-at ds n k d h lt)
    ∙ ap (λ t. if t then Some (Local k) else declaration (linked (below ds k) (get_or ds k d).outside) name) (ap (λ x. same_text x.name.items name) (sym is) ∙ e)

-- the variable of a link is not the one that is sought
pub found-outside : (ds : List Declaration) (n k : ℕ) (d : Declaration) (name : List ℕ) → n ≤ length ds → k < n → d ≡ get_or ds k d → same_text d.name.items name ≡ false
    → declaration (linked (below ds n) (Some k)) name ≡ declaration (linked (below ds k) d.outside) name
found-outside ds n k d name h lt is e =
    ap (λ xs. declaration xs name) (linked-at ds n k d h lt)
    ∙ ap (λ t. if t then Some (Local k) else declaration (linked (below ds k) (get_or ds k d).outside) name) (ap (λ x. same_text x.name.items name) (sym is) ∙ e)
    ∙ ap (λ x. declaration (linked (below ds k) x.outside) name) (sym is)
