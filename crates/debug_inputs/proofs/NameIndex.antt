-- The index of receivers by their names.
use Rattle.std.proofs.Common.{◌≡◌, ℕ, List, [], ◌∷◌, Bool, true, false, cond, refl, sym, ap, ◌∙◌, true≢false, Vec, Global, Option, Some, None, is_some}
use Rattle.std.specs.Prelude.{nat_eq, if◌then◌else◌, option_map}
use Rattle.std.specs.Map.{lookup}
use Rattle.std.specs.Option.{option_flatten, option_or}
use lib.Pointwise.{pointwise}
use Rattle.indexmap.specs.IndexMap.{insert_entry}
use Rattle.gang_model.specs.Source.Names.{same_text}
use Rattle.gang_model.proofs.SameTexts.{pointwise-same_text, same_text-sym, same_text-refl, same_text-equal}
use Rattle.debug_inputs.specs.declared.receivers.Receiver.{Receiver}
use Rattle.debug_inputs.specs.Remaining.{Entries, found_in, if_named, receiver_view}

abbrev pub same_key : Vec ℕ Global → Vec ℕ Global → Bool
same_key a b = pointwise nat_eq a.items b.items

found-insert : (es : Entries) (k : Vec ℕ Global) (v : Option Receiver) (q : List ℕ) → found_in (insert_entry same_key es k v) q ≡ (if same_text q k.items then v else found_in es q)
found-insert [] k v q = refl
found-insert (e ∷ es) k v q = by (same_key k e.0) refl (found-insert es k v q)
  where
    at : (t : Bool) → same_text q e.0.items ≡ t → same_text q k.items ≡ t → (if t then v else found_in es q) ≡ (if t then v else (if t then e.1 else found_in es q))
    at true h g = refl
    at false h g = refl

    past : (t u : Bool) → same_text q e.0.items ≡ t → same_text q k.items ≡ u → same_text k.items e.0.items ≡ false
        → (if t then e.1 else (if u then v else found_in es q)) ≡ (if u then v else (if t then e.1 else found_in es q))
    past true true h g ne =
        let here : e.0.items ≡ k.items = sym (same_text-equal q e.0.items h) ∙ same_text-equal q k.items g in
        absurd (true≢false (sym (same_text-refl k.items) ∙ (ap (same_text k.items) (sym here) ∙ ne)))
    past true false h g ne = refl
    past false true h g ne = refl
    past false false h g ne = refl

    by : (t : Bool) → same_key k e.0 ≡ t → found_in (insert_entry same_key es k v) q ≡ (if same_text q k.items then v else found_in es q)
        → found_in (if t then (e.0, v) ∷ es else e ∷ insert_entry same_key es k v) q ≡ (if same_text q k.items then v else found_in (e ∷ es) q)
    by true h later =
        let same : k.items ≡ e.0.items = same_text-equal k.items e.0.items (sym (pointwise-same_text k.items e.0.items) ∙ h) in
        let both : same_text q k.items ≡ same_text q e.0.items = ap (same_text q) same in
        let one : (if same_text q e.0.items then v else found_in es q) ≡ (if same_text q e.0.items then v else (if same_text q e.0.items then e.1 else found_in es q))
        = at (same_text q e.0.items) refl both in
        one ∙ ap (λ t. if t then v else (if same_text q e.0.items then e.1 else found_in es q)) (sym both)
    by false h later =
        ap (λ r. if same_text q e.0.items then e.1 else r) later
        ∙ past (same_text q e.0.items) (same_text q k.items) refl refl (sym (pointwise-same_text k.items e.0.items) ∙ h)

pub found-lookup : (es : Entries) (q : List ℕ) → option_flatten (lookup (λ k. pointwise nat_eq q k.items) es) ≡ found_in es q
found-lookup [] q = refl
found-lookup (e ∷ es) q = by (pointwise nat_eq q e.0.items) (same_text q e.0.items) (pointwise-same_text q e.0.items) (found-lookup es q)
  where
    by : (t u : Bool) → t ≡ u → option_flatten (lookup (λ k. pointwise nat_eq q k.items) es) ≡ found_in es q → option_flatten (cond t (Some e.1) (lookup (λ k. pointwise nat_eq q k.items) es)) ≡ (if u then e.1 else found_in es q)
    by true true h later = refl
    by true false h later = absurd (true≢false h)
    by false true h later = absurd (true≢false (sym h))
    by false false h later = later

-- a name is closed
pub closed : (es new : Entries) (k : Vec ℕ Global) (name other : List ℕ) → new ≡ insert_entry same_key es k None → k.items ≡ name
    → option_map receiver_view (found_in new other) ≡ (if same_text other name then None else option_map receiver_view (found_in es other))
closed es new k name other is same =
    ap (option_map receiver_view) (ap (λ xs. found_in xs other) is ∙ (found-insert es k None other ∙ ap (λ n. if same_text other n then None else found_in es other) same))
    ∙ by (same_text other name)
  where
    by : (t : Bool) → option_map receiver_view (if t then None else found_in es other) ≡ (if t then None else option_map receiver_view (found_in es other))
    by true = refl
    by false = refl

pub or_none : {A : Type 0} (x : Option A) → option_or x None ≡ x
or_none None = refl
or_none (Some a) = refl

-- a receiver with a new name is put in
pub added : (es new : Entries) (k : Vec ℕ Global) (r : Receiver) (q : List ℕ) → is_some (found_in es r.variable.now.name.items) ≡ false → new ≡ insert_entry same_key es k (Some r)
    → k.items ≡ r.variable.now.name.items → option_map receiver_view (found_in new q) ≡ option_or (option_map receiver_view (found_in es q)) (if_named (receiver_view r) q)
added es new k r q none is same =
    ap (option_map receiver_view) (ap (λ xs. found_in xs q) is ∙ (found-insert es k (Some r) q ∙ ap (λ n. if same_text q n then Some r else found_in es q) same))
    ∙ (by (same_text q r.variable.now.name.items) refl
    ∙ ap (λ t. option_or (option_map receiver_view (found_in es q)) (if t then Some (receiver_view r) else None)) (same_text-sym q r.variable.now.name.items))
  where
    none_there : (x : Option Receiver) → is_some x ≡ false → Some (receiver_view r) ≡ option_or (option_map receiver_view x) (Some (receiver_view r))
    none_there None h = refl
    none_there (Some x) h = absurd (true≢false h)

    by : (t : Bool) → same_text q r.variable.now.name.items ≡ t → option_map receiver_view (if t then Some r else found_in es q)
        ≡ option_or (option_map receiver_view (found_in es q)) (if t then Some (receiver_view r) else None)
    by true h = none_there (found_in es q) (ap (λ n. is_some (found_in es n)) (same_text-equal q r.variable.now.name.items h) ∙ none)
    by false h = sym (or_none (option_map receiver_view (found_in es q)))

-- a receiver whose name is there is left out
pub left_out : (es : Entries) (r : Receiver) (q : List ℕ) → is_some (found_in es r.variable.now.name.items) ≡ true
    → option_map receiver_view (found_in es q) ≡ option_or (option_map receiver_view (found_in es q)) (if_named (receiver_view r) q)
left_out es r q some = by (same_text r.variable.now.name.items q) refl
  where
    there : (x : Option Receiver) → is_some x ≡ true → option_map receiver_view x ≡ option_or (option_map receiver_view x) (Some (receiver_view r))
    there None h = absurd (true≢false (sym h))
    there (Some x) h = refl

    by : (t : Bool) → same_text r.variable.now.name.items q ≡ t
        → option_map receiver_view (found_in es q) ≡ option_or (option_map receiver_view (found_in es q)) (if t then Some (receiver_view r) else None)
    by true h = there (found_in es q) (ap (λ n. is_some (found_in es n)) (sym (same_text-equal r.variable.now.name.items q h)) ∙ some)
    by false h = sym (or_none (option_map receiver_view (found_in es q)))
