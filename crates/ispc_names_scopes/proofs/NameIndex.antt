-- The index of names has the names that are kept.
use Rattle.std.proofs.Common.{◌≡◌, ℕ, List, [], ◌∷◌, ◌++◌, Bool, true, false, ◌||◌, refl, sym, ap, ◌∙◌, Vec, Global}
use Rattle.std.specs.Prelude.{nat_eq, if◌then◌else◌}
use Rattle.std.specs.List.{list_any}
use Rattle.std.proofs.Math.Bool.{or_comm, or_assoc}
use lib.Pointwise.{pointwise}
use Rattle.gang_model.specs.Source.Names.{same_text}
use Rattle.gang_model.specs.Source.Parsed.{Name}
use Rattle.gang_model.specs.Types.LibraryTable.{is_among}
use Rattle.indexmap.specs.IndexSet.{insert_key}
use Rattle.ispc_names_scopes.specs.FunctionNames.{names_of, IsNameIndex}
use Rattle.gang_model.proofs.SameTexts.{pointwise-same_text, same_text-equal}
use Rattle.ispc_names_scopes.proofs.Indexed.{same_key}

pub among-keys : (q : Name) (ks : List (Vec ℕ Global)) → list_any (λ k. pointwise nat_eq q k.items) ks ≡ is_among q (names_of ks)
among-keys q [] = refl
among-keys q (k ∷ ks) = ap (λ b. b || list_any (λ x. pointwise nat_eq q x.items) ks) (pointwise-same_text q k.items) ∙ ap (λ b. same_text q k.items || b) (among-keys q ks)

among-push : (q : Name) (xs : List (Vec ℕ Global)) (x : Vec ℕ Global) → is_among q (names_of (xs ++ x ∷ [])) ≡ (is_among q (names_of xs) || same_text q x.items)
among-push q [] x = or_comm (same_text q x.items) false
among-push q (y ∷ xs) x = ap (λ b. same_text q y.items || b) (among-push q xs x) ∙ sym (or_assoc (same_text q y.items) (is_among q (names_of xs)) (same_text q x.items))

among-insert : (q : Name) (ks : List (Vec ℕ Global)) (k : Vec ℕ Global) → is_among q (names_of (insert_key same_key ks k)) ≡ (is_among q (names_of ks) || same_text q k.items)
among-insert q ks k = by (list_any (same_key k) ks) refl
  where
    there : list_any (same_key k) ks ≡ true → (t : Bool) → same_text q k.items ≡ t → is_among q (names_of ks) ≡ (is_among q (names_of ks) || t)
    there h true e =
        let found : is_among q (names_of ks) ≡ true = ap (λ n. is_among n (names_of ks)) (same_text-equal q k.items e) ∙ (sym (among-keys k.items ks) ∙ h) in
        found ∙ ap (λ b. b || true) (sym found)
    there h false e = or_comm false (is_among q (names_of ks))

    by : (t : Bool) → list_any (same_key k) ks ≡ t → is_among q (names_of (if t then ks else ks ++ k ∷ [])) ≡ (is_among q (names_of ks) || same_text q k.items)
    by true h = there h (same_text q k.items) refl
    by false h = among-push q ks k

pub after_add : (kept new keys new_keys : List (Vec ℕ Global)) (name key : Vec ℕ Global) → new ≡ kept ++ name ∷ [] → key.items ≡ name.items
    → new_keys ≡ insert_key same_key keys key → IsNameIndex kept keys → IsNameIndex new new_keys
after_add kept new keys new_keys name key grown same inserted h q =
    ap (λ ks. is_among q (names_of ks)) inserted
    ∙ (among-insert q keys key
    ∙ (ap (λ b. b || same_text q key.items) (h q)
    ∙ (ap (λ n. is_among q (names_of kept) || same_text q n) same
    ∙ (sym (among-push q kept name) ∙ ap (λ ns. is_among q (names_of ns)) (sym grown)))))

pub names_of-push : (kept new : List (Vec ℕ Global)) (name : Vec ℕ Global) (text : Name) (names : List Name) → new ≡ kept ++ name ∷ [] → name.items ≡ text → names_of kept ≡ names
    → names_of new ≡ names ++ text ∷ []
names_of-push kept new name text names grown same e =
    ap names_of grown ∙ (push kept ∙ (ap (λ t. names_of kept ++ t ∷ []) same ∙ ap (λ ns. ns ++ text ∷ []) e))
  where
    push : (xs : List (Vec ℕ Global)) → names_of (xs ++ name ∷ []) ≡ names_of xs ++ name.items ∷ []
    push [] = refl
    push (x ∷ xs) = ap (λ ns. x.items ∷ ns) (push xs)
