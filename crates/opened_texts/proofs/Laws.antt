-- Behind a call of `note` its text stands at its place, and each text that had a place at this.
use Rattle.std.proofs.Common.{◌≡◌, refl, ap, sym, ◌∙◌, ℕ, zero, suc, ◌==◌, true, inl, inr, List, [], ◌∷◌, ◌++◌, bytes_eq, length, get_or, Option, Some, None}
use Rattle.std.specs.List.{position, slice_get}
use Rattle.std.proofs.lemmas.Bool.{and_parts, cases_Bool, eqb-true}
use Rattle.std.proofs.lemmas.List.Quantifiers.{position-Some}
use Rattle.std.proofs.lemmas.Option.{slice_get-get_or}
use Rattle.std.proofs.lemmas.Slice.Eq.{bytes_eq-Decides}
use Rattle.opened_texts.specs.Texts.{has_room, is_text, noted, noted_by, place_behind, place_by, place_noted, put_behind}

at_end : {A : Type 0} (xs : List A) (x : A) → slice_get (xs ++ x ∷ []) (length xs) ≡ Some x
at_end [] x = refl
at_end (y ∷ xs) x = at_end xs x

in_front : {A : Type 0} (xs ys : List A) (place : ℕ) (x : A) → slice_get xs place ≡ Some x → slice_get (xs ++ ys) place ≡ Some x
in_front [] ys place x is = absurd (cc)
in_front (y ∷ xs) ys zero x is = is
in_front (y ∷ xs) ys (suc place) x is = in_front xs ys place x is

is_that : (depth : ℕ) (text : List ℕ) (one : ℕ × List ℕ) → is_text depth text one ≡ true → one ≡ (depth, text)
is_that depth text one is =
    let parts = and_parts (one.0 == depth) (bytes_eq one.1 text) is in
    let deep = eqb-true one.0 depth parts.0 in
    let same = (bytes_eq-Decides one.1 text).0 parts.1 in
    ap (λ d. (d, one.1)) deep ∙ ap (λ t. (depth, t)) same

module _ (depth : ℕ) (text : List ℕ) (texts : List (ℕ × List ℕ)) where
  behind : (place : ℕ) → place_behind text texts ≡ Some place → slice_get (put_behind depth text texts) place ≡ Some (depth, text)
  behind place is = elim (cases_Bool (has_room text texts)) [
    | inl room ↦
        let here : length texts ≡ place = cc in
        rw room (ap (slice_get (texts ++ (depth, text) ∷ [])) (sym here) ∙ at_end texts (depth, text))
    | inr full ↦ absurd (cc)
  ]

  by : (has : Option ℕ) (place : ℕ) → position (is_text depth text) texts ≡ has → place_by has text texts ≡ Some place → slice_get (noted_by has depth text texts) place ≡ Some (depth, text)
  by (Some index) place there is =
      let found = position-Some (is_text depth text) texts index (depth, text) there in
      let here : index ≡ place = cc in
      ap (slice_get texts) (sym here) ∙ slice_get-get_or texts index (depth, text) found.0 ∙ ap Some (is_that depth text (get_or texts index (depth, text)) found.1)
  by None place there is = behind place is

  -- what is noted stands at its place
  pub stands : (place : ℕ) → place_noted depth text texts ≡ Some place → slice_get (noted depth text texts) place ≡ Some (depth, text)
  stands place is = by (position (is_text depth text) texts) place refl is

  stays_before : (place : ℕ) (one : ℕ × List ℕ) → slice_get texts place ≡ Some one → slice_get (put_behind depth text texts) place ≡ Some one
  stays_before place one is = elim (cases_Bool (has_room text texts)) [
    | inl room ↦ rw room (in_front texts ((depth, text) ∷ []) place one is)
    | inr full ↦ rw full is
  ]

  stays_by : (has : Option ℕ) (place : ℕ) (one : ℕ × List ℕ) → slice_get texts place ≡ Some one → slice_get (noted_by has depth text texts) place ≡ Some one
  stays_by (Some index) place one is = is
  stays_by None place one is = stays_before place one is

  -- what has a place keeps it
  pub stays : (place : ℕ) (one : ℕ × List ℕ) → slice_get texts place ≡ Some one → slice_get (noted depth text texts) place ≡ Some one
  stays place one is = stays_by (position (is_text depth text) texts) place one is
