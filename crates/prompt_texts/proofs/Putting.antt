-- Texts on a page, one behind another.
use Rattle.std.proofs.Common.{◌≡◌, ℕ, zero, suc, ◌+◌, ◌<◌, Bool, true, false, inl, inr, List, [], ◌∷◌, ◌++◌, length, take, get_or, Option, refl, ap, ◌∙◌, append-nil, append_assoc, sym, arith}
use Rattle.std.specs.Prelude.{flat_map}
use Rattle.std.specs.List.{range_with_len}
use Rattle.std.proofs.lemmas.Bool.{cases_Bool, true≢false}
use Rattle.std.proofs.lemmas.List.{take_more}
use Rattle.std.proofs.KnownBytes.{Appends-nil, Appends-trans}
use Rattle.gang_types.specs.declared.masks.Mask.{Mask}
use Rattle.gang_types.specs.LaneLaws.{lowest-lt, lowest_has}
use Rattle.gang_types.specs.Lanes.{Lanes, has, lowest, no_lane}
use Rattle.gang_types.specs.Masks.{IsGangWidth, lanes_of}
use Rattle.gang_types.specs.MaskLaws.{gang_width-le, has-lanes_of_word}
use Rattle.prompt_texts.specs.Shown.{Puts}

-- two texts, one behind the other
pub puts_both : (a b : List ℕ) (f g h : Bool) (x y z : Option (List ℕ)) → Puts a f g x y → Puts b g h y z → Puts (a ++ b) f h x z
puts_both a b f g h x y z first second works = let (mid, more) = second works in let (fine, some) = first mid in (fine, Appends-trans x y z a b some more)

-- no text
pub puts_none : (f : Bool) (x : Option (List ℕ)) → Puts [] f f x x
puts_none f x works = (works, Appends-nil x)

module _ {X : Type 0} (f : X → List ℕ) where
  flat_append : (xs ys : List X) → flat_map f (xs ++ ys) ≡ flat_map f xs ++ flat_map f ys
  flat_append [] ys = refl
  flat_append (x ∷ xs) ys = ap (λ l. f x ++ l) (flat_append xs ys) ∙ sym (append_assoc (f x) (flat_map f xs) (flat_map f ys))

  -- the texts up to and with one
  pub flat_more : (xs : List X) (i : ℕ) (d : X) → i < length xs → flat_map f (take (i + 1) xs) ≡ flat_map f (take i xs) ++ f (get_or xs i d)
  flat_more xs i d inside =
      ap (flat_map f) (take_more xs i d inside) ∙ flat_append (take i xs) (get_or xs i d ∷ []) ∙ ap (λ l. flat_map f (take i xs) ++ l) (append-nil (f (get_or xs i d)))

-- ---- lanes

range_more : (a n : ℕ) → range_with_len a (suc n) ≡ range_with_len a n ++ (a + n) ∷ []
range_more a zero = let same : a ≡ a + 0 = omega arith in ap (λ x. x ∷ []) same
range_more a (suc n) =
    let same : a + 1 + n ≡ a + suc n = omega arith in
    ap (λ l. a ∷ l) (range_more (a + 1) n ∙ ap (λ x. range_with_len (a + 1) n ++ x ∷ []) same)

-- the texts of the lanes up to and with one
pub lanes_more : (f : ℕ → List ℕ) (n : ℕ) → flat_map f (range_with_len 0 (n + 1)) ≡ flat_map f (range_with_len 0 n) ++ f n
lanes_more f n =
    let on : n + 1 ≡ suc n = omega arith in
    let last : 0 + n ≡ n = omega arith in
    ap (λ k. flat_map f (range_with_len 0 k)) on ∙ ap (flat_map f) (range_more 0 n ∙ ap (λ k. range_with_len 0 n ++ k ∷ []) last)
    ∙ flat_append f (range_with_len 0 n) (n ∷ []) ∙ ap (λ l. flat_map f (range_with_len 0 n) ++ l) (append-nil (f n))

-- the texts of the numbers from one on, with one more
pub numbers_more : (f : ℕ → List ℕ) (a n : ℕ) → flat_map f (range_with_len a (suc n)) ≡ flat_map f (range_with_len a n) ++ f (a + n)
numbers_more f a n =
    ap (flat_map f) (range_more a n) ∙ flat_append f (range_with_len a n) ((a + n) ∷ []) ∙ ap (λ l. flat_map f (range_with_len a n) ++ l) (append-nil (f (a + n)))

-- no lane is in a set that has none of its lanes
pub all_wait : (lanes : Lanes) → ((k : ℕ) → k < length lanes → has lanes k ≡ false) → no_lane lanes ≡ true
all_wait lanes none = elim (cases_Bool (no_lane lanes)) [
  | inl so ↦ so
  | inr some ↦ absurd (true≢false (sym (lowest_has lanes some) ∙ none (lowest lanes) (lowest-lt lanes some)))
]

-- a lane is in the set of a gang where it is in that of the widest gang
pub in_widest : (w : ℕ) (mask : Mask) (k : ℕ) → IsGangWidth w → k < w → has (lanes_of 16 mask) k ≡ has (lanes_of w mask) k
in_widest w mask k gang h =
    let wide = gang_width-le w gang in
    has-lanes_of_word 16 mask.word k (omega arith) ∙ sym (has-lanes_of_word w mask.word k h)
