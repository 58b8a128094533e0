-- The parameters of a frame that begins, one after the other.
use Rattle.std.proofs.Common.{◌≡◌, refl, sym, ap, ◌∙◌, ℕ, ◌+◌, ◌*◌, ◌<◌, ◌≤◌, false, List, length, get_or, Some, arith, inl, inr, zero-add}
use Rattle.std.specs.Prelude.{◌==◌, nat_lt, slice_get}
use Rattle.std.specs.List.{enumerate_from, zip}
use Rattle.std.proofs.Math.Nat.{mul-le-mul_left}
use Rattle.std.proofs.lemmas.Bool.{and_cases, and_left, and_right, both_ways, cases_eq, eq-eqb, le-ltb, ltb-false, ne_eqb}
use Rattle.std.proofs.lemmas.List.FromFn.{get_or-enumerate_from, length-enumerate_from}
use Rattle.std.proofs.lemmas.Option.{same_Some, slice_get_read}
use Rattle.std.proofs.lemmas.Slice.Zip.{get_or-zip, length-zip}
use Rattle.gang_types.specs.Lanes.{Lanes}
use Rattle.undo_log.specs.History.{History}
use Rattle.machine_states.specs.Regions.{OfEntry, OfFile, Depth, OfHead, OfLocal, Region, same_region}
use Rattle.codegen.specs.declared.code.ArgCode.{ArgCode}
use Rattle.machine_words.specs.declared.words.MachineWords.{MachineWords}
use Rattle.machine_words.specs.Words.{AreLaid, Writes, left_of, regions_in}
use Rattle.machine_steps.specs.Calls.{AreParametersDeclared, is_parameter, parameter_region}
use Rattle.machine_steps.proofs.WrittenRegions.{written_away, written_here}

-- ---- regions

-- the next parameter is none of those before it
pub not_before : (frame count : ℕ) → is_parameter frame count (OfLocal frame count) ≡ false
not_before frame count = and_right (frame == frame) (nat_lt count count) (le-ltb count count (omega arith))

-- a region that is no parameter up to the next one is none before it, and is not that one
pub none_before : (frame count : ℕ) (r : Region) → is_parameter frame (count + 1) r ≡ false → is_parameter frame count r ≡ false
none_before frame count (OfFile k) h = refl
none_before frame count (OfEntry k) h = refl
none_before frame count Depth h = refl
none_before frame count (OfHead i part) h = refl
none_before frame count (OfLocal i k) h = elim (and_cases (i == frame) (nat_lt k (count + 1)) h) [
  | inl other ↦ and_left (i == frame) (nat_lt k count) other
  | inr above ↦ let past = ltb-false k (count + 1) above in and_right (i == frame) (nat_lt k count) (le-ltb k count (omega (arith, past)))
]

pub not_next : (frame count : ℕ) (r : Region) → is_parameter frame (count + 1) r ≡ false → same_region (OfLocal frame count) r ≡ false
not_next frame count (OfFile k) h = refl
not_next frame count (OfEntry k) h = refl
not_next frame count Depth h = refl
not_next frame count (OfHead i part) h = refl
not_next frame count (OfLocal i k) h = elim (and_cases (i == frame) (nat_lt k (count + 1)) h) [
  | inl other ↦ and_left (frame == i) (count == k) (ne_eqb frame i (λ e. both_ways (i == frame) other (eq-eqb i frame (sym e))))
  | inr above ↦ let past = ltb-false k (count + 1) above in and_right (frame == i) (count == k) (ne_eqb count k (λ e. omega (arith, past, e)))
]

-- ---- the loop

module _ {T : Type 0} (history : T → History) (left : T → ℕ) (width frame : ℕ) (args : List ArgCode) (given : List (List ℕ)) (lanes : Lanes) (old : MachineWords T) where
  pub none_declared : AreLaid history width old → AreParametersDeclared history left width frame 0 args given lanes old old
  none_declared laid = record {
    own = λ k made words below e f. absurd (omega (arith, below));
    others = λ r h. refl;
    layout = refl;
    laid = laid;
    rest = refl;
    few = omega arith;
  }

  -- the next parameter's region and what may still be set
  module _ (count : ℕ) (mid : MachineWords T) (so_far : AreParametersDeclared history left width frame count args given lanes old mid) where
    pub next_region : regions_in history width mid (OfLocal frame count) ≡ regions_in history width old (OfLocal frame count)
    next_region = so_far.others (OfLocal frame count) (not_before frame count)

    pub next_left : count < length args → length args * width ≤ left_of history left old → width ≤ left_of history left mid
    next_left within room =
        let more = mul-le-mul_left {m = count + 1} {n = length args} width (omega (arith, within)) in
        omega (arith, more, room, so_far.few)

    pub one_declared : (made : ArgCode) (words : List ℕ) (new : MachineWords T) → slice_get args count ≡ Some made → slice_get given count ≡ Some words
        → Writes history left width (OfLocal frame count) (parameter_region made lanes words (regions_in history width mid (OfLocal frame count))) width mid new
        → AreParametersDeclared history left width frame (count + 1) args given lanes old new
    one_declared made words new is_made is_given w = record {
      own = λ k other_made others below e f. elim (cases_eq k count) [
        | inl same ↦
            let this : made ≡ other_made = same_Some made other_made (sym is_made ∙ sym (ap (slice_get args) same) ∙ e) in
            let these : words ≡ others = same_Some words others (sym is_given ∙ sym (ap (slice_get given) same) ∙ f) in
            ap (λ j. regions_in history width new (OfLocal frame j)) same ∙ written_here w
            ∙ ap (λ (b : ArgCode). parameter_region b lanes words (regions_in history width mid (OfLocal frame count))) this
            ∙ ap (λ us. parameter_region other_made lanes us (regions_in history width mid (OfLocal frame count))) these
            ∙ ap (parameter_region other_made lanes others) (next_region ∙ sym (ap (λ j. regions_in history width old (OfLocal frame j)) same))
        | inr other ↦
            let before : k < count = omega (arith, below, other) in
            written_away w (OfLocal frame k) (and_right (frame == frame) (count == k) (ne_eqb count k (λ q. other (sym q)))) ∙ so_far.own k other_made others before e f
      ];
      others = λ r h. written_away w r (not_next frame count r h) ∙ so_far.others r (none_before frame count r h);
      layout = w.layout ∙ so_far.layout;
      laid = w.laid;
      rest = w.rest ∙ so_far.rest;
      few = omega (arith, w.few, so_far.few);
    }

-- ---- the pairs of arguments and their values

module _ {A B : Type 0} (xs : List A) (ys : List B) where
  pub numbered_pair : (i n : ℕ) (x : A) (y : B) → i < length (enumerate_from 0 (zip xs ys)) → (n, (x, y)) ≡ get_or (enumerate_from 0 (zip xs ys)) i (n, (x, y))
      → (n ≡ i) × (slice_get xs i ≡ Some x) × (slice_get ys i ≡ Some y) × (i < length xs)
  numbered_pair i n x y within is =
      let both : i < length (zip xs ys) = omega (arith, within, length-enumerate_from 0 (zip xs ys)) in
      let first : i < length xs = omega (arith, both, length-zip xs ys) in
      let second : i < length ys = omega (arith, both, length-zip xs ys) in
      let pair = is ∙ get_or-enumerate_from 0 (zip xs ys) i (n, (x, y)) both ∙ ap (λ (p : A × B). (0 + i, p)) (get_or-zip xs ys i (x, y) first second) in (
        ap (λ (p : ℕ × (A × B)). p.0) pair ∙ zero-add i,
        slice_get_read xs (length xs) i x refl first (ap (λ (p : ℕ × (A × B)). p.1.0) pair),
        slice_get_read ys (length ys) i y refl second (ap (λ (p : ℕ × (A × B)). p.1.1) pair),
        first,
      )

  pub pairs_long : length ys ≡ length xs → length (enumerate_from 0 (zip xs ys)) ≡ length xs
  pairs_long e = omega (arith, length-enumerate_from 0 (zip xs ys), length-zip xs ys, e)
