-- The lanes of a position that a machine gives are those that the frame shows.
use Rattle.std.proofs.Common.{◌≡◌, refl, sym, ap, ℕ, true, false, List, [], ◌∷◌, ◌<◌, ◌≤◌, length, nat_lt, Option, Some, None, decimal, get_or, inl, inr, arith}
use Rattle.std.specs.Prelude.{◌==◌, slice_get, if◌then◌else◌}
use Rattle.std.proofs.lemmas.Bool.{cases_lt}
use Rattle.std.proofs.lemmas.Bool.Decides.{nat_tests}
use Rattle.std.proofs.lemmas.List.{append_cancel_right}
use Rattle.gang_types.specs.Lanes.{Lanes}
use Rattle.gang_types.specs.Masks.{lanes_of}
use Rattle.gang_model.specs.Types.Tree.{StepNumber, Standing, Function, Program}
use Rattle.gang_model.specs.Running.State.{Frame, State}
use Rattle.gang_model.specs.Debugger.Positions.{frame_lanes, frame_spot, lanes_now, spot_in, standing_at, top_lanes}
use Rattle.gang_model.specs.Texts.Text.{bits, call_line, frames_text, line_and_column, place_text, standing_text, where_text}
use Rattle.debug_traits.specs.declared.machine.Position.{Position}
use Rattle.debug_traits.specs.Machines.{call_text, position_line, position_text}
use Rattle.adapter_replies.specs.Waiting.{call_lanes, called_lanes, position_lanes}
use Rattle.adapter_replies.proofs.CallFrames.{no_line, other_number, other_words}
use Rattle.place_texts.proofs.PlaceTexts.{bits_no_blank, column_no_blank, decimal_no_blank, words_same}

-- ---- tests of numbers

below_number : (n m : ℕ) → n < m → (n == m) ≡ false
below_number n m less = grind (arith, nat_tests)

pub other_than : (n m : ℕ) → (n ≡ m → ⊥) → (n == m) ≡ false
other_than n m differ =
    elim (cases_lt m n) [
      | inl less ↦ other_number n m less
      | inr low ↦ elim (cases_lt n m) [
        | inl less ↦ below_number n m less
        | inr high ↦ let same : n ≡ m = omega (arith, low, high) in absurd (differ same)
      ]
    ]

pub is_below : (n m : ℕ) → n < m → nat_lt n m ≡ true
is_below n m less = grind (arith, nat_tests)

pub is_past : (n m : ℕ) → m ≤ n → nat_lt n m ≡ false
is_past n m past = grind (arith, nat_tests)

-- ---- lanes

-- the digits of sets of lanes tell the sets
bits_same : (a b : Lanes) → bits a ≡ bits b → a ≡ b
bits_same [] [] e = refl
bits_same [] (y ∷ b) e = absurd (cc)
bits_same (x ∷ a) [] e = absurd (cc)
bits_same (true ∷ a) (true ∷ b) e = let rest : bits a ≡ bits b = cc in ap (λ lanes. true ∷ lanes) (bits_same a b rest)
bits_same (true ∷ a) (false ∷ b) e = let first : 49 ≡ 48 = ap (λ text. get_or text 0 0) e in absurd (omega (arith, first))
bits_same (false ∷ a) (true ∷ b) e = let first : 48 ≡ 49 = ap (λ text. get_or text 0 0) e in absurd (omega (arith, first))
bits_same (false ∷ a) (false ∷ b) e = let rest : bits a ≡ bits b = cc in ap (λ lanes. false ∷ lanes) (bits_same a b rest)

-- a standing with the text of a position has its lanes
standing_lanes : (standing : Option Standing) (f : Option Function) (deep : ℕ) (lanes : Lanes) (at : Option Position) → standing_text standing f deep lanes ≡ position_text at → lanes ≡ position_lanes at
standing_lanes None f deep lanes None e = cc
standing_lanes None f deep lanes (Some p) e = cc
standing_lanes (Some standing) None deep lanes None e = cc
standing_lanes (Some standing) None deep lanes (Some p) e = cc
standing_lanes (Some standing) (Some f) deep lanes None e = absurd (other_words (line_and_column standing.place) f.name (decimal deep) (bits lanes) e)
standing_lanes (Some standing) (Some f) deep lanes (Some p) e =
    let own = lanes_of p.width p.lanes in
    let (place, function, digits) = words_same (line_and_column standing.place) f.name (decimal deep) (bits lanes) (line_and_column p.place) p.function.now (decimal p.depth) (bits own)
    (column_no_blank standing.place) (decimal_no_blank deep) (bits_no_blank lanes) (column_no_blank p.place) (decimal_no_blank p.depth) (bits_no_blank own) e in
    bits_same lanes own digits

frames_lanes : (p : Program) (frames : List Frame) (at : Option Position) → frames_text p frames ≡ position_text at → top_lanes frames ≡ position_lanes at
frames_lanes p [] None e = refl
frames_lanes p [] (Some at) e = absurd (other_words (line_and_column at.place) at.function.now (decimal at.depth) (bits (lanes_of at.width at.lanes)) (sym e))
frames_lanes p (frame ∷ frames) at e =
    let spot = frame_spot p frame in
    standing_lanes (standing_at p spot) (slice_get p.functions frame.function) (length (frame ∷ frames)) (frame_lanes frame) at e

-- the lanes of the next step
pub lanes_given : (p : Program) (state : State) (at : Option Position) → where_text p state ≡ position_text at → lanes_now state ≡ position_lanes at
lanes_given p state at e = frames_lanes p state.frames at e

-- the line of a call tells its lanes
line_lanes : (p : Program) (number : Option StepNumber) (function deep : ℕ) (lanes : Lanes) (at : Option Position) → call_line p number function deep lanes ≡ position_line at
    → call_lanes number lanes ≡ position_lanes at
line_lanes p None function deep lanes None e = refl
line_lanes p None function deep lanes (Some at) e = absurd (no_line (position_text (Some at)) e)
line_lanes p (Some number) function deep lanes None e = absurd (no_line (place_text p (spot_in function number) deep lanes) (sym e))
line_lanes p (Some number) function deep lanes (Some at) e =
    let spot = spot_in function number in
    standing_lanes (standing_at p spot) (slice_get p.functions function) deep lanes (Some at)
    (append_cancel_right (place_text p spot deep lanes) (position_text (Some at)) (10 ∷ []) e)

-- the lanes of the call that the frame at a depth made
pub call_lanes_given : (p : Program) (deep : ℕ) (frames : List Frame) (at : Option Position) → call_text p deep frames ≡ position_line at → called_lanes deep frames ≡ position_lanes at
call_lanes_given p deep [] None e = refl
call_lanes_given p deep [] (Some at) e = absurd (no_line (position_text (Some at)) e)
call_lanes_given p deep (inner ∷ []) None e = refl
call_lanes_given p deep (inner ∷ []) (Some at) e = absurd (no_line (position_text (Some at)) e)
call_lanes_given p deep (inner ∷ frame ∷ frames) at e =
    (elim (length (frame ∷ frames) == deep) as (λ b. (if b then call_line p inner.call frame.function deep inner.lanes else call_text p deep (frame ∷ frames)) ≡ position_line at
    → (if b then call_lanes inner.call inner.lanes else called_lanes deep (frame ∷ frames)) ≡ position_lanes at) [
      | true ↦ λ is. line_lanes p inner.call frame.function deep inner.lanes at is
      | false ↦ λ is. call_lanes_given p deep (frame ∷ frames) at is
    ]) e
