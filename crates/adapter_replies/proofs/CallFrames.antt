-- The frames that an editor is told, as the positions that a machine gives.
use Rattle.std.proofs.Common.{◌≡◌, refl, sym, ap, ap₂, ◌∙◌, ℕ, zero, suc, ◌-◌, ◌<◌, true, false, List, [], ◌∷◌, ◌++◌, length, Option, Some, None, codes, decimal, get_or, arith}
use Rattle.std.specs.Prelude.{◌==◌, max, slice_get, if◌then◌else◌}
use Rattle.std.proofs.lemmas.Bool.Decides.{nat_tests}
use Rattle.std.proofs.lemmas.List.{append_cancel_right}
use Rattle.std.specs.Str.Lossy.{utf8_lossy}
use Rattle.gang_types.specs.Lanes.{Lanes}
use Rattle.gang_types.specs.Masks.{lanes_of}
use Rattle.gang_model.specs.Types.Tree.{StepNumber, Standing, Function, Program}
use Rattle.gang_model.specs.Running.State.{Frame}
use Rattle.gang_model.specs.Debugger.Positions.{frame_lanes, frame_spot, spot_in, standing_at}
use Rattle.gang_model.specs.Texts.Text.{bits, call_line, frames_text, line_and_column, place_text, standing_text}
use Rattle.debug_traits.specs.declared.machine.Position.{Position}
use Rattle.debug_traits.specs.Machines.{call_text, depth_of, position_line, position_text}
use Rattle.adapter_replies.specs.Frames.{all_frames, call_frame, call_told, calls_told, frame_name, outer_frames, position_frame, standing_frame}
use Rattle.place_texts.proofs.PlaceTexts.{bits_no_blank, column_no_blank, decimal_no_blank, frame_words, words_same}

-- ---- one position

-- a line has its end
pub no_line : (text : List ℕ) → [] ≡ text ++ 10 ∷ [] → ⊥
no_line [] e = cc
no_line (b ∷ text) e = cc

-- a standing with the text of a position is told as the position
standing_told : (standing : Option Standing) (f : Option Function) (deep : ℕ) (lanes : Lanes) (p : Position) → standing_text standing f deep lanes ≡ position_text (Some p)
    → standing_frame standing f deep lanes ≡ position_frame deep p ∷ []
standing_told None f deep lanes p e = cc
standing_told (Some standing) None deep lanes p e = cc
standing_told (Some standing) (Some f) deep lanes p e =
    let own = lanes_of p.width p.lanes in
    let (place, function, digits) = words_same (line_and_column standing.place) f.name (decimal deep) (bits lanes) (line_and_column p.place) p.function.now (decimal p.depth) (bits own)
    (column_no_blank standing.place) (decimal_no_blank deep) (bits_no_blank lanes) (column_no_blank p.place) (decimal_no_blank p.depth) (bits_no_blank own) e in
    ap (λ at. record { depth = deep; name = frame_name f.name lanes; place = at } ∷ []) place
    ∙ ap (λ name. record { depth = deep; name = utf8_lossy name ++ codes " [" ++ bits lanes ++ codes "]"; place = line_and_column p.place } ∷ []) function
    ∙ ap (λ set. record { depth = deep; name = utf8_lossy p.function.now ++ codes " [" ++ set ++ codes "]"; place = line_and_column p.place } ∷ []) digits

-- the words of a frame are not those of a program that has ended
pub other_words : (place function deep bits : List ℕ) → frame_words place function deep bits ≡ codes "ended" → ⊥
other_words place function deep bits e = let first : 97 ≡ 101 = ap (λ text. get_or text 0 0) e in absurd (omega (arith, first))

-- a standing with the text of a program that has ended, or with none, is told as no frame
standing_ended : (standing : Option Standing) (f : Option Function) (deep : ℕ) (lanes : Lanes) → standing_text standing f deep lanes ≡ codes "ended" → standing_frame standing f deep lanes ≡ []
standing_ended None f deep lanes e = refl
standing_ended (Some standing) None deep lanes e = refl
standing_ended (Some standing) (Some f) deep lanes e = absurd (other_words (line_and_column standing.place) f.name (decimal deep) (bits lanes) e)

-- the line of a call is that of a position, or there is no call
line_told : (p : Program) (number : Option StepNumber) (function deep : ℕ) (lanes : Lanes) (at : Position) → call_line p number function deep lanes ≡ position_line (Some at)
    → call_frame p number function deep lanes ≡ position_frame deep at ∷ []
line_told p None function deep lanes at e = absurd (no_line (position_text (Some at)) e)
line_told p (Some number) function deep lanes at e =
    let spot = spot_in function number in
    standing_told (standing_at p spot) (slice_get p.functions function) deep lanes at (append_cancel_right (place_text p spot deep lanes) (position_text (Some at)) (10 ∷ []) e)

no_call : (p : Program) (number : Option StepNumber) (function deep : ℕ) (lanes : Lanes) → call_line p number function deep lanes ≡ [] → call_frame p number function deep lanes ≡ []
no_call p None function deep lanes e = refl
no_call p (Some number) function deep lanes e = absurd (no_line (place_text p (spot_in function number) deep lanes) (sym e))

-- ---- all frames

-- the call at a depth, by what a machine gives for it
pub call_given : (p : Program) (deep : ℕ) (frames : List Frame) (at : Position) → call_text p deep frames ≡ position_line (Some at) → call_told p deep frames ≡ position_frame deep at ∷ []
call_given p deep [] at e = absurd (no_line (position_text (Some at)) e)
call_given p deep (inner ∷ []) at e = absurd (no_line (position_text (Some at)) e)
call_given p deep (inner ∷ frame ∷ frames) at e =
    (elim (length (frame ∷ frames) == deep) as (λ b. (if b then call_line p inner.call frame.function deep inner.lanes else call_text p deep (frame ∷ frames)) ≡ position_line (Some at)
    → (if b then call_frame p inner.call frame.function deep inner.lanes else call_told p deep (frame ∷ frames)) ≡ position_frame deep at ∷ []) [
      | true ↦ λ is. line_told p inner.call frame.function deep inner.lanes at is
      | false ↦ λ is. call_given p deep (frame ∷ frames) at is
    ]) e

pub call_missing : (p : Program) (deep : ℕ) (frames : List Frame) → call_text p deep frames ≡ [] → call_told p deep frames ≡ []
call_missing p deep [] e = refl
call_missing p deep (inner ∷ []) e = refl
call_missing p deep (inner ∷ frame ∷ frames) e =
    (elim (length (frame ∷ frames) == deep) as (λ b. (if b then call_line p inner.call frame.function deep inner.lanes else call_text p deep (frame ∷ frames)) ≡ []
    → (if b then call_frame p inner.call frame.function deep inner.lanes else call_told p deep (frame ∷ frames)) ≡ []) [
      | true ↦ λ is. no_call p inner.call frame.function deep inner.lanes is
      | false ↦ λ is. call_missing p deep (frame ∷ frames) is
    ]) e

-- the calls from one depth on: the first, and the others
pub calls_at : (p : Program) (frames : List Frame) (n : ℕ) → 0 < n → calls_told p frames n ≡ call_told p n frames ++ calls_told p frames (n - 1)
calls_at p frames zero more = absurd (omega arith)
calls_at p frames (suc n) more = let e : suc n - 1 ≡ n = omega arith in rw e refl

pub same_number : (n : ℕ) → (n == n) ≡ true
same_number n = grind (arith, nat_tests)

pub other_number : (n m : ℕ) → m < n → (n == m) ≡ false
other_number n m less = grind (arith, nat_tests)

module _ (p : Program) (inner frame : Frame) (frames : List Frame) where
  -- a frame on top changes no call further down
  calls_below : (n : ℕ) → n < length (frame ∷ frames) → calls_told p (inner ∷ frame ∷ frames) n ≡ calls_told p (frame ∷ frames) n
  calls_below zero less = refl
  calls_below (suc n) less =
      ap₂ (λ a b. a ++ b)
      (ap (λ b. if b then call_frame p inner.call frame.function (suc n) inner.lanes else call_told p (suc n) (frame ∷ frames)) (other_number (length (frame ∷ frames)) (suc n) less))
      (calls_below n (omega arith))

  call_of_top : call_told p (length (frame ∷ frames)) (inner ∷ frame ∷ frames) ≡ call_frame p inner.call frame.function (length (frame ∷ frames)) inner.lanes
  call_of_top =
      ap (λ b. if b then call_frame p inner.call frame.function (length (frame ∷ frames)) inner.lanes else call_told p (length (frame ∷ frames)) (frame ∷ frames))
      (same_number (length (frame ∷ frames)))

outer_calls : (p : Program) (inner : Frame) (frames : List Frame) → outer_frames p inner frames ≡ calls_told p (inner ∷ frames) (length frames)
outer_calls p inner [] = refl
outer_calls p inner (frame ∷ frames) =
    ap₂ (λ a b. a ++ b) (sym (call_of_top p inner frame frames)) (outer_calls p frame frames ∙ sym (calls_below p inner frame frames (length frames) (omega arith)))

-- the frames of a program that runs: that of the position, and the calls of the others
pub frames_given : (p : Program) (frames : List Frame) (at : Position) → frames_text p frames ≡ position_text (Some at) → max 1 (length frames) ≡ depth_of (Some at)
    → all_frames p frames ≡ position_frame at.depth at ∷ calls_told p frames (at.depth - 1)
frames_given p [] at says deep = absurd (other_words (line_and_column at.place) at.function.now (decimal at.depth) (bits (lanes_of at.width at.lanes)) (sym says))
frames_given p (frame ∷ frames) at says deep =
    let spot = frame_spot p frame in
    let high : length (frame ∷ frames) ≡ at.depth = omega (arith, deep) in
    let below : at.depth - 1 ≡ length frames = omega (arith, deep) in
    ap₂ (λ a b. a ++ b)
    (standing_told (standing_at p spot) (slice_get p.functions frame.function) (length (frame ∷ frames)) (frame_lanes frame) at says ∙ ap (λ n. position_frame n at ∷ []) high)
    (outer_calls p frame frames ∙ ap (calls_told p (frame ∷ frames)) (sym below))

-- a program that has ended has none
pub frames_ended : (p : Program) (frames : List Frame) → frames_text p frames ≡ codes "ended" → max 1 (length frames) ≡ 1 → all_frames p frames ≡ []
frames_ended p [] says deep = refl
frames_ended p (frame ∷ []) says deep =
    let spot = frame_spot p frame in
    ap (λ a. a ++ []) (standing_ended (standing_at p spot) (slice_get p.functions frame.function) 1 (frame_lanes frame) says)
frames_ended p (frame ∷ below ∷ frames) says deep = absurd (omega (arith, deep))
