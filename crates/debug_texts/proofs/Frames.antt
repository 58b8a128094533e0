-- The lines of frames, as the calls that they made.
use Rattle.std.proofs.Common.{◌≡◌, refl, sym, ap, ap₂, ◌∙◌, ℕ, zero, suc, ◌-◌, ◌<◌, true, false, List, [], ◌∷◌, ◌++◌, length, Option, append-nil, arith}
use Rattle.std.specs.Prelude.{◌==◌, max, if◌then◌else◌}
use Rattle.std.proofs.lemmas.Bool.Decides.{nat_tests}
use Rattle.gang_model.specs.Types.Tree.{Program}
use Rattle.gang_model.specs.Running.State.{Frame}
use Rattle.gang_model.specs.Texts.Text.{call_line, frame_lines, frames_text, line, outer_lines}
use Rattle.debug_traits.specs.declared.machine.Position.{Position}
use Rattle.debug_traits.specs.Machines.{call_text, depth_of, position_text}
use Rattle.debug_texts.specs.Wording.{calls_text}

-- the calls from one depth on: the first, and the others
pub calls_at : (p : Program) (frames : List Frame) (n : ℕ) → 0 < n → calls_text p frames n ≡ call_text p n frames ++ calls_text p frames (n - 1)
calls_at p frames zero more = absurd (omega arith)
calls_at p frames (suc n) more = let e : suc n - 1 ≡ n = omega arith in rw e refl

same_number : (n : ℕ) → (n == n) ≡ true
same_number n = grind (arith, nat_tests)

other_number : (n m : ℕ) → m < n → (n == m) ≡ false
other_number n m less = grind (arith, nat_tests)

module _ (p : Program) (inner frame : Frame) (frames : List Frame) where
  -- a frame on top changes no call further down
  calls_below : (n : ℕ) → n < length (frame ∷ frames) → calls_text p (inner ∷ frame ∷ frames) n ≡ calls_text p (frame ∷ frames) n
  calls_below zero less = refl
  calls_below (suc n) less =
      ap₂ (λ a b. a ++ b)
      (ap (λ b. if b then call_line p inner.call frame.function (suc n) inner.lanes else call_text p (suc n) (frame ∷ frames)) (other_number (length (frame ∷ frames)) (suc n) less))
      (calls_below n (omega arith))

  call_of_top : call_text p (length (frame ∷ frames)) (inner ∷ frame ∷ frames) ≡ call_line p inner.call frame.function (length (frame ∷ frames)) inner.lanes
  call_of_top =
      ap (λ b. if b then call_line p inner.call frame.function (length (frame ∷ frames)) inner.lanes else call_text p (length (frame ∷ frames)) (frame ∷ frames))
      (same_number (length (frame ∷ frames)))

outer_calls : (p : Program) (inner : Frame) (frames : List Frame) → outer_lines p inner frames ≡ calls_text p (inner ∷ frames) (length frames)
outer_calls p inner [] = refl
outer_calls p inner (frame ∷ frames) =
    ap₂ (λ a b. a ++ b) (sym (call_of_top p inner frame frames)) (outer_calls p frame frames ∙ sym (calls_below p inner frame frames (length frames) (omega arith)))

-- the lines of all frames: where the top one stands, and the calls of the others
pub frames_parts : (p : Program) (frames : List Frame) (position : Option Position) → frames_text p frames ≡ position_text position
    → max 1 (length frames) ≡ depth_of position → frame_lines p frames ≡ line (position_text position) ++ calls_text p frames (depth_of position - 1)
frames_parts p [] position says deep =
    let none : depth_of position - 1 ≡ 0 = omega (arith, deep) in
    ap line says ∙ sym (append-nil (line (position_text position))) ∙ ap (λ n. line (position_text position) ++ calls_text p [] n) (sym none)
frames_parts p (frame ∷ frames) position says deep =
    let below : depth_of position - 1 ≡ length frames = omega (arith, deep) in
    ap₂ (λ a b. a ++ b) (ap line says) (outer_calls p frame frames ∙ ap (calls_text p (frame ∷ frames)) (sym below))
