-- Whether the program has ended, by where it stands.
use Rattle.std.proofs.Common.{◌≡◌, refl, sym, ap, ℕ, ◌<◌, List, [], ◌∷◌, length, Option, Some, None, Bool, true, false, arith}
use Rattle.std.specs.Prelude.{◌==◌, is_none, is_some, not, slice_get}
use Rattle.std.proofs.lemmas.Bool.Decides.{nat_tests}
use Rattle.gang_types.specs.Lanes.{Lanes}
use Rattle.gang_model.specs.Types.Tree.{Program, Standing, Function}
use Rattle.gang_model.specs.Running.State.{Frame}
use Rattle.gang_model.specs.Debugger.Positions.{frame_spot, frame_lanes, standing_at}
use Rattle.gang_model.specs.Texts.Text.{Bytes, frames_text, standing_text}
use Rattle.debug_traits.specs.declared.machine.Position.{Position}
use Rattle.debug_traits.specs.Machines.{line_of_position, position_text}

abbrev first_byte : Bytes → ℕ
first_byte [] = 0
first_byte (byte ∷ bytes) = byte

no_e : (byte : ℕ) → byte ≡ 101 → byte < 101 → ⊥
no_e byte e h = omega arith

no_e_first : (standing : Option Standing) (f : Option Function) (depth : ℕ) (lanes : Lanes) → first_byte (standing_text standing f depth lanes) ≡ 101 → ⊥
no_e_first None f depth lanes e = no_e 0 e (omega arith)
no_e_first (Some standing) None depth lanes e = no_e 0 e (omega arith)
no_e_first (Some standing) (Some f) depth lanes e = no_e 97 e (omega arith)

first_same : (xs ys : Bytes) → xs ≡ ys → first_byte xs ≡ first_byte ys
first_same xs ys e = ap first_byte e

pub ended_by : (p : Program) (frames : List Frame) (position : Option Position) → frames_text p frames ≡ position_text position → is_none position ≡ (length frames == 0)
ended_by p [] None e = refl
ended_by p [] (Some at) e = absurd (no_e 97 (sym (first_same (frames_text p []) (position_text (Some at)) e)) (omega arith))
ended_by p (frame ∷ frames) None e =
    absurd (no_e_first (standing_at p (frame_spot p frame)) (slice_get p.functions (frame_spot p frame).function.0) (length (frame ∷ frames)) (frame_lanes frame) (ap first_byte e))
ended_by p (frame ∷ frames) (Some at) e = grind (arith, nat_tests)

-- there is a line where there is a position
pub line_by : (position : Option Position) → is_none (line_of_position position) ≡ is_none position
line_by None = refl
line_by (Some at) = refl

-- where there is none, as a test tells it
pub none_by : {X : Type 0} (option : Option X) (b : Bool) → is_some option ≡ not b → b ≡ is_none option
none_by None true e = refl
none_by None false e = cc e
none_by (Some x) true e = cc e
none_by (Some x) false e = refl
