-- What each instruction computes of the vectors that it takes.
use Rattle.std.specs.Prelude.{ℕ, Bool, true, false, not, ◌&&◌, ◌||◌, ◌==◌, List, ◌++◌, length, pos, ◌+ℤ◌, Result, Ok, if◌then◌else◌}
use Rattle.gang_types.specs.declared.types.IntType.TheVariants as t
use Rattle.gang_types.specs.declared.places.VarId.{VarId}
use Rattle.gang_types.specs.Values.{value_of, unary_of, binary_result, converted}
use Rattle.gang_types.specs.Lanes.{Lanes, lanes_where}
use Rattle.gang_model.specs.Running.Lanes.{Fault, ◌>>=◌, each, try_each, at, holds, truth_word}
use Rattle.gang_model.specs.Running.Library.{bits_from, of_one, of_two, reduced, scanned, before_lane, lane_value, turned, value_at}
use Rattle.gang_model.specs.Running.State.{State, words_in, view_of, seen}
use Rattle.gang_model.specs.Running.Value.{element}
use Rattle.typed_tree.specs.Views.{one_view, two_view, reduction_view, scan_view}
use Rattle.cross_lane.specs.Calls.{values_in}
use Rattle.expression_instructions.specs.declared.code.Leaf.{Leaf}
use Rattle.expression_instructions.specs.declared.code.Leaf.TheVariants.{Number, ProgramIndex, ProgramCount, LaneMask, Read}
use Rattle.expression_instructions.specs.declared.code.OneOperand.{OneOperand}
use Rattle.expression_instructions.specs.declared.code.OneOperand.TheVariants.{Unary, Convert, OfOne, Reduce, ScanLanes}
use Rattle.expression_instructions.specs.declared.code.Move.{Move as Moving}
use Rattle.expression_instructions.specs.declared.code.Move.TheVariants.{Rotate, Shift}
use Rattle.expression_instructions.specs.declared.code.TwoOperands.{TwoOperands}
use Rattle.expression_instructions.specs.declared.code.TwoOperands.TheVariants.{Binary, OfTwo, Pick, Move}
use Rattle.expression_instructions.specs.declared.code.ThreeOperands.{ThreeOperands}
use Rattle.expression_instructions.specs.declared.code.ThreeOperands.TheVariants.{Select, Insert, PickOfTwo}

abbrev pub leaf_value : Leaf → Lanes → State → List ℕ
leaf_value (Number n) lanes state = each lanes (λ k. n)
leaf_value ProgramIndex lanes state = each lanes (λ k. k)
leaf_value ProgramCount lanes state = each lanes (λ k. length lanes)
leaf_value LaneMask lanes state = each lanes (λ k. bits_from 0 (each lanes (λ j. 1)))
leaf_value (Read v) lanes state = seen v.rate lanes (words_in state v.id)

-- the elements of an array at the indices of the lanes
abbrev pub element_value : VarId → Lanes → State → List ℕ → Result (List ℕ) Fault
element_value array lanes state x = try_each lanes (λ k. element state (view_of state array) (at x k))

abbrev pub one_value : OneOperand → Lanes → List ℕ → List ℕ
one_value (Unary op ty) lanes x = each lanes (λ k. unary_of op ty (at x k))
one_value (Convert from to) lanes x = each lanes (λ k. converted from to (at x k))
one_value (OfOne f ty) lanes x = each lanes (λ k. of_one (one_view f) ty (at x k))
one_value (Reduce f ty) lanes x = each lanes (λ k. reduced (reduction_view f) ty lanes (values_in lanes x))
one_value (ScanLanes f ty) lanes x = each lanes (λ k. scanned (scan_view f) ty (before_lane k lanes (values_in lanes x)))

-- what lane k gets of the values, moved by n
abbrev pub moved_word : Moving → Lanes → List ℕ → (n k : ℕ) → ℕ
moved_word Rotate lanes values n k = at values (turned lanes (value_of t.Int32 n) k)
moved_word Shift lanes values n k = value_at values (pos k +ℤ value_of t.Int32 n)

abbrev pub two_value : TwoOperands → Lanes → List ℕ → List ℕ → Result (List ℕ) Fault
two_value (Binary op ty) lanes x y = try_each lanes (λ k. binary_result op ty (at x k) (at y k))
two_value (OfTwo f ty) lanes x y = Ok (each lanes (λ k. of_two (two_view f) ty (at x k) (at y k)))
two_value Pick lanes x y = try_each lanes (λ k. lane_value (values_in lanes x) (at y k))
two_value (Move moving) lanes x y = Ok (each lanes (λ k. moved_word moving lanes (values_in lanes x) (at y k) k))

abbrev pub both_value : Lanes → List ℕ → List ℕ → List ℕ
both_value lanes x y = each lanes (λ k. truth_word (holds x k && holds y k))

abbrev pub either_value : Lanes → List ℕ → List ℕ → List ℕ
either_value lanes x y = each lanes (λ k. truth_word (holds x k || holds y k))

abbrev pub chosen_value : Lanes → List ℕ → List ℕ → List ℕ → List ℕ
chosen_value lanes c x y = each lanes (λ k. if holds c k then at x k else at y k)

abbrev pub three_value : ThreeOperands → Lanes → List ℕ → List ℕ → List ℕ → Result (List ℕ) Fault
three_value Select lanes c x y = Ok (chosen_value lanes c x y)
three_value Insert lanes x i y =
    try_each lanes (λ k. lane_value (values_in lanes x) (at i k)) >>= λ found.
    Ok (each lanes (λ k. if k == at i k then at y k else at (values_in lanes x) k))
three_value PickOfTwo lanes x y p = try_each lanes (λ k. lane_value (values_in lanes x ++ values_in lanes y) (at p k))

-- the lanes where the words hold, or where they do not
abbrev pub where_lanes : Bool → Lanes → List ℕ → Lanes
where_lanes true lanes c = lanes_where lanes (holds c)
where_lanes false lanes c = lanes_where lanes (λ k. not (holds c k))
