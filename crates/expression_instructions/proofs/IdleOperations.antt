-- An operation that no lane makes has the value 0 everywhere, and no fault.
use Rattle.std.proofs.Common.{ℕ, true, ◌≡◌, sym, List}
use Rattle.std.specs.Prelude.{Ok}
use Rattle.gang_types.specs.Lanes.{Lanes, no_lane}
use Rattle.expression_instructions.specs.declared.code.OneOperand.{OneOperand}
use Rattle.expression_instructions.specs.declared.code.OneOperand.TheVariants.{Unary, Convert, OfOne, Reduce, ScanLanes}
use Rattle.expression_instructions.specs.declared.code.TwoOperands.{TwoOperands}
use Rattle.expression_instructions.specs.declared.code.TwoOperands.TheVariants.{Binary, OfTwo, Pick, Move}
use Rattle.expression_instructions.specs.declared.code.ThreeOperands.{ThreeOperands}
use Rattle.expression_instructions.specs.declared.code.ThreeOperands.TheVariants.{Select, Insert, PickOfTwo}
use Rattle.expression_instructions.specs.Values.{one_value, two_value, three_value}
use Rattle.expression_instructions.proofs.Idle.{zeros, words_idle, each_idle, try_idle, after_value}

pub one_idle : (op : OneOperand) (lanes : Lanes) (x : List ℕ) → no_lane lanes ≡ true → zeros lanes ≡ one_value op lanes x
one_idle (Unary op ty) lanes x none = words_idle 0 lanes _ _ none
one_idle (Convert from to) lanes x none = words_idle 0 lanes _ _ none
one_idle (OfOne f ty) lanes x none = words_idle 0 lanes _ _ none
one_idle (Reduce f ty) lanes x none = words_idle 0 lanes _ _ none
one_idle (ScanLanes f ty) lanes x none = words_idle 0 lanes _ _ none

two_value_idle : (op : TwoOperands) (lanes : Lanes) (x y : List ℕ) → no_lane lanes ≡ true → two_value op lanes x y ≡ Ok (zeros lanes)
two_value_idle (Binary op ty) lanes x y none = try_idle lanes _ none
two_value_idle (OfTwo f ty) lanes x y none = each_idle lanes _ none
two_value_idle Pick lanes x y none = try_idle lanes _ none
two_value_idle (Move moving) lanes x y none = each_idle lanes _ none

pub two_idle : (op : TwoOperands) (lanes : Lanes) (x y : List ℕ) → no_lane lanes ≡ true → Ok (zeros lanes) ≡ two_value op lanes x y
two_idle op lanes x y none = sym (two_value_idle op lanes x y none)

three_value_idle : (op : ThreeOperands) (lanes : Lanes) (x y z : List ℕ) → no_lane lanes ≡ true → three_value op lanes x y z ≡ Ok (zeros lanes)
three_value_idle Select lanes x y z none = each_idle lanes _ none
three_value_idle Insert lanes x y z none = after_value _ _ _ _ (try_idle lanes _ none) (each_idle lanes _ none)
three_value_idle PickOfTwo lanes x y z none = try_idle lanes _ none

pub three_idle : (op : ThreeOperands) (lanes : Lanes) (x y z : List ℕ) → no_lane lanes ≡ true → Ok (zeros lanes) ≡ three_value op lanes x y z
three_idle op lanes x y z none = sym (three_value_idle op lanes x y z none)
