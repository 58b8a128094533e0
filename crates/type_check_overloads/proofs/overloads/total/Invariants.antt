use Rattle.std.proofs.Common.{◌≡◌, ◌≤◌, ◌*◌, take}
use Rattle.std.specs.Prelude.{sum}
use Rattle.type_check_overloads.proofs.overloads.total.Given as goal

abbrev pub invariant-loop-price : goal.invariant-loop-price
invariant-loop-price l = record {
  summed : l.total ≡ sum (take l.price-index l.prices);
  small : l.total ≤ 255 * l.price-index;
}
