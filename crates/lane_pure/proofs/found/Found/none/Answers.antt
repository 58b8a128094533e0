use Rattle.std.proofs.Common.{subst, sym}
use Rattle.lane_pure.specs.Found.{IsListed}
use Rattle.lane_pure.proofs.Spreading.{listed_none}
use Rattle.lane_pure.proofs.found.Found.none.Goals as goal

pub returns-clause-listed : goal.returns-clause-listed
returns-clause-listed c =
    subst (IsListed c.in_ok-vec.field-0.items) (sym c.new.ensures.items) (listed_none c.args.count c.in_ok-vec.field-0.items (c.in_ok-vec.ensures.items_if_clones_equal (λ y h. h)))
