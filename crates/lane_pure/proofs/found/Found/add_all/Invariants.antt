use Rattle.std.proofs.Common.{◌≡◌, drop}
use Rattle.lane_pure.specs.Found.{IsListed, Keeps, with_all}
use Rattle.lane_pure.proofs.found.Found.add_all.Given as goal

-- those that are left are still to be marked
abbrev pub invariant-loop-number : goal.invariant-loop-number
invariant-loop-number l =
    (with_all (drop l.number-index l.numbers) l.self.marks.items ≡ with_all l.numbers l.initial.self.marks.items)
    × IsListed l.self.marks.items l.self.order.items
    × Keeps l.initial.self.order.items l.self.order.items
