-- the sizes before this one have their ranges
use Rattle.std.proofs.Common.{◌≡◌, ◌+◌, take}
use Rattle.std.specs.Prelude.{sum}
use Rattle.gang_memory.specs.Ranges.{ranges_from}
use Rattle.gang_memory.proofs.layout.lay_out.Given as goal

abbrev pub invariant-loop-len : goal.invariant-loop-len
invariant-loop-len l = record {
  ranges : l.parts.items ≡ ranges_from l.fn.first (take l.len-index l.fn.sizes);
  end : l.next ≡ l.fn.first + sum (take l.len-index l.fn.sizes);
}
