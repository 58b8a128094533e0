-- the variables before this one have their sizes
use Rattle.std.proofs.Common.{◌≡◌, map, take}
use Rattle.gang_memory.specs.Layouts.{global_words}
use Rattle.gang_memory.proofs.layout.global_sizes.Given as goal

abbrev pub invariant-loop-global : goal.invariant-loop-global
invariant-loop-global g l = l.sizes.items ≡ map (global_words g.row.W) (take l.global-index l.fn.globals)
