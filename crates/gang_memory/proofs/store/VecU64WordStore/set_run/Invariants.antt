-- the words before this one are set
use Rattle.std.proofs.Common.{◌≡◌, take}
use Rattle.std.specs.Simd.Lanes.{put_chunk}
use Rattle.gang_memory.proofs.store.VecU64WordStore.set_run.Given as goal

abbrev pub invariant-loop-index : goal.invariant-loop-index
invariant-loop-index l = l.self.items ≡ put_chunk l.fn.first l.fn.self.items (take l.index l.fn.values)
