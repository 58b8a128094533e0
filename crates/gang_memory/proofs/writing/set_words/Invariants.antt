-- the lanes before this one have stored
use Rattle.std.proofs.Common.{◌≡◌, ◌+◌, ◌≤◌}
use Rattle.gang_types.specs.Masks.{lanes_of}
use Rattle.gang_memory.proofs.Scatters.{StoredTo}
use Rattle.gang_memory.proofs.writing.set_words.Given as goal

abbrev pub invariant-loop-lane : goal.invariant-loop-lane
invariant-loop-lane g l = record {
  stored : StoredTo (lanes_of g.row.W l.fn.mask) l.fn.slots l.fn.values l.lane (g.S.WordStore.words l.fn.store) (g.S.WordStore.words l.store);
  left : g.S.WordStore.left l.fn.store ≤ g.S.WordStore.left l.store + l.lane;
  rest : g.S.WordStore.rest l.store ≡ g.S.WordStore.rest l.fn.store;
}
