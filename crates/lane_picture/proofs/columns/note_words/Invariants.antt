-- the words before this one were put behind the values
use Rattle.std.proofs.Common.{◌≤◌}
use Rattle.lane_picture.specs.Watched.{NotesWords}
use Rattle.lane_picture.proofs.columns.note_words.Given as goal

abbrev pub invariant-loop-index : goal.invariant-loop-index
invariant-loop-index g l = record {
  first : l.from ≤ l.index;
  few : l.index ≤ l.to;
  noted : NotesWords g.M.RecordedMachine.stands l.machine l.shown l.from l.index l.initial.values.items l.values.items;
}
