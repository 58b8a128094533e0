use Rattle.std.proofs.Common.{◌∙◌}
use Rattle.conditional_stops.specs.Views.{count_view, table_of}
use Rattle.conditional_stops.proofs.Entries.{beside_counted, count_full, count_taken, zero_taken}
use Rattle.conditional_stops.proofs.table.Conditions.set_passes.Goals.{else-count-gt0-via-then-count-gt0+else-counts_beside-ge-ROOM, else-count-gt0-via-else-count-gt0}
use Rattle.conditional_stops.proofs.table.Conditions.set_passes.Goals as goal

pub returns-then-counts_beside-ge-ROOM-clause-taken : goal.returns-then-counts_beside-ge-ROOM-clause-taken
returns-then-counts_beside-ge-ROOM-clause-taken c =
    count_full c.args.number (table_of c.args.self.now) c.args.count c.counts_beside.result c.if-count-gt0.true
    (c.counts_beside.ensures ∙ beside_counted count_view c.args.number c.args.self.now.counts.items) c.if-counts_beside-ge-ROOM.true

pub returns-clause-taken : goal.returns-clause-taken
returns-clause-taken c = elim c.else-count-gt0.branch [
  | else-count-gt0-via-then-count-gt0+else-counts_beside-ge-ROOM w ↦
      count_taken c.args.number (table_of c.args.self.now) c.args.count w.counts_beside.result
      (w.counts_beside.ensures ∙ beside_counted count_view c.args.number c.args.self.now.counts.items) w.if-counts_beside-ge-ROOM.false
  | else-count-gt0-via-else-count-gt0 w ↦ zero_taken c.args.number (table_of c.args.self.now) c.args.count w.if-count-gt0.false
]
