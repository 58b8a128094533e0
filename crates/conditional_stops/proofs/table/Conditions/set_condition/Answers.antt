use Rattle.std.proofs.Common.{ap, ◌∙◌, lit<}
use Rattle.conditional_stops.specs.Tables.{Table}
use Rattle.conditional_stops.specs.Views.{condition_view, table_of}
use Rattle.conditional_stops.proofs.Entries.{beside_counted, condition_full, condition_taken, room_beside}
use Rattle.conditional_stops.proofs.table.Conditions.set_condition.Goals as goal

pub returns-then-conditions_beside-ge-ROOM-clause-taken : goal.returns-then-conditions_beside-ge-ROOM-clause-taken
returns-then-conditions_beside-ge-ROOM-clause-taken c =
    condition_full c.args.number (table_of c.args.self.now) c.args.text.now c.conditions_beside.result c.in-Ok.ensures.1
    (c.conditions_beside.ensures ∙ beside_counted condition_view c.args.number c.args.self.now.conditions.items) c.if-conditions_beside-ge-ROOM.true

pub push-requires : goal.push-requires
push-requires c = (
  lit< tt,
  room_beside condition_view c.args.number c.args.self.now.conditions.items c.clear_condition.new.self.conditions.items c.conditions_beside.result
      (ap (λ (t : Table). t.conditions) c.clear_condition.ensures) c.conditions_beside.ensures c.if-conditions_beside-ge-ROOM.false,
)

pub returns-clause-taken : goal.returns-clause-taken
returns-clause-taken c =
    condition_taken c.args.number (table_of c.args.self.now) c.args.text.now c.conditions_beside.result c.in-Ok.ensures.1
    (c.conditions_beside.ensures ∙ beside_counted condition_view c.args.number c.args.self.now.conditions.items) c.if-conditions_beside-ge-ROOM.false
