use Rattle.std.proofs.Common.{◌∙◌, sym, ap, arith}
use Rattle.gang_model.specs.Source.Parsed.{ParsedParam}
use Rattle.source_tree.specs.Tree.{param_view}
use Rattle.source_limits.specs.Room.{room_after}
use Rattle.source_limits.proofs.RoomLaws.{room_past, room_all, places-map}
use Rattle.source_limits.proofs.room.after_params.Goals as goal

pub returns-then-room-params : goal.returns-then-room-params
returns-then-room-params c =
    room_past (λ d. (param_view d).at) c.args.params.now c.args.room c.index-params-room.result c.if-room-params.true
    ∙ ap (room_after c.args.room) (sym (places-map (λ (d : ParsedParam). d.at) param_view c.args.params.now))

pub returns-else-room-params : goal.returns-else-room-params
returns-else-room-params c =
    room_all (λ d. (param_view d).at) c.args.params.now c.args.room (omega (arith, c.if-room-params.false))
    ∙ ap (room_after c.args.room) (sym (places-map (λ (d : ParsedParam). d.at) param_view c.args.params.now))
