use Rattle.std.proofs.Common.{◌∙◌, sym, ap, arith}
use Rattle.gang_model.specs.Source.Parsed.{ParsedDim}
use Rattle.source_tree.specs.Tree.{dim_view}
use Rattle.source_limits.specs.Room.{room_after}
use Rattle.source_limits.proofs.RoomLaws.{room_past, room_all, places-map}
use Rattle.source_limits.proofs.room.after_dims.Goals as goal

pub returns-then-room-dims : goal.returns-then-room-dims
returns-then-room-dims c =
    room_past (λ d. (dim_view d).at) c.args.dims.now c.args.room c.index-dims-room.result c.if-room-dims.true
    ∙ ap (room_after c.args.room) (sym (places-map (λ (d : ParsedDim). d.at) dim_view c.args.dims.now))

pub returns-else-room-dims : goal.returns-else-room-dims
returns-else-room-dims c =
    room_all (λ d. (dim_view d).at) c.args.dims.now c.args.room (omega (arith, c.if-room-dims.false))
    ∙ ap (room_after c.args.room) (sym (places-map (λ (d : ParsedDim). d.at) dim_view c.args.dims.now))
