use Rattle.std.proofs.Common.{List, ap, ◌∙◌, rules}
use Rattle.arrayvec.proofs.ArrayVecLemmas.{filter-from_retain}
use Rattle.debug_answers.specs.declared.stops.NumberedStop.{NumberedStop}
use Rattle.debug_session.specs.Stops.{Table}
use Rattle.debug_session.specs.Tables.{without_number}
use Rattle.debug_session.proofs.table.StopTable.remove.Goals as goal

pub returns : goal.returns
returns c =
    let table : List NumberedStop → Table = λ items. record { items = items; next = c.self.inside.next } in
    let kept = filter-from_retain _ _ _ (λ x b f' y called. search rules) _ _ c.retain.ensures.filtered in
    ap table kept ∙ ap (without_number c.args.number) c.self.view_is
