use Rattle.std.proofs.Common.{ℕ, ap, ◌∙◌, map}
use Rattle.adapter_session.specs.Changes.{Change, asked_view}
use Rattle.adapter_session.proofs.StopNumbers.{staying_is}
use Rattle.adapter_session.proofs.changes.made_change.Goals as goal

pub returns : goal.returns
returns c s meant are =
    let made : ℕ → Change = λ many. record { staying = many; asked = map asked_view c.args.asked.items } in
    ap made (c.staying.ensures ∙ staying_is s c.args.kind c.args.functions.now c.args.stops.now meant are)
