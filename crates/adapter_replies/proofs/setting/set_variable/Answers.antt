use Rattle.std.proofs.Common.{IfOk, ◌∙◌, ap, subst}
use Rattle.adapter_replies.specs.References.{depth_in, place_of}
use Rattle.adapter_replies.specs.Told.{IsGivenTold}
use Rattle.adapter_replies.proofs.setting.set_variable.Goals as goal

pub returns-clause-stands : goal.returns-clause-stands
returns-clause-stands g c s d st =
    subst (λ deep. IfOk c.set_told.result (IsGivenTold s d c.args.last deep c.args.name.now c.args.is_hexadecimal))
    (c.depth_in-depth.ensures ∙ ap (λ top. depth_in top (place_of c.args.reference)) (c.depth_of.ensures s d st)) (c.set_told.ensures.stands s d st)
