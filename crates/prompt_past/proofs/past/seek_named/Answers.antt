use Rattle.std.proofs.Common.{◌≡◌, sym, subst, ◌∙◌}
use Rattle.debug_commands.specs.Views.{target_view}
use Rattle.command_lists.specs.Lists.{HasDone}
use Rattle.prompt_scenes.specs.Holding.{held}
use Rattle.prompt_past.specs.Past.{after_last_as, last_as}
use Rattle.prompt_past.proofs.past.seek_named.Goals as goal

pub returns-in-Some : goal.returns-in-Some
returns-in-Some g c s d st =
    let stands = g.M.RecordedMachine.stands in
    let h = held c.args.holding.now in
    let target = target_view c.args.target in
    subst (λ part. HasDone stands s (last_as s d h target part) d c.seek_in_frame.new.session × (held c.seek_in_frame.new.holding ≡ after_last_as s d h target part))
    (c.in-Some.ensures s d st) (c.seek_in_frame.ensures s d st)

pub returns-in-None : goal.returns-in-None
returns-in-None g c s d st =
    let stands = g.M.RecordedMachine.stands in
    let h = held c.args.holding.now in
    let target = target_view c.args.target in
    subst (λ part. HasDone stands s (last_as s d h target part) d c.seek.new.session × (held c.seek.new.holding ≡ after_last_as s d h target part))
    (sym c.in-None.is ∙ c.part_of.ensures s d st) (c.seek.ensures s d st)
