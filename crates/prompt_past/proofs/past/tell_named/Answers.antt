use Rattle.std.proofs.Common.{[], sym, subst, ◌∙◌}
use Rattle.std.specs.Prelude.{if◌then◌else◌}
use Rattle.debug_commands.specs.Views.{target_view}
use Rattle.command_lists.specs.Lists.{HasDone}
use Rattle.prompt_moves.specs.Moments.{is_unset}
use Rattle.prompt_moves.proofs.MomentLaws.{done_led}
use Rattle.prompt_past.specs.Past.{changes_as}
use Rattle.prompt_past.specs.FramePast.{told_in_frame}
use Rattle.prompt_past.proofs.past.tell_named.Goals as goal

pub returns-in-Some : goal.returns-in-Some
returns-in-Some g c s d st =
    let stands = g.M.RecordedMachine.stands in
    let most = c.args.most in
    let new = c.tell_in_frame.new.session in
    subst (λ part. HasDone stands s (changes_as s d (target_view c.args.target, most) part) d new) (c.in-Some.ensures s d st)
    (done_led stands s (if is_unset d then told_in_frame most s c.in-Some.watch d else []) d new (c.tell_in_frame.ensures s d st))

pub returns-in-None : goal.returns-in-None
returns-in-None g c s d st =
    let stands = g.M.RecordedMachine.stands in
    subst (λ part. HasDone stands s (changes_as s d (target_view c.args.target, c.args.most) part) d c.tell_if_unset.new.session)
    (sym c.in-None.is ∙ c.part_of.ensures s d st) (c.tell_if_unset.ensures s d st)
