use Rattle.std.proofs.Common.{◌≡◌, None, Some, false, sym, subst, ap, ◌∙◌}
use Rattle.gang_model.specs.Texts.CommandText.{command_of}
use Rattle.debug_commands.specs.TargetViews.{target_option}
use Rattle.debug_commands.specs.Views.{target_view}
use Rattle.prompt_lines.specs.Conditions.{before_if, condition_in}
use Rattle.prompt_scenes.specs.Holding.{held}
use Rattle.prompt_scenes.specs.Readings.{watch_of}
use Rattle.prompt_stops.specs.Breaking.{DoesWatch, Watches, after_watch, written_in}
use Rattle.prompt_stops.proofs.breaking.watch_shown.Goals as goal

pub returns-in-Some : goal.returns-in-Some
returns-in-Some g c s d st =
    let stands = g.M.RecordedMachine.stands in
    let text = c.args.text.now in
    let h = held c.args.holding.now in
    let new = held c.watch_target.new.holding in
    let target = target_view c.in-Some.target in
    let named : Some target ≡ watch_of (command_of (before_if text)) =
    sym (ap target_option c.in-Some.is) ∙ c.watch_of.ensures ∙ ap (λ line. watch_of (command_of line)) c.before_condition.ensures in
    let (done, holds) = c.watch_target.ensures s d st (written_in text) in
    record {
      refused = false;
      does = subst (λ target. DoesWatch stands s d h target (written_in text) (condition_in text) false c.watch_target.new.session new) named
          (done, holds ∙ ap (after_watch s d h (Some target) (written_in text)) c.condition_in.ensures);
    }

pub returns-in-None : goal.returns-in-None
returns-in-None g c s d st =
    let stands = g.M.RecordedMachine.stands in
    let text = c.args.text.now in
    let none : None ≡ watch_of (command_of (before_if text)) =
    sym (ap target_option c.in-None.is) ∙ c.watch_of.ensures ∙ ap (λ line. watch_of (command_of line)) c.before_condition.ensures in
    subst (λ target. Watches stands s d (held c.args.holding.now) target (written_in text) (condition_in text) c.watch_written.new.session (held c.watch_written.new.holding))
    none (c.watch_written.ensures s d st)
