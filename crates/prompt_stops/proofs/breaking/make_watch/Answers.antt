use Rattle.std.proofs.Common.{◌≡◌, None, Some, sym, subst, ap, ◌∙◌}
use Rattle.gang_model.specs.Texts.CommandText.{command_of}
use Rattle.command_lists.specs.Lists.{HasDone}
use Rattle.prompt_lines.specs.Conditions.{before_if, condition_in}
use Rattle.prompt_lines.specs.Readings.{bytes_option}
use Rattle.prompt_scenes.specs.Holding.{held}
use Rattle.prompt_scenes.specs.Readings.{watch_of}
use Rattle.prompt_stops.specs.Breaking.{WatchesBy, write_name, writes_watched, writes_watched_then, written_in}
use Rattle.prompt_stops.proofs.breaking.make_watch.Goals as goal

pub returns-in-Some : goal.returns-in-Some
returns-in-Some g c s d st =
    let stands = g.M.RecordedMachine.stands in
    let text = c.args.text.now in
    let h = held c.args.holding.now in
    let session = c.watch_writes.new.session in
    let new = held c.watch_writes.new.holding in
    let name = c.in-Some.name.now in
    let named : Some name ≡ write_name text = sym (ap bytes_option c.in-Some.is) ∙ c.write_name.ensures in
    let (done, holds) = c.watch_writes.ensures s d st in
    subst (λ name. WatchesBy stands s d h name (watch_of (command_of (before_if text))) (written_in text) (condition_in text) session new) named
    (done, holds ∙ ap (writes_watched_then s d h name) c.condition_in.ensures)

pub returns-in-None : goal.returns-in-None
returns-in-None g c s d st =
    let stands = g.M.RecordedMachine.stands in
    let text = c.args.text.now in
    let none : None ≡ write_name text = sym (ap bytes_option c.in-None.is) ∙ c.write_name.ensures in
    subst (λ name. WatchesBy stands s d (held c.args.holding.now) name (watch_of (command_of (before_if text))) (written_in text) (condition_in text) c.watch_shown.new.session (held c.watch_shown.new.holding))
    none (c.watch_shown.ensures s d st)
