use Rattle.std.proofs.Common.{◌≡◌, None, Some, false, refl, sym, subst, ap, ◌∙◌}
use Rattle.command_lists.proofs.DoneLists.{done_nothing}
use Rattle.prompt_lines.specs.Conditions.{condition_in}
use Rattle.prompt_lines.specs.Readings.{bytes_option}
use Rattle.prompt_scenes.specs.Holding.{held}
use Rattle.prompt_stops.specs.Breaking.{DoesWatch, Watches, written_in}
use Rattle.prompt_stops.proofs.expressions.watch_written.Goals as goal

pub returns-in-Some : goal.returns-in-Some
returns-in-Some g c s d st =
    let stands = g.M.RecordedMachine.stands in
    let named : Some c.in-Some.written.now ≡ written_in c.args.text.now = sym (ap bytes_option c.in-Some.is) ∙ c.written_in.ensures in
    subst (λ text. Watches stands s d (held c.args.holding.now) None text (condition_in c.args.text.now) c.watch_text.new.session (held c.watch_text.new.holding))
    named (c.watch_text.ensures s d st)

pub returns-in-None : goal.returns-in-None
returns-in-None g c s d st =
    let stands = g.M.RecordedMachine.stands in
    let none : None ≡ written_in c.args.text.now = sym (ap bytes_option c.in-None.is) ∙ c.written_in.ensures in
    record {
      refused = false;
      does = subst (λ text. DoesWatch stands s d (held c.args.holding.now) None text (condition_in c.args.text.now) false c.args.session.now (held c.args.holding.now)) none
          (done_nothing stands s d c.args.session.now st, refl);
    }
