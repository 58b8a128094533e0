use Rattle.std.proofs.Common.{◌≡◌, None, Some, refl, sym, subst, ap, ◌∙◌}
use Rattle.gang_model.specs.Texts.CommandText.{command_of}
use Rattle.command_lists.specs.Lists.{HasDone}
use Rattle.command_lists.proofs.DoneLists.{done_nothing}
use Rattle.debug_commands.specs.TargetViews.{target_option}
use Rattle.debug_commands.specs.Views.{target_view}
use Rattle.prompt_lines.specs.Readings.{bytes_option}
use Rattle.prompt_scenes.specs.Holding.{held}
use Rattle.prompt_scenes.specs.Readings.{print_of}
use Rattle.prompt_stops.specs.Breaking.{place_target, writes_of, writes_of_then}
use Rattle.prompt_stops.proofs.writes.watch_writes.Goals as goal

pub returns-in-Some : goal.returns-in-Some
returns-in-Some g c s d st =
    let stands = g.M.RecordedMachine.stands in
    let h = held c.args.holding.now in
    let named : Some (target_view c.in-Some.target) ≡ place_target c.args.name.now =
    sym (ap target_option c.in-Some.is) ∙ c.print_of.ensures ∙ ap (λ text. print_of (command_of text)) (c.as_slice.ensures.value ∙ c.printing_line-line.ensures) in
    subst (λ target. HasDone stands s (writes_of s d h target) d c.watch_named.new.session × (held c.watch_named.new.holding ≡ writes_of_then s d h target (bytes_option c.args.condition)))
    named (c.watch_named.ensures s d st)

pub returns-in-None : goal.returns-in-None
returns-in-None g c s d st =
    let stands = g.M.RecordedMachine.stands in
    let h = held c.args.holding.now in
    let named : None ≡ place_target c.args.name.now =
    sym (ap target_option c.in-None.is) ∙ c.print_of.ensures ∙ ap (λ text. print_of (command_of text)) (c.as_slice.ensures.value ∙ c.printing_line-line.ensures) in
    subst (λ target. HasDone stands s (writes_of s d h target) d c.args.session.now × (h ≡ writes_of_then s d h target (bytes_option c.args.condition)))
    named (done_nothing stands s d c.args.session.now st, refl)
