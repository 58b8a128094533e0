use Rattle.std.proofs.Common.{◌≡◌, ◌<◌, ◌+◌, [], ◌∷◌, ◌++◌, length, get_or, map, take, subst, ap, ◌∙◌, rules}
use Rattle.std.proofs.lemmas.List.{take_more}
use Rattle.gang_model.specs.Texts.CommandText.{command_of}
use Rattle.command_lists.specs.Lists.{HasDone}
use Rattle.prompt_scenes.specs.Readings.{print_of}
use Rattle.prompt_scenes.specs.Holding.{entry_of}
use Rattle.prompt_moves.specs.Following.{printed, shown}
use Rattle.prompt_moves.proofs.Displays.{shown_next}
use Rattle.prompt_moves.proofs.DoneCommands.{list_then}
use Rattle.prompt_moves.proofs.turning.show_displays.Goals as goal

pub loop-displayed-preserved : goal.loop-displayed-preserved
loop-displayed-preserved g c s d st =
    let stands = g.M.RecordedMachine.stands in
    let xs = c.args.displays.now in
    let i = c.loop-displayed.displayed-index in
    let x = c.displayed-item.result in
    let middle = c.loop-displayed.session in
    let new = c.show_display.new.session in
    let inside : i < length xs = search rules in
    let here : get_or xs i x ≡ x = search rules in
    let more : take (i + 1) xs ≡ take i xs ++ x ∷ [] = take_more xs i x inside ∙ ap (λ y. take i xs ++ y ∷ []) here in
    subst (λ cs. HasDone stands s cs d new) (shown_next xs i x more)
    (list_then stands s d (shown (map entry_of (take i xs))) (printed (print_of (command_of x.text.items))) middle new (c.loop-displayed.invariant s d st) (λ e there. c.show_display.ensures s e there))
