use Rattle.std.proofs.Common.{◌≡◌, None, Some, sym, subst, ap, ◌∙◌}
use Rattle.command_lists.specs.Lists.{HasDone}
use Rattle.debug_commands.specs.Views.{target_view}
use Rattle.debug_session.specs.Sessions.{bare}
use Rattle.prompt_lines.specs.Readings.{bytes_option}
use Rattle.prompt_scenes.specs.SelectedFrame.{depth_of}
use Rattle.prompt_scenes.specs.FrameWatches.{local_named}
use Rattle.prompt_scenes.specs.Holding.{held}
use Rattle.prompt_stops.specs.Breaking.{watched_as, watched_then}
use Rattle.prompt_stops.proofs.breaking.watch_target.Goals as goal

pub returns-in-Some : goal.returns-in-Some
returns-in-Some g c s d st text =
    let stands = g.M.RecordedMachine.stands in
    let h = held c.args.holding.now in
    let target = target_view c.args.target in
    let deep = c.selected_depth-depth.ensures s d st in
    let there = subst (λ m. stands m s (bare d)) (sym c.machine.ensures) st.there in
    let found : Some c.in-Some.id ≡ local_named s d (depth_of s d h) target = c.in-Some.ensures s (bare d) there ∙ ap (λ n. local_named s d n target) deep in
    subst (λ local. HasDone stands s (watched_as s d h target local) d c.watch_local.new.session × (held c.watch_local.new.holding ≡ watched_then s d h target local (bytes_option c.args.condition)))
    found (c.watch_local.ensures s d st deep)

pub returns-in-None : goal.returns-in-None
returns-in-None g c s d st text =
    let stands = g.M.RecordedMachine.stands in
    let h = held c.args.holding.now in
    let target = target_view c.args.target in
    let deep = c.selected_depth-depth.ensures s d st in
    let there = subst (λ m. stands m s (bare d)) (sym c.machine.ensures) st.there in
    let found : None ≡ local_named s d (depth_of s d h) target = sym c.in-None.is ∙ c.local_named.ensures s (bare d) there ∙ ap (λ n. local_named s d n target) deep in
    subst (λ local. HasDone stands s (watched_as s d h target local) d c.watch_file.new.session × (held c.watch_file.new.holding ≡ watched_then s d h target local (bytes_option c.args.condition)))
    found (c.watch_file.ensures s d st)
