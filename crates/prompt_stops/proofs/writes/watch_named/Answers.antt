use Rattle.std.proofs.Common.{◌≡◌, None, Some, refl, sym, subst, ap, ◌∙◌}
use Rattle.command_lists.specs.Lists.{HasDone}
use Rattle.command_lists.proofs.DoneLists.{done_nothing}
use Rattle.debug_commands.specs.Views.{target_view}
use Rattle.debug_session.specs.Sessions.{bare}
use Rattle.prompt_lines.specs.Readings.{bytes_option}
use Rattle.prompt_scenes.specs.FrameWatches.{place_named}
use Rattle.prompt_scenes.specs.Holding.{held}
use Rattle.prompt_scenes.specs.SelectedFrame.{depth_of}
use Rattle.prompt_stops.specs.Breaking.{writes_by, writes_then}
use Rattle.prompt_stops.proofs.writes.watch_named.Goals as goal

pub returns-in-Some : goal.returns-in-Some
returns-in-Some g c s d st =
    let stands = g.M.RecordedMachine.stands in
    let h = held c.args.holding.now in
    let target = target_view c.args.target in
    let deep = c.selected_depth-depth.ensures s d st in
    let there = subst (λ m. stands m s (bare d)) (sym c.machine.ensures) st.there in
    let found : Some c.in-Some.place ≡ place_named s d (depth_of s d h) target = sym c.in-Some.is ∙ c.place_named.ensures s (bare d) there ∙ ap (λ n. place_named s d n target) deep in
    subst (λ place. HasDone stands s (writes_by s d h place) d c.watch_place.new.session × (held c.watch_place.new.holding ≡ writes_then s d h target.name place (bytes_option c.args.condition)))
    found (c.watch_place.ensures s d st deep)

pub returns-in-None : goal.returns-in-None
returns-in-None g c s d st =
    let stands = g.M.RecordedMachine.stands in
    let h = held c.args.holding.now in
    let target = target_view c.args.target in
    let deep = c.selected_depth-depth.ensures s d st in
    let there = subst (λ m. stands m s (bare d)) (sym c.machine.ensures) st.there in
    let found : None ≡ place_named s d (depth_of s d h) target = sym c.in-None.is ∙ c.place_named.ensures s (bare d) there ∙ ap (λ n. place_named s d n target) deep in
    subst (λ place. HasDone stands s (writes_by s d h place) d c.args.session.now × (h ≡ writes_then s d h target.name place (bytes_option c.args.condition)))
    found (done_nothing stands s d c.args.session.now st, refl)
