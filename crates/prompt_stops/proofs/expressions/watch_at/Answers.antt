use Rattle.std.proofs.Common.{◌≡◌, Some, true, false, sym, subst, ap, ◌∙◌}
use Rattle.gang_model.specs.Debugger.Debugger.{now}
use Rattle.debug_session.specs.Sessions.{bare}
use Rattle.debug_traits.specs.Frames.{spot_at}
use Rattle.typed_tree.specs.Views.{program_view}
use Rattle.expression_watches.specs.Meanings.{IsDenied, is_meant}
use Rattle.prompt_lines.specs.Conditions.{condition_in}
use Rattle.prompt_scenes.specs.Conditions.{made_so}
use Rattle.prompt_scenes.specs.FrameWatches.{with_expression}
use Rattle.prompt_scenes.specs.Holding.{held}
use Rattle.prompt_scenes.specs.SelectedFrame.{depth_of}
use Rattle.prompt_stops.specs.Breaking.{spot_of, taken, watch_made}
use Rattle.prompt_stops.proofs.WatchedTexts.{can, is_watched, refused}
use Rattle.prompt_stops.proofs.expressions.watch_at.Goals as goal

pub returns-in-Ok : goal.returns-in-Ok
returns-in-Ok g c s d st deep at room =
    let stands = g.M.RecordedMachine.stands in
    let h = held c.args.holding.now in
    let text = c.args.written.now in
    let there = subst (λ m. stands m s (bare d)) (sym c.machine.ensures) st.there in
    let of : s.program ≡ program_view c.program-program.result.now = c.program-program.ensures s (bare d) there in
    let here : spot_of s d h ≡ Some c.args.spot = ap (λ n. spot_at s.program n (now s d)) (sym deep) ∙ at in
    let meant : is_meant s.program c.args.spot text ≡ true = ap (λ p. is_meant p c.args.spot text) of ∙ c.in-Ok.ensures.meant in
    let (done, holds) = c.watch_meant.ensures s d st in
    let then = holds ∙ ap (λ n. made_so (taken s d) (condition_in c.args.text.now) (with_expression (watch_made (taken s d) n (Some c.args.spot) text) h)) deep in
    record {
      refused = false;
      does = is_watched s d h text stands (condition_in c.args.text.now) c.watch_meant.new.session (held c.watch_meant.new.holding) (can s d h text c.args.spot room here meant) done
          (then ∙ ap (λ spot. made_so (taken s d) (condition_in c.args.text.now) (with_expression (watch_made (taken s d) (depth_of s d h) spot text) h)) (sym here));
    }

pub returns-in-Err : goal.returns-in-Err
returns-in-Err g c s d st deep at room =
    let stands = g.M.RecordedMachine.stands in
    let h = held c.args.holding.now in
    let text = c.args.written.now in
    let there = subst (λ m. stands m s (bare d)) (sym c.machine.ensures) st.there in
    let of : s.program ≡ program_view c.program-program.result.now = c.program-program.ensures s (bare d) there in
    let here : spot_of s d h ≡ Some c.args.spot = ap (λ n. spot_at s.program n (now s d)) (sym deep) ∙ at in
    let denied : IsDenied text s.program c.args.spot c.in-Err.refusal = subst (λ p. IsDenied text p c.args.spot c.in-Err.refusal) (sym of) c.in-Err.ensures.denied in
    refused s d h text stands (condition_in c.args.text.now) c.args.session.now c.args.spot c.in-Err.refusal here denied st
