use Rattle.std.proofs.Common.{Some, ap, ◌∙◌}
use Rattle.prompt_lines.specs.Conditions.{condition_in}
use Rattle.prompt_scenes.specs.Conditions.{made_so}
use Rattle.prompt_scenes.specs.FrameWatches.{with_expression}
use Rattle.prompt_scenes.specs.Holding.{held}
use Rattle.prompt_stops.specs.Breaking.{watch_made}
use Rattle.prompt_stops.proofs.expressions.watch_meant.Goals as goal

pub returns : goal.returns
returns g c s d st =
    let h = held c.args.holding.now in
    let text = c.args.written.now in
    let number = c.take_number-number.result in
    let (done, taken) = c.take_number-number.ensures s d st in
    let held_with = c.add_expression.ensures ∙ ap (λ w. with_expression w h) c.watch_made.ensures in
    let made = c.set_made.ensures ∙ ap (λ condition. made_so number condition (held c.add_expression.new.self)) c.condition_in.ensures ∙ ap (made_so number (condition_in c.args.text.now)) held_with in
    (done, made ∙ ap (λ n. made_so n (condition_in c.args.text.now) (with_expression (watch_made n c.args.depth (Some c.args.spot) text) h)) taken)
