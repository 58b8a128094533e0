use Rattle.std.proofs.Common.{◌≡◌, replicate, ◌++◌, subst, ap, ◌∙◌}
use Rattle.command_lists.specs.Lists.{HasDone}
use Rattle.conditional_stops.specs.Going.{answer_of, times}
use Rattle.conditional_stops.specs.Views.{table_of}
use Rattle.conditional_stops.specs.Walking.{WalksOn, step_of}
use Rattle.prompt_scenes.specs.Holding.{Held, held}
use Rattle.prompt_moves.specs.GivenMoves.{begun, follows}
use Rattle.prompt_moves.proofs.DoneCommands.{list_then}
use Rattle.prompt_going.specs.GoingOn.{most}
use Rattle.prompt_going.proofs.going.walk_to_stop.Goals as goal

pub returns : goal.returns
returns g c s d st =
    let stands = g.M.RecordedMachine.stands in
    let moved = c.walk_on-moved.result in
    let there = c.walk_on-moved.new.session in
    let table = table_of c.walk_on-moved.new.conditions in
    let h : Held = record (held c.args.holding.now) { table = table } in
    let goes = subst (λ watches. WalksOn stands s c.args.direction watches most d (table_of c.args.holding.now.conditions) moved there table) c.as_slice.ensures.value (c.walk_on-moved.ensures s d st) in
    let is : c.answer-answer.result ≡ answer_of moved.end = c.answer-answer.ensures in
    let first = replicate (times moved.passed moved.end) (step_of c.args.direction) in
    record {
      moved = moved;
      there = there;
      table = table;
      walks = goes;
      does = (
        subst (λ answer. HasDone stands s (first ++ follows h answer) d c.follow.new.session) is
            (list_then stands s d first (follows h c.answer-answer.result) there c.follow.new.session goes.done (λ e at. c.follow.ensures.done s e at)),
        c.follow.ensures.begun ∙ ap (begun h) is,
      );
    }
