use Rattle.std.proofs.Common.{subst}
use Rattle.foreach_lowering.specs.RoundViews.{IsNextRound}
use Rattle.frame_steps.proofs.GangLanes.{rounds_small}
use Rattle.machine_rounds.proofs.RoundSteps.{keeps_at, one_at, rounds_at}
use Rattle.machine_rounds.proofs.RoundWrites.{round_small}
use Rattle.machine_rounds.proofs.rounds.next_round.Goals as goal

pub round_form-form-requires-clause-round : goal.round_form-form-requires-clause-round
round_form-form-requires-clause-round g c =
    let (body, turn) = c.requires.turn in
    let (form, are) = rounds_at g.T.Timeline.history g.row.W c.args.compiled.now c.args.words.now c.requires.sound c.args.active body turn in
    (turn.0, form, are)

pub kept_rounds-left-requires : goal.kept_rounds-left-requires
kept_rounds-left-requires g c =
    let (body, turn) = c.requires.turn in
    let lie = c.requires.sound.lie in
    let (form, are) = rounds_at g.T.Timeline.history g.row.W c.args.compiled.now c.args.words.now c.requires.sound c.args.active body turn in
    let keeps = keeps_at g.T.Timeline.history g.row.W c.args.compiled.now c.args.words.now c.requires.sound c.args.active body turn form are c.round_form-form.result.now (c.round_form-form.ensures turn.0 form are) in
    (rounds_small g.row.W lie.gang, (lie.gang, (lie.laid, (form, keeps))))

pub next_round-requires : goal.next_round-requires
next_round-requires g c =
    let (body, turn) = c.requires.turn in
    let lie = c.requires.sound.lie in
    let (form, are) = rounds_at g.T.Timeline.history g.row.W c.args.compiled.now c.args.words.now c.requires.sound c.args.active body turn in
    let keeps = keeps_at g.T.Timeline.history g.row.W c.args.compiled.now c.args.words.now c.requires.sound c.args.active body turn form are c.round_form-form.result.now (c.round_form-form.ensures turn.0 form are) in
    (rounds_small g.row.W lie.gang, (round_small g.row.W lie.gang, (lie.gang, (c.kept_rounds-left.ensures form keeps).are_left)))

pub unreachable-requires : goal.unreachable-requires
unreachable-requires g c =
    let (body, turn) = c.requires.turn in
    let (form, are) = rounds_at g.T.Timeline.history g.row.W c.args.compiled.now c.args.words.now c.requires.sound c.args.active body turn in
    let keeps = keeps_at g.T.Timeline.history g.row.W c.args.compiled.now c.args.words.now c.requires.sound c.args.active body turn form are c.round_form-form.result.now (c.round_form-form.ensures turn.0 form are) in
    one_at g.T.Timeline.history g.row.W c.args.compiled.now c.args.words.now c.requires.sound c.args.active body turn form are c.kept_rounds-left.result (c.kept_rounds-left.ensures form keeps)
    (subst (IsNextRound g.row.W c.kept_rounds-left.result) c.in-None.is c.next_round.ensures.next)

pub returns : goal.returns
returns g c =
    let (body, turn) = c.requires.turn in
    let (form, are) = rounds_at g.T.Timeline.history g.row.W c.args.compiled.now c.args.words.now c.requires.sound c.args.active body turn in
    let keeps = keeps_at g.T.Timeline.history g.row.W c.args.compiled.now c.args.words.now c.requires.sound c.args.active body turn form are c.round_form-form.result.now (c.round_form-form.ensures turn.0 form are) in
    record {
      f = turn.0;
      form = form;
      are_rounds = are;
      left = c.kept_rounds-left.result;
      are_left = c.kept_rounds-left.ensures form keeps;
      is_next = subst (IsNextRound g.row.W c.kept_rounds-left.result) c.in-Some.is c.next_round.ensures.next;
    }
