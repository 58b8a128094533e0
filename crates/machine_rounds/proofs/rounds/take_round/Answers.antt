use Rattle.machine_words.specs.Words.{regions_in}
use Rattle.frame_steps.proofs.GangLanes.{rounds_small}
use Rattle.machine_rounds.proofs.RoundSteps.{may_count, may_declare_all, may_send_round, round_ends, round_next}
use Rattle.machine_rounds.proofs.RoundWrites.{indices_small}
use Rattle.machine_rounds.proofs.rounds.take_round.Goals as goal

pub count_left-requires : goal.count_left-requires
count_left-requires g c =
    let history = g.T.Timeline.history in
    let turn = round_next g.row.W c.args.compiled.now (regions_in history g.row.W c.args.words.now) c.args.active c.args.body c.requires.does in (
      rounds_small g.row.W c.requires.sound.lie.gang,
      may_count history g.row.W c.args.compiled.now c.args.words.now c.requires.sound c.args.active c.args.body turn c.next_round-round.result c.next_round-round.ensures g.T.Timeline.left c.begin.new.words c.begin.ensures,
    )

pub send_on-requires : goal.send_on-requires
send_on-requires g c =
    let history = g.T.Timeline.history in
    let turn = round_next g.row.W c.args.compiled.now (regions_in history g.row.W c.args.words.now) c.args.active c.args.body c.requires.does in
    may_send_round history g.row.W c.args.compiled.now c.args.words.now c.requires.sound c.args.active c.args.body turn c.next_round-round.result c.next_round-round.ensures g.T.Timeline.left c.begin.new.words c.begin.ensures
    c.count_left.new.words c.count_left.ensures

pub declare_all-requires : goal.declare_all-requires
declare_all-requires g c =
    let history = g.T.Timeline.history in
    let turn = round_next g.row.W c.args.compiled.now (regions_in history g.row.W c.args.words.now) c.args.active c.args.body c.requires.does in (
      indices_small g.row.W c.requires.sound.lie.gang,
      may_declare_all history g.row.W c.args.compiled.now c.args.words.now c.requires.sound c.args.active c.args.body turn c.next_round-round.result c.next_round-round.ensures g.T.Timeline.left c.begin.new.words c.begin.ensures
          c.count_left.new.words c.count_left.ensures c.send_on.new.words c.send_on.ensures
          c.round_form-form.result.now c.round_form-form.ensures c.index_variables-variables.result.now c.index_variables-variables.ensures,
    )

pub returns : goal.returns
returns g c = λ masked shown.
    let history = g.T.Timeline.history in
    let turn = round_next g.row.W c.args.compiled.now (regions_in history g.row.W c.args.words.now) c.args.active c.args.body c.requires.does in
    round_ends history g.row.W c.args.compiled.now c.args.words.now c.requires.sound c.args.active c.args.body turn c.next_round-round.result c.next_round-round.ensures g.T.Timeline.left c.begin.new.words c.begin.ensures
    c.count_left.new.words c.count_left.ensures c.send_on.new.words c.send_on.ensures
    c.round_form-form.result.now c.round_form-form.ensures c.index_variables-variables.result.now c.index_variables-variables.ensures c.declare_all.new.words c.declare_all.ensures masked shown
