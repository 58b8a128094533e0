use Rattle.std.proofs.Common.{arith}
use Rattle.machine_states.specs.Shows.{level_words}
use Rattle.machine_words.specs.Words.{regions_in}
use Rattle.frame_steps.proofs.FrameLevels.{any_left, end_there, keeps_here, rounds_here}
use Rattle.frame_steps.proofs.GangLanes.{rounds_small}
use Rattle.gang_machine.proofs.LaneNumbers.{in_round, none_left, round_left}
use Rattle.gang_machine.proofs.lanes.number_in_form.Goals as goal

pub word-end-requires-clause-within : goal.word-end-requires-clause-within
word-end-requires-clause-within g c =
    let (form, has) = c.requires.form in
    let long = end_there g.T.Timeline.history g.row.W c.args.compiled.now c.args.words.now c.requires.lie c.args.frame c.requires.there c.args.level has.is_form.counted in
    omega (arith, long)

pub number_at-number-requires-clause-numbered : goal.number_at-number-requires-clause-numbered
number_at-number-requires-clause-numbered g c =
    let (form, has) = c.requires.form in has.is_form.sized

pub round_form-form-requires-clause-round : goal.round_form-form-requires-clause-round
round_form-form-requires-clause-round g c =
    let (form, has) = c.requires.form in
    let regions = regions_in g.T.Timeline.history g.row.W c.args.words.now in (
      has.f,
      form,
      rounds_here g.row.W c.args.compiled.now c.requires.lie.compiled_is regions c.args.frame c.args.level c.args.function form has c.word-end.result c.word-end.ensures,
    )

pub kept_rounds-left-requires : goal.kept_rounds-left-requires
kept_rounds-left-requires g c =
    let (form, has) = c.requires.form in
    let lie = c.requires.lie in
    let regions = regions_in g.T.Timeline.history g.row.W c.args.words.now in
    let is = rounds_here g.row.W c.args.compiled.now lie.compiled_is regions c.args.frame c.args.level c.args.function form has c.word-end.result c.word-end.ensures in
    let keeps = keeps_here g.row.W c.args.compiled.now lie.compiled_is regions c.args.frame c.args.level c.args.function form has c.round_form-form.result.now (c.round_form-form.ensures has.f form is) in
    (rounds_small g.row.W lie.gang, (lie.gang, (lie.laid, (form, keeps))))

pub is_any_left-requires : goal.is_any_left-requires
is_any_left-requires g c =
    let (form, has) = c.requires.form in
    let lie = c.requires.lie in
    let regions = regions_in g.T.Timeline.history g.row.W c.args.words.now in
    let is = rounds_here g.row.W c.args.compiled.now lie.compiled_is regions c.args.frame c.args.level c.args.function form has c.word-end.result c.word-end.ensures in
    let keeps = keeps_here g.row.W c.args.compiled.now lie.compiled_is regions c.args.frame c.args.level c.args.function form has c.round_form-form.result.now (c.round_form-form.ensures has.f form is) in
    (rounds_small g.row.W lie.gang, (lie.gang, (c.kept_rounds-left.ensures form keeps).are_left))

pub returns-then-number-end : goal.returns-then-number-end
returns-then-number-end g c form has =
    let regions = regions_in g.T.Timeline.history g.row.W c.args.words.now in
    in_round g.row.W c.args.lane form (level_words regions c.args.frame c.args.level) c.word-end.result c.number_at-number.result c.word-end.ensures c.number_at-number.ensures c.if-number-end.true

pub returns : goal.returns
returns g c form has =
    let lie = c.requires.lie in
    let regions = regions_in g.T.Timeline.history g.row.W c.args.words.now in
    let is = rounds_here g.row.W c.args.compiled.now lie.compiled_is regions c.args.frame c.args.level c.args.function form has c.word-end.result c.word-end.ensures in
    let keeps = keeps_here g.row.W c.args.compiled.now lie.compiled_is regions c.args.frame c.args.level c.args.function form has c.round_form-form.result.now (c.round_form-form.ensures has.f form is) in
    round_left g.row.W c.args.lane form (level_words regions c.args.frame c.args.level) c.word-end.result c.number_at-number.result c.word-end.ensures c.number_at-number.ensures c.is_any_left.result
    (any_left g.row.W regions c.args.frame c.args.level form c.kept_rounds-left.result c.is_any_left.result (c.kept_rounds-left.ensures form keeps) c.is_any_left.ensures)
    c.if-not-is_any_left.false c.if-number-end.false

pub returns-then-not-is_any_left : goal.returns-then-not-is_any_left
returns-then-not-is_any_left g c form has =
    let lie = c.requires.lie in
    let regions = regions_in g.T.Timeline.history g.row.W c.args.words.now in
    let is = rounds_here g.row.W c.args.compiled.now lie.compiled_is regions c.args.frame c.args.level c.args.function form has c.word-end.result c.word-end.ensures in
    let keeps = keeps_here g.row.W c.args.compiled.now lie.compiled_is regions c.args.frame c.args.level c.args.function form has c.round_form-form.result.now (c.round_form-form.ensures has.f form is) in
    none_left g.row.W c.args.lane form (level_words regions c.args.frame c.args.level) c.word-end.result c.number_at-number.result c.word-end.ensures c.number_at-number.ensures c.is_any_left.result
    (any_left g.row.W regions c.args.frame c.args.level form c.kept_rounds-left.result c.is_any_left.result (c.kept_rounds-left.ensures form keeps) c.is_any_left.ensures)
    c.if-not-is_any_left.true c.if-number-end.false
