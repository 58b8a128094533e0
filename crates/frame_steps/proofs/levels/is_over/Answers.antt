use Rattle.std.proofs.Common.{◌∙◌, sym, ap₂, arith}
use Rattle.mask_states.specs.Masked.{least}
use Rattle.machine_states.specs.Shows.{level_words}
use Rattle.machine_words.specs.Words.{regions_in}
use Rattle.frame_steps.proofs.FrameLevels.{any_left, end_there, keeps_here, over_is, rounds_here}
use Rattle.frame_steps.proofs.GangLanes.{rounds_small}
use Rattle.frame_steps.proofs.levels.is_over.Goals as goal

pub word-end-requires-clause-within : goal.word-end-requires-clause-within
word-end-requires-clause-within g c =
    let (form, has) = c.requires.form in
    let long = end_there g.T.Timeline.history g.row.W c.args.compiled.now c.args.words.now c.requires.lie c.args.frame c.requires.there c.args.level has.is_form.counted in
    omega (arith, long)

pub round_form-form-requires-clause-round : goal.round_form-form-requires-clause-round
round_form-form-requires-clause-round g c =
    let (form, has) = c.requires.form in
    let regions = regions_in g.T.Timeline.history g.row.W c.args.words.now in (
      has.f,
      form,
      rounds_here g.row.W c.args.compiled.now c.requires.lie.compiled_is regions c.args.frame c.args.level c.args.function form has c.word-end.result c.word-end.ensures,
    )

pub kept_rounds-left-requires : goal.kept_rounds-left-requires
kept_rounds-left-requires g c =
    let (form, has) = c.requires.form in
    let lie = c.requires.lie in
    let regions = regions_in g.T.Timeline.history g.row.W c.args.words.now in
    let is = rounds_here g.row.W c.args.compiled.now lie.compiled_is regions c.args.frame c.args.level c.args.function form has c.word-end.result c.word-end.ensures in
    let keeps = keeps_here g.row.W c.args.compiled.now lie.compiled_is regions c.args.frame c.args.level c.args.function form has c.round_form-form.result.now (c.round_form-form.ensures has.f form is) in
    (rounds_small g.row.W lie.gang, (lie.gang, (lie.laid, (form, keeps))))

pub is_any_left-requires : goal.is_any_left-requires
is_any_left-requires g c =
    let (form, has) = c.requires.form in
    let lie = c.requires.lie in
    let regions = regions_in g.T.Timeline.history g.row.W c.args.words.now in
    let is = rounds_here g.row.W c.args.compiled.now lie.compiled_is regions c.args.frame c.args.level c.args.function form has c.word-end.result c.word-end.ensures in
    let keeps = keeps_here g.row.W c.args.compiled.now lie.compiled_is regions c.args.frame c.args.level c.args.function form has c.round_form-form.result.now (c.round_form-form.ensures has.f form is) in
    (rounds_small g.row.W lie.gang, (lie.gang, (c.kept_rounds-left.ensures form keeps).are_left))

pub returns : goal.returns
returns g c form has =
    let lie = c.requires.lie in
    let regions = regions_in g.T.Timeline.history g.row.W c.args.words.now in
    let is = rounds_here g.row.W c.args.compiled.now lie.compiled_is regions c.args.frame c.args.level c.args.function form has c.word-end.result c.word-end.ensures in
    let keeps = keeps_here g.row.W c.args.compiled.now lie.compiled_is regions c.args.frame c.args.level c.args.function form has c.round_form-form.result.now (c.round_form-form.ensures has.f form is) in
    over_is g.row.W form (level_words regions c.args.frame c.args.level) c.is_any_left.result
    (sym (c.least.ensures ∙ ap₂ (λ end ns. least end ns) c.word-end.ensures c.lanes-numbers.ensures) ∙ c.if-least-end.false ∙ c.word-end.ensures)
    (any_left g.row.W regions c.args.frame c.args.level form c.kept_rounds-left.result c.is_any_left.result (c.kept_rounds-left.ensures form keeps) c.is_any_left.ensures)
