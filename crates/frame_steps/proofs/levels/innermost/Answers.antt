use Rattle.std.proofs.Common.{◌∙◌, sym, arith}
use Rattle.machine_words.specs.Words.{regions_in}
use Rattle.frame_steps.proofs.FrameLevels.{down_last, down_next}
use Rattle.frame_steps.proofs.RunningFrames.{open_word, running_form, running_function}
use Rattle.frame_steps.proofs.levels.innermost.Goals as goal

pub word-level-requires-clause-within : goal.word-level-requires-clause-within
word-level-requires-clause-within g c =
    let long = open_word g.T.Timeline.history g.row.W c.args.compiled.now c.args.words.now c.requires.sound c.args.frame c.args.function c.requires.runs in
    omega (arith, long)

pub is_over-requires-clause-form : goal.is_over-requires-clause-form
is_over-requires-clause-form g c =
    let (f, is) = running_function g.T.Timeline.history g.row.W c.args.compiled.now c.args.words.now c.requires.sound c.args.frame c.args.function c.requires.runs in
    running_form g.T.Timeline.history g.row.W c.args.compiled.now c.args.words.now c.requires.sound c.args.frame c.args.function c.requires.runs f is c.loop-level.level (omega arith) (c.loop-level.invariant f is)

pub loop-level-preserved : goal.loop-level-preserved
loop-level-preserved g c f is =
    down_next g.row.W (regions_in g.T.Timeline.history g.row.W c.args.words.now) c.args.frame f c.loop-level.level (omega arith) (c.loop-level.invariant f is)
    (λ form is_form. sym (c.is_over.ensures form (record { f = f; is_function = is; is_form = is_form })) ∙ c.if-is_over.true)

pub returns-else-is_over : goal.returns-else-is_over
returns-else-is_over g c f is =
    down_last g.row.W (regions_in g.T.Timeline.history g.row.W c.args.words.now) c.args.frame f c.loop-level.level (c.loop-level.invariant f is)
    (λ some form is_form. sym (c.is_over.ensures form (record { f = f; is_function = is; is_form = is_form })) ∙ c.if-is_over.false)

pub returns-after-loop-level : goal.returns-after-loop-level
returns-after-loop-level g c f is =
    down_last g.row.W (regions_in g.T.Timeline.history g.row.W c.args.words.now) c.args.frame f c.loop-level.level (c.loop-level.invariant f is)
    (λ some form is_form. absurd (omega (arith, some, c.loop-level-test.false)))
