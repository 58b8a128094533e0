use Rattle.std.proofs.Common.{◌∙◌, ap, arith, length, refl, sym}
use Rattle.std.specs.Prelude.{max}
use Rattle.std.proofs.lemmas.Option.{slice_get_read}
use Rattle.machine_states.proofs.Cells.{greatest_enough}
use Rattle.codegen.specs.Cells.{words_set_by}
use Rattle.codegen.proofs.StepWords.{greater_is, greatest_more}
use Rattle.codegen.proofs.counting.most_set.Goals as goal

pub words_set-requires-clause-few : goal.words_set-requires-clause-few
words_set-requires-clause-few c =
    let steps = c.args.steps.now in
    let i = c.loop-step.step-index in
    let item = c.step-item.result in
    let one = greatest_enough (words_set_by c.args.width) steps i item (slice_get_read steps (length steps) i item refl c.loop-step-test.true c.step-item.is) in
    omega (arith, one, c.requires.few)

pub loop-step-preserved : goal.loop-step-preserved
loop-step-preserved c =
    c.max-most.ensures
    ∙ greater_is c.loop-step.most c.words_set.result
    ∙ ap (max c.loop-step.most) c.words_set.ensures
    ∙ ap (λ n. max n (words_set_by c.args.width c.step-item.result)) c.loop-step.invariant
    ∙ sym (greatest_more (words_set_by c.args.width) c.args.steps.now c.loop-step.step-index c.step-item.result c.loop-step-test.true c.step-item.is)
