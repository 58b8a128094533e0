use Rattle.std.proofs.Common.{◌∙◌, ap, arith, length, refl, sym}
use Rattle.std.specs.Prelude.{max}
use Rattle.std.proofs.lemmas.List.{take_all}
use Rattle.std.proofs.lemmas.Option.{slice_get_read}
use Rattle.codegen.specs.Cells.{cells_by, most_set}
use Rattle.codegen.proofs.StepWords.{cells_by-few, cells_more, cells_same, most_within}
use Rattle.codegen.proofs.counting.cells.Goals as goal

pub most_set-requires-clause-few : goal.most_set-requires-clause-few
most_set-requires-clause-few c =
    let functions = c.deref-steps-items.result.now in
    let i = c.loop-steps.steps-index in
    let item = c.steps-item.result in
    let one = most_within c.args.width functions i item (slice_get_read functions (length functions) i item refl c.loop-steps-test.true c.steps-item.is) in
    let well_scoped = c.requires.well_scoped in
    let few = cells_by-few c.args.width c.args.code.now.functions.items well_scoped.0 well_scoped.1 well_scoped.2 well_scoped.3 well_scoped.4 in
    let whole = ap (cells_by c.args.width) c.deref-steps-items.ensures.value in
    let same = ap (most_set c.args.width) c.deref.ensures.value in
    omega (arith, one, same, few, whole)

pub loop-steps-preserved : goal.loop-steps-preserved
loop-steps-preserved c =
    c.max-most.ensures
    ∙ ap (max c.loop-steps.most) (c.most_set.ensures ∙ ap (most_set c.args.width) c.deref.ensures.value)
    ∙ ap (λ n. max n (most_set c.args.width c.steps-item.result.items)) c.loop-steps.invariant
    ∙ sym (cells_more c.args.width c.deref-steps-items.result.now c.loop-steps.steps-index c.steps-item.result c.loop-steps-test.true c.steps-item.is)

pub returns-clause-exact : goal.returns-clause-exact
returns-clause-exact c program does =
    let functions = c.deref-steps-items.result.now in
    c.loop-steps.invariant
    ∙ ap (cells_by c.args.width) (take_all c.loop-steps.steps-index functions c.loop-steps-test.false ∙ c.deref-steps-items.ensures.value)
    ∙ cells_same c.args.width c.args.code.now.functions.items program does

pub returns-clause-few : goal.returns-clause-few
returns-clause-few c =
    let functions = c.deref-steps-items.result.now in
    let well_scoped = c.requires.well_scoped in
    let few = cells_by-few c.args.width c.args.code.now.functions.items well_scoped.0 well_scoped.1 well_scoped.2 well_scoped.3 well_scoped.4 in
    let whole = ap (cells_by c.args.width) c.deref-steps-items.ensures.value in
    let done = c.loop-steps.invariant ∙ ap (cells_by c.args.width) (take_all c.loop-steps.steps-index functions c.loop-steps-test.false) in
    omega (arith, done, few, whole)
