use Rattle.std.proofs.Common.{◌∙◌, ap, sym, ℕ}
use Rattle.std.specs.Prelude.{max}
use Rattle.foreach_lowering.specs.declared.forms.FunctionForms.{FunctionForms}
use Rattle.codegen.proofs.StepWords.{greater_is, greatest_more}
use Rattle.codegen.proofs.compiling.most_levels.Goals as goal

abbrev depth_of : FunctionForms → ℕ
depth_of forms = forms.depth

pub loop-forms-preserved : goal.loop-forms-preserved
loop-forms-preserved c =
    c.max-most.ensures
    ∙ greater_is c.loop-forms.most c.forms-item.result.depth
    ∙ ap (λ n. max n c.forms-item.result.depth) c.loop-forms.invariant
    ∙ sym (greatest_more depth_of c.args.functions.now c.loop-forms.forms-index c.forms-item.result c.loop-forms-test.true c.forms-item.is)
