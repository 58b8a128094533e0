use Rattle.std.proofs.Common.{◌≡◌, ◌≤◌, ◌∙◌, ap, arith, sym, subst, length, take}
use Rattle.std.specs.Prelude.{All, max}
use Rattle.std.proofs.Math.Seq.{take-length}
use Rattle.gang_memory.specs.Layouts.{most_variables}
use Rattle.gang_memory.proofs.MostVariables.{all_within, greater_is, most_more}
use Rattle.gang_memory.proofs.layout.most_variables.Goals as goal

pub loop-function-preserved : goal.loop-function-preserved
loop-function-preserved c =
    let variables = c.function-item.result.variables in
    let long : c.len.result ≡ length variables.items = omega (arith, c.len.ensures, variables.ok) in
    c.max-most.ensures
    ∙ greater_is c.loop-function.most c.len.result
    ∙ ap (λ n. max c.loop-function.most n) long
    ∙ ap (λ n. max n (length variables.items)) c.loop-function.invariant
    ∙ sym (most_more c.args.functions.now c.loop-function.function-index c.function-item.result c.loop-function-test.true c.function-item.is)

pub returns-clause-enough : goal.returns-clause-enough
returns-clause-enough c =
    let functions = c.args.functions.now in
    let last : c.loop-function.function-index ≡ length functions = omega (arith, c.loop-function.auto.function-index-end, c.loop-function-test.false) in
    let whole : take c.loop-function.function-index functions ≡ functions = ap (λ n. take n functions) last ∙ take-length functions in
    subst (λ n. All (λ f. length f.variables.items ≤ n) functions) (sym (c.loop-function.invariant ∙ ap most_variables whole)) (all_within functions)
