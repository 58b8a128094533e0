use Rattle.std.proofs.Common.{◌<◌, length, arith}
use Rattle.placed_expressions.proofs.Functions.{function_found, function_other}
use Rattle.placed_expressions.proofs.called.is_function.Goals as goal

pub returns-then-eq : goal.returns-then-eq
returns-then-eq c =
    let fs = c.args.functions.now in
    let i = c.loop-function.function-index in
    let below : i < length fs = omega (arith, c.loop-function-test.true) in
    function_found fs i c.function-item.result c.args.name.now c.as_slice.result.now below c.function-item.is c.as_slice.ensures.value c.loop-function.invariant c.if-eq.ensures

pub loop-function-preserved : goal.loop-function-preserved
loop-function-preserved c =
    let fs = c.args.functions.now in
    let i = c.loop-function.function-index in
    let below : i < length fs = omega (arith, c.loop-function-test.true) in
    function_other fs i c.function-item.result c.args.name.now c.as_slice.result.now below c.function-item.is c.as_slice.ensures.value c.loop-function.invariant c.if-eq.ensures
