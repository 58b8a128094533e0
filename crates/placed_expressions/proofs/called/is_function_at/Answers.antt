use Rattle.std.proofs.Common.{◌<◌, length, arith}
use Rattle.std.specs.Prelude.{map}
use Rattle.typed_tree.specs.Views.{function_view}
use Rattle.placed_expressions.proofs.Functions.{token_found, token_other}
use Rattle.placed_expressions.proofs.called.is_function_at.Goals as goal

pub returns-then-is_named_at : goal.returns-then-is_named_at
returns-then-is_named_at c =
    let ts = c.args.tokens.now in
    let i = c.loop-token.token-index in
    let below : i < length ts = omega (arith, c.loop-token-test.true) in
    token_found (map function_view c.args.functions.now) c.args.place ts i c.token-item.result below c.token-item.is c.loop-token.invariant c.if-is_named_at.ensures

pub loop-token-preserved : goal.loop-token-preserved
loop-token-preserved c =
    let ts = c.args.tokens.now in
    let i = c.loop-token.token-index in
    let below : i < length ts = omega (arith, c.loop-token-test.true) in
    token_other (map function_view c.args.functions.now) c.args.place ts i c.token-item.result below c.token-item.is c.loop-token.invariant c.if-is_named_at.ensures
