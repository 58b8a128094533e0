use Rattle.std.proofs.Common.{◌<◌, length, sym, ap, ◌∙◌, arith}
use Rattle.std.proofs.lemmas.List.{take_rest}
use Rattle.ispc_lexer.specs.Views.{lexemes_of}
use Rattle.placed_expressions.specs.Refusals.{begins_unknown}
use Rattle.placed_expressions.proofs.IndexedNames.{array_found, array_other}
use Rattle.placed_expressions.proofs.unknown.indexes_unknown.Goals as goal

pub loop-number-preserved : goal.loop-number-preserved
loop-number-preserved c =
    let ts = c.args.tokens.now in
    let i = c.loop-number.number in
    let scope = c.args.scope.now.entries in
    let below : i < length ts = omega (arith, c.loop-number-test.true) in
    array_other scope c.args.place ts i below c.loop-number.invariant (c.if-begins_unknown.ensures ∙ ap (λ xs. begins_unknown scope c.args.place (lexemes_of xs)) (take_rest ts i))
