-- at the tokens before this one no name that nothing has is indexed at the place
use Rattle.std.proofs.Common.{◌≡◌, drop}
use Rattle.ispc_lexer.specs.Views.{lexemes_of}
use Rattle.placed_expressions.specs.Refusals.{indexes_unknown}
use Rattle.placed_expressions.proofs.unknown.indexes_unknown.Given as goal

abbrev pub invariant-loop-number : goal.invariant-loop-number
invariant-loop-number l = indexes_unknown l.scope.entries (lexemes_of (drop l.number l.tokens)) l.place ≡ indexes_unknown l.scope.entries (lexemes_of l.tokens) l.place
