-- the tokens before this one stand elsewhere, or are no names of functions
use Rattle.std.proofs.Common.{◌≡◌, drop}
use Rattle.std.specs.Prelude.{map}
use Rattle.ispc_lexer.specs.Views.{lexemes_of}
use Rattle.typed_tree.specs.Views.{function_view}
use Rattle.placed_expressions.specs.Refusals.{is_function_at}
use Rattle.placed_expressions.proofs.called.is_function_at.Given as goal

abbrev pub invariant-loop-token : goal.invariant-loop-token
invariant-loop-token l =
    is_function_at (map function_view l.functions) (lexemes_of (drop l.token-index l.tokens)) l.place ≡ is_function_at (map function_view l.functions) (lexemes_of l.tokens) l.place
