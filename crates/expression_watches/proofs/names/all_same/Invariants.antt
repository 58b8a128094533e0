-- the tokens before this one stand for the same at both steps
use Rattle.std.proofs.Common.{◌≡◌, drop}
use Rattle.std.specs.List.{list_all}
use Rattle.ispc_lexer.specs.Views.{lexemes_of}
use Rattle.typed_tree.specs.Views.{program_view}
use Rattle.expression_watches.specs.Names.{same_at}
use Rattle.expression_watches.proofs.names.all_same.Given as goal

abbrev pub invariant-loop-token : goal.invariant-loop-token
invariant-loop-token l =
    list_all (λ t. same_at (program_view l.program) l.one l.other t.sort) (lexemes_of (drop l.token-index l.tokens)) ≡ list_all (λ t. same_at (program_view l.program) l.one l.other t.sort) (lexemes_of l.tokens)
