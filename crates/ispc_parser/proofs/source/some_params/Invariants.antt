use Rattle.std.proofs.Common.{◌≡◌, ◌-◌, map}
use Rattle.gang_model.specs.Source.SpellsSource.{max_params}
use Rattle.ispc_lexer.specs.Views.{lexemes_of}
use Rattle.source_tree.specs.Tree.{param_view}
use Rattle.ispc_parser_shared.specs.Front.{list_of}
use Rattle.ispc_parser_shared.proofs.Lists.{with_front}
use Rattle.ispc_parser.specs.Source.{param_of, some_params_of}
use Rattle.ispc_parser.proofs.source.some_params.Given as goal

abbrev pub invariant-loop : goal.invariant-loop
invariant-loop l = with_front (map param_view l.params.items) (list_of param_of (max_params - l.counter) (lexemes_of l.rest)) ≡ some_params_of (lexemes_of l.tokens)
