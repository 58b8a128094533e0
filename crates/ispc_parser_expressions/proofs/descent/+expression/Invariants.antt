use Rattle.std.proofs.Common.{◌+◌, ◌-◌, ◌*◌, length}
use Rattle.ispc_lexer.specs.Views.{lexemes_of}
use Rattle.source_tree.specs.Expressions.{expr_view, args_view}
use Rattle.ispc_parser_expressions.specs.Parse.{parsers, binary_of, counted, args_of}
use Rattle.ispc_parser_expressions.proofs.Steps.{Chains, Lists}
use Rattle.ispc_parser_expressions.proofs.descent.+expression.Given as goal

abbrev pub decreases-bracket : goal.decreases-bracket
decreases-bracket l = 32 * l.reader.depth

abbrev pub decreases-call : goal.decreases-call
decreases-call l = 32 * l.reader.depth

abbrev pub decreases-index : goal.decreases-index
decreases-index l = 32 * l.reader.depth + 1

abbrev pub decreases-group : goal.decreases-group
decreases-group l = 32 * l.reader.depth

abbrev pub decreases-unary : goal.decreases-unary
decreases-unary l = 32 * l.reader.depth

abbrev pub decreases-choice : goal.decreases-choice
decreases-choice l = 32 * l.reader.depth

abbrev pub decreases-after_name : goal.decreases-after_name
decreases-after_name l = 32 * l.reader.depth + 2

abbrev pub decreases-part : goal.decreases-part
decreases-part l = 32 * l.reader.depth + 2

abbrev pub decreases-marked : goal.decreases-marked
decreases-marked l = 32 * l.reader.depth + 2

abbrev pub decreases-operand : goal.decreases-operand
decreases-operand l = 32 * l.reader.depth + 3

abbrev pub decreases-binary : goal.decreases-binary
decreases-binary l = 32 * l.reader.depth + 4 + l.levels

abbrev pub decreases-expr : goal.decreases-expr
decreases-expr l = 32 * l.reader.depth + 15

abbrev pub decreases-paren : goal.decreases-paren
decreases-paren l = 32 * l.inner.depth + 16

abbrev pub decreases-cast : goal.decreases-cast
decreases-cast l = 32 * l.inner.depth + 16

abbrev pub decreases-arg : goal.decreases-arg
decreases-arg l = 32 * l.reader.depth + 16

abbrev pub decreases-next_arg : goal.decreases-next_arg
decreases-next_arg l = 32 * l.reader.depth + 17

abbrev pub decreases-args : goal.decreases-args
decreases-args l = 32 * l.reader.depth + 18

abbrev pub invariant-binary-loop-operator : goal.invariant-binary-loop-operator
invariant-binary-loop-operator l =
    Chains (binary_of (parsers l.reader.depth) (l.levels - 1)) (l.levels - 1) (expr_view l.left.value) l.remaining (lexemes_of l.rest) (binary_of (parsers l.reader.depth) l.levels l.room (lexemes_of l.tokens))

abbrev pub decreases-binary-loop-operator : goal.decreases-binary-loop-operator
decreases-binary-loop-operator l = length l.rest

abbrev pub invariant-args-loop-after : goal.invariant-args-loop-after
invariant-args-loop-after l =
    Lists (counted l.budget (parsers l.reader.depth)) (args_view l.args.items) l.remaining (lexemes_of l.rest) (args_of (counted l.budget (parsers l.reader.depth)) l.room (lexemes_of l.tokens))

abbrev pub decreases-args-loop-after : goal.decreases-args-loop-after
decreases-args-loop-after l = length l.rest
