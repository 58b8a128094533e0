use Rattle.std.proofs.Common.{◌∙◌, ap, Some, drop}
use Rattle.ispc_lexer.specs.Views.{lexeme_of, lexemes_of}
use Rattle.source_tree.specs.Expressions.{expr_view}
use Rattle.placed_expressions.proofs.Readings.{goes_on, is_none, is_whole, none_left, one_left}
use Rattle.placed_expressions.proofs.reading.whole_expression.Goals as goal

pub returns-in-Ok-default-empty-clause-spelled : goal.returns-in-Ok-default-empty-clause-spelled
returns-in-Ok-default-empty-clause-spelled c =
    let a = c.in-Ok-default-empty in
    is_whole (lexemes_of c.args.tokens.now) (expr_view a.written) (lexemes_of a.field-0-1.now) a.ensures (none_left a.field-0-1.now a.len_below)

pub returns-in-Ok-default-len1-up-clause-refused :
    goal.returns-in-Ok-default-len1-up-clause-refused
returns-in-Ok-default-len1-up-clause-refused c =
    let a = c.in-Ok-default-len1-up in
    let t = c.behind-item.result in
    let left = one_left a.field-0-1.now t a.len_at_least c.behind-item.is in
    goes_on (lexemes_of c.args.tokens.now) (expr_view a.field-0-0) (lexeme_of t) (lexemes_of (drop 1 a.field-0-1.now))
    (a.ensures ∙ ap (λ rest. Some (expr_view a.field-0-0, rest)) left)

pub returns-in-Err-Refused-clause-refused : goal.returns-in-Err-Refused-clause-refused
returns-in-Err-Refused-clause-refused c =
    let a = c.in-Err-Refused in
    let h = rw a.field-0-is at a.ensures in
    is_none (lexemes_of c.args.tokens.now) a.refusal h.0 h.1
