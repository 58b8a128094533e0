use Rattle.std.proofs.Common.{[], subst}
use Rattle.std.proofs.lemmas.Result.{IfOk-weaker}
use Rattle.gang_model.specs.Source.Spells.{WholeExpr}
use Rattle.gang_model.specs.Source.SpellsSource.{max_nesting}
use Rattle.ispc_lexer.specs.Views.{lexemes_of}
use Rattle.source_tree.specs.Expressions.{expr_view}
use Rattle.typed_tree.specs.Views.{program_view}
use Rattle.frame_expressions.specs.Meanings.{entries_at}
use Rattle.placed_expressions.specs.Placed.{IsMeaning}
use Rattle.placed_expressions.proofs.Readings.{one_written}
use Rattle.placed_expressions.proofs.placing.place_expression.Goals as goal

pub returns-clause-one : goal.returns-clause-one
returns-clause-one c =
    let written = expr_view c.in_ok-written.written in
    let scope = entries_at (program_view c.args.program.now) c.args.spot in
    let spelled = subst (λ ts. WholeExpr max_nesting written (lexemes_of ts) []) c.deref.ensures.value c.in_ok-written.ensures.spelled in
    IfOk-weaker c.place_written.result _ _ (λ placed means. λ other is.
    subst (λ e. IsMeaning e scope placed) (one_written c.args.text.now (lexemes_of c.in_ok-tokens.tokens.items) is.0 written other c.in_ok-tokens.ensures.found.spelled spelled is.1) means)
    c.place_written.ensures.means
