use Rattle.std.proofs.Common.{ap, ◌∙◌}
use Rattle.std.specs.Prelude.{Ok}
use Rattle.typed_tree.specs.Views.{stmt_view}
use Rattle.typed_tree.proofs.StatementRows.{view_switch}
use Rattle.type_check_statement_parts.proofs.segments.selected_among.Goals as goal

pub returns : goal.returns
returns c = record {
  form = ap (λ s. Ok (stmt_view s)) c.in_ok-boxed_stmt.ensures.value ∙ ap Ok (view_switch c.args.step c.args.selector c.args.segments);
}
