use Rattle.std.proofs.Common.{ap, sym, ◌∙◌}
use Rattle.std.specs.Prelude.{Ok}
use Rattle.typed_tree.specs.Views.{stmt_view, stmts_view}
use Rattle.source_answers.specs.Apart.{seen}
use Rattle.typed_tree.proofs.StatementRows.{view_block}
use Rattle.type_check_statement_parts.proofs.forms.block.Goals as goal

pub returns-in_ok-block-in-Ok : goal.returns-in_ok-block-in-Ok
returns-in_ok-block-in-Ok c = record {
  form = ap (λ s. Ok (stmt_view s)) c.in_ok-block-in-Ok.ensures.value ∙ (ap Ok (view_block c.in-Ok.stmts) ∙ sym (ap (seen (λ stmts. stmts_view stmts.items)) c.in-Ok.is));
}
