use Rattle.std.proofs.Common.{length}
use Rattle.gang_model.specs.Types.Statements.{statements}
use Rattle.source_tree.specs.Tree.{stmts_view}
use Rattle.type_check_calls.specs.Calls.{context_view}
use Rattle.type_check_statements.proofs.InSequence.{typed-body}
use Rattle.type_check_statement_parts.proofs.SingleSteps.{unless-memory}
use Rattle.type_check_statements.proofs.body.typed_body.Goals as goal

pub returns-clause-makes : goal.returns-clause-makes
returns-clause-makes c =
    let scope = c.args.scope.now in
    typed-body (statements (stmts_view c.args.stmts.now) (context_view c.args.context.now) scope.entries (length scope.locals) 0) c.in_ok-typed.typed c.joined.result scope.locals c.statements.new.scope.locals _
    c.in_ok-typed.ensures.typed c.joined.ensures

pub returns-clause-entries : goal.returns-clause-entries
returns-clause-entries c = unless-memory c.joined.result c.in_ok-typed.ensures.after
