use Rattle.typed_tree.specs.Views.{program_view}
use Rattle.element_accesses.specs.Found.{accesses_of}
use Rattle.element_accesses.proofs.Noting.{begun_settled}
use Rattle.element_accesses.proofs.accesses.Accesses.of.Goals as goal

pub invariant_of-result-clause-settled : goal.invariant_of-result-clause-settled
invariant_of-result-clause-settled c row access is outside =
    begun_settled c.args.program.now c.in_ok-rows.rows.items (accesses_of (program_view c.args.program.now)) c.in_ok-rows.ensures row access is
