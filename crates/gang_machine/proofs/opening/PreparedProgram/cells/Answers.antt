use Rattle.typed_tree.specs.Views.{program_view}
use Rattle.gang_machine.proofs.opening.PreparedProgram.cells.Goals as goal

pub returns-clause-exact : goal.returns-clause-exact
returns-clause-exact g c = c.cells.ensures.exact (program_view c.args.self.now.compiled.program) c.requires.prepared.compiled.does
