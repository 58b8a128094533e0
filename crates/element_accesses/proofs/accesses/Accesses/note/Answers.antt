use Rattle.std.proofs.Common.{refl}
use Rattle.element_accesses.specs.StepRows.{is_within}
use Rattle.element_accesses.proofs.Noting.{noted_by_step}
use Rattle.element_accesses.proofs.accesses.Accesses.note.Goals as goal

pub returns : goal.returns
returns g c k =
    let of_step = c.of_step-of_step.result in
    noted_by_step g.M.RecordedMachine.stands c.args.machine.now c.args.depth c.args.spot c.args.self.now.steps.functions.items of_step c.args.self.now.rows.items c.note_each.new.rows.items
    c.of_step-of_step.ensures c.args.self.now.placed c.note_each.ensures.these c.note_each.ensures.others k (is_within of_step k) refl
