use Rattle.std.proofs.Common.{◌++◌, codes, subst}
use Rattle.debug_traits.specs.Devices.{Writes}
use Rattle.gang_model.specs.Texts.Text.{line}
use Rattle.ispc_refusals.proofs.refusal.write_input_refusal.Goals as goal

pub returns-in-Missing : goal.returns-in-Missing
returns-in-Missing g c =
    let writer = g.O.AnswerWriter in
    rw c.in-Missing.is
    (subst (λ name. Writes (line (codes "input: I2 Missing " ++ name)) (writer.written c.args.out.now) (writer.written c.write_missing.new.out) (writer.has_failed c.write_missing.new.out) c.write_missing.result)
    c.deref.ensures.value c.write_missing.ensures)
