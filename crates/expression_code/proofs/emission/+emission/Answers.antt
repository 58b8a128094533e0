use Rattle.std.proofs.Common.{◌∙◌, refl}
use Rattle.expression_code.proofs.Patch.{patch_arm}
use Rattle.expression_code.proofs.emission.+emission.Goals as goal

pub emit_arm-returns : goal.emit_arm-returns
emit_arm-returns t c =
    c.close_gate.ensures
    ∙ patch_arm _ _ _ _ _ _ _ _ (c.len-start.ensures ∙ c.args.code.now.ok.0) c.in_ok-put.ensures c.in_ok-emit.ensures refl
