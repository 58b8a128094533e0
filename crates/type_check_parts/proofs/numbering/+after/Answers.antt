use Rattle.std.proofs.Common.{◌≡◌, ap, arith}
use Rattle.type_check_parts.specs.Steps.{own_steps}
use Rattle.type_check_parts.proofs.Counted.{steps-block, steps-switch}
use Rattle.type_check_parts.proofs.numbering.+after.Goals as goal

pub after_steps-returns-in-Block : goal.after_steps-returns-in-Block
after_steps-returns-in-Block t c =
    let steps = steps-block c.args.stmt.now c.in-Block.stmts c.deref.result.now c.in-Block.is c.deref.ensures.value in
    let own : own_steps c.args.stmt.now ≡ 0 = ap own_steps c.in-Block.is in
    omega (arith, steps, own, c.own_steps.ensures, c.saturating_add-after.ensures, c.after_all.ensures)

pub after_steps-returns-in-Switch : goal.after_steps-returns-in-Switch
after_steps-returns-in-Switch t c =
    let steps = steps-switch c.args.stmt.now c.in-Switch.place c.in-Switch.selector c.in-Switch.segments c.deref-in-Switch.result.now c.in-Switch.is c.deref-in-Switch.ensures.value in
    let own : own_steps c.args.stmt.now ≡ 1 = ap own_steps c.in-Switch.is in
    omega (arith, steps, own, c.own_steps.ensures, c.saturating_add-after.ensures, c.after_segments.ensures)
