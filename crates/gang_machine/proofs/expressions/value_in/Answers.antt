use Rattle.std.proofs.Common.{◌∙◌, sym, ap, ap₂, subst, take, Ok, Err}
use Rattle.gang_types.specs.Masks.{IsGangWidth, lanes_of}
use Rattle.gang_model.specs.Running.Value.{value}
use Rattle.debug_traits.specs.Machines.{fault_view}
use Rattle.typed_tree.specs.Views.{expr_view}
use Rattle.expression_runs.specs.Evaluated.{IsValue}
use Rattle.gang_machine.proofs.expressions.value_in.Goals as goal

pub returns-in-Ok : goal.returns-in-Ok
returns-in-Ok g c e state computes room shows =
    let meant = subst (λ r. IsValue r (value (expr_view e) (lanes_of g.row.W c.args.lanes) state)) c.in-Ok.is (c.value_of.ensures e state computes room shows) in
    let wide = c.widened.ensures in (
      record {
        gang = subst IsGangWidth (sym wide.0) c.requires.width;
        lanes_are = ap (λ w. lanes_of w c.widened.result.lanes) wide.0 ∙ ap (lanes_of g.row.W) wide.1;
      },
      meant ∙ ap Ok (sym (ap (λ w. take w c.widened.result.words) wide.0 ∙ wide.2)),
    )

pub returns-in-Err-Fault : goal.returns-in-Err-Fault
returns-in-Err-Fault g c e state computes room shows =
    subst (λ r. IsValue r (value (expr_view e) (lanes_of g.row.W c.args.lanes) state)) (c.in-Err-Fault.is ∙ ap Err c.in-Err-Fault.field-0-is) (c.value_of.ensures e state computes room shows)
    ∙ ap₂ (λ name lane. Err (fault_view (record { name = name; lane = lane }))) (sym c.in-Err-Fault.name-is) (sym c.in-Err-Fault.lane-is)

pub returns-in-Err-NoRoom : goal.returns-in-Err-NoRoom
returns-in-Err-NoRoom g c e state computes room shows =
    absurd (subst (λ r. IsValue r (value (expr_view e) (lanes_of g.row.W c.args.lanes) state)) (c.in-Err-NoRoom.is ∙ ap Err c.in-Err-NoRoom.field-0-is) (c.value_of.ensures e state computes room shows))
