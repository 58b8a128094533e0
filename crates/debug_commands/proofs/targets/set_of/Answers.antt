use Rattle.std.proofs.Common.{Some, None, refl, sym, ap, ◌∙◌, rules}
use mir.Val.{SFits}
use mir.Syntax.{w128}
use Rattle.std.proofs.lemmas.Int.{to_z-of_z}
use Rattle.gang_model.specs.Debugger.Debugger.{DoSet}
use Rattle.debug_commands.specs.Views.{option_view, target_view}
use Rattle.debug_commands.proofs.Assignments.{not_assigned, assigned, too_few}
use Rattle.debug_commands.proofs.targets.set_of.Goals as goal

pub returns-in_default : goal.returns-in_default
returns-in_default c = too_few c.args.words.now c.in_default.len_below

pub returns-then-not-is_same : goal.returns-then-not-is_same
returns-then-not-is_same c = not_assigned _ c.args.words.now c.in-len2-up.len_at_least (sym c.if-not-is_same.ensures)

pub returns-in_err-target : goal.returns-in_err-target
returns-in_err-target c =
    ap option_view c.from_residual.ensures ∙ assigned _ c.args.words.now None _ c.in-len2-up.len_at_least (sym c.if-not-is_same.ensures) c.in_err-target.ensures refl

pub returns-in_err-value : goal.returns-in_err-value
returns-in_err-value c =
    ap option_view c.from_residual-in_err-value.ensures
    ∙ assigned _ c.args.words.now (Some (target_view c.in_ok-target.target)) None c.in-len2-up.len_at_least (sym c.if-not-is_same.ensures) c.in_ok-target.ensures c.in_err-value.ensures

pub returns : goal.returns
returns c =
    let fits : SFits w128 c.in_ok-value.value = search rules in
    ap (λ z. Some (DoSet (target_view c.in_ok-target.target) z)) (to_z-of_z w128 c.in_ok-value.value fits)
    ∙ assigned _ c.args.words.now (Some (target_view c.in_ok-target.target)) (Some c.in_ok-value.value) c.in-len2-up.len_at_least (sym c.if-not-is_same.ensures) c.in_ok-target.ensures c.in_ok-value.ensures
