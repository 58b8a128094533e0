use Rattle.std.proofs.Common.{◌≡◌, ◌∙◌, ◌++◌, ap, codes}
use Rattle.std.proofs.lemmas.Result.{err_from_is_err_and}
use Rattle.gang_types.specs.declared.types.IntType.{IntType}
use Rattle.gang_model.specs.Types.Tree.{Variable}
use Rattle.gang_model.specs.Debugger.Debugger.{Debugger, Setting, now, part_shown, shown_words}
use Rattle.gang_model.specs.Texts.Text.{line, shown_line, target_text}
use Rattle.debug_commands.specs.declared.command.Target.{Target}
use Rattle.debug_commands.specs.Views.{target_view}
use Rattle.debug_traits.specs.declared.machine.Shown.{Shown}
use Rattle.debug_traits.specs.Machines.{IsShown}
use Rattle.debug_texts.specs.Wording.{values_text}
use Rattle.debug_texts.proofs.Pieces.{line_parts}
use Rattle.debug_texts.proofs.Writing.{breaks_first, breaks_second, broke_early, writes_parts, writes_rest}
use Rattle.debug_texts.proofs.value_texts.write_shown.Goals as goal

shown_parts : (s : Setting) (d : Debugger) (target : Target) (v : Variable) (shown : Shown) → IsShown s d v shown → shown_line (now s d) (target_view target) v
    ≡ (target_text (target_view target) ++ codes " =") ++ (values_text shown.value_type (part_shown target.at (shown_words (now s d) v)) ++ codes "\n")
shown_parts s d target v shown h =
    let words = part_shown target.at (shown_words (now s d) v) in
    ap (λ (type : IntType). line ((target_text (target_view target) ++ codes " =") ++ values_text type words)) h.type
    ∙ line_parts (target_text (target_view target) ++ codes " =") (values_text shown.value_type words)

pub returns-in_err-write_target-clause-said : goal.returns-in_err-write_target-clause-said
returns-in_err-write_target-clause-said g c s d v st is inside =
    let (y, err, _) = err_from_is_err_and c.from_residual.result c.from_residual.ensures.1 in
    breaks_first _ _ _ _ _ _ c.from_residual.result y err (shown_parts s d c.args.target v c.args.shown is) c.in_err-write_target.ensures

pub returns-in_err-write_values-clause-said : goal.returns-in_err-write_values-clause-said
returns-in_err-write_values-clause-said g c s d v st is inside =
    let (y, err, _) = err_from_is_err_and c.from_residual-in_err-write_values.result c.from_residual-in_err-write_values.ensures.1 in
    let broke = broke_early _ (codes "\n") _ _ _ (c.in_err-write_values.ensures.said s d v st is inside) in
    breaks_second _ _ _ _ _ _ _ c.from_residual-in_err-write_values.result y err (shown_parts s d c.args.target v c.args.shown is) c.in_ok-write_target.ensures.0 broke

pub returns-clause-said : goal.returns-clause-said
returns-clause-said g c s d v st is inside =
    let rest = writes_rest _ _ _ _ _ _ c.write_all.result (c.in_ok-write_values.ensures.said s d v st is inside).0 c.write_all.ensures in
    writes_parts _ _ _ _ _ _ _ c.write_all.result (shown_parts s d c.args.target v c.args.shown is) c.in_ok-write_target.ensures.0 rest
