use Rattle.std.proofs.Common.{◌≡◌, ◌∙◌, ◌+◌, ◌++◌, false, subst, ap, drop, get_or, length}
use Rattle.std.proofs.lemmas.Result.{err_from_is_err_and}
use Rattle.std.proofs.KnownBytes.{Appends-trans}
use Rattle.debug_texts.proofs.Writing.{breaks_second, broke_early}
use Rattle.gang_model.specs.Source.Parsed.{functions_in}
use Rattle.source_tree.specs.Tree.{function_view, tree_view}
use Rattle.lane_report.specs.Reports.{function_line, function_lines}
use Rattle.lane_report.proofs.FunctionLines.{line_done, line_first, one_more}
use Rattle.lane_report.proofs.Functions.{function_first, functions_from, variable_first}
use Rattle.lane_report.proofs.lines.write_lines.Goals as goal
use Rattle.lane_report.proofs.lines.write_lines.Goals.{in-Function+in_ok-write_line, in_default}

pub returns-in_err-write_line : goal.returns-in_err-write_line
returns-in_err-write_line g c =
    let (y, err, _) = err_from_is_err_and c.from_residual.result c.from_residual.ensures.1 in
    let items = c.deref-item-items.result.now in
    let i = c.loop-item.item-index in
    let n = c.loop-item.number in
    let answers = c.args.answers.now in
    let before = c.loop-item.invariant.0 in
    let f = function_view c.in-Function.function in
    let others = functions_from items (i + 1) in
    let first = function_first items i c.item-item.result c.loop-item-test.true c.item-item.is c.in-Function.function c.in-Function.is in
    let whole = function_lines (functions_in (tree_view c.args.tree.now)) answers in
    let split = line_first f (functions_from items i) others first answers n c.loop-item.invariant.1 whole before.0 false before.2 in
    breaks_second _ _ _ _ _ _ _ c.from_residual.result y err split before.1
    (broke_early (function_line f (get_or answers n false)) (function_lines others (drop (n + 1) answers)) _ _ _ c.in_err-write_line.ensures)

pub loop-item-preserved : goal.loop-item-preserved
loop-item-preserved g c =
    let items = c.deref-item-items.result.now in
    let i = c.loop-item.item-index in
    let n = c.loop-item.number in
    let answers = c.args.answers.now in
    let before = c.loop-item.invariant.0 in
    let all = c.loop-item.invariant.1 in
    let left = functions_from items i in
    let others = functions_from items (i + 1) in
    let whole = function_lines (functions_in (tree_view c.args.tree.now)) answers in
    elim c.match-item.branch [
      | in-Function+in_ok-write_line w ↦
          let f = function_view w.in-Function.function in
          let first = function_first items i c.item-item.result c.loop-item-test.true c.item-item.is w.in-Function.function w.in-Function.is in
          rw (w.writer-is, w.number-is) (
            (before.0 ++ function_line f (get_or answers n false), Appends-trans _ _ _ _ _ before.1 w.in_ok-write_line.ensures.0, line_done f left others first answers n all whole before.0 false before.2),
            one_more f left others first answers n all,
            w.in_ok-write_line.ensures.1,
          )
      | in_default w ↦
          let same = variable_first items i c.item-item.result c.loop-item-test.true c.item-item.is w.in_default.field-0 w.in_default.is in
          rw (w.writer-is, w.number-is) (
            (before.0, before.1, before.2 ∙ ap (λ fs. before.0 ++ function_lines fs (drop n answers)) same),
            subst (λ fs. n + length fs ≡ length answers) same all,
            c.loop-item.invariant.2,
          )
    ]
