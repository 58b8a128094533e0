use Rattle.std.proofs.Common.{◌<◌, ◌++◌, ◌∙◌, length, sym, ap, map, arith}
use Rattle.machine_names.proofs.LeastLines.{lines_next}
use Rattle.machine_names.proofs.breakpoint_lines.step_lines.Goals as goal

pub loop-function-preserved : goal.loop-function-preserved
loop-function-preserved c =
    let fs = c.args.functions.now in
    let i = c.loop-function.function-index in
    let x = c.function-item.result in
    let below : i < length fs = omega arith in
    c.in_ok-add_lines.ensures
    ∙ ap (λ ss. c.loop-function.lines.items ++ map (λ s. s.place.line) ss) c.deref.ensures.value
    ∙ ap (λ xs. xs ++ map (λ s. s.place.line) x.scopes.standings.items) c.loop-function.invariant
    ∙ sym (lines_next fs i x below c.function-item.is)
