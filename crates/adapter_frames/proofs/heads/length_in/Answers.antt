use Rattle.std.proofs.Common.{◌≡◌, ◌+◌, Err, MatchResult, sym, ap, ◌∙◌, subst, arith, length, length-drop}
use Rattle.std.proofs.lemmas.List.{take_rest}
use Rattle.std.proofs.lemmas.Result.{err_from_is_err_and}
use Rattle.adapter_frames.specs.Places.{HaveFault, SayOne}
use Rattle.adapter_frames.proofs.HeadLengths.{LengthSoFar, length_end, length_fault, length_more, length_start}
use Rattle.adapter_frames.proofs.heads.length_in.Goals as goal

pub loop-line-init : goal.loop-line-init
loop-line-init c = (omega arith, λ lines are_lines is. length_start lines c.args.head.now are_lines is)

pub returns-in_err-found : goal.returns-in_err-found
returns-in_err-found c = λ lines are_lines is.
    let (fault, err, same) = err_from_is_err_and c.from_residual.result c.from_residual.ensures.1 in
    let told : c.from_residual.result ≡ Err c.in_err-found.field-0.0 = err ∙ ap (λ x. Err x) same in
    subst (λ r. MatchResult r (SayOne lines) (HaveFault lines)) (sym told)
    (length_fault lines c.loop-line.rest.now c.in-Some.line c.loop-line.found c.in_err-found.field-0.0 (c.loop-line.invariant.1 lines are_lines is) c.in-Some.ensures (sym c.found_with.ensures ∙ c.in_err-found.was))

pub loop-line-preserved : goal.loop-line-preserved
loop-line-preserved c =
    let rest = c.loop-line.rest.now in
    let line = c.in-Some.line in
    let within = c.in-Some.ensures.within in (
      omega (arith, within, length-drop (line + 2) rest, ap length (take_rest rest (line + 2))),
      λ lines are_lines is.
          subst (λ xs. LengthSoFar lines xs c.in_ok-found.found) (sym (take_rest rest (line + 2)))
          (length_more lines rest line c.loop-line.found c.in_ok-found.found (c.loop-line.invariant.1 lines are_lines is) c.in-Some.ensures (sym c.found_with.ensures ∙ c.in_ok-found.was)),
    )

pub returns : goal.returns
returns c = λ lines are_lines is.
    subst (λ r. MatchResult r (SayOne lines) (HaveFault lines)) (sym c.ok_or.ensures.value)
    (length_end lines c.loop-line.rest.now c.loop-line.found (c.loop-line.invariant.1 lines are_lines is) c.in_default.ensures)
