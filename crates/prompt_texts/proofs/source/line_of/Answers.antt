use Rattle.std.proofs.Common.{◌≡◌, ◌+◌, ◌-◌, ℕ, suc, Option, Some, None, sym, ap, ◌∙◌, arith}
use Rattle.std.specs.Prelude.{option_and_then}
use Rattle.prompt_texts.specs.SourceLines.{after_line, behind_lines, first_line, line_view}
use Rattle.prompt_texts.proofs.source.line_of.Goals as goal

pub loop-skipped-preserved : goal.loop-skipped-preserved
loop-skipped-preserved c =
    let rest = c.loop-skipped.rest.now in
    let left = c.args.number - (c.loop-skipped._skipped + 1) in
    let (from, is) = c.loop-skipped.invariant in
    let one : c.args.number - c.loop-skipped._skipped ≡ suc left = omega (arith, c.loop-skipped-test.true) in
    let some : after_line rest ≡ Some c.in-Some.behind.now = sym c.after_line.ensures ∙ ap line_view c.in-Some.is in (
      omega (arith, from),
      is ∙ ap (λ n. option_and_then first_line (behind_lines n rest)) one ∙ ap (λ found. option_and_then first_line (option_and_then (behind_lines left) found)) some,
    )

pub returns-in-None : goal.returns-in-None
returns-in-None c =
    let rest = c.loop-skipped.rest.now in
    let left = c.args.number - (c.loop-skipped._skipped + 1) in
    let (from, is) = c.loop-skipped.invariant in
    let one : c.args.number - c.loop-skipped._skipped ≡ suc left = omega (arith, c.loop-skipped-test.true) in
    let none : after_line rest ≡ None = sym c.after_line.ensures ∙ ap line_view c.in-None.is in
    sym (is ∙ ap (λ n. option_and_then first_line (behind_lines n rest)) one ∙ ap (λ found. option_and_then first_line (option_and_then (behind_lines left) found)) none)

pub returns : goal.returns
returns c =
    let (from, is) = c.loop-skipped.invariant in
    let all : c.args.number - c.loop-skipped._skipped ≡ 0 = omega (arith, c.loop-skipped-test.false) in
    c.first_line.ensures ∙ sym (is ∙ ap (λ n. option_and_then first_line (behind_lines n c.loop-skipped.rest.now)) all)
