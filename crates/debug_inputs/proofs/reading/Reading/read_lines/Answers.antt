use Rattle.std.proofs.Common.{◌≡◌, ◌∙◌, ◌+◌, suc, ap, arith}
use Rattle.gang_model.specs.Texts.InputText as text
use Rattle.gang_model.specs.Texts.Transcript.{lines_of}
use Rattle.debug_inputs.specs.Lines.{left_len, lines_left, lines_then}
use Rattle.debug_inputs.proofs.LinesRead.{lines_refused}
use Rattle.debug_inputs.proofs.reading.Reading.read_lines.Goals as goal

pub returns-in_err-read_line : goal.returns-in_err-read_line
returns-in_err-read_line c = λ receivers rows stands.
    let (now, so_far, stands_now) = c.loop-rest.invariant.0 receivers rows stands in
    let n = c.loop-rest.number in
    let line = c.next_line.result.0.now in
    let later = lines_left c.next_line.result.1 in
    lines_refused receivers (lines_then receivers 1 rows (lines_of c.args.bytes.now)) (text.after_line (text.is_skipped line) receivers n now line) _ c.in_err-read_line.field-0.0
    c.from_residual.result c.from_residual.ensures.1
    (λ next. (
      λ rows. lines_then receivers (suc n) rows later next,
      so_far next
          ∙ (ap (λ r. lines_then receivers n now (lines_left r) next) c.in-Some.is ∙ ap (λ ls. lines_then receivers n now ls next) c.next_line.ensures.lines),
    ))
    (c.in_err-read_line.ensures receivers now stands_now)

pub loop-rest-preserved : goal.loop-rest-preserved
loop-rest-preserved c =
    let n = c.loop-rest.number in
    let next_number : suc n ≡ n + 1 = omega arith in
    let later = lines_left c.next_line.result.1 in (
      (λ receivers rows stands.
          let (now, so_far, stands_now) = c.loop-rest.invariant.0 receivers rows stands in
          let (then, same, stands_then) = c.in_ok-read_line.ensures receivers now stands_now in (
            then,
            (λ next. so_far next
                ∙ (ap (λ r. lines_then receivers n now (lines_left r) next) c.in-Some.is
                ∙ (ap (λ ls. lines_then receivers n now ls next) c.next_line.ensures.lines ∙ (same (λ rows. lines_then receivers (suc n) rows later next)
                ∙ ap (λ k. lines_then receivers k then later next) next_number)))),
            stands_then,
          )),
      omega (arith, c.loop-rest.invariant.1, ap left_len c.in-Some.is, c.next_line.ensures.shorter),
    )

pub returns : goal.returns
returns c = λ receivers rows stands.
    let (now, so_far, stands_now) = c.loop-rest.invariant.0 receivers rows stands in
    (now, (λ next. so_far next ∙ ap (λ r. lines_then receivers c.loop-rest.number now (lines_left r) next) c.in_default.is), stands_now)
