use Rattle.std.proofs.Common.{List, ℕ, Option, None, Some, subst}
use Rattle.value_digits.specs.declared.digits.Digits.{Digits}
use Rattle.prompt_texts.specs.Shown.{Puts, masked}
use Rattle.prompt_values.specs.declared.numbered.Printed.{Printed}
use Rattle.prompt_values.specs.Printed.{IsLineOf, line_or_none}
use Rattle.prompt_values.proofs.expressions.print_part.Goals as goal

-- what was printed is written by its line
line_of : (puts : List ℕ → Type 0) (front : List ℕ) (digits : Digits) (value : Option Printed) → puts (line_or_none (masked front) digits value) → IsLineOf puts front digits value
line_of puts front digits None line = tt
line_of puts front digits (Some value) line = line

pub returns-in-Ok : goal.returns-in-Ok
returns-in-Ok g c =
    let a = c.args in
    let written = g.O.AnswerWriter.written in
    let old = a.page.now in
    let new = c.print_slice.new.page in
    let puts = λ (line : List ℕ). Puts line old.has_failed new.has_failed (written old.writer) (written new.writer) in
    subst (λ front. IsLineOf puts front a.digits c.print_slice.result) c.stripped.ensures (line_of puts c.stripped.result.now a.digits c.print_slice.result c.print_slice.ensures)
