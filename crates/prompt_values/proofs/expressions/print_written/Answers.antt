use Rattle.std.proofs.Common.{◌≡◌, List, ℕ, zero, suc, true, false, Option, sym, subst, ◌∙◌}
use Rattle.std.specs.Prelude.{◌==◌, not}
use Rattle.std.proofs.lemmas.Bool.{true≢false}
use Rattle.gang_model.specs.Debugger.Debugger.{Debugger, Setting}
use Rattle.debug_session.specs.Sessions.{bare}
use Rattle.prompt_lines.specs.Parts.{count_place}
use Rattle.prompt_values.specs.declared.numbered.Printed.{Printed}
use Rattle.prompt_values.specs.Printed.{IsPrintedOf, PrintsBy}
use Rattle.prompt_values.proofs.Bare.{bare_printed}
use Rattle.prompt_values.proofs.expressions.print_written.Goals as goal

-- of a text with `@` nothing is said
with_count : (n : ℕ) (text : List ℕ) (s : Setting) (d : Debugger) (deep : ℕ) (value : Option Printed) → not (n == 0) ≡ true → PrintsBy n text s d deep value
with_count zero text s d deep value some = absurd (true≢false (sym some))
with_count (suc n) text s d deep value some = tt

without_count : (n : ℕ) (text : List ℕ) (s : Setting) (d : Debugger) (deep : ℕ) (value : Option Printed) → IsPrintedOf text s d deep value → PrintsBy n text s d deep value
without_count zero text s d deep value is = is
without_count (suc n) text s d deep value is = tt

pub returns-then-has_count-clause-value : goal.returns-then-has_count-clause-value
returns-then-has_count-clause-value g c s d st =
    with_count (count_place c.args.written.now) c.args.written.now s d _ c.print_part.result (sym c.has_count.ensures ∙ c.if-has_count.true)

pub returns-else-has_count-clause-value : goal.returns-else-has_count-clause-value
returns-else-has_count-clause-value g c s d st =
    let text = c.args.written.now in
    let machine = subst (λ machine. g.M.RecordedMachine.stands machine s (bare d)) (sym c.machine-machine.ensures) st.there in
    without_count (count_place text) text s d _ c.print_value.result
    (subst (λ n. IsPrintedOf text s d n c.print_value.result) (c.selected_depth-depth.ensures s d st) (bare_printed s d c.selected_depth-depth.result text c.print_value.result (c.print_value.ensures.value s (bare d) machine)))
