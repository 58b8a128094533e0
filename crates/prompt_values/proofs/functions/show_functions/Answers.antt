use Rattle.std.proofs.Common.{◌≡◌, ℕ, true, false, List, [], ◌∷◌, ◌++◌, map, refl, sym, subst, ap, ◌∙◌}
use Rattle.std.specs.Prelude.{◌||◌, codes, flat_map, if◌then◌else◌}
use Rattle.std.specs.List.{list_any}
use Rattle.prompt_lines.specs.Heads.{has_part}
use Rattle.typed_tree.specs.declared.program.Function.{Function}
use Rattle.typed_tree.specs.Views.{function_view, program_view}
use Rattle.prompt_texts.specs.Shown.{Puts}
use Rattle.prompt_values.specs.Functions.{function_line, functions_lines, functions_text}
use Rattle.prompt_values.proofs.functions.show_functions.Goals as goal

any_viewed : (part : List ℕ) (functions : List Function) → list_any (λ f. has_part part f.name) (map function_view functions) ≡ list_any (λ f. has_part part f.name.items) functions
any_viewed part [] = refl
any_viewed part (f ∷ functions) = ap (λ b. has_part part f.name.items || b) (any_viewed part functions)

lines_viewed : (part source : List ℕ) (functions : List Function) → flat_map (λ f. function_line part source f.name) (map function_view functions) ≡ flat_map (λ f. function_line part source f.name.items) functions
lines_viewed part source [] = refl
lines_viewed part source (f ∷ functions) = ap (λ l. function_line part source f.name.items ++ l) (lines_viewed part source functions)

pub returns-then-has_any : goal.returns-then-has_any
returns-then-has_any g c s d st =
    let part = c.args.part.now in
    let source = c.args.source.text.now in
    let functions = c.program.result.now.functions.items in
    let written = g.O.AnswerWriter.written in
    let old = c.args.page.now in
    let new = c.put_functions.new.page in
    let puts = λ (text : List ℕ). Puts text old.has_failed new.has_failed (written old.writer) (written new.writer) in
    let lines = functions_lines part source (program_view c.program.result.now) in
    let any : list_any (λ f. has_part part f.name) (map function_view functions) ≡ true =
    any_viewed part functions ∙ ap (list_any (λ f. has_part part f.name.items)) (sym c.as_slice-functions.ensures.value) ∙ sym c.has_any.ensures ∙ c.if-has_any.true in
    let all : puts lines = subst puts (sym (lines_viewed part source functions))
    (subst (λ l. puts (flat_map (λ f. function_line part source f.name.items) l)) c.as_slice-functions.ensures.value c.put_functions.ensures) in
    subst (λ p. puts (functions_text part source p)) (sym (c.program.ensures s d st))
    (subst (λ b. puts (if b then lines else codes "no function\n")) (sym any) all)

pub returns-else-has_any : goal.returns-else-has_any
returns-else-has_any g c s d st =
    let part = c.args.part.now in
    let source = c.args.source.text.now in
    let functions = c.program.result.now.functions.items in
    let written = g.O.AnswerWriter.written in
    let old = c.args.page.now in
    let new = c.put.new.self in
    let puts = λ (text : List ℕ). Puts text old.has_failed new.has_failed (written old.writer) (written new.writer) in
    let none : list_any (λ f. has_part part f.name) (map function_view functions) ≡ false =
    any_viewed part functions ∙ ap (list_any (λ f. has_part part f.name.items)) (sym c.as_slice-functions.ensures.value) ∙ sym c.has_any.ensures ∙ c.if-has_any.false in
    subst (λ p. puts (functions_text part source p)) (sym (c.program.ensures s d st))
    (subst (λ b. puts (if b then functions_lines part source (program_view c.program.result.now) else codes "no function\n")) (sym none) c.put.ensures)
