use Rattle.std.proofs.Common.{◌≡◌, List, ℕ, Option, Some, None, Ok, Err, refl, sym, subst, ap, ◌∙◌}
use Rattle.std.specs.Prelude.{IfOk, Result}
use Rattle.gang_model.specs.Debugger.Debugger.{Debugger, Setting}
use Rattle.typed_tree.specs.declared.program.Program as declared
use Rattle.typed_tree.specs.Views.{program_view}
use Rattle.prompt_lines.specs.Readings.{bytes_option}
use Rattle.prompt_texts.specs.declared.items.Layout.{Layout}
use Rattle.prompt_texts.specs.declared.told.Told.{Told}
use Rattle.prompt_values.specs.declared.returned.Awaited.{Awaited}
use Rattle.prompt_values.specs.Returned.{IsTold, IsToldBy, IsToldIf, name_of}
use Rattle.prompt_values.proofs.returned.told_result.Goals as goal

-- what is told by the name that a variable has is told
told_by : {E : Type 0} (s : Setting) (d : Debugger) (deep : ℕ) (awaited : Awaited) (layout : Layout) (program : declared.Program) (name : List ℕ) (result : Result (Option Told) E)
    → s.program ≡ program_view program → name_of program awaited.caller awaited.given.variable ≡ Some name → IfOk result (IsToldBy s d deep awaited layout name) → IfOk result (IsTold s d deep awaited layout)
told_by s d deep awaited layout program name (Ok told) is named by =
    record { program = program; is_it = is; by_name = subst (λ n. IsToldIf s d deep awaited layout n told) (sym named) by }
told_by s d deep awaited layout program name (Err fault) is named by = by

pub returns-in-Some : goal.returns-in-Some
returns-in-Some g c s d st =
    let a = c.args in
    told_by s d a.depth a.awaited a.scene.layout c.program.result.now c.in-Some.name.now c.told_named.result (c.program.ensures s d st)
    (sym c.name_of.ensures ∙ ap bytes_option c.in-Some.is) (c.told_named.ensures s d st)

pub returns-in-None : goal.returns-in-None
returns-in-None g c s d st =
    let a = c.args in
    record {
      program = c.program.result.now;
      is_it = c.program.ensures s d st;
      by_name = subst (λ n. IsToldIf s d a.depth a.awaited a.scene.layout n None) (sym (sym c.name_of.ensures ∙ ap bytes_option c.in-None.is)) refl;
    }
