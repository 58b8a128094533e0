-- Forms of the program, as the definitions have them.
use Rattle.std.specs.Prelude.{List, map, reverse, Option, option_map}
use Rattle.std.specs.Borrow.{Bor}
use Rattle.gang_model.specs.Types.Tree.{RoundsOf}
use Rattle.typed_tree.specs.declared.statements.Rounds.{Rounds}
use Rattle.typed_tree.specs.Views.{rounds_view}
use Rattle.foreach_lowering.specs.declared.forms.FunctionForms.{FunctionForms}
use Rattle.foreach_lowering.specs.declared.forms.Nesting.{Nesting}
use Rattle.foreach_lowering.specs.Forms.{FormsOf}

abbrev pub form_view : Option (Bor Rounds) → Option RoundsOf
form_view form = option_map (λ f. rounds_view f.now) form

abbrev pub forms_view : FunctionForms → FormsOf
forms_view forms = record { rounds = map form_view forms.rounds.items; depth = forms.depth }

-- the innermost first
abbrev pub nesting_view : Nesting → List RoundsOf
nesting_view nesting = reverse (map (λ f. rounds_view f.now) nesting.forms.items)
