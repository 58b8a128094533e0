-- those of the functions that are left are still to be added
use Rattle.std.proofs.Common.{◌≡◌, ◌++◌, drop, map}
use Rattle.typed_tree.specs.Views.{function_view, program_view}
use Rattle.foreach_forms.specs.Forms.{forms_from, forms_of}
use Rattle.foreach_forms.proofs.forms.forms_of.Given as goal

abbrev pub invariant-loop-number : goal.invariant-loop-number
invariant-loop-number l = l.forms.items ++ forms_from l.number (map function_view (drop l.number l.function-items)) ≡ forms_of (program_view l.fn.program)
