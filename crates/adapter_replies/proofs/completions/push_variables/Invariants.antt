-- those of the variables so far
use Rattle.std.proofs.Common.{◌≡◌, ◌++◌, map, take}
use Rattle.adapter_replies.specs.Completions.{completed, completion_view, name_length, names_of}
use Rattle.adapter_replies.specs.Variables.{variable_view}
use Rattle.adapter_replies.proofs.completions.push_variables.Given as goal

abbrev pub invariant-loop-variable : goal.invariant-loop-variable
invariant-loop-variable l =
    map completion_view l.told.items ≡ map completion_view l.fn.told.items ++ completed l.front (name_length l.front) (names_of (map variable_view (take l.variable-index l.variables)))
