-- what is told so far, and the variables from this number on
use Rattle.std.proofs.Common.{◌≡◌, ◌++◌, drop, map, take}
use Rattle.gang_model.specs.Debugger.Debugger.{Debugger, Setting, depth, now}
use Rattle.debug_traits.specs.Machines.{file_variables}
use Rattle.adapter_replies.specs.declared.places.Place.TheVariants as place
use Rattle.adapter_replies.specs.Variables.{told_each, variable_view}
use Rattle.adapter_replies.proofs.scopes.of_file.Given as goal

abbrev pub invariant-loop-number : goal.invariant-loop-number
invariant-loop-number g l =
    (s : Setting) (d : Debugger) → g.M.RecordedMachine.stands l.machine s d → l.top ≡ depth (now s d)
    → told_each l.form s d l.top place.OfFile 0 (take 1000 (file_variables s))
    ≡ map variable_view l.told.items ++ told_each l.form s d l.top place.OfFile l.number (drop l.number (take 1000 (file_variables s)))
