use Rattle.std.proofs.Common.{◌≡◌, List}
use Rattle.std.specs.Prelude.{map}
use Rattle.std.specs.List.{range_with_len}
use Rattle.gang_model.specs.Debugger.Events.{Row}
use Rattle.gang_model.specs.Types.Tree.{Function}
use Rattle.input_rows.specs.Inputs.{entry_length}
use Rattle.machine_steps.specs.Beginning.{MayBegin}
use Rattle.machine_steps.proofs.rows.entry_lengths.Given as goal

-- the lengths so far are those of the first parameters
abbrev pub invariant-loop-number : goal.invariant-loop-number
invariant-loop-number l = (f : Function) (given : List Row) → MayBegin l.program l.entry f given l.rows → l.lengths.items ≡ map (entry_length given) (range_with_len 0 l.number)
