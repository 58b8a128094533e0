-- the parameters before this one have rows
use Rattle.std.proofs.Common.{◌≡◌, ◌++◌, List, drop, map}
use Rattle.gang_model.specs.Debugger.Events.{Row}
use Rattle.gang_model.specs.Texts.InputText as text
use Rattle.typed_tree.specs.Views.{variable_view}
use Rattle.debug_inputs.specs.Lines.{Stands}
use Rattle.debug_inputs.proofs.reading.Reading.complete.Given as goal

abbrev pub invariant-loop-parameter : goal.invariant-loop-parameter
invariant-loop-parameter l = (others : List text.Receiver) → (rows : List Row) → Stands (map text.parameter_receiver (map (λ v. variable_view v.now) l.parameters) ++ others) rows l.self
    → text.complete (drop l.parameter-index (map (λ v. variable_view v.now) l.parameters)) rows ≡ text.complete (map (λ v. variable_view v.now) l.parameters) rows
