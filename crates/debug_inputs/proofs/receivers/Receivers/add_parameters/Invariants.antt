use Rattle.std.proofs.Common.{◌≡◌, ℕ, List, drop, map}
use Rattle.std.specs.Option.{option_or}
use Rattle.gang_model.specs.Texts.InputText.{parameter_receiver}
use Rattle.typed_tree.specs.Views.{variable_view}
use Rattle.debug_inputs.specs.Remaining.{first_named, remaining_at}
use Rattle.debug_inputs.proofs.receivers.Receivers.add_parameters.Given as goal

abbrev pub invariant-loop-variable : goal.invariant-loop-variable
invariant-loop-variable l = (name : List ℕ)
    → option_or (remaining_at l.self name) (first_named (map parameter_receiver (map (λ v. variable_view v.now) (drop l.variable-index l.parameters))) name)
    ≡ option_or (remaining_at l.initial.self name) (first_named (map parameter_receiver (map (λ v. variable_view v.now) l.parameters)) name)
