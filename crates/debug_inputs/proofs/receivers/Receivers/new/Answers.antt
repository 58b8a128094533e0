use Rattle.std.proofs.Common.{ap, map}
use Rattle.typed_tree.specs.Views.{global_view, variable_view}
use Rattle.std.specs.Prelude.{option_map}
use Rattle.debug_inputs.specs.Remaining.{found_in, receiver_view}
use Rattle.debug_inputs.proofs.FirstNamed.{all_named}
use Rattle.debug_inputs.proofs.receivers.Receivers.new.Goals as goal

pub returns : goal.returns
returns c = λ name. all_named _ _ _ (map (λ v. variable_view v.now) c.args.parameters.now) (map global_view c.args.globals.now) name (ap (λ es. option_map receiver_view (found_in es name)) c.new.ensures.empty) (c.in_ok-add_parameters.ensures name) (c.in_ok-add_globals.ensures name)
