-- What the command line's numbers may be.
use Rattle.std.specs.Prelude.{◌≤◌}
use Rattle.ispc_options.specs.declared.options.Options.{Options}

pub record AreInRange (options : Options) : Type 0 where
  pub least_history : 1 ≤ options.history
  pub most_history : options.history ≤ 65536
  pub least_steps : 1 ≤ options.steps
  pub most_steps : options.steps ≤ 10000000
