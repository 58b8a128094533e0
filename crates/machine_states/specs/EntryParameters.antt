-- The parameters of the function that a run begins with.
use Rattle.std.specs.Prelude.{◌≡◌, ℕ, length, Some, slice_get}
use Rattle.gang_types.specs.declared.types.Rate.TheVariants.{Uniform}
use Rattle.gang_model.specs.Texts.InputText as text
use Rattle.gang_model.specs.Types.Tree.{Variable, Function}
use Rattle.machine_states.specs.Variables.{Variables, own_of, parameters_of}

-- the parameters that an input may give, those in scope at the closing brace, are all that the function has; each is the variable of
-- its number, and is uniform
pub record HasEntryParameters (variables : Variables) (entry : ℕ) (f : Function) : Type 0 where
  pub count : length (text.parameters_of (Some f)) ≡ parameters_of variables entry
  pub own : (n : ℕ) (v : Variable) → slice_get (text.parameters_of (Some f)) n ≡ Some v → slice_get (own_of variables entry) n ≡ Some v
  pub uniform : (n : ℕ) (v : Variable) → slice_get (text.parameters_of (Some f)) n ≡ Some v → v.rate ≡ Uniform
