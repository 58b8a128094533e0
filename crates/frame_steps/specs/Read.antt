-- What a frame reads of the machine's regions.
use Rattle.std.specs.Prelude.{◌≡◌, ℕ}
use Rattle.gang_types.specs.declared.places.VarId.{VarId}
use Rattle.gang_model.specs.Running.State.{State, view_of, words_in}
use Rattle.machine_states.specs.ArrayParts.{AreMemory, view_at}
use Rattle.machine_states.specs.Effects.{region_of}
use Rattle.machine_states.specs.Regions.{Regions}

-- the state has what this frame reads: the words of variables, the elements of arrays, and the parts of arrays that names stand for
pub record HasRegions (regions : Regions) (frame : ℕ) (state : State) : Type 0 where
  pub words : (v : VarId) → words_in state v ≡ regions (region_of frame v)
  pub memory : AreMemory regions state.memory
  pub views : (v : VarId) → view_of state v ≡ view_at regions frame v
