-- What a machine finds that its next step stores to.
use Rattle.std.specs.Prelude.{◌≡◌, ℕ, Bool, false, List, Option, Some, None, Result, Ok, Err, option_and_then}
use Rattle.gang_types.specs.Lanes.{Lanes}
use Rattle.gang_types.specs.Masks.{lanes_of}
use Rattle.gang_model.specs.Running.Lanes.{Fault as ModelFault, ◌>>=◌}
use Rattle.gang_model.specs.Running.State.{View}
use Rattle.gang_model.specs.Running.Step.{ToElements, Written}
use Rattle.debug_traits.specs.declared.machine.Fault.{Fault}
use Rattle.debug_traits.specs.Machines.{fault_view}
use Rattle.mask_states.specs.Masked.{Masked, masked_lanes, masked_spot}
use Rattle.machine_words.specs.Views.{view_view}
use Rattle.frame_steps.specs.declared.compiled.CompiledProgram.{CompiledProgram}
use Rattle.frame_steps.specs.Compiled.{program_of}
use Rattle.frame_expressions.specs.Stores.{meets, put_at, some_stores}
use Rattle.gang_machine.specs.declared.stores.Stored.{Stored}

-- the elements that were found
abbrev pub written_by : (w : ℕ) → Stored w → Written
written_by w stored = ToElements (view_view stored.view) stored.indices

-- the elements of a part of an array at the indices that lanes have
abbrev pub elements_at : View → Result (List ℕ) ModelFault → Result Written ModelFault
elements_at view indices = indices >>= λ i. Ok (ToElements view i)

-- what was found is what these lanes write to, or the fault that keeps them from it
abbrev pub IsFound : (w : ℕ) → Lanes → Result (Stored w) Fault → Result Written ModelFault → Type 0
IsFound w lanes (Ok stored) meant = (lanes_of w stored.lanes ≡ lanes) × (meant ≡ Ok (written_by w stored))
IsFound w lanes (Err fault) meant = meant ≡ Err (fault_view fault)

-- whether an element of a part of an array was found
abbrev pub meets_found : (w : ℕ) → View → Option (Stored w) → Bool
meets_found w view None = false
meets_found w view (Some stored) = meets view (lanes_of w stored.lanes) (written_by w stored)

-- whether the next step of a masked state stores to an element of a part of an array
abbrev pub meets_next : CompiledProgram → Masked → View → Bool
meets_next compiled masked view = some_stores view (masked_lanes masked) masked.state (option_and_then (put_at (program_of compiled)) (masked_spot masked))

-- of each part of an array the elements were found that the next step stores to
abbrev pub IsNextStore : (w : ℕ) → CompiledProgram → Masked → Option (Stored w) → Type 0
IsNextStore w compiled masked found = (view : View) → meets_found w view found ≡ meets_next compiled masked view
