-- The part of an array that its name stands for in the frame at a depth.
use Rattle.std.proofs.Common.{◌≡◌, sym, ap, subst, ◌∙◌, ℕ, inl, inr, true, length, Some, None}
use Rattle.std.specs.Prelude.{slice_get}
use Rattle.std.proofs.lemmas.Option.{none-some}
use Rattle.gang_types.specs.declared.places.VarId.TheVariants.{File}
use Rattle.gang_model.specs.Types.Tree.{Function, Variable}
use Rattle.gang_model.specs.Running.State.{view_of}
use Rattle.gang_model.specs.Debugger.Positions.{spot_in}
use Rattle.undo_log.specs.History.{History}
use Rattle.debug_traits.specs.Frames.{state_at}
use Rattle.mask_states.specs.Masked.{Masked}
use Rattle.mask_states.specs.Points.{points_in}
use Rattle.machine_states.specs.ArrayParts.{view_at}
use Rattle.machine_states.specs.Variables.{IsArray, variable_of}
use Rattle.machine_states.proofs.DeclaredLists.{same_some}
use Rattle.machine_words.specs.declared.words.MachineWords.{MachineWords}
use Rattle.machine_words.specs.Words.{regions_in}
use Rattle.codegen.specs.Programs.{IsRunnable}
use Rattle.frame_steps.specs.declared.active.Active.{Active}
use Rattle.frame_steps.specs.declared.compiled.CompiledProgram.{CompiledProgram}
use Rattle.frame_steps.specs.Compiled.{variables_of}
use Rattle.frame_steps.specs.Standing.{IsActive, IsShown}
use Rattle.machine_shown.specs.Frames.{masked_spot_at, regions_up_to}
use Rattle.machine_shown.specs.Seen.{IsSeenAt}
use Rattle.gang_machine.proofs.FrameValues.{array_view}
use Rattle.gang_machine.proofs.Seeing.{in_scope}

module _ {T : Type 0} (history : T → History) (w : ℕ) (compiled : CompiledProgram) (runnable : IsRunnable compiled.program) (words : MachineWords T) (masked : Masked)
    (shown : IsShown history w compiled words masked) (deep : ℕ) (v : Variable) (array : v.is_array ≡ true) where
  file_array : (n k : ℕ) → slice_get (variables_of compiled).file k ≡ Some v → IsArray (variables_of compiled) n v.id
  file_array n k is = (v, ap (variable_of (variables_of compiled) n) (runnable.well_scoped.file k v is) ∙ is, array)

  -- a name that is seen stands for an array of the function or of the file
  seen_array : (n number : ℕ) → masked_spot_at deep masked ≡ Some (spot_in n number) → IsSeenAt compiled deep masked v → IsArray (variables_of compiled) n v.id
  seen_array n number place (inl (function, step, f, standing, at_spot, stands, k, e)) =
      let same : function ≡ n = ap (λ s. s.function.0) (same_some (spot_in function step) (spot_in n number) (sym at_spot ∙ place)) in
      let well_scoped = in_scope w compiled runnable masked function step f standing stands k v e in
      subst (λ m. IsArray (variables_of compiled) m v.id) same
      (v, ap (variable_of (variables_of compiled) function) (runnable.well_scoped.own function well_scoped.0 v well_scoped.1) ∙ well_scoped.1, array)
  seen_array n number place (inr (k, is)) = file_array n k is

  -- in a frame
  pub view_there : (active : Active) (f : Function) → IsActive w compiled (regions_up_to deep (regions_in history w words)) active f (slice_get (points_in f) active.step)
      → masked_spot_at deep masked ≡ Some (spot_in active.function active.step) → IsSeenAt compiled deep masked v
      → view_of (state_at deep masked.state) v.id ≡ view_at (regions_in history w words) active.frame v.id
  view_there active f is_active place seen = array_view history w compiled words masked shown deep active f is_active v.id (seen_array active.function active.step place seen)

  file_view : (k : ℕ) (frame : ℕ) → view_of (state_at deep masked.state) (File k) ≡ view_at (regions_in history w words) frame (File k)
  file_view k frame = ap (λ ws. record { array = File k; first = 0; len = length ws }) (shown.shows.memory (File k))

  -- where there is no frame, of the file
  pub view_nowhere : masked_spot_at deep masked ≡ None → IsSeenAt compiled deep masked v → (frame : ℕ)
      → view_of (state_at deep masked.state) v.id ≡ view_at (regions_in history w words) frame v.id
  view_nowhere none (inl (function, step, f, standing, at_spot, stands, k, e)) frame = absurd (none-some (spot_in function step) (sym none ∙ at_spot))
  view_nowhere none (inr (k, is)) frame =
      subst (λ id. view_of (state_at deep masked.state) id ≡ view_at (regions_in history w words) frame id) (sym (runnable.well_scoped.file k v is)) (file_view k frame)
