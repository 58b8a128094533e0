-- What the code of an expression computes over the words of a frame is its value where the frame stands.
use Rattle.std.proofs.Common.{◌≡◌, sym, ap, ap₂, subst, ◌∙◌, ℕ, List, Some, Result}
use Rattle.std.specs.Prelude.{slice_get}
use Rattle.undo_log.specs.History.{History}
use Rattle.gang_types.specs.declared.masks.Mask.{Mask}
use Rattle.gang_types.specs.declared.places.Spot.{Spot}
use Rattle.gang_types.specs.declared.types.IntType.{IntType}
use Rattle.gang_types.specs.declared.types.Rate.{Rate}
use Rattle.gang_types.specs.Lanes.{Lanes}
use Rattle.gang_types.specs.Masks.{lanes_of}
use Rattle.gang_types.specs.MaskLaws.{length-lanes_of_word}
use Rattle.gang_model.specs.Source.Judged.{Sound}
use Rattle.gang_model.specs.Source.Parsed.{ParsedExpr}
use Rattle.gang_model.specs.Types.Conversions.{typed}
use Rattle.gang_model.specs.Types.Tree.{Function}
use Rattle.gang_model.specs.Types.Typing.{expression}
use Rattle.gang_model.specs.Running.State.{State}
use Rattle.gang_model.specs.Running.Value.{value}
use Rattle.gang_model.specs.Debugger.Debugger.{Debugger, Setting, now}
use Rattle.gang_model.specs.Debugger.Positions.{spot_in}
use Rattle.debug_traits.specs.declared.machine.Fault.{Fault}
use Rattle.debug_traits.specs.Frames.{spot_at, state_at}
use Rattle.typed_tree.specs.declared.expressions.Expr.{Expr as TypedExpr}
use Rattle.typed_tree.specs.Views.{expr_view, program_view}
use Rattle.mask_states.specs.Masked.{Masked}
use Rattle.mask_states.specs.MaskedStep.{untasked}
use Rattle.mask_states.specs.Points.{points_in}
use Rattle.codegen.specs.Programs.{IsRunnable}
use Rattle.expression_instructions.specs.declared.code.Instruction.{Instruction}
use Rattle.expression_runs.specs.Correct.{Computes}
use Rattle.expression_runs.specs.Room.{HasRoom}
use Rattle.machine_states.proofs.DeclaredLists.{same_some}
use Rattle.machine_words.specs.declared.words.MachineWords.{MachineWords}
use Rattle.machine_words.specs.Words.{regions_in}
use Rattle.frame_steps.specs.declared.active.Active.{Active}
use Rattle.frame_steps.specs.declared.compiled.CompiledProgram.{CompiledProgram}
use Rattle.frame_steps.specs.Read.{HasRegions}
use Rattle.frame_steps.specs.Standing.{IsActive, IsShown}
use Rattle.frame_steps.proofs.RegionStates.{region_state, region_state_is}
use Rattle.machine_shown.specs.Frames.{masked_spot_at, masked_up_to, regions_up_to}
use Rattle.frame_expressions.specs.declared.machine.LaneWords.{LaneWords}
use Rattle.frame_expressions.specs.Lanes.{IsValue}
use Rattle.frame_expressions.specs.Meanings.{Means, entries_at}
use Rattle.gang_machine.specs.Standings.{SeenStands, view_of}
use Rattle.gang_machine.proofs.Agreeing.{agrees, masked_now}
use Rattle.gang_machine.proofs.FrameNames.{is_declared, is_well_scoped}
use Rattle.gang_machine.proofs.FrameValues.{by_regions}
use Rattle.gang_machine.proofs.FrameViews.{spot_at_is, untasked_at}

module _ {T : Type 0} (history : T → History) (w entry : ℕ) (compiled : CompiledProgram) (runnable : IsRunnable compiled.program) (lines : List ℕ) (words : MachineWords T) (s : Setting) (d : Debugger)
    (stands : SeenStands (view_of w entry compiled.program lines words.layout (history words.store.timeline)) s d) where
  abbrev masked : Masked
  masked = masked_now w entry compiled.program lines words.layout (history words.store.timeline) runnable.lowerable s d stands

  shown : IsShown history w compiled words (masked_now w entry compiled.program lines words.layout (history words.store.timeline) runnable.lowerable s d stands)
  shown = record { shows = stands.words.shows; declared = stands.words.declared }

  module _ (deep : ℕ) (active : Active) (f : Function) (is_active : IsActive w compiled (regions_up_to deep (regions_in history w words)) active f (slice_get (points_in f) active.step))
      (place : masked_spot_at deep (masked_now w entry compiled.program lines words.layout (history words.store.timeline) runnable.lowerable s d stands) ≡ Some (spot_in active.function active.step)) where
    module _ (spot : Spot) (at : spot_at s.program deep (now s d) ≡ Some spot) (written : ParsedExpr) (type : IntType) (rate : Rate) (code : List Instruction)
        (means : Means written (entries_at s.program spot) type rate code) (lanes : Mask) where
      same_spot : spot ≡ spot_in active.function active.step
      same_spot =
          same_some spot (spot_in active.function active.step)
          (sym at ∙ spot_at_is w entry compiled.program lines words.layout (history words.store.timeline) runnable.lowerable s d stands deep ∙ place)

      is_sound : expression written (entries_at (program_view compiled.program) (spot_in active.function active.step)) ≡ Sound (typed (expr_view means.tree) type rate)
      is_sound = sym (ap₂ (λ p at. expression written (entries_at p at)) stands.program same_spot) ∙ means.is_sound

      words_are : untasked (state_at deep (now s d)) ≡ (masked_up_to deep masked).state
      words_are = untasked_at deep (now s d) ∙ ap (state_at deep) (agrees w entry compiled.program lines words.layout (history words.store.timeline) runnable.lowerable s d stands).0.words

      same_value : value (expr_view means.tree) (lanes_of w lanes) (region_state history w words active.frame) ≡ value (expr_view means.tree) (lanes_of w lanes) (state_at deep (now s d))
      same_value =
          sym (by_regions history w compiled words masked shown deep active f is_active (state_at deep (now s d)) words_are (expr_view means.tree)
          (is_well_scoped compiled.program runnable active.function f is_active.next.is_function active.step written (expr_view means.tree) type rate is_sound)
          (is_declared compiled.program runnable active.function f is_active.next.is_function active.step written (expr_view means.tree) type rate is_sound)
          (lanes_of w lanes) (length-lanes_of_word w lanes.word))

      -- an answer that is the value for some lanes in each state with the words of the frame is that for these lanes where the frame stands
      pub is_value : (answer : Result LaneWords Fault)
          → ((e : TypedExpr) (state : State) → Computes e code → HasRoom (expr_view e) → HasRegions (regions_in history w words) active.frame state
          → IsValue answer (lanes_of w lanes) (value (expr_view e) (lanes_of w lanes) state))
          → (wanted : Lanes) → lanes_of w lanes ≡ wanted → IsValue answer wanted (value (expr_view means.tree) wanted (state_at deep (now s d)))
      is_value answer of_each wanted are =
          subst (λ ls. IsValue answer ls (value (expr_view means.tree) ls (state_at deep (now s d)))) are
          (subst (IsValue answer (lanes_of w lanes)) same_value (of_each means.tree (region_state history w words active.frame) means.computes means.room (region_state_is history w words active.frame)))
