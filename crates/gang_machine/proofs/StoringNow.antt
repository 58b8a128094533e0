-- What the next step of a machine stores to is what the debugger of the definitions has it store to.
use Rattle.std.proofs.Common.{◌≡◌, refl, sym, ap, ◌∙◌, ℕ, List, Option, Some, None}
use Rattle.std.specs.Prelude.{option_and_then}
use Rattle.undo_log.specs.History.{History}
use Rattle.gang_types.specs.declared.places.VarId.{VarId}
use Rattle.gang_types.specs.Lanes.{Lanes}
use Rattle.gang_model.specs.Types.Tree.{Assign, Change, PackedStore, Stmt}
use Rattle.gang_model.specs.Running.State.{State, View, view_of as array_of}
use Rattle.gang_model.specs.Debugger.Debugger.{Debugger, Setting, now}
use Rattle.gang_model.specs.Debugger.Positions.{lanes_now, spot_now}
use Rattle.debug_traits.specs.Frames.{state_at}
use Rattle.typed_tree.specs.Views.{program_view}
use Rattle.mask_states.specs.Masked.{Masked, masked_lanes}
use Rattle.mask_states.specs.MaskedStep.{untasked}
use Rattle.mask_states.proofs.UntaskedValues.{untasked_part_of, untasked_reached, untasked_view}
use Rattle.codegen.specs.Programs.{IsRunnable}
use Rattle.gang_memory.specs.declared.layout.Layout.{Layout}
use Rattle.frame_steps.specs.declared.compiled.CompiledProgram.{CompiledProgram}
use Rattle.frame_expressions.specs.Stores.{elements_from, meets_reached, packed_to, put_at, some_stores, stores_to}
use Rattle.gang_machine.specs.Standings.{SeenStands, view_of}
use Rattle.gang_machine.specs.Stored.{meets_next}
use Rattle.gang_machine.proofs.Agreeing.{agrees, lanes_are, masked_now, spot_is}
use Rattle.gang_machine.proofs.FrameViews.{untasked_at}

-- what is stored to hangs on no tasks
untasked_stores : (view : View) (lanes : Lanes) (state : State) (o : Option Stmt) → some_stores view lanes (untasked state) o ≡ some_stores view lanes state o
untasked_stores view lanes state None = refl
untasked_stores view lanes state (Some (Assign number target e)) = ap (meets_reached view lanes) (untasked_reached target lanes state)
untasked_stores view lanes state (Some (Change number target type op in_type e)) = ap (meets_reached view lanes) (untasked_reached target lanes state)
untasked_stores view lanes state (Some (PackedStore number array from e result_for)) = ap (λ r. meets_reached view lanes (packed_to lanes r)) (untasked_part_of from array lanes state)
untasked_stores view lanes state (Some s) = refl

module _ (w entry : ℕ) (compiled : CompiledProgram) (runnable : IsRunnable compiled.program) (lines : List ℕ) (layout : Layout) (h : History) (s : Setting) (d : Debugger)
    (stands : SeenStands (view_of w entry compiled.program lines layout h) s d) where
  abbrev masked : Masked
  masked = masked_now w entry compiled.program lines layout h runnable.lowerable s d stands

  words_are : untasked (now s d) ≡ (masked_now w entry compiled.program lines layout h runnable.lowerable s d stands).state
  words_are = (agrees w entry compiled.program lines layout h runnable.lowerable s d stands).0.words

  next_is : (view : View) → some_stores view (lanes_now (now s d)) (now s d) (option_and_then (put_at s.program) (spot_now s.program (now s d)))
      ≡ meets_next compiled (masked_now w entry compiled.program lines layout h runnable.lowerable s d stands) view
  next_is view =
      let put = option_and_then (put_at s.program) (spot_now s.program (now s d)) in
      ap (λ lanes. some_stores view lanes (now s d) put) (lanes_are w entry compiled.program lines layout h runnable.lowerable s d stands)
      ∙ sym (untasked_stores view (masked_lanes masked) (now s d) put)
      ∙ ap (λ state. some_stores view (masked_lanes masked) state put) words_are
      ∙ ap (λ p. some_stores view (masked_lanes masked) masked.state (option_and_then (put_at p) (spot_now s.program (now s d)))) stands.program
      ∙ ap (λ spot. some_stores view (masked_lanes masked) masked.state (option_and_then (put_at (program_view compiled.program)) spot))
      (spot_is w entry compiled.program lines layout h runnable.lowerable s d stands)

  -- the part of an array that a name stands for at a depth is that of the masked state
  part_is : (deep : ℕ) (id : VarId) → array_of (state_at deep (now s d)) id ≡ array_of (state_at deep (masked_now w entry compiled.program lines layout h runnable.lowerable s d stands).state) id
  part_is deep id = sym (untasked_view (state_at deep (now s d)) id) ∙ ap (λ state. array_of state id) (untasked_at deep (now s d) ∙ ap (state_at deep) words_are)

  pub stores_now : (deep : ℕ) (id : VarId) (first count : ℕ)
      → stores_to s.program deep id first count (now s d)
      ≡ meets_next compiled (masked_now w entry compiled.program lines layout h runnable.lowerable s d stands)
      (elements_from first count (array_of (state_at deep (masked_now w entry compiled.program lines layout h runnable.lowerable s d stands).state) id))
  stores_now deep id first count =
      ap (λ part. some_stores (elements_from first count part) (lanes_now (now s d)) (now s d) (option_and_then (put_at s.program) (spot_now s.program (now s d)))) (part_is deep id)
      ∙ next_is (elements_from first count (array_of (state_at deep masked.state) id))
