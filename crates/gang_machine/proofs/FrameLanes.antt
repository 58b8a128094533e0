-- The lanes for which a frame computes an expression.
use Rattle.std.proofs.Common.{◌≡◌, refl, sym, ap, ◌∙◌, ℕ, suc, ◌-◌, ◌<◌, ◌≤◌, true, false, inl, inr, List, [], ◌∷◌, drop, length, map, nat_lt, Some, None, arith}
use Rattle.std.specs.Prelude.{min, if◌then◌else◌}
use Rattle.std.proofs.lemmas.Bool.{cases_lt}
use Rattle.std.proofs.lemmas.Bool.Decides.{nat_tests}
use Rattle.std.proofs.lemmas.Option.{none-some}
use Rattle.undo_log.specs.History.{History}
use Rattle.gang_types.specs.declared.places.Spot.{Spot}
use Rattle.gang_model.specs.Types.Tree.{Program}
use Rattle.gang_model.specs.Running.State.{Frame, State}
use Rattle.gang_model.specs.Debugger.Debugger.{Debugger, Setting, now}
use Rattle.gang_model.specs.Debugger.Positions.{call_at, lanes_now, spot_now}
use Rattle.debug_traits.specs.Frames.{frames_at, spot_at, state_at}
use Rattle.typed_tree.specs.declared.program.Program.{Program as TypedProgram}
use Rattle.typed_tree.specs.Views.{program_view}
use Rattle.gang_memory.specs.declared.layout.Layout.{Layout}
use Rattle.mask_states.specs.Masked.{Level, Masked, masked_lanes, masked_spot}
use Rattle.mask_states.specs.MaskedStep.{untasked_frame}
use Rattle.mask_states.specs.Stands.{AreLowerable}
use Rattle.machine_states.specs.Regions.{LanesOf, OfHead, Regions, lanes_in}
use Rattle.machine_states.specs.Shows.{Shows, ShowsFrames}
use Rattle.machine_states.specs.Variables.{Variables}
use Rattle.frame_expressions.specs.Lanes.{called_lanes, lanes_at, made_lanes}
use Rattle.gang_machine.specs.Standings.{SeenStands, view_of}
use Rattle.gang_machine.proofs.Agreeing.{agrees, lanes_are, masked_now, spot_is}
use Rattle.gang_machine.proofs.FrameViews.{untasked_at}

-- the lanes of calls hang on no tasks
untasked_called : (frames : List Frame) → called_lanes (map untasked_frame frames) ≡ called_lanes frames
untasked_called [] = refl
untasked_called (frame ∷ frames) = refl

-- the frame above the one at a depth has the lanes of its head
module _ (p : Program) (variables : Variables) (w : ℕ) (regions : Regions) (deep : ℕ) where
  called_shown : (frames : List Frame) (levels : List (List Level)) → ShowsFrames p variables w regions frames levels → deep < length frames
      → called_lanes (drop (length frames - suc deep) frames) ≡ lanes_in w regions (OfHead deep LanesOf)
  called_shown [] levels shown below = absurd (omega (arith, below))
  called_shown (frame ∷ frames) [] shown below = absurd shown
  called_shown (frame ∷ frames) (levels ∷ rest) shown below =
      elim (cases_lt deep (length frames)) [
        | inl still ↦
            let more : suc (length frames - suc deep) ≡ length (frame ∷ frames) - suc deep = omega (arith, still) in
            ap (λ n. called_lanes (drop n (frame ∷ frames))) (sym more) ∙ called_shown frames rest shown.2 still
        | inr last ↦
            let same : length frames ≡ deep = omega (arith, last, below) in
            let none : 0 ≡ length (frame ∷ frames) - suc deep = omega (arith, same) in
            ap (λ n. called_lanes (drop n (frame ∷ frames))) (sym none) ∙ shown.0.lanes ∙ ap (λ k. lanes_in w regions (OfHead k LanesOf)) same
      ]

module _ (w entry : ℕ) (program : TypedProgram) (lines : List ℕ) (layout : Layout) (h : History) (lowerable : AreLowerable (program_view program)) (s : Setting) (d : Debugger)
    (stands : SeenStands (view_of w entry program lines layout h) s d) (deep : ℕ) where
  abbrev masked : Masked
  masked = masked_now w entry program lines layout h lowerable s d stands

  -- of a frame that made a call
  module _ (below : deep < length (now s d).frames) where
    below_is : nat_lt deep (length (now s d).frames) ≡ true
    below_is = grind (arith, nat_tests)

    pub lanes_called : (variables : Variables) (regions : Regions) → Shows (program_view program) variables w regions (masked_now w entry program lines layout h lowerable s d stands)
        → deep < length (masked_now w entry program lines layout h lowerable s d stands).state.frames
        → lanes_at deep (now s d) ≡ lanes_in w regions (OfHead deep LanesOf)
    lanes_called variables regions shows within =
        ap (λ b. if b then called_lanes (frames_at (suc deep) (now s d).frames) else lanes_now (now s d)) below_is
        ∙ sym (untasked_called (frames_at (suc deep) (now s d).frames))
        ∙ ap (λ (state : State). called_lanes state.frames) (untasked_at (suc deep) (now s d) ∙ ap (state_at (suc deep)) (agrees w entry program lines layout h lowerable s d stands).0.words)
        ∙ called_shown (program_view program) variables w regions deep masked.state.frames masked.levels shows.frames within

  -- of the top frame
  module _ (past : length (now s d).frames ≤ deep) where
    past_is : nat_lt deep (length (now s d).frames) ≡ false
    past_is = grind (arith, nat_tests)

    pub lanes_top : lanes_at deep (now s d) ≡ masked_lanes (masked_now w entry program lines layout h lowerable s d stands)
    lanes_top =
        ap (λ b. if b then called_lanes (frames_at (suc deep) (now s d).frames) else lanes_now (now s d)) past_is
        ∙ lanes_are w entry program lines layout h lowerable s d stands

    -- which has not been left
    pub not_ended : (spot : Spot) → spot_at s.program deep (now s d) ≡ Some spot → masked_spot (masked_now w entry program lines layout h lowerable s d stands) ≡ None → ⊥
    not_ended spot at ended =
        let top : spot_at s.program deep (now s d) ≡ spot_now s.program (now s d) =
        ap (λ b. if b then call_at (suc deep) (now s d).frames else spot_now s.program (now s d)) past_is in
        none-some spot (sym ended ∙ sym (spot_is w entry program lines layout h lowerable s d stands) ∙ sym top ∙ at)

  -- of any frame, by its number
  module _ (frame : ℕ) (height : min deep (length (masked_now w entry program lines layout h lowerable s d stands).state.frames) ≡ suc frame) where
    height_is : (all : ℕ) → min deep all ≡ suc frame → all - deep ≡ all - suc frame
    height_is all is = omega (arith, is)

    pub lanes_made : (variables : Variables) (regions : Regions) → Shows (program_view program) variables w regions (masked_now w entry program lines layout h lowerable s d stands)
        → made_lanes deep (now s d) ≡ lanes_in w regions (OfHead frame LanesOf)
    lanes_made variables regions shows =
        sym (untasked_called (frames_at deep (now s d).frames))
        ∙ ap (λ (state : State). called_lanes state.frames) (untasked_at deep (now s d) ∙ ap (state_at deep) (agrees w entry program lines layout h lowerable s d stands).0.words)
        ∙ ap (λ n. called_lanes (drop n masked.state.frames)) (height_is (length masked.state.frames) height)
        ∙ called_shown (program_view program) variables w regions frame masked.state.frames masked.levels shows.frames (omega (arith, height))
