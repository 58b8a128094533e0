-- Where the next step is the rounds of a form, the next of the rounds that its level keeps is taken.
use Rattle.std.proofs.Common.{◌≡◌, sym, ap, ◌∙◌, subst, ℕ, zero, suc, ◌<◌, false, List, [], ◌∷◌, length, slice_get, Some, None, arith}
use Rattle.std.specs.Prelude.{All, map, zip}
use Rattle.std.proofs.lemmas.List.Elements.{All-head, All-tail}
use Rattle.gang_types.specs.Lanes.{no_lane}
use Rattle.gang_types.specs.Masks.{lanes_of}
use Rattle.gang_types.specs.MaskLaws.{length-lanes_of_word}
use Rattle.gang_model.specs.Types.Tree.{StepNumber, Var, Dimension, RoundsOf, Rows, Tiles, EachLane, EachValue, Function, Program}
use Rattle.gang_model.specs.Running.RunningOrder.{IsNumberedProgram}
use Rattle.gang_model.proofs.StandingLaws.{Each}
use Rattle.mask_states.specs.Points.{Begin, Turn, points_in}
use Rattle.mask_states.specs.Masked.{Masked, masked_lanes}
use Rattle.foreach_lowering.specs.declared.rounds.Round.{Round}
use Rattle.foreach_lowering.specs.declared.rounds.RoundsLeft.{RoundsLeft}
use Rattle.foreach_lowering.specs.Forms.{round_forms}
use Rattle.foreach_lowering.specs.Kept.{Takes, turns_left}
use Rattle.foreach_lowering.specs.Law.{HasDimensions}
use Rattle.foreach_lowering.specs.RoundViews.{AreLeft, IsFormOf, IsNextRound, kept_view, round_turn}
use Rattle.machine_states.specs.Variables.{Variables, IsOwn}
use Rattle.machine_states.specs.WellScoped.{DimensionWellScoped, FormWellScoped, IsWellScopedProgram}
use Rattle.machine_states.specs.Declared.{AreDeclared}
use Rattle.machine_states.specs.Levels.{IsForm, kept_in}
use Rattle.machine_states.specs.Regions.{CountersOf, OfLevel, Regions}
use Rattle.machine_states.specs.Rounds.{counters_behind, indices_of, round_indices}
use Rattle.machine_states.specs.Shows.{AreSized, level_words, Shows}
use Rattle.machine_states.specs.Effects.{round_in}
use Rattle.machine_states.specs.Steps.{IsNext, end_in, GoesTo}
use Rattle.machine_states.proofs.AllDeclared.{AreOwn}
use Rattle.machine_states.proofs.DeclaredPoints.{well_scoped_point}
use Rattle.machine_states.proofs.RoundCounters.{counters_long, kept_behind, left_is_kept}
use Rattle.machine_states.proofs.RoundSteps.{form_of_level, round_goes, round_lanes, round_there, same_form}
use Rattle.machine_states.proofs.RoundTurns.{takes_indices, takes_lane}
use Rattle.machine_states.proofs.TurnPlaces.{turn_last}

-- ---- index variables

abbrev pub IsOwnOne : Variables → (function : ℕ) → Var → Type 0
IsOwnOne variables n x = (k : ℕ) × IsOwn variables n k x

dimensions_own : (variables : Variables) (n : ℕ) (ds : List Dimension) → All (DimensionWellScoped variables n) ds → Each (IsOwnOne variables n) (map (λ d. d.index) ds)
dimensions_own variables n [] well_scoped = tt
dimensions_own variables n (d ∷ ds) well_scoped = ((All-head (DimensionWellScoped variables n) d ds well_scoped).0, dimensions_own variables n ds (All-tail (DimensionWellScoped variables n) d ds well_scoped))

-- they are the function's own
pub indices_own : (variables : Variables) (n : ℕ) (form : RoundsOf) → FormWellScoped variables n form → Each (IsOwnOne variables n) (indices_of form)
indices_own variables n (Rows ds) well_scoped = dimensions_own variables n ds well_scoped.1
indices_own variables n (Tiles ds) well_scoped = dimensions_own variables n ds well_scoped.1
indices_own variables n (EachLane x) well_scoped = (well_scoped.0, tt)
indices_own variables n (EachValue x e) well_scoped = (well_scoped.0, tt)

given_own : (variables : Variables) (n : ℕ) (xs : List Var) (lists : List (List ℕ)) → Each (IsOwnOne variables n) xs → AreOwn variables n (zip xs lists)
given_own variables n [] lists own = tt
given_own variables n (x ∷ xs) [] own = tt
given_own variables n (x ∷ xs) (ws ∷ lists) own = (own.0, given_own variables n xs lists own.1)

pub well_scoped_dimensions : (variables : Variables) (n : ℕ) (form : RoundsOf) → FormWellScoped variables n form → HasDimensions form
well_scoped_dimensions variables n (Rows ds) well_scoped = well_scoped.0
well_scoped_dimensions variables n (Tiles ds) well_scoped = well_scoped.0
well_scoped_dimensions variables n (EachLane x) well_scoped = tt
well_scoped_dimensions variables n (EachValue x e) well_scoped = tt

-- ---- the step

module _ (variables : Variables) (most : ℕ) (p : Program) (well_scoped : IsWellScopedProgram variables most p) (numbered : IsNumberedProgram p) (w : ℕ) (regions : Regions) (masked : Masked) (shows : Shows p variables w regions masked)
    (declared : AreDeclared variables p masked) (i n : ℕ) (f : Function) (number body : StepNumber) (form : RoundsOf) (is_form : slice_get (round_forms f) number ≡ Some (Some form)) where
  in_form : (level : ℕ) → IsNext p w regions i (suc level) n f number (Some (Turn body)) → (number ≡ end_in regions i f (suc level)) × IsForm (points_in f) w (level_words regions i (suc level)) form
  in_form level next =
      let order = numbered n f next.is_function in
      let at_end = (turn_last p variables w regions masked shows i (suc level) n f number body next order declared).1 in (
        at_end,
        subst (IsForm (points_in f) w (level_words regions i (suc level))) (same_form p variables w regions masked shows i level n f number body next order at_end form is_form)
            (form_of_level p variables w regions masked shows i level n f number body next order at_end form is_form).is,
      )

  -- the level is that of the form
  pub level_of_form : (level : ℕ) → IsNext p w regions i level n f number (Some (Turn body)) → IsForm (points_in f) w (level_words regions i level) form
  level_of_form zero next = absurd (omega (arith, (turn_last p variables w regions masked shows i 0 n f number body next (numbered n f next.is_function) declared).0))
  level_of_form (suc level) next = (in_form level next).1

  -- whose index variables are the function's own
  pub form_well_scoped : (level : ℕ) → IsNext p w regions i level n f number (Some (Turn body)) → FormWellScoped variables n form
  form_well_scoped level next =
      let is = level_of_form level next in
      well_scoped_point variables n f (well_scoped.functions n f next.is_function).body is.head (Begin form _ is.next) is.begins

  module _ (some : 0 < w) (left : RoundsLeft w) (of_form : IsFormOf w form left) (are_left : AreLeft w left) where
    abbrev IsLeftOf : ℕ → Type 0
    IsLeftOf level = kept_view w left ≡ kept_in w form (level_words regions i level)

    -- there is a next one
    pub one_is_left : (level : ℕ) → IsNext p w regions i level n f number (Some (Turn body)) → IsLeftOf level → IsNextRound w left None → ⊥
    one_is_left zero next kept none = absurd (omega (arith, (turn_last p variables w regions masked shows i 0 n f number body next (numbered n f next.is_function) declared).0))
    one_is_left (suc level) next kept none =
        let at = in_form level next in
        round_there p variables w regions masked shows i level n f number body next (numbered n f next.is_function) at.0 form is_form
        (sym (ap (turns_left form w) kept) ∙ none form of_form)

    module _ (round : Round w) (is_next : IsNextRound w left (Some round)) where
      -- some lane takes part in it
      pub round_lane : no_lane (lanes_of w round.lanes) ≡ false
      round_lane =
          takes_lane w some (kept_view w left) (kept_view w round.left) (round_turn w form round) form (left_is_kept w form left of_form are_left) (is_next.0 form of_form).0

      -- they are those that a debugger shows
      pub shown_lanes : (level : ℕ) → IsNext p w regions i level n f number (Some (Turn body)) → IsLeftOf level → masked_lanes masked ≡ lanes_of w round.lanes
      shown_lanes zero next kept = absurd (omega (arith, (turn_last p variables w regions masked shows i 0 n f number body next (numbered n f next.is_function) declared).0))
      shown_lanes (suc level) next kept =
          let at = in_form level next in
          round_lanes p variables w regions masked shows i level n f number body next (numbered n f next.is_function) at.0 form is_form (round_turn w form round) (kept_view w round.left)
          (subst (λ k. Takes form w k (round_turn w form round) (kept_view w round.left)) kept (is_next.0 form of_form).0)

      -- the regions show the state after it
      pub next_round_goes : (level : ℕ) → IsNext p w regions i level n f number (Some (Turn body)) → IsLeftOf level → AreSized variables w regions
          → GoesTo p variables w masked (round_in i level (lanes_of w round.lanes) body (counters_behind w round.left (regions (OfLevel i level CountersOf)))
          (round_indices w (indices_of form) round.indices) regions)
      next_round_goes zero next kept sized = absurd (omega (arith, (turn_last p variables w regions masked shows i 0 n f number body next (numbered n f next.is_function) declared).0))
      next_round_goes (suc level) next kept sized =
          let at = in_form level next in
          let own = form_well_scoped (suc level) next in
          let long : length (lanes_of w round.lanes) ≡ w = length-lanes_of_word w round.lanes.word in
          let counters : List ℕ = regions (OfLevel i (suc level) CountersOf) in
          round_goes p variables w regions masked shows i level n f number body next (numbered n f next.is_function) at.0 form is_form (round_turn w form round) (kept_view w round.left)
          (subst (λ k. Takes form w k (round_turn w form round) (kept_view w round.left)) kept (is_next.0 form of_form).0) long
          (counters_behind w round.left counters) (counters_long w round.left counters ∙ at.1.counted)
          (kept_behind w form (level_words regions i (suc level)) at.1.counted (well_scoped_dimensions variables n form own) left round.left kept of_form is_next.2)
          (left_is_kept w form round.left (is_next.0 form of_form).1 is_next.1)
          some sized (round_indices w (indices_of form) round.indices) (given_own variables n (indices_of form) _ (indices_own variables n form own))
          (takes_indices variables n w some (kept_view w left) (kept_view w round.left) (lanes_of w round.lanes) long round.indices form own (left_is_kept w form left of_form are_left) (is_next.0 form of_form).0)
