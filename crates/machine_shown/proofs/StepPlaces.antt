-- Where the next step stands is where the masked state does, and the lanes that are shown there.
use Rattle.std.proofs.Common.{◌≡◌, refl, sym, ap, ◌∙◌, subst, ℕ, zero, suc, ◌+◌, ◌≤◌, inl, inr, length, Option, Some, None, arith}
use Rattle.std.specs.Prelude.{slice_get}
use Rattle.std.proofs.lemmas.Bool.{cases_lt}
use Rattle.std.proofs.lemmas.Option.{none-some, slice_get-get_or}
use Rattle.gang_types.specs.declared.masks.Mask.{Mask}
use Rattle.gang_types.specs.Masks.{IsGangWidth, lanes_of}
use Rattle.gang_model.specs.Types.Tree.{StepNumber, Function}
use Rattle.debug_traits.specs.declared.machine.Position.{Position}
use Rattle.mask_states.specs.Points.{Point, Go, Turn, closing_number, function_ways, points_in}
use Rattle.mask_states.specs.Masked.{Masked, at_end, masked_lanes}
use Rattle.mask_states.proofs.LaneNumbers.{least_at_most}
use Rattle.mask_states.proofs.PlacedPoints.{length-points_of}
use Rattle.foreach_lowering.specs.declared.rounds.Round.{Round}
use Rattle.machine_states.specs.Declared.{AreDeclared}
use Rattle.machine_states.specs.Regions.{LanesOf, NumbersOf, Depth, OfHead, Regions, lanes_in, OfLevel}
use Rattle.machine_states.specs.Shows.{Shows}
use Rattle.machine_states.specs.Steps.{IsNext}
use Rattle.machine_states.proofs.AwaitedLevels.{IsNoTurn}
use Rattle.machine_states.proofs.NextPoints.{same_function, same_word}
use Rattle.machine_states.proofs.NextRounds.{shown_lanes}
use Rattle.machine_states.proofs.TopFrame.{below_its_end, brace_level, lanes_at_end, lanes_below_end, spot, top_frame}
use Rattle.machine_states.proofs.TopLevels.{body_alone}
use Rattle.codegen.specs.Codes.{Does}
use Rattle.codegen.specs.declared.code.IndexCode.{IndexCode}
use Rattle.codegen.specs.declared.code.StepCode.{StepCode}
use Rattle.codegen.specs.declared.code.StepCode.TheVariants as code
use Rattle.frame_steps.specs.declared.active.Active.{Active}
use Rattle.frame_steps.specs.declared.compiled.CompiledProgram.{CompiledProgram}
use Rattle.frame_steps.specs.Compiled.{IsCompiled, program_of, variables_of}
use Rattle.frame_steps.specs.Standing.{IsActive}
use Rattle.frame_steps.proofs.FrameLevels.{least_within}
use Rattle.frame_steps.proofs.GangLanes.{gang_some}
use Rattle.machine_rounds.specs.Taking.{IsRoundAt}
use Rattle.machine_shown.specs.Seen.{IsPositionOf, IsStandingOf}
use Rattle.machine_shown.proofs.CallPlaces.{has_standing}

-- ---- what the code says of its point

-- a point whose code is no round is none
pub unturned : (step : StepCode) (point : Point) → Does step point → ((form : IndexCode) (body : ℕ) → step ≡ code.Round form body → ⊥) → IsNoTurn point
unturned (code.Round form body) (Turn start) does none = absurd (none form body refl)
unturned step (Turn start) does none = absurd does
unturned step point does none = tt

-- ---- lanes

module _ (width : ℕ) (compiled : CompiledProgram) (regions : Regions) (active : Active) (f : Function) (masked : Masked)
    (shows : Shows (program_of compiled) (variables_of compiled) width regions masked) where
  -- past the last point there is the closing brace
  past_points : (number : StepNumber) → slice_get (points_in f) number ≡ None → closing_number f ≤ number
  past_points number none =
      elim (cases_lt number (length (points_in f))) [
        | inl within ↦ absurd (none-some _ (sym none ∙ slice_get-get_or (points_in f) number (Go 0) within))
        | inr past ↦ omega (arith, past, length-points_of f.body (function_ways f))
      ]

  brace_lanes : (level : ℕ) → IsNext (program_of compiled) width regions active.frame level active.function f active.step None → masked_lanes masked ≡ lanes_in width regions (OfHead active.frame LanesOf)
  brace_lanes zero next =
      let t = top_frame (program_of compiled) (variables_of compiled) width regions masked shows active.frame 0 active.function f active.step None next in
      let at_closing : active.step ≡ closing_number f =
      omega (arith, past_points active.step next.is_point, next.least_number, least_at_most (closing_number f) (regions (OfLevel active.frame 0 NumbersOf))) in
      lanes_at_end (program_of compiled) (variables_of compiled) width regions masked shows active.frame 0 active.function f active.step None next at_closing
      ∙ ap (at_end t.frame) (body_alone width regions active.frame f t.turns t.below t.top).0 ∙ t.shown.lanes
  brace_lanes (suc level) next =
      absurd (omega (arith, brace_level (program_of compiled) (variables_of compiled) width regions masked shows active.frame (suc level) active.function f active.step next))

  -- those of the call at the closing brace
  pub lanes_at_brace : IsActive width compiled regions active f None → (lanes : Mask) → lanes_of width lanes ≡ lanes_in width regions (OfHead active.frame LanesOf) → lanes_of width lanes ≡ masked_lanes masked
  lanes_at_brace is lanes e = e ∙ sym (brace_lanes active.level is.next)

  -- those that wait for a step that is no round
  pub lanes_at_step : (point : Point) → IsActive width compiled regions active f (Some point) → IsNoTurn point → lanes_of width active.lanes ≡ masked_lanes masked
  lanes_at_step point is unturned =
      is.lanes
      ∙ sym (lanes_below_end (program_of compiled) (variables_of compiled) width regions masked shows active.frame active.level active.function f active.step (Some point) is.next
      (below_its_end (program_of compiled) (variables_of compiled) width regions masked shows active.frame active.level active.function f active.step point is.next unturned))

  -- those of the round that begins
  pub lanes_at_round : IsGangWidth width → IsCompiled compiled → AreDeclared (variables_of compiled) (program_of compiled) masked → (body : StepNumber) → IsActive width compiled regions active f (Some (Turn body))
      → (round : Round width) → IsRoundAt width compiled regions active round → lanes_of width round.lanes ≡ masked_lanes masked
  lanes_at_round gang compiled_is declared body is round at =
      let same : at.f ≡ f = same_function at.f f (slice_get (program_of compiled).functions active.function) at.are_rounds.is_function is.next.is_function in
      let next = subst (λ g. IsNext (program_of compiled) width regions active.frame active.level active.function g active.step (Some (Turn body))) (sym same) is.next in
      sym (shown_lanes (variables_of compiled) compiled_is.runnable.most (program_of compiled) compiled_is.runnable.well_scoped compiled_is.runnable.lowerable.numbered width regions masked shows declared
      active.frame active.function at.f active.step body at.form at.are_rounds.is_form (gang_some width gang) at.left at.are_left.of_form at.are_left.are_left round at.is_next active.level next at.are_left.kept)

  -- ---- the position

  module _ (is : IsActive width compiled regions active f (slice_get (points_in f) active.step)) where
    pub position_shown : length f.standings ≡ closing_number f + 1 → (lanes : Mask) → lanes_of width lanes ≡ masked_lanes masked
        → (position : Option Position) → IsStandingOf width f active.step (active.frame + 1) lanes position → IsPositionOf width compiled masked position
    position_shown long lanes lanes_are None none =
        let t = top_frame (program_of compiled) (variables_of compiled) width regions masked shows active.frame active.level active.function f active.step (slice_get (points_in f) active.step) is.next in
        let at_most : active.step ≤ closing_number f = omega (arith, is.next.least_number, least_within width regions active.frame f active.level _ is.next.innermost t.top.shown) in
        absurd (has_standing f active.step long at_most none)
    position_shown long lanes lanes_are (Some p) stands =
        let height : suc active.frame ≡ length masked.state.frames =
        same_word (regions Depth) (suc active.frame) (length masked.state.frames) is.next.depth shows.depth in
        let deep : p.depth ≡ length masked.state.frames = omega (arith, stands.4, height) in (
          active.function,
          active.step,
          f,
          stands.0,
          spot (program_of compiled) (variables_of compiled) width regions masked shows active.frame active.level active.function f active.step (slice_get (points_in f) active.step) is.next,
          record { is_function = is.next.is_function; stands = stands.1 },
          stands.2,
          stands.3,
          deep,
          stands.5,
          ap (lanes_of width) stands.6 ∙ lanes_are,
        )
