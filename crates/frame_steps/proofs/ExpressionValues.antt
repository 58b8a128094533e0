-- The value of an expression of the next step depends on the machine's regions alone.
use Rattle.std.proofs.Common.{◌≡◌, sym, ap, ◌∙◌, subst, ℕ, suc, ◌<◌, ◌≤◌, List, [], length, Result, arith}
use Rattle.gang_types.specs.Lanes.{Lanes}
use Rattle.gang_types.specs.Masks.{lanes_of}
use Rattle.gang_types.specs.MaskLaws.{length-lanes_of_word}
use Rattle.gang_model.specs.Types.Tree.{Expr, Var}
use Rattle.gang_model.specs.Running.Lanes.{Fault}
use Rattle.gang_model.specs.Running.State.{State, words_in}
use Rattle.gang_model.specs.Running.Value.{value}
use Rattle.undo_log.specs.History.{History}
use Rattle.mask_states.specs.Masked.{Masked}
use Rattle.typed_tree.specs.declared.expressions.Expr.{Expr as TypedExpr}
use Rattle.typed_tree.specs.Views.{expr_view}
use Rattle.expression_instructions.specs.declared.code.Instruction.{Instruction}
use Rattle.expression_runs.specs.Correct.{Computes}
use Rattle.expression_runs.specs.Room.{HasRoom}
use Rattle.machine_states.specs.Declared.{IsThere, declared_before}
use Rattle.machine_states.specs.Regions.{Regions}
use Rattle.machine_states.specs.Variables.{IsScalar, Variables}
use Rattle.machine_states.proofs.AlwaysDeclared.{read_alike, top_declared}
use Rattle.machine_states.proofs.DeclaredLists.{same_first}
use Rattle.machine_states.proofs.ElementSteps.{array_shown}
use Rattle.machine_states.proofs.ReadValues.{AreReadAlike, value_agrees}
use Rattle.machine_words.specs.declared.words.MachineWords.{MachineWords}
use Rattle.machine_words.specs.Words.{regions_in}
use Rattle.frame_steps.specs.declared.active.Active.{Active}
use Rattle.frame_steps.specs.declared.compiled.CompiledProgram.{CompiledProgram}
use Rattle.frame_steps.specs.Compiled.{program_of, variables_of}
use Rattle.frame_steps.specs.Read.{HasRegions}
use Rattle.frame_steps.specs.Standing.{IsShown, IsValueAt}
use Rattle.frame_steps.proofs.RegionStates.{region_state, region_state_has, region_state_is, region_state_memory, region_state_views}

below_most : (index frames : ℕ) → suc index ≡ frames → frames ≤ 64 → index < 64
below_most index frames e h = omega arith

module _ {T : Type 0} (history : T → History) (width : ℕ) (compiled : CompiledProgram) (words : MachineWords T) (active : Active) (masked : Masked) (shown : IsShown history width compiled words masked) where
  abbrev lanes : Lanes
  lanes = lanes_of width active.lanes

  abbrev regions : Regions
  regions = regions_in history width words

  abbrev variables : Variables
  variables = variables_of compiled

  module _ (e : Expr) (code : List Instruction) (at : IsValueAt width compiled (regions_in history width words) active e code) where
    -- the next step's frame is one of 64
    pub frame_there : active.frame < 64
    frame_there =
        below_most active.frame (length masked.state.frames)
        (same_first (suc active.frame) (length masked.state.frames) [] [] (sym at.active_is.next.depth ∙ shown.shows.depth)) shown.shows.few

    alike : (x : Var) → IsScalar variables active.function x → IsThere (declared_before variables active.function at.f active.step) x.id
        → AreReadAlike width x.rate (words_in masked.state x.id) (words_in (region_state history width words active.frame) x.id)
    alike x scalar there =
        let top = top_declared variables (program_of compiled) width regions active.frame active.level active.function at.f active.step at.point at.active_is.next masked shown.shows shown.declared in
        subst (λ ws. AreReadAlike width x.rate (words_in masked.state x.id) ws) (sym (region_state_has history width words active.frame x.id))
        (read_alike variables (program_of compiled) width regions masked active.frame active.function at.f active.step shown.shows top x scalar there)

    by_regions : value e lanes masked.state ≡ value e lanes (region_state history width words active.frame)
    by_regions =
        value_agrees variables active.function (declared_before variables active.function at.f active.step) width masked.state (region_state history width words active.frame)
        alike (λ v. shown.shows.memory v ∙ sym (region_state_memory history width words active.frame v))
        (λ a array.
        array_shown (program_of compiled) variables width regions masked shown.shows active.frame active.level active.function at.f active.step at.point at.active_is.next a array
        ∙ sym (region_state_views history width words active.frame a))
        e at.well_scoped at.declared lanes (length-lanes_of_word width active.lanes.word)

    -- what holds of the value that the code computes, in each state that has what the frame reads of the regions, holds of the value
    -- in the masked state
    pub value_by_code : (P : Result (List ℕ) Fault → Type 0)
        → ((expression : TypedExpr) (state : State) → Computes expression code → HasRoom (expr_view expression)
        → HasRegions (regions_in history width words) active.frame state
        → P (value (expr_view expression) (lanes_of width active.lanes) state))
        → P (value e (lanes_of width active.lanes) masked.state)
    value_by_code P of_each =
        let is = at.value in
        subst P (ap (λ x. value x lanes (region_state history width words active.frame)) is.is_view ∙ sym by_regions)
        (of_each is.expression (region_state history width words active.frame) is.computes (subst HasRoom (sym is.is_view) at.room)
        (region_state_is history width words active.frame))
