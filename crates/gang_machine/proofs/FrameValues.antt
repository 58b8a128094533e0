-- The value of an expression where a frame stands depends on the machine's regions alone.
use Rattle.std.proofs.Common.{◌≡◌, refl, sym, ap, subst, ◌∙◌, ℕ, suc, ◌<◌, ◌≤◌, [], ◌∷◌, length, arith}
use Rattle.std.specs.Prelude.{min, slice_get, slice_index}
use Rattle.gang_types.specs.declared.places.VarId.{VarId}
use Rattle.gang_types.specs.declared.places.VarId.TheVariants.{File, Local}
use Rattle.gang_types.specs.Lanes.{Lanes}
use Rattle.gang_model.specs.Types.Tree.{Expr, Function, Var}
use Rattle.gang_model.specs.Running.State.{State, view_of, words_in, words_of}
use Rattle.gang_model.specs.Running.Value.{value}
use Rattle.undo_log.specs.History.{History}
use Rattle.mask_states.specs.Masked.{Masked}
use Rattle.mask_states.specs.MaskedStep.{untasked}
use Rattle.mask_states.specs.Points.{points_in}
use Rattle.mask_states.proofs.UntaskedValues.{untasked_view, untasked_words}
use Rattle.machine_states.specs.ArrayParts.{view_at}
use Rattle.machine_states.specs.Declared.{AreDeclared, IsThere, NamesDeclared, declared_before}
use Rattle.machine_states.specs.Effects.{region_of}
use Rattle.machine_states.specs.Regions.{Depth, Regions}
use Rattle.machine_states.specs.Shows.{Shows}
use Rattle.machine_states.specs.Variables.{IsArray, IsScalar, Variables}
use Rattle.machine_states.specs.WellScoped.{IsWellScopedExpr}
use Rattle.machine_states.proofs.ArrayViews.{view_same}
use Rattle.machine_states.proofs.ChangedRegions.{lengths_kept}
use Rattle.machine_states.proofs.AlwaysDeclared.{read_alike, top_declared}
use Rattle.machine_states.proofs.DeclaredLists.{same_first}
use Rattle.machine_states.proofs.ElementSteps.{array_shown}
use Rattle.machine_states.proofs.ReadValues.{AreReadAlike, value_agrees}
use Rattle.machine_words.specs.declared.words.MachineWords.{MachineWords}
use Rattle.machine_words.specs.Words.{regions_in}
use Rattle.frame_steps.specs.declared.active.Active.{Active}
use Rattle.frame_steps.specs.declared.compiled.CompiledProgram.{CompiledProgram}
use Rattle.frame_steps.specs.Compiled.{program_of, variables_of}
use Rattle.frame_steps.specs.Standing.{IsActive, IsShown}
use Rattle.frame_steps.proofs.RegionStates.{region_state, region_state_has, region_state_memory, region_state_views}
use Rattle.machine_shown.specs.Frames.{masked_up_to, regions_up_to}
use Rattle.machine_shown.proofs.FramePlaces.{declared_up_to, shows_up_to}

-- ---- the frames above a depth change no words

same_region : (deep frame : ℕ) (regions : Regions) (id : VarId) → regions_up_to deep regions (region_of frame id) ≡ regions (region_of frame id)
same_region deep frame regions (File k) = refl
same_region deep frame regions (Local k) = refl

same_part : (deep frame : ℕ) (regions : Regions) (id : VarId) → view_at (regions_up_to deep regions) frame id ≡ view_at regions frame id
same_part deep frame regions (File k) = refl
same_part deep frame regions (Local k) =
    view_same regions (regions_up_to deep regions) (lengths_kept (min deep (slice_index (regions Depth) 0) ∷ []) regions 0 Depth tt) frame k refl

below_most : (index frames : ℕ) → suc index ≡ frames → frames ≤ 64 → index < 64
below_most index frames e h = omega arith

module _ {T : Type 0} (history : T → History) (width : ℕ) (compiled : CompiledProgram) (words : MachineWords T) (masked : Masked) (shown : IsShown history width compiled words masked)
    (deep : ℕ) (active : Active) (f : Function) (is_active : IsActive width compiled (regions_up_to deep (regions_in history width words)) active f (slice_get (points_in f) active.step)) where
  abbrev regions : Regions
  regions = regions_in history width words

  -- with no frame above the depth
  abbrev left : Regions
  left = regions_up_to deep (regions_in history width words)

  abbrev variables : Variables
  variables = variables_of compiled

  left_shows : Shows (program_of compiled) (variables_of compiled) width (regions_up_to deep (regions_in history width words)) (masked_up_to deep masked)
  left_shows = shows_up_to (program_of compiled) (variables_of compiled) width (regions_in history width words) masked shown.shows deep

  -- the frame is one of 64
  pub frame_there : active.frame < 64
  frame_there =
      below_most active.frame (length (masked_up_to deep masked).state.frames)
      (same_first (suc active.frame) (length (masked_up_to deep masked).state.frames) [] [] (sym is_active.next.depth ∙ left_shows.depth)) left_shows.few

  -- the part that an array's name stands for in the frame
  pub array_view : (a : VarId) → IsArray (variables_of compiled) active.function a → view_of (masked_up_to deep masked).state a ≡ view_at (regions_in history width words) active.frame a
  array_view a array =
      array_shown (program_of compiled) variables width left (masked_up_to deep masked) left_shows active.frame active.level active.function f active.step (slice_get (points_in f) active.step) is_active.next a array
      ∙ same_part deep active.frame regions a

  -- a state with the words of the masked one
  module _ (state : State) (words_are : untasked state ≡ (masked_up_to deep masked).state) where
    words_same : (id : VarId) → words_in state id ≡ words_in (masked_up_to deep masked).state id
    words_same id = sym (untasked_words state id) ∙ ap (λ st. words_in st id) words_are

    views_same : (id : VarId) → view_of state id ≡ view_of (masked_up_to deep masked).state id
    views_same id = sym (untasked_view state id) ∙ ap (λ st. view_of st id) words_are

    alike : (x : Var) → IsScalar variables active.function x → IsThere (declared_before variables active.function f active.step) x.id
        → AreReadAlike width x.rate (words_in state x.id) (words_in (region_state history width words active.frame) x.id)
    alike x scalar there =
        let declared : AreDeclared variables (program_of compiled) (masked_up_to deep masked) = declared_up_to (program_of compiled) variables width regions masked shown.shows deep shown.declared in
        let top = top_declared variables (program_of compiled) width left active.frame active.level active.function f active.step (slice_get (points_in f) active.step) is_active.next
        (masked_up_to deep masked) left_shows declared in
        subst (λ ws. AreReadAlike width x.rate ws (words_in (region_state history width words active.frame) x.id)) (sym (words_same x.id))
        (subst (λ ws. AreReadAlike width x.rate (words_in (masked_up_to deep masked).state x.id) ws)
        (same_region deep active.frame regions x.id ∙ sym (region_state_has history width words active.frame x.id))
        (read_alike variables (program_of compiled) width left (masked_up_to deep masked) active.frame active.function f active.step left_shows top x scalar there))

    -- the value for any lanes of a gang
    pub by_regions : (e : Expr) → IsWellScopedExpr (variables_of compiled) active.function e → NamesDeclared (declared_before (variables_of compiled) active.function f active.step) e
        → (lanes : Lanes) → length lanes ≡ width → value e lanes state ≡ value e lanes (region_state history width words active.frame)
    by_regions e well_scoped declared lanes long =
        value_agrees variables active.function (declared_before variables active.function f active.step) width state (region_state history width words active.frame)
        alike
        (λ v. ap (λ st. words_of st.memory v) words_are ∙ shown.shows.memory v ∙ sym (region_state_memory history width words active.frame v))
        (λ a array.
        views_same a ∙ array_view a array ∙ sym (region_state_views history width words active.frame a))
        e well_scoped declared lanes long
