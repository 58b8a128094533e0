-- What the regions show when the top frame is left.
use Rattle.std.proofs.Common.{ℕ, suc, ◌+◌, ◌-◌, ◌<◌, ◌≡◌, sym, ◌∙◌, ap, subst, arith, [], ◌∷◌, length}
use Rattle.std.specs.Prelude.{None, slice_set}
use Rattle.undo_log.specs.History.{History}
use Rattle.undo_log.specs.declared.timeline.Undone.TheVariants as undone
use Rattle.gang_types.specs.Masks.{IsGangWidth}
use Rattle.gang_model.specs.Types.Tree.{Function}
use Rattle.mask_states.specs.Masked.{Masked}
use Rattle.machine_states.specs.Regions.{Depth, Regions, with_region}
use Rattle.machine_states.specs.Shows.{AreSized}
use Rattle.machine_states.specs.Steps.{Delivers, GoesTo, IsNext}
use Rattle.machine_states.proofs.AwaitedResults.{has_result}
use Rattle.machine_states.proofs.LeaveSteps.{leaves, leaves_entry}
use Rattle.machine_words.specs.declared.words.MachineWords.{MachineWords}
use Rattle.machine_words.specs.Words.{AreLaid, Writes, regions_in, words_of}
use Rattle.machine_words.proofs.Sizes.{depth_words}
use Rattle.frame_steps.specs.declared.active.Active.{Active}
use Rattle.frame_steps.specs.declared.compiled.CompiledProgram.{CompiledProgram}
use Rattle.frame_steps.specs.Compiled.{IsCompiled, program_of, variables_of}
use Rattle.frame_steps.specs.Standing.{AreSound, Begins, IsActive, IsClosing, IsShown}
use Rattle.frame_steps.proofs.Heads.{only_word}
use Rattle.frame_steps.proofs.Standings.{IsUnderWay, begun, begun_regions, lie_behind, recorded_so_far, shown_alike, sized, under_way_alike, wrote}
use Rattle.machine_steps.specs.Leaving.{GoesPastCall, behind_call, lanes_called, result_seen}
use Rattle.machine_steps.proofs.Callers.{call_declared, call_well_scoped}

-- ---- where lanes go on

module _ {T : Type 0} (history : T → History) (left : T → ℕ) (w : ℕ) (gang : IsGangWidth w) (compiled : CompiledProgram) (is : IsCompiled compiled) (active : Active) (f : Function) (masked : Masked) (words : MachineWords T)
    (shown : IsShown history w compiled words masked) (is_active : IsActive w compiled (regions_in history w words) active f None) where
  abbrev regions : Regions
  regions = regions_in history w words

  -- behind the call that made the frame
  pub goes_past : (new : MachineWords T) → AreSized (variables_of compiled) w regions → (above : 0 < active.frame) → (gone : GoesPastCall history left w compiled active.frame f words new)
      → GoesTo (program_of compiled) (variables_of compiled) w masked
      (with_region Depth (active.frame ∷ []) (behind_call regions (active.frame - 1) gone.level gone.g gone.next gone.delivered))
  goes_past new sized above gone =
      let p = program_of compiled in
      let variables = variables_of compiled in
      let runnable = is.runnable in
      let j = active.frame - 1 in
      let e : active.frame ≡ suc j = omega (arith, above) in
      let call = gone.call in
      let next : IsNext p w regions (suc j) active.level active.function f active.step None = subst (λ i. IsNext p w regions i active.level active.function f active.step None) e is_active.next in
      let delivers : Delivers w j gone.g gone.for f.result_type (lanes_called w regions (suc j)) (result_seen w regions (suc j) f.result (lanes_called w regions (suc j))) regions gone.delivered =
      subst (λ i. Delivers w j gone.g gone.for f.result_type (lanes_called w regions i) (result_seen w regions i f.result (lanes_called w regions i)) regions gone.delivered) e gone.delivers in
      let has = has_result p variables w regions masked shown.shows j active.level gone.level active.function gone.n f gone.g active.step gone.for next call.runs call.is_function call.innermost
      (call_declared p w regions j gone.level gone.n gone.g gone.for gone.next call variables runnable.lowerable.numbered runnable.declared) shown.declared in
      subst (λ d. GoesTo p variables w masked (with_region Depth (d ∷ []) (behind_call regions j gone.level gone.g gone.next gone.delivered))) (sym e)
      (leaves p variables w gang regions masked shown.shows sized j active.level gone.level active.function gone.n call.called f gone.g active.step call.args gone.for gone.next next call.runs
      call.is_function call.innermost call.calls gone.delivered (call_well_scoped p w regions j gone.level gone.n gone.g gone.for gone.next call variables runnable.most runnable.well_scoped) has delivers)

  -- nowhere, if the frame is the entry's
  pub goes_nowhere : active.frame ≡ 0 → GoesTo (program_of compiled) (variables_of compiled) w masked (with_region Depth (active.frame ∷ []) regions)
  goes_nowhere e =
      let p = program_of compiled in
      subst (λ d. GoesTo p (variables_of compiled) w masked (with_region Depth (d ∷ []) regions)) (sym e)
      (leaves_entry p (variables_of compiled) w regions masked shown.shows active.level active.function f active.step
      (subst (λ i. IsNext p w regions i active.level active.function f active.step None) e is_active.next))

-- ---- the event

module _ {T : Type 0} (history : T → History) (left : T → ℕ) (w : ℕ) (compiled : CompiledProgram) (old mid : MachineWords T) (sound : AreSound history w compiled old) (begins : Begins history left w undone.Step old mid) where
  under_way : IsUnderWay history left w undone.Step (regions_in history w old) 0 old mid
  under_way = begun history left w compiled undone.Step old mid sound.lie begins

  pub begun_laid : AreLaid history w mid
  begun_laid = under_way.laid

  pub begun_shown : (masked : Masked) → IsShown history w compiled old masked → IsShown history w compiled mid masked
  begun_shown masked shown = shown_alike history w compiled old mid masked under_way.regions_are shown

  -- the words stand as before once the event is open
  pub begun_sound : AreSound history w compiled mid
  begun_sound = record {
    lie = lie_behind history w compiled undone.Step old mid sound.lie (recorded_so_far history left w undone.Step (regions_in history w old) 0 old mid under_way);
    masked = sound.masked;
    shown = begun_shown sound.masked sound.shown;
    called = sound.called;
  }

  pub begun_closing : (active : Active) → IsClosing w compiled (regions_in history w old) active → IsClosing w compiled (regions_in history w mid) active
  begun_closing active closing = subst (λ regions. IsClosing w compiled regions active) (sym (begun_regions history left w compiled undone.Step old mid sound.lie begins)) closing

  pub begun_sized : AreSized (variables_of compiled) w (regions_in history w mid)
  begun_sized = sized history w compiled old mid sound.lie begins.layout under_way.laid

  -- it is under way behind the call
  pub past_under_way : (frame : ℕ) (f : Function) (new : MachineWords T) → (gone : GoesPastCall history left w compiled frame f mid new)
      → IsUnderWay history left w undone.Step (behind_call (regions_in history w mid) (frame - 1) gone.level gone.g gone.next gone.delivered) (w + w + 1) old new
  past_under_way frame f new gone = record {
    regions_are = gone.regions;
    layout = gone.layout ∙ begins.layout;
    laid = gone.laid;
    recorded = gone.rest ∙ begins.recorded;
    left_is = omega (arith, gone.few, begins.left_is);
  }

-- the number of frames is set
module _ {T : Type 0} (history : T → History) (left : T → ℕ) (w : ℕ) (regions : Regions) (writes : ℕ) (old mid : MachineWords T) (under_way : IsUnderWay history left w undone.Step regions writes old mid) where
  pub depth_set : (new : MachineWords T) (depth : ℕ) → Writes history left w Depth (slice_set (regions_in history w mid Depth) 0 depth) 1 mid new
      → IsUnderWay history left w undone.Step (with_region Depth (depth ∷ []) regions) (writes + 1) old new
  depth_set new depth is =
      let long : length (regions Depth) ≡ 1 = ap length (sym (under_way.regions_are Depth)) ∙ depth_words w mid.layout (words_of history mid) under_way.laid in
      under_way_alike history left w undone.Step (with_region Depth (slice_set (regions Depth) 0 depth) regions) (writes + 1) old new
      (wrote history left w undone.Step regions writes old mid under_way new Depth (λ words. slice_set words 0 depth) 1 is)
      (with_region Depth (depth ∷ []) regions) (λ r. ap (λ words. with_region Depth words regions r) (only_word (regions Depth) depth long))
