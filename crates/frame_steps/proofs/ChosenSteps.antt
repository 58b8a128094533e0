-- `switch`: where its code says that its lanes go on, the words show the masked state after it.
use Rattle.std.proofs.Common.{ℕ, ◌+◌, ◌<◌, ◌≡◌, refl, sym, ◌∙◌, ap, subst, List, Vec, Global, arith}
use Rattle.std.specs.Prelude.{Ok, Err}
use Rattle.gang_types.specs.Masks.{lanes_of}
use Rattle.gang_model.specs.Types.Tree.{Expr, StepNumber, Stmt, Function}
use Rattle.gang_model.specs.Running.Lanes.{Fault as ModelFault, at}
use Rattle.gang_model.specs.Running.Value.{value}
use Rattle.undo_log.specs.History.{History}
use Rattle.undo_log.specs.declared.timeline.Undone.TheVariants as undone
use Rattle.mask_states.specs.Points.{Point, Choose}
use Rattle.mask_states.specs.Masked.{Masked}
use Rattle.mask_states.specs.MaskedStep.{chosen, segment_of}
use Rattle.machine_states.specs.Regions.{Regions}
use Rattle.machine_states.specs.Effects.{sent_on}
use Rattle.machine_states.specs.Steps.{FailsWith, waiting_in}
use Rattle.machine_states.proofs.ChooseSteps.{choice_fails, chooses}
use Rattle.expression_instructions.specs.declared.code.Instruction.{Instruction}
use Rattle.codegen.specs.Codes.{AreSegments, Does, IsValue}
use Rattle.codegen.specs.declared.code.SegmentCode.{SegmentCode}
use Rattle.codegen.specs.declared.code.StepCode.TheVariants as code
use Rattle.machine_words.specs.declared.words.MachineWords.{MachineWords}
use Rattle.machine_words.specs.Words.{regions_in}
use Rattle.frame_steps.specs.declared.active.Active.{Active}
use Rattle.frame_steps.specs.declared.compiled.CompiledProgram.{CompiledProgram}
use Rattle.frame_steps.specs.Compiled.{program_of, variables_of}
use Rattle.frame_steps.specs.Standing.{AreSound, Begins, DoesNext, EndsAs, IsShown, IsValueAt}
use Rattle.frame_steps.proofs.Standings.{begun, ends_well, some_active}
use Rattle.frame_steps.proofs.StepValues.{IsAt, value_at}
use Rattle.frame_steps.specs.Written.{MaySend}
use Rattle.frame_steps.proofs.SentSteps.{Sends, may_send, sends_to, sent_so}

-- the switch of the next step: its selector, its segments, and where they begin
pub record IsChoosing (width : ℕ) (compiled : CompiledProgram) (regions : Regions) (active : Active) (selector : Vec Instruction Global) (segments : Vec SegmentCode Global) (next : ℕ) (f : Function) : Type 0 where
  pub e : Expr
  pub labelled : Stmt
  pub entries : List StepNumber
  pub value_is : IsValue e selector.items
  pub segments_are : AreSegments segments.items labelled entries
  pub here : IsAt width compiled regions active f (Choose e labelled entries next)

pub choose_at : (width : ℕ) (compiled : CompiledProgram) (regions : Regions) (active : Active) (selector : Vec Instruction Global) (segments : Vec SegmentCode Global) (next : ℕ) (f : Function) (point : Point)
    → Does (code.Choose selector segments next) point → IsAt width compiled regions active f point → IsChoosing width compiled regions active selector segments next f
choose_at width compiled regions active selector segments next f (Choose e labelled entries then) does at = record {
  e = e;
  labelled = labelled;
  entries = entries;
  value_is = does.0;
  segments_are = does.1;
  here = subst (λ m. IsAt width compiled regions active f (Choose e labelled entries m)) does.2 at;
}
choose_at width compiled regions active selector segments next f point does at = absurd does

module _ {T : Type 0} (history : T → History) (left : T → ℕ) (width : ℕ) (compiled : CompiledProgram) (old : MachineWords T) (sound : AreSound history width compiled old) (active : Active)
    (selector : Vec Instruction Global) (segments : Vec SegmentCode Global) (next : ℕ) (does : DoesNext width compiled (regions_in history width old) active (code.Choose selector segments next)) where
  abbrev regions : Regions
  regions = regions_in history width old

  abbrev switch : IsChoosing width compiled (regions_in history width old) active selector segments next does.0
  switch = choose_at width compiled (regions_in history width old) active selector segments next does.0 does.1 does.2 does.3

  -- its selector, for the lanes of the step
  abbrev pub selected : Expr
  selected = switch.e

  pub selector_at : (read : List Instruction) → read ≡ selector.items → IsValueAt width compiled (regions_in history width old) active selected read
  selector_at read is =
      subst (λ c. IsValueAt width compiled regions active selected c) (sym is)
      (value_at width compiled sound.lie.compiled_is regions active does.0 (Choose switch.e switch.labelled switch.entries next) switch.here selected selector.items refl switch.value_is)

  pub choice_may_send : (mid : MachineWords T) → Begins history left width undone.Step old mid → MaySend history left width active.frame active.level active.lanes mid
  choice_may_send mid begins =
      let point = Choose switch.e switch.labelled switch.entries next in
      may_send history left width compiled old sound active does.0 point switch.here regions 0 mid
      (begun history left width compiled undone.Step old mid sound.lie begins) (omega arith) (some_active history width compiled old sound active does.0 point switch.here tt)

  -- its lanes go where the segments of their values begin
  pub chose : (mid new : MachineWords T) → Begins history left width undone.Step old mid
      → (values targets : List ℕ)
      → ((labelled : Stmt) (entries : List StepNumber) → AreSegments segments.items labelled entries → (k : ℕ) → k < width → at targets k ≡ chosen entries next (segment_of labelled (at values k)))
      → Sends history left width active.frame active.level active.lanes (at targets) mid new
      → (masked : Masked) → IsShown history width compiled old masked → value selected (lanes_of width active.lanes) masked.state ≡ Ok values
      → EndsAs history width compiled masked old (Ok tt) new
  chose mid new begins values targets each_target sent masked shown is =
      let goes_on = λ (k : ℕ). chosen switch.entries next (segment_of switch.labelled (at values k)) in
      ends_well history left width compiled masked (sent_on active.frame active.level (waiting_in regions active.frame active.level active.step) goes_on regions) (0 + width) old new
      (sent_so history left width compiled old sound active does.0 (Choose switch.e switch.labelled switch.entries next) switch.here regions 0 mid
      (begun history left width compiled undone.Step old mid sound.lie begins) (omega arith) new goes_on
      (sends_to history left width active.frame active.level active.lanes mid new (at targets) goes_on (each_target switch.labelled switch.entries switch.segments_are) sent))
      (chooses (program_of compiled) (variables_of compiled) width regions masked shown.shows active.frame active.level active.function does.0 active.step
      switch.e switch.labelled switch.entries next switch.here.next values (ap (λ lanes. value switch.e lanes masked.state) (sym switch.here.lanes) ∙ is))

  pub selector_faults : (masked : Masked) → IsShown history width compiled old masked → (fault : ModelFault) → value selected (lanes_of width active.lanes) masked.state ≡ Err fault
      → FailsWith (program_of compiled) masked fault
  selector_faults masked shown fault is =
      choice_fails (program_of compiled) (variables_of compiled) width regions masked shown.shows active.frame active.level active.function does.0 active.step
      switch.e switch.labelled switch.entries next switch.here.next fault (ap (λ lanes. value switch.e lanes masked.state) (sym switch.here.lanes) ∙ is)
