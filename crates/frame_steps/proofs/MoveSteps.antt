-- `break`, `continue`, and the tests of branches and loops.
use Rattle.std.proofs.Common.{ℕ, ◌+◌, ◌<◌, ◌≡◌, refl, sym, ◌∙◌, ap, subst, List, Vec, Global, arith}
use Rattle.std.specs.Prelude.{Ok, Err, if◌then◌else◌}
use Rattle.gang_types.specs.Masks.{lanes_of}
use Rattle.gang_model.specs.Types.Tree.{Expr}
use Rattle.gang_model.specs.Running.Lanes.{Fault as ModelFault, at, holds}
use Rattle.gang_model.specs.Running.Value.{value}
use Rattle.undo_log.specs.History.{History}
use Rattle.undo_log.specs.declared.timeline.Undone.TheVariants as undone
use Rattle.mask_states.specs.Points.{Go, Branch}
use Rattle.mask_states.specs.Masked.{Masked}
use Rattle.machine_states.specs.Regions.{Regions}
use Rattle.machine_states.specs.Effects.{sent_on}
use Rattle.machine_states.specs.Steps.{FailsWith, waiting_in}
use Rattle.machine_states.proofs.PutSteps.{branch_fails, branches, goes}
use Rattle.expression_instructions.specs.declared.code.Instruction.{Instruction}
use Rattle.codegen.specs.declared.code.StepCode.TheVariants as code
use Rattle.machine_words.specs.declared.words.MachineWords.{MachineWords}
use Rattle.machine_words.specs.Words.{regions_in}
use Rattle.frame_steps.specs.declared.active.Active.{Active}
use Rattle.frame_steps.specs.declared.compiled.CompiledProgram.{CompiledProgram}
use Rattle.frame_steps.specs.Compiled.{program_of, variables_of}
use Rattle.frame_steps.specs.Standing.{AreSound, Begins, DoesNext, EndsAs, IsShown, IsValueAt}
use Rattle.frame_steps.proofs.Standings.{begun, ends_well, some_active}
use Rattle.frame_steps.proofs.StepValues.{branches_at, goes_at, value_at}
use Rattle.frame_steps.specs.Written.{MaySend}
use Rattle.frame_steps.proofs.SentSteps.{Sends, may_send, sends_to, sent_so}

module _ {T : Type 0} (history : T → History) (left : T → ℕ) (width : ℕ) (compiled : CompiledProgram) (old : MachineWords T) (sound : AreSound history width compiled old) (active : Active) where
  abbrev regions : Regions
  regions = regions_in history width old

  pub go_may_send : (next : ℕ) → DoesNext width compiled (regions_in history width old) active (code.Go next) → (mid : MachineWords T) → Begins history left width undone.Step old mid
      → MaySend history left width active.frame active.level active.lanes mid
  go_may_send next does mid begins =
      let found = goes_at width compiled regions active next does in
      may_send history left width compiled old sound active found.0 (Go next) found.1 regions 0 mid (begun history left width compiled undone.Step old mid sound.lie begins) (omega arith)
      (some_active history width compiled old sound active found.0 (Go next) found.1 tt)

  pub gone : (next : ℕ) → DoesNext width compiled (regions_in history width old) active (code.Go next) → (mid new : MachineWords T) → Begins history left width undone.Step old mid
      → Sends history left width active.frame active.level active.lanes (λ k. next) mid new
      → (masked : Masked) → IsShown history width compiled old masked → EndsAs history width compiled masked old (Ok tt) new
  gone next does mid new begins sends masked shown =
      let found = goes_at width compiled regions active next does in
      ends_well history left width compiled masked (sent_on active.frame active.level (waiting_in regions active.frame active.level active.step) (λ k. next) regions) (0 + width) old new
      (sent_so history left width compiled old sound active found.0 (Go next) found.1 regions 0 mid (begun history left width compiled undone.Step old mid sound.lie begins) (omega arith)
      new (λ k. next) sends)
      (goes (program_of compiled) (variables_of compiled) width regions masked shown.shows active.frame active.level active.function found.0 active.step next found.1.next)

  module _ (test : Vec Instruction Global) (yes' no' : ℕ) (does : DoesNext width compiled (regions_in history width old) active (code.Branch test yes' no')) where
    -- the expression that is tested, for the lanes of the step
    abbrev pub tested : Expr
    tested = (branches_at width compiled (regions_in history width old) active test yes' no' does).1.0

    pub test_at : (read : List Instruction) → read ≡ test.items → IsValueAt width compiled (regions_in history width old) active tested read
    test_at read is =
        let found = branches_at width compiled regions active test yes' no' does in
        subst (λ c. IsValueAt width compiled regions active tested c) (sym is)
        (value_at width compiled sound.lie.compiled_is regions active found.0 (Branch tested yes' no') found.1.2 tested test.items refl found.1.1)

    pub branch_may_send : (mid : MachineWords T) → Begins history left width undone.Step old mid → MaySend history left width active.frame active.level active.lanes mid
    branch_may_send mid begins =
        let found = branches_at width compiled regions active test yes' no' does in
        may_send history left width compiled old sound active found.0 (Branch found.1.0 yes' no') found.1.2 regions 0 mid
        (begun history left width compiled undone.Step old mid sound.lie begins) (omega arith) (some_active history width compiled old sound active found.0 (Branch found.1.0 yes' no') found.1.2 tt)

    pub branched : (mid new : MachineWords T) → Begins history left width undone.Step old mid
        → (values targets : List ℕ) → ((k : ℕ) → k < width → at targets k ≡ (if holds values k then yes' else no'))
        → Sends history left width active.frame active.level active.lanes (at targets) mid new
        → (masked : Masked) → IsShown history width compiled old masked → value tested (lanes_of width active.lanes) masked.state ≡ Ok values
        → EndsAs history width compiled masked old (Ok tt) new
    branched mid new begins values targets each_target sent masked shown is =
        let found = branches_at width compiled regions active test yes' no' does in
        let e = found.1.0 in
        let here = found.1.2 in
        let goes_on = λ (k : ℕ). if holds values k then yes' else no' in
        ends_well history left width compiled masked (sent_on active.frame active.level (waiting_in regions active.frame active.level active.step) goes_on regions) (0 + width) old new
        (sent_so history left width compiled old sound active found.0 (Branch e yes' no') here regions 0 mid (begun history left width compiled undone.Step old mid sound.lie begins) (omega arith)
        new goes_on (sends_to history left width active.frame active.level active.lanes mid new (at targets) goes_on each_target sent))
        (branches (program_of compiled) (variables_of compiled) width regions masked shown.shows active.frame active.level active.function found.0 active.step e yes' no' here.next values
        (ap (λ lanes. value e lanes masked.state) (sym here.lanes) ∙ is))

    pub test_faults : (masked : Masked) → IsShown history width compiled old masked → (fault : ModelFault) → value tested (lanes_of width active.lanes) masked.state ≡ Err fault
        → FailsWith (program_of compiled) masked fault
    test_faults masked shown fault is =
        let found = branches_at width compiled regions active test yes' no' does in
        let e = found.1.0 in
        let at = found.1.2 in
        branch_fails (program_of compiled) (variables_of compiled) width regions masked shown.shows active.frame active.level active.function found.0 active.step e yes' no' at.next fault
        (ap (λ lanes. value e lanes masked.state) (sym at.lanes) ∙ is)
