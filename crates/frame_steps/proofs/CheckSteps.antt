-- `assert`.
use Rattle.std.proofs.Common.{ℕ, ◌+◌, Bool, true, false, true≢false, ◌≡◌, refl, sym, ◌∙◌, ap, subst, List, length, Vec, Global, arith}
use Rattle.std.specs.Prelude.{◌&&◌, not, Some, Result, Ok, Err, if◌then◌else◌}
use Rattle.gang_types.specs.declared.faults.FaultName.TheVariants.{Assert}
use Rattle.gang_types.specs.Lanes.{Lanes, has, no_lane, lanes_where, lowest}
use Rattle.gang_types.specs.LaneLaws.{below_lowest, has-lanes_where, lowest_has, no_lane_has}
use Rattle.gang_types.specs.Masks.{lanes_of}
use Rattle.gang_model.specs.Types.Tree.{Check, Expr, Function, StepNumber}
use Rattle.gang_model.specs.Running.Lanes.{Fault as ModelFault, each, holds}
use Rattle.gang_model.specs.Running.Value.{value}
use Rattle.cross_lane.specs.AttemptLaws.{all_ok, first_err}
use Rattle.undo_log.specs.History.{History}
use Rattle.undo_log.specs.declared.timeline.Undone.TheVariants as undone
use Rattle.debug_traits.specs.declared.machine.Fault.{Fault}
use Rattle.debug_traits.specs.Machines.{fault_view}
use Rattle.mask_states.specs.Points.{Point, Put}
use Rattle.mask_states.specs.Masked.{Masked}
use Rattle.machine_states.specs.Regions.{Regions}
use Rattle.machine_states.specs.Effects.{sent_on}
use Rattle.machine_states.specs.Steps.{FailsWith, waiting_in}
use Rattle.machine_states.proofs.PutSteps.{asserted, check_fails, check_value_fails, checks}
use Rattle.expression_instructions.specs.declared.code.Instruction.{Instruction}
use Rattle.codegen.specs.declared.code.StepCode.TheVariants as code
use Rattle.codegen.specs.Codes.{Does, IsValue}
use Rattle.machine_words.specs.declared.words.MachineWords.{MachineWords}
use Rattle.machine_words.specs.Words.{regions_in}
use Rattle.frame_steps.specs.declared.active.Active.{Active}
use Rattle.frame_steps.specs.declared.compiled.CompiledProgram.{CompiledProgram}
use Rattle.frame_steps.specs.Checks.{HoldsInEach}
use Rattle.frame_steps.specs.Compiled.{program_of, variables_of}
use Rattle.frame_steps.specs.Standing.{AreSound, Begins, DoesNext, EndsAs, IsActive, IsShown, IsValueAt}
use Rattle.frame_steps.specs.Written.{MaySend}
use Rattle.frame_steps.proofs.SentSteps.{Sends, may_send, sent_so}
use Rattle.frame_steps.proofs.Standings.{begun, ends_well, lanes_long, some_active}
use Rattle.frame_steps.proofs.StepValues.{value_at}

-- ---- the lanes in which a test does not hold

passes_where : (b t : Bool) → b ≡ true → (b && not t) ≡ false → t ≡ true
passes_where true true here e = refl
passes_where true false here e = sym e
passes_where false t here e = absurd (true≢false (sym here))

fails_where : (b t : Bool) → (b && not t) ≡ true → (b ≡ true) × (t ≡ false)
fails_where true true e = (refl, sym e)
fails_where true false e = (refl, refl)
fails_where false t e = absurd (true≢false (sym e))

module _ (lanes : Lanes) (values : List ℕ) where
  abbrev failing : Lanes
  failing = lanes_where lanes (λ k. not (holds values k))

  passes_at : (k : ℕ) → has failing k ≡ false → has lanes k ≡ true → holds values k ≡ true
  passes_at k none here = passes_where (has lanes k) (holds values k) here (sym (has-lanes_where lanes (λ j. not (holds values j)) k) ∙ none)

  pub all_hold : no_lane (lanes_where lanes (λ k. not (holds values k))) ≡ true → HoldsInEach lanes values (Ok tt)
  all_hold none k here = passes_at k (no_lane_has failing none k) here

  pub lowest_fails : (lane : ℕ) → lane ≡ lowest (lanes_where lanes (λ k. not (holds values k))) → no_lane (lanes_where lanes (λ k. not (holds values k))) ≡ false
      → HoldsInEach lanes values (Err (record { name = Assert; lane = lane }))
  lowest_fails lane e some =
      let fails = fails_where (has lanes lane) (holds values lane) (sym (has-lanes_where lanes (λ j. not (holds values j)) lane) ∙ ap (has failing) e ∙ lowest_has failing some) in
      (refl, fails.0, fails.1, λ k below here. passes_at k (below_lowest failing k (omega (arith, below, e))) here)

-- what that is in the definitions
pub asserted_holds : (width : ℕ) (lanes : Lanes) (values : List ℕ) → length lanes ≡ width → HoldsInEach lanes values (Ok tt) → asserted lanes values ≡ Ok (each lanes (λ k. 0))
asserted_holds width lanes values long holds_in =
    all_ok width lanes (λ k. if holds values k then Ok 0 else Err Assert) (λ k. 0) long (λ k below here. ap (λ t. if t then Ok 0 else Err Assert) (holds_in k here))

pub asserted_fails : (lanes : Lanes) (values : List ℕ) (fault : Fault) → HoldsInEach lanes values (Err fault) → asserted lanes values ≡ Err (fault_view fault)
asserted_fails lanes values fault fails =
    first_err lanes (λ k. if holds values k then Ok 0 else Err Assert) (λ k. 0) fault.lane Assert fails.1 (ap (λ t. if t then Ok 0 else Err Assert) fails.2)
    (λ k below here. ap (λ t. if t then Ok 0 else Err Assert) (fails.3 k below here))
    ∙ ap (λ name. Err (record { name = name; lane = fault.lane })) (sym fails.0)

-- ---- the step

module _ {T : Type 0} (history : T → History) (left : T → ℕ) (width : ℕ) (compiled : CompiledProgram) (old : MachineWords T) (sound : AreSound history width compiled old) (active : Active)
    (test : Vec Instruction Global) (next : ℕ) (does : DoesNext width compiled (regions_in history width old) active (code.Check test next)) where
  abbrev regions : Regions
  regions = regions_in history width old

  abbrev pub IsAt : Function → Point → Type 0
  IsAt f point = IsActive width compiled regions active f (Some point)

  abbrev pub IsChecking : Function → Type 0
  IsChecking f = (number : StepNumber) × (e : Expr) × IsValue e test.items × IsAt f (Put (Check number e) next)

  pub check_at : (f : Function) (point : Point) → Does (code.Check test next) point → IsAt f point → IsChecking f
  check_at f (Put (Check number e) behind) made at = (number, e, made.0, subst (λ m. IsAt f (Put (Check number e) m)) made.1 at)
  check_at f point made at = absurd made

  abbrev found : IsChecking does.0
  found = check_at does.0 does.1 does.2 does.3

  -- the expression that is tested, for the lanes of the step
  abbrev pub checked : Expr
  checked = found.1

  abbrev point_is : Point
  point_is = Put (Check found.0 found.1) next

  pub checked_at : (read : List Instruction) → read ≡ test.items → IsValueAt width compiled (regions_in history width old) active checked read
  checked_at read is =
      subst (λ c. IsValueAt width compiled regions active checked c) (sym is)
      (value_at width compiled sound.lie.compiled_is regions active does.0 point_is found.3 checked test.items refl found.2)

  pub check_may_send : (mid : MachineWords T) → Begins history left width undone.Step old mid → MaySend history left width active.frame active.level active.lanes mid
  check_may_send mid begins =
      may_send history left width compiled old sound active does.0 point_is found.3 regions 0 mid (begun history left width compiled undone.Step old mid sound.lie begins) (omega arith)
      (some_active history width compiled old sound active does.0 point_is found.3 tt)

  value_is : (masked : Masked) (r : Result (List ℕ) ModelFault) → value checked (lanes_of width active.lanes) masked.state ≡ r → value checked (waiting_in regions active.frame active.level active.step) masked.state ≡ r
  value_is masked r is = ap (λ l. value checked l masked.state) (sym found.3.lanes) ∙ is

  pub check_value_faults : (masked : Masked) → IsShown history width compiled old masked → (fault : ModelFault) → value checked (lanes_of width active.lanes) masked.state ≡ Err fault
      → FailsWith (program_of compiled) masked fault
  check_value_faults masked shown fault is =
      check_value_fails (program_of compiled) (variables_of compiled) width regions masked shown.shows active.frame active.level active.function does.0 active.step found.0 checked next found.3.next fault
      (value_is masked (Err fault) is)

  module _ (values : List ℕ) (masked : Masked) (shown : IsShown history width compiled old masked) (is : value checked (lanes_of width active.lanes) masked.state ≡ Ok values) where
    pub check_faults : (fault : Fault) → HoldsInEach (lanes_of width active.lanes) values (Err fault) → FailsWith (program_of compiled) masked (fault_view fault)
    check_faults fault fails =
        check_fails (program_of compiled) (variables_of compiled) width regions masked shown.shows active.frame active.level active.function does.0 active.step found.0 checked next found.3.next
        values (value_is masked (Ok values) is) (fault_view fault)
        (ap (λ l. asserted l values) (sym found.3.lanes) ∙ asserted_fails (lanes_of width active.lanes) values fault fails)

    pub check_ends : HoldsInEach (lanes_of width active.lanes) values (Ok tt) → (mid new : MachineWords T) → Begins history left width undone.Step old mid
        → Sends history left width active.frame active.level active.lanes (λ k. next) mid new
        → EndsAs history width compiled masked old (Ok tt) new
    check_ends hold mid new begins sends =
        ends_well history left width compiled masked (sent_on active.frame active.level (waiting_in regions active.frame active.level active.step) (λ k. next) regions) (0 + width) old new
        (sent_so history left width compiled old sound active does.0 point_is found.3 regions 0 mid (begun history left width compiled undone.Step old mid sound.lie begins) (omega arith)
        new (λ k. next) sends)
        (checks (program_of compiled) (variables_of compiled) width regions masked shown.shows active.frame active.level active.function does.0 active.step found.0 checked next found.3.next
        values (value_is masked (Ok values) is) (each (lanes_of width active.lanes) (λ k. 0))
        (ap (λ l. asserted l values) (sym found.3.lanes) ∙ asserted_holds width (lanes_of width active.lanes) values (lanes_long width active.lanes) hold))
