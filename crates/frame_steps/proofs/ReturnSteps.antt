-- The step of a `return`.
use Rattle.std.proofs.Common.{ℕ, ◌+◌, ◌≡◌, refl, sym, ◌∙◌, ap, subst, arith, List, Option, Some, Vec, Global}
use Rattle.std.specs.Prelude.{Ok}
use Rattle.undo_log.specs.History.{History}
use Rattle.undo_log.specs.declared.timeline.Undone.TheVariants as undone
use Rattle.gang_types.specs.declared.types.Rate.{Rate}
use Rattle.gang_types.specs.Lanes.{Lanes}
use Rattle.gang_types.specs.Masks.{lanes_of}
use Rattle.gang_model.specs.Types.Tree.{Expr, Function, Return, StepNumber}
use Rattle.gang_model.specs.Running.Step.{initial}
use Rattle.mask_states.specs.Points.{Point, Put}
use Rattle.mask_states.specs.Masked.{Masked}
use Rattle.machine_states.specs.Effects.{returned_in, sent_on}
use Rattle.machine_states.specs.Regions.{OfHead, Regions, ReturnedOf, lanes_in}
use Rattle.machine_states.specs.Steps.{KeepsBoth, waiting_in}
use Rattle.machine_states.proofs.PutSteps.{returns}
use Rattle.expression_instructions.specs.declared.code.Instruction.{Instruction}
use Rattle.codegen.specs.Codes.{IsOptionValue, IsValue}
use Rattle.machine_words.specs.declared.words.MachineWords.{MachineWords}
use Rattle.machine_words.specs.Words.{regions_in}
use Rattle.frame_steps.specs.declared.active.Active.{Active}
use Rattle.frame_steps.specs.declared.compiled.CompiledProgram.{CompiledProgram}
use Rattle.frame_steps.specs.Compiled.{IsCompiled, program_of, variables_of}
use Rattle.frame_steps.specs.Results.{Returns}
use Rattle.frame_steps.specs.Standing.{AreSound, Begins, EndsAs, IsActive, IsShown, IsValueAt}
use Rattle.frame_steps.proofs.OptionValues.{some_value}
use Rattle.frame_steps.proofs.SentSteps.{Sends, sent_same}
use Rattle.frame_steps.proofs.Standings.{IsUnderWay, begun_regions, ends_well, set_more}
use Rattle.frame_steps.proofs.StepValues.{value_at}

-- ---- the value

-- it computes the value
pub value_there : (w : ℕ) (compiled : CompiledProgram) → IsCompiled compiled → (regions : Regions) (active : Active) (f : Function) (number : StepNumber) (e : Option Expr) (target : StepNumber)
    → IsActive w compiled regions active f (Some (Put (Return number e) target)) → (value : Option (Vec Instruction Global)) → IsOptionValue e value
    → (code : Vec Instruction Global) → value ≡ Some code → (words : List Instruction) → words ≡ code.items → (x : Expr) × (e ≡ Some x) × IsValueAt w compiled regions active x words
value_there w compiled is regions active f number e target is_active value fits code there words same =
    let some = some_value e value code fits there in
    let point : Point = Put (Return number (Some some.0)) target in
    let is_here : IsActive w compiled regions active f (Some point) = subst (λ o. IsActive w compiled regions active f (Some (Put (Return number o) target))) some.1 is_active in
    (some.0, some.1, value_at w compiled is regions active f point is_here some.0 words refl (subst (IsValue some.0) (sym same) some.2))

-- ---- the step

module _ {T : Type 0} (history : T → History) (left : T → ℕ) (w : ℕ) (compiled : CompiledProgram) (active : Active) (f : Function) (number : StepNumber) (e : Option Expr) (target : StepNumber)
    (old mid past new : MachineWords T) (sound : AreSound history w compiled old) (is_active : IsActive w compiled (regions_in history w old) active f (Some (Put (Return number e) target)))
    (begins : Begins history left w undone.Step old mid) (rate : Rate) (rate_is : rate ≡ f.result) (values : List ℕ) (gave : Returns history left w active.frame rate active.lanes values mid past) where
  abbrev regions : Regions
  regions = regions_in history w old

  abbrev lanes : Lanes
  lanes = lanes_of w active.lanes

  abbrev result_given : Regions
  result_given = returned_in active.frame rate lanes values gave.word regions

  same_regions : regions_in history w mid ≡ regions
  same_regions = begun_regions history left w compiled undone.Step old mid sound.lie begins

  given : IsUnderWay history left w undone.Step result_given (w + 1) old past
  given = record {
    regions_are = λ r. gave.regions r ∙ ap (λ before. returned_in active.frame rate lanes values gave.word before r) same_regions;
    layout = gave.layout ∙ begins.layout;
    laid = gave.laid;
    recorded = gave.rest ∙ begins.recorded;
    left_is = omega (arith, gave.few, begins.left_is);
  }

  abbrev returned_on : Regions
  returned_on = sent_on active.frame active.level (waiting_in regions active.frame active.level active.step) (λ k. target) (returned_in active.frame f.result (waiting_in regions active.frame active.level active.step) values gave.word regions)

  module _ (sends : Sends history left w active.frame active.level active.lanes (λ k. target) past new) where
    done : IsUnderWay history left w undone.Step returned_on (w + 1 + w) old new
    done =
        set_more history left w undone.Step result_given (w + 1) old past given new (sent_on active.frame active.level lanes (λ k. target) (regions_in history w past)) returned_on
        (λ r. sent_same active.frame active.level lanes (λ k. target) (regions_in history w past) result_given given.regions_are r
        ∙ ap (λ ls. sent_on active.frame active.level ls (λ k. target) (returned_in active.frame rate ls values gave.word regions) r) is_active.lanes
        ∙ ap (λ some. sent_on active.frame active.level (waiting_in regions active.frame active.level active.step) (λ k. target)
        (returned_in active.frame some (waiting_in regions active.frame active.level active.step) values gave.word regions) r) rate_is)
        w sends

    -- lanes have returned
    pub returns_well : (masked : Masked) → IsShown history w compiled old masked → initial e lanes masked.state ≡ Ok values → EndsAs history w compiled masked old (Ok tt) new
    returns_well masked shown is =
        let keeps : KeepsBoth w (waiting_in regions active.frame active.level active.step) (lanes_in w regions (OfHead active.frame ReturnedOf)) gave.word =
        subst (λ ls. KeepsBoth w ls (lanes_in w regions (OfHead active.frame ReturnedOf)) gave.word) is_active.lanes
        (subst (λ (before : Regions). KeepsBoth w lanes (lanes_in w before (OfHead active.frame ReturnedOf)) gave.word) same_regions gave.keeps) in
        ends_well history left w compiled masked returned_on (w + 1 + w) old new done
        (returns (program_of compiled) (variables_of compiled) w regions masked shown.shows active.frame active.level active.function f active.step number e target is_active.next values
        (ap (λ ls. initial e ls masked.state) (sym is_active.lanes) ∙ is) gave.word keeps)
