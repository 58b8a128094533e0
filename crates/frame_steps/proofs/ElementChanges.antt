-- Changes of elements of arrays: `a[e] op= value`.
use Rattle.std.proofs.Common.{ℕ, false, ◌+◌, ◌≤◌, inl, inr, ◌≡◌, refl, sym, subst, arith, List, Some, Vec, Global}
use Rattle.std.specs.Prelude.{Ok, Err}
use Rattle.gang_types.specs.declared.places.VarId.{VarId}
use Rattle.gang_types.specs.declared.types.Rate.{Rate}
use Rattle.gang_types.specs.Lanes.{Lanes, no_lane}
use Rattle.gang_types.specs.Masks.{lanes_of}
use Rattle.gang_model.specs.Types.Tree.{Expr, StepNumber, ElementOf, Change as ModelChange, Function}
use Rattle.gang_model.specs.Running.Lanes.{Fault as ModelFault}
use Rattle.gang_model.specs.Running.State.{View}
use Rattle.undo_log.specs.History.{History}
use Rattle.mask_states.specs.Points.{Point, Put}
use Rattle.mask_states.specs.Masked.{Masked}
use Rattle.machine_states.specs.ArrayParts.{view_at}
use Rattle.machine_states.specs.Cells.{words_set}
use Rattle.machine_states.specs.Effects.{sent_on, stored_in}
use Rattle.machine_states.specs.Regions.{Regions}
use Rattle.machine_states.specs.Steps.{FailsWith, GoesTo, waiting_in}
use Rattle.machine_states.specs.Variables.{IsArray}
use Rattle.machine_states.proofs.ElementSteps.{change_index_fails, change_missing_fails, change_operand_fails, change_operation_fails, element_changes}
use Rattle.machine_states.proofs.PutSteps.{operated, result_words}
use Rattle.expression_instructions.specs.declared.code.Instruction.{Instruction}
use Rattle.codegen.specs.Codes.{Does, IsValue}
use Rattle.codegen.specs.declared.code.Change.{Change}
use Rattle.codegen.specs.declared.code.StepCode.TheVariants as code
use Rattle.machine_words.specs.declared.words.MachineWords.{MachineWords}
use Rattle.machine_words.specs.Words.{regions_in}
use Rattle.frame_steps.specs.declared.active.Active.{Active}
use Rattle.frame_steps.specs.declared.compiled.CompiledProgram.{CompiledProgram}
use Rattle.frame_steps.specs.Compiled.{program_of, variables_of}
use Rattle.frame_steps.specs.Elements.{reached_in}
use Rattle.frame_steps.specs.Results.{changed}
use Rattle.frame_steps.specs.Standing.{AreSound, DoesNext, IsActive, IsShown, IsValueAt}
use Rattle.frame_steps.proofs.ElementStores.{AreReached, are_reached, by_fault}
use Rattle.frame_steps.proofs.OldWords.{given, refused}
use Rattle.frame_steps.proofs.Standings.{some_active}
use Rattle.frame_steps.proofs.StepValues.{IsAt, active_well_scoped, value_at}

-- what the code says of its point
module _ (width : ℕ) (compiled : CompiledProgram) (regions : Regions) (active : Active) (array : VarId) (index : Vec Instruction Global) (change : Change) (value' : Vec Instruction Global) (next : ℕ) where
  abbrev changing : StepNumber → VarId → Rate → (i : Expr) → (made : Change) → (e : Expr) → StepNumber → Point
  changing number a rate i made e then = Put (ModelChange number (ElementOf a rate i) made.target_type made.operator made.value_type e) then

  pub record IsChanging (f : Function) : Type 0 where
    pub number : StepNumber
    pub rate : Rate
    pub i : Expr
    pub e : Expr
    pub index_is : IsValue i index.items
    pub value_is : IsValue e value'.items
    pub here : IsAt width compiled regions active f (Put (ModelChange number (ElementOf array rate i) change.target_type change.operator change.value_type e) next)

  change_at : (f : Function) (point : Point) → Does (code.ChangeElement array index change value' next) point → IsAt width compiled regions active f point → IsChanging f
  change_at f (Put (ModelChange number (ElementOf a rate i) type op in_type e) then) does at = record {
    number = number;
    rate = rate;
    i = i;
    e = e;
    index_is = does.1;
    value_is = does.3;
    here = subst (λ m. IsAt width compiled regions active f (changing number array rate i change e m)) does.4
        (subst (λ made. IsAt width compiled regions active f (changing number array rate i made e then)) (sym does.2)
        (subst (λ b. IsAt width compiled regions active f (changing number b rate i (record { operator = op; value_type = in_type; target_type = type }) e then)) does.0 at));
  }
  change_at f point does at = absurd does

  pub changes_at : DoesNext width compiled regions active (code.ChangeElement array index change value' next) → (f : Function) × IsChanging f
  changes_at does = (does.0, change_at does.0 does.1 does.2 does.3)

module _ {T : Type 0} (history : T → History) (width : ℕ) (compiled : CompiledProgram) (old : MachineWords T) (sound : AreSound history width compiled old) (active : Active)
    (array : VarId) (index : Vec Instruction Global) (change : Change) (value' : Vec Instruction Global) (next : ℕ)
    (does : DoesNext width compiled (regions_in history width old) active (code.ChangeElement array index change value' next)) where
  abbrev regions : Regions
  regions = regions_in history width old

  abbrev lanes : Lanes
  lanes = waiting_in regions active.frame active.level active.step

  abbrev found : (f : Function) × IsChanging width compiled (regions_in history width old) active array index change value' next f
  found = changes_at width compiled (regions_in history width old) active array index change value' next does

  abbrev point : Point
  point = Put (ModelChange found.1.number (ElementOf array found.1.rate found.1.i) change.target_type change.operator change.value_type found.1.e) next

  abbrev pub index_expr : Expr
  index_expr = found.1.i

  abbrev pub operand : Expr
  operand = found.1.e

  here : IsActive width compiled (regions_in history width old) active found.0 (Some point)
  here = found.1.here

  -- the step sets words enough for a store and where its lanes go on
  pub store_here : (f : Function) × (point : Point) × IsActive width compiled (regions_in history width old) active f (Some point) × (width + width ≤ words_set width point)
      × (no_lane (lanes_of width active.lanes) ≡ false)
  store_here = (found.0, point, here, omega arith, some_active history width compiled old sound active found.0 point here tt)

  array_here : IsArray (variables_of compiled) active.function array
  array_here = (active_well_scoped width compiled sound.lie.compiled_is regions active found.0 point here).0

  pub index_at : (read : List Instruction) → read ≡ index.items → IsValueAt width compiled (regions_in history width old) active index_expr read
  index_at read is =
      subst (λ c. IsValueAt width compiled regions active index_expr c) (sym is)
      (value_at width compiled sound.lie.compiled_is regions active found.0 point here index_expr index.items (inl refl) found.1.index_is)

  pub operand_at : (read : List Instruction) → read ≡ value'.items → IsValueAt width compiled (regions_in history width old) active operand read
  operand_at read is =
      subst (λ c. IsValueAt width compiled regions active operand c) (sym is)
      (value_at width compiled sound.lie.compiled_is regions active found.0 point here operand value'.items (inr refl) found.1.value_is)

  module _ (masked : Masked) (shown : IsShown history width compiled old masked) where
    abbrev view : View
    view = view_at regions active.frame array

    pub change_fails : (fault : ModelFault) → reached_in (view_at (regions_in history width old) active.frame array) index_expr operand (lanes_of width active.lanes) masked.state ≡ Err fault
        → FailsWith (program_of compiled) masked fault
    change_fails fault is =
        by_fault view index_expr operand lanes masked.state (FailsWith (program_of compiled) masked fault) fault
        (change_index_fails (program_of compiled) (variables_of compiled) width regions masked shown.shows active.frame active.level active.function found.0 active.step found.1.number array found.1.rate index_expr
        change.target_type change.operator change.value_type operand next here.next array_here fault)
        (λ x index_is. change_operand_fails (program_of compiled) (variables_of compiled) width regions masked shown.shows active.frame active.level active.function found.0 active.step found.1.number array found.1.rate index_expr
        change.target_type change.operator change.value_type operand next here.next array_here x index_is fault)
        (λ x y index_is value_is. change_missing_fails (program_of compiled) (variables_of compiled) width regions masked shown.shows active.frame active.level active.function found.0 active.step found.1.number array found.1.rate index_expr
        change.target_type change.operator change.value_type operand next here.next array_here x index_is y value_is fault)
        (subst (λ l. reached_in view index_expr operand l masked.state ≡ Err fault) here.lanes is)

    module _ (x y elements : List ℕ)
        (is : reached_in (view_at (regions_in history width old) active.frame array) index_expr operand (lanes_of width active.lanes) masked.state ≡ Ok (x, y, elements)) where
      all : AreReached view index_expr operand lanes masked.state x y elements
      all = are_reached view index_expr operand lanes masked.state x y elements (subst (λ l. reached_in view index_expr operand l masked.state ≡ Ok (x, y, elements)) here.lanes is)

      pub operation_fails : (fault : ModelFault) → changed change (lanes_of width active.lanes) elements y ≡ Err fault → FailsWith (program_of compiled) masked fault
      operation_fails fault made =
          change_operation_fails (program_of compiled) (variables_of compiled) width regions masked shown.shows active.frame active.level active.function found.0 active.step found.1.number array found.1.rate index_expr
          change.target_type change.operator change.value_type operand next here.next array_here x all.index_is y all.value_is elements all.elements_are fault
          (refused (result_words lanes change.target_type change.value_type) (operated lanes change.target_type change.operator change.value_type elements y) fault
          (subst (λ l. changed change l elements y ≡ Err fault) here.lanes made))

      pub change_goes : (values : List ℕ) → changed change (lanes_of width active.lanes) elements y ≡ Ok values → (stored : View) → stored ≡ view_at (regions_in history width old) active.frame array
          → GoesTo (program_of compiled) (variables_of compiled) width masked
          (sent_on active.frame active.level (lanes_of width active.lanes) (λ k. next) (stored_in stored (lanes_of width active.lanes) x values (regions_in history width old)))
      change_goes values made stored stored_is =
          let results = given (result_words lanes change.target_type change.value_type) (operated lanes change.target_type change.operator change.value_type elements y) values
          (subst (λ l. changed change l elements y ≡ Ok values) here.lanes made) in
          subst (λ v. GoesTo (program_of compiled) (variables_of compiled) width masked (sent_on active.frame active.level (lanes_of width active.lanes) (λ k. next) (stored_in v (lanes_of width active.lanes) x values regions)))
          (sym stored_is)
          (subst (λ l. GoesTo (program_of compiled) (variables_of compiled) width masked (sent_on active.frame active.level l (λ k. next) (stored_in view l x values regions))) (sym here.lanes)
          (subst (λ vs. GoesTo (program_of compiled) (variables_of compiled) width masked (sent_on active.frame active.level lanes (λ k. next) (stored_in view lanes x vs regions))) (sym results.2)
          (element_changes (program_of compiled) (variables_of compiled) width regions masked shown.shows active.frame active.level active.function found.0 active.step found.1.number array found.1.rate index_expr
          change.target_type change.operator change.value_type operand next here.next array_here x all.index_is y all.value_is elements all.elements_are results.0 results.1)))
