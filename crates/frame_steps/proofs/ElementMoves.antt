-- Assignments to elements of arrays.
use Rattle.std.proofs.Common.{ℕ, false, ◌+◌, ◌≤◌, inl, inr, ◌≡◌, refl, sym, subst, arith, List, Some, Vec, Global}
use Rattle.std.specs.Prelude.{Ok, Err}
use Rattle.gang_types.specs.declared.places.VarId.{VarId}
use Rattle.gang_types.specs.declared.types.Rate.{Rate}
use Rattle.gang_types.specs.Lanes.{Lanes, no_lane}
use Rattle.gang_types.specs.Masks.{lanes_of}
use Rattle.gang_model.specs.Types.Tree.{Expr, StepNumber, ElementOf, Assign, Function}
use Rattle.gang_model.specs.Running.Lanes.{Fault as ModelFault}
use Rattle.gang_model.specs.Running.State.{View}
use Rattle.undo_log.specs.History.{History}
use Rattle.mask_states.specs.Points.{Point, Put}
use Rattle.mask_states.specs.Masked.{Masked}
use Rattle.machine_states.specs.ArrayParts.{view_at}
use Rattle.machine_states.specs.Cells.{words_set}
use Rattle.machine_states.specs.Effects.{sent_on, stored_in}
use Rattle.machine_states.specs.Regions.{Regions}
use Rattle.machine_states.specs.Steps.{FailsWith, GoesTo, waiting_in}
use Rattle.machine_states.specs.Variables.{IsArray}
use Rattle.machine_states.proofs.ElementSteps.{element_value_fails, index_fails, missing_fails, stores}
use Rattle.expression_instructions.specs.declared.code.Instruction.{Instruction}
use Rattle.codegen.specs.Codes.{Does, IsValue}
use Rattle.codegen.specs.declared.code.StepCode.TheVariants as code
use Rattle.machine_words.specs.declared.words.MachineWords.{MachineWords}
use Rattle.machine_words.specs.Words.{regions_in}
use Rattle.frame_steps.specs.declared.active.Active.{Active}
use Rattle.frame_steps.specs.declared.compiled.CompiledProgram.{CompiledProgram}
use Rattle.frame_steps.specs.Compiled.{program_of, variables_of}
use Rattle.frame_steps.specs.Elements.{reached_in}
use Rattle.frame_steps.specs.Standing.{AreSound, DoesNext, IsActive, IsShown, IsValueAt}
use Rattle.frame_steps.proofs.ElementStores.{are_reached, by_fault}
use Rattle.frame_steps.proofs.Standings.{some_active}
use Rattle.frame_steps.proofs.StepValues.{IsAt, active_well_scoped, value_at}

-- what the code says of its point
module _ (width : ℕ) (compiled : CompiledProgram) (regions : Regions) (active : Active) (array : VarId) (index value' : Vec Instruction Global) (next : ℕ) where
  pub record IsStoring (f : Function) : Type 0 where
    pub number : StepNumber
    pub rate : Rate
    pub i : Expr
    pub e : Expr
    pub index_is : IsValue i index.items
    pub value_is : IsValue e value'.items
    pub here : IsAt width compiled regions active f (Put (Assign number (ElementOf array rate i) e) next)

  store_at : (f : Function) (point : Point) → Does (code.AssignElement array index value' next) point → IsAt width compiled regions active f point → IsStoring f
  store_at f (Put (Assign number (ElementOf a rate i) e) then) does at = record {
    number = number;
    rate = rate;
    i = i;
    e = e;
    index_is = does.1;
    value_is = does.2;
    here = subst (λ m. IsAt width compiled regions active f (Put (Assign number (ElementOf array rate i) e) m)) does.3
        (subst (λ b. IsAt width compiled regions active f (Put (Assign number (ElementOf b rate i) e) then)) does.0 at);
  }
  store_at f point does at = absurd does

  pub stores_at : DoesNext width compiled regions active (code.AssignElement array index value' next) → (f : Function) × IsStoring f
  stores_at does = (does.0, store_at does.0 does.1 does.2 does.3)

module _ {T : Type 0} (history : T → History) (width : ℕ) (compiled : CompiledProgram) (old : MachineWords T) (sound : AreSound history width compiled old) (active : Active)
    (array : VarId) (index value' : Vec Instruction Global) (next : ℕ) (does : DoesNext width compiled (regions_in history width old) active (code.AssignElement array index value' next)) where
  abbrev regions : Regions
  regions = regions_in history width old

  abbrev lanes : Lanes
  lanes = waiting_in regions active.frame active.level active.step

  abbrev found : (f : Function) × IsStoring width compiled (regions_in history width old) active array index value' next f
  found = stores_at width compiled (regions_in history width old) active array index value' next does

  abbrev point : Point
  point = Put (Assign found.1.number (ElementOf array found.1.rate found.1.i) found.1.e) next

  abbrev pub index_expr : Expr
  index_expr = found.1.i

  abbrev pub value_expr : Expr
  value_expr = found.1.e

  here : IsActive width compiled (regions_in history width old) active found.0 (Some point)
  here = found.1.here

  -- the step sets words enough for a store and where its lanes go on
  pub store_here : (f : Function) × (point : Point) × IsActive width compiled (regions_in history width old) active f (Some point) × (width + width ≤ words_set width point)
      × (no_lane (lanes_of width active.lanes) ≡ false)
  store_here = (found.0, point, here, omega arith, some_active history width compiled old sound active found.0 point here tt)

  array_here : IsArray (variables_of compiled) active.function array
  array_here = (active_well_scoped width compiled sound.lie.compiled_is regions active found.0 point here).0

  pub index_at : (read : List Instruction) → read ≡ index.items → IsValueAt width compiled (regions_in history width old) active index_expr read
  index_at read is =
      subst (λ c. IsValueAt width compiled regions active index_expr c) (sym is)
      (value_at width compiled sound.lie.compiled_is regions active found.0 point here index_expr index.items (inl refl) found.1.index_is)

  pub value_here : (read : List Instruction) → read ≡ value'.items → IsValueAt width compiled (regions_in history width old) active value_expr read
  value_here read is =
      subst (λ c. IsValueAt width compiled regions active value_expr c) (sym is)
      (value_at width compiled sound.lie.compiled_is regions active found.0 point here value_expr value'.items (inr refl) found.1.value_is)

  module _ (masked : Masked) (shown : IsShown history width compiled old masked) where
    abbrev view : View
    view = view_at regions active.frame array

    pub assign_fails : (fault : ModelFault) → reached_in (view_at (regions_in history width old) active.frame array) index_expr value_expr (lanes_of width active.lanes) masked.state ≡ Err fault
        → FailsWith (program_of compiled) masked fault
    assign_fails fault is =
        by_fault view index_expr value_expr lanes masked.state (FailsWith (program_of compiled) masked fault) fault
        (index_fails (program_of compiled) (variables_of compiled) width regions masked shown.shows active.frame active.level active.function found.0 active.step found.1.number array found.1.rate index_expr value_expr next
        here.next array_here fault)
        (λ x index_is. element_value_fails (program_of compiled) (variables_of compiled) width regions masked shown.shows active.frame active.level active.function found.0 active.step found.1.number array found.1.rate
        index_expr value_expr next here.next array_here x index_is fault)
        (λ x y index_is value_is. missing_fails (program_of compiled) (variables_of compiled) width regions masked shown.shows active.frame active.level active.function found.0 active.step found.1.number array found.1.rate
        index_expr value_expr next here.next array_here x index_is y value_is fault)
        (subst (λ l. reached_in view index_expr value_expr l masked.state ≡ Err fault) here.lanes is)

    pub assign_goes : (x y elements : List ℕ)
        → reached_in (view_at (regions_in history width old) active.frame array) index_expr value_expr (lanes_of width active.lanes) masked.state ≡ Ok (x, y, elements)
        → (stored : View) → stored ≡ view_at (regions_in history width old) active.frame array
        → GoesTo (program_of compiled) (variables_of compiled) width masked
        (sent_on active.frame active.level (lanes_of width active.lanes) (λ k. next) (stored_in stored (lanes_of width active.lanes) x y (regions_in history width old)))
    assign_goes x y elements is stored stored_is =
        let all = are_reached view index_expr value_expr lanes masked.state x y elements (subst (λ l. reached_in view index_expr value_expr l masked.state ≡ Ok (x, y, elements)) here.lanes is) in
        subst (λ v. GoesTo (program_of compiled) (variables_of compiled) width masked (sent_on active.frame active.level (lanes_of width active.lanes) (λ k. next) (stored_in v (lanes_of width active.lanes) x y regions))) (sym stored_is)
        (subst (λ l. GoesTo (program_of compiled) (variables_of compiled) width masked (sent_on active.frame active.level l (λ k. next) (stored_in view l x y regions))) (sym here.lanes)
        (stores (program_of compiled) (variables_of compiled) width regions masked shown.shows active.frame active.level active.function found.0 active.step found.1.number array found.1.rate index_expr value_expr next
        here.next array_here x all.index_is y all.value_is elements all.elements_are))
