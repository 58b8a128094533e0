-- The words of one argument: its values, or those that keep a part of an array.
use Rattle.std.proofs.Common.{ℕ, ◌≡◌, refl, sym, ◌∙◌, ap, subst, List, length, Option, Some, Vec, Global}
use Rattle.std.specs.Prelude.{Result, Ok, Err}
use Rattle.gang_types.specs.declared.places.VarId.{VarId}
use Rattle.gang_types.specs.Lanes.{Lanes}
use Rattle.gang_types.specs.Masks.{lanes_of}
use Rattle.gang_model.specs.Types.Tree.{Arg, Array, Expr, Value, Var as ModelVar}
use Rattle.gang_model.specs.Running.State.{State, View, view_of}
use Rattle.gang_model.specs.Running.Step.{part}
use Rattle.gang_model.specs.Running.Value.{value}
use Rattle.undo_log.specs.History.{History}
use Rattle.typed_tree.specs.declared.expressions.Var.{Var}
use Rattle.debug_traits.specs.declared.machine.Fault.{Fault}
use Rattle.debug_traits.specs.Machines.{fault_view}
use Rattle.mask_states.specs.Masked.{Masked}
use Rattle.machine_states.specs.ArrayParts.{IsInside, view_at, view_of_words}
use Rattle.machine_states.specs.Regions.{Regions}
use Rattle.machine_states.specs.Variables.{IsArray}
use Rattle.machine_states.proofs.ElementSteps.{array_shown}
use Rattle.codegen.specs.declared.code.ArgCode.{ArgCode}
use Rattle.codegen.specs.declared.code.ArgCode.TheVariants as arg
use Rattle.machine_words.specs.declared.words.MachineWords.{MachineWords}
use Rattle.machine_words.specs.Words.{regions_in}
use Rattle.frame_steps.specs.declared.active.Active.{Active}
use Rattle.frame_steps.specs.declared.compiled.CompiledProgram.{CompiledProgram}
use Rattle.frame_steps.specs.Compiled.{program_of, variables_of}
use Rattle.frame_steps.specs.Parts.{HasNextPoint, IsIndexAt}
use Rattle.frame_steps.specs.Standing.{IsAnswer, IsShown, IsValueAt}
use Rattle.machine_steps.specs.Calls.{IsArgumentAnswer, IsArgumentAt}

module _ (width : ℕ) (compiled : CompiledProgram) (regions : Regions) (active : Active) where
  -- ---- values

  -- an argument is the value of a parameter that the code computes
  pub record IsValueArgument (y : Arg) (code : List _) : Type 0 where
    pub x : ModelVar
    pub e : Expr
    pub is : y ≡ Value x e
    pub computes : IsValueAt width compiled regions active e code

  value_code : (parameter : Var) (code : Vec _ Global) (y : Arg) → IsArgumentAt width compiled regions active (arg.Value parameter code) y → IsValueArgument y code.items
  value_code parameter code (Value x e) at = record { x = x; e = e; is = refl; computes = at.1 }
  value_code parameter code (Array own named index) at = absurd at

  pub value_argument : (made : ArgCode) (y : Arg) → IsArgumentAt width compiled regions active made y → (parameter : Var) (code : Vec _ Global) → made ≡ arg.Value parameter code
      → (read : List _) → read ≡ code.items → IsValueArgument y read
  value_argument made y at parameter code is read same =
      subst (IsValueArgument y) (sym same) (value_code parameter code y (subst (λ m. IsArgumentAt width compiled regions active m y) is at))

  answer_of : (lanes : Lanes) (state : State) (x : ModelVar) (e : Expr) (result : Result (List ℕ) Fault) → IsAnswer result (value e lanes state) → IsArgumentAnswer width regions lanes state (Value x e) result
  answer_of lanes state x e (Ok words) is = is
  answer_of lanes state x e (Err fault) is = is

  pub value_answer : (lanes : Lanes) (state : State) (y : Arg) (code : List _) (of : IsValueArgument y code) (result : Result (List ℕ) Fault) → IsAnswer result (value of.e lanes state)
      → IsArgumentAnswer width regions lanes state y result
  value_answer lanes state y code of result is =
      subst (λ z. IsArgumentAnswer width regions lanes state z result) (sym of.is) (answer_of lanes state of.x of.e result is)

  -- ---- parts of arrays

  -- an argument is the part of an array of the next step from an index on
  pub record IsArrayArgument (y : Arg) (array : VarId) (from : Option (Vec _ Global)) : Type 0 where
    pub parameter : VarId
    pub index : Option Expr
    pub is : y ≡ Array parameter array index
    pub there : IsArray (variables_of compiled) active.function array
    pub computes : IsIndexAt width compiled regions active index from

  array_code : (array : VarId) (from : Option (Vec _ Global)) (y : Arg) → IsArgumentAt width compiled regions active (arg.Array array from) y → IsArrayArgument y array from
  array_code array from (Array parameter named index) at = record { parameter = parameter; index = index; is = ap (λ v. Array parameter v index) at.0; there = at.1; computes = at.2 }
  array_code array from (Value x e) at = absurd at

  pub array_argument : (made : ArgCode) (y : Arg) → IsArgumentAt width compiled regions active made y → (array : VarId) (from : Option (Vec _ Global)) → made ≡ arg.Array array from
      → IsArrayArgument y array from
  array_argument made y at array from is = array_code array from y (subst (λ m. IsArgumentAt width compiled regions active m y) is at)

module _ {T : Type 0} (history : T → History) (width : ℕ) (compiled : CompiledProgram) (words : MachineWords T) (active : Active) (point : HasNextPoint width compiled (regions_in history width words) active)
    (masked : Masked) (shown : IsShown history width compiled words masked) (y : Arg) (array : VarId) (from : Option (Vec _ Global))
    (of : IsArrayArgument width compiled (regions_in history width words) active y array from) where
  abbrev regions : Regions
  regions = regions_in history width words

  abbrev lanes : Lanes
  lanes = lanes_of width active.lanes

  by_view : part of.index (view_of masked.state array) lanes masked.state ≡ part of.index (view_at regions active.frame array) lanes masked.state
  by_view =
      ap (λ view. part of.index view lanes masked.state)
      (array_shown (program_of compiled) (variables_of compiled) width regions masked shown.shows active.frame active.level active.function point.0 active.step (Some point.1) point.2.next array of.there)

  pub part_faults : (fault : Fault) → part of.index (view_at (regions_in history width words) active.frame array) (lanes_of width active.lanes) masked.state ≡ Err (fault_view fault)
      → IsArgumentAnswer width (regions_in history width words) (lanes_of width active.lanes) masked.state y (Err fault)
  part_faults fault is = subst (λ z. IsArgumentAnswer width regions lanes masked.state z (Err fault)) (sym of.is) (by_view ∙ is)

  pub part_kept : (view : View) (kept : List ℕ) → part of.index (view_at (regions_in history width words) active.frame array) (lanes_of width active.lanes) masked.state ≡ Ok view
      → IsInside (regions_in history width words) view → view_of_words kept ≡ view → length kept ≡ width
      → IsArgumentAnswer width (regions_in history width words) (lanes_of width active.lanes) masked.state y (Ok kept)
  part_kept view kept is inside same long =
      subst (λ z. IsArgumentAnswer width regions lanes masked.state z (Ok kept)) (sym of.is)
      (by_view ∙ is ∙ ap Ok (sym same), record { long = long; inside = subst (IsInside regions) (sym same) inside })
