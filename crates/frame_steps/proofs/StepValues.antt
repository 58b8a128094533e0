-- The values of the next step, and what its code says of its point.
use Rattle.std.proofs.Common.{ℕ, zero, suc, ◌⊎◌, ◌≡◌, sym, ◌∙◌, ap, subst, arith, inl, inr, List, [], ◌∷◌, Option, Some, None, Vec, Global}
use Rattle.std.specs.Prelude.{All, slice_get}
use Rattle.std.proofs.lemmas.Option.{none-some}
use Rattle.gang_model.specs.Types.Tree.{Var as ModelVar, StepNumber, Expr, Scalar, ElementOf, Arg, Value, Array, Dimension, RoundsOf, Rows, Tiles, EachLane, EachValue, Declare, Assign, Change as ModelChange, Return, Check, PackedStore, PackedLoad, Function}
use Rattle.typed_tree.specs.declared.expressions.Var.{Var}
use Rattle.typed_tree.specs.declared.statements.ResultFor.{ResultFor}
use Rattle.typed_tree.specs.Views.{result_view, var_view}
use Rattle.mask_states.specs.Points.{Point, Put, Go, Branch, Choose, Begin, Enter, function_ways, points_in}
use Rattle.machine_states.specs.Variables.{Variables}
use Rattle.machine_states.specs.Regions.{Regions}
use Rattle.machine_states.proofs.AlwaysDeclared.{next_names}
use Rattle.machine_states.proofs.DeclaredNames.{NamesBefore}
use Rattle.machine_states.proofs.WellScopedPoints.{points_in-well_scoped, point_at}
use Rattle.machine_states.proofs.DeclaredLists.{same_some}
use Rattle.machine_states.specs.WellScoped.{IsWellScopedExpr, IsWellScopedOption, ArgsWellScoped, DimensionWellScoped, FormWellScoped, IsWellScopedPoint}
use Rattle.machine_states.specs.Declared.{NamesDeclared, OptionDeclared, ArgsDeclared, DimensionsDeclared, FormDeclared, declared_before}
use Rattle.expression_instructions.specs.declared.code.Instruction.{Instruction}
use Rattle.expression_runs.specs.Room.{HasRoom}
use Rattle.expression_code.specs.ProgramRoom.{ArgsHaveRoom, DimensionsHaveRoom, RoundsHaveRoom, SomeHasRoom}
use Rattle.codegen.specs.declared.code.ArgCode.{ArgCode}
use Rattle.codegen.specs.declared.code.Change.{Change}
use Rattle.codegen.specs.declared.code.StepCode.TheVariants as code
use Rattle.codegen.specs.Codes.{Does, Fit, IsArg, IsOptionValue, IsValue}
use Rattle.frame_steps.proofs.PointRoom.{PointHasRoom, points_room, each_at}
use Rattle.frame_steps.specs.declared.active.Active.{Active}
use Rattle.frame_steps.specs.declared.compiled.CompiledProgram.{CompiledProgram}
use Rattle.frame_steps.specs.Compiled.{IsCompiled, program_of, variables_of}
use Rattle.frame_steps.specs.Standing.{IsActive, IsValueAt, DoesNext}

-- ---- the expressions of the next step

module _ (width : ℕ) (compiled : CompiledProgram) (is : IsCompiled compiled) (regions : Regions) (active : Active) (f : Function) (point : Point)
    (is_active : IsActive width compiled regions active f (Some point)) where
  pub active_well_scoped : IsWellScopedPoint (variables_of compiled) active.function point
  active_well_scoped =
      point_at (variables_of compiled) active.function (points_in f) active.step point
      (points_in-well_scoped (variables_of compiled) active.function f (is.runnable.well_scoped.functions active.function f is_active.next.is_function)) is_active.next.is_point

  -- what it names is declared before it
  pub active_names : NamesBefore (declared_before (variables_of compiled) active.function f) active.step point
  active_names =
      next_names (variables_of compiled) (program_of compiled) is.runnable.lowerable.numbered is.runnable.declared
      regions active.frame active.level active.function f active.step point is_active.next

  pub active_room : PointHasRoom point
  active_room =
      each_at PointHasRoom (points_in f) active.step point
      (points_room f.body (function_ways f) (is.runnable.room active.function f is_active.next.is_function)) is_active.next.is_point

-- an expression is the value of an argument, or the index from which an array is passed
abbrev pub IsArgumentOf : Arg → Expr → Type 0
IsArgumentOf (Value x v) e = v ≡ e
IsArgumentOf (Array parameter array from) e = from ≡ Some e

-- an expression is a bound of a dimension, or the value that a foreach form saves
abbrev pub IsFormValue : RoundsOf → Expr → Type 0
IsFormValue (Rows ds) e = (k : ℕ) × (d : Dimension) × (slice_get ds k ≡ Some d) × ((d.low ≡ e) ⊎ (d.high ≡ e))
IsFormValue (Tiles ds) e = (k : ℕ) × (d : Dimension) × (slice_get ds k ≡ Some d) × ((d.low ≡ e) ⊎ (d.high ≡ e))
IsFormValue (EachLane x) e = ⊥
IsFormValue (EachValue x v) e = v ≡ e

-- an expression is a value of a point
abbrev pub IsValueOf : Point → Expr → Type 0
IsValueOf (Put (Declare number x (Some v)) next) e = v ≡ e
IsValueOf (Put (Assign number (Scalar x) v) next) e = v ≡ e
IsValueOf (Put (Assign number (ElementOf array rate index) v) next) e = (index ≡ e) ⊎ (v ≡ e)
IsValueOf (Put (ModelChange number (Scalar x) type op in_type v) next) e = v ≡ e
IsValueOf (Put (ModelChange number (ElementOf array rate index) type op in_type v) next) e = (index ≡ e) ⊎ (v ≡ e)
IsValueOf (Put (PackedStore number array from v result_for) next) e = (from ≡ Some e) ⊎ (v ≡ e)
IsValueOf (Put (PackedLoad number array from x result_for) next) e = from ≡ Some e
IsValueOf (Put (Return number (Some v)) next) e = v ≡ e
IsValueOf (Put (Check number v) next) e = v ≡ e
IsValueOf (Branch test yes' no') e = test ≡ e
IsValueOf (Choose v segments entries next) e = v ≡ e
IsValueOf (Begin form rounds next) e = IsFormValue form e
IsValueOf (Enter called args result_for next) e = (k : ℕ) × (arg : Arg) × (slice_get args k ≡ Some arg) × IsArgumentOf arg e
IsValueOf point e = ⊥

-- it reads scalars that are declared, and finds room
record IsGood (variables : Variables) (n : ℕ) (d : List ℕ) (e : Expr) : Type 0 where
  pub well_scoped : IsWellScopedExpr variables n e
  pub declared : NamesDeclared d e
  pub room : HasRoom e

module _ (variables : Variables) (n : ℕ) (d : List ℕ) where
  good : (v e : Expr) → v ≡ e → IsWellScopedExpr variables n v → NamesDeclared d v → HasRoom v → IsGood variables n d e
  good v e same well_scoped declared room = subst (IsGood variables n d) same (record { well_scoped = well_scoped; declared = declared; room = room })

  good_option : (from : Option Expr) (e : Expr) → from ≡ Some e → IsWellScopedOption variables n from → OptionDeclared d from → SomeHasRoom from → IsGood variables n d e
  good_option None e same well_scoped declared room = absurd (none-some e same)
  good_option (Some v) e same well_scoped declared room = good v e (same_some v e same) well_scoped declared room

  good_argument : (called first : ℕ) (args : List Arg) (k : ℕ) (arg : Arg) (e : Expr) → slice_get args k ≡ Some arg → IsArgumentOf arg e
      → ArgsWellScoped variables n called first args → ArgsDeclared d args → ArgsHaveRoom args → IsGood variables n d e
  good_argument called first [] k arg e is of well_scoped declared room = absurd (none-some arg is)
  good_argument called first (Value y v ∷ args) zero arg e is of well_scoped declared room =
      good v e (subst (λ a. IsArgumentOf a e) (sym (same_some (Value y v) arg is)) of) well_scoped.1 declared.0 room.0
  good_argument called first (Value y v ∷ args) (suc k) arg e is of well_scoped declared room = good_argument called (suc first) args k arg e is of well_scoped.2 declared.1 room.1
  good_argument called first (Array parameter array from ∷ args) zero arg e is of well_scoped declared room =
      good_option from e (subst (λ a. IsArgumentOf a e) (sym (same_some (Array parameter array from) arg is)) of) well_scoped.2 declared.0 room.0
  good_argument called first (Array parameter array from ∷ args) (suc k) arg e is of well_scoped declared room = good_argument called (suc first) args k arg e is of well_scoped.3 declared.1 room.1

  good_bound : (ds : List Dimension) (k : ℕ) (dimension : Dimension) (e : Expr) → slice_get ds k ≡ Some dimension → (dimension.low ≡ e) ⊎ (dimension.high ≡ e)
      → All (DimensionWellScoped variables n) ds → DimensionsDeclared d ds → DimensionsHaveRoom ds → IsGood variables n d e
  good_bound [] k dimension e is of well_scoped declared room = absurd (none-some dimension is)
  good_bound (first ∷ ds) zero dimension e is (inl low) well_scoped declared room =
      good first.low e (ap (λ x. x.low) (same_some first dimension is) ∙ low) (well_scoped 0 first (omega arith)).2 declared.0 room.0
  good_bound (first ∷ ds) zero dimension e is (inr high) well_scoped declared room =
      good first.high e (ap (λ x. x.high) (same_some first dimension is) ∙ high) (well_scoped 0 first (omega arith)).3 declared.1 room.1
  good_bound (first ∷ ds) (suc k) dimension e is of well_scoped declared room =
      good_bound ds k dimension e is of (λ j other within. well_scoped (suc j) other (omega (arith, within))) declared.2 room.2

  good_form : (form : RoundsOf) (e : Expr) → IsFormValue form e → FormWellScoped variables n form → FormDeclared d form → RoundsHaveRoom form → IsGood variables n d e
  good_form (Rows ds) e of well_scoped declared room = good_bound ds of.0 of.1 e of.2 of.3 well_scoped.1 declared room
  good_form (Tiles ds) e of well_scoped declared room = good_bound ds of.0 of.1 e of.2 of.3 well_scoped.1 declared room
  good_form (EachLane x) e of well_scoped declared room = absurd of
  good_form (EachValue x v) e of well_scoped declared room = good v e of well_scoped.2 declared room

module _ (variables : Variables) (n : ℕ) (before : StepNumber → List ℕ) (number : StepNumber) where
  good_value : (point : Point) (e : Expr) → IsWellScopedPoint variables n point → NamesBefore before number point → PointHasRoom point → IsValueOf point e → IsGood variables n (before number) e
  good_value (Put (Declare m x (Some v)) next) e well_scoped names room same = good variables n (before number) v e same well_scoped.1 names room
  good_value (Put (Assign m (Scalar x) v) next) e well_scoped names room same = good variables n (before number) v e same well_scoped.1 names.1 room.1
  good_value (Put (Assign m (ElementOf array rate index) v) next) e well_scoped names room (inl same) = good variables n (before number) index e same well_scoped.1 names.0 room.0
  good_value (Put (Assign m (ElementOf array rate index) v) next) e well_scoped names room (inr same) = good variables n (before number) v e same well_scoped.2 names.1 room.1
  good_value (Put (ModelChange m (Scalar x) type op in_type v) next) e well_scoped names room same = good variables n (before number) v e same well_scoped.1 names.1 room.1
  good_value (Put (ModelChange m (ElementOf array rate index) type op in_type v) next) e well_scoped names room (inl same) = good variables n (before number) index e same well_scoped.1 names.0 room.0
  good_value (Put (ModelChange m (ElementOf array rate index) type op in_type v) next) e well_scoped names room (inr same) = good variables n (before number) v e same well_scoped.2 names.1 room.1
  good_value (Put (PackedStore m array from v result_for) next) e well_scoped names room (inl same) = good_option variables n (before number) from e same well_scoped.1 names.0 room.0
  good_value (Put (PackedStore m array from v result_for) next) e well_scoped names room (inr same) = good variables n (before number) v e same well_scoped.2 names.1 room.1
  good_value (Put (PackedLoad m array from x result_for) next) e well_scoped names room same = good_option variables n (before number) from e same well_scoped.1 names.0 room
  good_value (Put (Return m (Some v)) next) e well_scoped names room same = good variables n (before number) v e same well_scoped names room
  good_value (Put (Check m v) next) e well_scoped names room same = good variables n (before number) v e same well_scoped names room
  good_value (Branch test yes' no') e well_scoped names room same = good variables n (before number) test e same well_scoped names room
  good_value (Choose v segments entries next) e well_scoped names room same = good variables n (before number) v e same well_scoped names room
  good_value (Begin form rounds next) e well_scoped names room of = good_form variables n (before number) form e of well_scoped names room
  good_value (Enter called args result_for next) e well_scoped names room given =
      good_argument variables n (before number) called 0 args given.0 given.1 e given.2 given.3 well_scoped.0.args_well_scoped names.0 room
  good_value point e well_scoped names room none = absurd none

-- the code of a value of the next step's point
pub value_at : (width : ℕ) (compiled : CompiledProgram) → IsCompiled compiled → (regions : Regions) (active : Active) (f : Function) (point : Point) → IsActive width compiled regions active f (Some point)
    → (e : Expr) (code : List Instruction) → IsValueOf point e → IsValue e code → IsValueAt width compiled regions active e code
value_at width compiled is regions active f point is_active e code of value =
    let fits = good_value (variables_of compiled) active.function (declared_before (variables_of compiled) active.function f) active.step point e
    (active_well_scoped width compiled is regions active f point is_active) (active_names width compiled is regions active f point is_active) (active_room width compiled is regions active f point is_active) of in
    record { f = f; point = Some point; active_is = is_active; value = value; well_scoped = fits.well_scoped; declared = fits.declared; room = fits.room }

-- ---- what a step's code says of its point

module _ (width : ℕ) (compiled : CompiledProgram) (regions : Regions) (active : Active) where
  abbrev pub IsAt : Function → Point → Type 0
  IsAt f point = IsActive width compiled regions active f (Some point)

  module _ (next : ℕ) where
    go_at : (f : Function) (point : Point) → Does (code.Go next) point → IsAt f point → IsAt f (Go next)
    go_at f (Go then) does at = subst (λ m. IsAt f (Go m)) does at
    go_at f point does at = absurd does

    pub goes_at : DoesNext width compiled regions active (code.Go next) → (f : Function) × IsAt f (Go next)
    goes_at does = (does.0, go_at does.0 does.1 does.2 does.3)

  module _ (test : Vec Instruction Global) (yes' no' : ℕ) where
    abbrev pub IsBranching : Function → Type 0
    IsBranching f = (e : Expr) × IsValue e test.items × IsAt f (Branch e yes' no')

    branch_at : (f : Function) (point : Point) → Does (code.Branch test yes' no') point → IsAt f point → IsBranching f
    branch_at f (Branch e on off) does at = (e, does.0, subst (λ m. IsAt f (Branch e yes' m)) does.2 (subst (λ m. IsAt f (Branch e m off)) does.1 at))
    branch_at f point does at = absurd does

    pub branches_at : DoesNext width compiled regions active (code.Branch test yes' no') → (f : Function) × IsBranching f
    branches_at does = (does.0, branch_at does.0 does.1 does.2 does.3)

  module _ (variable : Var) (next : ℕ) where
    module _ (value : Option (Vec Instruction Global)) where
      abbrev pub IsDeclaring : Function → Type 0
      IsDeclaring f = (number : StepNumber) × (e : Option Expr) × IsOptionValue e value × IsAt f (Put (Declare number (var_view variable) e) next)

      declare_at : (f : Function) (point : Point) → Does (code.Declare variable value next) point → IsAt f point → IsDeclaring f
      declare_at f (Put (Declare number x e) then) does at =
          (number, e, does.1, subst (λ m. IsAt f (Put (Declare number (var_view variable) e) m)) does.2 (subst (λ y. IsAt f (Put (Declare number y e) then)) does.0 at))
      declare_at f point does at = absurd does

      pub declares_at : DoesNext width compiled regions active (code.Declare variable value next) → (f : Function) × IsDeclaring f
      declares_at does = (does.0, declare_at does.0 does.1 does.2 does.3)

    module _ (value : Vec Instruction Global) where
      abbrev pub IsAssigning : Function → Type 0
      IsAssigning f = (number : StepNumber) × (e : Expr) × IsValue e value.items × IsAt f (Put (Assign number (Scalar (var_view variable)) e) next)

      assign_at : (f : Function) (point : Point) → Does (code.Assign variable value next) point → IsAt f point → IsAssigning f
      assign_at f (Put (Assign number (Scalar x) e) then) does at =
          (number, e, does.1, subst (λ m. IsAt f (Put (Assign number (Scalar (var_view variable)) e) m)) does.2 (subst (λ y. IsAt f (Put (Assign number (Scalar y) e) then)) does.0 at))
      assign_at f point does at = absurd does

      pub assigns_at : DoesNext width compiled regions active (code.Assign variable value next) → (f : Function) × IsAssigning f
      assigns_at does = (does.0, assign_at does.0 does.1 does.2 does.3)

      module _ (change : Change) where
        abbrev changing : StepNumber → ModelVar → (made : Change) → Expr → StepNumber → Point
        changing number x made e then = Put (ModelChange number (Scalar x) made.target_type made.operator made.value_type e) then

        abbrev pub IsChanging : Function → Type 0
        IsChanging f = (number : StepNumber) × (e : Expr) × IsValue e value.items × IsAt f (Put (ModelChange number (Scalar (var_view variable)) change.target_type change.operator change.value_type e) next)

        change_at : (f : Function) (point : Point) → Does (code.Change variable change value next) point → IsAt f point → IsChanging f
        change_at f (Put (ModelChange number (Scalar x) type op in_type e) then) does at = (
          number,
          e,
          does.2,
          subst (λ m. IsAt f (changing number (var_view variable) change e m)) does.3
              (subst (λ made. IsAt f (changing number (var_view variable) made e then)) (sym does.1)
              (subst (λ y. IsAt f (changing number y (record { operator = op; value_type = in_type; target_type = type }) e then)) does.0 at)),
        )
        change_at f point does at = absurd does

        pub changes_at : DoesNext width compiled regions active (code.Change variable change value next) → (f : Function) × IsChanging f
        changes_at does = (does.0, change_at does.0 does.1 does.2 does.3)

  module _ (value : Option (Vec Instruction Global)) (next : ℕ) where
    abbrev pub IsReturning : Function → Type 0
    IsReturning f = (number : StepNumber) × (e : Option Expr) × IsOptionValue e value × IsAt f (Put (Return number e) next)

    return_at : (f : Function) (point : Point) → Does (code.Return value next) point → IsAt f point → IsReturning f
    return_at f (Put (Return number e) then) does at = (number, e, does.0, subst (λ m. IsAt f (Put (Return number e) m)) does.1 at)
    return_at f point does at = absurd does

    pub returns_at : DoesNext width compiled regions active (code.Return value next) → (f : Function) × IsReturning f
    returns_at does = (does.0, return_at does.0 does.1 does.2 does.3)

  module _ (function : ℕ) (args : Vec ArgCode Global) (result_for : ResultFor) (next : ℕ) where
    abbrev pub IsEntering : Function → Type 0
    IsEntering f = (given : List Arg) × Fit IsArg args.items given × IsAt f (Enter function given (result_view result_for) next)

    enter_at : (f : Function) (point : Point) → Does (code.Enter function args result_for next) point → IsAt f point → IsEntering f
    enter_at f (Enter called given for then) does at = (
      given,
      does.1,
      subst (λ m. IsAt f (Enter function given (result_view result_for) m)) does.3
          (subst (λ r. IsAt f (Enter function given r then)) does.2
          (subst (λ m. IsAt f (Enter m given for then)) does.0 at)),
    )
    enter_at f point does at = absurd does

    pub enters_at : DoesNext width compiled regions active (code.Enter function args result_for next) → (f : Function) × IsEntering f
    enters_at does = (does.0, enter_at does.0 does.1 does.2 does.3)
