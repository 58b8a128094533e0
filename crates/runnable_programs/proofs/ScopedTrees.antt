-- A statement of well-scoped forms that names variables of a table is well-scoped.
use Rattle.std.proofs.Common.{ℕ, suc, ◌+◌, ◌≤◌, List, [], ◌∷◌, length, ◌≡◌, refl, sym, ◌∙◌, ap, subst, arith}
use Rattle.std.specs.Prelude.{All, Option, Some, None, slice_get}
use Rattle.std.proofs.lemmas.List.Elements.{All-nil, All-cons}
use Rattle.gang_types.specs.declared.places.VarId.{VarId}
use Rattle.gang_types.specs.declared.places.VarId.TheVariants.{Local}
use Rattle.gang_model.specs.Types.Tree.{Var, Expr, Number, ProgramIndex, ProgramCount, LaneMask, Read, Element, Unary, Binary, Convert, And, Or, Choice, Reduce, Scan, OfOne, OfTwo, Extract, Insert, Rotate, Shift, Shuffle, ShuffleTwo, Select, Scalar, ElementOf, Arg, Value, Array, ResultFor, Nothing, Declares, Assigns, Returns, Dimension, RoundsOf, Rows, Tiles, EachLane, EachValue, Stmt, Empty, Then, Declare, Assign, Change, If, Loop, BodyFirst, Break, Continue, Return, Switch, Segment, ForEach, Call, Check, PackedStore, PackedLoad, Variable}
use Rattle.gang_model.specs.Types.WellScoped.{Table, variable_at, IsScalar as IsTableScalar, IsArray as IsTableArray, ExprScoped, SomeScoped, ArgsScoped, ResultScoped, DimensionsScoped, RoundsScoped, StmtScoped}
use Rattle.gang_model.proofs.StandingLaws.{Each}
use Rattle.machine_states.specs.Variables.{Variables, is_array_of, own_of, parameters_of, variable_of, IsArray, IsScalar, IsOwn}
use Rattle.machine_states.specs.WellScoped.{IsWellScopedExpr, IsWellScopedOption, ArgsWellScoped, CallWellScoped, ResultWellScoped, DimensionWellScoped, FormWellScoped, IsWellScoped}
use Rattle.runnable_programs.proofs.WellScopedForms.{IsLocal, DeclaresLocal, HasWellScopedIndex, HasWellScopedHead, HasWellScopedForm}

-- a variable has this number in a function
abbrev pub StandsAt : Variables → (function : ℕ) → Variable → ℕ → Type 0
StandsAt variables function v k = (v.id ≡ Local k) × (slice_get (own_of variables function) k ≡ Some v)

-- the parameters of a function, which are its first variables
pub record AreParameters (variables : Variables) (function : ℕ) (parameters : List Variable) : Type 0 where
  pub places : (k : ℕ) (v : Variable) → slice_get parameters k ≡ Some v → StandsAt variables function v k
  pub count : length parameters ≡ parameters_of variables function
  pub few : length parameters ≤ 8

-- a table of the variables of a function and the file, and of the parameters of each function
pub record IsTable (variables : Variables) (function : ℕ) (table : Table) : Type 0 where
  pub same : (id : VarId) → variable_of variables function id ≡ variable_at table id
  pub parameters : (called : ℕ) (parameters : List Variable) → slice_get table.parameters called ≡ Some parameters → AreParameters variables called parameters

module _ (variables : Variables) (n : ℕ) (table : Table) (of : IsTable variables n table) where
  array_well_scoped : (id : VarId) → IsTableArray table id → IsArray variables n id
  array_well_scoped id h = (h.0, of.same id ∙ ap (variable_at table) h.3 ∙ h.1, h.2)

  scalar_well_scoped : (x : Var) → IsTableScalar table x → IsScalar variables n x
  scalar_well_scoped x h = (h.0, of.same x.id ∙ ap (λ y. variable_at table y.id) h.3 ∙ h.1, h.2, h.3)

  -- ---- expressions

  expr_well_scoped : (e : Expr) → ExprScoped table e → IsWellScopedExpr variables n e
  expr_well_scoped (Number w) h = tt
  expr_well_scoped ProgramIndex h = tt
  expr_well_scoped ProgramCount h = tt
  expr_well_scoped LaneMask h = tt
  expr_well_scoped (Read x) h = scalar_well_scoped x h
  expr_well_scoped (Element array index) h = (array_well_scoped array h.0, expr_well_scoped index h.1)
  expr_well_scoped (Unary op type a) h = expr_well_scoped a h
  expr_well_scoped (Binary op type a b) h = (expr_well_scoped a h.0, expr_well_scoped b h.1)
  expr_well_scoped (Convert from to a) h = expr_well_scoped a h
  expr_well_scoped (And a b) h = (expr_well_scoped a h.0, expr_well_scoped b h.1)
  expr_well_scoped (Or a b) h = (expr_well_scoped a h.0, expr_well_scoped b h.1)
  expr_well_scoped (Choice test a b) h = (expr_well_scoped test h.0, expr_well_scoped a h.1, expr_well_scoped b h.2)
  expr_well_scoped (Reduce f type a) h = expr_well_scoped a h
  expr_well_scoped (Scan f type a) h = expr_well_scoped a h
  expr_well_scoped (OfOne f type a) h = expr_well_scoped a h
  expr_well_scoped (OfTwo f type a b) h = (expr_well_scoped a h.0, expr_well_scoped b h.1)
  expr_well_scoped (Extract a index) h = (expr_well_scoped a h.0, expr_well_scoped index h.1)
  expr_well_scoped (Insert a index new) h = (expr_well_scoped a h.0, expr_well_scoped index h.1, expr_well_scoped new h.2)
  expr_well_scoped (Rotate a by) h = (expr_well_scoped a h.0, expr_well_scoped by h.1)
  expr_well_scoped (Shift a by) h = (expr_well_scoped a h.0, expr_well_scoped by h.1)
  expr_well_scoped (Shuffle a places) h = (expr_well_scoped a h.0, expr_well_scoped places h.1)
  expr_well_scoped (ShuffleTwo a b places) h = (expr_well_scoped a h.0, expr_well_scoped b h.1, expr_well_scoped places h.2)
  expr_well_scoped (Select test a b) h = (expr_well_scoped test h.0, expr_well_scoped a h.1, expr_well_scoped b h.2)

  option_well_scoped : (e : Option Expr) → SomeScoped table e → IsWellScopedOption variables n e
  option_well_scoped None h = tt
  option_well_scoped (Some e) h = expr_well_scoped e h

  -- ---- calls

  args_well_scoped : (called k : ℕ) (parameters : List Variable) (args : List Arg)
      → ((i : ℕ) (v : Variable) → slice_get parameters i ≡ Some v → StandsAt variables called v (k + i))
      → ArgsScoped table parameters args → ArgsWellScoped variables n called k args
  args_well_scoped called k [] [] at h = tt
  args_well_scoped called k [] (a ∷ args) at h = absurd h
  args_well_scoped called k (v ∷ parameters) [] at h = absurd h
  args_well_scoped called k (v ∷ parameters) (Value x e ∷ args) at h =
      let here : StandsAt variables called v k = subst (StandsAt variables called v) (omega arith) (at 0 v refl) in
      let id : x.id ≡ Local k = ap (λ y. y.id) h.1 ∙ here.0 in (
        record { id = id; scalar = (v, subst (λ i. variable_of variables called i ≡ Some v) (sym id) here.1, h.0, h.1) },
        expr_well_scoped e h.2,
        args_well_scoped called (suc k) parameters args (λ i w there. subst (StandsAt variables called w) (omega arith) (at (suc i) w there)) h.3,
      )
  args_well_scoped called k (v ∷ parameters) (Array parameter array from ∷ args) at h =
      let here : StandsAt variables called v k = subst (StandsAt variables called v) (omega arith) (at 0 v refl) in (
        record { is_local = h.1 ∙ here.0; array = ap is_array_of here.1 ∙ h.0 },
        array_well_scoped array h.2,
        option_well_scoped from h.3,
        args_well_scoped called (suc k) parameters args (λ i w there. subst (StandsAt variables called w) (omega arith) (at (suc i) w there)) h.4,
      )

  args_count : (parameters : List Variable) (args : List Arg) → ArgsScoped table parameters args → length args ≡ length parameters
  args_count [] [] h = refl
  args_count [] (a ∷ args) h = absurd h
  args_count (v ∷ parameters) [] h = absurd h
  args_count (v ∷ parameters) (Value x e ∷ args) h = ap suc (args_count parameters args h.3)
  args_count (v ∷ parameters) (Array parameter array from ∷ args) h = ap suc (args_count parameters args h.4)

  call_well_scoped : (called : ℕ) (parameters : List Variable) (args : List Arg) → AreParameters variables called parameters → ArgsScoped table parameters args
      → CallWellScoped variables n called args
  call_well_scoped called parameters args are h = record {
    args_well_scoped = args_well_scoped called 0 parameters args (λ i v there. subst (StandsAt variables called v) (omega arith) (are.places i v there)) h;
    all = args_count parameters args h ∙ are.count;
    few = omega (arith, args_count parameters args h, are.few);
  }

  -- a variable of the function
  own_well_scoped : (x : Var) → IsLocal x → IsTableScalar table x → (k : ℕ) × IsOwn variables n k x
  own_well_scoped x local h = (local.0, record { id = local.1; scalar = scalar_well_scoped x h })

  result_well_scoped : (result_for : ResultFor) → DeclaresLocal result_for → ResultScoped table result_for → ResultWellScoped variables n result_for
  result_well_scoped Nothing local h = tt
  result_well_scoped (Declares x) local h = own_well_scoped x local h
  result_well_scoped (Assigns x) local h = scalar_well_scoped x h
  result_well_scoped Returns local h = tt

  -- ---- foreach forms

  dimensions_well_scoped : (ds : List Dimension) → Each HasWellScopedIndex ds → DimensionsScoped table ds → All (DimensionWellScoped variables n) ds
  dimensions_well_scoped [] indexes h = All-nil (DimensionWellScoped variables n)
  dimensions_well_scoped (d ∷ ds) indexes h =
      All-cons (DimensionWellScoped variables n) d ds (own_well_scoped d.index indexes.0.0 h.0, indexes.0.1, expr_well_scoped d.low h.1, expr_well_scoped d.high h.2)
      (dimensions_well_scoped ds indexes.1 h.3)

  head_well_scoped : (form : RoundsOf) → HasWellScopedHead form → RoundsScoped table form → FormWellScoped variables n form
  head_well_scoped (Rows ds) form h = (form.0, dimensions_well_scoped ds form.1 h)
  head_well_scoped (Tiles ds) form h = (form.0, dimensions_well_scoped ds form.1 h)
  head_well_scoped (EachLane x) form h = (own_well_scoped x form.0 h, form.1)
  head_well_scoped (EachValue x e) form h = (own_well_scoped x form.0 h.0, form.1, expr_well_scoped e h.1)

  -- ---- statements

  pub stmt_well_scoped : (s : Stmt) → HasWellScopedForm s → StmtScoped table s → IsWellScoped variables n s
  stmt_well_scoped Empty form h = tt
  stmt_well_scoped (Then first rest) form h = (stmt_well_scoped first form.0 h.0, stmt_well_scoped rest form.1 h.1)
  stmt_well_scoped (Declare number x e) form h = (own_well_scoped x form h.0, option_well_scoped e h.1)
  stmt_well_scoped (Assign number (Scalar x) e) form h = (scalar_well_scoped x h.0, expr_well_scoped e h.1)
  stmt_well_scoped (Assign number (ElementOf array rate index) e) form h = (array_well_scoped array h.0.0, expr_well_scoped index h.0.1, expr_well_scoped e h.1)
  stmt_well_scoped (Change number (Scalar x) type op in_type e) form h = (scalar_well_scoped x h.0, expr_well_scoped e h.1)
  stmt_well_scoped (Change number (ElementOf array rate index) type op in_type e) form h = (array_well_scoped array h.0.0, expr_well_scoped index h.0.1, expr_well_scoped e h.1)
  stmt_well_scoped (If number test first other) form h = (expr_well_scoped test h.0, stmt_well_scoped first form.0 h.1, stmt_well_scoped other form.1 h.2)
  stmt_well_scoped (Loop number test update body) form h = (expr_well_scoped test h.0, stmt_well_scoped update form.0 h.1, stmt_well_scoped body form.1 h.2)
  stmt_well_scoped (BodyFirst number test body) form h = (expr_well_scoped test h.0, stmt_well_scoped body form h.1)
  stmt_well_scoped (Break number) form h = tt
  stmt_well_scoped (Continue number) form h = tt
  stmt_well_scoped (Return number e) form h = option_well_scoped e h
  stmt_well_scoped (Call number called args result_for) form h =
      (call_well_scoped called h.0 args (of.parameters called h.0 h.1) h.2, result_well_scoped result_for form h.3)
  stmt_well_scoped (Check number e) form h = expr_well_scoped e h
  stmt_well_scoped (PackedStore number array from e result_for) form h = (array_well_scoped array h.0, option_well_scoped from h.1, expr_well_scoped e h.2, result_well_scoped result_for form h.3)
  stmt_well_scoped (PackedLoad number array from x result_for) form h = (array_well_scoped array h.0, option_well_scoped from h.1, scalar_well_scoped x h.2, result_well_scoped result_for form h.3)
  stmt_well_scoped (Switch number e segments) form h = (expr_well_scoped e h.0, stmt_well_scoped segments form h.1)
  stmt_well_scoped (Segment label body rest) form h = (stmt_well_scoped body form.0 h.0, stmt_well_scoped rest form.1 h.1)
  stmt_well_scoped (ForEach number head body) form h = (head_well_scoped head form.0 h.0, stmt_well_scoped body form.1 h.1)
