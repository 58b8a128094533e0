-- An expression that means something where a frame stands reads variables that the frame has declared.
use Rattle.std.proofs.Common.{◌≡◌, refl, sym, ap, subst, ◌∙◌, ℕ, suc, List, [], ◌∷◌, ◌++◌, map, Option, Some, None}
use Rattle.std.specs.Prelude.{All, slice_get}
use Rattle.std.proofs.lemmas.Option.{get_or_from_slice_get, slice_get_within}
use Rattle.gang_types.specs.declared.places.VarId.{VarId}
use Rattle.gang_types.specs.declared.places.VarId.TheVariants.{File, Local}
use Rattle.gang_types.specs.declared.types.IntType.{IntType}
use Rattle.gang_types.specs.declared.types.Rate.{Rate}
use Rattle.gang_model.specs.Debugger.Positions.{scope_of, spot_in, standing_at, standing_in}
use Rattle.gang_model.specs.Source.Judged.{Sound}
use Rattle.gang_model.specs.Source.Parsed.{ParsedExpr}
use Rattle.gang_model.specs.Types.Conversions.{typed}
use Rattle.gang_model.specs.Types.Tree.{Var, Expr, Number, ProgramIndex, ProgramCount, LaneMask, Read, Element, Unary, Binary, Convert, And, Or, Choice, Reduce, Scan, OfOne, OfTwo, Extract, Insert, Rotate, Shift, Shuffle, ShuffleTwo, Select, Function, Standing, StepNumber, Variable}
use Rattle.gang_model.specs.Types.Typing.{expression}
use Rattle.gang_model.specs.Types.WellScoped.{Table, variable_at, IsScalar as IsTableScalar, IsArray as IsTableArray, ExprScoped}
use Rattle.gang_model.proofs.JudgedLaws.{OnSound}
use Rattle.gang_model.proofs.ScopedExprs.{EntryScoped, TypedScoped, expression-scoped}
use Rattle.gang_model.proofs.StandingLaws.{Each, each_join}
use Rattle.machine_states.specs.Declared.{IsDeclaredName, IsThere, NamesDeclared, declared_before}
use Rattle.machine_states.specs.Variables.{Variables, IsArray, IsScalar, own_of, variable_of}
use Rattle.machine_states.specs.WellScoped.{IsWellScopedExpr, IsWellScopedName}
use Rattle.runnable_programs.proofs.ThereExprs.{TypedThere, expression-there}
use Rattle.runnable_programs.proofs.ThereNames.{EntryThere, ScopeThere}
use Rattle.typed_tree.specs.declared.program.Global.{Global}
use Rattle.typed_tree.specs.declared.program.Program.{Program}
use Rattle.typed_tree.specs.Views.{global_view, program_view, variable_view}
use Rattle.codegen.specs.Programs.{IsRunnable, variables_of}
use Rattle.frame_expressions.specs.Meanings.{entries_at, variable_entry}

-- ---- lists

each_of : {A : Type 0} (P : A → Type 0) (xs : List A) → ((k : ℕ) (x : A) → slice_get xs k ≡ Some x → P x) → Each P xs
each_of P [] h = tt
each_of P (x ∷ xs) h = (h 0 x refl, each_of P xs (λ k y e. h (suc k) y e))

each_mapped : {A B : Type 0} (P : B → Type 0) (f : A → B) (xs : List A) → Each (λ x. P (f x)) xs → Each P (map f xs)
each_mapped P f [] all = tt
each_mapped P f (x ∷ xs) all = (all.0, each_mapped P f xs all.1)

-- one of some of which each is so
one_of : {A : Type 0} (P : A → Type 0) (xs : List A) → All P xs → (k : ℕ) (x : A) → slice_get xs k ≡ Some x → P x
one_of P xs all k x e = subst P (get_or_from_slice_get xs k x x e) (all k x (slice_get_within xs k x e))

-- ---- the names of a table

abbrev table_of : Variables → (function : ℕ) → Table
table_of variables n = record { file = variables.file; own = own_of variables n; parameters = [] }

module _ (variables : Variables) (n : ℕ) where
  same : (id : VarId) → variable_of variables n id ≡ variable_at (table_of variables n) id
  same (File k) = refl
  same (Local k) = refl

  array_well_scoped : (id : VarId) → IsTableArray (table_of variables n) id → IsArray variables n id
  array_well_scoped id h = (h.0, same id ∙ ap (variable_at (table_of variables n)) h.3 ∙ h.1, h.2)

  scalar_well_scoped : (x : Var) → IsTableScalar (table_of variables n) x → IsScalar variables n x
  scalar_well_scoped x h = (h.0, same x.id ∙ ap (λ y. variable_at (table_of variables n) y.id) h.3 ∙ h.1, h.2, h.3)

  expr_well_scoped : (e : Expr) → ExprScoped (table_of variables n) e → IsWellScopedExpr variables n e
  expr_well_scoped (Number w) h = tt
  expr_well_scoped ProgramIndex h = tt
  expr_well_scoped ProgramCount h = tt
  expr_well_scoped LaneMask h = tt
  expr_well_scoped (Read x) h = scalar_well_scoped x h
  expr_well_scoped (Element array index) h = (array_well_scoped array h.0, expr_well_scoped index h.1)
  expr_well_scoped (Unary op type a) h = expr_well_scoped a h
  expr_well_scoped (Binary op type a b) h = (expr_well_scoped a h.0, expr_well_scoped b h.1)
  expr_well_scoped (Convert from to a) h = expr_well_scoped a h
  expr_well_scoped (And a b) h = (expr_well_scoped a h.0, expr_well_scoped b h.1)
  expr_well_scoped (Or a b) h = (expr_well_scoped a h.0, expr_well_scoped b h.1)
  expr_well_scoped (Choice test a b) h = (expr_well_scoped test h.0, expr_well_scoped a h.1, expr_well_scoped b h.2)
  expr_well_scoped (Reduce f type a) h = expr_well_scoped a h
  expr_well_scoped (Scan f type a) h = expr_well_scoped a h
  expr_well_scoped (OfOne f type a) h = expr_well_scoped a h
  expr_well_scoped (OfTwo f type a b) h = (expr_well_scoped a h.0, expr_well_scoped b h.1)
  expr_well_scoped (Extract a index) h = (expr_well_scoped a h.0, expr_well_scoped index h.1)
  expr_well_scoped (Insert a index new) h = (expr_well_scoped a h.0, expr_well_scoped index h.1, expr_well_scoped new h.2)
  expr_well_scoped (Rotate a by) h = (expr_well_scoped a h.0, expr_well_scoped by h.1)
  expr_well_scoped (Shift a by) h = (expr_well_scoped a h.0, expr_well_scoped by h.1)
  expr_well_scoped (Shuffle a places) h = (expr_well_scoped a h.0, expr_well_scoped places h.1)
  expr_well_scoped (ShuffleTwo a b places) h = (expr_well_scoped a h.0, expr_well_scoped b h.1, expr_well_scoped places h.2)
  expr_well_scoped (Select test a b) h = (expr_well_scoped test h.0, expr_well_scoped a h.1, expr_well_scoped b h.2)

-- ---- the names in scope at a step

-- the variables of the file are those of the globals
globals_same : (globals : List Global) → map (λ g. g.variable) (map global_view globals) ≡ map (λ g. variable_view g.variable) globals
globals_same [] = refl
globals_same (global ∷ globals) = ap (λ vs. variable_view global.variable ∷ vs) (globals_same globals)

module _ (program : Program) (runnable : IsRunnable program) (n : ℕ) (f : Function) (is_function : slice_get (program_view program).functions n ≡ Some f) (number : StepNumber) where
  abbrev variables : Variables
  variables = variables_of program

  abbrev there : List ℕ
  there = declared_before (variables_of program) n f number

  abbrev ScopedHere : Variable → Type 0
  ScopedHere v = EntryScoped (table_of (variables_of program) n) (variable_entry v)

  abbrev ThereHere : Variable → Type 0
  ThereHere v = EntryThere (declared_before (variables_of program) n f number) (variable_entry v)

  own_scoped : (v : Variable) → IsWellScopedName (variables_of program) n v → ScopedHere v
  own_scoped v (k, e) = ap (variable_at (table_of variables n)) (runnable.well_scoped.own n k v e) ∙ e

  locals_scoped : (o : Option Standing) → slice_get f.standings number ≡ o → Each ScopedHere (scope_of o)
  locals_scoped None e = tt
  locals_scoped (Some standing) e =
      each_of ScopedHere standing.scope
      (λ k v is. own_scoped v (one_of (IsWellScopedName variables n) standing.scope ((runnable.well_scoped.functions n f is_function).scopes number standing e) k v is))

  locals_there : (o : Option Standing) → slice_get f.standings number ≡ o → Each ThereHere (scope_of o)
  locals_there None e = tt
  locals_there (Some standing) e =
      each_of ThereHere standing.scope
      (λ k v is. one_of (IsDeclaredName there) standing.scope ((runnable.declared n f is_function).scopes number standing e) k v is)

  file_scoped : Each ScopedHere (map (λ g. g.variable) (program_view program).globals)
  file_scoped =
      subst (Each ScopedHere) (sym (globals_same program.globals.items))
      (each_of ScopedHere variables.file (λ k v e. ap (variable_at (table_of variables n)) (runnable.well_scoped.file k v e) ∙ e))

  file_there : Each ThereHere (map (λ g. g.variable) (program_view program).globals)
  file_there =
      subst (Each ThereHere) (sym (globals_same program.globals.items))
      (each_of ThereHere variables.file (λ k v e scalar. subst (IsThere there) (sym (runnable.well_scoped.file k v e)) tt))

  -- what stands where the step does
  scope_is : scope_of (standing_at (program_view program) (spot_in n number)) ≡ scope_of (slice_get f.standings number)
  scope_is = ap (λ o. scope_of (standing_in o number)) is_function

  entries_are : entries_at (program_view program) (spot_in n number) ≡ map variable_entry (scope_of (slice_get f.standings number) ++ map (λ g. g.variable) (program_view program).globals)
  entries_are = ap (λ vs. map variable_entry (vs ++ map (λ g. g.variable) (program_view program).globals)) scope_is

  all_scoped : Each (EntryScoped (table_of (variables_of program) n)) (entries_at (program_view program) (spot_in n number))
  all_scoped =
      subst (Each (EntryScoped (table_of variables n))) (sym entries_are)
      (each_mapped (EntryScoped (table_of variables n)) variable_entry (scope_of (slice_get f.standings number) ++ map (λ g. g.variable) (program_view program).globals)
      (each_join ScopedHere (scope_of (slice_get f.standings number)) (map (λ g. g.variable) (program_view program).globals) (locals_scoped (slice_get f.standings number) refl) file_scoped))

  all_there : ScopeThere (declared_before (variables_of program) n f number) (entries_at (program_view program) (spot_in n number))
  all_there =
      subst (Each (EntryThere there)) (sym entries_are)
      (each_mapped (EntryThere there) variable_entry (scope_of (slice_get f.standings number) ++ map (λ g. g.variable) (program_view program).globals)
      (each_join ThereHere (scope_of (slice_get f.standings number)) (map (λ g. g.variable) (program_view program).globals) (locals_there (slice_get f.standings number) refl) file_there))

  module _ (written : ParsedExpr) (tree : Expr) (type : IntType) (rate : Rate) (means : expression written (entries_at (program_view program) (spot_in n number)) ≡ Sound (typed tree type rate)) where
    -- its scalars and arrays are the function's and the file's
    pub is_well_scoped : IsWellScopedExpr (variables_of program) n tree
    is_well_scoped =
        expr_well_scoped variables n tree
        (subst (λ j. OnSound j (TypedScoped (table_of variables n))) means
        (expression-scoped (table_of variables n) written (entries_at (program_view program) (spot_in n number)) all_scoped))

    -- and each is declared before the step
    pub is_declared : NamesDeclared (declared_before (variables_of program) n f number) tree
    is_declared =
        subst (λ j. OnSound j (TypedThere there)) means
        (expression-there there written (entries_at (program_view program) (spot_in n number)) all_there)
