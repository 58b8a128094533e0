-- The variables of the file in a typed tree: what names one names it as it is declared.
use Rattle.std.proofs.Common.{ℕ, zero, suc, true, List, [], ◌∷◌, length, ◌≡◌, sym, ◌∙◌, ap, subst, arith}
use Rattle.std.specs.Prelude.{Some, slice_get}
use Rattle.gang_types.specs.declared.types.Rate.TheVariants.{Varying}
use Rattle.gang_types.specs.declared.places.VarId.{VarId}
use Rattle.gang_types.specs.declared.places.VarId.TheVariants.{File, Local}
use Rattle.gang_model.specs.Types.Tree.{Var, Variable, ResultFor, Stmt, Global, Function, Program}
use Rattle.gang_model.specs.Types.WellScoped.{variable_at, IsScalar, IsArray, ResultScoped, StmtScoped}
use Rattle.gang_model.specs.Source.Parsed.{ParsedFunction, ParsedSource, functions_in, globals_in}
use Rattle.gang_model.specs.Source.Judged.{unless}
use Rattle.gang_model.proofs.JudgedLaws.{on_any, on_pair}
use Rattle.gang_model.proofs.ScopedPrograms.{table_of, FunctionsScoped, variables_of_globals, program_of-scoped}
use Rattle.gang_model.specs.Types.Signatures.{result_of}
use Rattle.gang_model.specs.Types.Calls.{Context}
use Rattle.gang_model.specs.Types.TypeFaults.{signature_faults}
use Rattle.gang_model.specs.Types.Statements.{statements}
use Rattle.gang_model.specs.Types.Resolved.{file_variables, global_entries, param_entries, program_of}
use Rattle.gang_model.specs.Running.SeparateInstances.{IsVaryingScalar, IsArrayId}
use Rattle.lane_alone.specs.Indices.{AreIndicesLocal}
use Rattle.lane_alone.proofs.LocalIndices.{IsMadeLocal, statements_local}
use Rattle.lane_alone.proofs.PurePrograms.{none_some, some_same, EachPair, program_pairs, written_at, variable_at_global, global_variable, file_numbers}

module _ (source : ParsedSource) where
  -- a statement names the variables of some function, and its index variables are local
  abbrev pub IsSound : Stmt → Type 0
  IsSound s = (own : List Variable) × StmtScoped (table_of source own) s × AreIndicesLocal s

  -- what is given to a scalar, as a variable of some function
  abbrev pub IsResultSound : ResultFor → Type 0
  IsResultSound result_for = (own : List Variable) × ResultScoped (table_of source own) result_for

  module _ (p : Program) (is : program_of source ≡ Some p) where
    same_variables : variables_of_globals p.globals ≡ file_variables 0 (globals_in source)
    same_variables = (program_of-scoped source p is).0

    -- the variables of the file have their numbers
    pub numbered_file : (n : ℕ) (g : Global) → slice_get p.globals n ≡ Some g → g.variable.id ≡ File n
    numbered_file n g e = file_numbers 0 (globals_in source) n g.variable (ap (λ vs. slice_get vs n) (sym same_variables) ∙ global_variable p.globals n g e) ∙ ap File (omega arith)

    -- a scalar that is a varying variable of the file is named as a varying one
    pub named_varying : (own : List Variable) (v : Var) → IsScalar (table_of source own) v → (n : ℕ) → v.id ≡ File n → IsVaryingScalar p n → v.rate ≡ Varying
    named_varying own v (u, at, scalar, same) n named (g, there, plain, varying) =
        let id : u.id ≡ File n = ap (λ x. x.id) (sym same) ∙ named in
        let declared : slice_get (file_variables 0 (globals_in source)) n ≡ Some u = subst (λ i. variable_at (table_of source own) i ≡ Some u) id at in
        let found : slice_get (file_variables 0 (globals_in source)) n ≡ Some g.variable = ap (λ vs. slice_get vs n) (sym same_variables) ∙ global_variable p.globals n g there in
        ap (λ x. x.rate) same ∙ ap (λ x. x.rate) (some_same (sym declared ∙ found)) ∙ varying

    array_at : (own : List Variable) (id : VarId) (v : Variable) → id ≡ v.id → v.is_array ≡ true → variable_at (table_of source own) id ≡ Some v → IsArrayId p id
    array_at own (File n) v same array at =
        let g : (g : Global) × (slice_get p.globals n ≡ Some g) × (g.variable ≡ v) = variable_at_global p.globals n v (ap (λ vs. slice_get vs n) same_variables ∙ at) in
        (g.0, g.1, ap (λ x. x.is_array) g.2 ∙ array)
    array_at own (Local n) v same array at = tt

    -- what is named as an array is one
    pub named_array : (own : List Variable) (id : VarId) → IsArray (table_of source own) id → IsArrayId p id
    named_array own id (v, at, array, same) = array_at own id v same array (subst (λ i. variable_at (table_of source own) i ≡ Some v) (sym same) at)

    -- ---- bodies

    scoped_at : (functions : List ParsedFunction) (typed : List Function) → FunctionsScoped source functions typed → (n : ℕ) (g : Function) → slice_get typed n ≡ Some g → (own : List Variable) × StmtScoped (table_of source own) g.body
    scoped_at [] [] h n g e = absurd (none_some e)
    scoped_at [] (x ∷ typed) h n g e = absurd h
    scoped_at (f ∷ functions) [] h n g e = absurd h
    scoped_at (f ∷ functions) (x ∷ typed) h zero g e = (h.0.0, subst (λ y. StmtScoped (table_of source h.0.0) y.body) (some_same e) h.0.2)
    scoped_at (f ∷ functions) (x ∷ typed) h (suc n) g e = scoped_at functions typed h.1 n g e

    abbrev IsBodyLocal : ParsedFunction → Function → Type 0
    IsBodyLocal f g = AreIndicesLocal g.body

    local_bodies : EachPair IsBodyLocal (functions_in source) p.functions
    local_bodies = program_pairs IsBodyLocal source p is (λ f.
        let context : Context = record { functions = functions_in source; result = result_of f.spec } in
        let scope = param_entries 0 f.params (global_entries 0 (globals_in source)) in
        on_pair (unless (signature_faults f) f) (statements f.body context scope (length f.params) 0) _ (λ x. Unit {0}) IsMadeLocal (IsBodyLocal f) (on_any (unless (signature_faults f) f))
        (statements_local context f.body scope (length f.params) 0) (λ x m _ h. h))

    -- the body of each function is sound
    pub sound_body : (n : ℕ) (g : Function) → slice_get p.functions n ≡ Some g → IsSound g.body
    sound_body n g e =
        let scoped = scoped_at (functions_in source) p.functions (program_of-scoped source p is).1 n g e in
        let indices = written_at IsBodyLocal (functions_in source) p.functions local_bodies n g e in
        (scoped.0, scoped.1, indices.2)
