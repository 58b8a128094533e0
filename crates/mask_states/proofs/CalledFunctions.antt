-- In the typed tree of a source each call names one of its functions.
use Rattle.std.proofs.Common.{true≢false, ℕ, zero, suc, List, [], ◌∷◌, ◌≡◌, refl, sym, ap, subst}
use Rattle.std.specs.Prelude.{is_some, map, Some, slice_get}
use Rattle.gang_model.specs.Types.Tree.{Variable, Stmt, Empty, Then, Declare, Assign, Change, If, Loop, BodyFirst, Break, Continue, Return, Switch, Segment, ForEach, Call, Check, PackedStore, PackedLoad, Function, Program}
use Rattle.gang_model.specs.Types.WellScoped.{Table, StmtScoped}
use Rattle.gang_model.specs.Source.Parsed.{ParsedFunction, ParsedSource, functions_in}
use Rattle.gang_model.specs.Types.Resolved.{param_variables, program_of}
use Rattle.gang_model.proofs.ScopedPrograms.{table_of, FunctionScoped, FunctionsScoped, program_of-scoped}
use Rattle.mask_states.specs.Stands.{CallsFound}
use Rattle.std.proofs.lemmas.Option.{same_Some}

-- a statement whose calls have their parameters in a table calls the functions that the table is of
pub calls_found : (table : Table) (functions : List Function)
    → ((n : ℕ) (parameters : List Variable) → slice_get table.parameters n ≡ Some parameters → (f : Function) × (slice_get functions n ≡ Some f))
    → (s : Stmt) → StmtScoped table s → CallsFound functions s
calls_found table functions found Empty h = tt
calls_found table functions found (Then first rest) h = (calls_found table functions found first h.0, calls_found table functions found rest h.1)
calls_found table functions found (Declare number v e) h = tt
calls_found table functions found (Assign number target e) h = tt
calls_found table functions found (Change number target type op in_type e) h = tt
calls_found table functions found (If number e first other) h = (calls_found table functions found first h.1, calls_found table functions found other h.2)
calls_found table functions found (Loop number e update body) h = (calls_found table functions found update h.1, calls_found table functions found body h.2)
calls_found table functions found (BodyFirst number e body) h = calls_found table functions found body h.1
calls_found table functions found (Break number) h = tt
calls_found table functions found (Continue number) h = tt
calls_found table functions found (Return number e) h = tt
calls_found table functions found (Switch number e segments) h = calls_found table functions found segments h.1
calls_found table functions found (Segment label body rest) h = (calls_found table functions found body h.0, calls_found table functions found rest h.1)
calls_found table functions found (ForEach number form body) h = calls_found table functions found body h.1
calls_found table functions found (Call number function args result_for) h = found function h.0 h.1
calls_found table functions found (Check number e) h = tt
calls_found table functions found (PackedStore number array from e result_for) h = tt
calls_found table functions found (PackedLoad number array from v result_for) h = tt

-- the typed tree has a function for each of the source
typed_found : (source : ParsedSource) (functions : List ParsedFunction) (typed : List Function) → FunctionsScoped source functions typed
    → (n : ℕ) (parameters : List Variable) → slice_get (map (λ f. param_variables 0 f.params) functions) n ≡ Some parameters → (g : Function) × (slice_get typed n ≡ Some g)
typed_found source [] [] scoped n parameters e = absurd (true≢false (sym (ap is_some e)))
typed_found source [] (g ∷ typed) scoped n parameters e = absurd scoped
typed_found source (f ∷ functions) [] scoped n parameters e = absurd scoped
typed_found source (f ∷ functions) (g ∷ typed) scoped zero parameters e = (g, refl)
typed_found source (f ∷ functions) (g ∷ typed) scoped (suc n) parameters e = typed_found source functions typed scoped.1 n parameters e

-- a function of the typed tree is that of one of the source
scoped_at : (source : ParsedSource) (functions : List ParsedFunction) (typed : List Function) → FunctionsScoped source functions typed
    → (n : ℕ) (g : Function) → slice_get typed n ≡ Some g → (f : ParsedFunction) × FunctionScoped source f g
scoped_at source [] [] scoped n g e = absurd (true≢false (sym (ap is_some e)))
scoped_at source [] (h ∷ typed) scoped n g e = absurd scoped
scoped_at source (f ∷ functions) [] scoped n g e = absurd scoped
scoped_at source (f ∷ functions) (h ∷ typed) scoped zero g e = (f, subst (FunctionScoped source f) (same_Some h g e) scoped.0)
scoped_at source (f ∷ functions) (h ∷ typed) scoped (suc n) g e = scoped_at source functions typed scoped.1 n g e

-- in the typed tree of a source without faults of types each call names one of its functions
pub program_of-calls : (source : ParsedSource) (p : Program) → program_of source ≡ Some p
    → (n : ℕ) (f : Function) → slice_get p.functions n ≡ Some f → CallsFound p.functions f.body
program_of-calls source p e n f is =
    let all = (program_of-scoped source p e).1 in
    let own = scoped_at source (functions_in source) p.functions all n f is in
    calls_found (table_of source own.1.0) p.functions (typed_found source (functions_in source) p.functions all) f.body own.1.2
