-- The parameters of a function of an accepted source by their numbers: those in scope at its closing brace are those that it declares.
use Rattle.std.proofs.Common.{ℕ, zero, suc, ◌+◌, ◌-◌, ◌≤◌, true, false, List, [], ◌∷◌, ◌++◌, append-nil, append_assoc, length, length-append, ◌≡◌, refl, sym, ◌∙◌, ap, subst, arith}
use Rattle.std.proofs.lemmas.List.{map-append}
use Rattle.std.proofs.lemmas.List.Elements.{filter-append}
use Rattle.std.proofs.lemmas.Option.{same_Some, none-some}
use Rattle.std.proofs.Math.Seq.{get_or-append_seam}
use Rattle.std.specs.Prelude.{map, filter, Some, slice_get, slice_index_or}
use Rattle.std.specs.List.{flat_map}
use Rattle.gang_types.specs.declared.places.VarId.TheVariants.{File, Local}
use Rattle.gang_model.specs.declared.refusals.SourceRefusal.{SourceRefusal}
use Rattle.gang_model.specs.Types.Tree.{Variable, Global, Function, Program}
use Rattle.gang_model.specs.Source.Parsed.{ParsedParam, ParsedFunction, ParsedGlobal, ParsedSource, functions_in, globals_in}
use Rattle.gang_model.specs.Source.Judged.{unless}
use Rattle.gang_model.specs.Types.Signatures.{result_of}
use Rattle.gang_model.specs.Types.Calls.{Context}
use Rattle.gang_model.specs.Types.Typing.{declared}
use Rattle.gang_model.specs.Types.Statements.{statements}
use Rattle.gang_model.specs.Types.TypeFaults.{signature_faults, global_faults}
use Rattle.gang_model.specs.Types.Resolved.{global_of, global_entries, param_entries, param_variables, no_variable, local_at, standing_with, judged_globals, judged_function, judged_functions, judged_program, program_of}
use Rattle.gang_model.specs.Types.SourceRefusals.{IsAccepted}
use Rattle.gang_model.specs.Names.Bindings.{param_bindings}
use Rattle.gang_model.specs.Names.NameFaults.{function_names, globals_twice, functions_twice}
use Rattle.gang_model.specs.Names.Scope.{Binding, listed, standing, standings_in_all, standings_of, after_all, before_return, file_scope, function_site}
use Rattle.gang_model.specs.Debugger.Positions.{scope_of}
use Rattle.gang_model.specs.Texts.InputText.{parameters_of}
use Rattle.gang_model.proofs.JudgedLaws.{OnSound, on_pair, on_unless}
use Rattle.gang_model.proofs.RefusalLaws.{accepted-names}
use Rattle.gang_model.proofs.StandingLaws.{Each}
use Rattle.gang_model.proofs.VariableLaws.{on_some, params_count}
use Rattle.input_rows.proofs.DeclaredVariables.{IsOwn, DeclaresOwn, statements_own}
use Rattle.input_rows.proofs.Elements.{all_pass, none_pass, both_empty, last_got, none_given}
use Rattle.input_rows.proofs.OuterNames.{IsLater, closing_lists, own_names}

-- ---- the typed function

-- a typed function has the standings of the source's, over its parameters and variables that are none
pub record IsTypedOf (source : ParsedSource) (f : ParsedFunction) (g : Function) : Type 0 where
  pub declared : List Variable
  pub own : Each IsOwn declared
  pub signature : signature_faults f ≡ []
  pub standings : g.standings ≡ map (standing_with (param_variables 0 f.params ++ declared)) (standings_of (file_scope source) f)

without_faults : {A : Type 0} (faults : List SourceRefusal) (a : A) → OnSound (unless faults a) (λ x. faults ≡ [])
without_faults [] a = refl
without_faults (first ∷ others) a = tt

function_typed : (source : ParsedSource) (f : ParsedFunction) → OnSound (judged_function source f) (IsTypedOf source f)
function_typed source f =
    let context : Context = record { functions = functions_in source; result = result_of f.spec } in
    let scope = param_entries 0 f.params (global_entries 0 (globals_in source)) in
    let signature = unless (signature_faults f) f in
    on_pair signature (statements f.body context scope (length f.params) 0) _ (λ g. signature_faults f ≡ []) DeclaresOwn (IsTypedOf source f)
    (without_faults (signature_faults f) f) (statements_own f.body context scope (length f.params) 0)
    (λ g m none own. record { declared = m.variables; own = own; signature = none; standings = refl })

-- each typed function is that of its function in the source
abbrev AreTypedOf : ParsedSource → List ParsedFunction → List Function → Type 0
AreTypedOf source functions typed = (n : ℕ) (g : Function) → slice_get typed n ≡ Some g → (f : ParsedFunction) × (slice_get functions n ≡ Some f) × IsTypedOf source f g

functions_typed : (source : ParsedSource) (functions : List ParsedFunction) → OnSound (judged_functions source functions) (AreTypedOf source functions)
functions_typed source [] = λ n g e. absurd (none-some g e)
functions_typed source (f ∷ functions) =
    on_pair (judged_function source f) (judged_functions source functions) _ (IsTypedOf source f) (AreTypedOf source functions) (AreTypedOf source (f ∷ functions))
    (function_typed source f) (functions_typed source functions) (λ g typed first later. at g typed first later)
  where
    at : (g : Function) (typed : List Function) → IsTypedOf source f g → AreTypedOf source functions typed → AreTypedOf source (f ∷ functions) (g ∷ typed)
    at g typed first later zero h e = (f, refl, subst (IsTypedOf source f) (same_Some g h e) first)
    at g typed first later (suc n) h e = later n h e

-- a file-scope variable has this number, and is no parameter
abbrev IsNumbered : ℕ → Global → Type 0
IsNumbered k g = (g.variable.id ≡ File k) × (g.variable.is_parameter ≡ false)

-- file-scope variables have their numbers
abbrev AreNumbered : ℕ → List Global → Type 0
AreNumbered first globals = (k : ℕ) (g : Global) → slice_get globals k ≡ Some g → IsNumbered (first + k) g

globals_numbered : (first : ℕ) (globals : List ParsedGlobal) → OnSound (judged_globals first globals) (AreNumbered first)
globals_numbered first [] = λ k g e. absurd (none-some g e)
globals_numbered first (g ∷ globals) =
    on_pair (unless (global_faults g) (global_of first g)) (judged_globals (suc first) globals) _ (IsNumbered first) (AreNumbered (suc first)) (AreNumbered first)
    (on_unless (global_faults g) (global_of first g) (IsNumbered first) (refl, refl)) (globals_numbered (suc first) globals) (λ made later one others. at made later one others)
  where
    at : (made : Global) (later : List Global) → IsNumbered first made → AreNumbered (suc first) later → AreNumbered first (made ∷ later)
    at made later one others zero h e = subst (IsNumbered (first + 0)) (same_Some made h e) (subst (λ n. IsNumbered n made) (omega arith) one)
    at made later one others (suc k) h e = subst (λ n. IsNumbered n h) (omega arith) (others k h e)

-- the program of a source
record IsTyped (source : ParsedSource) (p : Program) : Type 0 where
  globals : AreNumbered 0 p.globals
  functions : AreTypedOf source (functions_in source) p.functions

program_typed : (source : ParsedSource) (p : Program) → program_of source ≡ Some p → IsTyped source p
program_typed source p e =
    on_some (judged_program source) (IsTyped source) p
    (on_pair (judged_globals 0 (globals_in source)) (judged_functions source (functions_in source)) _ (AreNumbered 0) (AreTypedOf source (functions_in source)) (IsTyped source)
    (globals_numbered 0 (globals_in source)) (functions_typed source (functions_in source)) (λ g typed numbered right. record { globals = numbered; functions = right })) e

-- each file-scope variable of a source's program has its number
pub global_at : (source : ParsedSource) (p : Program) → program_of source ≡ Some p → (k : ℕ) (g : Global) → slice_get p.globals k ≡ Some g → g.variable.id ≡ File k
global_at source p e k g there = ((program_typed source p e).globals k g there).0 ∙ ap File (omega arith)

-- and is no parameter
pub global_own : (source : ParsedSource) (p : Program) → program_of source ≡ Some p → (k : ℕ) (g : Global) → slice_get p.globals k ≡ Some g → g.variable.is_parameter ≡ false
global_own source p e k g there = ((program_typed source p e).globals k g there).1

-- ---- parameters at the closing brace

-- the parameter with a number
abbrev first_of : ℕ → ParsedParam → Variable
first_of k p = (declared p.name (Local k) p.spec p.is_array true).variable

-- the parameters by their numbers, among a function's variables
params_found : (front : List Variable) (k : ℕ) (params : List ParsedParam) (declared own : List Variable) → length front ≡ k → own ≡ front ++ (param_variables k params ++ declared)
    → map (λ b. local_at own b.id) (param_bindings k params) ≡ param_variables k params
params_found front k [] declared own e is = refl
params_found front k (p ∷ params) declared own e is =
    let v = first_of k p in
    let rest = param_variables (suc k) params ++ declared in
    let here : slice_index_or own k no_variable ≡ v =
    ap (λ vs. slice_index_or vs k no_variable) is ∙ (ap (λ n. slice_index_or (front ++ v ∷ rest) n no_variable) (sym e) ∙ get_or-append_seam front v rest no_variable) in
    let later = params_found (front ++ v ∷ []) (suc k) params declared own (length-append front (v ∷ []) ∙ omega (arith, e)) (is ∙ sym (append_assoc front (v ∷ []) rest)) in
    ap (λ w. w ∷ map (λ b. local_at own b.id) (param_bindings (suc k) params)) here ∙ ap (λ vs. v ∷ vs) later

-- a variable with a later number is no parameter
later_own : (params declared : List Variable) (k : ℕ) → Each IsOwn declared → length params ≤ k → IsOwn (slice_index_or (params ++ declared) k no_variable)
later_own [] [] k own le = refl
later_own [] (v ∷ declared) zero own le = own.0
later_own [] (v ∷ declared) (suc k) own le = later_own [] declared k own.1 (omega arith)
later_own (v ∷ params) declared zero own le = absurd (omega (arith, le))
later_own (v ∷ params) declared (suc k) own le = later_own params declared k own (omega (arith, le))

later_none : (params declared : List Variable) (least : ℕ) (names : List Binding) → Each IsOwn declared → length params ≡ least → Each (IsLater least) names
    → Each IsOwn (map (λ b. local_at (params ++ declared) b.id) names)
later_none params variables least [] own e later = tt
later_none params variables least (b ∷ names) own e later =
    let k = later.0.0 in
    let le = later.0.2 in
    (subst (λ id. IsOwn (local_at (params ++ variables) id)) (sym later.0.1) (later_own params variables k own (omega (arith, e, le))), later_none params variables least names own e later.1)

params_are : (k : ℕ) (params : List ParsedParam) → Each (λ v. v.is_parameter ≡ true) (param_variables k params)
params_are k [] = tt
params_are k (p ∷ params) = (refl, params_are (suc k) params)

-- what is listed at the closing brace has the parameters alone as parameters
listed_parameters : (params : List ParsedParam) (variables : List Variable) (names more : List Binding) → Each IsOwn variables → names ≡ param_bindings 0 params ++ more → Each (IsLater (length params)) more
    → filter (λ v. v.is_parameter) (map (λ b. local_at (param_variables 0 params ++ variables) b.id) names) ≡ param_variables 0 params
listed_parameters params variables names more own is later =
    let all = param_variables 0 params ++ variables in
    let front = map (λ b. local_at all b.id) (param_bindings 0 params) in
    let behind = map (λ b. local_at all b.id) more in
    ap (λ ns. filter (λ v. v.is_parameter) (map (λ b. local_at all b.id) ns)) is
    ∙ (ap (filter (λ v. v.is_parameter)) (map-append (λ b. local_at all b.id) (param_bindings 0 params) more)
    ∙ (filter-append (λ v. v.is_parameter) front behind
    ∙ (ap (λ vs. vs ++ filter (λ v. v.is_parameter) behind) (ap (filter (λ v. v.is_parameter)) (params_found [] 0 params variables all refl refl) ∙ all_pass (λ v. v.is_parameter) (param_variables 0 params) (params_are 0 params))
    ∙ (ap (λ vs. param_variables 0 params ++ vs) (none_pass (λ v. v.is_parameter) behind (later_none (param_variables 0 params) variables (length params) more own (params_count 0 params) later))
    ∙ append-nil (param_variables 0 params)))))

-- each function of a source without faults of names has none itself
function_named : (source : ParsedSource) → IsAccepted source → (n : ℕ) (f : ParsedFunction) → slice_get (functions_in source) n ≡ Some f
    → function_names (map (λ f. f.name) (functions_in source)) (file_scope source) f ≡ []
function_named source accepted n f at =
    let own = function_names (map (λ f. f.name) (functions_in source)) (file_scope source) in
    let later = both_empty (globals_twice (globals_in source) []) (functions_twice (functions_in source) [] ++ flat_map own (functions_in source)) (accepted-names source accepted) in
    none_given own (functions_in source) n f (both_empty (functions_twice (functions_in source) []) (flat_map own (functions_in source)) later.1).1 at

-- the parameters at the closing brace of a typed function
typed_parameters : (source : ParsedSource) (f : ParsedFunction) (g : Function) → IsTypedOf source f g
    → function_names (map (λ f. f.name) (functions_in source)) (file_scope source) f ≡ [] → parameters_of (Some g) ≡ param_variables 0 f.params
typed_parameters source f g typed none =
    let all = param_variables 0 f.params ++ typed.declared in
    let site = after_all (before_return f.body) (function_site (file_scope source) f.params) in
    let before = standings_in_all f.body (function_site (file_scope source) f.params) in
    let last = standing f.closing site in
    let lists = closing_lists source (map (λ f. f.name) (functions_in source)) f none in
    let standings : g.standings ≡ map (standing_with all) before ++ standing_with all last ∷ [] = typed.standings ∙ map-append (standing_with all) before (last ∷ []) in
    let closing : slice_get g.standings (length g.standings - 1) ≡ Some (standing_with all last) =
    ap (λ ss. slice_get ss (length ss - 1)) standings ∙ last_got (map (standing_with all) before) (standing_with all last) in
    ap (λ o. filter (λ v. v.is_parameter) (scope_of o)) closing
    ∙ listed_parameters f.params typed.declared (listed site.environment) lists.more typed.own lists.names lists.later

-- ---- accepted sources

-- a function of a source's program has its parameters in scope at its closing brace
pub record HasParameters (source : ParsedSource) (n : ℕ) (g : Function) : Type 0 where
  pub function : ParsedFunction
  pub found : slice_get (functions_in source) n ≡ Some function
  pub parameters : parameters_of (Some g) ≡ param_variables 0 function.params
  pub signature : signature_faults function ≡ []
  pub apart : (i j : ℕ) (p q : ParsedParam) → slice_get function.params i ≡ Some p → slice_get function.params j ≡ Some q → p.name ≡ q.name → i ≡ j

pub has_parameters : (source : ParsedSource) (p : Program) → IsAccepted source → program_of source ≡ Some p
    → (n : ℕ) (g : Function) → slice_get p.functions n ≡ Some g → HasParameters source n g
has_parameters source p accepted made n g at =
    let typed = (program_typed source p made).functions n g at in
    let none = function_named source accepted n typed.0 typed.1 in
    record {
      function = typed.0;
      found = typed.1;
      parameters = typed_parameters source typed.0 g typed.2 none;
      signature = typed.2.signature;
      apart = own_names source (map (λ f. f.name) (functions_in source)) typed.0 none;
    }

-- the parameter of a number
pub param_at : (k : ℕ) (params : List ParsedParam) (n : ℕ) (v : Variable) → slice_get (param_variables k params) n ≡ Some v
    → (p : ParsedParam) × (slice_get params n ≡ Some p) × (v ≡ (declared p.name (Local (k + n)) p.spec p.is_array true).variable)
param_at k [] n v e = absurd (none-some v e)
param_at k (p ∷ params) zero v e = (p, refl, sym (same_Some (first_of k p) v e) ∙ ap (λ j. first_of j p) (omega arith))
param_at k (p ∷ params) (suc n) v e = let later = param_at (suc k) params n v e in (later.0, later.1, later.2 ∙ ap (λ j. first_of j later.0) (omega arith))
