-- The variables of a source are numbered in the order of their declarations.
use Rattle.std.proofs.Common.{ℕ, zero, suc, ◌+◌, ◌≤◌, append-nil, List, [], ◌∷◌, ◌++◌, length, ◌≡◌, refl, sym, ◌∙◌, ap, subst, arith}
use Rattle.std.specs.Prelude.{map, max, option_map, Option, Some, None, slice_get}
use Rattle.std.proofs.lemmas.Option.{same_Some, none-some, get_or_from_slice_get, slice_get-map}
use Rattle.gang_types.specs.declared.places.VarId.TheVariants.{Local}
use Rattle.gang_model.specs.Types.Tree.{Variable}
use Rattle.gang_model.specs.Source.Parsed.{ParsedParam, ParsedFunction, ParsedSource, functions_in, globals_in}
use Rattle.gang_model.specs.Source.Judged.{Judged, Sound, Faulty}
use Rattle.gang_model.specs.Running.Numbering.{steps_in_all}
use Rattle.gang_model.specs.Names.Bindings.{bindings_in_all, function_bindings, param_bindings, variable_bindings}
use Rattle.gang_model.specs.Types.Signatures.{result_of}
use Rattle.gang_model.specs.Types.Calls.{Context}
use Rattle.gang_model.specs.Types.Typing.{Scope}
use Rattle.gang_model.specs.Types.Statements.{Made, statements}
use Rattle.gang_model.specs.Types.Resolved.{global_entries, param_entries, param_variables}
use Rattle.gang_model.proofs.JudgedLaws.{OnSound}
use Rattle.gang_model.proofs.NumberLaws.{Faithful, two_parts, statements_faithful}
use Rattle.gang_model.proofs.VariableLaws.{Consecutive, function_numbers, params_bound, params_count}
use Rattle.machine_states.specs.Variables.{own_of, or_none, parameters_of}
use Rattle.machine_states.proofs.Elements.{get_mapped}
use Rattle.runnable_programs.specs.Sources.{own_variables, source_variables, variables_made}
use Rattle.runnable_programs.proofs.Elements.{get_more}
use Rattle.runnable_programs.proofs.ScopedTrees.{AreParameters}

-- ---- a function's variables

-- what a body is judged in
abbrev pub context_of : ParsedSource → ParsedFunction → Context
context_of source f = record { functions = functions_in source; result = result_of f.spec }

abbrev pub scope_of : ParsedSource → ParsedFunction → Scope
scope_of source f = param_entries 0 f.params (global_entries 0 (globals_in source))

-- the body of a function, as it is judged
abbrev pub body_of : ParsedSource → ParsedFunction → Judged Made
body_of source f = statements f.body (context_of source f) (scope_of source f) (length f.params) 0

-- a typed body is numbered as the tree as written
abbrev pub BodyFaithful : ParsedFunction → Made → Type 0
BodyFaithful f m = Faithful (steps_in_all f.body) 0 (bindings_in_all f.body (length f.params)) m

pub body_faithful : (source : ParsedSource) (f : ParsedFunction) → OnSound (body_of source f) (BodyFaithful f)
body_faithful source f = statements_faithful f.body (context_of source f) (scope_of source f) (length f.params) 0

-- a function's variables are those that it declares
pub own_bound : (f : ParsedFunction) (m : Made) → BodyFaithful f m → variable_bindings (param_variables 0 f.params ++ m.variables) ≡ function_bindings f
own_bound f m h = two_parts (param_variables 0 f.params) m.variables (param_bindings 0 f.params) (bindings_in_all f.body (length f.params)) (params_bound 0 f.params) h.2

params_numbered : (k : ℕ) (params : List ParsedParam) → Consecutive k (variable_bindings (param_variables k params))
params_numbered k [] = tt
params_numbered k (p ∷ params) = (refl, params_numbered (suc k) params)

own_numbered : (f : ParsedFunction) (j : Judged Made) → OnSound j (BodyFaithful f) → Consecutive 0 (variable_bindings (param_variables 0 f.params ++ variables_made j))
own_numbered f (Sound m) h = subst (Consecutive 0) (sym (own_bound f m h)) (function_numbers f)
own_numbered f (Faulty first others) h = subst (λ vs. Consecutive 0 (variable_bindings vs)) (sym (append-nil (param_variables 0 f.params))) (params_numbered 0 f.params)

number_from : (first : ℕ) (variables : List Variable) → Consecutive first (variable_bindings variables)
    → (k : ℕ) (v : Variable) → slice_get variables k ≡ Some v → v.id ≡ Local (first + k)
number_from first [] numbered k v e = absurd (none-some v e)
number_from first (w ∷ variables) numbered zero v e = ap (λ x. x.id) (sym (same_Some w v e)) ∙ numbered.0 ∙ ap Local (omega arith)
number_from first (w ∷ variables) numbered (suc k) v e = number_from (suc first) variables numbered.1 k v e ∙ ap Local (omega arith)

-- the k-th of numbered variables has the number k
pub number_at : (variables : List Variable) → Consecutive 0 (variable_bindings variables) → (k : ℕ) (v : Variable) → slice_get variables k ≡ Some v → v.id ≡ Local k
number_at variables numbered k v e = number_from 0 variables numbered k v e ∙ ap Local (omega arith)

-- ---- the variables of a source

pub own_is : (source : ParsedSource) (n : ℕ) (f : ParsedFunction) → slice_get (functions_in source) n ≡ Some f → own_of (source_variables source) n ≡ own_variables source f
own_is source n f e = ap or_none (slice_get-map (own_variables source) (functions_in source) n ∙ ap (option_map (own_variables source)) e)

-- the own variables of each function have their numbers
pub own_at : (source : ParsedSource) (n k : ℕ) (v : Variable) → slice_get (own_of (source_variables source) n) k ≡ Some v → v.id ≡ Local k
own_at source n k v e = by (slice_get (map (own_variables source) (functions_in source)) n) refl e
  where
    by : (own : Option (List Variable)) → slice_get (map (own_variables source) (functions_in source)) n ≡ own → slice_get (or_none own) k ≡ Some v → v.id ≡ Local k
    by None there e = absurd (none-some v e)
    by (Some own) there e =
        let f = get_mapped (own_variables source) (functions_in source) n own there in
        number_at own (subst (λ vs. Consecutive 0 (variable_bindings vs)) f.2 (own_numbered f.0 (body_of source f.0) (body_faithful source f.0))) k v e

-- how many parameters a function has
pub parameters_at : (source : ParsedSource) (n : ℕ) (f : ParsedFunction) → slice_get (functions_in source) n ≡ Some f → parameters_of (source_variables source) n ≡ length f.params
parameters_at source n f e =
    get_or_from_slice_get (map (λ g. length g.params) (functions_in source)) n (length f.params) 0
    (slice_get-map (λ g. length g.params) (functions_in source) n ∙ ap (option_map (λ g. length g.params)) e)

-- the parameters of a function are its first variables
pub parameters_first : (source : ParsedSource) (n : ℕ) (f : ParsedFunction) → slice_get (functions_in source) n ≡ Some f → length f.params ≤ 8
    → AreParameters (source_variables source) n (param_variables 0 f.params)
parameters_first source n f e few = record {
  places = λ k v there. (
    number_at (param_variables 0 f.params) (params_numbered 0 f.params) k v there,
    subst (λ vs. slice_get vs k ≡ Some v) (sym (own_is source n f e)) (get_more (param_variables 0 f.params) (variables_made (body_of source f)) k v there),
  );
  count = params_count 0 f.params ∙ sym (parameters_at source n f e);
  few = omega (arith, params_count 0 f.params, few);
}

-- ---- the most variables

abbrev pub most_of : List (List Variable) → ℕ
most_of [] = 0
most_of (own ∷ others) = max (length own) (most_of others)

-- no function has more variables than the one that has the most
pub within_most : (all : List (List Variable)) (n : ℕ) → length (or_none (slice_get all n)) ≤ most_of all
within_most [] n = omega arith
within_most (own ∷ others) zero = omega arith
within_most (own ∷ others) (suc n) = let later = within_most others n in omega (arith, later)
