-- A sound call names only variables that are in scope and a function that there is, with arguments that fit its parameters.
use Rattle.std.proofs.Common.{ℕ, suc, ◌+◌, true≢false, Bool, true, false, cond, List, [], ◌∷◌, ◌≡◌, refl, sym, ◌∙◌, ap, subst, arith}
use Rattle.std.specs.Prelude.{not, ◌&&◌, map, find, is_some, slice_get, option_map, Option, Some, None, if◌then◌else◌}
use Rattle.std.proofs.lemmas.Option.{slice_get-map}
use Rattle.std.specs.List.{list_all}
use Rattle.gang_types.specs.declared.types.IntType.{IntType}
use Rattle.gang_types.specs.declared.types.IntType.TheVariants as t
use Rattle.gang_types.specs.declared.types.Rate.{Rate}
use Rattle.gang_types.specs.declared.places.Place.{Place}
use Rattle.gang_model.specs.declared.refusals.RefusalNumber.TheVariants.{S8, S9}
use Rattle.gang_model.specs.Types.Tree.{ResultFor, StepNumber, PackedLoad}
use Rattle.gang_model.specs.Types.WellScoped.{Table, ArgsScoped, ResultScoped, StmtScoped}
use Rattle.gang_model.specs.Source.Names.{same_text}
use Rattle.gang_model.specs.Source.Parsed.{Name, ParsedArgs, ParsedParam, ParsedFunction}
use Rattle.gang_model.specs.Source.Judged.{unless, refused}
use Rattle.gang_model.proofs.JudgedLaws.{OnSound, on_then, on_unless, on_fault_if, and_true, not_true}
use Rattle.gang_model.proofs.StandingLaws.{Each}
use Rattle.gang_model.proofs.ScopedExprs.{EntryScoped, PassScoped, as_type-scoped, scalar_in, arguments-scoped}
use Rattle.gang_model.specs.Types.Signatures.{declared_type, declared_rate}
use Rattle.gang_model.specs.Types.Conversions.{Typed, may_become}
use Rattle.gang_model.specs.Types.LibraryTable.{StatementCall, Asserts, PackedStores, PackedLoads, statement_call}
use Rattle.gang_model.specs.Types.Typing.{Scope, Passing, Scalar, View, Reference, var_of, has_no_value, arguments}
use Rattle.gang_model.specs.Types.Overloads.{value_cost, same_elements, cost, one_more, costs, Candidate, candidate, candidates, beats, best_or_tie, overload, passed_args}
use Rattle.gang_model.specs.Types.Calls.{Context, Called, packed, stored_to, takes_elements, library_statement, call_of_kind, call_of, WholeCall, right_call, result_faults}
use Rattle.gang_model.specs.Types.Resolved.{param_variables}

-- a possible function is one of the source, and has these costs
abbrev CandidateRight : List ParsedFunction → List Passing → Candidate → Type 0
CandidateRight functions given c = (slice_get functions c.number ≡ Some c.function) × (costs given c.function.params ≡ Some c.prices)

costs_if : (b : Bool) (given : List Passing) (params : List ParsedParam) (prices : List ℕ) → (if b then costs given params else None) ≡ Some prices → costs given params ≡ Some prices
costs_if true given params prices e = e
costs_if false given params prices e = absurd (true≢false (sym (ap is_some e)))

candidate_right : (functions : List ParsedFunction) (given : List Passing) (k : ℕ) (f : ParsedFunction) (b : Bool) (others : List Candidate) (prices : Option (List ℕ))
    → (if b then costs given f.params else None) ≡ prices → slice_get functions k ≡ Some f → Each (CandidateRight functions given) others
    → Each (CandidateRight functions given) (candidate k f prices others)
candidate_right functions given k f b others None e at h = h
candidate_right functions given k f b others (Some prices) e at h = ((at, costs_if b given f.params prices e), h)

candidates_right : (functions : List ParsedFunction) (name : Name) (given : List Passing) (k : ℕ) (later : List ParsedFunction)
    → ((i : ℕ) (f : ParsedFunction) → slice_get later i ≡ Some f → slice_get functions (k + i) ≡ Some f)
    → Each (CandidateRight functions given) (candidates k later name given)
candidates_right functions name given k [] at = tt
candidates_right functions name given k (f ∷ later) at =
    candidate_right functions given k f (same_text f.name name) (candidates (suc k) later name given) _ refl
    (subst (λ n. slice_get functions n ≡ Some f) (omega arith) (at 0 f refl))
    (candidates_right functions name given (suc k) later (λ i g h. subst (λ n. slice_get functions n ≡ Some g) (omega arith) (at (suc i) g h)))

found_or : (P : Candidate → Type 0) (p : Place) (b : Bool) (x : Candidate) (rest : Option Candidate) → P x → OnSound (best_or_tie p rest) P
    → OnSound (best_or_tie p (cond b (Some x) rest)) P
found_or P p true x rest h later = h
found_or P p false x rest h later = later

find_right : (P : Candidate → Type 0) (p : Place) (test : Candidate → Bool) (xs : List Candidate) → Each P xs → OnSound (best_or_tie p (find test xs)) P
find_right P p test [] h = tt
find_right P p test (x ∷ xs) h = found_or P p (test x) x (find test xs) h.0 (find_right P p test xs h.1)

overload_right : (P : Candidate → Type 0) (p : Place) (possible : List Candidate) → Each P possible → OnSound (overload p possible) P
overload_right P p [] h = tt
overload_right P p (c ∷ others) h = find_right P p (λ x. list_all (beats x) (c ∷ others)) (c ∷ others) h

one_more_some : (price : Option ℕ) (prices : Option (List ℕ)) (all : List ℕ) → one_more price prices ≡ Some all
    → (c : ℕ) × (cs : List ℕ) × (price ≡ Some c) × (prices ≡ Some cs)
one_more_some None prices all e = absurd (true≢false (sym (ap is_some e)))
one_more_some (Some c) None all e = absurd (true≢false (sym (ap is_some e)))
one_more_some (Some c) (Some cs) all e = (c, cs, refl, refl)

some_if : {A : Type 0} (b : Bool) (a : A) (c : A) → (if b then Some a else None) ≡ Some c → b ≡ true
some_if true a c e = refl
some_if false a c e = absurd (true≢false (sym (ap is_some e)))

scalar_cost : (e : Typed) (param : ParsedParam) (type : Option IntType) (c : ℕ) → value_cost e param type ≡ Some c → param.is_array ≡ false
scalar_cost e param None c h = absurd (true≢false (sym (ap is_some h)))
scalar_cost e param (Some type) c h =
    not_true param.is_array (and_true (not param.is_array) (may_become e.rate (declared_rate param.spec.rate)) (some_if (not param.is_array && may_become e.rate (declared_rate param.spec.rate)) _ c h)).0

module _ (table : Table) where
  -- what is passed fits the parameters
  args_scoped : (k : ℕ) (given : List Passing) (params : List ParsedParam) (prices : List ℕ) → costs given params ≡ Some prices → Each (PassScoped table) given
      → ArgsScoped table (param_variables k params) (passed_args k given params)
  args_scoped k [] [] prices e h = tt
  args_scoped k [] (p ∷ params) prices e h = absurd (true≢false (sym (ap is_some e)))
  args_scoped k (a ∷ given) [] prices e h = absurd (true≢false (sym (ap is_some e)))
  args_scoped k (Scalar q x ∷ given) (p ∷ params) prices e h =
      let parts = one_more_some (cost (Scalar q x) p) (costs given params) prices e in
      (scalar_cost x p p.spec.value_type parts.0 parts.2, refl, as_type-scoped table (declared_type p.spec.value_type) x h.0, args_scoped (suc k) given params parts.1 parts.3 h.1)
  args_scoped k (View q n from ∷ given) (p ∷ params) prices e h =
      let parts = one_more_some (cost (View q n from) p) (costs given params) prices e in
      let fits = (and_true (p.is_array && same_elements n p) _ (some_if _ 0 parts.0 parts.2)).0 in
      ((and_true p.is_array (same_elements n p) fits).0, refl, h.0.0, h.0.1, args_scoped (suc k) given params parts.1 parts.3 h.1)
  args_scoped k (Reference q n ∷ given) (p ∷ params) prices e h =
      let parts = one_more_some (cost (Reference q n) p) (costs given params) prices e in absurd (true≢false (sym (ap is_some parts.2)))

  -- a call's statement, where its result goes to what is in scope
  abbrev pub CallScoped : ResultFor → Called → Type 0
  CallScoped result_for c = ResultScoped table result_for → StmtScoped table c.stmt

  library_scoped : (p : Place) (call : StatementCall) (given : List Passing) (result_for : ResultFor) (n : StepNumber) → Each (PassScoped table) given
      → OnSound (library_statement p call given result_for n) (CallScoped result_for)
  library_scoped p Asserts (Scalar q e ∷ []) result_for n h = λ _. as_type-scoped table t.Bool e h.0
  library_scoped p PackedStores (View q v from ∷ Scalar r e ∷ []) result_for n h =
      on_unless (stored_to q v) _ (CallScoped result_for) (λ result. (h.0.0, h.0.1, as_type-scoped table v.variable.type e h.1.0, result))
  library_scoped p PackedLoads (View q v from ∷ Reference r w ∷ []) result_for n h = by (takes_elements w v) refl
    where
      by : (b : Bool) → takes_elements w v ≡ b
          → OnSound (if b then unless (stored_to r w) (packed (PackedLoad n v.variable.id from (var_of w.variable) result_for)) else refused S9 p) (CallScoped result_for)
      by false e = tt
      by true e =
          on_fault_if w.variable.is_constant S8 r _ (CallScoped result_for)
          (λ constant result. (h.0.0, h.0.1, scalar_in table w (h.1.0 constant) (not_true (has_no_value w) (and_true (not (has_no_value w)) _ e).0), result))
  library_scoped p call given result_for n h = tt

  -- the parameters of the functions that may be called
  abbrev pub CallsKnown : Context → Type 0
  CallsKnown context = table.parameters ≡ map (λ f. param_variables 0 f.params) context.functions

  parameters_at : (context : Context) (k : ℕ) (f : ParsedFunction) → CallsKnown context → slice_get context.functions k ≡ Some f
      → slice_get table.parameters k ≡ Some (param_variables 0 f.params)
  parameters_at context k f known e =
      ap (λ ps. slice_get ps k) known ∙ (slice_get-map (λ g. param_variables 0 g.params) context.functions k ∙ ap (option_map (λ g. param_variables 0 g.params)) e)

  kind_scoped : (kind : Option StatementCall) (context : Context) (p : Place) (name : Name) (given : List Passing) (result_for : ResultFor) (n : StepNumber)
      → CallsKnown context → Each (PassScoped table) given → OnSound (call_of_kind kind context p name given result_for n) (CallScoped result_for)
  kind_scoped None context p name given result_for n known h =
      let possible = candidates 0 context.functions name given in
      on_then (overload p possible) _ (CandidateRight context.functions given) (CallScoped result_for)
      (overload_right (CandidateRight context.functions given) p possible
      (candidates_right context.functions name given 0 context.functions (λ i f e. subst (λ k. slice_get context.functions k ≡ Some f) (omega arith) e)))
      (λ c right result. (
        param_variables 0 c.function.params,
        parameters_at context c.number c.function known right.0,
        args_scoped 0 given c.function.params c.prices right.1 h,
        result,
      ))
  kind_scoped (Some call) context p name given result_for n known h = library_scoped p call given result_for n h

  pub call_scoped : (context : Context) (scope : Scope) (p : Place) (name : Name) (args : ParsedArgs) (result_for : ResultFor) (n : StepNumber)
      → CallsKnown context → Each (EntryScoped table) scope → OnSound (call_of context scope p name args result_for n) (CallScoped result_for)
  call_scoped context scope p name args result_for n known h =
      on_then (arguments args scope) _ (Each (PassScoped table)) (CallScoped result_for) (arguments-scoped table args scope h)
      (λ given passes. kind_scoped (statement_call name) context p name given result_for n known passes)

  pub right_scoped : (context : Context) (scope : Scope) (p : Place) (call : WholeCall) (rate : Rate) (result_for : ResultFor) (n : StepNumber)
      → CallsKnown context → Each (EntryScoped table) scope → OnSound (right_call context scope p call rate result_for n) (λ s. ResultScoped table result_for → StmtScoped table s)
  right_scoped context scope p call rate result_for n known h =
      on_then (call_of context scope call.at call.name call.args result_for n) _ (CallScoped result_for) (λ s. ResultScoped table result_for → StmtScoped table s)
      (call_scoped context scope call.at call.name call.args result_for n known h)
      (λ c k. on_unless (result_faults p c.result rate) c.stmt (λ s. ResultScoped table result_for → StmtScoped table s) k)
