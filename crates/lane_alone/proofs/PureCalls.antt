-- A sound call, which function it is of, and what it passes; a lane-pure one fits.
use Rattle.std.proofs.Common.{ℕ, suc, ◌+◌, true≢false, Bool, true, false, cond, List, [], ◌∷◌, ◌≡◌, refl, sym, ◌∙◌, ap, subst, arith, inl, inr}
use Rattle.std.specs.Prelude.{not, ◌&&◌, ◌||◌, ◌==◌, ◌⊎◌, find, is_some, slice_get, Option, Some, None, if◌then◌else◌}
use Rattle.std.specs.List.{list_all}
use Rattle.gang_types.specs.declared.types.IntType.{IntType}
use Rattle.gang_types.specs.declared.places.Place.{Place}
use Rattle.gang_types.specs.declared.places.VarId.TheVariants.{Local}
use Rattle.gang_model.specs.declared.refusals.RefusalNumber.TheVariants.{S9}
use Rattle.gang_model.specs.Types.Tree.{Program, Global, Variable, Expr, Call, ResultFor, StepNumber, PackedLoad}
use Rattle.gang_model.specs.Types.WellScoped.{Table}
use Rattle.gang_model.specs.Source.Names.{same_text}
use Rattle.gang_model.specs.Source.Parsed.{Name, ParsedArgs, ParsedParam, ParsedFunction}
use Rattle.gang_model.specs.Source.Judged.{Judged, Sound, Faulty, unless, refused}
use Rattle.gang_model.proofs.JudgedLaws.{OnSound, on_then, on_unless, and_true, not_true}
use Rattle.gang_model.proofs.StandingLaws.{Each}
use Rattle.gang_model.proofs.ScopedExprs.{EntryScoped, PassScoped, as_type-scoped, arguments-scoped}
use Rattle.gang_model.proofs.UniformLaws.{PassRight, arguments-uniform}
use Rattle.gang_model.specs.Types.Signatures.{result_of, declared_type, declared_rate}
use Rattle.gang_model.specs.Types.Conversions.{Typed, may_become, is_varying, as_type}
use Rattle.gang_model.specs.Types.LibraryTable.{StatementCall, Asserts, PackedStores, PackedLoads, statement_call}
use Rattle.gang_model.specs.Types.Typing.{Entry, Scope, Passing, Scalar, View, Reference, declared, var_of, arguments}
use Rattle.gang_model.specs.Types.Overloads.{value_cost, same_elements, cost, one_more, costs, Candidate, candidate, candidates, beats, best_or_tie, overload, passed_args}
use Rattle.gang_model.specs.Types.Calls.{Context, Called, packed, stored_to, takes_elements, library_statement, call_of_kind, call_of}
use Rattle.gang_model.specs.Types.Resolved.{param_entries}
use Rattle.gang_model.specs.Running.LanePure.{is_pure_stmt, are_pure, is_pure, is_pure_option}
use Rattle.lane_alone.specs.Fits.{and_one, given as set_by, FitsArgs, FitsFrom}
use Rattle.gang_model.specs.Running.LanePure.{are_pure_params}
use Rattle.lane_alone.proofs.TaskLists.{by_bool}
use Rattle.lane_alone.proofs.PureExprs.{known_of, scope_table, varying_is, array_known, expr_fits}

-- a possible function is one of the source, and has these costs
abbrev CandidateRight : List ParsedFunction → List Passing → Candidate → Type 0
CandidateRight functions given c = (slice_get functions c.number ≡ Some c.function) × (costs given c.function.params ≡ Some c.prices)

costs_if : (b : Bool) (given : List Passing) (params : List ParsedParam) (prices : List ℕ) → (if b then costs given params else None) ≡ Some prices → costs given params ≡ Some prices
costs_if true given params prices e = e
costs_if false given params prices e = absurd (true≢false (sym (ap is_some e)))

candidate_right : (functions : List ParsedFunction) (given : List Passing) (k : ℕ) (f : ParsedFunction) (b : Bool) (others : List Candidate) (prices : Option (List ℕ))
    → (if b then costs given f.params else None) ≡ prices → slice_get functions k ≡ Some f → Each (CandidateRight functions given) others
    → Each (CandidateRight functions given) (candidate k f prices others)
candidate_right functions given k f b others None e at h = h
candidate_right functions given k f b others (Some prices) e at h = ((at, costs_if b given f.params prices e), h)

candidates_right : (functions : List ParsedFunction) (name : Name) (given : List Passing) (k : ℕ) (later : List ParsedFunction)
    → ((i : ℕ) (f : ParsedFunction) → slice_get later i ≡ Some f → slice_get functions (k + i) ≡ Some f)
    → Each (CandidateRight functions given) (candidates k later name given)
candidates_right functions name given k [] at = tt
candidates_right functions name given k (f ∷ later) at =
    candidate_right functions given k f (same_text f.name name) (candidates (suc k) later name given) _ refl
    (subst (λ n. slice_get functions n ≡ Some f) (omega arith) (at 0 f refl))
    (candidates_right functions name given (suc k) later (λ i g h. subst (λ n. slice_get functions n ≡ Some g) (omega arith) (at (suc i) g h)))

found_or : (P : Candidate → Type 0) (p : Place) (b : Bool) (x : Candidate) (rest : Option Candidate) → P x → OnSound (best_or_tie p rest) P
    → OnSound (best_or_tie p (cond b (Some x) rest)) P
found_or P p true x rest h later = h
found_or P p false x rest h later = later

find_right : (P : Candidate → Type 0) (p : Place) (test : Candidate → Bool) (xs : List Candidate) → Each P xs → OnSound (best_or_tie p (find test xs)) P
find_right P p test [] h = tt
find_right P p test (x ∷ xs) h = found_or P p (test x) x (find test xs) h.0 (find_right P p test xs h.1)

overload_right : (P : Candidate → Type 0) (p : Place) (possible : List Candidate) → Each P possible → OnSound (overload p possible) P
overload_right P p [] h = tt
overload_right P p (c ∷ others) h = find_right P p (λ x. list_all (beats x) (c ∷ others)) (c ∷ others) h

one_more_some : (price : Option ℕ) (prices : Option (List ℕ)) (all : List ℕ) → one_more price prices ≡ Some all
    → (c : ℕ) × (cs : List ℕ) × (price ≡ Some c) × (prices ≡ Some cs)
one_more_some None prices all e = absurd (true≢false (sym (ap is_some e)))
one_more_some (Some c) None all e = absurd (true≢false (sym (ap is_some e)))
one_more_some (Some c) (Some cs) all e = (c, cs, refl, refl)

some_if : {A : Type 0} (b : Bool) (a : A) (c : A) → (if b then Some a else None) ≡ Some c → b ≡ true
some_if true a c e = refl
some_if false a c e = absurd (true≢false (sym (ap is_some e)))

scalar_cost : (e : Typed) (param : ParsedParam) (type : Option IntType) (c : ℕ) → value_cost e param type ≡ Some c → param.is_array ≡ false
scalar_cost e param None c h = absurd (true≢false (sym (ap is_some h)))
scalar_cost e param (Some type) c h =
    not_true param.is_array (and_true (not param.is_array) (may_become e.rate (declared_rate param.spec.rate)) (some_if (not param.is_array && may_become e.rate (declared_rate param.spec.rate)) _ c h)).0

-- two facts of one part
pub on_also : {A : Type 0} (j : Judged A) (P Q : A → Type 0) → OnSound j P → OnSound j Q → OnSound j (λ a. P a × Q a)
on_also (Sound a) P Q p q = (p, q)
on_also (Faulty first others) P Q p q = tt

pub on_map : {A : Type 0} (j : Judged A) (P Q : A → Type 0) → ((a : A) → P a → Q a) → OnSound j P → OnSound j Q
on_map (Sound a) P Q f p = f a p
on_map (Faulty first others) P Q f p = tt

or_true : (a b : Bool) → a ≡ false → (a || b) ≡ true → b ≡ true
or_true true b e h = cc
or_true false b e h = h

-- what a call is: one of a function of the source with these arguments, or one that is not lane-pure
pub record OfUser (functions : List ParsedFunction) (table : Table) (result_for : ResultFor) (n : StepNumber) (c : Called) : Type 0 where
  pub number : ℕ
  pub function : ParsedFunction
  pub at : slice_get functions number ≡ Some function
  pub given : List Passing
  pub prices : List ℕ
  pub fit : costs given function.params ≡ Some prices
  pub scoped : Each (PassScoped table) given
  pub right : Each PassRight given
  pub stmt : c.stmt ≡ Call n number (passed_args 0 given function.params) result_for
  pub result : c.result ≡ result_of function.spec

abbrev pub IsCalled : List ParsedFunction → Table → ResultFor → StepNumber → Called → Type 0
IsCalled functions table result_for n c = OfUser functions table result_for n c ⊎ (is_pure_stmt c.stmt ≡ false)

module _ (table : Table) where
  library_called : (functions : List ParsedFunction) (p : Place) (call : StatementCall) (given : List Passing) (result_for : ResultFor) (n : StepNumber) → OnSound (library_statement p call given result_for n) (IsCalled functions table result_for n)
  library_called functions p Asserts (Scalar q e ∷ []) result_for n = inr refl
  library_called functions p PackedStores (View q v from ∷ Scalar r e ∷ []) result_for n = on_unless (stored_to q v) _ (IsCalled functions table result_for n) (inr refl)
  library_called functions p PackedLoads (View q v from ∷ Reference r w ∷ []) result_for n = by (takes_elements w v)
    where
      by : (b : Bool) → OnSound (if b then unless (stored_to r w) (packed (PackedLoad n v.variable.id from (var_of w.variable) result_for)) else refused S9 p) (IsCalled functions table result_for n)
      by false = tt
      by true = on_unless (stored_to r w) _ (IsCalled functions table result_for n) (inr refl)
  library_called functions p call given result_for n = tt

  kind_called : (kind : Option StatementCall) (context : Context) (p : Place) (name : Name) (given : List Passing) (result_for : ResultFor) (n : StepNumber) → Each (PassScoped table) given → Each PassRight given
      → OnSound (call_of_kind kind context p name given result_for n) (IsCalled context.functions table result_for n)
  kind_called None context p name given result_for n h r =
      let possible = candidates 0 context.functions name given in
      on_then (overload p possible) _ (CandidateRight context.functions given) (IsCalled context.functions table result_for n)
      (overload_right (CandidateRight context.functions given) p possible
      (candidates_right context.functions name given 0 context.functions (λ i f e. subst (λ k. slice_get context.functions k ≡ Some f) (omega arith) e)))
      (λ c right. inl (record { number = c.number; function = c.function; at = right.0; given = given; prices = c.prices; fit = right.1; scoped = h; right = r; stmt = refl; result = refl }))
  kind_called (Some call) context p name given result_for n h r = library_called context.functions p call given result_for n

  pub call_called : (context : Context) (scope : Scope) → Each (EntryScoped table) scope → (p : Place) (name : Name) (args : ParsedArgs) (result_for : ResultFor) (n : StepNumber)
      → OnSound (call_of context scope p name args result_for n) (IsCalled context.functions table result_for n)
  call_called context scope h p name args result_for n =
      on_then (arguments args scope) _ (λ given. Each (PassScoped table) given × Each PassRight given) (IsCalled context.functions table result_for n)
      (on_also (arguments args scope) (Each (PassScoped table)) (Each PassRight) (arguments-scoped table args scope h) (arguments-uniform args scope))
      (λ given both. kind_called (statement_call name) context p name given result_for n both.0 both.1)

-- ---- what is passed

module _ (p : Program) (file : List Variable) (file_is : (n : ℕ) (v : Variable) → slice_get file n ≡ Some v → (g : Global) × (slice_get p.globals n ≡ Some g) × (g.variable ≡ v)) (scope : Scope) (k : ℕ) where
  from_fits : (q : Place) (n : Entry) (from : Option Expr) → PassScoped (scope_table file [] scope k) (View q n from) → PassRight (View q n from) → is_pure_option from ≡ true → FitsFrom p (known_of scope) from
  from_fits q n None s r pure = tt
  from_fits q n (Some e) s r pure = (r, expr_fits p file [] file_is scope k e s.1 pure)

  pub args_fit : (j : ℕ) (given : List Passing) (params : List ParsedParam) (prices : List ℕ) → costs given params ≡ Some prices → Each (PassScoped (scope_table file [] scope k)) given → Each PassRight given
      → are_pure (passed_args j given params) ≡ true → are_pure_params params ≡ true → FitsArgs p (known_of scope) (passed_args j given params)
  args_fit j [] params prices e h r pure varying = tt
  args_fit j (a ∷ given) [] prices e h r pure varying = tt
  args_fit j (Scalar q x ∷ given) (param ∷ params) prices e h r pure varying =
      let parts = one_more_some (cost (Scalar q x) param) (costs given params) prices e in
      let type = declared_type param.spec.value_type in
      let pures = and_true (is_pure (as_type type x)) (are_pure (passed_args (suc j) given params)) pure in
      let rates = and_true (param.is_array || is_varying (declared_rate param.spec.rate)) (are_pure_params params) varying in (
        varying_is (declared_rate param.spec.rate) (or_true param.is_array (is_varying (declared_rate param.spec.rate)) (scalar_cost x param param.spec.value_type parts.0 parts.2) rates.0),
        expr_fits p file [] file_is scope k (as_type type x) (as_type-scoped (scope_table file [] scope k) type x h.0) pures.0,
        args_fit (suc j) given params parts.1 parts.3 h.1 r.1 pures.1 rates.1,
      )
  args_fit j (View q n from ∷ given) (param ∷ params) prices e h r pure varying =
      let parts = one_more_some (cost (View q n from) param) (costs given params) prices e in
      let pures = and_true (is_pure_option from) (are_pure (passed_args (suc j) given params)) pure in
      let rates = and_true (param.is_array || is_varying (declared_rate param.spec.rate)) (are_pure_params params) varying in
      (array_known p file [] file_is scope k n.variable.id h.0.0, from_fits q n from h.0 r.0 pures.0, args_fit (suc j) given params parts.1 parts.3 h.1 r.1 pures.1 rates.1)
  args_fit j (Reference q n ∷ given) (param ∷ params) prices e h r pure varying =
      let parts = one_more_some (cost (Reference q n) param) (costs given params) prices e in absurd (true≢false (sym (ap is_some parts.2)))

  -- all parameters that are no arrays are set
  pub all_set : (j : ℕ) (given : List Passing) (params : List ParsedParam) (prices : List ℕ) → costs given params ≡ Some prices → (before : Scope) (n : ℕ) → known_of (param_entries j params before) n ≡ true
      → (known_of before n ≡ true) ⊎ (set_by (passed_args j given params) n ≡ true)
  all_set j [] [] prices e before n h = inl h
  all_set j [] (param ∷ params) prices e before n h = absurd (true≢false (sym (ap is_some e)))
  all_set j (a ∷ given) [] prices e before n h = absurd (true≢false (sym (ap is_some e)))
  all_set j (Scalar q x ∷ given) (param ∷ params) prices e before n h =
      let parts = one_more_some (cost (Scalar q x) param) (costs given params) prices e in
      let scalar = scalar_cost x param param.spec.value_type parts.0 parts.2 in
      one_scalar (all_set (suc j) given params parts.1 parts.3 (declared param.name (Local j) param.spec param.is_array true ∷ before) n h) scalar
    where
      one_scalar : ((if param.is_array then known_of before else and_one (Local j) (known_of before)) n ≡ true) ⊎ (set_by (passed_args (suc j) given params) n ≡ true) → param.is_array ≡ false
          → (known_of before n ≡ true) ⊎ (((n == j) || set_by (passed_args (suc j) given params) n) ≡ true)
      one_scalar (inl old) scalar =
          let old' : ((n == j) || known_of before n) ≡ true = sym (ap (λ b. (if b then known_of before else and_one (Local j) (known_of before)) n) scalar) ∙ old in
          by_bool (n == j) (λ here. inr (ap (λ b. b || set_by (passed_args (suc j) given params) n) here)) (λ away. inl (or_true (n == j) (known_of before n) away old'))
      one_scalar (inr set) scalar = by_bool (n == j) (λ here. inr (ap (λ b. b || set_by (passed_args (suc j) given params) n) here)) (λ away. inr (ap (λ b. b || set_by (passed_args (suc j) given params) n) away ∙ set))
  all_set j (View q v from ∷ given) (param ∷ params) prices e before n h =
      let parts = one_more_some (cost (View q v from) param) (costs given params) prices e in
      let fits = (and_true (param.is_array && same_elements v param) _ (some_if _ 0 parts.0 parts.2)).0 in
      one_array (all_set (suc j) given params parts.1 parts.3 (declared param.name (Local j) param.spec param.is_array true ∷ before) n h) (and_true param.is_array (same_elements v param) fits).0
    where
      one_array : ((if param.is_array then known_of before else and_one (Local j) (known_of before)) n ≡ true) ⊎ (set_by (passed_args (suc j) given params) n ≡ true) → param.is_array ≡ true
          → (known_of before n ≡ true) ⊎ (set_by (passed_args (suc j) given params) n ≡ true)
      one_array (inl old) is = inl (sym (ap (λ b. (if b then known_of before else and_one (Local j) (known_of before)) n) is) ∙ old)
      one_array (inr set) is = inr set
  all_set j (Reference q v ∷ given) (param ∷ params) prices e before n h =
      let parts = one_more_some (cost (Reference q v) param) (costs given params) prices e in absurd (true≢false (sym (ap is_some parts.2)))
