-- A sound expression reads variables that are in scope alone.
use Rattle.std.proofs.Common.{◌≡◌, ℕ, suc, ◌++◌, Bool, true≢false, true, false, List, [], ◌∷◌, length}
use Rattle.std.specs.Prelude.{not, ◌||◌, codes, Option, Some, None, if◌then◌else◌}
use Rattle.gang_types.specs.declared.types.IntType.{IntType}
use Rattle.gang_types.specs.declared.types.IntType.TheVariants as t
use Rattle.gang_types.specs.declared.types.Rate.{Rate}
use Rattle.gang_types.specs.declared.types.Rate.TheVariants.{Uniform, Varying}
use Rattle.gang_types.specs.declared.places.Place.{Place}
use Rattle.gang_types.specs.declared.operators.BinaryOp.{BinaryOp}
use Rattle.gang_types.specs.declared.operators.BinaryOp.TheVariants as op
use Rattle.gang_types.specs.declared.operators.UnaryOp.{UnaryOp}
use Rattle.gang_types.specs.declared.operators.UnaryOp.TheVariants.{Negate, Plus, Not, Complement}
use Rattle.gang_types.specs.Values.{is_bool}
use Rattle.gang_model.specs.declared.forms.Infix.{Infix}
use Rattle.gang_model.specs.declared.forms.Infix.TheVariants.{Op, AndAlso, OrElse}
use Rattle.gang_model.specs.declared.refusals.RefusalNumber.TheVariants.{S7, S8}
use Rattle.gang_model.specs.Types.Tree.{Expr, Convert, ProgramIndex, ProgramCount, OfOne, PopCount, PopCountLanes}
use Rattle.gang_model.specs.Source.Names.{same_text}
use Rattle.gang_model.specs.Source.Parsed.{Name, ParsedExpr, ParsedNumber, ParsedBool, ParsedName, ParsedIndex, ParsedCall, ParsedParen, ParsedUnary, ParsedCast, ParsedBinary, ParsedChoice, ParsedArgs, ParsedEnd, ParsedValue, ParsedPart, ParsedPartFrom, ParsedParam}
use Rattle.gang_model.specs.Source.Judged.{Judged, Sound, Faulty, unless, both, ◌>>=◌, fault_if, refused}
use Rattle.gang_model.proofs.JudgedLaws.{OnSound, on_any, on_then, on_both, on_unless, on_pair, on_if, on_fault_if, or_false}
use Rattle.gang_model.proofs.StandingLaws.{Each}
use Rattle.gang_model.specs.Types.Signatures.{declared_type}
use Rattle.gang_model.specs.Types.Conversions.{Typed, typed, joined, promoted, is_varying, may_become, same_type, as_type, operation_type, right_operand, infixed, prefixed, chosen_by}
use Rattle.gang_model.specs.Types.LibraryTable.{LibraryCall, GivesLanes, ReducesTruths, ReducesNumbers, ComparesLanes, Scans, CountsOnes, TakesMagnitude, ComparesTwo, Broadcasts, Extracts, Inserts, Rotates, Shifts, Shuffles, ShufflesTwo, Clamps, Selects, asked_by, library_call, library_value, truths_reduced, number_type}
use Rattle.gang_model.specs.Types.Typing.{Entry, Scope, entry_of, named_entry, array_of, names_no_value, has_no_value, first_of, element_faults, Passing, Scalar, View, Reference, built_in, built_in_entry, or_built_in, referred, passed, view_index, viewed, all_values, one_value, call_value, called_value, rate_faults, second_parts, typed_or_refused, built_in_value, name_value, element, cast_rate, cast_faults, cast_to, expression, arguments, given_value}
use Rattle.gang_model.specs.Types.Overloads.{passed_args}
use Rattle.gang_model.specs.Types.Statements.{Aimed, target_index, assigned, scalar_target, target_of, operand_for, test_of}
use Rattle.machine_states.specs.Declared.{IsThere, NamesDeclared, OptionDeclared, ArgsDeclared, TargetDeclared}
use Rattle.runnable_programs.proofs.ThereNames.{EntryThere, ScopeThere}

module _ (there : List ℕ) where
  abbrev pub TypedThere : Typed → Type 0
  TypedThere e = NamesDeclared there e.expr

  converted_if : (b : Bool) (e : Expr) (from to : IntType) → NamesDeclared there e → NamesDeclared there (if b then e else Convert from to e)
  converted_if true e from to u = u
  converted_if false e from to u = u

  pub as_type-there : (type : IntType) (e : Typed) → TypedThere e → NamesDeclared there (as_type type e)
  as_type-there type e u = converted_if (same_type e.type type) e.expr e.type type u

  pub right_operand-there : (operation : BinaryOp) (type : IntType) (e : Typed) → TypedThere e → NamesDeclared there (right_operand operation type e)
  right_operand-there op.Shl type e u = u
  right_operand-there op.Shr type e u = u
  right_operand-there operation type e u = as_type-there type e u

  infixed-there : (between : Infix) (a b : Typed) → TypedThere a → TypedThere b → TypedThere (infixed between a b)
  infixed-there (Op operation) a b u v =
      let type = operation_type operation a.type b.type in (as_type-there type a u, right_operand-there operation type b v)
  infixed-there AndAlso a b u v = (as_type-there t.Bool a u, as_type-there t.Bool b v)
  infixed-there OrElse a b u v = (as_type-there t.Bool a u, as_type-there t.Bool b v)

  prefixed-there : (op : UnaryOp) (a : Typed) → TypedThere a → TypedThere (prefixed op a)
  prefixed-there Not a u = as_type-there t.Bool a u
  prefixed-there Negate a u = as_type-there (promoted a.type) a u
  prefixed-there Plus a u = as_type-there (promoted a.type) a u
  prefixed-there Complement a u = as_type-there (promoted a.type) a u

  chosen_by-there : (c a b : Typed) → TypedThere c → TypedThere a → TypedThere b → TypedThere (chosen_by c a b)
  chosen_by-there c a b u v w =
      let type = joined a.type b.type in (as_type-there t.Bool c u, as_type-there type a v, as_type-there type b w)

  -- ---- names

  -- an entry that is found, if there is one, is there
  abbrev FoundThere : Option Entry → Type 0
  FoundThere None = Unit {0}
  FoundThere (Some n) = EntryThere there n

  entry_or : (b : Bool) (n : Entry) (rest : Option Entry) → EntryThere there n → FoundThere rest → FoundThere (if b then Some n else rest)
  entry_or true n rest p q = p
  entry_or false n rest p q = q

  found_there : (scope : Scope) (name : Name) → ScopeThere there scope → FoundThere (entry_of scope name)
  found_there [] name p = tt
  found_there (n ∷ scope) name p = entry_or (same_text n.variable.name name) n (entry_of scope name) p.0 (found_there scope name p.1)

  built_in-there : (p : Place) (b c : Bool) → OnSound (built_in_value p (if b then Some (ProgramIndex, Varying) else (if c then Some (ProgramCount, Uniform) else None))) TypedThere
  built_in-there p true c = tt
  built_in-there p false true = tt
  built_in-there p false false = tt

  name-there : (p : Place) (name : Name) (n : Option Entry) → FoundThere n → OnSound (name_value p name n) TypedThere
  name-there p name (Some n) h = on_fault_if (has_no_value n) S8 p _ TypedThere (λ e. h (or_false n.variable.is_array n.is_void e).0)
  name-there p name None h = built_in-there p (same_text name (codes "programIndex")) (same_text name (codes "programCount"))

  element-there : (p : Place) (e : ParsedExpr) (i : Typed) (n : Option Entry) → TypedThere i → OnSound (unless (element_faults p e i n) (element i n)) TypedThere
  element-there p e i None u = tt
  element-there p e i (Some n) u = on_unless (fault_if (not n.variable.is_array || n.is_void) S8 p ++ fault_if (is_bool i.type) S8 (first_of e)) _ TypedThere u

  cast-there : (p : Place) (rate : Option Rate) (type : Option IntType) (e : Typed) → TypedThere e → OnSound (cast_to p rate type e) TypedThere
  cast-there p rate type e u = on_unless (cast_faults p type e.rate (cast_rate rate e.rate)) _ TypedThere (as_type-there (declared_type type) e u)

  -- ---- library calls

  counted : (b : Bool) (e : Typed) → TypedThere e → TypedThere (if b then truths_reduced PopCountLanes e else typed (OfOne PopCount e.type e.expr) t.Int32 e.rate)
  counted true e u = as_type-there t.Bool e u
  counted false e u = u

  library-there : (p : Place) (call : LibraryCall) (values : List Typed) → Each TypedThere values → OnSound (typed_or_refused p (library_value call values)) TypedThere
  library-there p GivesLanes [] u = tt
  library-there p (ReducesTruths g) (a ∷ []) u = as_type-there t.Bool a u.0
  library-there p (ReducesNumbers g) (a ∷ []) u = as_type-there (promoted a.type) a u.0
  library-there p ComparesLanes (a ∷ []) u = u.0
  library-there p (Scans g) (a ∷ []) u = as_type-there (promoted a.type) a u.0
  library-there p CountsOnes (a ∷ []) u = counted (is_bool a.type) a u.0
  library-there p TakesMagnitude (a ∷ []) u = as_type-there (promoted a.type) a u.0
  library-there p (ComparesTwo g) (a ∷ b ∷ []) u = (as_type-there (number_type a b) a u.0, as_type-there (number_type a b) b u.1.0)
  library-there p Broadcasts (a ∷ i ∷ []) u = (u.0, as_type-there t.Int32 i u.1.0)
  library-there p Extracts (a ∷ i ∷ []) u = (u.0, as_type-there t.Int32 i u.1.0)
  library-there p Inserts (a ∷ i ∷ x ∷ []) u = (u.0, as_type-there t.Int32 i u.1.0, as_type-there a.type x u.1.1.0)
  library-there p Rotates (a ∷ i ∷ []) u = (u.0, as_type-there t.Int32 i u.1.0)
  library-there p Shifts (a ∷ i ∷ []) u = (u.0, as_type-there t.Int32 i u.1.0)
  library-there p Shuffles (a ∷ i ∷ []) u = (u.0, as_type-there t.Int32 i u.1.0)
  library-there p ShufflesTwo (a ∷ b ∷ i ∷ []) u =
      let type = promoted (joined a.type b.type) in (as_type-there type a u.0, as_type-there type b u.1.0, as_type-there t.Int32 i u.1.1.0)
  library-there p Clamps (a ∷ low ∷ high ∷ []) u =
      let type = joined (number_type a low) (promoted high.type) in ((as_type-there type a u.0, as_type-there type low u.1.0), as_type-there type high u.1.1.0)
  library-there p Selects (c ∷ a ∷ b ∷ []) u =
      let type = joined a.type b.type in (as_type-there t.Bool c u.0, as_type-there type a u.1.0, as_type-there type b u.1.1.0)
  library-there p call values u = tt

  call-there : (p : Place) (call : Option LibraryCall) (values : List (Place × Typed)) → Each TypedThere (second_parts values) → OnSound (call_value p call values) TypedThere
  call-there p None values u = tt
  call-there p (Some call) values u =
      on_then (unless (rate_faults (asked_by call) values) values) _ (λ _. Unit {0}) TypedThere (on_any (unless (rate_faults (asked_by call) values) values))
      (λ _ _. library-there p call (second_parts values) u)

  -- ---- arguments

  -- what an argument passes
  abbrev pub PassThere : Passing → Type 0
  PassThere (Scalar p e) = TypedThere e
  PassThere (View p n from) = OptionDeclared there from
  PassThere (Reference p n) = n.variable.is_constant ≡ false → EntryThere there n

  -- what a call passes
  pub args-there : (k : ℕ) (given : List Passing) (params : List ParsedParam) → Each PassThere given → ArgsDeclared there (passed_args k given params)
  args-there k [] params h = tt
  args-there k (a ∷ given) [] h = tt
  args-there k (Scalar p e ∷ given) (param ∷ params) h = (as_type-there (declared_type param.spec.value_type) e h.0, args-there (suc k) given params h.1)
  args-there k (View p n from ∷ given) (param ∷ params) h = (h.0, args-there (suc k) given params h.1)
  args-there k (Reference p n ∷ given) (param ∷ params) h = args-there (suc k) given params h.1

  abbrev ValuesThere : Option (List (Place × Typed)) → Type 0
  ValuesThere None = Unit {0}
  ValuesThere (Some values) = Each TypedThere (second_parts values)

  one_value-there : (v : Place × Typed) (values : Option (List (Place × Typed))) → TypedThere v.1 → ValuesThere values → ValuesThere (one_value v values)
  one_value-there v None u h = tt
  one_value-there v (Some values) u h = (u, h)

  values-there : (given : List Passing) → Each PassThere given → ValuesThere (all_values given)
  values-there [] h = tt
  values-there (Scalar p e ∷ given) h = one_value-there (p, e) (all_values given) h.0 (values-there given h.1)
  values-there (View p n from ∷ given) h = tt
  values-there (Reference p n ∷ given) h = tt

  called-there : (p : Place) (name : Name) (values : Option (List (Place × Typed))) → ValuesThere values → OnSound (called_value p name values) TypedThere
  called-there p name None h = tt
  called-there p name (Some values) h = call-there p (library_call name (length values)) values h

  passed-there : (e : ParsedExpr) (n : Option Entry) (value : Judged Typed) → OnSound value TypedThere → OnSound (passed e n value) PassThere
  passed-there e (Some n) value h = tt
  passed-there e None (Sound x) h = h
  passed-there e None (Faulty first others) h = tt

  -- what `&x` may name: a constant, or what is there
  abbrev ReferredThere : Option Entry → Type 0
  ReferredThere None = Unit {0}
  ReferredThere (Some n) = n.variable.is_constant ≡ false → EntryThere there n

  built_in_entry-there : (name : Name) (b : Option (Expr × Rate)) → ReferredThere (built_in_entry name b)
  built_in_entry-there name None = tt
  built_in_entry-there name (Some b) = λ e. absurd (true≢false e)

  or_built_in-there : (name : Name) (n : Option Entry) → FoundThere n → ReferredThere (or_built_in name n)
  or_built_in-there name None h = built_in_entry-there name (built_in name)
  or_built_in-there name (Some n) h = λ _. h

  referred-there : (p : Place) (n : Option Entry) → ReferredThere n → OnSound (referred p n) PassThere
  referred-there p None h = tt
  referred-there p (Some n) h = h

  -- ---- expressions

  mutual
    -- a sound expression reads variables that are in scope alone
    pub expression-there : (e : ParsedExpr) (scope : Scope) → ScopeThere there scope → OnSound (expression e scope) TypedThere
    expression-there (ParsedNumber p n is_unsigned is_long) scope h = tt
    expression-there (ParsedBool p b) scope h = tt
    expression-there (ParsedName p name) scope h = name-there p name (entry_of scope name) (found_there scope name h)
    expression-there (ParsedIndex p name e) scope h =
        on_then (expression e scope) _ TypedThere TypedThere (expression-there e scope h) (λ i u. element-there p e i (entry_of scope name) u)
    expression-there (ParsedCall p name args) scope h =
        on_then (arguments args scope) _ (Each PassThere) TypedThere (arguments-there args scope h) (λ given k. called-there p name (all_values given) (values-there given k))
    expression-there (ParsedParen p e) scope h =
        on_if (names_no_value (named_entry e scope)) (refused S8 p) (expression e scope) TypedThere tt (expression-there e scope h)
    expression-there (ParsedUnary p op e) scope h = on_then (expression e scope) _ TypedThere TypedThere (expression-there e scope h) (λ a u. prefixed-there op a u)
    expression-there (ParsedCast p rate type e) scope h =
        on_then (expression e scope) _ TypedThere TypedThere (expression-there e scope h) (λ a u. cast-there p rate type a u)
    expression-there (ParsedBinary between left right) scope h =
        on_pair (expression left scope) (expression right scope) _ TypedThere TypedThere TypedThere (expression-there left scope h) (expression-there right scope h)
        (λ a b u v. infixed-there between a b u v)
    expression-there (ParsedChoice test first second) scope h =
        on_pair (expression test scope) (both (expression first scope) (expression second scope)) _ TypedThere (λ arms. TypedThere arms.0 × TypedThere arms.1) TypedThere
        (expression-there test scope h)
        (on_both (expression first scope) (expression second scope) TypedThere TypedThere (expression-there first scope h) (expression-there second scope h))
        (λ c arms u k. chosen_by-there c arms.0 arms.1 u k.0 k.1)

    pub arguments-there : (args : ParsedArgs) (scope : Scope) → ScopeThere there scope → OnSound (arguments args scope) (Each PassThere)
    arguments-there ParsedEnd scope h = tt
    arguments-there (ParsedValue e args) scope h =
        let value = passed e (array_of (named_entry e scope)) (expression e scope) in
        on_pair value (arguments args scope) _ PassThere (Each PassThere) (Each PassThere)
        (passed-there e (array_of (named_entry e scope)) (expression e scope) (expression-there e scope h)) (arguments-there args scope h) (λ a given k rest. (k, rest))
    arguments-there (ParsedPart p name args) scope h =
        let reference = or_built_in name (entry_of scope name) in
        on_pair (referred p reference) (arguments args scope) _ PassThere (Each PassThere) (Each PassThere)
        (referred-there p reference (or_built_in-there name (entry_of scope name) (found_there scope name h))) (arguments-there args scope h) (λ a given k rest. (k, rest))
    arguments-there (ParsedPartFrom p name e args) scope h =
        let index = expression e scope >>= view_index e in
        on_pair (both (viewed p (entry_of scope name)) index) (arguments args scope) _ (λ v. Unit {0} × TypedThere v.1) (Each PassThere) (Each PassThere)
        (on_both (viewed p (entry_of scope name)) index (λ n. Unit {0}) TypedThere (on_any (viewed p (entry_of scope name)))
        (on_then (expression e scope) (view_index e) TypedThere TypedThere (expression-there e scope h)
        (λ i u. on_unless (fault_if (is_varying i.rate) S7 (first_of e) ++ fault_if (is_bool i.type) S8 (first_of e)) i TypedThere u)))
        (arguments-there args scope h) (λ v given k rest. (k.1, rest))

  pub given_value-there : (e : ParsedExpr) (scope : Scope) (type : IntType) (rate : Rate) → ScopeThere there scope → OnSound (given_value e scope type rate) (NamesDeclared there)
  given_value-there e scope type rate h =
      on_then (expression e scope) _ TypedThere (NamesDeclared there) (expression-there e scope h)
      (λ x u. on_unless (fault_if (not (may_become x.rate rate)) S7 (first_of e)) (as_type type x) (NamesDeclared there) (as_type-there type x u))

  -- a right operand of `op=`
  pub operand-there : (rate : Rate) (e : ParsedExpr) (scope : Scope) → ScopeThere there scope → OnSound (operand_for rate e scope) TypedThere
  operand-there rate e scope h =
      on_then (expression e scope) _ TypedThere TypedThere (expression-there e scope h)
      (λ x u. on_unless (fault_if (not (may_become x.rate rate)) S7 (first_of e)) x TypedThere u)

  pub test-there : (scope : Scope) (e : Option ParsedExpr) → ScopeThere there scope → OnSound (test_of scope e) (NamesDeclared there)
  test-there scope None h = tt
  test-there scope (Some e) h = on_then (expression e scope) _ TypedThere (NamesDeclared there) (expression-there e scope h) (λ x u. as_type-there t.Bool x u)

  -- ---- targets

  abbrev VariableThere : Entry → Type 0
  VariableThere n = IsThere there n.variable.id

  assigned-there : (p : Place) (n : Option Entry) → FoundThere n → OnSound (assigned p false n) VariableThere
  assigned-there p None h = tt
  assigned-there p (Some n) h =
      on_fault_if (n.variable.is_constant || has_no_value n) S8 p n VariableThere
      (λ e. h (or_false n.variable.is_array n.is_void (or_false n.variable.is_constant (has_no_value n) e).1).0)

  pub scalar_target-there : (scope : Scope) (p : Place) (name : Name) → ScopeThere there scope → OnSound (scalar_target scope p name) (λ v. IsThere there v.id)
  scalar_target-there scope p name h =
      on_then (assigned p false (entry_of scope name)) _ VariableThere (λ v. IsThere there v.id) (assigned-there p (entry_of scope name) (found_there scope name h)) (λ n k. k)

  -- an index of a target, and the selector of a `switch`
  pub target_index-there : (scope : Scope) (e : ParsedExpr) → ScopeThere there scope → OnSound (target_index scope e) TypedThere
  target_index-there scope e h =
      on_then (expression e scope) _ TypedThere TypedThere (expression-there e scope h) (λ i u. on_unless (fault_if (is_bool i.type) S8 (first_of e)) i TypedThere u)

  abbrev pub AimThere : Aimed → Type 0
  AimThere a = TargetDeclared there a.target

  pub target-there : (scope : Scope) (p : Place) (name : Name) (e : Option ParsedExpr) → ScopeThere there scope → OnSound (target_of scope p name e) AimThere
  target-there scope p name None h =
      on_then (scalar_target scope p name) _ (λ v. IsThere there v.id) AimThere (scalar_target-there scope p name h) (λ v k. k)
  target-there scope p name (Some e) h =
      on_pair (assigned p true (entry_of scope name)) (target_index scope e) _ (λ n. Unit {0}) TypedThere AimThere
      (on_any (assigned p true (entry_of scope name))) (target_index-there scope e h) (λ n i _ u. u)
