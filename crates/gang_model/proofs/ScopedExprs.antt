-- A sound expression names only variables that are in scope.
use Rattle.std.proofs.Common.{◌++◌, true≢false, Bool, true, false, List, [], ◌∷◌, ◌≡◌, refl, length}
use Rattle.std.specs.Prelude.{not, ◌||◌, codes, Option, Some, None, if◌then◌else◌}
use Rattle.gang_types.specs.declared.types.IntType.{IntType}
use Rattle.gang_types.specs.declared.types.IntType.TheVariants as t
use Rattle.gang_types.specs.declared.types.Rate.{Rate}
use Rattle.gang_types.specs.declared.types.Rate.TheVariants.{Uniform, Varying}
use Rattle.gang_types.specs.declared.places.Place.{Place}
use Rattle.gang_types.specs.declared.operators.BinaryOp.{BinaryOp}
use Rattle.gang_types.specs.declared.operators.BinaryOp.TheVariants as op
use Rattle.gang_types.specs.declared.operators.UnaryOp.{UnaryOp}
use Rattle.gang_types.specs.declared.operators.UnaryOp.TheVariants.{Negate, Plus, Not, Complement}
use Rattle.gang_types.specs.Values.{is_bool}
use Rattle.gang_model.specs.declared.forms.Infix.{Infix}
use Rattle.gang_model.specs.declared.forms.Infix.TheVariants.{Op, AndAlso, OrElse}
use Rattle.gang_model.specs.declared.refusals.RefusalNumber.TheVariants.{S7, S8}
use Rattle.gang_model.specs.Types.Tree.{Expr, Convert, ProgramIndex, ProgramCount, OfOne, PopCount, PopCountLanes}
use Rattle.gang_model.specs.Types.WellScoped.{Table, variable_at, IsScalar, IsArray, ExprScoped, SomeScoped}
use Rattle.gang_model.specs.Source.Names.{same_text}
use Rattle.gang_model.specs.Source.Parsed.{Name, ParsedExpr, ParsedNumber, ParsedBool, ParsedName, ParsedIndex, ParsedCall, ParsedParen, ParsedUnary, ParsedCast, ParsedBinary, ParsedChoice, ParsedArgs, ParsedEnd, ParsedValue, ParsedPart, ParsedPartFrom}
use Rattle.gang_model.specs.Source.Judged.{Judged, Sound, Faulty, unless, both, ◌>>=◌, fault_if, refused}
use Rattle.gang_model.proofs.JudgedLaws.{OnSound, on_any, on_then, on_both, on_unless, on_pair, on_if, on_first, on_fault_if, or_false, not_false}
use Rattle.gang_model.proofs.StandingLaws.{Each}
use Rattle.gang_model.specs.Types.Signatures.{declared_type}
use Rattle.gang_model.specs.Types.Conversions.{Typed, typed, joined, promoted, is_varying, may_become, same_type, as_type, operation_type, right_operand, infixed, prefixed, chosen_by}
use Rattle.gang_model.specs.Types.LibraryTable.{LibraryCall, GivesLanes, ReducesTruths, ReducesNumbers, ComparesLanes, Scans, CountsOnes, TakesMagnitude, ComparesTwo, Broadcasts, Extracts, Inserts, Rotates, Shifts, Shuffles, ShufflesTwo, Clamps, Selects, asked_by, library_call, library_value, truths_reduced, number_type}
use Rattle.gang_model.specs.Types.Typing.{Entry, Scope, entry_of, named_entry, array_of, names_no_value, has_no_value, first_of, element_faults, Passing, Scalar, View, Reference, or_built_in, built_in, built_in_entry, referred, passed, view_index, viewed, all_values, one_value, call_value, called_value, rate_faults, second_parts, typed_or_refused, built_in_value, name_value, element, cast_rate, cast_faults, cast_to, var_of, expression, arguments, given_value}

module _ (table : Table) where
  -- a declared name is one of the table's variables
  abbrev pub EntryScoped : Entry → Type 0
  EntryScoped n = variable_at table n.variable.id ≡ Some n.variable

  abbrev pub TypedScoped : Typed → Type 0
  TypedScoped e = ExprScoped table e.expr

  converted_if : (b : Bool) (e : Expr) (from to : IntType) → ExprScoped table e → ExprScoped table (if b then e else Convert from to e)
  converted_if true e from to u = u
  converted_if false e from to u = u

  pub as_type-scoped : (type : IntType) (e : Typed) → TypedScoped e → ExprScoped table (as_type type e)
  as_type-scoped type e u = converted_if (same_type e.type type) e.expr e.type type u

  pub right_operand-scoped : (operation : BinaryOp) (type : IntType) (e : Typed) → TypedScoped e → ExprScoped table (right_operand operation type e)
  right_operand-scoped op.Shl type e u = u
  right_operand-scoped op.Shr type e u = u
  right_operand-scoped operation type e u = as_type-scoped type e u

  infixed-scoped : (between : Infix) (a b : Typed) → TypedScoped a → TypedScoped b → TypedScoped (infixed between a b)
  infixed-scoped (Op operation) a b u v =
      let type = operation_type operation a.type b.type in (as_type-scoped type a u, right_operand-scoped operation type b v)
  infixed-scoped AndAlso a b u v = (as_type-scoped t.Bool a u, as_type-scoped t.Bool b v)
  infixed-scoped OrElse a b u v = (as_type-scoped t.Bool a u, as_type-scoped t.Bool b v)

  prefixed-scoped : (op : UnaryOp) (a : Typed) → TypedScoped a → TypedScoped (prefixed op a)
  prefixed-scoped Not a u = as_type-scoped t.Bool a u
  prefixed-scoped Negate a u = as_type-scoped (promoted a.type) a u
  prefixed-scoped Plus a u = as_type-scoped (promoted a.type) a u
  prefixed-scoped Complement a u = as_type-scoped (promoted a.type) a u

  chosen_by-scoped : (c a b : Typed) → TypedScoped c → TypedScoped a → TypedScoped b → TypedScoped (chosen_by c a b)
  chosen_by-scoped c a b u v w =
      let type = joined a.type b.type in (as_type-scoped t.Bool c u, as_type-scoped type a v, as_type-scoped type b w)

  -- ---- names

  -- an entry that is found is one of the table's variables
  abbrev pub FoundScoped : Option Entry → Type 0
  FoundScoped None = Unit {0}
  FoundScoped (Some n) = EntryScoped n

  entry_or : (b : Bool) (n : Entry) (rest : Option Entry) → EntryScoped n → FoundScoped rest → FoundScoped (if b then Some n else rest)
  entry_or true n rest p q = p
  entry_or false n rest p q = q

  pub entry_of-scoped : (scope : Scope) (name : Name) → Each EntryScoped scope → FoundScoped (entry_of scope name)
  entry_of-scoped [] name p = tt
  entry_of-scoped (n ∷ scope) name p = entry_or (same_text n.variable.name name) n (entry_of scope name) p.0 (entry_of-scoped scope name p.1)

  pub scalar_in : (n : Entry) → EntryScoped n → has_no_value n ≡ false → IsScalar table (var_of n.variable)
  scalar_in n p e = (n.variable, p, (or_false n.variable.is_array n.is_void e).0, refl)

  pub array_in : (n : Entry) → EntryScoped n → n.variable.is_array ≡ true → IsArray table n.variable.id
  array_in n p e = (n.variable, p, e, refl)

  built_in-scoped : (p : Place) (b c : Bool) → OnSound (built_in_value p (if b then Some (ProgramIndex, Varying) else (if c then Some (ProgramCount, Uniform) else None))) TypedScoped
  built_in-scoped p true c = tt
  built_in-scoped p false true = tt
  built_in-scoped p false false = tt

  name-scoped : (p : Place) (name : Name) (n : Option Entry) → FoundScoped n → OnSound (name_value p name n) TypedScoped
  name-scoped p name (Some n) h = on_fault_if (has_no_value n) S8 p _ TypedScoped (λ e. scalar_in n h e)
  name-scoped p name None h = built_in-scoped p (same_text name (codes "programIndex")) (same_text name (codes "programCount"))

  element-scoped : (p : Place) (e : ParsedExpr) (i : Typed) (n : Option Entry) → TypedScoped i → FoundScoped n → OnSound (unless (element_faults p e i n) (element i n)) TypedScoped
  element-scoped p e i None u h = tt
  element-scoped p e i (Some n) u h =
      on_first (not n.variable.is_array || n.is_void) S8 p (fault_if (is_bool i.type) S8 (first_of e)) _ TypedScoped
      (λ f. (array_in n h (not_false n.variable.is_array (or_false (not n.variable.is_array) n.is_void f).0), u))

  cast-scoped : (p : Place) (rate : Option Rate) (type : Option IntType) (e : Typed) → TypedScoped e → OnSound (cast_to p rate type e) TypedScoped
  cast-scoped p rate type e u = on_unless (cast_faults p type e.rate (cast_rate rate e.rate)) _ TypedScoped (as_type-scoped (declared_type type) e u)

  -- ---- library calls

  counted : (b : Bool) (e : Typed) → TypedScoped e → TypedScoped (if b then truths_reduced PopCountLanes e else typed (OfOne PopCount e.type e.expr) t.Int32 e.rate)
  counted true e u = as_type-scoped t.Bool e u
  counted false e u = u

  library-scoped : (p : Place) (call : LibraryCall) (values : List Typed) → Each TypedScoped values → OnSound (typed_or_refused p (library_value call values)) TypedScoped
  library-scoped p GivesLanes [] u = tt
  library-scoped p (ReducesTruths g) (a ∷ []) u = as_type-scoped t.Bool a u.0
  library-scoped p (ReducesNumbers g) (a ∷ []) u = as_type-scoped (promoted a.type) a u.0
  library-scoped p ComparesLanes (a ∷ []) u = u.0
  library-scoped p (Scans g) (a ∷ []) u = as_type-scoped (promoted a.type) a u.0
  library-scoped p CountsOnes (a ∷ []) u = counted (is_bool a.type) a u.0
  library-scoped p TakesMagnitude (a ∷ []) u = as_type-scoped (promoted a.type) a u.0
  library-scoped p (ComparesTwo g) (a ∷ b ∷ []) u = (as_type-scoped (number_type a b) a u.0, as_type-scoped (number_type a b) b u.1.0)
  library-scoped p Broadcasts (a ∷ i ∷ []) u = (u.0, as_type-scoped t.Int32 i u.1.0)
  library-scoped p Extracts (a ∷ i ∷ []) u = (u.0, as_type-scoped t.Int32 i u.1.0)
  library-scoped p Inserts (a ∷ i ∷ x ∷ []) u = (u.0, as_type-scoped t.Int32 i u.1.0, as_type-scoped a.type x u.1.1.0)
  library-scoped p Rotates (a ∷ i ∷ []) u = (u.0, as_type-scoped t.Int32 i u.1.0)
  library-scoped p Shifts (a ∷ i ∷ []) u = (u.0, as_type-scoped t.Int32 i u.1.0)
  library-scoped p Shuffles (a ∷ i ∷ []) u = (u.0, as_type-scoped t.Int32 i u.1.0)
  library-scoped p ShufflesTwo (a ∷ b ∷ i ∷ []) u =
      let type = promoted (joined a.type b.type) in (as_type-scoped type a u.0, as_type-scoped type b u.1.0, as_type-scoped t.Int32 i u.1.1.0)
  library-scoped p Clamps (a ∷ low ∷ high ∷ []) u =
      let type = joined (number_type a low) (promoted high.type) in ((as_type-scoped type a u.0, as_type-scoped type low u.1.0), as_type-scoped type high u.1.1.0)
  library-scoped p Selects (c ∷ a ∷ b ∷ []) u =
      let type = joined a.type b.type in (as_type-scoped t.Bool c u.0, as_type-scoped type a u.1.0, as_type-scoped type b u.1.1.0)
  library-scoped p call values u = tt

  call-scoped : (p : Place) (call : Option LibraryCall) (values : List (Place × Typed)) → Each TypedScoped (second_parts values) → OnSound (call_value p call values) TypedScoped
  call-scoped p None values u = tt
  call-scoped p (Some call) values u =
      on_then (unless (rate_faults (asked_by call) values) values) _ (λ _. Unit {0}) TypedScoped (on_any (unless (rate_faults (asked_by call) values) values))
      (λ _ _. library-scoped p call (second_parts values) u)

  -- ---- arguments

  -- what an argument passes
  abbrev pub PassScoped : Passing → Type 0
  PassScoped (Scalar p e) = TypedScoped e
  PassScoped (View p n from) = IsArray table n.variable.id × SomeScoped table from
  PassScoped (Reference p n) = n.variable.is_constant ≡ false → EntryScoped n

  abbrev ValuesScoped : Option (List (Place × Typed)) → Type 0
  ValuesScoped None = Unit {0}
  ValuesScoped (Some values) = Each TypedScoped (second_parts values)

  one_value-scoped : (v : Place × Typed) (values : Option (List (Place × Typed))) → TypedScoped v.1 → ValuesScoped values → ValuesScoped (one_value v values)
  one_value-scoped v None u h = tt
  one_value-scoped v (Some values) u h = (u, h)

  values-scoped : (given : List Passing) → Each PassScoped given → ValuesScoped (all_values given)
  values-scoped [] h = tt
  values-scoped (Scalar p e ∷ given) h = one_value-scoped (p, e) (all_values given) h.0 (values-scoped given h.1)
  values-scoped (View p n from ∷ given) h = tt
  values-scoped (Reference p n ∷ given) h = tt

  called-scoped : (p : Place) (name : Name) (values : Option (List (Place × Typed))) → ValuesScoped values → OnSound (called_value p name values) TypedScoped
  called-scoped p name None h = tt
  called-scoped p name (Some values) h = call-scoped p (library_call name (length values)) values h

  -- an array that an argument names
  abbrev ArrayFound : Option Entry → Type 0
  ArrayFound None = Unit {0}
  ArrayFound (Some n) = IsArray table n.variable.id

  array_if : (b : Bool) (n : Entry) → n.variable.is_array ≡ b → EntryScoped n → ArrayFound (if b then Some n else None)
  array_if true n e h = array_in n h e
  array_if false n e h = tt

  array_of-scoped : (n : Option Entry) → FoundScoped n → ArrayFound (array_of n)
  array_of-scoped None h = tt
  array_of-scoped (Some n) h = array_if n.variable.is_array n refl h

  named_entry-scoped : (e : ParsedExpr) (scope : Scope) → Each EntryScoped scope → FoundScoped (named_entry e scope)
  named_entry-scoped (ParsedName p name) scope h = entry_of-scoped scope name h
  named_entry-scoped (ParsedParen p e) scope h = named_entry-scoped e scope h
  named_entry-scoped e scope h = tt

  passed-scoped : (e : ParsedExpr) (n : Option Entry) (value : Judged Typed) → ArrayFound n → OnSound value TypedScoped → OnSound (passed e n value) PassScoped
  passed-scoped e (Some n) value a h = (a, tt)
  passed-scoped e None (Sound x) a h = h
  passed-scoped e None (Faulty first others) a h = tt

  -- what `&x` refers to, which is one of the table's variables unless it is constant
  abbrev ReferredScoped : Option Entry → Type 0
  ReferredScoped None = Unit {0}
  ReferredScoped (Some n) = n.variable.is_constant ≡ false → EntryScoped n

  built_in_entry-scoped : (name : Name) (b : Option (Expr × Rate)) → ReferredScoped (built_in_entry name b)
  built_in_entry-scoped name None = tt
  built_in_entry-scoped name (Some b) = λ e. absurd (true≢false e)

  or_built_in-scoped : (name : Name) (n : Option Entry) → FoundScoped n → ReferredScoped (or_built_in name n)
  or_built_in-scoped name None h = built_in_entry-scoped name (built_in name)
  or_built_in-scoped name (Some n) h = λ _. h

  referred-scoped : (p : Place) (n : Option Entry) → ReferredScoped n → OnSound (referred p n) PassScoped
  referred-scoped p None h = tt
  referred-scoped p (Some n) h = h

  viewed-scoped : (p : Place) (n : Option Entry) → FoundScoped n → OnSound (viewed p n) (λ m. IsArray table m.variable.id)
  viewed-scoped p None h = tt
  viewed-scoped p (Some n) h = on_fault_if (not n.variable.is_array) S8 p n (λ m. IsArray table m.variable.id) (λ e. array_in n h (not_false n.variable.is_array e))

  -- ---- expressions

  mutual
    -- a sound expression names only variables that are in scope
    pub expression-scoped : (e : ParsedExpr) (scope : Scope) → Each EntryScoped scope → OnSound (expression e scope) TypedScoped
    expression-scoped (ParsedNumber p n is_unsigned is_long) scope h = tt
    expression-scoped (ParsedBool p b) scope h = tt
    expression-scoped (ParsedName p name) scope h = name-scoped p name (entry_of scope name) (entry_of-scoped scope name h)
    expression-scoped (ParsedIndex p name e) scope h =
        on_then (expression e scope) _ TypedScoped TypedScoped (expression-scoped e scope h)
        (λ i u. element-scoped p e i (entry_of scope name) u (entry_of-scoped scope name h))
    expression-scoped (ParsedCall p name args) scope h =
        on_then (arguments args scope) _ (Each PassScoped) TypedScoped (arguments-scoped args scope h) (λ given k. called-scoped p name (all_values given) (values-scoped given k))
    expression-scoped (ParsedParen p e) scope h =
        on_if (names_no_value (named_entry e scope)) (refused S8 p) (expression e scope) TypedScoped tt (expression-scoped e scope h)
    expression-scoped (ParsedUnary p op e) scope h = on_then (expression e scope) _ TypedScoped TypedScoped (expression-scoped e scope h) (λ a u. prefixed-scoped op a u)
    expression-scoped (ParsedCast p rate type e) scope h =
        on_then (expression e scope) _ TypedScoped TypedScoped (expression-scoped e scope h) (λ a u. cast-scoped p rate type a u)
    expression-scoped (ParsedBinary between left right) scope h =
        on_pair (expression left scope) (expression right scope) _ TypedScoped TypedScoped TypedScoped (expression-scoped left scope h) (expression-scoped right scope h)
        (λ a b u v. infixed-scoped between a b u v)
    expression-scoped (ParsedChoice test first second) scope h =
        on_pair (expression test scope) (both (expression first scope) (expression second scope)) _ TypedScoped (λ arms. TypedScoped arms.0 × TypedScoped arms.1) TypedScoped
        (expression-scoped test scope h)
        (on_both (expression first scope) (expression second scope) TypedScoped TypedScoped (expression-scoped first scope h) (expression-scoped second scope h))
        (λ c arms u k. chosen_by-scoped c arms.0 arms.1 u k.0 k.1)

    pub arguments-scoped : (args : ParsedArgs) (scope : Scope) → Each EntryScoped scope → OnSound (arguments args scope) (Each PassScoped)
    arguments-scoped ParsedEnd scope h = tt
    arguments-scoped (ParsedValue e args) scope h =
        on_pair (passed e (array_of (named_entry e scope)) (expression e scope)) (arguments args scope) _ PassScoped (Each PassScoped) (Each PassScoped)
        (passed-scoped e (array_of (named_entry e scope)) (expression e scope) (array_of-scoped (named_entry e scope) (named_entry-scoped e scope h)) (expression-scoped e scope h))
        (arguments-scoped args scope h) (λ a given k rest. (k, rest))
    arguments-scoped (ParsedPart p name args) scope h =
        on_pair (referred p (or_built_in name (entry_of scope name))) (arguments args scope) _ PassScoped (Each PassScoped) (Each PassScoped)
        (referred-scoped p (or_built_in name (entry_of scope name)) (or_built_in-scoped name (entry_of scope name) (entry_of-scoped scope name h)))
        (arguments-scoped args scope h) (λ a given k rest. (k, rest))
    arguments-scoped (ParsedPartFrom p name e args) scope h =
        let index = expression e scope >>= view_index e in
        on_pair (both (viewed p (entry_of scope name)) index) (arguments args scope) _ (λ v. IsArray table v.0.variable.id × TypedScoped v.1) (Each PassScoped) (Each PassScoped)
        (on_both (viewed p (entry_of scope name)) index (λ n. IsArray table n.variable.id) TypedScoped (viewed-scoped p (entry_of scope name) (entry_of-scoped scope name h))
        (on_then (expression e scope) (view_index e) TypedScoped TypedScoped (expression-scoped e scope h)
        (λ i u. on_unless (fault_if (is_varying i.rate) S7 (first_of e) ++ fault_if (is_bool i.type) S8 (first_of e)) i TypedScoped u)))
        (arguments-scoped args scope h) (λ v given k rest. (k, rest))

  pub given_value-scoped : (e : ParsedExpr) (scope : Scope) (type : IntType) (rate : Rate) → Each EntryScoped scope → OnSound (given_value e scope type rate) (ExprScoped table)
  given_value-scoped e scope type rate h =
      on_then (expression e scope) _ TypedScoped (ExprScoped table) (expression-scoped e scope h)
      (λ x u. on_unless (fault_if (not (may_become x.rate rate)) S7 (first_of e)) (as_type type x) (ExprScoped table) (as_type-scoped type x u))
