-- What follows for the rates of typing: an expression that is typed as uniform is uniform in the typed tree.
use Rattle.std.proofs.Common.{◌++◌, true≢false, Bool, true, false, List, [], ◌∷◌, ◌≡◌, refl, sym, ◌∙◌, ap}
use Rattle.std.specs.Prelude.{not, is_none, codes, length, Option, Some, None, if◌then◌else◌}
use Rattle.gang_types.specs.declared.types.IntType.{IntType}
use Rattle.gang_types.specs.declared.types.IntType.TheVariants as t
use Rattle.gang_types.specs.declared.types.Rate.{Rate}
use Rattle.gang_types.specs.declared.types.Rate.TheVariants.{Uniform, Varying}
use Rattle.gang_types.specs.declared.places.Place.{Place}
use Rattle.gang_types.specs.declared.operators.BinaryOp.{BinaryOp}
use Rattle.gang_types.specs.declared.operators.BinaryOp.TheVariants as op
use Rattle.gang_types.specs.declared.operators.UnaryOp.{UnaryOp}
use Rattle.gang_types.specs.declared.operators.UnaryOp.TheVariants.{Negate, Plus, Not, Complement}
use Rattle.gang_model.specs.declared.forms.Infix.{Infix}
use Rattle.gang_model.specs.declared.forms.Infix.TheVariants.{Op, AndAlso, OrElse}
use Rattle.gang_model.specs.Types.Tree.{Expr, Convert, ProgramIndex, ProgramCount, OfOne, PopCount, PopCountLanes}
use Rattle.gang_model.specs.Running.UniformExprs.{IsUniform}
use Rattle.gang_types.specs.Values.{is_bool}
use Rattle.gang_model.specs.declared.refusals.RefusalNumber.{RefusalNumber}
use Rattle.gang_model.specs.declared.refusals.RefusalNumber.TheVariants.{S7, S8}
use Rattle.gang_model.specs.declared.refusals.SourceRefusal.{SourceRefusal}
use Rattle.gang_model.specs.Source.Names.{same_text}
use Rattle.gang_model.specs.Source.Parsed.{Name, ParsedExpr, ParsedNumber, ParsedBool, ParsedName, ParsedIndex, ParsedCall, ParsedParen, ParsedUnary, ParsedCast, ParsedBinary, ParsedChoice, ParsedArgs, ParsedEnd, ParsedValue, ParsedPart, ParsedPartFrom}
use Rattle.gang_model.specs.Source.Judged.{Judged, Sound, Faulty, unless, both, ◌>>=◌, fault_if, refused}
use Rattle.gang_model.proofs.JudgedLaws.{OnSound, on_then, on_both, on_unless, on_pair, on_if, on_first, on_allowed}
use Rattle.gang_model.proofs.StandingLaws.{Each}
use Rattle.gang_model.specs.Types.Signatures.{declared_type}
use Rattle.gang_model.specs.Types.LibraryTable.{LibraryCall, GivesLanes, ReducesTruths, ReducesNumbers, ComparesLanes, Scans, CountsOnes, TakesMagnitude, ComparesTwo, Broadcasts, Extracts, Inserts, Rotates, Shifts, Shuffles, ShufflesTwo, Clamps, Selects, asked_by, library_call, library_value, truths_reduced, number_type}
use Rattle.gang_model.specs.Types.Typing.{Entry, Scope, entry_of, named_entry, array_of, names_no_value, first_of, element_faults, Passing, Scalar, View, Reference, or_built_in, referred, passed, view_index, viewed, all_values, one_value, call_value, called_value, expression, arguments, given_value, has_no_value, built_in_value, name_value, element, cast_rate, cast_to, rate_faults, second_parts, typed_or_refused}
use Rattle.gang_model.specs.Types.Conversions.{joined, Typed, typed, same_type, is_varying, joined_rate, may_become, as_type, operation_type, right_operand, infixed, prefixed, chosen_by, promoted}

-- an expression that is typed as uniform is uniform
abbrev pub RateRight : Typed → Type 0
RateRight e = e.rate ≡ Uniform → IsUniform e.expr

-- a uniform joined rate joins uniform rates
joined_left : (a b : Rate) → joined_rate a b ≡ Uniform → a ≡ Uniform
joined_left Uniform b e = refl
joined_left Varying b e = e

joined_right : (a b : Rate) → joined_rate a b ≡ Uniform → b ≡ Uniform
joined_right Uniform b e = e
joined_right Varying b e = absurd (true≢false (ap is_varying e))

converted_if : (b : Bool) (e : Expr) (from to : IntType) → IsUniform e → IsUniform (if b then e else Convert from to e)
converted_if true e from to u = u
converted_if false e from to u = u

-- a converted expression is uniform if the expression is
as_type-uniform : (type : IntType) (e : Typed) → IsUniform e.expr → IsUniform (as_type type e)
as_type-uniform type e u = converted_if (same_type e.type type) e.expr e.type type u

right_operand-uniform : (operation : BinaryOp) (type : IntType) (e : Typed) → IsUniform e.expr → IsUniform (right_operand operation type e)
right_operand-uniform op.Shl type e u = u
right_operand-uniform op.Shr type e u = u
right_operand-uniform op.Add type e u = as_type-uniform type e u
right_operand-uniform op.Sub type e u = as_type-uniform type e u
right_operand-uniform op.Mul type e u = as_type-uniform type e u
right_operand-uniform op.Div type e u = as_type-uniform type e u
right_operand-uniform op.Rem type e u = as_type-uniform type e u
right_operand-uniform op.And type e u = as_type-uniform type e u
right_operand-uniform op.Or type e u = as_type-uniform type e u
right_operand-uniform op.Xor type e u = as_type-uniform type e u
right_operand-uniform op.Less type e u = as_type-uniform type e u
right_operand-uniform op.LessEqual type e u = as_type-uniform type e u
right_operand-uniform op.Greater type e u = as_type-uniform type e u
right_operand-uniform op.GreaterEqual type e u = as_type-uniform type e u
right_operand-uniform op.Equal type e u = as_type-uniform type e u
right_operand-uniform op.NotEqual type e u = as_type-uniform type e u

infixed-uniform : (between : Infix) (a b : Typed) → RateRight a → RateRight b → RateRight (infixed between a b)
infixed-uniform (Op operation) a b u v e =
    let type = operation_type operation a.type b.type in
    (as_type-uniform type a (u (joined_left a.rate b.rate e)), right_operand-uniform operation type b (v (joined_right a.rate b.rate e)))
infixed-uniform AndAlso a b u v e = (as_type-uniform t.Bool a (u (joined_left a.rate b.rate e)), as_type-uniform t.Bool b (v (joined_right a.rate b.rate e)))
infixed-uniform OrElse a b u v e = (as_type-uniform t.Bool a (u (joined_left a.rate b.rate e)), as_type-uniform t.Bool b (v (joined_right a.rate b.rate e)))

prefixed-uniform : (op : UnaryOp) (a : Typed) → RateRight a → RateRight (prefixed op a)
prefixed-uniform Not a u e = as_type-uniform t.Bool a (u e)
prefixed-uniform Negate a u e = as_type-uniform (promoted a.type) a (u e)
prefixed-uniform Plus a u e = as_type-uniform (promoted a.type) a (u e)
prefixed-uniform Complement a u e = as_type-uniform (promoted a.type) a (u e)

-- of three rates joined
joined_parts : (a b c : Rate) → joined_rate a (joined_rate b c) ≡ Uniform → (a ≡ Uniform) × (b ≡ Uniform) × (c ≡ Uniform)
joined_parts a b c e =
    let later = joined_right a (joined_rate b c) e in
    (joined_left a (joined_rate b c) e, joined_left b c later, joined_right b c later)

chosen_by-uniform : (c a b : Typed) → RateRight c → RateRight a → RateRight b → RateRight (chosen_by c a b)
chosen_by-uniform c a b u v w e =
    let parts = joined_parts c.rate a.rate b.rate e in
    let type = joined a.type b.type in
    (as_type-uniform t.Bool c (u parts.0), as_type-uniform type a (v parts.1), as_type-uniform type b (w parts.2))

-- ---- names, casts and elements

becomes : (from to : Rate) → may_become from to ≡ true → to ≡ Uniform → from ≡ Uniform
becomes Uniform to allowed e = refl
becomes Varying to allowed e = absurd (true≢false (sym allowed ∙ ap is_varying e))

cast-uniform : (p : Place) (rate : Option Rate) (type : Option IntType) (e : Typed) → RateRight e → OnSound (cast_to p rate type e) RateRight
cast-uniform p rate type e u =
    on_allowed (fault_if (is_none type) S8 p) (may_become e.rate (cast_rate rate e.rate)) S7 p _ RateRight
    (λ allowed same. as_type-uniform (declared_type type) e (u (becomes e.rate (cast_rate rate e.rate) allowed same)))

built_in-uniform : (p : Place) (b c : Bool) → OnSound (built_in_value p (if b then Some (ProgramIndex, Varying) else (if c then Some (ProgramCount, Uniform) else None))) RateRight
built_in-uniform p true c = λ e. absurd (true≢false (ap is_varying e))
built_in-uniform p false true = λ e. tt
built_in-uniform p false false = tt

name-uniform : (p : Place) (name : Name) (n : Option Entry) → OnSound (name_value p name n) RateRight
name-uniform p name (Some n) = on_unless (fault_if (has_no_value n) S8 p) _ RateRight (λ e. e)
name-uniform p name None = built_in-uniform p (same_text name (codes "programIndex")) (same_text name (codes "programCount"))

element-uniform : (i : Typed) (n : Option Entry) → RateRight i → RateRight (element i n)
element-uniform i None u = u
element-uniform i (Some n) u = u

-- ---- library calls

-- each value has a rate that is asked for
abbrev RatesFit : List Rate → List Typed → Type 0
RatesFit [] values = Unit {0}
RatesFit (asked ∷ asks) [] = Unit {0}
RatesFit (asked ∷ asks) (e ∷ values) = (may_become e.rate asked ≡ true) × RatesFit asks values

no_fault : (b : Bool) (number : RefusalNumber) (p : Place) (more : List SourceRefusal) → fault_if (not b) number p ++ more ≡ [] → (b ≡ true) × (more ≡ [])
no_fault true number p more e = (refl, e)
no_fault false number p more e = absurd (true≢false (sym (ap is_empty e)))
  where
    is_empty : List SourceRefusal → Bool
    is_empty [] = true
    is_empty (x ∷ xs) = false

rates_fit : (asks : List Rate) (values : List (Place × Typed)) → rate_faults asks values ≡ [] → RatesFit asks (second_parts values)
rates_fit [] values e = tt
rates_fit (asked ∷ asks) [] e = tt
rates_fit (asked ∷ asks) (v ∷ values) e =
    let parts = no_fault (may_become v.1.rate asked) S7 v.0 (rate_faults asks values) e in
    (parts.0, rates_fit asks values parts.1)

not_varying : {A : Type 0} → Varying ≡ Uniform → A
not_varying e = absurd (true≢false (ap is_varying e))

counted : (b : Bool) (e : Typed) → RateRight e → RateRight (if b then truths_reduced PopCountLanes e else typed (OfOne PopCount e.type e.expr) t.Int32 e.rate)
counted true e u = λ same. tt
counted false e u = u

library-uniform : (p : Place) (call : LibraryCall) (values : List Typed) → Each RateRight values → RatesFit (asked_by call) values
    → OnSound (typed_or_refused p (library_value call values)) RateRight
library-uniform p GivesLanes [] u f = λ e. tt
library-uniform p (ReducesTruths g) (a ∷ []) u f = λ e. tt
library-uniform p (ReducesNumbers g) (a ∷ []) u f = λ e. tt
library-uniform p ComparesLanes (a ∷ []) u f = λ e. tt
library-uniform p (Scans g) (a ∷ []) u f = not_varying
library-uniform p CountsOnes (a ∷ []) u f = counted (is_bool a.type) a u.0
library-uniform p TakesMagnitude (a ∷ []) u f = λ e. as_type-uniform (promoted a.type) a (u.0 e)
library-uniform p (ComparesTwo g) (a ∷ b ∷ []) u f = λ e.
    (as_type-uniform (number_type a b) a (u.0 (joined_left a.rate b.rate e)), as_type-uniform (number_type a b) b (u.1.0 (joined_right a.rate b.rate e)))
library-uniform p Broadcasts (a ∷ i ∷ []) u f = not_varying
library-uniform p Extracts (a ∷ i ∷ []) u f = λ e. as_type-uniform t.Int32 i (u.1.0 (becomes i.rate Uniform f.1.0 refl))
library-uniform p Inserts (a ∷ i ∷ x ∷ []) u f = not_varying
library-uniform p Rotates (a ∷ i ∷ []) u f = not_varying
library-uniform p Shifts (a ∷ i ∷ []) u f = not_varying
library-uniform p Shuffles (a ∷ i ∷ []) u f = not_varying
library-uniform p ShufflesTwo (a ∷ b ∷ i ∷ []) u f = not_varying
library-uniform p Clamps (a ∷ low ∷ high ∷ []) u f = λ e.
    let parts = joined_parts a.rate low.rate high.rate e in
    let type = joined (number_type a low) (promoted high.type) in
    ((as_type-uniform type a (u.0 parts.0), as_type-uniform type low (u.1.0 parts.1)), as_type-uniform type high (u.1.1.0 parts.2))
library-uniform p Selects (c ∷ a ∷ b ∷ []) u f = λ e.
    let parts = joined_parts c.rate a.rate b.rate e in
    let type = joined a.type b.type in
    (as_type-uniform t.Bool c (u.0 parts.0), as_type-uniform type a (u.1.0 parts.1), as_type-uniform type b (u.1.1.0 parts.2))
library-uniform p call values u f = tt

call-uniform : (p : Place) (call : Option LibraryCall) (values : List (Place × Typed)) → Each RateRight (second_parts values) → OnSound (call_value p call values) RateRight
call-uniform p None values u = tt
call-uniform p (Some call) values u =
    let faults = rate_faults (asked_by call) values in
    on_then (unless faults values) _ (λ _. faults ≡ []) RateRight (no_fault_there faults values)
    (λ _ none. library-uniform p call (second_parts values) u (rates_fit (asked_by call) values none))
  where
    no_fault_there : (faults : List SourceRefusal) (values : List (Place × Typed)) → OnSound (unless faults values) (λ _. faults ≡ [])
    no_fault_there [] values = refl
    no_fault_there (f ∷ faults) values = tt

-- ---- arguments

-- a value that is passed as uniform, and the index of a part of an array, are uniform
abbrev pub PassRight : Passing → Type 0
PassRight (Scalar p e) = RateRight e
PassRight (View p n None) = Unit {0}
PassRight (View p n (Some i)) = IsUniform i
PassRight (Reference p n) = Unit {0}

abbrev ValuesRight : Option (List (Place × Typed)) → Type 0
ValuesRight None = Unit {0}
ValuesRight (Some values) = Each RateRight (second_parts values)

one_value-right : (v : Place × Typed) (values : Option (List (Place × Typed))) → RateRight v.1 → ValuesRight values → ValuesRight (one_value v values)
one_value-right v None u h = tt
one_value-right v (Some values) u h = (u, h)

values-right : (given : List Passing) → Each PassRight given → ValuesRight (all_values given)
values-right [] h = tt
values-right (Scalar p e ∷ given) h = one_value-right (p, e) (all_values given) h.0 (values-right given h.1)
values-right (View p n from ∷ given) h = tt
values-right (Reference p n ∷ given) h = tt

called-uniform : (p : Place) (name : Name) (values : Option (List (Place × Typed))) → ValuesRight values → OnSound (called_value p name values) RateRight
called-uniform p name None h = tt
called-uniform p name (Some values) h = call-uniform p (library_call name (length values)) values h

passed-right : (e : ParsedExpr) (n : Option Entry) (value : Judged Typed) → OnSound value RateRight → OnSound (passed e n value) PassRight
passed-right e (Some n) value h = tt
passed-right e None (Sound x) h = h
passed-right e None (Faulty first others) h = tt

uniform_of : (rate : Rate) → is_varying rate ≡ false → rate ≡ Uniform
uniform_of Uniform e = refl
uniform_of Varying e = absurd (true≢false e)

view_index-uniform : (index : ParsedExpr) (i : Typed) → RateRight i → OnSound (view_index index i) (λ x. IsUniform x.expr)
view_index-uniform index i u =
    on_first (is_varying i.rate) S7 (first_of index) (fault_if (is_bool i.type) S8 (first_of index)) i (λ x. IsUniform x.expr) (λ e. u (uniform_of i.rate e))

referred-right : (p : Place) (n : Option Entry) → OnSound (referred p n) PassRight
referred-right p None = tt
referred-right p (Some n) = tt

view-right : (n : Judged Entry) (i : Judged Typed) → OnSound i (λ x. IsUniform x.expr) → OnSound (both n i) (λ v. IsUniform v.1.expr)
view-right (Sound n) (Sound i) h = h
view-right (Sound n) (Faulty first others) h = tt
view-right (Faulty first others) (Sound i) h = tt
view-right (Faulty first others) (Faulty second more) h = tt

-- ---- expressions

mutual
  -- an expression that is typed as uniform is uniform in the typed tree
  pub expression-uniform : (e : ParsedExpr) (scope : Scope) → OnSound (expression e scope) RateRight
  expression-uniform (ParsedNumber p n is_unsigned is_long) scope = λ _. tt
  expression-uniform (ParsedBool p b) scope = λ _. tt
  expression-uniform (ParsedName p name) scope = name-uniform p name (entry_of scope name)
  expression-uniform (ParsedIndex p name e) scope =
      on_then (expression e scope) _ RateRight RateRight (expression-uniform e scope)
      (λ i u. on_unless (element_faults p e i (entry_of scope name)) (element i (entry_of scope name)) RateRight (element-uniform i (entry_of scope name) u))
  expression-uniform (ParsedCall p name args) scope =
      on_then (arguments args scope) _ (Each PassRight) RateRight (arguments-uniform args scope) (λ given h. called-uniform p name (all_values given) (values-right given h))
  expression-uniform (ParsedParen p e) scope =
      on_if (names_no_value (named_entry e scope)) (refused S8 p) (expression e scope) RateRight tt (expression-uniform e scope)
  expression-uniform (ParsedUnary p op e) scope = on_then (expression e scope) _ RateRight RateRight (expression-uniform e scope) (λ a u. prefixed-uniform op a u)
  expression-uniform (ParsedCast p rate type e) scope = on_then (expression e scope) _ RateRight RateRight (expression-uniform e scope) (λ a u. cast-uniform p rate type a u)
  expression-uniform (ParsedBinary between left right) scope =
      on_pair (expression left scope) (expression right scope) _ RateRight RateRight RateRight (expression-uniform left scope) (expression-uniform right scope)
      (λ a b u v. infixed-uniform between a b u v)
  expression-uniform (ParsedChoice test first second) scope =
      on_pair (expression test scope) (both (expression first scope) (expression second scope)) _ RateRight (λ arms. RateRight arms.0 × RateRight arms.1) RateRight
      (expression-uniform test scope)
      (on_both (expression first scope) (expression second scope) RateRight RateRight (expression-uniform first scope) (expression-uniform second scope))
      (λ c arms u h. chosen_by-uniform c arms.0 arms.1 u h.0 h.1)

  pub arguments-uniform : (args : ParsedArgs) (scope : Scope) → OnSound (arguments args scope) (Each PassRight)
  arguments-uniform ParsedEnd scope = tt
  arguments-uniform (ParsedValue e args) scope =
      let value = passed e (array_of (named_entry e scope)) (expression e scope) in
      on_pair value (arguments args scope) _ PassRight (Each PassRight) (Each PassRight)
      (passed-right e (array_of (named_entry e scope)) (expression e scope) (expression-uniform e scope)) (arguments-uniform args scope) (λ a given h rest. (h, rest))
  arguments-uniform (ParsedPart p name args) scope =
      on_pair (referred p (or_built_in name (entry_of scope name))) (arguments args scope) _ PassRight (Each PassRight) (Each PassRight)
      (referred-right p (or_built_in name (entry_of scope name))) (arguments-uniform args scope) (λ a given h rest. (h, rest))
  arguments-uniform (ParsedPartFrom p name e args) scope =
      let view = both (viewed p (entry_of scope name)) (expression e scope >>= view_index e) in
      on_pair view (arguments args scope) _ (λ v. IsUniform v.1.expr) (Each PassRight) (Each PassRight)
      (view-right (viewed p (entry_of scope name)) (expression e scope >>= view_index e)
      (on_then (expression e scope) (view_index e) RateRight (λ x. IsUniform x.expr) (expression-uniform e scope) (view_index-uniform e)))
      (arguments-uniform args scope) (λ v given h rest. (h, rest))

-- a value that is given to something uniform is uniform
pub given_value-uniform : (e : ParsedExpr) (scope : Scope) (type : IntType) → OnSound (given_value e scope type Uniform) IsUniform
given_value-uniform e scope type =
    on_then (expression e scope) _ RateRight IsUniform (expression-uniform e scope)
    (λ x u. on_allowed [] (may_become x.rate Uniform) S7 (first_of e) (as_type type x) IsUniform (λ allowed. as_type-uniform type x (u (becomes x.rate Uniform allowed refl))))
