-- The types and rates of expressions and their faults S7 to S9, each expression judged by itself: it is sound, with its
-- expression in the typed tree, or has faults (ISPC User's Guide, "Expressions" and "Uniform and varying qualifiers"; the
-- places of faults are a choice of this project). `check` decides `expression` and `arguments`.
use Rattle.std.specs.Prelude.{ℕ, Bool, true, false, not, ◌||◌, List, [], ◌∷◌, ◌++◌, length, Option, Some, None, is_none, codes, if◌then◌else◌}
use Rattle.gang_types.specs.declared.types.IntType.{IntType}
use Rattle.gang_types.specs.declared.types.IntType.TheVariants as t
use Rattle.gang_types.specs.declared.types.Rate.{Rate}
use Rattle.gang_types.specs.declared.types.Rate.TheVariants.{Uniform, Varying}
use Rattle.gang_types.specs.declared.places.Place.{Place}
use Rattle.gang_types.specs.declared.places.VarId.{VarId}
use Rattle.gang_types.specs.declared.places.VarId.TheVariants.{Local}
use Rattle.gang_types.specs.Values.{is_bool}
use Rattle.gang_model.specs.declared.forms.Spec.{Spec}
use Rattle.gang_model.specs.declared.refusals.RefusalNumber.TheVariants.{S5, S7, S8, S9}
use Rattle.gang_model.specs.declared.refusals.SourceRefusal.{SourceRefusal}
use Rattle.gang_model.specs.Types.Tree.{Var, Expr, Number, ProgramIndex, ProgramCount, Read, Element, Variable}
use Rattle.gang_model.specs.Source.Names.{same_text}
use Rattle.gang_model.specs.Source.Parsed.{Name, ParsedExpr, ParsedNumber, ParsedBool, ParsedName, ParsedIndex, ParsedCall, ParsedParen, ParsedUnary, ParsedCast, ParsedBinary, ParsedChoice, ParsedArgs, ParsedEnd, ParsedValue, ParsedPart, ParsedPartFrom}
use Rattle.gang_model.specs.Source.Judged.{Judged, Sound, Faulty, unless, both, ◌>>=◌, fault_if, refused}
use Rattle.gang_model.specs.Types.Conversions.{Typed, typed, is_varying, may_become, as_type, literal_type, infixed, prefixed, chosen_by}
use Rattle.gang_model.specs.Types.Signatures.{declared_type, declared_rate}
use Rattle.gang_model.specs.Types.LibraryTable.{LibraryCall, asked_by, library_call, library_value}

-- ---- names

-- a declared name: its variable, of a type that nothing reads if it is declared `void`
pub record Entry : Type 0 where
  pub variable : Variable
  pub is_void : Bool

-- what is in scope, the innermost declaration first
abbrev pub Scope : Type 0
Scope = List Entry

-- the innermost declaration of a name
abbrev pub entry_of : Scope → Name → Option Entry
entry_of [] name = None
entry_of (e ∷ scope) name = if same_text e.variable.name name then Some e else entry_of scope name

-- the entry of a name that is declared with a spec
abbrev pub declared : Name → VarId → Spec → (is_array is_parameter : Bool) → Entry
declared name id spec is_array is_parameter = record {
  variable = record { name = name; id = id; type = declared_type spec.value_type; rate = declared_rate spec.rate; is_array = is_array; is_parameter = is_parameter; is_constant = spec.is_constant };
  is_void = is_none spec.value_type;
}

-- an index variable, which is constant
abbrev pub index_entry : Name → VarId → IntType → Rate → Entry
index_entry name id type rate = record {
  variable = record { name = name; id = id; type = type; rate = rate; is_array = false; is_parameter = false; is_constant = true };
  is_void = false;
}

-- `programIndex` and `programCount`, which nothing assigns
abbrev pub built_in : Name → Option (Expr × Rate)
built_in name = if same_text name (codes "programIndex") then Some (ProgramIndex, Varying)
    else (if same_text name (codes "programCount") then Some (ProgramCount, Uniform) else None)

-- a scalar variable as it stands in expressions
abbrev pub var_of : Variable → Var
var_of v = record { id = v.id; type = v.type; rate = v.rate }

-- ---- parts of expressions

-- an expression's first token
abbrev pub first_of : ParsedExpr → Place
first_of (ParsedNumber p n is_unsigned is_long) = p
first_of (ParsedBool p b) = p
first_of (ParsedName p name) = p
first_of (ParsedIndex p name e) = p
first_of (ParsedCall p name args) = p
first_of (ParsedParen p e) = p
first_of (ParsedUnary p op e) = p
first_of (ParsedCast p rate type e) = p
first_of (ParsedBinary op a b) = first_of a
first_of (ParsedChoice c a b) = first_of c

-- an expression's first token, parentheses left out
abbrev pub name_of : ParsedExpr → Place
name_of (ParsedParen p e) = name_of e
name_of e = first_of e

-- an array, or a `void` variable: it has no value by itself
abbrev pub has_no_value : Entry → Bool
has_no_value n = n.variable.is_array || n.is_void

-- the entry that an expression names, parentheses left out
abbrev pub named_entry : ParsedExpr → Scope → Option Entry
named_entry (ParsedName p name) scope = entry_of scope name
named_entry (ParsedParen p e) scope = named_entry e scope
named_entry e scope = None

-- the array that an expression names
abbrev pub array_of : Option Entry → Option Entry
array_of None = None
array_of (Some n) = if n.variable.is_array then Some n else None

-- whether an array or a `void` variable is named
abbrev pub names_no_value : Option Entry → Bool
names_no_value None = false
names_no_value (Some n) = has_no_value n

-- the value of a built-in name, else S5
abbrev pub built_in_value : Place → Option (Expr × Rate) → Judged Typed
built_in_value p None = refused S5 p
built_in_value p (Some b) = Sound (typed b.0 t.Int32 b.1)

-- the value of a name: S8 at the name of an array or of a `void` variable
abbrev pub name_value : Place → Name → Option Entry → Judged Typed
name_value p name None = built_in_value p (built_in name)
name_value p name (Some n) = unless (fault_if (has_no_value n) S8 p) (typed (Read (var_of n.variable)) n.variable.type n.variable.rate)

-- S8 at what is indexed and is no array, or has elements of no value; S8 at an index that is bool
abbrev pub element_faults : Place → (index : ParsedExpr) → Typed → Option Entry → List SourceRefusal
element_faults p index i None = fault_if true S8 p
element_faults p index i (Some n) = fault_if (not n.variable.is_array || n.is_void) S8 p ++ fault_if (is_bool i.type) S8 (first_of index)

-- an element of an array
abbrev pub element : Typed → Option Entry → Typed
element i None = i
element i (Some n) = typed (Element n.variable.id i.expr) n.variable.type i.rate

-- the rate of a cast expression: the cast's, else the operand's
abbrev pub cast_rate : Option Rate → Rate → Rate
cast_rate None rate = rate
cast_rate (Some asked) rate = asked

-- S8 at the `(` of a cast to `void`, S7 there at one of a varying operand to uniform
abbrev pub cast_faults : Place → Option IntType → (from to : Rate) → List SourceRefusal
cast_faults p type from to = fault_if (is_none type) S8 p ++ fault_if (not (may_become from to)) S7 p

-- a cast
abbrev pub cast_to : Place → Option Rate → Option IntType → Typed → Judged Typed
cast_to p rate type e =
    unless (cast_faults p type e.rate (cast_rate rate e.rate)) (typed (as_type (declared_type type) e) (declared_type type) (cast_rate rate e.rate))

-- ---- arguments

-- an argument: a value, with its first token; an array from an index on, at its name; `&x`, at its name
pub data Passing : Type 0 where
  Scalar : Place → Typed → Passing
  View : Place → Entry → (from : Option Expr) → Passing
  Reference : Place → Entry → Passing

-- `&x` of a built-in name refers to something constant
abbrev pub built_in_entry : Name → Option (Expr × Rate) → Option Entry
built_in_entry name None = None
built_in_entry name (Some b) = Some (index_entry name (Local 0) t.Int32 b.1)

-- what a name declares, else what is built in
abbrev pub or_built_in : Name → Option Entry → Option Entry
or_built_in name None = built_in_entry name (built_in name)
or_built_in name (Some n) = Some n

-- `&x` as an argument, S5 if there is no x
abbrev pub referred : Place → Option Entry → Judged Passing
referred p None = refused S5 p
referred p (Some n) = Sound (Reference p n)

-- an array's name is passed as the array, anything else as a value
abbrev pub passed : ParsedExpr → Option Entry → Judged Typed → Judged Passing
passed e (Some n) value = Sound (View (name_of e) n None)
passed e None (Sound x) = Sound (Scalar (first_of e) x)
passed e None (Faulty first others) = Faulty first others

-- S7 at an index of `&a[e]` that is varying, S8 at one that is bool
abbrev pub view_index : (index : ParsedExpr) → Typed → Judged Typed
view_index index i = unless (fault_if (is_varying i.rate) S7 (first_of index) ++ fault_if (is_bool i.type) S8 (first_of index)) i

-- S8 at the name in `&x[e]` that is no array
abbrev pub viewed : Place → Option Entry → Judged Entry
viewed p None = refused S8 p
viewed p (Some n) = unless (fault_if (not n.variable.is_array) S8 p) n

-- an array from an index on as an argument, at its name
abbrev pub view_from : Place → Entry × Typed → Passing
view_from p view = View p view.0 (Some view.1.expr)

-- ---- library calls

-- one more value before others
abbrev pub one_value : Place × Typed → Option (List (Place × Typed)) → Option (List (Place × Typed))
one_value v None = None
one_value v (Some values) = Some (v ∷ values)

-- the values of arguments that are all values, with their first tokens
abbrev pub all_values : List Passing → Option (List (Place × Typed))
all_values [] = Some []
all_values (Scalar p e ∷ given) = one_value (p, e) (all_values given)
all_values (View p n from ∷ given) = None
all_values (Reference p n ∷ given) = None

-- S7 at an argument that is varying where a uniform one is asked
abbrev pub rate_faults : List Rate → List (Place × Typed) → List SourceRefusal
rate_faults [] values = []
rate_faults (asked ∷ asks) [] = []
rate_faults (asked ∷ asks) (v ∷ values) = fault_if (not (may_become v.1.rate asked)) S7 v.0 ++ rate_faults asks values

-- the values without their places
abbrev pub second_parts : List (Place × Typed) → List Typed
second_parts [] = []
second_parts (v ∷ values) = v.1 ∷ second_parts values

-- a value, or S9 at a call that has none
abbrev pub typed_or_refused : Place → Option Typed → Judged Typed
typed_or_refused p None = refused S9 p
typed_or_refused p (Some e) = Sound e

-- the value of a library call with these values as arguments
abbrev pub call_value : Place → Option LibraryCall → List (Place × Typed) → Judged Typed
call_value p None values = refused S9 p
call_value p (Some call) values = do
  _ ← unless (rate_faults (asked_by call) values) values
  typed_or_refused p (library_value call (second_parts values))

-- a library call: S9 at its name if the number of arguments is wrong or one of them is no value
abbrev pub called_value : Place → Name → Option (List (Place × Typed)) → Judged Typed
called_value p name None = refused S9 p
called_value p name (Some values) = call_value p (library_call name (length values)) values

-- ---- expressions

-- the word of a truth value
abbrev pub truth_value : Bool → ℕ
truth_value true = 1
truth_value false = 0

abbrev mutual
  -- an expression; one with a fault inside has none of its own, and S8 in parentheses stands at the `(`
  pub expression : ParsedExpr → Scope → Judged Typed
  expression (ParsedNumber p n is_unsigned is_long) scope = Sound (typed (Number n) (literal_type n is_unsigned is_long) Uniform)
  expression (ParsedBool p b) scope = Sound (typed (Number (truth_value b)) t.Bool Uniform)
  expression (ParsedName p name) scope = name_value p name (entry_of scope name)
  expression (ParsedIndex p name e) scope = do
    i ← expression e scope
    unless (element_faults p e i (entry_of scope name)) (element i (entry_of scope name))
  expression (ParsedCall p name args) scope = do
    given ← arguments args scope
    called_value p name (all_values given)
  expression (ParsedParen p e) scope = if names_no_value (named_entry e scope) then refused S8 p else expression e scope
  expression (ParsedUnary p op e) scope = do
    a ← expression e scope
    Sound (prefixed op a)
  expression (ParsedCast p rate type e) scope = do
    a ← expression e scope
    cast_to p rate type a
  expression (ParsedBinary op left right) scope = do
    operands ← both (expression left scope) (expression right scope)
    Sound (infixed op operands.0 operands.1)
  expression (ParsedChoice test first second) scope = do
    parts ← both (expression test scope) (both (expression first scope) (expression second scope))
    Sound (chosen_by parts.0 parts.1.0 parts.1.1)

  -- the arguments of a call, each judged by itself
  pub arguments : ParsedArgs → Scope → Judged (List Passing)
  arguments ParsedEnd scope = Sound []
  arguments (ParsedValue e args) scope = do
    parts ← both (passed e (array_of (named_entry e scope)) (expression e scope)) (arguments args scope)
    Sound (parts.0 ∷ parts.1)
  arguments (ParsedPart p name args) scope = do
    parts ← both (referred p (or_built_in name (entry_of scope name))) (arguments args scope)
    Sound (parts.0 ∷ parts.1)
  arguments (ParsedPartFrom p name e args) scope = do
    parts ← both (both (viewed p (entry_of scope name)) (expression e scope >>= view_index e)) (arguments args scope)
    Sound (view_from p parts.0 ∷ parts.1)

-- a value for something of this type and rate: S7 at the first token of a varying expression given to something uniform
abbrev pub given_value : ParsedExpr → Scope → IntType → Rate → Judged Expr
given_value e scope type rate = do
  x ← expression e scope
  unless (fault_if (not (may_become x.rate rate)) S7 (first_of e)) (as_type type x)
