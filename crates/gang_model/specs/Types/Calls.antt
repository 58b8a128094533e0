-- Calls that are statements or stand whole after `=` or `return`: of a user's function, `assert` and the packed calls
-- (ISPC User's Guide, "Functions" and "Packed load and store operations"; what is refused, and where, is a choice of this
-- project). `check` decides `call_of`.
use Rattle.std.specs.Prelude.{Bool, true, not, ◌&&◌, ◌||◌, List, [], ◌∷◌, find, Option, Some, None, is_some, if◌then◌else◌}
use Rattle.gang_types.specs.declared.types.IntType.TheVariants as t
use Rattle.gang_types.specs.declared.types.Rate.{Rate}
use Rattle.gang_types.specs.declared.types.Rate.TheVariants.{Uniform}
use Rattle.gang_types.specs.declared.places.Place.{Place}
use Rattle.gang_model.specs.declared.refusals.RefusalNumber.TheVariants.{S7, S8, S9}
use Rattle.gang_model.specs.declared.refusals.SourceRefusal.{SourceRefusal}
use Rattle.gang_model.specs.Types.Tree.{ResultFor, StepNumber, Stmt, Call, Check, PackedStore, PackedLoad}
use Rattle.gang_model.specs.Source.Names.{same_text}
use Rattle.gang_model.specs.Source.Parsed.{Name, ParsedExpr, ParsedParen, ParsedCall, ParsedArgs, ParsedFunction}
use Rattle.gang_model.specs.Source.Judged.{Judged, Sound, unless, ◌>>=◌, fault_if, refused}
use Rattle.gang_model.specs.Types.Conversions.{same_type, is_varying, may_become, as_type, as_bool}
use Rattle.gang_model.specs.Types.LibraryTable.{StatementCall, Asserts, PackedStores, PackedLoads, statement_call}
use Rattle.gang_model.specs.Types.Signatures.{ResultType, result_of}
use Rattle.gang_model.specs.Types.Typing.{Entry, Scope, var_of, has_no_value, Passing, Scalar, View, Reference, arguments}
use Rattle.gang_model.specs.Types.Overloads.{candidates, overload, passed_args}

-- the functions of the source, and the result of the function that a statement stands in
pub record Context : Type 0 where
  pub functions : List ParsedFunction
  pub result : ResultType

-- a call as a statement, with the type and rate of its result
pub record Called : Type 0 where
  pub stmt : Stmt
  pub result : ResultType

-- a statement with the result that it gives
abbrev pub called : Stmt → ResultType → Called
called s result = record { stmt = s; result = result }

-- a call of a user's function
abbrev pub user_call : Context → Place → Name → List Passing → ResultFor → StepNumber → Judged Called
user_call context p name given result_for step = do
  c ← overload p (candidates 0 context.functions name given)
  Sound (called (Call step c.number (passed_args 0 given c.function.params) result_for) (result_of c.function.spec))

-- S8 at a constant that a packed call stores to
abbrev pub stored_to : Place → Entry → List SourceRefusal
stored_to p n = fault_if n.variable.is_constant S8 p

-- whether a variable can take the elements of an array lane by lane: it is varying, and of their type
abbrev pub takes_elements : Entry → Entry → Bool
takes_elements v n = not (has_no_value v) && (same_type v.variable.type n.variable.type && is_varying v.variable.rate)

-- a packed call gives how many elements were stored or loaded
abbrev pub packed : Stmt → Called
packed s = called s (Some (t.Int32, Uniform))

-- `assert(bool)`, `packed_store_active(array, value)` and `packed_load_active(array, &x)`: S9 at the name for other arguments
abbrev pub library_statement : Place → StatementCall → List Passing → ResultFor → StepNumber → Judged Called
library_statement p Asserts (Scalar q e ∷ []) result_for step = Sound (called (Check step (as_bool e)) None)
library_statement p PackedStores (View q n from ∷ Scalar r e ∷ []) result_for step =
    unless (stored_to q n) (packed (PackedStore step n.variable.id from (as_type n.variable.type e) result_for))
library_statement p PackedLoads (View q n from ∷ Reference r v ∷ []) result_for step =
    if takes_elements v n then unless (stored_to r v) (packed (PackedLoad step n.variable.id from (var_of v.variable) result_for)) else refused S9 p
library_statement p call given result_for step = refused S9 p

-- a call of the library, else of a user's function
abbrev pub call_of_kind : Option StatementCall → Context → Place → Name → List Passing → ResultFor → StepNumber → Judged Called
call_of_kind None context p name given result_for step = user_call context p name given result_for step
call_of_kind (Some call) context p name given result_for step = library_statement p call given result_for step

-- a call that stands as a statement, or whole after `=` or `return`; with a fault in its arguments it has none of its own
abbrev pub call_of : Context → Scope → Place → Name → ParsedArgs → ResultFor → StepNumber → Judged Called
call_of context scope p name args result_for step = do
  given ← arguments args scope
  call_of_kind (statement_call name) context p name given result_for step

-- a call with its name's place
pub record WholeCall : Type 0 where
  pub at : Place
  pub name : Name
  pub args : ParsedArgs

-- whether a name is that of a user's function or of a packed call
abbrev pub gives_value : List ParsedFunction → Name → Bool
gives_value functions name = is_some (find (λ f. same_text f.name name) functions) || is_some (statement_call name)

-- the call that an expression is, parentheses left out, if it may not stand inside an expression
abbrev pub whole_call : List ParsedFunction → ParsedExpr → Option WholeCall
whole_call functions (ParsedParen p e) = whole_call functions e
whole_call functions (ParsedCall p name args) = if gives_value functions name then Some (record { at = p; name = name; args = args }) else None
whole_call functions e = None

-- S8 at a call without a result, S7 at a varying result given to something uniform; p is the expression's first token
abbrev pub result_faults : Place → ResultType → Rate → List SourceRefusal
result_faults p None rate = fault_if true S8 p
result_faults p (Some r) rate = fault_if (not (may_become r.1 rate)) S7 p

-- a call on the right side of something of this rate
abbrev pub right_call : Context → Scope → Place → WholeCall → Rate → ResultFor → StepNumber → Judged Stmt
right_call context scope p call rate result_for step = do
  c ← call_of context scope call.at call.name call.args result_for step
  unless (result_faults p c.result rate) c.stmt
