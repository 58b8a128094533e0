-- What a light statement stands for has room for each of its expressions.
use Rattle.std.proofs.Common.{ℕ, suc, ◌+◌, ◌≤◌, Bool, true, false, List, [], ◌∷◌, arith, length}
use Rattle.std.specs.Prelude.{not, Option, Some, None, if◌then◌else◌}
use Rattle.gang_types.specs.declared.types.IntType.{IntType}
use Rattle.gang_types.specs.declared.types.IntType.TheVariants as t
use Rattle.gang_types.specs.declared.types.Rate.{Rate}
use Rattle.gang_types.specs.declared.types.Rate.TheVariants.{Uniform, Varying}
use Rattle.gang_types.specs.declared.operators.BinaryOp.{BinaryOp}
use Rattle.gang_types.specs.declared.operators.BinaryOp.TheVariants as op
use Rattle.gang_types.specs.declared.places.Place.{Place}
use Rattle.gang_types.specs.declared.places.VarId.TheVariants.{Local}
use Rattle.gang_types.specs.Values.{is_bool}
use Rattle.gang_model.specs.declared.refusals.RefusalNumber.TheVariants.{S7, S8, S9}
use Rattle.gang_model.specs.Types.Tree.{Var, Expr, Convert, ResultFor, Nothing, Declares, Assigns, Returns, Dimension, Rows, Tiles, StepNumber, Stmt, PackedLoad}
use Rattle.gang_model.specs.Source.Parsed.{Name, ParsedExpr, ParsedCall, ParsedParen, ParsedArgs, ParsedEnd, ParsedValue, ParsedPart, ParsedPartFrom, ParsedDim, ParsedTarget, ParsedStmt, ParsedEmpty, ParsedBlock, ParsedDeclare, ParsedAssign, ParsedChange, ParsedIncrement, ParsedDoCall, ParsedBreak, ParsedContinue, ParsedReturn, ParsedIf, ParsedIfElse, ParsedWhile, ParsedDo, ParsedFor, ParsedSwitch, ParsedForEach, ParsedForEachActive, ParsedForEachUnique, ParsedStmts, ParsedLast, ParsedNext, ParsedSegments, ParsedNoMore, ParsedSegment, ParsedParam, ParsedFunction}
use Rattle.gang_model.specs.Source.Spells.{AreLight, args_weight, max_weight}
use Rattle.gang_model.specs.Running.Numbering.{steps_in, steps_in_all}
use Rattle.gang_model.specs.Names.Scope.{locals_in, locals_in_all}
use Rattle.gang_model.specs.Source.Judged.{Judged, Sound, Faulty, unless, both, ◌>>=◌, fault_if, refused}
use Rattle.gang_model.proofs.JudgedLaws.{OnSound, on_any, on_then, on_both, on_unless, on_pair, on_if}
use Rattle.gang_model.proofs.StandingLaws.{Each}
use Rattle.gang_model.specs.Types.LibraryTable.{StatementCall, Asserts, PackedStores, PackedLoads, statement_call}
use Rattle.gang_model.specs.Types.Signatures.{ResultType, declared_type}
use Rattle.gang_model.specs.Types.Conversions.{Typed, same_type, may_become, as_type, operation_type, right_operand}
use Rattle.gang_model.specs.Types.Typing.{Entry, Scope, entry_of, named_entry, array_of, Passing, Scalar, View, Reference, or_built_in, referred, passed, viewed, view_index, arguments, expression, given_value, first_of, var_of, declared, index_entry}
use Rattle.gang_model.specs.Types.Overloads.{candidates, overload, passed_args}
use Rattle.gang_model.specs.Types.Calls.{Context, Called, packed, stored_to, takes_elements, library_statement, call_of_kind, call_of, WholeCall, gives_value, whole_call, right_call, result_faults}
use Rattle.gang_model.specs.Types.TypeFaults.{variable_faults}
use Rattle.gang_model.specs.Types.Statements.{first_value, declaration, Aimed, target_index, assigned, scalar_target, target_of, rate_of, assigned_type, variable_of, call_for, assigned_by, operand_for, changed, number_one, empty_return, returned_value, returned, value_return, returning, test_of, dimensions, label_word, selector, Made, made, scope_after, index_entries, statement, statements, segments_of}
use Rattle.expression_runs.specs.Room.{HasRoom}
use Rattle.expression_code.specs.ProgramRoom.{SomeHasRoom, TargetHasRoom, ArgsHaveRoom, DimensionsHaveRoom, RoundsHaveRoom, HaveRoom}
use Rattle.expression_code.proofs.RoomOfWeight.{light_has_room}
use Rattle.expression_code.proofs.LightStatements.{IsLight, IsLightIfAny, AreLightDims, IsLightStmt, AreLightStmts, AreLightSegments}

-- ---- values

-- a typed expression finds room
abbrev TypedHasRoom : Typed → Type 0
TypedHasRoom x = HasRoom x.expr

converted_if : (b : Bool) (e : Expr) (from to : IntType) → HasRoom e → HasRoom (if b then e else Convert from to e)
converted_if true e from to room = room
converted_if false e from to room = record { few_vectors = room.few_vectors; few_masks = room.few_masks }

-- it does so converted
as_type-room : (type : IntType) (x : Typed) → TypedHasRoom x → HasRoom (as_type type x)
as_type-room type x room = converted_if (same_type x.type type) x.expr x.type type room

right_operand-room : (operation : BinaryOp) (type : IntType) (x : Typed) → TypedHasRoom x → HasRoom (right_operand operation type x)
right_operand-room op.Shl type x room = room
right_operand-room op.Shr type x room = room
right_operand-room operation type x room = as_type-room type x room

given_value-room : (e : ParsedExpr) (scope : Scope) (type : IntType) (rate : Rate) → IsLight e → OnSound (given_value e scope type rate) HasRoom
given_value-room e scope type rate light =
    on_then (expression e scope) _ TypedHasRoom HasRoom (light_has_room e scope light)
    (λ x room. on_unless (fault_if (not (may_become x.rate rate)) S7 (first_of e)) (as_type type x) HasRoom (as_type-room type x room))

-- ---- arguments

abbrev PassHasRoom : Passing → Type 0
PassHasRoom (Scalar p x) = TypedHasRoom x
PassHasRoom (View p n from) = SomeHasRoom from
PassHasRoom (Reference p n) = Unit {0}

passed-room : (e : ParsedExpr) (n : Option Entry) (value : Judged Typed) → OnSound value TypedHasRoom → OnSound (passed e n value) PassHasRoom
passed-room e (Some n) value room = tt
passed-room e None (Sound x) room = room
passed-room e None (Faulty first others) room = tt

referred-room : (p : Place) (n : Option Entry) → OnSound (referred p n) PassHasRoom
referred-room p None = tt
referred-room p (Some n) = tt

view_index-room : (e : ParsedExpr) (scope : Scope) → IsLight e → OnSound (expression e scope >>= view_index e) TypedHasRoom
view_index-room e scope light =
    on_then (expression e scope) (view_index e) TypedHasRoom TypedHasRoom (light_has_room e scope light)
    (λ i room. on_unless _ i TypedHasRoom room)

arguments-room : (args : ParsedArgs) (scope : Scope) → AreLight args → OnSound (arguments args scope) (Each PassHasRoom)
arguments-room ParsedEnd scope light = tt
arguments-room (ParsedValue e args) scope light =
    let n = array_of (named_entry e scope) in
    on_pair (passed e n (expression e scope)) (arguments args scope) _ PassHasRoom (Each PassHasRoom) (Each PassHasRoom)
    (passed-room e n (expression e scope) (light_has_room e scope light.0)) (arguments-room args scope light.1) (λ a given room rest. (room, rest))
arguments-room (ParsedPart p name args) scope light =
    let n = or_built_in name (entry_of scope name) in
    on_pair (referred p n) (arguments args scope) _ PassHasRoom (Each PassHasRoom) (Each PassHasRoom)
    (referred-room p n) (arguments-room args scope light) (λ a given room rest. (room, rest))
arguments-room (ParsedPartFrom p name e args) scope light =
    let n = viewed p (entry_of scope name) in
    let i = expression e scope >>= view_index e in
    on_pair (both n i) (arguments args scope) _ (λ view. Unit {0} × TypedHasRoom view.1) (Each PassHasRoom) (Each PassHasRoom)
    (on_both n i (λ _. Unit {0}) TypedHasRoom (on_any n) (view_index-room e scope (omega (arith, light.0)))) (arguments-room args scope light.1)
    (λ view given room rest. (room.1, rest))

-- ---- calls

abbrev CalledHasRoom : Called → Type 0
CalledHasRoom c = HaveRoom c.stmt

passed_args-room : (k : ℕ) (given : List Passing) (params : List ParsedParam) → Each PassHasRoom given → ArgsHaveRoom (passed_args k given params)
passed_args-room k [] params room = tt
passed_args-room k (a ∷ given) [] room = tt
passed_args-room k (Scalar q x ∷ given) (p ∷ params) room = (as_type-room (declared_type p.spec.value_type) x room.0, passed_args-room (suc k) given params room.1)
passed_args-room k (View q n from ∷ given) (p ∷ params) room = (room.0, passed_args-room (suc k) given params room.1)
passed_args-room k (Reference q n ∷ given) (p ∷ params) room = passed_args-room (suc k) given params room.1

library-room : (p : Place) (call : StatementCall) (given : List Passing) (result_for : ResultFor) (n : StepNumber) → Each PassHasRoom given
    → OnSound (library_statement p call given result_for n) CalledHasRoom
library-room p Asserts (Scalar q e ∷ []) result_for n room = as_type-room t.Bool e room.0
library-room p PackedStores (View q v from ∷ Scalar r e ∷ []) result_for n room =
    on_unless (stored_to q v) _ CalledHasRoom (room.0, as_type-room v.variable.type e room.1.0)
library-room p PackedLoads (View q v from ∷ Reference r w ∷ []) result_for n room =
    on_if (takes_elements w v) _ (refused S9 p) CalledHasRoom
    (on_unless (stored_to r w) (packed (PackedLoad n v.variable.id from (var_of w.variable) result_for)) CalledHasRoom room.0) tt
library-room p call given result_for n room = tt

kind-room : (kind : Option StatementCall) (context : Context) (p : Place) (name : Name) (given : List Passing) (result_for : ResultFor) (n : StepNumber)
    → Each PassHasRoom given → OnSound (call_of_kind kind context p name given result_for n) CalledHasRoom
kind-room None context p name given result_for n room =
    let best = overload p (candidates 0 context.functions name given) in
    on_then best _ (λ c. Unit {0}) CalledHasRoom (on_any best) (λ c _. passed_args-room 0 given c.function.params room)
kind-room (Some call) context p name given result_for n room = library-room p call given result_for n room

call-room : (context : Context) (scope : Scope) (p : Place) (name : Name) (args : ParsedArgs) (result_for : ResultFor) (n : StepNumber)
    → AreLight args → OnSound (call_of context scope p name args result_for n) CalledHasRoom
call-room context scope p name args result_for n light =
    on_then (arguments args scope) _ (Each PassHasRoom) CalledHasRoom (arguments-room args scope light)
    (λ given room. kind-room (statement_call name) context p name given result_for n room)

right-room : (context : Context) (scope : Scope) (p : Place) (call : WholeCall) (rate : Rate) (result_for : ResultFor) (n : StepNumber)
    → AreLight call.args → OnSound (right_call context scope p call rate result_for n) HaveRoom
right-room context scope p call rate result_for n light =
    on_then (call_of context scope call.at call.name call.args result_for n) _ CalledHasRoom HaveRoom
    (call-room context scope call.at call.name call.args result_for n light) (λ c room. on_unless (result_faults p c.result rate) c.stmt HaveRoom room)

-- ---- the call that an expression is

light_args : (args : ParsedArgs) → args_weight args ≤ max_weight → AreLight args
light_args ParsedEnd few = tt
light_args (ParsedValue e args) few = (omega (arith, few), light_args args (omega (arith, few)))
light_args (ParsedPart p name args) few = light_args args few
light_args (ParsedPartFrom p name e args) few = (omega (arith, few), light_args args (omega (arith, few)))

abbrev IsLightCall : Option WholeCall → Type 0
IsLightCall None = Unit {0}
IsLightCall (Some call) = AreLight call.args

light_call_if : (b : Bool) (call : WholeCall) → AreLight call.args → IsLightCall (if b then Some call else None)
light_call_if true call light = light
light_call_if false call light = tt

light_call : (functions : List ParsedFunction) (e : ParsedExpr) → IsLight e → IsLightCall (whole_call functions e)
light_call functions (ParsedParen p e) light = light_call functions e light
light_call functions (ParsedCall p name args) light = light_call_if (gives_value functions name) _ (light_args args (omega (arith, light)))
light_call functions e light = tt

light_call_for : (index : Option ParsedExpr) (call : Option WholeCall) → IsLightCall call → IsLightCall (call_for index call)
light_call_for None call light = light
light_call_for (Some index) call light = tt

-- ---- statements of one step

first-room : (call : Option WholeCall) (context : Context) (scope : Scope) (v : Var) (e : ParsedExpr) (n : StepNumber) → IsLightCall call → IsLight e
    → OnSound (first_value call context scope v e n) HaveRoom
first-room (Some call) context scope v e n args light = right-room context scope (first_of e) call v.rate (Declares v) n args
first-room None context scope v e n args light =
    on_then (given_value e scope v.type v.rate) _ HasRoom HaveRoom (given_value-room e scope v.type v.rate light) (λ x room. room)

declaration-room : (context : Context) (scope : Scope) (v : Var) (e : Option ParsedExpr) (n : StepNumber) → IsLightIfAny e → OnSound (declaration context scope v e n) HaveRoom
declaration-room context scope v None n light = tt
declaration-room context scope v (Some e) n light =
    first-room (whole_call context.functions e) context scope v e n (light_call context.functions e light) light

abbrev AimHasRoom : Aimed → Type 0
AimHasRoom a = TargetHasRoom a.target

target-room : (scope : Scope) (p : Place) (name : Name) (index : Option ParsedExpr) → IsLightIfAny index → OnSound (target_of scope p name index) AimHasRoom
target-room scope p name None light =
    on_then (scalar_target scope p name) _ (λ v. Unit {0}) AimHasRoom (on_any (scalar_target scope p name)) (λ v _. tt)
target-room scope p name (Some e) light =
    let array = assigned p true (entry_of scope name) in
    on_pair array (target_index scope e) _ (λ n. Unit {0}) TypedHasRoom AimHasRoom (on_any array)
    (on_then (expression e scope) _ TypedHasRoom TypedHasRoom (light_has_room e scope light)
    (λ i room. on_unless (fault_if (is_bool i.type) S8 (first_of e)) i TypedHasRoom room))
    (λ n i _ room. room)

assigned-room : (call : Option WholeCall) (context : Context) (scope : Scope) (target : ParsedTarget) (e : ParsedExpr) (n : StepNumber)
    → IsLightCall call → IsLightIfAny target.index → IsLight e → OnSound (assigned_by call context scope target e n) HaveRoom
assigned-room (Some call) context scope target e n args index light =
    let v = scalar_target scope target.at target.name in
    on_pair v (right_call context scope (first_of e) call (variable_of v).rate (Assigns (variable_of v)) n) _ (λ x. Unit {0}) HaveRoom HaveRoom (on_any v)
    (right-room context scope (first_of e) call (variable_of v).rate (Assigns (variable_of v)) n args) (λ x s _ room. room)
assigned-room None context scope target e n args index light =
    let aim = target_of scope target.at target.name target.index in
    on_pair aim (given_value e scope (assigned_type aim) (rate_of aim)) _ AimHasRoom HasRoom HaveRoom (target-room scope target.at target.name target.index index)
    (given_value-room e scope (assigned_type aim) (rate_of aim) light) (λ a x aimed room. (aimed, room))

operand-room : (rate : Rate) (e : ParsedExpr) (scope : Scope) → IsLight e → OnSound (operand_for rate e scope) TypedHasRoom
operand-room rate e scope light =
    on_then (expression e scope) _ TypedHasRoom TypedHasRoom (light_has_room e scope light)
    (λ x room. on_unless (fault_if (not (may_become x.rate rate)) S7 (first_of e)) x TypedHasRoom room)

changed-room : (operation : BinaryOp) (n : StepNumber) (a : Aimed) (x : Typed) → AimHasRoom a → TypedHasRoom x → HaveRoom (changed operation n a x)
changed-room operation n a x aimed room = (aimed, right_operand-room operation (operation_type operation a.type x.type) x room)

one-room : TypedHasRoom number_one
one-room = record { few_vectors = omega arith; few_masks = omega arith }

returned-room : (call : Option WholeCall) (context : Context) (scope : Scope) (e : ParsedExpr) (r : IntType × Rate) (n : StepNumber) → IsLightCall call → IsLight e
    → OnSound (returned_value call context scope e r n) HaveRoom
returned-room (Some call) context scope e r n args light = right-room context scope (first_of e) call r.1 Returns n args
returned-room None context scope e r n args light =
    on_then (given_value e scope r.0 r.1) _ HasRoom HaveRoom (given_value-room e scope r.0 r.1 light) (λ x room. room)

value_return-room : (context : Context) (scope : Scope) (e : ParsedExpr) (result : ResultType) (n : StepNumber) → IsLight e
    → OnSound (value_return context scope e result n) HaveRoom
value_return-room context scope e None n light =
    let given = returned context scope e (t.Int32, Varying) n in on_then given _ (λ s. Unit {0}) HaveRoom (on_any given) (λ s _. tt)
value_return-room context scope e (Some r) n light =
    returned-room (whole_call context.functions e) context scope e r n (light_call context.functions e light) light

empty_return-room : (p : Place) (result : ResultType) (n : StepNumber) → OnSound (empty_return p result n) HaveRoom
empty_return-room p None n = tt
empty_return-room p (Some r) n = tt

returning-room : (context : Context) (scope : Scope) (p : Place) (e : Option ParsedExpr) (n : StepNumber) → IsLightIfAny e
    → OnSound (returning context scope p e n) HaveRoom
returning-room context scope p None n light = empty_return-room p context.result n
returning-room context scope p (Some e) n light = value_return-room context scope e context.result n light

-- ---- heads

-- a test that is missing is the number 1
test-room : (scope : Scope) (e : Option ParsedExpr) → IsLightIfAny e → OnSound (test_of scope e) HasRoom
test-room scope None light = record { few_vectors = omega arith; few_masks = omega arith }
test-room scope (Some e) light =
    on_then (expression e scope) _ TypedHasRoom HasRoom (light_has_room e scope light) (λ x room. as_type-room t.Bool x room)

selector-room : (scope : Scope) (e : ParsedExpr) → IsLight e → OnSound (selector scope e) TypedHasRoom
selector-room scope e light =
    on_then (expression e scope) _ TypedHasRoom TypedHasRoom (light_has_room e scope light)
    (λ x room. on_unless (fault_if (is_bool x.type) S8 (first_of e)) x TypedHasRoom room)

dimensions-room : (scope : Scope) (k : ℕ) (dims : List ParsedDim) → AreLightDims dims → OnSound (dimensions scope k dims) DimensionsHaveRoom
dimensions-room scope k [] light = tt
dimensions-room scope k (d ∷ dims) light =
    let low = given_value d.low scope t.Int32 Uniform in
    let high = given_value d.high scope t.Int32 Uniform in
    on_pair (both low high) (dimensions scope (suc k) dims) _ (λ x. HasRoom x.0 × HasRoom x.1) DimensionsHaveRoom DimensionsHaveRoom
    (on_both low high HasRoom HasRoom (given_value-room d.low scope t.Int32 Uniform light.0) (given_value-room d.high scope t.Int32 Uniform light.1))
    (dimensions-room scope (suc k) dims light.2) (λ x ds bounds later. (bounds.0, bounds.1, later))

rounds-room : (is_tiled : Bool) (ds : List Dimension) → DimensionsHaveRoom ds → RoundsHaveRoom (if is_tiled then Tiles ds else Rows ds)
rounds-room true ds room = room
rounds-room false ds room = room

-- ---- all statements

-- a statement's expressions find room
abbrev pub MadeHasRoom : Made → Type 0
MadeHasRoom m = HaveRoom m.stmt

simple-room : (j : Judged Stmt) → OnSound j HaveRoom → OnSound (j >>= (λ s. Sound (made s []))) MadeHasRoom
simple-room j room = on_then j _ HaveRoom MadeHasRoom room (λ s k. k)

mutual
  statement-room : (s : ParsedStmt) (context : Context) (scope : Scope) (k : ℕ) (n : StepNumber) → IsLightStmt s → OnSound (statement s context scope k n) MadeHasRoom
  statement-room ParsedEmpty context scope k n light = tt
  statement-room (ParsedBlock ss) context scope k n light = statements-room ss context scope k n light
  statement-room (ParsedDeclare p spec at name e) context scope k n light =
      let v = declared name (Local k) spec false false in
      let sound = unless (variable_faults at spec) v in
      on_pair sound (declaration context scope (var_of v.variable) e n) _ (λ w. Unit {0}) HaveRoom MadeHasRoom (on_any sound)
      (declaration-room context scope (var_of v.variable) e n light) (λ w s _ room. room)
  statement-room (ParsedAssign p target e) context scope k n light =
      let call = call_for target.index (whole_call context.functions e) in
      simple-room (assigned_by call context scope target e n)
      (assigned-room call context scope target e n (light_call_for target.index (whole_call context.functions e) (light_call context.functions e light.1)) light.0 light.1)
  statement-room (ParsedChange p target op e) context scope k n light =
      let aim = target_of scope target.at target.name target.index in
      on_pair aim (operand_for (rate_of aim) e scope) _ AimHasRoom TypedHasRoom MadeHasRoom (target-room scope target.at target.name target.index light.0)
      (operand-room (rate_of aim) e scope light.1) (λ a x aimed room. changed-room op n a x aimed room)
  statement-room (ParsedIncrement p target op) context scope k n light =
      let aim = target_of scope target.at target.name target.index in
      on_then aim _ AimHasRoom MadeHasRoom (target-room scope target.at target.name target.index light) (λ a aimed. changed-room op n a number_one aimed one-room)
  statement-room (ParsedDoCall p name args) context scope k n light =
      on_then (call_of context scope p name args Nothing n) _ CalledHasRoom MadeHasRoom (call-room context scope p name args Nothing n light) (λ c room. room)
  statement-room (ParsedBreak p) context scope k n light = tt
  statement-room (ParsedContinue p) context scope k n light = tt
  statement-room (ParsedReturn p e) context scope k n light = simple-room (returning context scope p e n) (returning-room context scope p e n light)
  statement-room (ParsedIf p e a) context scope k n light =
      on_pair (test_of scope (Some e)) (statement a context scope k (n + 1)) _ HasRoom MadeHasRoom MadeHasRoom (test-room scope (Some e) light.0)
      (statement-room a context scope k (n + 1) light.1) (λ c m test room. (test, room, tt))
  statement-room (ParsedIfElse p e a b) context scope k n light =
      let first = statement a context scope k (n + 1) in
      let other = statement b context scope (k + locals_in a) (n + 1 + steps_in a) in
      on_pair (test_of scope (Some e)) (both first other) _ HasRoom (λ ms. MadeHasRoom ms.0 × MadeHasRoom ms.1) MadeHasRoom (test-room scope (Some e) light.0)
      (on_both first other MadeHasRoom MadeHasRoom (statement-room a context scope k (n + 1) light.1)
      (statement-room b context scope (k + locals_in a) (n + 1 + steps_in a) light.2)) (λ c ms test room. (test, room.0, room.1))
  statement-room (ParsedWhile p e body) context scope k n light =
      on_pair (test_of scope (Some e)) (statement body context scope k n) _ HasRoom MadeHasRoom MadeHasRoom (test-room scope (Some e) light.0)
      (statement-room body context scope k n light.1) (λ c m test room. (test, tt, room))
  statement-room (ParsedDo body p e) context scope k n light =
      on_pair (statement body context scope k n) (test_of scope (Some e)) _ MadeHasRoom HasRoom MadeHasRoom
      (statement-room body context scope k n light.1) (test-room scope (Some e) light.0) (λ m c room test. (test, room))
  statement-room (ParsedFor p start e update body) context scope k n light =
      let inside = scope_after start scope k in
      let k' = k + locals_in start in
      let b = n + steps_in start in
      let u = n + steps_in start + steps_in body in
      let before = statement start context scope k n in
      let updating = statement update context inside k' u in
      let inner = statement body context inside (k' + locals_in update) b in
      on_pair (both before (test_of inside e)) (both updating inner) _ (λ x. MadeHasRoom x.0 × HasRoom x.1) (λ x. MadeHasRoom x.0 × MadeHasRoom x.1) MadeHasRoom
      (on_both before (test_of inside e) MadeHasRoom HasRoom (statement-room start context scope k n light.0) (test-room inside e light.1))
      (on_both updating inner MadeHasRoom MadeHasRoom (statement-room update context inside k' u light.2)
      (statement-room body context inside (k' + locals_in update) b light.3)) (λ x y first later. (first.0, (first.1, later.0, later.1)))
  statement-room (ParsedSwitch p e segments) context scope k n light =
      on_then (selector scope e) _ TypedHasRoom MadeHasRoom (selector-room scope e light.0)
      (λ x chosen. on_then (segments_of segments x.type context scope k (n + 1)) _ MadeHasRoom MadeHasRoom
      (segments-room segments x.type context scope k (n + 1) light.1) (λ m room. (chosen, room)))
  statement-room (ParsedForEach p is_tiled dims body) context scope k n light =
      let inside = index_entries k dims scope in
      on_pair (dimensions scope k dims) (statement body context inside (k + length dims) (n + 1)) _ DimensionsHaveRoom MadeHasRoom MadeHasRoom
      (dimensions-room scope k dims light.0) (statement-room body context inside (k + length dims) (n + 1) light.1)
      (λ ds m bounds room. (rounds-room is_tiled ds bounds, room))
  statement-room (ParsedForEachActive p at name body) context scope k n light =
      let v = index_entry name (Local k) t.Int64 Uniform in
      on_then (statement body context (v ∷ scope) (suc k) (n + 1)) _ MadeHasRoom MadeHasRoom
      (statement-room body context (v ∷ scope) (suc k) (n + 1) light) (λ m room. (tt, room))
  statement-room (ParsedForEachUnique p at name e body) context scope k n light =
      on_then (expression e scope) _ TypedHasRoom MadeHasRoom (light_has_room e scope light.0)
      (λ x values. let v = index_entry name (Local k) x.type Uniform in
      on_then (statement body context (v ∷ scope) (suc k) (n + 1)) _ MadeHasRoom MadeHasRoom
      (statement-room body context (v ∷ scope) (suc k) (n + 1) light.1) (λ m room. (values, room)))

  pub statements-room : (ss : ParsedStmts) (context : Context) (scope : Scope) (k : ℕ) (n : StepNumber) → AreLightStmts ss
      → OnSound (statements ss context scope k n) MadeHasRoom
  statements-room ParsedLast context scope k n light = tt
  statements-room (ParsedNext s ss) context scope k n light =
      let inside = scope_after s scope k in
      on_pair (statement s context scope k n) (statements ss context inside (k + locals_in s) (n + steps_in s)) _ MadeHasRoom MadeHasRoom MadeHasRoom
      (statement-room s context scope k n light.0) (statements-room ss context inside (k + locals_in s) (n + steps_in s) light.1) (λ a b first rest. (first, rest))

  segments-room : (segments : ParsedSegments) (type : IntType) (context : Context) (scope : Scope) (k : ℕ) (n : StepNumber) → AreLightSegments segments
      → OnSound (segments_of segments type context scope k n) MadeHasRoom
  segments-room ParsedNoMore type context scope k n light = tt
  segments-room (ParsedSegment p label ss rest) type context scope k n light =
      let first = statements ss context scope k n in
      let later = segments_of rest type context scope (k + locals_in_all ss) (n + steps_in_all ss) in
      on_pair (label_word p type label) (both first later) _ (λ w. Unit {0}) (λ ms. MadeHasRoom ms.0 × MadeHasRoom ms.1) MadeHasRoom (on_any (label_word p type label))
      (on_both first later MadeHasRoom MadeHasRoom (statements-room ss context scope k n light.0)
      (segments-room rest type context scope (k + locals_in_all ss) (n + steps_in_all ss) light.1)) (λ w ms _ room. room)
