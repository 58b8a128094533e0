-- Functions whose lanes do not see each other, and the state in which a call is left (choices of this project).
use Rattle.std.specs.Prelude.{◌≡◌, ℕ, suc, ◌<◌, Bool, true, false, ◌&&◌, ◌||◌, List, [], ◌∷◌, length, Option, Some, None, slice_get, IsTrue}
use Rattle.gang_types.specs.declared.types.IntType.{IntType}
use Rattle.gang_types.specs.declared.types.Rate.{Rate}
use Rattle.gang_types.specs.Lanes.{Lanes}
use Rattle.gang_model.specs.Types.Tree.{Expr, Number, ProgramIndex, ProgramCount, LaneMask, Read, Element, Unary, Binary, Convert, And, Or, Choice, OfOne, OfTwo, Select, Target, Scalar, ElementOf, Arg, Value, Array, ResultFor, Nothing, Declares, Assigns, Returns, Stmt, Empty, Then, Declare, Assign, Change, If, Loop, BodyFirst, Break, Continue, Return, Switch, Segment, Call, Function, Program}
use Rattle.gang_model.specs.Types.Conversions.{is_varying}
use Rattle.gang_model.specs.Types.Signatures.{declared_rate}
use Rattle.gang_model.specs.Source.Parsed.{ParsedSource, ParsedParam, ParsedFunction, functions_in}
use Rattle.gang_model.specs.Running.State.{Frame, State}
use Rattle.gang_model.specs.Running.Step.{Goes, step, settle, Passed, new_frame}

-- whether an expression is lane-pure: it names no uniform scalar, and of the library only functions of one lane's values
abbrev pub is_pure : Expr → Bool
is_pure (Number n) = true
is_pure ProgramIndex = true
is_pure ProgramCount = false
is_pure LaneMask = false
is_pure (Read v) = is_varying v.rate
is_pure (Element array index) = is_pure index
is_pure (Unary op type a) = is_pure a
is_pure (Binary op type a b) = is_pure a && is_pure b
is_pure (Convert from to a) = is_pure a
is_pure (And a b) = is_pure a && is_pure b
is_pure (Or a b) = is_pure a && is_pure b
is_pure (Choice test a b) = is_pure test && (is_pure a && is_pure b)
is_pure (Select test a b) = is_pure test && (is_pure a && is_pure b)
is_pure (OfOne f type a) = is_pure a
is_pure (OfTwo f type a b) = is_pure a && is_pure b
is_pure e = false

-- the same of an expression that may be left out
abbrev pub is_pure_option : Option Expr → Bool
is_pure_option None = true
is_pure_option (Some e) = is_pure e

-- whether what is assigned is a varying variable
abbrev pub is_pure_target : Target → Bool
is_pure_target (Scalar v) = is_varying v.rate
is_pure_target (ElementOf array rate index) = false

-- whether arguments are lane-pure
abbrev pub are_pure : List Arg → Bool
are_pure [] = true
are_pure (Value v e ∷ args) = is_pure e && are_pure args
are_pure (Array parameter array from ∷ args) = is_pure_option from && are_pure args

-- whether a call's result goes to a varying variable, to a result or nowhere
abbrev pub is_pure_result : ResultFor → Bool
is_pure_result Nothing = true
is_pure_result (Declares v) = is_varying v.rate
is_pure_result (Assigns v) = is_varying v.rate
is_pure_result Returns = true

-- whether a statement is lane-pure: varying locals alone, no store to an array, no foreach form, no library call as a statement
abbrev pub is_pure_stmt : Stmt → Bool
is_pure_stmt Empty = true
is_pure_stmt (Then first rest) = is_pure_stmt first && is_pure_stmt rest
is_pure_stmt (Declare number v e) = is_varying v.rate && is_pure_option e
is_pure_stmt (Assign number target e) = is_pure_target target && is_pure e
is_pure_stmt (Change number target type op in_type e) = is_pure_target target && is_pure e
is_pure_stmt (If number e first other) = is_pure e && (is_pure_stmt first && is_pure_stmt other)
is_pure_stmt (Loop number e update body) = is_pure e && (is_pure_stmt update && is_pure_stmt body)
is_pure_stmt (BodyFirst number e body) = is_pure e && is_pure_stmt body
is_pure_stmt (Break number) = true
is_pure_stmt (Continue number) = true
is_pure_stmt (Return number e) = is_pure_option e
is_pure_stmt (Switch number e segments) = is_pure e && is_pure_stmt segments
is_pure_stmt (Segment label body rest) = is_pure_stmt body && is_pure_stmt rest
is_pure_stmt (Call number function args result_for) = are_pure args && is_pure_result result_for
is_pure_stmt s = false

-- whether a result is void or varying, as it is written
abbrev pub is_pure_return : Option IntType → Option Rate → Bool
is_pure_return None rate = true
is_pure_return (Some type) None = true
is_pure_return (Some type) (Some rate) = is_varying rate

-- whether the parameters are arrays or varying, as they are written
abbrev pub are_pure_params : List ParsedParam → Bool
are_pure_params [] = true
are_pure_params (param ∷ params) = (param.is_array || is_varying (declared_rate param.spec.rate)) && are_pure_params params

-- whether a function itself is lane-pure: its parameters other than arrays, its result and its body
abbrev pub is_pure_function : ParsedFunction → Function → Bool
is_pure_function written f =
    are_pure_params written.params && (is_pure_return written.spec.value_type written.spec.rate && is_pure_stmt f.body)

-- a statement has a call of function n in it
pub data Calls (n : ℕ) : Stmt → Type 0 where
  here : {number : ℕ} {args : List Arg} {result_for : ResultFor} → Calls n (Call number n args result_for)
  in_first : {first rest : Stmt} → Calls n first → Calls n (Then first rest)
  in_rest : {first rest : Stmt} → Calls n rest → Calls n (Then first rest)
  in_then : {number : ℕ} {e : Expr} {first other : Stmt} → Calls n first → Calls n (If number e first other)
  in_else : {number : ℕ} {e : Expr} {first other : Stmt} → Calls n other → Calls n (If number e first other)
  in_update : {number : ℕ} {e : Expr} {update body : Stmt} → Calls n update → Calls n (Loop number e update body)
  in_loop : {number : ℕ} {e : Expr} {update body : Stmt} → Calls n body → Calls n (Loop number e update body)
  in_do : {number : ℕ} {e : Expr} {body : Stmt} → Calls n body → Calls n (BodyFirst number e body)
  in_switch : {number : ℕ} {e : Expr} {segments : Stmt} → Calls n segments → Calls n (Switch number e segments)
  in_segment : {label : Option ℕ} {body rest : Stmt} → Calls n body → Calls n (Segment label body rest)
  in_later : {label : Option ℕ} {body rest : Stmt} → Calls n rest → Calls n (Segment label body rest)

-- function g is reached by calls from function f
pub data Reaches (p : Program) (f : ℕ) : ℕ → Type 0 where
  itself : Reaches p f f
  called : {g n : ℕ} {function : Function} → Reaches p f g → slice_get p.functions g ≡ Some function → Calls n function.body → Reaches p f n

-- a function is lane-pure if it and every function reached from it by calls are so themselves
abbrev pub IsLanePure : ParsedSource → Program → ℕ → Type 0
IsLanePure source p f = (g : ℕ) (written : ParsedFunction) (function : Function) → Reaches p f g → slice_get (functions_in source) g ≡ Some written → slice_get p.functions g ≡ Some function → IsTrue (is_pure_function written function)

-- ---- leaving a call

-- so many steps without a fault lead from one state to another
pub data Steps (p : Program) : ℕ → State → State → Type 0 where
  none : {state : State} → Steps p 0 state state
  one_more : {n : ℕ} {first next last : State} → step p first ≡ Goes next → Steps p n next last → Steps p (suc n) first last

-- the state with a frame for a call of a function by these lanes
abbrev pub called_by : ℕ → Function → Lanes → Passed → State → State
called_by f function lanes arguments state =
    settle (record state { frames = new_frame f function lanes None Nothing arguments ∷ state.frames })

-- the top frame, over so many frames, has nothing left to do
abbrev pub IsLeft : ℕ → List Frame → Type 0
IsLeft below [] = ⊥
IsLeft below (frame ∷ frames) = (length frames ≡ below) × (frame.tasks ≡ [])

-- last is the state in which a call of function f by these lanes is left: n steps without a fault after the call its frame
-- has nothing left to do, for the first time
pub record Leaves (p : Program) (f : ℕ) (lanes : Lanes) (arguments : Passed) (state : State) (n : ℕ) (last : State) : Type 0 where
  pub function : Function
  pub is_function : slice_get p.functions f ≡ Some function
  pub leads : Steps p n (called_by f function lanes arguments state) last
  pub is_left : IsLeft (length state.frames) last.frames
  pub is_first : (m : ℕ) (between : State) → m < n → Steps p m (called_by f function lanes arguments state) between → IsLeft (length state.frames) between.frames → ⊥
