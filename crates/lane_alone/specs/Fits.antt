-- Statements that one lane can run alone, with the local variables that they may name: what accepted programs have, if they are
-- lane-pure.
use Rattle.std.specs.Prelude.{◌≡◌, ℕ, ◌==◌, Bool, true, false, ◌||◌, List, [], ◌∷◌, Option, Some, None, slice_get}
use Rattle.gang_types.specs.declared.types.Rate.{Rate}
use Rattle.gang_types.specs.declared.types.Rate.TheVariants.{Varying}
use Rattle.gang_types.specs.declared.places.VarId.{VarId}
use Rattle.gang_types.specs.declared.places.VarId.TheVariants.{File, Local}
use Rattle.gang_types.specs.Lanes.{Lanes, has}
use Rattle.gang_model.specs.Types.Tree.{Var, Expr, Number, ProgramIndex, Read, Element, Unary, Binary, Convert, And, Or, Choice, OfOne, OfTwo, Select, Target, Scalar, ElementOf, Arg, Value, Array, ResultFor, Nothing, Declares, Assigns, Returns, Stmt, Empty, Then, Declare, Assign, Change, If, Loop, BodyFirst, Break, Continue, Return, Switch, Segment, Call, Global, Function, Program}
use Rattle.gang_model.specs.Running.UniformExprs.{IsUniform}
use Rattle.gang_model.specs.Running.SeparateInstances.{IsVaryingScalar, IsArrayId}
use Rattle.gang_model.specs.Running.State.{Doing, Run, LoopTest, LoopUpdate, Round, RoundEnd, SwitchEnd}

-- no other lane than k
abbrev pub Only : ℕ → Lanes → Type 0
Only k lanes = (j : ℕ) → has lanes j ≡ true → j ≡ k

-- some local variables, by their numbers
abbrev pub Locals : Type 0
Locals = ℕ → Bool

-- these and one more
abbrev pub with_local : ℕ → Locals → Locals
with_local m known n = (n == m) || known n

-- each of these is one of those
abbrev pub Within : Locals → Locals → Type 0
Within few many = (n : ℕ) → few n ≡ true → many n ≡ true

-- a varying scalar of the file, or a known local variable
abbrev pub Known : Program → Locals → VarId → Type 0
Known p known (File n) = IsVaryingScalar p n
Known p known (Local n) = known n ≡ true

abbrev pub FitsVar : Program → Locals → Var → Type 0
FitsVar p known v = (v.rate ≡ Varying) × Known p known v.id

abbrev pub FitsExpr : Program → Locals → Expr → Type 0
FitsExpr p known (Number n) = Unit {0}
FitsExpr p known ProgramIndex = Unit {0}
FitsExpr p known (Read v) = FitsVar p known v
FitsExpr p known (Element array index) = IsArrayId p array × FitsExpr p known index
FitsExpr p known (Unary op type a) = FitsExpr p known a
FitsExpr p known (Binary op type a b) = FitsExpr p known a × FitsExpr p known b
FitsExpr p known (Convert from to a) = FitsExpr p known a
FitsExpr p known (And a b) = FitsExpr p known a × FitsExpr p known b
FitsExpr p known (Or a b) = FitsExpr p known a × FitsExpr p known b
FitsExpr p known (Choice test a b) = FitsExpr p known test × FitsExpr p known a × FitsExpr p known b
FitsExpr p known (Select test a b) = FitsExpr p known test × FitsExpr p known a × FitsExpr p known b
FitsExpr p known (OfOne f type a) = FitsExpr p known a
FitsExpr p known (OfTwo f type a b) = FitsExpr p known a × FitsExpr p known b
FitsExpr p known e = ⊥

abbrev pub FitsOption : Program → Locals → Option Expr → Type 0
FitsOption p known None = Unit {0}
FitsOption p known (Some e) = FitsExpr p known e

abbrev pub FitsTarget : Program → Locals → Target → Type 0
FitsTarget p known (Scalar v) = FitsVar p known v
FitsTarget p known (ElementOf array rate index) = ⊥

-- where a part of an array begins: it is the same for all lanes
abbrev pub FitsFrom : Program → Locals → Option Expr → Type 0
FitsFrom p known None = Unit {0}
FitsFrom p known (Some e) = IsUniform e × FitsExpr p known e

abbrev pub FitsArgs : Program → Locals → List Arg → Type 0
FitsArgs p known [] = Unit {0}
FitsArgs p known (Value v e ∷ args) = (v.rate ≡ Varying) × FitsExpr p known e × FitsArgs p known args
FitsArgs p known (Array parameter array from ∷ args) = IsArrayId p array × FitsFrom p known from × FitsArgs p known args

-- the local variable that a variable is
abbrev pub number_of : VarId → Option ℕ
number_of (File n) = None
number_of (Local n) = Some n

-- these and the local variable that a variable is
abbrev pub and_one : VarId → Locals → Locals
and_one (File n) known = known
and_one (Local n) known = with_local n known

-- the local variables that arguments set
abbrev pub given : List Arg → Locals
given [] = λ n. false
given (Value v e ∷ args) = and_one v.id (given args)
given (Array parameter array from ∷ args) = given args

-- a new local variable
abbrev pub IsNew : Locals → Var → Type 0
IsNew known v = (v.rate ≡ Varying) × (m : ℕ) × (v.id ≡ Local m) × (known m ≡ false)

-- what a call's result may be for, in a function whose result has the rate `own`, where the called one's has the rate `result`
abbrev pub FitsResult : Program → Rate → Locals → Rate → ResultFor → Type 0
FitsResult p own known result Nothing = Unit {0}
FitsResult p own known result (Declares v) = (result ≡ Varying) × IsNew known v
FitsResult p own known result (Assigns v) = (result ≡ Varying) × FitsVar p known v
FitsResult p own known result Returns = (result ≡ Varying) × (own ≡ Varying)

-- the local variable that a statement's step declares
abbrev pub declared_for : ResultFor → Option VarId
declared_for (Declares v) = Some v.id
declared_for other = None

abbrev pub declares : Stmt → Option VarId
declares (Declare number v e) = Some v.id
declares (Call number f args result_for) = declared_for result_for
declares s = None

-- what is known after a statement
abbrev pub known_with : Option VarId → Locals → Locals
known_with None known = known
known_with (Some v) known = and_one v known

-- some functions, with the parameters that each may name
pub record Family : Type 1 where
  pub member : ℕ → Type 0
  pub parameters : ℕ → Locals

-- statements of a function whose result has this rate, which call functions of the family alone
abbrev pub Fits : Program → Family → Rate → Locals → Stmt → Type 0
Fits p family own known Empty = Unit {0}
Fits p family own known (Then first rest) = Fits p family own known first × Fits p family own (known_with (declares first) known) rest
Fits p family own known (Declare number v e) = IsNew known v × FitsOption p known e
Fits p family own known (Assign number target e) = FitsTarget p known target × FitsExpr p known e
Fits p family own known (Change number target type op in_type e) = FitsTarget p known target × FitsExpr p known e
Fits p family own known (If number e first other) = FitsExpr p known e × Fits p family own known first × Fits p family own known other
Fits p family own known (Loop number e update body) = FitsExpr p known e × Fits p family own known update × Fits p family own known body
Fits p family own known (BodyFirst number e body) = FitsExpr p known e × Fits p family own known body
Fits p family own known (Break number) = Unit {0}
Fits p family own known (Continue number) = Unit {0}
Fits p family own known (Return number None) = Unit {0}
Fits p family own known (Return number (Some e)) = (own ≡ Varying) × FitsExpr p known e
Fits p family own known (Switch number e segments) = FitsExpr p known e × Fits p family own known segments
Fits p family own known (Segment label body rest) = Fits p family own known body × Fits p family own known rest
Fits p family own known (Call number f args result_for) =
    (g : Function) × (slice_get p.functions f ≡ Some g) × family.member f × FitsArgs p known args × Within (family.parameters f) (given args)
    × FitsResult p own known g.result result_for
Fits p family own known s = ⊥

abbrev pub FitsDoing : Program → Family → Rate → Locals → Doing → Type 0
FitsDoing p family own known (Run s) = Fits p family own known s
FitsDoing p family own known (LoopUpdate s) = Fits p family own known s
FitsDoing p family own known (LoopTest number e update body) = FitsExpr p known e × Fits p family own known update × Fits p family own known body
FitsDoing p family own known (Round number indices body) = ⊥
FitsDoing p family own known RoundEnd = ⊥
FitsDoing p family own known SwitchEnd = Unit {0}

-- each function of the family fits with its parameters
abbrev pub IsClosed : Program → Family → Type 0
IsClosed p family = (n : ℕ) (f : Function) → family.member n → slice_get p.functions n ≡ Some f → Fits p family f.result (family.parameters n) f.body

-- each variable of the file has its number
abbrev pub AreNumbered : Program → Type 0
AreNumbered p = (n : ℕ) (g : Global) → slice_get p.globals n ≡ Some g → g.variable.id ≡ File n
