-- Which of its variables a frame has declared where it stands: each lane that waits for a step has passed their declarations.
use Rattle.std.specs.Prelude.{◌≡◌, ℕ, suc, zero, Bool, true, false, ◌||◌, ◌⊎◌, List, [], ◌∷◌, ◌++◌, All, Option, Some, None, flat_map, slice_get, slice_index_or, if◌then◌else◌}
use Rattle.gang_types.specs.declared.places.VarId.{VarId}
use Rattle.gang_types.specs.declared.places.VarId.TheVariants.{File, Local}
use Rattle.gang_model.specs.Running.State.{Frame, Store, same_id}
use Rattle.gang_model.specs.Types.Tree.{StepNumber, Expr, Read, Element, Unary, Binary, Convert, And, Or, Choice, Reduce, Scan, OfOne, OfTwo, Extract, Insert, Rotate, Shift, Shuffle, ShuffleTwo, Select, Target, Scalar, ElementOf, Arg, Value, Array, ResultFor, Declares, Assigns, Returns, Dimension, RoundsOf, Rows, Tiles, EachLane, EachValue, Stmt, Empty, Then, Declare, Assign, Change, If, Loop, BodyFirst, Return, Switch, Segment, ForEach, Call, Check, PackedStore, PackedLoad, Variable, Standing, Function, Program}
use Rattle.mask_states.specs.Masked.{Level, Masked}
use Rattle.machine_states.specs.Variables.{Variables, is_array_of, own_of, parameters_of}
use Rattle.machine_states.specs.Nesting.{nested_at}
use Rattle.machine_states.specs.Awaited.{LevelsHold}

-- ---- the tree

-- a number is one of some
abbrev pub IsAmong : ℕ → List ℕ → Type 0
IsAmong k [] = ⊥
IsAmong k (n ∷ numbers) = (k ≡ n) ⊎ IsAmong k numbers

-- a variable is one of the file or of those that are declared
abbrev pub IsThere : (declared : List ℕ) → VarId → Type 0
IsThere declared (File k) = Unit {0}
IsThere declared (Local k) = IsAmong k declared

-- an expression reads such variables alone
abbrev pub NamesDeclared : (declared : List ℕ) → Expr → Type 0
NamesDeclared d (Read x) = IsThere d x.id
NamesDeclared d (Element array index) = NamesDeclared d index
NamesDeclared d (Unary op type a) = NamesDeclared d a
NamesDeclared d (Binary op type a b) = NamesDeclared d a × NamesDeclared d b
NamesDeclared d (Convert from to a) = NamesDeclared d a
NamesDeclared d (And a b) = NamesDeclared d a × NamesDeclared d b
NamesDeclared d (Or a b) = NamesDeclared d a × NamesDeclared d b
NamesDeclared d (Choice test a b) = NamesDeclared d test × NamesDeclared d a × NamesDeclared d b
NamesDeclared d (Reduce f type a) = NamesDeclared d a
NamesDeclared d (Scan f type a) = NamesDeclared d a
NamesDeclared d (OfOne f type a) = NamesDeclared d a
NamesDeclared d (OfTwo f type a b) = NamesDeclared d a × NamesDeclared d b
NamesDeclared d (Extract a index) = NamesDeclared d a × NamesDeclared d index
NamesDeclared d (Insert a index new) = NamesDeclared d a × NamesDeclared d index × NamesDeclared d new
NamesDeclared d (Rotate a by) = NamesDeclared d a × NamesDeclared d by
NamesDeclared d (Shift a by) = NamesDeclared d a × NamesDeclared d by
NamesDeclared d (Shuffle a places) = NamesDeclared d a × NamesDeclared d places
NamesDeclared d (ShuffleTwo a b places) = NamesDeclared d a × NamesDeclared d b × NamesDeclared d places
NamesDeclared d (Select test a b) = NamesDeclared d test × NamesDeclared d a × NamesDeclared d b
NamesDeclared d e = Unit {0}

abbrev pub OptionDeclared : (declared : List ℕ) → Option Expr → Type 0
OptionDeclared d None = Unit {0}
OptionDeclared d (Some e) = NamesDeclared d e

abbrev pub ArgsDeclared : (declared : List ℕ) → List Arg → Type 0
ArgsDeclared d [] = Unit {0}
ArgsDeclared d (Value x e ∷ args) = NamesDeclared d e × ArgsDeclared d args
ArgsDeclared d (Array parameter array from ∷ args) = OptionDeclared d from × ArgsDeclared d args

abbrev pub TargetDeclared : (declared : List ℕ) → Target → Type 0
TargetDeclared d (Scalar x) = IsThere d x.id
TargetDeclared d (ElementOf array rate index) = NamesDeclared d index

abbrev pub ResultDeclared : (declared : List ℕ) → ResultFor → Type 0
ResultDeclared d (Assigns x) = IsThere d x.id
ResultDeclared d result_for = Unit {0}

-- the number of a function's own variable
abbrev pub own_number : VarId → List ℕ
own_number (File k) = []
own_number (Local k) = k ∷ []

-- the variable that a call's result declares
abbrev pub declared_by_result : ResultFor → List ℕ
declared_by_result (Declares x) = own_number x.id
declared_by_result result_for = []

-- the bounds and the values that the head of a foreach form reads
abbrev pub DimensionsDeclared : (declared : List ℕ) → List Dimension → Type 0
DimensionsDeclared d [] = Unit {0}
DimensionsDeclared d (dimension ∷ dimensions) = NamesDeclared d dimension.low × NamesDeclared d dimension.high × DimensionsDeclared d dimensions

abbrev pub FormDeclared : (declared : List ℕ) → RoundsOf → Type 0
FormDeclared d (Rows dimensions) = DimensionsDeclared d dimensions
FormDeclared d (Tiles dimensions) = DimensionsDeclared d dimensions
FormDeclared d (EachLane x) = Unit {0}
FormDeclared d (EachValue x e) = NamesDeclared d e

-- the index variables of a form, which each of its rounds declares
abbrev pub declared_by_form : RoundsOf → List ℕ
declared_by_form (Rows dimensions) = flat_map (λ dimension. own_number dimension.index.id) dimensions
declared_by_form (Tiles dimensions) = flat_map (λ dimension. own_number dimension.index.id) dimensions
declared_by_form (EachLane x) = own_number x.id
declared_by_form (EachValue x e) = own_number x.id

-- the variables that a statement has declared for each lane that goes on behind it
abbrev pub declared_by : Stmt → List ℕ
declared_by (Then first rest) = declared_by rest ++ declared_by first
declared_by (Declare number x e) = own_number x.id
declared_by (Call number called args result_for) = declared_by_result result_for
declared_by (PackedStore number array from e result_for) = declared_by_result result_for
declared_by (PackedLoad number array from x result_for) = declared_by_result result_for
declared_by s = []

-- whether a result is returned
abbrev pub is_returned : ResultFor → Bool
is_returned Returns = true
is_returned result_for = false

-- whether lanes may return in a statement
abbrev pub may_return : Stmt → Bool
may_return (Then first rest) = may_return first || may_return rest
may_return (If number test first other) = may_return first || may_return other
may_return (Loop number test update body) = may_return update || may_return body
may_return (BodyFirst number test body) = may_return body
may_return (Return number e) = true
may_return (Switch number e segments) = may_return segments
may_return (Segment label body rest) = may_return body || may_return rest
may_return (ForEach number form body) = may_return body
may_return (Call number called args result_for) = is_returned result_for
may_return (PackedStore number array from e result_for) = is_returned result_for
may_return (PackedLoad number array from x result_for) = is_returned result_for
may_return s = false

-- the variables that a statement has declared for each lane that goes on behind it, and for each that returns in it: those that are
-- declared before its first part in which lanes may return
abbrev pub declared_before_return : Stmt → List ℕ
declared_before_return (Then first rest) = if may_return first then [] else declared_before_return rest ++ declared_by first
declared_before_return s = if may_return s then [] else declared_by s

-- each variable that a statement names is declared before it; lanes that enter a switch at a segment have passed none before it
abbrev pub DeclaresFirst : (declared : List ℕ) → Stmt → Type 0
DeclaresFirst d (Then first rest) = DeclaresFirst d first × DeclaresFirst (declared_by first ++ d) rest
DeclaresFirst d (Declare number x e) = OptionDeclared d e
DeclaresFirst d (Assign number target e) = TargetDeclared d target × NamesDeclared d e
DeclaresFirst d (Change number target type op in_type e) = TargetDeclared d target × NamesDeclared d e
DeclaresFirst d (If number test first other) = NamesDeclared d test × DeclaresFirst d first × DeclaresFirst d other
DeclaresFirst d (Loop number test update body) = NamesDeclared d test × DeclaresFirst d update × DeclaresFirst d body
DeclaresFirst d (BodyFirst number test body) = NamesDeclared d test × DeclaresFirst d body
DeclaresFirst d (Return number e) = OptionDeclared d e
DeclaresFirst d (Switch number e segments) = NamesDeclared d e × DeclaresFirst d segments
DeclaresFirst d (Segment label body rest) = DeclaresFirst d body × DeclaresFirst d rest
DeclaresFirst d (ForEach number form body) = FormDeclared d form × DeclaresFirst (declared_by_form form ++ d) body
DeclaresFirst d (Call number called args result_for) = ArgsDeclared d args × ResultDeclared d result_for
DeclaresFirst d (Check number e) = NamesDeclared d e
DeclaresFirst d (PackedStore number array from e result_for) = OptionDeclared d from × NamesDeclared d e × ResultDeclared d result_for
DeclaresFirst d (PackedLoad number array from x result_for) = OptionDeclared d from × IsThere d x.id × ResultDeclared d result_for
DeclaresFirst d s = Unit {0}

-- for each step of a statement, in running order, what is declared before it; a form's index variables are declared in its body alone
abbrev pub declared_at : (declared : List ℕ) → Stmt → List (List ℕ)
declared_at d Empty = []
declared_at d (Then first rest) = declared_at d first ++ declared_at (declared_by first ++ d) rest
declared_at d (If number test first other) = d ∷ (declared_at d first ++ declared_at d other)
declared_at d (Loop number test update body) = declared_at d body ++ (declared_at d update ++ d ∷ [])
declared_at d (BodyFirst number test body) = declared_at d body ++ d ∷ []
declared_at d (Switch number e segments) = d ∷ declared_at d segments
declared_at d (Segment label body rest) = declared_at d body ++ declared_at d rest
declared_at d (ForEach number form body) = d ∷ (declared_at (declared_by_form form ++ d) body ++ d ∷ [])
declared_at d s = d ∷ []

-- ---- functions

-- the numbers of those of the first n variables that are no arrays
abbrev pub scalars_below : List Variable → (n : ℕ) → List ℕ
scalars_below own zero = []
scalars_below own (suc n) = if is_array_of (slice_get own n) then scalars_below own n else n ∷ scalars_below own n

-- the numbers of a function's parameters that are no arrays
abbrev pub scalar_parameters : Variables → (function : ℕ) → List ℕ
scalar_parameters variables n = scalars_below (own_of variables n) (parameters_of variables n)

abbrev pub declared_for : Variables → (function : ℕ) → Function → List (List ℕ)
declared_for variables n f = declared_at (scalar_parameters variables n) f.body

-- what is declared for each lane that has ended or returned
abbrev pub declared_at_end : Variables → (function : ℕ) → Function → List ℕ
declared_at_end variables n f = declared_before_return f.body ++ scalar_parameters variables n

-- what is declared before a step of a function, or before its closing brace
abbrev pub declared_before : Variables → (function : ℕ) → Function → StepNumber → List ℕ
declared_before variables n f number = slice_index_or (declared_for variables n f) number (declared_at_end variables n f)

-- a scalar in scope at a step is declared before it
abbrev pub IsDeclaredName : (declared : List ℕ) → Variable → Type 0
IsDeclaredName d v = v.is_array ≡ false → IsThere d v.id

-- what a function names is declared before, and so are the names in scope at its steps and at its closing brace
pub record IsDeclaredFirst (variables : Variables) (n : ℕ) (f : Function) : Type 0 where
  pub body : DeclaresFirst (scalar_parameters variables n) f.body
  pub scopes : (number : ℕ) (standing : Standing) → slice_get f.standings number ≡ Some standing
      → All (IsDeclaredName (declared_before variables n f number)) standing.scope

abbrev pub AreDeclaredFirst : Variables → Program → Type 0
AreDeclaredFirst variables p = (n : ℕ) (f : Function) → slice_get p.functions n ≡ Some f → IsDeclaredFirst variables n f

-- ---- frames

-- whether a store has a variable
abbrev pub has_entry : Store → VarId → Bool
has_entry [] v = false
has_entry (entry ∷ store) v = same_id entry.0 v || has_entry store v

-- a frame has these variables
abbrev pub HasAll : List ℕ → Store → Type 0
HasAll d store = (k : ℕ) → IsAmong k d → has_entry store (Local k) ≡ true

-- a step of the n-th function that a lane may wait for in a level with so many below it: a frame with these variables has all that is
-- declared before the step, and the step stands in so many foreach forms
pub record IsAwaited (variables : Variables) (n : ℕ) (f : Function) (vars : Store) (depth : ℕ) (number : StepNumber) : Type 0 where
  pub has_all : HasAll (declared_before variables n f number) vars
  pub nested : nested_at f number ≡ depth

-- a frame's lanes wait for such steps alone
abbrev pub FrameDeclared : Variables → Program → Frame → List Level → Type 0
FrameDeclared variables p frame levels =
    (f : Function) → slice_get p.functions frame.function ≡ Some f → LevelsHold (IsAwaited variables frame.function f frame.vars) f levels

-- so do those of each frame
abbrev pub FramesDeclared : Variables → Program → List Frame → List (List Level) → Type 0
FramesDeclared variables p [] levels = Unit {0}
FramesDeclared variables p (frame ∷ frames) [] = Unit {0}
FramesDeclared variables p (frame ∷ frames) (levels ∷ rest) = FrameDeclared variables p frame levels × FramesDeclared variables p frames rest

abbrev pub AreDeclared : Variables → Program → Masked → Type 0
AreDeclared variables p masked = FramesDeclared variables p masked.state.frames masked.levels
