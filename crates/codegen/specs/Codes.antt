-- What it means that code does what the points of a program do.
use Rattle.std.specs.Prelude.{◌≡◌, ℕ, List, [], ◌∷◌, map, Option, Some, None, Vec}
use Rattle.std.specs.Global.{Global}
use Rattle.gang_model.specs.Types.Tree as t
use Rattle.mask_states.specs.Points as p
use Rattle.mask_states.specs.Points.{entries_of}
use Rattle.foreach_lowering.specs.declared.bounds.Order.TheVariants as by
use Rattle.foreach_lowering.specs.Forms.{FormsOf, round_forms}
use Rattle.typed_tree.specs.declared.expressions.Expr.{Expr}
use Rattle.typed_tree.specs.Views.{expr_view, result_view, var_view}
use Rattle.expression_instructions.specs.declared.code.Instruction.{Instruction}
use Rattle.expression_runs.specs.Correct.{Computes}
use Rattle.codegen.specs.declared.code.ArgCode.{ArgCode}
use Rattle.codegen.specs.declared.code.ArgCode.TheVariants as arg
use Rattle.codegen.specs.declared.code.DimensionCode.{DimensionCode}
use Rattle.codegen.specs.declared.code.FormCode.{FormCode}
use Rattle.codegen.specs.declared.code.FormCode.TheVariants as head
use Rattle.codegen.specs.declared.code.IndexCode.{IndexCode}
use Rattle.codegen.specs.declared.code.IndexCode.TheVariants as indexed
use Rattle.codegen.specs.declared.code.SegmentCode.{SegmentCode}
use Rattle.codegen.specs.declared.code.StepCode.{StepCode}
use Rattle.codegen.specs.declared.code.StepCode.TheVariants as step

-- two lists fit one by one
abbrev pub Fit : {A B : Type 0} → (A → B → Type 0) → List A → List B → Type 0
Fit P [] [] = Unit {0}
Fit P (x ∷ xs) (y ∷ ys) = P x y × Fit P xs ys
Fit P xs ys = ⊥

-- the code computes a value
pub record IsValue (e : t.Expr) (code : List Instruction) : Type 0 where
  pub expression : Expr
  pub is_view : expr_view expression ≡ e
  pub computes : Computes expression code

-- the same of a value, if there is one
abbrev pub IsOptionValue : Option t.Expr → Option (Vec Instruction Global) → Type 0
IsOptionValue None None = Unit {0}
IsOptionValue (Some e) (Some code) = IsValue e code.items
IsOptionValue e code = ⊥

-- the code of an argument: of a value for its parameter, of a part of an array by the index from which it is passed
abbrev pub IsArg : ArgCode → t.Arg → Type 0
IsArg (arg.Value parameter value) (t.Value x e) = (x ≡ var_view parameter) × IsValue e value.items
IsArg (arg.Array array from) (t.Array parameter passed index) = (passed ≡ array) × IsOptionValue index from
IsArg made argument = ⊥

-- the segments of a switch: label by label those of its definition, and entry by entry where they begin
abbrev pub AreSegments : List SegmentCode → (labelled : t.Stmt) → (entries : List ℕ) → Type 0
AreSegments [] t.Empty [] = Unit {0}
AreSegments (s ∷ ss) (t.Segment label body rest) (entry ∷ entries) = (label ≡ s.label) × (entry ≡ s.entry) × AreSegments ss rest entries
AreSegments ss labelled entries = ⊥

-- the code of a dimension's bounds
abbrev pub IsDimension : DimensionCode → t.Dimension → Type 0
IsDimension dimension d = IsValue d.low dimension.low.items × IsValue d.high dimension.high.items

-- the head of a foreach form: the code of its bounds, or of the value that it saves
abbrev pub DoesForm : FormCode → t.RoundsOf → Type 0
DoesForm (head.Domain order dimensions) (t.Rows ds) = (order ≡ by.Rows) × Fit IsDimension dimensions.items ds
DoesForm (head.Domain order dimensions) (t.Tiles ds) = (order ≡ by.Tiles) × Fit IsDimension dimensions.items ds
DoesForm head.EachLane (t.EachLane x) = Unit {0}
DoesForm (head.EachValue value) (t.EachValue x e) = IsValue e value.items
DoesForm code form = ⊥

-- the index variables of a foreach form, in the order of its dimensions
abbrev pub IndexesOf : IndexCode → t.RoundsOf → Type 0
IndexesOf (indexed.Domain order indices) (t.Rows ds) = (order ≡ by.Rows) × (map var_view indices.items ≡ map (λ d. d.index) ds)
IndexesOf (indexed.Domain order indices) (t.Tiles ds) = (order ≡ by.Tiles) × (map var_view indices.items ≡ map (λ d. d.index) ds)
IndexesOf (indexed.EachLane x) (t.EachLane y) = y ≡ var_view x
IndexesOf (indexed.EachValue x) (t.EachValue y e) = y ≡ var_view x
IndexesOf indices form = ⊥

-- the code of a step does what its point does
abbrev pub Does : StepCode → p.Point → Type 0
Does (step.Declare variable value next) (p.Put (t.Declare number x e) then) = (x ≡ var_view variable) × IsOptionValue e value × (then ≡ next)
Does (step.Assign variable value next) (p.Put (t.Assign number (t.Scalar x) e) then) = (x ≡ var_view variable) × IsValue e value.items × (then ≡ next)
Does (step.Change variable change value next) (p.Put (t.Change number (t.Scalar x) type op in_type e) then) =
    (x ≡ var_view variable) × (change ≡ record { operator = op; value_type = in_type; target_type = type }) × IsValue e value.items × (then ≡ next)
Does (step.AssignElement array index value next) (p.Put (t.Assign number (t.ElementOf stored rate i) e) then) =
    (stored ≡ array) × IsValue i index.items × IsValue e value.items × (then ≡ next)
Does (step.ChangeElement array index change value next) (p.Put (t.Change number (t.ElementOf stored rate i) type op in_type e) then) =
    (stored ≡ array) × IsValue i index.items × (change ≡ record { operator = op; value_type = in_type; target_type = type }) × IsValue e value.items × (then ≡ next)
Does (step.Check test next) (p.Put (t.Check number e) then) = IsValue e test.items × (then ≡ next)
Does (step.PackedStore array from value result_for next) (p.Put (t.PackedStore number stored index e for) then) =
    (stored ≡ array) × IsOptionValue index from × IsValue e value.items × (for ≡ result_view result_for) × (then ≡ next)
Does (step.PackedLoad array from into result_for next) (p.Put (t.PackedLoad number loaded index x for) then) =
    (loaded ≡ array) × IsOptionValue index from × (x ≡ var_view into) × (for ≡ result_view result_for) × (then ≡ next)
Does (step.Return value next) (p.Put (t.Return number e) then) = IsOptionValue e value × (then ≡ next)
Does (step.Go next) (p.Go then) = then ≡ next
Does (step.Branch test yes' no') (p.Branch e on off) = IsValue e test.items × (on ≡ yes') × (off ≡ no')
Does (step.Choose selector segments next) (p.Choose e labelled entries then) = IsValue e selector.items × AreSegments segments.items labelled entries × (then ≡ next)
Does (step.Begin form rounds next) (p.Begin f turns then) = DoesForm form f × (turns ≡ rounds) × (then ≡ next)
Does (step.Round form body) (p.Turn begin) = begin ≡ body
Does (step.Enter function args result_for next) (p.Enter called given for then) =
    (called ≡ function) × Fit IsArg args.items given × (for ≡ result_view result_for) × (then ≡ next)
Does code point = ⊥

-- the code of each step of a function
abbrev pub DoAll : List StepCode → List p.Point → Type 0
DoAll steps points = Fit Does steps points

-- the code of each function
abbrev pub DoEach : List (Vec StepCode Global) → List (List p.Point) → Type 0
DoEach functions table = Fit (λ steps points. DoAll steps.items points) functions table

-- ---- the form of each step of rounds

-- A step of rounds has the index variables of the form whose rounds its point is; no other step is the rounds of a form.
abbrev pub IsRoundOf : StepCode → Option t.RoundsOf → Type 0
IsRoundOf (step.Round form body) (Some f) = IndexesOf form f
IsRoundOf (step.Round form body) None = ⊥
IsRoundOf code (Some f) = ⊥
IsRoundOf code None = Unit {0}

-- the steps of each function, by the forms whose rounds its points are
abbrev pub AreRounds : Vec StepCode Global → FormsOf → Type 0
AreRounds steps forms = Fit IsRoundOf steps.items forms.rounds

abbrev pub RoundEach : List (Vec StepCode Global) → List t.Function → Type 0
RoundEach functions fs = Fit (λ steps f. Fit IsRoundOf steps.items (round_forms f)) functions fs

-- the code of a point that is the rounds of this form, or of none
abbrev pub IsCodeOf : StepCode → p.Point → Option t.RoundsOf → Type 0
IsCodeOf code point form = Does code point × IsRoundOf code form

-- ---- what is compiled

-- a statement that moves no lane has code of its own
abbrev pub MovesNoLane : t.Stmt → Type 0
MovesNoLane (t.Declare number x e) = Unit {0}
MovesNoLane (t.Assign number target e) = Unit {0}
MovesNoLane (t.Change number target type op in_type e) = Unit {0}
MovesNoLane (t.Return number e) = Unit {0}
MovesNoLane (t.Check number e) = Unit {0}
MovesNoLane (t.PackedStore number array from e for) = Unit {0}
MovesNoLane (t.PackedLoad number array from x for) = Unit {0}
MovesNoLane s = ⊥

-- A point of a function, with the form whose rounds it is: rounds have a form, and no other point has one. A switch knows where each of
-- its segments begins.
abbrev pub HasCode : p.Point → Option t.RoundsOf → Type 0
HasCode (p.Turn body) (Some form) = Unit {0}
HasCode (p.Turn body) None = ⊥
HasCode point (Some form) = ⊥
HasCode (p.Put s next) None = MovesNoLane s
HasCode (p.Choose e segments entries next) None = entries ≡ entries_of segments next
HasCode point None = Unit {0}

abbrev pub HaveCode : List p.Point → FormsOf → Type 0
HaveCode points forms = Fit HasCode points forms.rounds
