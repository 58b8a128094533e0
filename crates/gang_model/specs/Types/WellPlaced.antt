-- What it means that the control statements of a typed tree stand where they may (ISPC User's Guide, "Control flow": no `break` out
-- of a foreach form and no `return` in one; that `foreach` does not stand in `foreach` is a choice of this project).
use Rattle.std.specs.Prelude.{◌≡◌, true, List, [], ◌∷◌}
use Rattle.gang_model.specs.Types.Tree.{ResultFor, Nothing, Declares, Assigns, Returns, RoundsOf, Rows, Tiles, EachLane, EachValue, Stmt, Empty, Then, Declare, Assign, Change, If, Loop, BodyFirst, Break, Continue, Return, Switch, Segment, ForEach, Call, Check, PackedStore, PackedLoad, Function}
use Rattle.gang_model.specs.Source.Parsed.{Name}
use Rattle.gang_model.specs.Names.NameFaults.{Allowed, in_function, in_loop, in_switch, in_round, in_domain_round}

-- a result is returned only where `return` may stand
abbrev pub ResultPlaced : Allowed → ResultFor → Type 0
ResultPlaced may Nothing = Unit {0}
ResultPlaced may (Declares v) = Unit {0}
ResultPlaced may (Assigns v) = Unit {0}
ResultPlaced may Returns = may.returns ≡ true

-- a form over a domain stands only where one may stand
abbrev pub RoundsPlaced : Allowed → RoundsOf → Type 0
RoundsPlaced may (Rows dims) = may.domains ≡ true
RoundsPlaced may (Tiles dims) = may.domains ≡ true
RoundsPlaced may (EachLane v) = Unit {0}
RoundsPlaced may (EachValue v e) = Unit {0}

-- what may stand in the rounds of a foreach form
abbrev pub inside_rounds : RoundsOf → Allowed → Allowed
inside_rounds (Rows dims) may = in_domain_round may
inside_rounds (Tiles dims) may = in_domain_round may
inside_rounds (EachLane v) may = in_round may
inside_rounds (EachValue v e) may = in_round may

-- each `break`, `continue`, `return` and foreach form of a statement stands where it may
abbrev pub StmtPlaced : Allowed → Stmt → Type 0
StmtPlaced may Empty = Unit {0}
StmtPlaced may (Then first rest) = StmtPlaced may first × StmtPlaced may rest
StmtPlaced may (Declare number v e) = Unit {0}
StmtPlaced may (Assign number target e) = Unit {0}
StmtPlaced may (Change number target type op in_type e) = Unit {0}
StmtPlaced may (If number e first other) = StmtPlaced may first × StmtPlaced may other
StmtPlaced may (Loop number e update body) = StmtPlaced may update × StmtPlaced (in_loop may) body
StmtPlaced may (BodyFirst number e body) = StmtPlaced (in_loop may) body
StmtPlaced may (Break number) = may.breaks ≡ true
StmtPlaced may (Continue number) = may.continues ≡ true
StmtPlaced may (Return number e) = may.returns ≡ true
StmtPlaced may (Switch number e segments) = StmtPlaced (in_switch may) segments
StmtPlaced may (Segment label body rest) = StmtPlaced may body × StmtPlaced may rest
StmtPlaced may (ForEach number rounds body) = RoundsPlaced may rounds × StmtPlaced (inside_rounds rounds may) body
StmtPlaced may (Call number function args result_for) = ResultPlaced may result_for
StmtPlaced may (Check number e) = Unit {0}
StmtPlaced may (PackedStore number array from e result_for) = ResultPlaced may result_for
StmtPlaced may (PackedLoad number array from v result_for) = ResultPlaced may result_for

-- each function of a list is well placed, where the source has functions of these names
abbrev pub FunctionsPlaced : List Name → List Function → Type 0
FunctionsPlaced names [] = Unit {0}
FunctionsPlaced names (f ∷ functions) = StmtPlaced (in_function names) f.body × FunctionsPlaced names functions
