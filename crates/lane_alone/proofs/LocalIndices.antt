-- In the typed tree of a source each index variable of a foreach form is one of the function that has the form.
use Rattle.std.proofs.Common.{ℕ, suc, ◌+◌, ◌≤◌, Bool, true, false, List, [], ◌∷◌, ◌≡◌, refl, length, arith}
use Rattle.std.specs.Prelude.{Some, if◌then◌else◌}
use Rattle.gang_types.specs.declared.types.IntType.{IntType}
use Rattle.gang_types.specs.declared.types.IntType.TheVariants as t
use Rattle.gang_types.specs.declared.types.Rate.TheVariants.{Uniform}
use Rattle.gang_types.specs.declared.places.VarId.TheVariants.{Local}
use Rattle.gang_model.specs.Types.Tree.{Dimension, Rows, Tiles, Stmt, StepNumber, Then, If, Loop, BodyFirst, Switch, Segment, ForEach}
use Rattle.gang_model.specs.Source.Parsed.{ParsedDim, ParsedStmt, ParsedEmpty, ParsedBlock, ParsedDeclare, ParsedAssign, ParsedChange, ParsedIncrement, ParsedDoCall, ParsedBreak, ParsedContinue, ParsedReturn, ParsedIf, ParsedIfElse, ParsedWhile, ParsedDo, ParsedFor, ParsedSwitch, ParsedForEach, ParsedForEachActive, ParsedForEachUnique, ParsedStmts, ParsedLast, ParsedNext, ParsedSegments, ParsedNoMore, ParsedSegment}
use Rattle.gang_model.specs.Running.Numbering.{steps_in, steps_in_all}
use Rattle.gang_model.specs.Running.Step.{steps_of}
use Rattle.gang_model.specs.Names.Scope.{locals_in, locals_in_all}
use Rattle.gang_model.specs.Names.Bindings.{bindings_in}
use Rattle.gang_model.specs.Source.Judged.{Judged, Sound, Faulty, both}
use Rattle.gang_model.proofs.JudgedLaws.{OnSound, on_any, on_then, on_both, on_pair}
use Rattle.gang_model.proofs.NumberLaws.{Faithful, statement_faithful}
use Rattle.gang_model.specs.Types.Typing.{Scope, index_entry, given_value, expression}
use Rattle.gang_model.specs.Types.Calls.{Context}
use Rattle.gang_model.specs.Types.Statements.{test_of, dimensions, label_word, selector, Made, scope_after, index_entries, statement, statements, segments_of}
use Rattle.lane_alone.specs.Indices.{AreDimensionsLocal, AreRoundsLocal, AreIndicesLocal}

-- a statement of one step at most has no foreach form, which has two of its own
few_steps : (s : Stmt) → steps_of s ≤ 1 → AreIndicesLocal s
few_steps (Then first rest) few = (few_steps first (omega (arith, few)), few_steps rest (omega (arith, few)))
few_steps (If number e first other) few = (few_steps first (omega (arith, few)), few_steps other (omega (arith, few)))
few_steps (Loop number e update body) few = (few_steps update (omega (arith, few)), few_steps body (omega (arith, few)))
few_steps (BodyFirst number e body) few = few_steps body (omega (arith, few))
few_steps (Switch number e segments) few = few_steps segments (omega (arith, few))
few_steps (Segment label body rest) few = (few_steps body (omega (arith, few)), few_steps rest (omega (arith, few)))
few_steps (ForEach number rounds body) few = absurd (omega (arith, few))
few_steps s few = tt

-- the index variables of what a statement is made to
abbrev pub IsMadeLocal : Made → Type 0
IsMadeLocal m = AreIndicesLocal m.stmt

module _ (context : Context) where
  -- a statement of one step
  one_step : (s : ParsedStmt) (scope : Scope) (k : ℕ) (n : StepNumber) → steps_in s ≡ 1 → OnSound (statement s context scope k n) IsMadeLocal
  one_step s scope k n one = go (statement s context scope k n) (statement_faithful s context scope k n)
    where
      go : (j : Judged Made) → OnSound j (Faithful (steps_in s) n (bindings_in s k)) → OnSound j IsMadeLocal
      go (Sound m) h = few_steps m.stmt (omega (arith, h.0, one))
      go (Faulty first others) h = tt

  dimensions_local : (scope : Scope) (k : ℕ) (dims : List ParsedDim) → OnSound (dimensions scope k dims) AreDimensionsLocal
  dimensions_local scope k [] = tt
  dimensions_local scope k (d ∷ dims) =
      let bounds = both (given_value d.low scope t.Int32 Uniform) (given_value d.high scope t.Int32 Uniform) in
      on_pair bounds (dimensions scope (suc k) dims) _ (λ x. Unit {0}) AreDimensionsLocal AreDimensionsLocal (on_any bounds) (dimensions_local scope (suc k) dims) (λ x ds _ h. (tt, h))

  rounds_local : (is_tiled : Bool) (dims : List Dimension) → AreDimensionsLocal dims → AreRoundsLocal (if is_tiled then Tiles dims else Rows dims)
  rounds_local true dims h = h
  rounds_local false dims h = h

  mutual
    statement_local : (s : ParsedStmt) (scope : Scope) (k : ℕ) (n : StepNumber) → OnSound (statement s context scope k n) IsMadeLocal
    statement_local ParsedEmpty scope k n = tt
    statement_local (ParsedBlock ss) scope k n = statements_local ss scope k n
    statement_local (ParsedDeclare p spec at name e) scope k n = one_step (ParsedDeclare p spec at name e) scope k n refl
    statement_local (ParsedAssign p target e) scope k n = one_step (ParsedAssign p target e) scope k n refl
    statement_local (ParsedChange p target op e) scope k n = one_step (ParsedChange p target op e) scope k n refl
    statement_local (ParsedIncrement p target op) scope k n = one_step (ParsedIncrement p target op) scope k n refl
    statement_local (ParsedDoCall p name args) scope k n = one_step (ParsedDoCall p name args) scope k n refl
    statement_local (ParsedBreak p) scope k n = tt
    statement_local (ParsedContinue p) scope k n = tt
    statement_local (ParsedReturn p e) scope k n = one_step (ParsedReturn p e) scope k n refl
    statement_local (ParsedIf p e a) scope k n =
        on_pair (test_of scope (Some e)) (statement a context scope k (n + 1)) _ (λ x. Unit {0}) IsMadeLocal IsMadeLocal (on_any (test_of scope (Some e))) (statement_local a scope k (n + 1)) (λ c m _ h. (h, tt))
    statement_local (ParsedIfElse p e a b) scope k n =
        let first = statement a context scope k (n + 1) in
        let other = statement b context scope (k + locals_in a) (n + 1 + steps_in a) in
        on_pair (test_of scope (Some e)) (both first other) _ (λ x. Unit {0}) (λ ms. IsMadeLocal ms.0 × IsMadeLocal ms.1) IsMadeLocal (on_any (test_of scope (Some e)))
        (on_both first other IsMadeLocal IsMadeLocal (statement_local a scope k (n + 1)) (statement_local b scope (k + locals_in a) (n + 1 + steps_in a))) (λ c ms _ h. h)
    statement_local (ParsedWhile p e body) scope k n =
        on_pair (test_of scope (Some e)) (statement body context scope k n) _ (λ x. Unit {0}) IsMadeLocal IsMadeLocal (on_any (test_of scope (Some e))) (statement_local body scope k n) (λ c m _ h. (tt, h))
    statement_local (ParsedDo body p e) scope k n =
        on_pair (statement body context scope k n) (test_of scope (Some e)) _ IsMadeLocal (λ x. Unit {0}) IsMadeLocal (statement_local body scope k n) (on_any (test_of scope (Some e))) (λ m c h _. h)
    statement_local (ParsedFor p start e update body) scope k n =
        let inside = scope_after start scope k in
        let k' = k + locals_in start in
        let b = n + steps_in start in
        let u = n + steps_in start + steps_in body in
        let before = statement start context scope k n in
        let updating = statement update context inside k' u in
        let inner = statement body context inside (k' + locals_in update) b in
        on_pair (both before (test_of inside e)) (both updating inner) _ (λ x. IsMadeLocal x.0 × Unit {0}) (λ x. IsMadeLocal x.0 × IsMadeLocal x.1) IsMadeLocal
        (on_both before (test_of inside e) IsMadeLocal (λ x. Unit {0}) (statement_local start scope k n) (on_any (test_of inside e)))
        (on_both updating inner IsMadeLocal IsMadeLocal (statement_local update inside k' u) (statement_local body inside (k' + locals_in update) b))
        (λ x y h l. (h.0, l))
    statement_local (ParsedSwitch p e segments) scope k n =
        on_then (selector scope e) _ (λ x. Unit {0}) IsMadeLocal (on_any (selector scope e))
        (λ x _. on_then (segments_of segments x.type context scope k (n + 1)) _ IsMadeLocal IsMadeLocal (segments_local segments x.type scope k (n + 1)) (λ m h. h))
    statement_local (ParsedForEach p is_tiled dims body) scope k n =
        let inside = index_entries k dims scope in
        on_pair (dimensions scope k dims) (statement body context inside (k + length dims) (n + 1)) _ AreDimensionsLocal IsMadeLocal IsMadeLocal (dimensions_local scope k dims)
        (statement_local body inside (k + length dims) (n + 1)) (λ ds m d h. (rounds_local is_tiled ds d, h))
    statement_local (ParsedForEachActive p at name body) scope k n =
        let v = index_entry name (Local k) t.Int64 Uniform in
        on_then (statement body context (v ∷ scope) (suc k) (n + 1)) _ IsMadeLocal IsMadeLocal (statement_local body (v ∷ scope) (suc k) (n + 1)) (λ m h. (tt, h))
    statement_local (ParsedForEachUnique p at name e body) scope k n =
        on_then (expression e scope) _ (λ x. Unit {0}) IsMadeLocal (on_any (expression e scope))
        (λ x _. let v = index_entry name (Local k) x.type Uniform in
        on_then (statement body context (v ∷ scope) (suc k) (n + 1)) _ IsMadeLocal IsMadeLocal (statement_local body (v ∷ scope) (suc k) (n + 1)) (λ m h. (tt, h)))

    pub statements_local : (ss : ParsedStmts) (scope : Scope) (k : ℕ) (n : StepNumber) → OnSound (statements ss context scope k n) IsMadeLocal
    statements_local ParsedLast scope k n = tt
    statements_local (ParsedNext s ss) scope k n =
        let inside = scope_after s scope k in
        on_pair (statement s context scope k n) (statements ss context inside (k + locals_in s) (n + steps_in s)) _ IsMadeLocal IsMadeLocal IsMadeLocal
        (statement_local s scope k n) (statements_local ss inside (k + locals_in s) (n + steps_in s)) (λ a b h l. (h, l))

    segments_local : (segments : ParsedSegments) (type : IntType) (scope : Scope) (k : ℕ) (n : StepNumber) → OnSound (segments_of segments type context scope k n) IsMadeLocal
    segments_local ParsedNoMore type scope k n = tt
    segments_local (ParsedSegment p label ss rest) type scope k n =
        let first = statements ss context scope k n in
        let later = segments_of rest type context scope (k + locals_in_all ss) (n + steps_in_all ss) in
        on_pair (label_word p type label) (both first later) _ (λ w. Unit {0}) (λ ms. IsMadeLocal ms.0 × IsMadeLocal ms.1) IsMadeLocal (on_any (label_word p type label))
        (on_both first later IsMadeLocal IsMadeLocal (statements_local ss scope k n) (segments_local rest type scope (k + locals_in_all ss) (n + steps_in_all ss))) (λ w ms _ h. h)
