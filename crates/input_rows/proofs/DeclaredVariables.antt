-- A body declares no parameters.
use Rattle.std.proofs.Common.{ℕ, suc, ◌+◌, false, List, [], ◌∷◌, ◌++◌, ◌≡◌, refl, length}
use Rattle.std.specs.Prelude.{Some}
use Rattle.gang_types.specs.declared.types.IntType.{IntType}
use Rattle.gang_types.specs.declared.types.IntType.TheVariants as t
use Rattle.gang_types.specs.declared.types.Rate.TheVariants.{Uniform}
use Rattle.gang_types.specs.declared.places.VarId.TheVariants.{Local}
use Rattle.gang_model.specs.Types.Tree.{Nothing, StepNumber, Stmt, Variable}
use Rattle.gang_model.specs.Source.Parsed.{ParsedDim, ParsedStmt, ParsedEmpty, ParsedBlock, ParsedDeclare, ParsedAssign, ParsedChange, ParsedIncrement, ParsedDoCall, ParsedBreak, ParsedContinue, ParsedReturn, ParsedIf, ParsedIfElse, ParsedWhile, ParsedDo, ParsedFor, ParsedSwitch, ParsedForEach, ParsedForEachActive, ParsedForEachUnique, ParsedStmts, ParsedLast, ParsedNext, ParsedSegments, ParsedNoMore, ParsedSegment}
use Rattle.gang_model.specs.Running.Numbering.{steps_in, steps_in_all}
use Rattle.gang_model.specs.Names.Scope.{locals_in, locals_in_all}
use Rattle.gang_model.specs.Source.Judged.{Judged, Sound, unless, both, ◌>>=◌}
use Rattle.gang_model.proofs.JudgedLaws.{OnSound, on_any, on_then, on_both, on_pair}
use Rattle.gang_model.proofs.StandingLaws.{Each, each_join}
use Rattle.gang_model.specs.Types.Typing.{Scope, expression, var_of, declared, index_entry}
use Rattle.gang_model.specs.Types.Calls.{Context, call_of}
use Rattle.gang_model.specs.Types.TypeFaults.{variable_faults}
use Rattle.gang_model.specs.Types.Statements.{declaration, assignment, target_of, rate_of, operand_for, returning, test_of, dimensions, selector, label_word, Made, made, scope_after, index_entries, index_variables, statement, statements, segments_of}

-- a variable that is no parameter
abbrev pub IsOwn : Variable → Type 0
IsOwn v = v.is_parameter ≡ false

abbrev pub DeclaresOwn : Made → Type 0
DeclaresOwn m = Each IsOwn m.variables

alone_own : (j : Judged Stmt) → OnSound (j >>= (λ s. Sound (made s []))) DeclaresOwn
alone_own j = on_then j _ (λ s. Unit {0}) DeclaresOwn (on_any j) (λ s h. tt)

indices_own : (k : ℕ) (dims : List ParsedDim) → Each IsOwn (index_variables k dims)
indices_own k [] = tt
indices_own k (d ∷ dims) = (refl, indices_own (suc k) dims)

mutual
  pub statement_own : (s : ParsedStmt) (context : Context) (scope : Scope) (k : ℕ) (n : StepNumber) → OnSound (statement s context scope k n) DeclaresOwn
  statement_own ParsedEmpty context scope k n = tt
  statement_own (ParsedBlock ss) context scope k n = statements_own ss context scope k n
  statement_own (ParsedDeclare p spec at name e) context scope k n =
      let v = declared name (Local k) spec false false in
      let sound = unless (variable_faults at spec) v in
      let value = declaration context scope (var_of v.variable) e n in
      on_pair sound value _ (λ w. Unit {0}) (λ s. Unit {0}) DeclaresOwn (on_any sound) (on_any value) (λ w s _ _. (refl, tt))
  statement_own (ParsedAssign p target e) context scope k n = alone_own (assignment context scope target e n)
  statement_own (ParsedChange p target op e) context scope k n =
      let aim = target_of scope target.at target.name target.index in
      let operand = operand_for (rate_of aim) e scope in
      on_pair aim operand _ (λ a. Unit {0}) (λ x. Unit {0}) DeclaresOwn (on_any aim) (on_any operand) (λ a x _ _. tt)
  statement_own (ParsedIncrement p target op) context scope k n =
      let aim = target_of scope target.at target.name target.index in
      on_then aim _ (λ a. Unit {0}) DeclaresOwn (on_any aim) (λ a _. tt)
  statement_own (ParsedDoCall p name args) context scope k n =
      let call = call_of context scope p name args Nothing n in
      on_then call _ (λ c. Unit {0}) DeclaresOwn (on_any call) (λ c _. tt)
  statement_own (ParsedBreak p) context scope k n = tt
  statement_own (ParsedContinue p) context scope k n = tt
  statement_own (ParsedReturn p e) context scope k n = alone_own (returning context scope p e n)
  statement_own (ParsedIf p e a) context scope k n =
      on_pair (test_of scope (Some e)) (statement a context scope k (n + 1)) _ (λ x. Unit {0}) DeclaresOwn DeclaresOwn (on_any (test_of scope (Some e)))
      (statement_own a context scope k (n + 1)) (λ c m _ h. h)
  statement_own (ParsedIfElse p e a b) context scope k n =
      let first = statement a context scope k (n + 1) in
      let other = statement b context scope (k + locals_in a) (n + 1 + steps_in a) in
      on_pair (test_of scope (Some e)) (both first other) _ (λ x. Unit {0}) (λ ms. DeclaresOwn ms.0 × DeclaresOwn ms.1) DeclaresOwn (on_any (test_of scope (Some e)))
      (on_both first other DeclaresOwn DeclaresOwn (statement_own a context scope k (n + 1)) (statement_own b context scope (k + locals_in a) (n + 1 + steps_in a)))
      (λ c ms _ h. each_join IsOwn ms.0.variables ms.1.variables h.0 h.1)
  statement_own (ParsedWhile p e body) context scope k n =
      on_pair (test_of scope (Some e)) (statement body context scope k n) _ (λ x. Unit {0}) DeclaresOwn DeclaresOwn (on_any (test_of scope (Some e)))
      (statement_own body context scope k n) (λ c m _ h. h)
  statement_own (ParsedDo body p e) context scope k n =
      on_pair (statement body context scope k n) (test_of scope (Some e)) _ DeclaresOwn (λ x. Unit {0}) DeclaresOwn
      (statement_own body context scope k n) (on_any (test_of scope (Some e))) (λ m c h _. h)
  statement_own (ParsedFor p start e update body) context scope k n =
      let inside = scope_after start scope k in
      let k' = k + locals_in start in
      let b = n + steps_in start in
      let u = n + steps_in start + steps_in body in
      let before = statement start context scope k n in
      let updating = statement update context inside k' u in
      let inner = statement body context inside (k' + locals_in update) b in
      on_pair (both before (test_of inside e)) (both updating inner) _ (λ x. DeclaresOwn x.0 × Unit {0}) (λ x. DeclaresOwn x.0 × DeclaresOwn x.1) DeclaresOwn
      (on_both before (test_of inside e) DeclaresOwn (λ x. Unit {0}) (statement_own start context scope k n) (on_any (test_of inside e)))
      (on_both updating inner DeclaresOwn DeclaresOwn (statement_own update context inside k' u) (statement_own body context inside (k' + locals_in update) b))
      (λ x y h l. each_join IsOwn x.0.variables (y.0.variables ++ y.1.variables) h.0 (each_join IsOwn y.0.variables y.1.variables l.0 l.1))
  statement_own (ParsedSwitch p e segments) context scope k n =
      on_then (selector scope e) _ (λ x. Unit {0}) DeclaresOwn (on_any (selector scope e))
      (λ x _. on_then (segments_of segments x.type context scope k (n + 1)) _ DeclaresOwn DeclaresOwn (segments_own segments x.type context scope k (n + 1)) (λ m h. h))
  statement_own (ParsedForEach p is_tiled dims body) context scope k n =
      let bounds = dimensions scope k dims in
      on_pair bounds (statement body context (index_entries k dims scope) (k + length dims) (n + 1)) _ (λ x. Unit {0}) DeclaresOwn DeclaresOwn (on_any bounds)
      (statement_own body context (index_entries k dims scope) (k + length dims) (n + 1))
      (λ d m _ h. each_join IsOwn (index_variables k dims) m.variables (indices_own k dims) h)
  statement_own (ParsedForEachActive p at name body) context scope k n =
      let v = index_entry name (Local k) t.Int64 Uniform in
      on_then (statement body context (v ∷ scope) (suc k) (n + 1)) _ DeclaresOwn DeclaresOwn (statement_own body context (v ∷ scope) (suc k) (n + 1)) (λ m h. (refl, h))
  statement_own (ParsedForEachUnique p at name e body) context scope k n =
      on_then (expression e scope) _ (λ x. Unit {0}) DeclaresOwn (on_any (expression e scope))
      (λ x _. on_then (statement body context (index_entry name (Local k) x.type Uniform ∷ scope) (suc k) (n + 1)) _ DeclaresOwn DeclaresOwn
      (statement_own body context (index_entry name (Local k) x.type Uniform ∷ scope) (suc k) (n + 1)) (λ m h. (refl, h)))

  -- none of the variables that sound statements declare is a parameter
  pub statements_own : (ss : ParsedStmts) (context : Context) (scope : Scope) (k : ℕ) (n : StepNumber) → OnSound (statements ss context scope k n) DeclaresOwn
  statements_own ParsedLast context scope k n = tt
  statements_own (ParsedNext s ss) context scope k n =
      let inside = scope_after s scope k in
      on_pair (statement s context scope k n) (statements ss context inside (k + locals_in s) (n + steps_in s)) _ DeclaresOwn DeclaresOwn DeclaresOwn
      (statement_own s context scope k n) (statements_own ss context inside (k + locals_in s) (n + steps_in s)) (λ a b h l. each_join IsOwn a.variables b.variables h l)

  pub segments_own : (segments : ParsedSegments) (type : IntType) (context : Context) (scope : Scope) (k : ℕ) (n : StepNumber)
      → OnSound (segments_of segments type context scope k n) DeclaresOwn
  segments_own ParsedNoMore type context scope k n = tt
  segments_own (ParsedSegment p label ss rest) type context scope k n =
      let first = statements ss context scope k n in
      let later = segments_of rest type context scope (k + locals_in_all ss) (n + steps_in_all ss) in
      on_pair (label_word p type label) (both first later) _ (λ x. Unit {0}) (λ x. DeclaresOwn x.0 × DeclaresOwn x.1) DeclaresOwn (on_any (label_word p type label))
      (on_both first later DeclaresOwn DeclaresOwn (statements_own ss context scope k n) (segments_own rest type context scope (k + locals_in_all ss) (n + steps_in_all ss)))
      (λ w x _ h. each_join IsOwn x.0.variables x.1.variables h.0 h.1)
