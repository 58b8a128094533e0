-- Sound statements name nothing before it is declared, and the debugger lists at each of their steps what is
-- declared before it.
use Rattle.std.proofs.Common.{ℕ, suc, ◌+◌, Bool, true≢false, true, false, ◌||◌, List, [], ◌∷◌, ◌++◌, append_assoc, length, ◌≡◌, refl, sym, ◌∙◌, ap, subst, inl}
use Rattle.std.specs.Prelude.{Option, Some, if◌then◌else◌}
use Rattle.std.proofs.Math.Bool.{or-false}
use Rattle.gang_types.specs.declared.types.IntType.{IntType}
use Rattle.gang_types.specs.declared.types.IntType.TheVariants as t
use Rattle.gang_types.specs.declared.types.Rate.TheVariants.{Uniform}
use Rattle.gang_types.specs.declared.places.Place.{Place}
use Rattle.gang_types.specs.declared.places.VarId.{VarId}
use Rattle.gang_types.specs.declared.places.VarId.TheVariants.{Local}
use Rattle.gang_model.specs.Types.Tree.{Expr, Nothing, RoundsOf, Rows, Tiles, EachLane, EachValue, StepNumber, Stmt, Empty, Then, If, Loop, BodyFirst, Break, Continue, Switch, Segment, ForEach, Variable}
use Rattle.gang_model.specs.Source.Parsed.{Name, ParsedExpr, ParsedStmt, ParsedEmpty, ParsedBlock, ParsedDeclare, ParsedAssign, ParsedChange, ParsedIncrement, ParsedDoCall, ParsedBreak, ParsedContinue, ParsedReturn, ParsedIf, ParsedIfElse, ParsedWhile, ParsedDo, ParsedFor, ParsedSwitch, ParsedForEach, ParsedForEachActive, ParsedForEachUnique, ParsedStmts, ParsedLast, ParsedNext, ParsedSegments, ParsedNoMore, ParsedSegment}
use Rattle.gang_model.specs.declared.forms.Label.{Label}
use Rattle.gang_model.specs.Source.SpellsStatements.{is_declaration, HasNoDeclaration}
use Rattle.gang_model.specs.Running.Numbering.{steps_in, steps_in_all}
use Rattle.gang_model.specs.Names.Scope.{Site, with_name, enclosed, past, locals_in, locals_in_all, after, after_all, NameStanding, standing, at_test, in_for, in_rounds, in_domain, standings_in, standings_in_all, standings_in_segments, has_return, one_returns, some_segment_returns, before_return}
use Rattle.gang_model.specs.Source.Judged.{Judged, Sound, Faulty, unless, both}
use Rattle.gang_model.proofs.JudgedLaws.{OnSound, on_any, on_then, on_both, on_pair}
use Rattle.gang_model.proofs.ScopeLaws.{after-next, after_all-next}
use Rattle.gang_model.specs.Types.Conversions.{Typed}
use Rattle.gang_model.specs.Types.Typing.{Entry, Scope, declared, index_entry, var_of, expression}
use Rattle.gang_model.specs.Types.Calls.{Context, call_of}
use Rattle.gang_model.specs.Types.TypeFaults.{variable_faults}
use Rattle.gang_model.specs.Types.Statements.{declaration, assignment, target_of, rate_of, operand_for, changed, number_one, returning, test_of, dimensions, label_word, selector, Made, made, scope_after, index_entries, statement, statements, segments_of}
use Rattle.machine_states.specs.Declared.{IsThere, FormDeclared, declared_by_form, declared_by, may_return, declared_before_return, DeclaresFirst, declared_at}
use Rattle.runnable_programs.proofs.WellSpelled.{IsWellSpelled, AreWellSpelled, SegmentsWellSpelled}
use Rattle.runnable_programs.proofs.ThereNames.{ScopeThere, NamesThere, scope_more, names_more, there_listed, AreListed, listed_join, listed_last}
use Rattle.runnable_programs.proofs.StepsNamed.{Before, IsStep, IsNamed, IsValueNamed, expression-named, selector-named, test-named, alone-step, declaration-step, assignment-step, change-step, increment-step, returning-step}
use Rattle.runnable_programs.proofs.IndexVariables.{IsHead, one-head, AreNamed, dimensions-named, domain-head}

-- what follows for a sound part
on_more : {A : Type 0} (j : Judged A) (P Q : A → Type 0) → OnSound j P → ((a : A) → P a → Q a) → OnSound j Q
on_more (Sound a) P Q p f = f a p
on_more (Faulty first others) P Q p f = tt

-- a typed form that names variables in scope alone and leaves such a scope, whose first variable has the number k; what the
-- debugger lists at its steps is declared before them
pub record IsFirst (scope later : Scope) (k : ℕ) (standings : Site → List NameStanding) (leaves : Site → Site) (returns : Bool) (s : Stmt) : Type 0 where
  pub first : (b : Before scope) → DeclaresFirst b.there s
  pub scopes : (b : Before scope) → ScopeThere (declared_by s ++ b.there) later
  pub lists : (there : List ℕ) (site : Site) → site.next ≡ k → NamesThere there site.environment → AreListed (declared_at there s) (standings site)
  pub sites : (there : List ℕ) (site : Site) → site.next ≡ k → NamesThere there site.environment → NamesThere (declared_by s ++ there) (leaves site).environment
  pub returned : may_return s ≡ returns

-- what is in scope behind a statement
abbrev behind : (scope later : Scope) (k : ℕ) (standings : Site → List NameStanding) (leaves : Site → Site) (returns : Bool) (s : Stmt)
    → IsFirst scope later k standings leaves returns s → Before scope → Before later
behind scope later k standings leaves returns s h b = record { there = declared_by s ++ b.there; in_scope = h.scopes b }

-- ---- one step

one_listed : (scope : Scope) (p : Place) (own : List ℕ) (returns : Bool) (s : Stmt) → IsStep scope own returns s
    → (there : List ℕ) (site : Site) → NamesThere there site.environment → AreListed (declared_at there s) (standing p site ∷ [])
one_listed scope p own returns s step there site names =
    subst (λ before. AreListed before (standing p site ∷ [])) (sym (step.alone there)) (there_listed there site.environment names, tt)

-- a step that declares nothing
one_first : (scope : Scope) (k : ℕ) (p : Place) (returns : Bool) (s : Stmt) → IsStep scope [] returns s
    → IsFirst scope scope k (λ site. standing p site ∷ []) (past 0) returns s
one_first scope k p returns s step = record {
  first = step.first;
  scopes = λ b. scope_more (declared_by s) b.there scope b.in_scope;
  lists = λ there site e names. one_listed scope p [] returns s step there site names;
  sites = λ there site e names. names_more (declared_by s) there site.environment names;
  returned = step.returned;
}

-- a declaration
declaration_first : (scope : Scope) (k : ℕ) (p : Place) (name : Name) (v : Entry) (s : Stmt) → v.variable.id ≡ Local k → IsStep scope (k ∷ []) false s
    → IsFirst scope (v ∷ scope) k (λ site. standing p site ∷ []) (with_name name) false s
declaration_first scope k p name v s id step = record {
  first = step.first;
  scopes = λ b. subst (λ own. ScopeThere (own ++ b.there) (v ∷ scope)) (sym step.declares) (λ scalar. by_id b v.variable.id id, scope_more (k ∷ []) b.there scope b.in_scope);
  lists = λ there site e names. one_listed scope p (k ∷ []) false s step there site names;
  sites = λ there site e names. subst (λ own. NamesThere (own ++ there) (with_name name site).environment) (sym step.declares) (inl e, names_more (k ∷ []) there site.environment names);
  returned = step.returned;
}
  where
    by_id : (b : Before scope) (i : VarId) → i ≡ Local k → IsThere (k ∷ b.there) i
    by_id b i e = subst (IsThere (k ∷ b.there)) (sym e) (inl refl)

-- ---- all statements

-- a sound statement
abbrev pub StatementFirst : ParsedStmt → Scope → ℕ → Made → Type 0
StatementFirst s scope k m = IsFirst scope (scope_after s scope k) k (standings_in s) (after s) (has_return s) m.stmt

-- sound statements
pub record StatementsFirst (ss : ParsedStmts) (scope : Scope) (k : ℕ) (m : Made) : Type 0 where
  pub first : (b : Before scope) → DeclaresFirst b.there m.stmt
  pub lists : (there : List ℕ) (site : Site) → site.next ≡ k → NamesThere there site.environment → AreListed (declared_at there m.stmt) (standings_in_all ss site)
  pub closing : (there : List ℕ) (site : Site) → site.next ≡ k → NamesThere there site.environment
      → NamesThere (declared_before_return m.stmt ++ there) (after_all (before_return ss) site).environment
  pub returned : may_return m.stmt ≡ one_returns ss

block_first : (ss : ParsedStmts) (scope : Scope) (k : ℕ) (m : Made) → StatementsFirst ss scope k m → StatementFirst (ParsedBlock ss) scope k m
block_first ss scope k m h = record {
  first = h.first;
  scopes = λ b. scope_more (declared_by m.stmt) b.there scope b.in_scope;
  lists = λ there site e names. h.lists there (enclosed site) e names;
  sites = λ there site e names. names_more (declared_by m.stmt) there site.environment names;
  returned = h.returned;
}

-- ---- branches

if_first : (p : Place) (e : ParsedExpr) (s : ParsedStmt) (scope : Scope) (k : ℕ) (n : StepNumber) (test : Expr) (m : Made) → IsNamed scope test → StatementFirst s scope k m
    → IsFirst scope scope k (standings_in (ParsedIf p e s)) (after (ParsedIf p e s)) (has_return s) (If n test m.stmt Empty)
if_first p e s scope k n test m u h = record {
  first = λ b. (u b, h.first b, tt);
  scopes = λ b. b.in_scope;
  lists = λ there site same names.
      (there_listed there site.environment names, listed_last (declared_at there m.stmt) (standings_in s (enclosed site)) (h.lists there (enclosed site) same names));
  sites = λ there site same names. names;
  returned = or-false (may_return m.stmt) ∙ h.returned;
}

both_or : (a b c d : Bool) → a ≡ c → b ≡ d → (a || b) ≡ (c || d)
both_or a b c d e f = ap (λ x. x || b) e ∙ ap (λ x. c || x) f

either_first : (p : Place) (e : ParsedExpr) (s r : ParsedStmt) (scope : Scope) (k : ℕ) (n : StepNumber) (test : Expr) (m o : Made) → IsNamed scope test
    → StatementFirst s scope k m → StatementFirst r scope (k + locals_in s) o
    → IsFirst scope scope k (standings_in (ParsedIfElse p e s r)) (after (ParsedIfElse p e s r)) (has_return s || has_return r) (If n test m.stmt o.stmt)
either_first p e s r scope k n test m o u h g = record {
  first = λ b. (u b, h.first b, g.first b);
  scopes = λ b. b.in_scope;
  lists = λ there site same names. (
    there_listed there site.environment names,
    listed_join (declared_at there m.stmt) (declared_at there o.stmt) (standings_in s (enclosed site)) (standings_in r (enclosed (past (locals_in s) site)))
        (h.lists there (enclosed site) same names) (g.lists there (enclosed (past (locals_in s) site)) (ap (λ i. i + locals_in s) same) names),
  );
  sites = λ there site same names. names;
  returned = both_or (may_return m.stmt) (may_return o.stmt) (has_return s) (has_return r) h.returned g.returned;
}

-- ---- loops

while_first : (p : Place) (e : ParsedExpr) (s : ParsedStmt) (scope : Scope) (k : ℕ) (n : StepNumber) (test : Expr) (m : Made) → IsNamed scope test → StatementFirst s scope k m
    → IsFirst scope scope k (standings_in (ParsedWhile p e s)) (after (ParsedWhile p e s)) (has_return s) (Loop n test Empty m.stmt)
while_first p e s scope k n test m u h = record {
  first = λ b. (u b, tt, h.first b);
  scopes = λ b. b.in_scope;
  lists = λ there site same names.
      listed_join (declared_at there m.stmt) (there ∷ []) (standings_in s (enclosed site)) (standing p site ∷ [])
      (h.lists there (enclosed site) same names) (there_listed there site.environment names, tt);
  sites = λ there site same names. names;
  returned = h.returned;
}

do_first : (p : Place) (e : ParsedExpr) (s : ParsedStmt) (scope : Scope) (k : ℕ) (n : StepNumber) (test : Expr) (m : Made) → IsNamed scope test → StatementFirst s scope k m
    → IsFirst scope scope k (standings_in (ParsedDo s p e)) (after (ParsedDo s p e)) (has_return s) (BodyFirst n test m.stmt)
do_first p e s scope k n test m u h = record {
  first = λ b. (u b, h.first b);
  scopes = λ b. b.in_scope;
  lists = λ there site same names.
      listed_join (declared_at there m.stmt) (there ∷ []) (standings_in s (enclosed site)) (standing p site ∷ [])
      (h.lists there (enclosed site) same names) (there_listed there site.environment names, tt);
  sites = λ there site same names. names;
  returned = h.returned;
}

quiet_or : (a b c d : Bool) → a ≡ false → b ≡ false → c ≡ d → (a || (b || c)) ≡ d
quiet_or a b c d e f g = ap (λ x. x || (b || c)) e ∙ (ap (λ x. x || c) f ∙ g)

module _ (p : Place) (start : ParsedStmt) (e : Option ParsedExpr) (update body : ParsedStmt) (scope : Scope) (k : ℕ) where
  abbrev inner : Scope
  inner = scope_after start scope k

  abbrev inner_k : ℕ
  inner_k = k + locals_in start

  for_first : (n : StepNumber) (test : Expr) (s u m : Made) → (has_return start ≡ false) → (has_return update ≡ false) → IsNamed inner test
      → StatementFirst start scope k s → StatementFirst update inner inner_k u → StatementFirst body inner (inner_k + locals_in update) m
      → IsFirst scope scope k (standings_in (ParsedFor p start e update body)) (after (ParsedFor p start e update body)) (has_return body) (Then s.stmt (Loop n test u.stmt m.stmt))
  for_first n test s u m quiet_start quiet_update named h g f = record {
    first = λ b.
        let inside = behind scope inner k (standings_in start) (after start) (has_return start) s.stmt h b in
        (h.first b, (named inside, g.first inside, f.first inside));
    scopes = λ b. scope_more (declared_by s.stmt) b.there scope b.in_scope;
    lists = λ there site same names.
        let later = declared_by s.stmt ++ there in
        let inside = at_test start site in
        let there_inside : NamesThere later inside.environment = h.sites there (enclosed site) same names in
        let next : inside.next ≡ inner_k = after-next start (enclosed site) ∙ ap (λ i. i + locals_in start) same in
        listed_join (declared_at there s.stmt) (declared_at later m.stmt ++ (declared_at later u.stmt ++ later ∷ [])) (standings_in start (enclosed site))
        (standings_in body (in_for start update site) ++ (standings_in update inside ++ standing p inside ∷ []))
        (h.lists there (enclosed site) same names)
        (listed_join (declared_at later m.stmt) (declared_at later u.stmt ++ later ∷ []) (standings_in body (in_for start update site)) (standings_in update inside ++ standing p inside ∷ [])
        (f.lists later (in_for start update site) (ap (λ i. i + locals_in update) next) there_inside)
        (listed_join (declared_at later u.stmt) (later ∷ []) (standings_in update inside) (standing p inside ∷ [])
        (g.lists later inside next there_inside) (there_listed later inside.environment there_inside, tt)));
    sites = λ there site same names. names_more (declared_by s.stmt) there site.environment names;
    returned = quiet_or (may_return s.stmt) (may_return u.stmt) (may_return m.stmt) (has_return body) (h.returned ∙ quiet_start) (g.returned ∙ quiet_update) f.returned;
  }

-- ---- one after the other

closing_or : (typed parsed : Bool) (own there : List ℕ) (s : ParsedStmt) (ss : ParsedStmts) (site : Site) → typed ≡ parsed → NamesThere there site.environment
    → NamesThere (own ++ there) (after_all ss (after s site)).environment
    → NamesThere ((if typed then [] else own) ++ there) (after_all (if parsed then ParsedLast else ParsedNext s ss) site).environment
closing_or true true own there s ss site e now later = now
closing_or true false own there s ss site e now later = absurd cc
closing_or false true own there s ss site e now later = absurd cc
closing_or false false own there s ss site e now later = later

next_first : (s : ParsedStmt) (ss : ParsedStmts) (scope : Scope) (k : ℕ) (a m : Made) → StatementFirst s scope k a → StatementsFirst ss (scope_after s scope k) (k + locals_in s) m
    → (variables : List Variable) → StatementsFirst (ParsedNext s ss) scope k (made (Then a.stmt m.stmt) variables)
next_first s ss scope k a m h more variables = record {
  first = λ b. (h.first b, more.first (behind scope (scope_after s scope k) k (standings_in s) (after s) (has_return s) a.stmt h b));
  lists = λ there site e names.
      let later = declared_by a.stmt ++ there in
      listed_join (declared_at there a.stmt) (declared_at later m.stmt) (standings_in s site) (standings_in_all ss (after s site))
      (h.lists there site e names) (more.lists later (after s site) (after-next s site ∙ ap (λ i. i + locals_in s) e) (h.sites there site e names));
  closing = λ there site e names.
      closing_or (may_return a.stmt) (has_return s) (declared_before_return m.stmt ++ declared_by a.stmt) there s (before_return ss) site h.returned names
      (subst (λ all. NamesThere all (after_all (before_return ss) (after s site)).environment) (sym (append_assoc (declared_before_return m.stmt) (declared_by a.stmt) there))
      (more.closing (declared_by a.stmt ++ there) (after s site) (after-next s site ∙ ap (λ i. i + locals_in s) e) (h.sites there site e names)));
  returned = both_or (may_return a.stmt) (may_return m.stmt) (has_return s) (one_returns ss) h.returned more.returned;
}

-- ---- foreach forms

rounds_first : (p : Place) (s : ParsedStmt) (scope inside : Scope) (k inside_k : ℕ) (enters : Site → Site) (count : ℕ) (n : StepNumber) (form : RoundsOf) (m : Made)
    → IsHead scope inside k inside_k enters form → StatementFirst s inside inside_k m
    → IsFirst scope scope k (λ site. standing p site ∷ (standings_in s (enters site) ++ standing p site ∷ [])) (past count) (has_return s) (ForEach n form m.stmt)
rounds_first p s scope inside k inside_k enters count n form m head h = record {
  first = λ b. (head.named b, h.first (record { there = declared_by_form form ++ b.there; in_scope = head.scopes b }));
  scopes = λ b. b.in_scope;
  lists = λ there site same names.
      let later = declared_by_form form ++ there in
      let here = there_listed there site.environment names in (
        here,
        listed_join (declared_at later m.stmt) (there ∷ []) (standings_in s (enters site)) (standing p site ∷ [])
            (h.lists later (enters site) (head.next site same) (head.names there site same names)) (here, tt),
      );
  sites = λ there site same names. names;
  returned = h.returned;
}

-- `foreach_active` and `foreach_unique`
lanes_first : (p : Place) (name : Name) (s : ParsedStmt) (scope : Scope) (k : ℕ) (n : StepNumber) (type : IntType) (form : RoundsOf) (m : Made)
    → declared_by_form form ≡ k ∷ [] → ((b : Before scope) → FormDeclared b.there form) → StatementFirst s (index_entry name (Local k) type Uniform ∷ scope) (suc k) m
    → IsFirst scope scope k (λ site. standing p site ∷ (standings_in s (in_rounds name site) ++ standing p site ∷ [])) (past (1 + locals_in s)) (has_return s) (ForEach n form m.stmt)
lanes_first p name s scope k n type form m own named h =
    rounds_first p s scope (index_entry name (Local k) type Uniform ∷ scope) k (suc k) (in_rounds name) (1 + locals_in s) n form m (one-head scope k name type form own named) h

-- ---- `switch`

-- sound segments of a `switch`
pub record SegmentsFirst (segments : ParsedSegments) (scope : Scope) (k : ℕ) (m : Made) : Type 0 where
  pub first : (b : Before scope) → DeclaresFirst b.there m.stmt
  pub lists : (there : List ℕ) (site : Site) → site.next ≡ k → NamesThere there site.environment → AreListed (declared_at there m.stmt) (standings_in_segments segments site)
  pub returned : may_return m.stmt ≡ some_segment_returns segments

switch_first : (p : Place) (e : ParsedExpr) (segments : ParsedSegments) (scope : Scope) (k : ℕ) (n : StepNumber) (x : Typed) (m : Made) → IsValueNamed scope x
    → SegmentsFirst segments scope k m → StatementFirst (ParsedSwitch p e segments) scope k (made (Switch n x.expr m.stmt) m.variables)
switch_first p e segments scope k n x m u h = record {
  first = λ b. (u b, h.first b);
  scopes = λ b. b.in_scope;
  lists = λ there site same names. (there_listed there site.environment names, h.lists there (enclosed site) same names);
  sites = λ there site same names. names;
  returned = h.returned;
}

-- what is in scope behind a statement that is no declaration
after-environment : (s : ParsedStmt) (site : Site) → is_declaration s ≡ false → (after s site).environment ≡ site.environment
after-environment (ParsedDeclare p spec at name e) site none = absurd (true≢false none)
after-environment s site none = refl

after_all-environment : (ss : ParsedStmts) (site : Site) → HasNoDeclaration ss → (after_all ss site).environment ≡ site.environment
after_all-environment ParsedLast site none = refl
after_all-environment (ParsedNext s ss) site none = after_all-environment ss (after s site) none.1 ∙ after-environment s site none.0

-- lanes that enter a later segment have not passed this one, which declares nothing for it
segment_first : (p : Place) (label : Option Label) (ss : ParsedStmts) (rest : ParsedSegments) (scope : Scope) (k : ℕ) (word : Option ℕ) (m o : Made) → HasNoDeclaration ss
    → StatementsFirst ss scope k m → SegmentsFirst rest scope (k + locals_in_all ss) o → (variables : List Variable)
    → SegmentsFirst (ParsedSegment p label ss rest) scope k (made (Segment word m.stmt o.stmt) variables)
segment_first p label ss rest scope k word m o none h g variables = record {
  first = λ b. (h.first b, g.first b);
  lists = λ there site same names.
      listed_join (declared_at there m.stmt) (declared_at there o.stmt) (standings_in_all ss site) (standings_in_segments rest (after_all ss site)) (h.lists there site same names)
      (g.lists there (after_all ss site) (after_all-next ss site ∙ ap (λ i. i + locals_in_all ss) same)
      (subst (NamesThere there) (sym (after_all-environment ss site none)) names));
  returned = both_or (may_return m.stmt) (may_return o.stmt) (one_returns ss) (some_segment_returns rest) h.returned g.returned;
}

mutual
  -- a sound statement
  pub statement_first : (s : ParsedStmt) (context : Context) (scope : Scope) (k : ℕ) (n : StepNumber) → IsWellSpelled s
      → OnSound (statement s context scope k n) (StatementFirst s scope k)
  statement_first ParsedEmpty context scope k n spelled = record {
    first = λ b. tt;
    scopes = λ b. b.in_scope;
    lists = λ there site e names. tt;
    sites = λ there site e names. names;
    returned = refl;
  }
  statement_first (ParsedBlock ss) context scope k n spelled =
      on_more (statements ss context scope k n) (StatementsFirst ss scope k) (StatementFirst (ParsedBlock ss) scope k) (statements_first ss context scope k n spelled) (λ m h. block_first ss scope k m h)
  statement_first (ParsedDeclare p spec at name e) context scope k n spelled =
      let v = declared name (Local k) spec false false in
      on_pair (unless (variable_faults at spec) v) (declaration context scope (var_of v.variable) e n) _ (λ w. Unit {0}) (IsStep scope (k ∷ []) false) (StatementFirst (ParsedDeclare p spec at name e) scope k)
      (on_any (unless (variable_faults at spec) v)) (declaration-step context scope (var_of v.variable) e n)
      (λ w s _ step. declaration_first scope k p name v s refl step)
  statement_first (ParsedAssign p target e) context scope k n spelled =
      on_then (assignment context scope target e n) _ (IsStep scope [] false) (StatementFirst (ParsedAssign p target e) scope k)
      (assignment-step context scope target e n) (λ s step. one_first scope k p false s step)
  statement_first (ParsedChange p target op e) context scope k n spelled =
      let aim = target_of scope target.at target.name target.index in
      on_then (both aim (operand_for (rate_of aim) e scope)) _ (λ parts. IsStep scope [] false (changed op n parts.0 parts.1)) (StatementFirst (ParsedChange p target op e) scope k)
      (change-step scope target op e n) (λ parts step. one_first scope k p false (changed op n parts.0 parts.1) step)
  statement_first (ParsedIncrement p target op) context scope k n spelled =
      on_then (target_of scope target.at target.name target.index) _ (λ a. IsStep scope [] false (changed op n a number_one)) (StatementFirst (ParsedIncrement p target op) scope k)
      (increment-step scope target op n) (λ a step. one_first scope k p false (changed op n a number_one) step)
  statement_first (ParsedDoCall p name args) context scope k n spelled =
      on_then (call_of context scope p name args Nothing n) _ (λ c. IsStep scope [] false c.stmt) (StatementFirst (ParsedDoCall p name args) scope k)
      (alone-step context scope p name args n)
      (λ c step. one_first scope k p false c.stmt step)
  statement_first (ParsedBreak p) context scope k n spelled =
      one_first scope k p false (Break n) (record { alone = λ there. refl; declares = refl; returned = refl; first = λ b. tt })
  statement_first (ParsedContinue p) context scope k n spelled =
      one_first scope k p false (Continue n) (record { alone = λ there. refl; declares = refl; returned = refl; first = λ b. tt })
  statement_first (ParsedReturn p e) context scope k n spelled =
      on_then (returning context scope p e n) _ (IsStep scope [] true) (StatementFirst (ParsedReturn p e) scope k) (returning-step context scope p e n) (λ s step. one_first scope k p true s step)
  statement_first (ParsedIf p e a) context scope k n spelled =
      on_pair (test_of scope (Some e)) (statement a context scope k (n + 1)) _ (IsNamed scope) (StatementFirst a scope k) (StatementFirst (ParsedIf p e a) scope k)
      (test-named scope (Some e)) (statement_first a context scope k (n + 1) spelled) (λ test m u h. if_first p e a scope k n test m u h)
  statement_first (ParsedIfElse p e a b) context scope k n spelled =
      let first = statement a context scope k (n + 1) in
      let other = statement b context scope (k + locals_in a) (n + 1 + steps_in a) in
      on_pair (test_of scope (Some e)) (both first other) _ (IsNamed scope) (λ ms. StatementFirst a scope k ms.0 × StatementFirst b scope (k + locals_in a) ms.1) (StatementFirst (ParsedIfElse p e a b) scope k)
      (test-named scope (Some e))
      (on_both first other (StatementFirst a scope k) (StatementFirst b scope (k + locals_in a)) (statement_first a context scope k (n + 1) spelled.0)
      (statement_first b context scope (k + locals_in a) (n + 1 + steps_in a) spelled.1))
      (λ test ms u h. either_first p e a b scope k n test ms.0 ms.1 u h.0 h.1)
  statement_first (ParsedWhile p e body) context scope k n spelled =
      on_pair (test_of scope (Some e)) (statement body context scope k n) _ (IsNamed scope) (StatementFirst body scope k) (StatementFirst (ParsedWhile p e body) scope k)
      (test-named scope (Some e)) (statement_first body context scope k n spelled) (λ test m u h. while_first p e body scope k (n + steps_in body) test m u h)
  statement_first (ParsedDo body p e) context scope k n spelled =
      on_pair (statement body context scope k n) (test_of scope (Some e)) _ (StatementFirst body scope k) (IsNamed scope) (StatementFirst (ParsedDo body p e) scope k)
      (statement_first body context scope k n spelled) (test-named scope (Some e)) (λ m test h u. do_first p e body scope k (n + steps_in body) test m u h)
  statement_first (ParsedFor p start e update body) context scope k n spelled =
      let inside = scope_after start scope k in
      let k' = k + locals_in start in
      let body_step = n + steps_in start in
      let update_step = body_step + steps_in body in
      let started = statement start context scope k n in
      let updating = statement update context inside k' update_step in
      let repeated = statement body context inside (k' + locals_in update) body_step in
      on_pair (both started (test_of inside e)) (both updating repeated) _ (λ x. StatementFirst start scope k x.0 × IsNamed inside x.1)
      (λ y. StatementFirst update inside k' y.0 × StatementFirst body inside (k' + locals_in update) y.1) (StatementFirst (ParsedFor p start e update body) scope k)
      (on_both started (test_of inside e) (StatementFirst start scope k) (IsNamed inside) (statement_first start context scope k n spelled.2) (test-named inside e))
      (on_both updating repeated (StatementFirst update inside k') (StatementFirst body inside (k' + locals_in update)) (statement_first update context inside k' update_step spelled.3)
      (statement_first body context inside (k' + locals_in update) body_step spelled.4))
      (λ x y h g. for_first p start e update body scope k (update_step + steps_in update) x.1 x.0 y.0 y.1 spelled.0 spelled.1 h.1 h.0 g.0 g.1)
  statement_first (ParsedSwitch p e segments) context scope k n spelled =
      on_then (selector scope e) _ (IsValueNamed scope) (StatementFirst (ParsedSwitch p e segments) scope k) (selector-named scope e)
      (λ x u. on_then (segments_of segments x.type context scope k (n + 1)) _ (SegmentsFirst segments scope k) (StatementFirst (ParsedSwitch p e segments) scope k)
      (segments_first segments x.type context scope k (n + 1) spelled) (λ m h. switch_first p e segments scope k n x m u h))
  statement_first (ParsedForEach p is_tiled dims body) context scope k n spelled =
      let inside = index_entries k dims scope in
      on_pair (dimensions scope k dims) (statement body context inside (k + length dims) (n + 1)) _ (AreNamed scope k dims) (StatementFirst body inside (k + length dims))
      (StatementFirst (ParsedForEach p is_tiled dims body) scope k) (dimensions-named scope k dims) (statement_first body context inside (k + length dims) (n + 1) spelled.1)
      (λ ds m named h.
      rounds_first p body scope inside k (k + length dims) (in_domain dims) (length dims + locals_in body) n (if is_tiled then Tiles ds else Rows ds) m
      (domain-head scope k dims is_tiled ds named) h)
  statement_first (ParsedForEachActive p at name body) context scope k n spelled =
      let v = index_entry name (Local k) t.Int64 Uniform in
      on_then (statement body context (v ∷ scope) (suc k) (n + 1)) _ (StatementFirst body (v ∷ scope) (suc k)) (StatementFirst (ParsedForEachActive p at name body) scope k)
      (statement_first body context (v ∷ scope) (suc k) (n + 1) spelled)
      (λ m h. lanes_first p name body scope k n t.Int64 (EachLane (var_of v.variable)) m refl (λ b. tt) h)
  statement_first (ParsedForEachUnique p at name e body) context scope k n spelled =
      on_then (expression e scope) _ (IsValueNamed scope) (StatementFirst (ParsedForEachUnique p at name e body) scope k) (expression-named scope e)
      (λ x u.
      let v = index_entry name (Local k) x.type Uniform in
      on_then (statement body context (v ∷ scope) (suc k) (n + 1)) _ (StatementFirst body (v ∷ scope) (suc k)) (StatementFirst (ParsedForEachUnique p at name e body) scope k)
      (statement_first body context (v ∷ scope) (suc k) (n + 1) spelled)
      (λ m h. lanes_first p name body scope k n x.type (EachValue (var_of v.variable) x.expr) m refl u h))

  pub statements_first : (ss : ParsedStmts) (context : Context) (scope : Scope) (k : ℕ) (n : StepNumber) → AreWellSpelled ss
      → OnSound (statements ss context scope k n) (StatementsFirst ss scope k)
  statements_first ParsedLast context scope k n spelled = record {
    first = λ b. tt;
    lists = λ there site e names. tt;
    closing = λ there site e names. names;
    returned = refl;
  }
  statements_first (ParsedNext s ss) context scope k n spelled =
      let inside = scope_after s scope k in
      on_pair (statement s context scope k n) (statements ss context inside (k + locals_in s) (n + steps_in s)) _ (StatementFirst s scope k) (StatementsFirst ss inside (k + locals_in s)) (StatementsFirst (ParsedNext s ss) scope k)
      (statement_first s context scope k n spelled.0) (statements_first ss context inside (k + locals_in s) (n + steps_in s) spelled.1)
      (λ a m h more. next_first s ss scope k a m h more (a.variables ++ m.variables))

  segments_first : (segments : ParsedSegments) (type : IntType) (context : Context) (scope : Scope) (k : ℕ) (n : StepNumber) → SegmentsWellSpelled segments
      → OnSound (segments_of segments type context scope k n) (SegmentsFirst segments scope k)
  segments_first ParsedNoMore type context scope k n spelled = record {
    first = λ b. tt;
    lists = λ there site e names. tt;
    returned = refl;
  }
  segments_first (ParsedSegment p label ss rest) type context scope k n spelled =
      let body = statements ss context scope k n in
      let later = segments_of rest type context scope (k + locals_in_all ss) (n + steps_in_all ss) in
      on_pair (label_word p type label) (both body later) _ (λ l. Unit {0}) (λ ms. StatementsFirst ss scope k ms.0 × SegmentsFirst rest scope (k + locals_in_all ss) ms.1)
      (SegmentsFirst (ParsedSegment p label ss rest) scope k) (on_any (label_word p type label))
      (on_both body later (StatementsFirst ss scope k) (SegmentsFirst rest scope (k + locals_in_all ss)) (statements_first ss context scope k n spelled.1)
      (segments_first rest type context scope (k + locals_in_all ss) (n + steps_in_all ss) spelled.2))
      (λ l ms _ h. segment_first p label ss rest scope k l ms.0 ms.1 spelled.0 h.0 h.1 (ms.0.variables ++ ms.1.variables))
