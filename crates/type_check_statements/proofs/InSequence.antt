-- Statements one after another: what is typed so far and what is left come to the whole.
use Rattle.std.proofs.Common.{◌≡◌, ℕ, ◌+◌, List, [], ◌∷◌, ◌++◌, length, refl, sym, ap, subst, ◌∙◌, arith, append_assoc, append-nil, length-append, Vec, Global}
use Rattle.std.specs.Prelude.{Result, Ok, Err}
use Rattle.gang_model.specs.declared.refusals.SourceRefusal.{SourceRefusal}
use Rattle.gang_model.specs.Types.Tree as tree
use Rattle.gang_model.specs.Types.Tree.{Variable}
use Rattle.gang_model.specs.Source.Parsed.{ParsedStmt, ParsedStmts, ParsedLast, ParsedNext}
use Rattle.gang_model.specs.Running.Numbering.{steps_in, steps_in_all}
use Rattle.gang_model.specs.Names.Scope.{locals_in, locals_in_all}
use Rattle.gang_model.specs.Types.Calls.{Context}
use Rattle.gang_model.specs.Types.Typing.{Scope}
use Rattle.gang_model.specs.Source.Judged.{Judged, Sound, Faulty, both, answer_of, lesser, both_answers, then_answer}
use Rattle.gang_model.specs.Types.Statements.{Made, made, scope_after, statement, statements}
use Rattle.gang_model.proofs.JudgedLaws.{lesser-assoc, answer_of-both, answer_of-then}
use Rattle.source_answers.specs.declared.fault.SourceFault.{SourceFault}
use Rattle.typed_tree.specs.declared.statements.Stmt.{Stmt}
use Rattle.typed_tree.specs.Boxes.{BoxedStmt, boxed_stmt_view}
use Rattle.typed_tree.specs.Views.{stmt_view, stmts_view}
use Rattle.source_answers.specs.Apart.{seen, joined}
use Rattle.type_check_parts.specs.Typed.{IsTyped}
use Rattle.type_check_statement_parts.specs.Sequences.{one_more}
use Rattle.type_check_parts.specs.Makes.{Makes}
use Rattle.type_check_statements.proofs.ScopeSteps.{Extends, extends-next, extends-after, extends-same}

-- some statements before one more
abbrev pub chained : List Stmt → tree.Stmt → tree.Stmt
chained [] later = later
chained (s ∷ ss) later = tree.Then (stmt_view s) (chained ss later)

chained_all : (ss : List Stmt) → chained ss tree.Empty ≡ stmts_view ss
chained_all [] = refl
chained_all (s ∷ ss) = ap (tree.Then (stmt_view s)) (chained_all ss)

chained_one : (ss : List Stmt) (s : Stmt) (later : tree.Stmt) → chained ss (tree.Then (stmt_view s) later) ≡ chained (ss ++ s ∷ []) later
chained_one [] s later = refl
chained_one (x ∷ ss) s later = ap (tree.Then (stmt_view x)) (chained_one ss s later)

-- two statements in order, with the variables of both
abbrev pub in_order : Made × Made → Made
in_order parts = made (tree.Then parts.0.stmt parts.1.stmt) (parts.0.variables ++ parts.1.variables)

-- the answer for the whole, from what is typed so far and the answer for what is left
abbrev pub begun : List Variable → Result (List Stmt) SourceRefusal → Result Made SourceRefusal → Result Made SourceRefusal
begun declared (Ok ss) (Ok m) = Ok (made (chained ss m.stmt) (declared ++ m.variables))
begun declared (Ok ss) (Err fault) = Err fault
begun declared (Err first) (Ok m) = Err first
begun declared (Err first) (Err fault) = Err (lesser first fault)

begun_next : (declared more : List Variable) (typed : Result (List Stmt) SourceRefusal) (answer : Result BoxedStmt SourceRefusal) (later : Result Made SourceRefusal)
    → begun declared typed (then_answer (both_answers (seen (λ s. made (boxed_stmt_view s) more) answer) later) (λ parts. Ok (in_order parts)))
    ≡ begun (declared ++ more) (one_more typed answer) later
begun_next declared more (Ok ss) (Ok s) (Ok m) =
    ap (λ x. Ok (made x (declared ++ (more ++ m.variables)))) (chained_one ss s.value m.stmt)
    ∙ ap (λ x. Ok (made (chained (ss ++ s.value ∷ []) m.stmt) x)) (sym (append_assoc declared more m.variables))
begun_next declared more (Ok ss) (Ok s) (Err g) = refl
begun_next declared more (Ok ss) (Err f) (Ok m) = refl
begun_next declared more (Ok ss) (Err f) (Err g) = refl
begun_next declared more (Err h) (Ok s) (Ok m) = refl
begun_next declared more (Err h) (Ok s) (Err g) = refl
begun_next declared more (Err h) (Err f) (Ok m) = refl
begun_next declared more (Err h) (Err f) (Err g) = sym (ap Err (lesser-assoc h f g))

next_answer : (s : ParsedStmt) (ss : ParsedStmts) (context : Context) (e : Scope) (k n : ℕ)
    → answer_of (statements (ParsedNext s ss) context e k n)
    ≡ then_answer (both_answers (answer_of (statement s context e k n)) (answer_of (statements ss context (scope_after s e k) (k + locals_in s) (n + steps_in s)))) (λ parts. Ok (in_order parts))
next_answer s ss context e k n =
    let a = statement s context e k n in
    let b = statements ss context (scope_after s e k) (k + locals_in s) (n + steps_in s) in
    answer_of-then (both a b) (λ parts. Sound (in_order parts)) ∙ ap (λ x. then_answer x (λ parts. Ok (in_order parts))) (answer_of-both a b)

-- What is typed so far and what is left come to the whole.
pub record IsBegun (context : Context) (ss rest : ParsedStmts) (typed : Result (List Stmt) SourceRefusal) (outer entries : Scope) (before locals : List Variable) (first step : ℕ) : Type 0 where
  pub declared : List Variable
  pub variables : locals ≡ before ++ declared
  pub counted : length declared + locals_in_all rest ≡ locals_in_all ss
  pub numbered : step + steps_in_all rest ≡ first + steps_in_all ss
  pub extends : Extends outer entries
  pub answered : answer_of (statements ss context outer (length before) first) ≡ begun declared typed (answer_of (statements rest context entries (length locals) step))

begun_none : (later : Result Made SourceRefusal) → later ≡ begun [] (Ok []) later
begun_none (Ok m) = refl
begun_none (Err fault) = refl

-- nothing is typed yet
pub begun-none : (context : Context) (ss : ParsedStmts) (typed : Result (List Stmt) SourceRefusal) (outer : Scope) (before : List Variable) (first : ℕ)
    → typed ≡ Ok [] → IsBegun context ss ss typed outer outer before before first first
begun-none context ss typed outer before first e = record {
  declared = [];
  variables = sym (append-nil before);
  counted = omega arith;
  numbered = refl;
  extends = extends-same outer outer refl;
  answered = begun_none (answer_of (statements ss context outer (length before) first)) ∙ ap (λ x. begun [] x (answer_of (statements ss context outer (length before) first))) (sym e);
}

-- one more statement is typed
pub begun-next : (context : Context) (ss rest later : ParsedStmts) (s : ParsedStmt) (typed typed' : Result (List Stmt) SourceRefusal) (answer : Result BoxedStmt SourceRefusal)
    (outer entries entries' : Scope) (before locals locals' : List Variable) (first step step' : ℕ)
    → IsBegun context ss rest typed outer entries before locals first step → rest ≡ ParsedNext s later
    → IsTyped boxed_stmt_view answer (statement s context entries (length locals) step) locals locals' (locals_in s)
    → entries' ≡ scope_after s entries (length locals) → step' ≡ step + steps_in s → typed' ≡ one_more typed answer
    → IsBegun context ss later typed' outer entries' before locals' first step'
begun-next context ss rest later s typed typed' answer outer entries entries' before locals locals' first step step' h split x after number more = record {
  declared = h.declared ++ x.declared;
  variables = x.variables ∙ (ap (λ l. l ++ x.declared) h.variables ∙ append_assoc before h.declared x.declared);
  counted =
      let c = ap locals_in_all split in
      omega (arith, h.counted, c, x.counted, length-append h.declared x.declared);
  numbered =
      let c = ap steps_in_all split in
      omega (arith, h.numbered, c, number);
  extends = extends-next outer entries entries' h.extends (extends-after s entries entries' (length locals) after);
  answered =
      h.answered ∙ (ap (λ r. begun h.declared typed (answer_of (statements r context entries (length locals) step))) split
      ∙ (ap (begun h.declared typed) (next_answer s later context entries (length locals) step
      ∙ (ap (λ a. then_answer (both_answers a (answer_of (statements later context (scope_after s entries (length locals)) (length locals + locals_in s) (step + steps_in s)))) (λ parts. Ok (in_order parts))) x.answered))
      ∙ (begun_next h.declared x.declared typed answer (answer_of (statements later context (scope_after s entries (length locals)) (length locals + locals_in s) (step + steps_in s)))
      ∙ (ap (λ y. begun (h.declared ++ x.declared) y (answer_of (statements later context (scope_after s entries (length locals)) (length locals + locals_in s) (step + steps_in s)))) (sym more)
      ∙ (ap (λ y. begun (h.declared ++ x.declared) typed' (answer_of (statements later context y (length locals + locals_in s) (step + steps_in s)))) (sym after)
      ∙ (ap (λ y. begun (h.declared ++ x.declared) typed' (answer_of (statements later context entries' y (step + steps_in s)))) (sym many)
      ∙ ap (λ y. begun (h.declared ++ x.declared) typed' (answer_of (statements later context entries' (length locals') y))) (sym number)))))));
}
  where
    many : length locals' ≡ length locals + locals_in s
    many = ap length x.variables ∙ (length-append locals x.declared ∙ ap (λ y. length locals + y) x.counted)

begun_all : (declared : List Variable) (typed : Result (List Stmt) SourceRefusal)
    → begun declared typed (Ok (made tree.Empty [])) ≡ seen (λ ss. made (stmts_view ss) declared) typed
begun_all declared (Ok ss) = ap (λ x. Ok (made x (declared ++ []))) (chained_all ss) ∙ ap (λ x. Ok (made (stmts_view ss) x)) (append-nil declared)
begun_all declared (Err fault) = refl

-- what is known once nothing is left
pub record IsWhole (context : Context) (ss : ParsedStmts) (typed : Result (List Stmt) SourceRefusal) (outer entries : Scope) (before locals : List Variable) (first step : ℕ) : Type 0 where
  pub declared : List Variable
  pub variables : locals ≡ before ++ declared
  pub counted : length declared ≡ locals_in_all ss
  pub numbered : step ≡ first + steps_in_all ss
  pub extends : Extends outer entries
  pub answered : answer_of (statements ss context outer (length before) first) ≡ seen (λ xs. made (stmts_view xs) declared) typed

pub begun-all : (context : Context) (ss rest : ParsedStmts) (typed : Result (List Stmt) SourceRefusal) (outer entries : Scope) (before locals : List Variable) (first step : ℕ)
    → IsBegun context ss rest typed outer entries before locals first step → rest ≡ ParsedLast
    → IsWhole context ss typed outer entries before locals first step
begun-all context ss rest typed outer entries before locals first step h none = record {
  declared = h.declared;
  variables = h.variables;
  counted = let c = ap locals_in_all none in omega (arith, h.counted, c);
  numbered = let c = ap steps_in_all none in omega (arith, h.numbered, c);
  extends = h.extends;
  answered = h.answered ∙ (ap (λ r. begun h.declared typed (answer_of (statements r context entries (length locals) step))) none ∙ begun_all h.declared typed);
}

seen_items : (declared : List Variable) (typed : Result (Vec Stmt Global) SourceRefusal)
    → seen (λ xs. made (stmts_view xs) declared) (seen (λ v. v.items) typed) ≡ seen (λ v. made (stmts_view v.items) declared) typed
seen_items declared (Ok v) = refl
seen_items declared (Err fault) = refl

-- the typed statements
pub whole-typed : (context : Context) (ss : ParsedStmts) (typed : Result (Vec Stmt Global) SourceRefusal) (outer entries : Scope) (before locals after : List Variable) (first step : ℕ)
    → IsWhole context ss (seen (λ v. v.items) typed) outer entries before locals first step → after ≡ locals
    → IsTyped (λ v. stmts_view v.items) typed (statements ss context outer (length before) first) before after (locals_in_all ss)
whole-typed context ss typed outer entries before locals after first step h e = record {
  declared = h.declared;
  variables = e ∙ h.variables;
  counted = h.counted;
  answered = h.answered ∙ seen_items h.declared typed;
}

seen_block : (declared : List Variable) (block : Result BoxedStmt SourceRefusal) (typed : Result (Vec Stmt Global) SourceRefusal)
    → seen boxed_stmt_view block ≡ seen (λ v. stmts_view v.items) typed
    → seen (λ v. made (stmts_view v.items) declared) typed ≡ seen (λ s. made (boxed_stmt_view s) declared) block
seen_block declared (Ok s) (Ok v) e = let same : boxed_stmt_view s ≡ stmts_view v.items = cc in ap (λ x. Ok (made x declared)) (sym same)
seen_block declared (Ok s) (Err f) e = let none : ⊥ = cc in absurd none
seen_block declared (Err g) (Ok v) e = let none : ⊥ = cc in absurd none
seen_block declared (Err g) (Err f) e = let same : g ≡ f = cc in ap Err (sym same)

-- a block of typed statements
pub typed-block : (j : Judged Made) (typed : Result (Vec Stmt Global) SourceRefusal) (block : Result BoxedStmt SourceRefusal) (before after : List Variable) (count : ℕ)
    → IsTyped (λ v. stmts_view v.items) typed j before after count → seen boxed_stmt_view block ≡ seen (λ v. stmts_view v.items) typed → IsTyped boxed_stmt_view block j before after count
typed-block j typed block before after count h e = record {
  declared = h.declared;
  variables = h.variables;
  counted = h.counted;
  answered = h.answered ∙ seen_block h.declared block typed e;
}

sound_of : {A : Type 0} (j : Judged A) (a : A) → answer_of j ≡ Ok a → j ≡ Sound a
sound_of (Sound b) a e = let same : b ≡ a = cc in ap Sound same
sound_of (Faulty first others) a e = let none : ⊥ = cc in absurd none

-- a body of typed statements
pub typed-body : (j : Judged Made) (typed : Result (Vec Stmt Global) SourceRefusal) (result : Result (Vec Stmt Global) SourceFault) (before after : List Variable) (count : ℕ)
    → IsTyped (λ v. stmts_view v.items) typed j before after count → result ≡ joined typed → Makes (λ v. stmts_view v.items) result before after j
typed-body j typed result before after count h e = subst (λ r. Makes (λ v. stmts_view v.items) r before after j) (sym e) (by typed h.answered)
  where
    by : (r : Result (Vec Stmt Global) SourceRefusal) → answer_of j ≡ seen (λ v. made (stmts_view v.items) h.declared) r → Makes (λ v. stmts_view v.items) (joined r) before after j
    by (Ok v) a = (h.declared, h.variables, sound_of j (made (stmts_view v.items) h.declared) a)
    by (Err fault) a = a
