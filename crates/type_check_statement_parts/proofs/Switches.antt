-- The segments of a switch one after another, and the switch of its selector and its segments.
use Rattle.std.proofs.Common.{◌≡◌, ℕ, ◌+◌, List, [], ◌∷◌, ◌++◌, length, refl, sym, ap, ◌∙◌, arith, append_assoc, append-nil, length-append, Vec, Global}
use Rattle.std.specs.Prelude.{Option, Result, Ok, Err}
use Rattle.gang_types.specs.declared.places.Place.{Place}
use Rattle.gang_types.specs.declared.types.IntType.{IntType}
use Rattle.gang_model.specs.declared.forms.Label.{Label}
use Rattle.gang_model.specs.declared.refusals.SourceRefusal.{SourceRefusal}
use Rattle.gang_model.specs.Types.Tree as tree
use Rattle.gang_model.specs.Types.Tree.{Variable}
use Rattle.gang_model.specs.Source.Parsed.{ParsedExpr, ParsedStmts, ParsedSwitch, ParsedSegments, ParsedNoMore, ParsedSegment}
use Rattle.gang_model.specs.Running.Numbering.{steps_in_all, steps_in_segments}
use Rattle.gang_model.specs.Names.Scope.{locals_in_all, locals_in_segments}
use Rattle.gang_model.specs.Types.Calls.{Context}
use Rattle.gang_model.specs.Types.Conversions as conversions
use Rattle.gang_model.specs.Types.Typing.{Scope}
use Rattle.gang_model.specs.Source.Judged.{Judged, Sound, Faulty, both, ◌>>=◌, answer_of, least_of, lesser, both_answers, then_answer}
use Rattle.gang_model.specs.Types.Statements.{Made, made, label_word, selector, statement, statements, segments_of}
use Rattle.gang_model.proofs.JudgedLaws.{lesser-assoc, answer_of-both, answer_of-then}
use Rattle.typed_tree.specs.declared.statements.Segment.{Segment}
use Rattle.typed_tree.specs.declared.statements.Stmt.{Stmt}
use Rattle.typed_tree.specs.Boxes.{BoxedStmt, boxed_stmt_view}
use Rattle.typed_tree.specs.Views.{segments_view, stmts_view}
use Rattle.source_answers.specs.Apart.{seen}
use Rattle.type_check_parts.specs.Typed.{IsTyped}
use Rattle.type_check_statement_parts.specs.Segments.{one_more_segment, selected}

-- ---- segments in order

-- some segments before others
abbrev pub before : List Segment → tree.Stmt → tree.Stmt
before [] later = later
before (s ∷ ss) later = tree.Segment s.label (stmts_view s.body.items) (before ss later)

before_none : (ss : List Segment) → before ss tree.Empty ≡ segments_view ss
before_none [] = refl
before_none (s ∷ ss) = ap (tree.Segment s.label (stmts_view s.body.items)) (before_none ss)

before_one : (ss : List Segment) (s : Segment) (later : tree.Stmt) → before ss (tree.Segment s.label (stmts_view s.body.items) later) ≡ before (ss ++ s ∷ []) later
before_one [] s later = refl
before_one (x ∷ ss) s later = ap (tree.Segment x.label (stmts_view x.body.items)) (before_one ss s later)

-- a segment, with the variables of its statements and of what comes after it
abbrev first_segment : Option ℕ × (Made × Made) → Made
first_segment parts = made (tree.Segment parts.0 parts.1.0.stmt parts.1.1.stmt) (parts.1.0.variables ++ parts.1.1.variables)

-- the same of a segment that is typed
abbrev typed_first : List Variable → (Option ℕ × Vec Stmt Global) × Made → Made
typed_first more parts = made (tree.Segment parts.0.0 (stmts_view parts.0.1.items) parts.1.stmt) (more ++ parts.1.variables)

-- the answer for the whole, from what is typed so far and the answer for what is left
abbrev pub begun : List Variable → Result (List Segment) SourceRefusal → Result Made SourceRefusal → Result Made SourceRefusal
begun declared (Ok ss) (Ok m) = Ok (made (before ss m.stmt) (declared ++ m.variables))
begun declared (Ok ss) (Err fault) = Err fault
begun declared (Err first) (Ok m) = Err first
begun declared (Err first) (Err fault) = Err (lesser first fault)

label_and_body : (more : List Variable) (label : Result (Option ℕ) SourceRefusal) (body : Result (Vec Stmt Global) SourceRefusal) (later : Result Made SourceRefusal)
    → then_answer (both_answers label (both_answers (seen (λ v. made (stmts_view v.items) more) body) later)) (λ parts. Ok (first_segment parts))
    ≡ then_answer (both_answers (both_answers label body) later) (λ parts. Ok (typed_first more parts))
label_and_body more (Ok l) (Ok b) (Ok m) = refl
label_and_body more (Ok l) (Ok b) (Err g) = refl
label_and_body more (Ok l) (Err f) (Ok m) = refl
label_and_body more (Ok l) (Err f) (Err g) = refl
label_and_body more (Err h) (Ok b) (Ok m) = refl
label_and_body more (Err h) (Ok b) (Err g) = refl
label_and_body more (Err h) (Err f) (Ok m) = refl
label_and_body more (Err h) (Err f) (Err g) = sym (ap Err (lesser-assoc h f g))

begun_next : (declared more : List Variable) (typed : Result (List Segment) SourceRefusal) (segment : Result (Option ℕ × Vec Stmt Global) SourceRefusal) (later : Result Made SourceRefusal)
    → begun declared typed (then_answer (both_answers segment later) (λ parts. Ok (typed_first more parts))) ≡ begun (declared ++ more) (one_more_segment typed segment) later
begun_next declared more (Ok ss) (Ok s) (Ok m) =
    ap (λ x. Ok (made x (declared ++ (more ++ m.variables)))) (before_one ss (record { label = s.0; body = s.1 }) m.stmt)
    ∙ ap (λ x. Ok (made (before (ss ++ record { label = s.0; body = s.1 } ∷ []) m.stmt) x)) (sym (append_assoc declared more m.variables))
begun_next declared more (Ok ss) (Ok s) (Err g) = refl
begun_next declared more (Ok ss) (Err f) (Ok m) = refl
begun_next declared more (Ok ss) (Err f) (Err g) = refl
begun_next declared more (Err h) (Ok s) (Ok m) = refl
begun_next declared more (Err h) (Ok s) (Err g) = refl
begun_next declared more (Err h) (Err f) (Ok m) = refl
begun_next declared more (Err h) (Err f) (Err g) = sym (ap Err (lesser-assoc h f g))

first_answer : (p : Place) (label : Option Label) (ss : ParsedStmts) (rest : ParsedSegments) (type : IntType) (context : Context) (e : Scope) (k n : ℕ)
    → answer_of (segments_of (ParsedSegment p label ss rest) type context e k n)
    ≡ then_answer (both_answers (answer_of (label_word p type label)) (both_answers (answer_of (statements ss context e k n)) (answer_of (segments_of rest type context e (k + locals_in_all ss) (n + steps_in_all ss)))))
    (λ parts. Ok (first_segment parts))
first_answer p label ss rest type context e k n =
    let l = label_word p type label in
    let a = statements ss context e k n in
    let b = segments_of rest type context e (k + locals_in_all ss) (n + steps_in_all ss) in
    answer_of-then (both l (both a b)) (λ parts. Sound (first_segment parts))
    ∙ ap (λ x. then_answer x (λ parts. Ok (first_segment parts))) (answer_of-both l (both a b) ∙ ap (both_answers (answer_of l)) (answer_of-both a b))

-- What is typed so far and what is left come to the whole.
pub record AreBegun (context : Context) (type : IntType) (ss rest : ParsedSegments) (typed : Result (List Segment) SourceRefusal) (entries entries' : Scope) (outer locals : List Variable) (first step : ℕ) : Type 0 where
  pub declared : List Variable
  pub variables : locals ≡ outer ++ declared
  pub counted : length declared + locals_in_segments rest ≡ locals_in_segments ss
  pub numbered : step + steps_in_segments rest ≡ first + steps_in_segments ss
  pub same : entries' ≡ entries
  pub answered : answer_of (segments_of ss type context entries (length outer) first) ≡ begun declared typed (answer_of (segments_of rest type context entries (length locals) step))

begun_none : (later : Result Made SourceRefusal) → later ≡ begun [] (Ok []) later
begun_none (Ok m) = refl
begun_none (Err fault) = refl

-- nothing is typed yet
pub segments-none : (context : Context) (type : IntType) (ss : ParsedSegments) (typed : Result (List Segment) SourceRefusal) (entries : Scope) (outer : List Variable) (first : ℕ)
    → typed ≡ Ok [] → AreBegun context type ss ss typed entries entries outer outer first first
segments-none context type ss typed entries outer first e =
    let whole = answer_of (segments_of ss type context entries (length outer) first) in
    record {
      declared = [];
      variables = sym (append-nil outer);
      counted = omega arith;
      numbered = refl;
      same = refl;
      answered = begun_none whole ∙ ap (λ x. begun [] x whole) (sym e);
    }

-- one more segment is typed
pub segments-next : (context : Context) (type : IntType) (ss rest later : ParsedSegments) (p : Place) (label : Option Label) (body : ParsedStmts) (typed typed' : Result (List Segment) SourceRefusal)
    (word : Result (Option ℕ) SourceRefusal) (answer : Result (Vec Stmt Global) SourceRefusal) (entries entries1 entries2 : Scope) (outer locals locals' : List Variable) (first step step' : ℕ)
    → AreBegun context type ss rest typed entries entries1 outer locals first step → rest ≡ ParsedSegment p label body later
    → word ≡ answer_of (label_word p type label)
    → IsTyped (λ v. stmts_view v.items) answer (statements body context entries1 (length locals) step) locals locals' (locals_in_all body)
    → entries2 ≡ entries1 → step' ≡ step + steps_in_all body → typed' ≡ one_more_segment typed (both_answers word answer)
    → AreBegun context type ss later typed' entries entries2 outer locals' first step'
segments-next context type ss rest later p label body typed typed' word answer entries entries1 entries2 outer locals locals' first step step' h split w x after number more = record {
  declared = h.declared ++ x.declared;
  variables = x.variables ∙ (ap (λ l. l ++ x.declared) h.variables ∙ append_assoc outer h.declared x.declared);
  counted =
      let c = ap locals_in_segments split in
      omega (arith, h.counted, c, x.counted, length-append h.declared x.declared);
  numbered =
      let c = ap steps_in_segments split in
      omega (arith, h.numbered, c, number);
  same = after ∙ h.same;
  answered =
      h.answered ∙ (ap (λ r. begun h.declared typed (answer_of (segments_of r type context entries (length locals) step))) split
      ∙ (ap (begun h.declared typed) (first_answer p label body later type context entries (length locals) step
      ∙ (ap (λ a. then_answer (both_answers a (both_answers (answer_of (statements body context entries (length locals) step)) left)) (λ parts. Ok (first_segment parts))) (sym w)
      ∙ (ap (λ a. then_answer (both_answers word (both_answers a left)) (λ parts. Ok (first_segment parts))) typed_body
      ∙ label_and_body x.declared word answer left)))
      ∙ (begun_next h.declared x.declared typed (both_answers word answer) left
      ∙ (ap (λ y. begun (h.declared ++ x.declared) y left) (sym more)
      ∙ (ap (λ y. begun (h.declared ++ x.declared) typed' (answer_of (segments_of later type context entries y (step + steps_in_all body)))) (sym many)
      ∙ ap (λ y. begun (h.declared ++ x.declared) typed' (answer_of (segments_of later type context entries (length locals') y))) (sym number))))));
}
  where
    left : Result Made SourceRefusal
    left = answer_of (segments_of later type context entries (length locals + locals_in_all body) (step + steps_in_all body))

    typed_body : answer_of (statements body context entries (length locals) step) ≡ seen (λ v. made (stmts_view v.items) x.declared) answer
    typed_body = ap (λ e. answer_of (statements body context e (length locals) step)) (sym h.same) ∙ x.answered

    many : length locals' ≡ length locals + locals_in_all body
    many = ap length x.variables ∙ (length-append locals x.declared ∙ ap (λ y. length locals + y) x.counted)

seen_all : (declared : List Variable) (typed : Result (Vec Segment Global) SourceRefusal)
    → begun declared (seen (λ v. v.items) typed) (Ok (made tree.Empty [])) ≡ seen (λ v. made (segments_view v.items) declared) typed
seen_all declared (Ok v) = ap (λ x. Ok (made x (declared ++ []))) (before_none v.items) ∙ ap (λ x. Ok (made (segments_view v.items) x)) (append-nil declared)
seen_all declared (Err fault) = refl

-- nothing is left
pub segments-typed : (context : Context) (type : IntType) (ss rest : ParsedSegments) (typed : Result (Vec Segment Global) SourceRefusal) (entries entries' : Scope) (outer locals : List Variable) (first step : ℕ)
    → AreBegun context type ss rest (seen (λ v. v.items) typed) entries entries' outer locals first step → rest ≡ ParsedNoMore
    → IsTyped (λ v. segments_view v.items) typed (segments_of ss type context entries (length outer) first) outer locals (locals_in_segments ss)
segments-typed context type ss rest typed entries entries' outer locals first step h none = record {
  declared = h.declared;
  variables = h.variables;
  counted = let c = ap locals_in_segments none in omega (arith, h.counted, c);
  answered = h.answered ∙ (ap (λ r. begun h.declared (seen (λ v. v.items) typed) (answer_of (segments_of r type context entries (length locals) step))) none ∙ seen_all h.declared typed);
}

pub segments-numbered : (context : Context) (type : IntType) (ss rest : ParsedSegments) (typed : Result (List Segment) SourceRefusal) (entries entries' : Scope) (outer locals : List Variable) (first step : ℕ)
    → AreBegun context type ss rest typed entries entries' outer locals first step → rest ≡ ParsedNoMore → step ≡ first + steps_in_segments ss
segments-numbered context type ss rest typed entries entries' outer locals first step h none = let c = ap steps_in_segments none in omega (arith, h.numbered, c)

-- ---- the whole

sound_of : {A : Type 0} (j : Judged A) (a : A) → answer_of j ≡ Ok a → j ≡ Sound a
sound_of (Sound c) a q = let same : c ≡ a = cc in ap Sound same
sound_of (Faulty first others) a q = let none : ⊥ = cc in absurd none

-- a switch with its selector
abbrev selecting : ParsedSegments → Context → Scope → (k step : ℕ) → conversions.Typed → Judged Made
selecting ss context entries k step x = segments_of ss x.type context entries k (step + 1) >>= (λ inner. Sound (made (tree.Switch step x.expr inner.stmt) inner.variables))

switch_seen : {S : Type 0} (view : S → tree.Stmt) (x : conversions.Typed) (step : ℕ) (declared : List Variable) (segments : Result S SourceRefusal) (answer : Result BoxedStmt SourceRefusal)
    → seen boxed_stmt_view answer ≡ selected step (Ok x) (seen view segments)
    → then_answer (seen (λ s. made (view s) declared) segments) (λ inner. Ok (made (tree.Switch step x.expr inner.stmt) inner.variables)) ≡ seen (λ s. made (boxed_stmt_view s) declared) answer
switch_seen view x step declared (Ok s) (Ok a) q = let is : boxed_stmt_view a ≡ tree.Switch step x.expr (view s) = cc in ap (λ y. Ok (made y declared)) (sym is)
switch_seen view x step declared (Ok s) (Err g) q = let none : ⊥ = cc in absurd none
switch_seen view x step declared (Err f) (Ok a) q = let none : ⊥ = cc in absurd none
switch_seen view x step declared (Err f) (Err g) q = let is : g ≡ f = cc in ap Err (sym is)

fault_seen : (declared : List Variable) (fault : SourceRefusal) (answer : Result BoxedStmt SourceRefusal) → seen boxed_stmt_view answer ≡ Err fault → Err fault ≡ seen (λ s. made (boxed_stmt_view s) declared) answer
fault_seen declared fault (Ok a) q = let none : ⊥ = cc in absurd none
fault_seen declared fault (Err g) q = let is : g ≡ fault = cc in ap Err (sym is)

then_faulty : {A B : Type 0} (j : Judged A) (next : A → Judged B) (fault : SourceRefusal) → answer_of j ≡ Err fault → answer_of (j >>= next) ≡ Err fault
then_faulty (Sound a) next fault q = let none : ⊥ = cc in absurd none
then_faulty (Faulty first others) next fault q = let least : least_of first others ≡ fault = cc in ap Err least

-- a switch, where a fault of the selector hides those of the segments
pub switched : {V S : Type 0} (view : V → conversions.Typed) (stmts : S → tree.Stmt) (p : Place) (e : ParsedExpr) (ss : ParsedSegments) (context : Context) (entries entries' : Scope) (outer locals : List Variable)
    (step step' : ℕ) (type : IntType) (value : Result V SourceRefusal) (segments : Result S SourceRefusal) (answer : Result BoxedStmt SourceRefusal)
    → answer_of (selector entries e) ≡ seen view value → ((x : V) → value ≡ Ok x → type ≡ (view x).type)
    → IsTyped stmts segments (segments_of ss type context entries' (length outer) step') outer locals (locals_in_segments ss) → entries' ≡ entries → step' ≡ step + 1
    → seen boxed_stmt_view answer ≡ selected step (seen view value) (seen stmts segments)
    → IsTyped boxed_stmt_view answer (statement (ParsedSwitch p e ss) context entries (length outer) step) outer locals (locals_in_segments ss)
switched view stmts p e ss context entries entries' outer locals step step' type (Ok x) segments answer he ht h hn hs f =
    let k = length outer in
    let inside = segments_of ss (view x).type context entries k (step + 1) in
    let typed : answer_of inside ≡ seen (λ s. made (stmts s) h.declared) segments =
    ap (λ ty. answer_of (segments_of ss ty context entries k (step + 1))) (sym (ht x refl))
    ∙ (ap (λ n. answer_of (segments_of ss type context entries k n)) (sym hs)
    ∙ (ap (λ m. answer_of (segments_of ss type context m k step')) (sym hn) ∙ h.answered)) in
    record {
      declared = h.declared;
      variables = h.variables;
      counted = h.counted;
      answered =
          ap (λ j. answer_of (j >>= selecting ss context entries k step)) (sound_of (selector entries e) (view x) he)
          ∙ (answer_of-then inside (λ inner. Sound (made (tree.Switch step (view x).expr inner.stmt) inner.variables))
          ∙ (ap (λ a. then_answer a (λ inner. Ok (made (tree.Switch step (view x).expr inner.stmt) inner.variables))) typed
          ∙ switch_seen stmts (view x) step h.declared segments answer f));
    }
switched view stmts p e ss context entries entries' outer locals step step' type (Err fault) segments answer he ht h hn hs f = record {
  declared = h.declared;
  variables = h.variables;
  counted = h.counted;
  answered = then_faulty (selector entries e) (selecting ss context entries (length outer) step) fault he ∙ fault_seen h.declared fault answer f;
}
