-- Statements that hold others, from what is known of their parts.
use Rattle.std.proofs.Common.{◌≡◌, ℕ, suc, ◌+◌, List, [], ◌∷◌, ◌++◌, length, refl, sym, ap, subst, ◌∙◌, arith, append_assoc, length-append}
use Rattle.std.specs.Prelude.{Bool, Option, Some, Result, Ok, Err, if◌then◌else◌}
use Rattle.gang_types.specs.declared.places.Place.{Place}
use Rattle.gang_types.specs.declared.places.VarId.TheVariants.{Local}
use Rattle.gang_types.specs.declared.types.IntType.TheVariants as t
use Rattle.gang_types.specs.declared.types.Rate.TheVariants.{Uniform}
use Rattle.gang_model.specs.declared.refusals.SourceRefusal.{SourceRefusal}
use Rattle.gang_model.specs.Types.Tree as tree
use Rattle.gang_model.specs.Types.Tree.{Variable, Dimension}
use Rattle.gang_model.specs.Source.Parsed.{Name, ParsedExpr, ParsedDim, ParsedStmt, ParsedIf, ParsedIfElse, ParsedWhile, ParsedDo, ParsedFor, ParsedForEach, ParsedForEachActive, ParsedForEachUnique}
use Rattle.gang_model.specs.Running.Numbering.{steps_in}
use Rattle.gang_model.specs.Names.Scope.{locals_in}
use Rattle.gang_model.specs.Types.Calls.{Context}
use Rattle.gang_model.specs.Types.Conversions as conversions
use Rattle.gang_model.specs.Types.Typing.{Entry, Scope, index_entry, var_of, expression}
use Rattle.gang_model.specs.Source.Judged.{Judged, Sound, Faulty, both, ◌>>=◌, answer_of, least_of}
use Rattle.gang_model.specs.Types.Statements.{Made, made, scope_after, statement, test_of, dimensions, index_entries, index_variables}
use Rattle.gang_model.specs.Source.Judged as definitions
use Rattle.gang_model.proofs.JudgedLaws as laws
use Rattle.typed_tree.specs.Boxes.{BoxedExpr, BoxedStmt, boxed_stmt_view}
use Rattle.typed_tree.specs.Views.{boxed_view}
use Rattle.source_answers.specs.Answers.{pair_view}
use Rattle.source_answers.specs.Apart.{seen}
use Rattle.type_check_parts.specs.Typed.{IsTyped, with_index}
use Rattle.type_check_statement_parts.specs.Sequences.{value_rounds}
use Rattle.type_check_statements.proofs.Judging.{seen-both, typed-at, typed-parts, variables-two, length-two, next-number}
use Rattle.type_check_statements.proofs.ScopeSteps.{indices-length}

-- a statement that is typed, with what it declares
abbrev statement_view : List Variable → BoxedStmt → Made
statement_view declared s = made (boxed_stmt_view s) declared

pub if-only : (p : Place) (e : ParsedExpr) (a : ParsedStmt) (context : Context) (entries entries' : Scope) (before after : List Variable) (step at : ℕ)
    (test : Result BoxedExpr SourceRefusal) (first answer : Result BoxedStmt SourceRefusal) (parts : Result (BoxedExpr × BoxedStmt) SourceRefusal)
    → answer_of (test_of entries (Some e)) ≡ seen boxed_view test
    → IsTyped boxed_stmt_view first (statement a context entries' (length before) at) before after (locals_in a) → entries' ≡ entries → at ≡ step + 1
    → parts ≡ definitions.both_answers test first → seen boxed_stmt_view answer ≡ seen (λ q. tree.If step (boxed_view q.0) (boxed_stmt_view q.1) tree.Empty) parts
    → IsTyped boxed_stmt_view answer (statement (ParsedIf p e a) context entries (length before) step) before after (locals_in a)
if-only p e a context entries entries' before after step at test first answer parts t h n s w f =
    let x = typed-at boxed_stmt_view first a context entries' entries (length before) (length before) at (step + 1) before after (locals_in a) h n refl s in
    typed-parts boxed_stmt_view (pair_view boxed_view (statement_view x.declared)) parts (both (test_of entries (Some e)) (statement a context entries (length before) (step + 1)))
    (λ q. Sound (made (tree.If step q.0 q.1.stmt tree.Empty) q.1.variables)) (λ q. tree.If step (boxed_view q.0) (boxed_stmt_view q.1) tree.Empty) answer before after x.declared (locals_in a)
    (seen-both boxed_view (statement_view x.declared) test first parts (test_of entries (Some e)) (statement a context entries (length before) (step + 1)) w t x.answered)
    f (λ q. refl) x.variables x.counted

pub if-else : (p : Place) (e : ParsedExpr) (a b : ParsedStmt) (context : Context) (entries entries1 entries2 : Scope) (before between after : List Variable) (step at1 at2 : ℕ)
    (test : Result BoxedExpr SourceRefusal) (first other answer : Result BoxedStmt SourceRefusal) (pair : Result (BoxedStmt × BoxedStmt) SourceRefusal) (parts : Result (BoxedExpr × (BoxedStmt × BoxedStmt)) SourceRefusal)
    → answer_of (test_of entries (Some e)) ≡ seen boxed_view test
    → IsTyped boxed_stmt_view first (statement a context entries1 (length before) at1) before between (locals_in a) → entries1 ≡ entries → at1 ≡ step + 1
    → IsTyped boxed_stmt_view other (statement b context entries2 (length between) at2) between after (locals_in b) → entries2 ≡ entries → at2 ≡ at1 + steps_in a
    → pair ≡ definitions.both_answers first other → parts ≡ definitions.both_answers test pair
    → seen boxed_stmt_view answer ≡ seen (λ q. tree.If step (boxed_view q.0) (boxed_stmt_view q.1.0) (boxed_stmt_view q.1.1)) parts
    → IsTyped boxed_stmt_view answer (statement (ParsedIfElse p e a b) context entries (length before) step) before after (locals_in a + locals_in b)
if-else p e a b context entries entries1 entries2 before between after step at1 at2 test first other answer pair parts t h1 n1 s1 h2 n2 s2 v w f =
    let k = length before in
    let x = typed-at boxed_stmt_view first a context entries1 entries k k at1 (step + 1) before between (locals_in a) h1 n1 refl s1 in
    let y = typed-at boxed_stmt_view other b context entries2 entries (length between) (k + locals_in a) at2 (step + 1 + steps_in a) between after (locals_in b) h2 n2
    (next-number boxed_stmt_view first (statement a context entries1 k at1) before between (locals_in a) h1) (s2 ∙ ap (λ m. m + steps_in a) s1) in
    let first_of = statement a context entries k (step + 1) in
    let other_of = statement b context entries (k + locals_in a) (step + 1 + steps_in a) in
    typed-parts boxed_stmt_view (pair_view boxed_view (pair_view (statement_view x.declared) (statement_view y.declared))) parts (both (test_of entries (Some e)) (both first_of other_of))
    (λ q. Sound (made (tree.If step q.0 q.1.0.stmt q.1.1.stmt) (q.1.0.variables ++ q.1.1.variables))) (λ q. tree.If step (boxed_view q.0) (boxed_stmt_view q.1.0) (boxed_stmt_view q.1.1)) answer
    before after (x.declared ++ y.declared) (locals_in a + locals_in b)
    (seen-both boxed_view (pair_view (statement_view x.declared) (statement_view y.declared)) test pair parts (test_of entries (Some e)) (both first_of other_of) w t
    (seen-both (statement_view x.declared) (statement_view y.declared) first other pair first_of other_of v x.answered y.answered))
    f (λ q. refl) (variables-two before between after x.declared y.declared x.variables y.variables) (length-two x.declared y.declared (locals_in a) (locals_in b) x.counted y.counted)

pub while-loop : (p : Place) (e : ParsedExpr) (a : ParsedStmt) (context : Context) (entries entries' : Scope) (before after : List Variable) (step at : ℕ)
    (test : Result BoxedExpr SourceRefusal) (body answer : Result BoxedStmt SourceRefusal) (parts : Result (BoxedExpr × BoxedStmt) SourceRefusal)
    → answer_of (test_of entries (Some e)) ≡ seen boxed_view test
    → IsTyped boxed_stmt_view body (statement a context entries' (length before) step) before after (locals_in a) → entries' ≡ entries → at ≡ step + steps_in a
    → parts ≡ definitions.both_answers test body → seen boxed_stmt_view answer ≡ seen (λ q. tree.Loop at (boxed_view q.0) tree.Empty (boxed_stmt_view q.1)) parts
    → IsTyped boxed_stmt_view answer (statement (ParsedWhile p e a) context entries (length before) step) before after (locals_in a)
while-loop p e a context entries entries' before after step at test body answer parts t h n s w f =
    let x = typed-at boxed_stmt_view body a context entries' entries (length before) (length before) step step before after (locals_in a) h n refl refl in
    let body_of = statement a context entries (length before) step in
    typed-parts boxed_stmt_view (pair_view boxed_view (statement_view x.declared)) parts (both (test_of entries (Some e)) body_of)
    (λ q. Sound (made (tree.Loop (step + steps_in a) q.0 tree.Empty q.1.stmt) q.1.variables)) (λ q. tree.Loop at (boxed_view q.0) tree.Empty (boxed_stmt_view q.1)) answer before after x.declared (locals_in a)
    (seen-both boxed_view (statement_view x.declared) test body parts (test_of entries (Some e)) body_of w t x.answered)
    f (λ q. ap (λ m. Sound (made (tree.Loop m (boxed_view q.0) tree.Empty (boxed_stmt_view q.1)) x.declared)) (sym s)) x.variables x.counted

pub do-loop : (p : Place) (e : ParsedExpr) (a : ParsedStmt) (context : Context) (entries entries' : Scope) (before after : List Variable) (step at : ℕ)
    (test : Result BoxedExpr SourceRefusal) (body answer : Result BoxedStmt SourceRefusal) (parts : Result (BoxedStmt × BoxedExpr) SourceRefusal)
    → IsTyped boxed_stmt_view body (statement a context entries (length before) step) before after (locals_in a)
    → answer_of (test_of entries' (Some e)) ≡ seen boxed_view test → entries' ≡ entries → at ≡ step + steps_in a
    → parts ≡ definitions.both_answers body test → seen boxed_stmt_view answer ≡ seen (λ q. tree.BodyFirst at (boxed_view q.1) (boxed_stmt_view q.0)) parts
    → IsTyped boxed_stmt_view answer (statement (ParsedDo a p e) context entries (length before) step) before after (locals_in a)
do-loop p e a context entries entries' before after step at test body answer parts x t n s w f =
    let body_of = statement a context entries (length before) step in
    typed-parts boxed_stmt_view (pair_view (statement_view x.declared) boxed_view) parts (both body_of (test_of entries (Some e)))
    (λ q. Sound (made (tree.BodyFirst (step + steps_in a) q.1 q.0.stmt) q.0.variables)) (λ q. tree.BodyFirst at (boxed_view q.1) (boxed_stmt_view q.0)) answer before after x.declared (locals_in a)
    (seen-both (statement_view x.declared) boxed_view body test parts body_of (test_of entries (Some e)) w x.answered (subst (λ z. answer_of (test_of z (Some e)) ≡ seen boxed_view test) n t))
    f (λ q. ap (λ m. Sound (made (tree.BodyFirst m (boxed_view q.1) (boxed_stmt_view q.0)) x.declared)) (sym s)) x.variables x.counted

pub for-loop : (p : Place) (s u b : ParsedStmt) (e : Option ParsedExpr) (context : Context) (entries entries1 entries2 : Scope) (before l1 l2 after : List Variable) (step step1 n at0 at : ℕ)
    (test : Result BoxedExpr SourceRefusal) (start update body answer : Result BoxedStmt SourceRefusal) (head : Result (BoxedStmt × BoxedExpr) SourceRefusal) (tail : Result (BoxedStmt × BoxedStmt) SourceRefusal)
    (parts : Result ((BoxedStmt × BoxedExpr) × (BoxedStmt × BoxedStmt)) SourceRefusal)
    → IsTyped boxed_stmt_view start (statement s context entries (length before) step) before l1 (locals_in s)
    → entries1 ≡ scope_after s entries (length before) → step1 ≡ step + steps_in s
    → answer_of (test_of entries1 e) ≡ seen boxed_view test → n ≡ steps_in b → at0 ≡ step1 + n
    → IsTyped boxed_stmt_view update (statement u context entries1 (length l1) at0) l1 l2 (locals_in u) → entries2 ≡ entries1 → at ≡ at0 + steps_in u
    → IsTyped boxed_stmt_view body (statement b context entries2 (length l2) step1) l2 after (locals_in b)
    → head ≡ definitions.both_answers start test → tail ≡ definitions.both_answers update body → parts ≡ definitions.both_answers head tail
    → seen boxed_stmt_view answer ≡ seen (λ q. tree.Then (boxed_stmt_view q.0.0) (tree.Loop at (boxed_view q.0.1) (boxed_stmt_view q.1.0) (boxed_stmt_view q.1.1))) parts
    → IsTyped boxed_stmt_view answer (statement (ParsedFor p s e u b) context entries (length before) step) before after (locals_in s + locals_in u + locals_in b)
for-loop p s u b e context entries entries1 entries2 before l1 l2 after step step1 n at0 at test start update body answer head tail parts x e1 s1 t ns a0 h2 e2 a1 h3 hw tw w f =
    let k = length before in
    let inner = scope_after s entries k in
    let inner_k = k + locals_in s in
    let body_step = step + steps_in s in
    let update_step = body_step + steps_in b in
    let k1 : length l1 ≡ inner_k = next-number boxed_stmt_view start (statement s context entries k step) before l1 (locals_in s) x in
    let k2 : length l2 ≡ length l1 + locals_in u = next-number boxed_stmt_view update (statement u context entries1 (length l1) at0) l1 l2 (locals_in u) h2 in
    let first_number : at0 ≡ update_step = a0 ∙ (ap (λ m. step1 + m) ns ∙ ap (λ m. m + steps_in b) s1) in
    let last_number : at ≡ update_step + steps_in u = a1 ∙ ap (λ m. m + steps_in u) first_number in
    let y = typed-at boxed_stmt_view update u context entries1 inner (length l1) inner_k at0 update_step l1 l2 (locals_in u) h2 e1 k1 first_number in
    let z = typed-at boxed_stmt_view body b context entries2 inner (length l2) (inner_k + locals_in u) step1 body_step l2 after (locals_in b) h3 (e2 ∙ e1) (k2 ∙ ap (λ m. m + locals_in u) k1) s1 in
    let start_of = statement s context entries k step in
    let update_of = statement u context inner inner_k update_step in
    let body_of = statement b context inner (inner_k + locals_in u) body_step in
    let test_is : answer_of (test_of inner e) ≡ seen boxed_view test = subst (λ m. answer_of (test_of m e) ≡ seen boxed_view test) e1 t in
    let declared = x.declared ++ (y.declared ++ z.declared) in
    let many : length declared ≡ locals_in s + (locals_in u + locals_in b) =
    length-two x.declared (y.declared ++ z.declared) (locals_in s) (locals_in u + locals_in b) x.counted (length-two y.declared z.declared (locals_in u) (locals_in b) y.counted z.counted) in
    typed-parts boxed_stmt_view (pair_view (pair_view (statement_view x.declared) boxed_view) (pair_view (statement_view y.declared) (statement_view z.declared))) parts
    (both (both start_of (test_of inner e)) (both update_of body_of))
    (λ q. Sound (made (tree.Then q.0.0.stmt (tree.Loop (update_step + steps_in u) q.0.1 q.1.0.stmt q.1.1.stmt)) (q.0.0.variables ++ (q.1.0.variables ++ q.1.1.variables))))
    (λ q. tree.Then (boxed_stmt_view q.0.0) (tree.Loop at (boxed_view q.0.1) (boxed_stmt_view q.1.0) (boxed_stmt_view q.1.1))) answer before after declared (locals_in s + locals_in u + locals_in b)
    (seen-both (pair_view (statement_view x.declared) boxed_view) (pair_view (statement_view y.declared) (statement_view z.declared)) head tail parts (both start_of (test_of inner e)) (both update_of body_of) w
    (seen-both (statement_view x.declared) boxed_view start test head start_of (test_of inner e) hw x.answered test_is)
    (seen-both (statement_view y.declared) (statement_view z.declared) update body tail update_of body_of tw y.answered z.answered))
    f (λ q. ap (λ m. Sound (made (tree.Then (boxed_stmt_view q.0.0) (tree.Loop m (boxed_view q.0.1) (boxed_stmt_view q.1.0) (boxed_stmt_view q.1.1))) declared)) (sym last_number))
    (variables-two before l1 after x.declared (y.declared ++ z.declared) x.variables (variables-two l1 l2 after y.declared z.declared y.variables z.variables))
    (omega (arith, many))

pub for-each : {D : Type 0} (dims_view : D → List Dimension) (p : Place) (is_tiled : Bool) (dims : List ParsedDim) (many : ℕ) (b : ParsedStmt) (context : Context) (entries entries1 : Scope) (before l1 after : List Variable)
    (step step1 : ℕ) (rows : Result D SourceRefusal) (body answer : Result BoxedStmt SourceRefusal) (parts : Result (D × BoxedStmt) SourceRefusal)
    → many ≡ length dims → answer_of (dimensions entries (length before) dims) ≡ seen dims_view rows
    → entries1 ≡ index_entries (length before) dims entries → l1 ≡ before ++ index_variables (length before) dims → step1 ≡ step + 1
    → IsTyped boxed_stmt_view body (statement b context entries1 (length l1) step1) l1 after (locals_in b)
    → parts ≡ definitions.both_answers rows body
    → seen boxed_stmt_view answer ≡ seen (λ q. tree.ForEach step (if is_tiled then tree.Tiles (dims_view q.0) else tree.Rows (dims_view q.0)) (boxed_stmt_view q.1)) parts
    → IsTyped boxed_stmt_view answer (statement (ParsedForEach p is_tiled dims b) context entries (length before) step) before after (many + locals_in b)
for-each dims_view p is_tiled dims many b context entries entries1 before l1 after step step1 rows body answer parts m d e1 v1 s1 h w f =
    let k = length before in
    let indices = index_variables k dims in
    let k1 : length l1 ≡ k + length dims = ap length v1 ∙ (length-append before indices ∙ ap (λ m. k + m) (indices-length dims k)) in
    let x = typed-at boxed_stmt_view body b context entries1 (index_entries k dims entries) (length l1) (k + length dims) step1 (step + 1) l1 after (locals_in b) h e1 k1 s1 in
    let body_of = statement b context (index_entries k dims entries) (k + length dims) (step + 1) in
    typed-parts boxed_stmt_view (pair_view dims_view (statement_view x.declared)) parts (both (dimensions entries k dims) body_of)
    (λ q. Sound (made (tree.ForEach step (if is_tiled then tree.Tiles q.0 else tree.Rows q.0) q.1.stmt) (indices ++ q.1.variables)))
    (λ q. tree.ForEach step (if is_tiled then tree.Tiles (dims_view q.0) else tree.Rows (dims_view q.0)) (boxed_stmt_view q.1)) answer before after (indices ++ x.declared) (many + locals_in b)
    (seen-both dims_view (statement_view x.declared) rows body parts (dimensions entries k dims) body_of w d x.answered)
    f (λ q. refl) (variables-two before l1 after indices x.declared v1 x.variables) (length-two indices x.declared many (locals_in b) (indices-length dims k ∙ sym m) x.counted)

with_index_seen : (n : Entry) (declared : List Variable) (j : Judged Made) (answer : Result BoxedStmt SourceRefusal) → answer_of j ≡ seen (statement_view declared) answer
    → answer_of (with_index n j) ≡ seen (statement_view (n.variable ∷ declared)) answer
with_index_seen n declared j answer h =
    laws.answer_of-then j (λ m. Sound (made m.stmt (n.variable ∷ m.variables)))
    ∙ (ap (λ x. definitions.then_answer x (λ m. Ok (made m.stmt (n.variable ∷ m.variables)))) h ∙ by answer)
  where
    by : (r : Result BoxedStmt SourceRefusal) → definitions.then_answer (seen (statement_view declared) r) (λ m. Ok (made m.stmt (n.variable ∷ m.variables))) ≡ seen (statement_view (n.variable ∷ declared)) r
    by (Ok s) = refl
    by (Err fault) = refl

-- a body in the scope of an index variable
pub in-rounds : (n : Entry) (b : ParsedStmt) (context : Context) (entries entries1 : Scope) (before l1 after : List Variable) (step step1 : ℕ) (answer : Result BoxedStmt SourceRefusal)
    → entries1 ≡ n ∷ entries → l1 ≡ before ++ n.variable ∷ [] → step1 ≡ step + 1
    → IsTyped boxed_stmt_view answer (statement b context entries1 (length l1) step1) l1 after (locals_in b)
    → IsTyped boxed_stmt_view answer (with_index n (statement b context (n ∷ entries) (suc (length before)) (step + 1))) before after (1 + locals_in b)
in-rounds n b context entries entries1 before l1 after step step1 answer e1 v1 s1 h =
    let k1 : length l1 ≡ suc (length before) = omega (arith, ap length v1, length-append before (n.variable ∷ [])) in
    let x = typed-at boxed_stmt_view answer b context entries1 (n ∷ entries) (length l1) (suc (length before)) step1 (step + 1) l1 after (locals_in b) h e1 k1 s1 in
    record {
      declared = n.variable ∷ x.declared;
      variables = x.variables ∙ (ap (λ l. l ++ x.declared) v1 ∙ append_assoc before (n.variable ∷ []) x.declared);
      counted = let c = x.counted in omega (arith, c);
      answered = with_index_seen n x.declared (statement b context (n ∷ entries) (suc (length before)) (step + 1)) answer x.answered;
    }

with_index_then : (n : Entry) (j : Judged Made) (form : tree.Stmt → tree.Stmt)
    → (j >>= (λ inner. Sound (made (form inner.stmt) (n.variable ∷ inner.variables)))) ≡ (with_index n j >>= (λ m. Sound (made (form m.stmt) m.variables)))
with_index_then n (Sound m) form = refl
with_index_then n (Faulty first others) form = refl

pub for-each-active : (p at : Place) (name : Name) (b : ParsedStmt) (context : Context) (entries : Scope) (before after : List Variable) (step : ℕ) (n : Entry) (v : tree.Var)
    (body answer : Result BoxedStmt SourceRefusal)
    → n ≡ index_entry name (Local (length before)) t.Int64 Uniform → v ≡ var_of n.variable
    → IsTyped boxed_stmt_view body (with_index n (statement b context (n ∷ entries) (suc (length before)) (step + 1))) before after (1 + locals_in b)
    → seen boxed_stmt_view answer ≡ seen (λ s. tree.ForEach step (tree.EachLane v) (boxed_stmt_view s)) body
    → IsTyped boxed_stmt_view answer (statement (ParsedForEachActive p at name b) context entries (length before) step) before after (1 + locals_in b)
for-each-active p at name b context entries before after step n v body answer e w h f =
    subst (λ m. IsTyped boxed_stmt_view answer (statement b context (m ∷ entries) (suc (length before)) (step + 1)
    >>= (λ inner. Sound (made (tree.ForEach step (tree.EachLane (var_of m.variable)) inner.stmt) (m.variable ∷ inner.variables)))) before after (1 + locals_in b)) e
    (subst (λ j. IsTyped boxed_stmt_view answer j before after (1 + locals_in b)) (sym (with_index_then n (statement b context (n ∷ entries) (suc (length before)) (step + 1)) (tree.ForEach step (tree.EachLane (var_of n.variable)))))
    (typed-parts boxed_stmt_view (statement_view h.declared) body (with_index n (statement b context (n ∷ entries) (suc (length before)) (step + 1)))
    (λ m. Sound (made (tree.ForEach step (tree.EachLane (var_of n.variable)) m.stmt) m.variables)) (λ s. tree.ForEach step (tree.EachLane v) (boxed_stmt_view s)) answer before after h.declared (1 + locals_in b)
    h.answered f (λ s. ap (λ (y : tree.Var). Sound (made (tree.ForEach step (tree.EachLane y) (boxed_stmt_view s)) h.declared)) (sym w)) h.variables h.counted))

-- the values that a `foreach_unique` goes over, with its body
unique_sound : {V : Type 0} (view : V → conversions.Typed) (p at : Place) (name : Name) (e : ParsedExpr) (b : ParsedStmt) (context : Context) (entries : Scope) (before after : List Variable) (step : ℕ) (n : Entry) (v : tree.Var)
    (x : V) (body answer : Result BoxedStmt SourceRefusal)
    → answer_of (expression e entries) ≡ Ok (view x) → n ≡ index_entry name (Local (length before)) (view x).type Uniform → v ≡ var_of n.variable
    → IsTyped boxed_stmt_view body (with_index n (statement b context (n ∷ entries) (suc (length before)) (step + 1))) before after (1 + locals_in b)
    → seen boxed_stmt_view answer ≡ value_rounds step v (Ok (view x)) (seen boxed_stmt_view body)
    → IsTyped boxed_stmt_view answer (statement (ParsedForEachUnique p at name e b) context entries (length before) step) before after (1 + locals_in b)
unique_sound view p at name e b context entries before after step n v x body answer he hn hv h f =
    let is = sound_of (expression e entries) (view x) he in
    subst (λ j. IsTyped boxed_stmt_view answer (j >>= (λ y. statement b context (index_entry name (Local (length before)) y.type Uniform ∷ entries) (suc (length before)) (step + 1)
    >>= (λ inner. Sound (made (tree.ForEach step (tree.EachValue (var_of (index_entry name (Local (length before)) y.type Uniform).variable) y.expr) inner.stmt)
    ((index_entry name (Local (length before)) y.type Uniform).variable ∷ inner.variables))))) before after (1 + locals_in b)) (sym is)
    (subst (λ m. IsTyped boxed_stmt_view answer (statement b context (m ∷ entries) (suc (length before)) (step + 1)
    >>= (λ inner. Sound (made (tree.ForEach step (tree.EachValue (var_of m.variable) (view x).expr) inner.stmt) (m.variable ∷ inner.variables)))) before after (1 + locals_in b)) hn
    (subst (λ j. IsTyped boxed_stmt_view answer j before after (1 + locals_in b))
    (sym (with_index_then n (statement b context (n ∷ entries) (suc (length before)) (step + 1)) (tree.ForEach step (tree.EachValue (var_of n.variable) (view x).expr))))
    (typed-parts boxed_stmt_view (statement_view h.declared) body (with_index n (statement b context (n ∷ entries) (suc (length before)) (step + 1)))
    (λ m. Sound (made (tree.ForEach step (tree.EachValue (var_of n.variable) (view x).expr) m.stmt) m.variables)) (λ s. tree.ForEach step (tree.EachValue v (view x).expr) (boxed_stmt_view s)) answer
    before after h.declared (1 + locals_in b)
    h.answered (f ∙ rounds_seen body) (λ s. ap (λ (y : tree.Var). Sound (made (tree.ForEach step (tree.EachValue y (view x).expr) (boxed_stmt_view s)) h.declared)) (sym hv)) h.variables h.counted)))
  where
    sound_of : {A : Type 0} (j : Judged A) (a : A) → answer_of j ≡ Ok a → j ≡ Sound a
    sound_of (Sound c) a q = let same : c ≡ a = cc in ap Sound same
    sound_of (Faulty first others) a q = let none : ⊥ = cc in absurd none

    rounds_seen : (r : Result BoxedStmt SourceRefusal) → value_rounds step v (Ok (view x)) (seen boxed_stmt_view r) ≡ seen (λ s. tree.ForEach step (tree.EachValue v (view x).expr) (boxed_stmt_view s)) r
    rounds_seen (Ok s) = refl
    rounds_seen (Err fault) = refl

unique_faulty : (p at : Place) (name : Name) (e : ParsedExpr) (b : ParsedStmt) (context : Context) (entries : Scope) (before after declared : List Variable) (step count : ℕ)
    (fault : SourceRefusal) (answer : Result BoxedStmt SourceRefusal)
    → answer_of (expression e entries) ≡ Err fault → after ≡ before ++ declared → length declared ≡ count → seen boxed_stmt_view answer ≡ Err fault
    → IsTyped boxed_stmt_view answer (statement (ParsedForEachUnique p at name e b) context entries (length before) step) before after count
unique_faulty p at name e b context entries before after declared step count fault answer he v l f = record {
  declared = declared;
  variables = v;
  counted = l;
  answered = by (expression e entries) he ∙ same answer f;
}
  where
    by : (j : Judged conversions.Typed) → answer_of j ≡ Err fault
        → answer_of (j >>= (λ y. statement b context (index_entry name (Local (length before)) y.type Uniform ∷ entries) (suc (length before)) (step + 1)
        >>= (λ inner. Sound (made (tree.ForEach step (tree.EachValue (var_of (index_entry name (Local (length before)) y.type Uniform).variable) y.expr) inner.stmt)
        ((index_entry name (Local (length before)) y.type Uniform).variable ∷ inner.variables))))) ≡ Err fault
    by (Sound y) q = let none : ⊥ = cc in absurd none
    by (Faulty first others) q = let least : least_of first others ≡ fault = cc in ap Err least

    same : (r : Result BoxedStmt SourceRefusal) → seen boxed_stmt_view r ≡ Err fault → Err fault ≡ seen (statement_view declared) r
    same (Ok s) q = let none : ⊥ = cc in absurd none
    same (Err g) q = let is : g ≡ fault = cc in ap Err (sym is)

pub for-each-unique : {V : Type 0} (view : V → conversions.Typed) (p at : Place) (name : Name) (e : ParsedExpr) (b : ParsedStmt) (context : Context) (entries : Scope) (before after : List Variable) (step : ℕ)
    (n : Entry) (v : tree.Var) (value : Result V SourceRefusal) (body answer : Result BoxedStmt SourceRefusal)
    → answer_of (expression e entries) ≡ seen view value → ((x : V) → value ≡ Ok x → n ≡ index_entry name (Local (length before)) (view x).type Uniform) → v ≡ var_of n.variable
    → IsTyped boxed_stmt_view body (with_index n (statement b context (n ∷ entries) (suc (length before)) (step + 1))) before after (1 + locals_in b)
    → seen boxed_stmt_view answer ≡ value_rounds step v (seen view value) (seen boxed_stmt_view body)
    → IsTyped boxed_stmt_view answer (statement (ParsedForEachUnique p at name e b) context entries (length before) step) before after (1 + locals_in b)
for-each-unique view p at name e b context entries before after step n v (Ok x) body answer he hn hv h f =
    unique_sound view p at name e b context entries before after step n v x body answer he (hn x refl) hv h f
for-each-unique view p at name e b context entries before after step n v (Err fault) body answer he hn hv h f =
    unique_faulty p at name e b context entries before after h.declared step (1 + locals_in b) fault answer he h.variables h.counted f
