-- What is spelled as statements is read so.
use Rattle.std.proofs.Common.{◌≡◌, inl, inr, ℕ, zero, suc, ◌≤◌, List, [], ◌∷◌, length, Option, Some, None, Bool, true, false, refl, sym, ◌∙◌, arith}
use Rattle.gang_types.specs.declared.places.Place.{Place}
use Rattle.gang_model.specs.declared.marks.Mark.{Mark}
use Rattle.gang_model.specs.declared.marks.Mark.TheVariants as mark
use Rattle.gang_model.specs.declared.forms.Label.{Label}
use Rattle.gang_model.specs.Source.Tokens.{Sort, named, marked, Lexeme}
use Rattle.gang_model.specs.Source.Parsed.{ParsedExpr, ParsedStmt, ParsedEmpty, ParsedBlock, ParsedDeclare, ParsedAssign, ParsedChange, ParsedIncrement, ParsedDoCall, ParsedBreak, ParsedContinue, ParsedReturn, ParsedIf, ParsedIfElse, ParsedWhile, ParsedDo, ParsedFor, ParsedSwitch, ParsedForEach, ParsedForEachActive, ParsedForEachUnique, ParsedStmts, ParsedLast, ParsedNext, ParsedSegments, ParsedNoMore, ParsedSegment}
use Rattle.gang_model.specs.Source.Spells.{Takes, TakesAt, Opens, any_level}
use Rattle.gang_model.specs.Source.SpellsStatements.{TakesEither, BeginsAt, SpellsSimple, foreach_word, SpellsLabel, is_declaration, HasNoDeclaration, max_labels, label_count, OpensBody, SpellsStmt, SpellsStmts, SpellsSegments}
use Rattle.ispc_parser_words.specs.Front.{begins, is_mark}
use Rattle.ispc_parser_words.specs.Words.{begins_word, spec_word}
use Rattle.gang_model.proofs.NestingLaws.{opened}
use Rattle.ispc_parser_words.proofs.Tokens.{take_again, begins_again}
use Rattle.ispc_parser_words.proofs.Tokens.{takes_at}
use Rattle.ispc_parser_words.proofs.Follows.{stops_at}
use Rattle.ispc_parser_shared.specs.declared.words.Loop.{Loop}
use Rattle.ispc_parser_shared.specs.declared.words.Loop.TheVariants as loop
use Rattle.ispc_parser_shared.specs.Front.{ended_of}
use Rattle.ispc_parser_shared.proofs.Tokens.{begins_next, take_at_again}
use Rattle.ispc_lexer.specs.Options.{if_some}
use Rattle.ispc_parser_shared.proofs.Lengths.{stmt_shorter}
use Rattle.ispc_parser_shared.proofs.SpecTokens.{word_first}
use Rattle.ispc_parser_parts.specs.Parts.{declaration_of, simple_of}
use Rattle.ispc_parser_parts.proofs.Beginnings.{BeginsSimple, simple_first, simple_no_word, simple_other, declaration_word}
use Rattle.ispc_parser_parts.proofs.PartsComplete.{declaration_complete, simple_complete}
use Rattle.ispc_parser_heads.specs.Heads.{ParsedRounds, ParsedDistinct, ParsedHead, WhileHead, ForHead, ForEachHead, ActiveHead, UniqueHead, completed, head_of}
use Rattle.ispc_parser_heads.proofs.HeadsComplete.{optional_complete, test_complete, while_complete, for_complete, foreach_complete, active_complete, unique_complete}
use Rattle.ispc_parser_heads.proofs.LabelLaws.{label_complete}
use Rattle.ispc_parser_statements.specs.Statements.{plain_of, Below, block_of, body_of, else_of, if_of, switch_of, do_test_of, do_of, loop_of, stmt_at, stmt_of, ends_at, ends_stmts, stmts_of, segment_stmt_of, segment_of, segments_of, within, parsers}

-- ---- first tokens

abbrev is_block : ParsedStmt → Bool
is_block (ParsedBlock ss) = true
is_block _ = false

abbrev is_word : Sort → Bool
is_word s = if_some (spec_word s) (λ w. true) false

-- a block begins with a brace and no other statement does; a declaration begins with a word of a spec and no other does; none
-- begins with what ends a list of statements
abbrev BeginsWith : ParsedStmt → Sort → Type 0
BeginsWith x s = (is_mark mark.LeftBrace s ≡ is_block x) × (ends_at s ≡ false) × (is_word s ≡ is_declaration x)

abbrev Begins : ParsedStmt → List Lexeme → Type 0
Begins x ts = (begins mark.LeftBrace ts ≡ is_block x) × (ends_stmts ts ≡ false) × (begins_word ts ≡ is_declaration x)

begins_so : (x : ParsedStmt) (s : Sort) (ts rest : List Lexeme) → Takes s ts rest → BeginsWith x s → Begins x ts
begins_so x s ts rest h p = (rw (h.is, h.sort_is) p.0, rw (h.is, h.sort_is) p.1, rw (h.is, h.sort_is) p.2)

begins_at : (x : ParsedStmt) (s : Sort) (at : Place) (ts rest : List Lexeme) → TakesAt s at ts rest → BeginsWith x s → Begins x ts
begins_at x s at ts rest h p = begins_so x s ts rest (takes_at s at ts rest h) p

begins_either : (x : ParsedStmt) (m k : Mark) (at : Place) (ts rest : List Lexeme) → TakesEither m k at ts rest → BeginsWith x (marked m) → BeginsWith x (marked k) → Begins x ts
begins_either x m k at ts rest (inl h) p q = begins_at x (marked m) at ts rest h p
begins_either x m k at ts rest (inr h) p q = begins_at x (marked k) at ts rest h q

begins_foreach : (x : ParsedStmt) (is_tiled : Bool) (at : Place) (ts rest : List Lexeme) → TakesAt (marked (foreach_word is_tiled)) at ts rest
    → is_block x ≡ false → is_declaration x ≡ false → Begins x ts
begins_foreach x true at ts rest h e f = begins_at x (marked mark.ForeachTiled) at ts rest h (sym e, refl, sym f)
begins_foreach x false at ts rest h e f = begins_at x (marked mark.Foreach) at ts rest h (sym e, refl, sym f)

simple_goes_on : (s : Sort) → BeginsSimple s → ends_at s ≡ false
simple_goes_on s h = rw (simple_other mark.RightBrace s h (λ k. k), simple_other mark.Case s h (λ k. k), simple_other mark.Default s h (λ k. k)) refl

simple_is_no_word : (s : Sort) → BeginsSimple s → is_word s ≡ false
simple_is_no_word s h = rw (simple_no_word s h) refl

begins_simple : (d : ℕ) (x : ParsedStmt) (ts rest : List Lexeme) → SpellsSimple d x ts rest → is_block x ≡ false → is_declaration x ≡ false → Begins x ts
begins_simple d x ts rest h e f =
    let p = simple_first d x ts rest h in
    begins_so x p.0 ts p.1 p.2 (simple_other mark.LeftBrace p.0 p.3 (λ k. k) ∙ sym e, simple_goes_on p.0 p.3, simple_is_no_word p.0 p.3 ∙ sym f)

begins_declaration : (x : ParsedStmt) (ts : List Lexeme) → begins_word ts ≡ true → is_block x ≡ false → is_declaration x ≡ true → Begins x ts
begins_declaration x [] word e f = absurd cc
begins_declaration x (t ∷ ts) word e f =
    let goes_on : ends_at t.sort ≡ false = rw (word_first mark.RightBrace (t ∷ ts) word refl, word_first mark.Case (t ∷ ts) word refl, word_first mark.Default (t ∷ ts) word refl) refl in
    (word_first mark.LeftBrace (t ∷ ts) word refl ∙ sym e, goes_on, word ∙ sym f)

stmt_first : (x : ParsedStmt) (d : ℕ) (ts rest : List Lexeme) → SpellsStmt x d ts rest → Begins x ts
stmt_first ParsedEmpty d ts rest h = begins_so ParsedEmpty (marked mark.Semicolon) ts rest h (refl, refl, refl)
stmt_first (ParsedBlock ss) d ts rest h = begins_so (ParsedBlock ss) (marked mark.LeftBrace) ts h.0 h.2 (refl, refl, refl)
stmt_first (ParsedDeclare at spec name_at n o) d ts rest h =
    begins_declaration (ParsedDeclare at spec name_at n o) ts (declaration_word d (ParsedDeclare at spec name_at n o) ts h.0 h.1) refl refl
stmt_first (ParsedBreak at) d ts rest h = begins_at (ParsedBreak at) (marked mark.Break) at ts h.0 h.1 (refl, refl, refl)
stmt_first (ParsedContinue at) d ts rest h = begins_at (ParsedContinue at) (marked mark.Continue) at ts h.0 h.1 (refl, refl, refl)
stmt_first (ParsedReturn at o) d ts rest h = begins_at (ParsedReturn at o) (marked mark.Return) at ts h.0 h.2 (refl, refl, refl)
stmt_first (ParsedIf at e x) d ts rest h = begins_either (ParsedIf at e x) mark.If mark.Cif at ts h.0 h.2 (refl, refl, refl) (refl, refl, refl)
stmt_first (ParsedIfElse at e x y) d ts rest h = begins_either (ParsedIfElse at e x y) mark.If mark.Cif at ts h.0 h.4 (refl, refl, refl) (refl, refl, refl)
stmt_first (ParsedWhile at e x) d ts rest h = begins_either (ParsedWhile at e x) mark.While mark.Cwhile at ts h.0 h.2 (refl, refl, refl) (refl, refl, refl)
stmt_first (ParsedDo x at e) d ts rest h = begins_either (ParsedDo x at e) mark.Do mark.Cdo h.0 ts h.1 h.5 (refl, refl, refl) (refl, refl, refl)
stmt_first (ParsedFor at start test update x) d ts rest h = begins_either (ParsedFor at start test update x) mark.For mark.Cfor at ts h.0 h.2 (refl, refl, refl) (refl, refl, refl)
stmt_first (ParsedForEach at is_tiled dims x) d ts rest h = begins_foreach (ParsedForEach at is_tiled dims x) is_tiled at ts h.0 h.2 refl refl
stmt_first (ParsedForEachActive at name_at n x) d ts rest h = begins_at (ParsedForEachActive at name_at n x) (marked mark.ForeachActive) at ts h.0 h.2 (refl, refl, refl)
stmt_first (ParsedForEachUnique at name_at n e x) d ts rest h = begins_at (ParsedForEachUnique at name_at n e x) (marked mark.ForeachUnique) at ts h.0 h.2 (refl, refl, refl)
stmt_first (ParsedAssign at target e) d ts rest h = begins_simple d (ParsedAssign at target e) ts h.0 h.1 refl refl
stmt_first (ParsedChange at target op e) d ts rest h = begins_simple d (ParsedChange at target op e) ts h.0 h.1 refl refl
stmt_first (ParsedIncrement at target op) d ts rest h = begins_simple d (ParsedIncrement at target op) ts h.0 h.1 refl refl
stmt_first (ParsedDoCall at n es) d ts rest h = begins_simple d (ParsedDoCall at n es) ts h.0 h.1 refl refl
stmt_first (ParsedSwitch at e segments) d ts rest h = begins_at (ParsedSwitch at e segments) (marked mark.Switch) at ts h.0 h.4 (refl, refl, refl)

placed : (s : Sort) (ts rest : List Lexeme) → (h : Takes s ts rest) → TakesAt s h.token.place ts rest
placed s ts rest h = record { token = h.token; is = h.is; sort_is = h.sort_is; place_is = refl }

-- ---- statements inside statements

pub record AreComplete (d : ℕ) (below : Option Below) : Type 0 where
  pub stmt : (x : ParsedStmt) (ts rest : List Lexeme) → Opens d (λ n. SpellsStmt x n ts rest) → (inner : Below) × (below ≡ Some inner) × (inner.stmt ts ≡ Some (x, rest))
  pub stmts : (ss : ParsedStmts) (ts rest : List Lexeme) → Opens d (λ n. SpellsStmts ss n ts rest) → ends_stmts rest ≡ true → (inner : Below) × (below ≡ Some inner) × (inner.stmts ts ≡ Some (ss, rest))
  pub segments : (xs : ParsedSegments) (ts rest : List Lexeme) → Opens d (λ n. SpellsSegments xs n ts rest) → label_count xs ≤ max_labels → begins mark.RightBrace rest ≡ true
      → (inner : Below) × (below ≡ Some inner) × (inner.segments ts ≡ Some (xs, rest))

module _ (d : ℕ) (below : Option Below) (h : AreComplete d below) where
  block_complete : (ss : ParsedStmts) (ts rest : List Lexeme) → SpellsStmt (ParsedBlock ss) d ts rest → block_of below ts ≡ Some (ParsedBlock ss, rest)
  unfolding block_of
  block_complete ss ts rest p =
      let ends : ends_stmts p.1 ≡ true = rw (p.4.is, p.4.sort_is) refl in
      let q = h.stmts ss p.0 p.1 p.3 ends in
      rw (take_again mark.LeftBrace ts p.0 p.2, q.1, q.2, take_again mark.RightBrace p.1 rest p.4) refl

  body_complete : (x : ParsedStmt) (ts rest : List Lexeme) → OpensBody x d (λ n. SpellsStmt x n ts rest) → body_of below ts ≡ Some (x, rest)
  unfolding body_of
  body_complete (ParsedBlock ss) ts rest p = rw (begins_again mark.LeftBrace ts p.0 p.2) (block_complete ss ts rest p)
  body_complete x ts rest p =
      let o = opened d (λ (n : ℕ). SpellsStmt x n ts rest) p in
      let q = h.stmt x ts rest p in
      rw ((stmt_first x o.0 ts rest o.2).0, q.1) q.2

  switch_complete : (at : Place) (e : ParsedExpr) (xs : ParsedSegments) (ts rest : List Lexeme) → (p : SpellsStmt (ParsedSwitch at e xs) d ts rest)
      → switch_of d below at p.0 ≡ Some (ParsedSwitch at e xs, rest)
  unfolding switch_of
  switch_complete at e xs ts rest p =
      let q = h.segments xs p.2 p.3 p.7 p.8 (begins_again mark.RightBrace p.3 rest p.9) in
      rw (test_complete d at p.0 p.1 e p.5, take_again mark.LeftBrace p.1 p.2 p.6, q.1, q.2, take_again mark.RightBrace p.3 rest p.9) refl

  -- ---- by the first token

  of_sort : (s : Sort) (at : Place) (ts rest : List Lexeme) → TakesAt s at ts rest → spec_word s ≡ None → stmt_of d below ts ≡ stmt_at d below s at ts rest
  unfolding stmt_of
  of_sort s at ts rest p none = rw (p.is, p.sort_is, none, p.place_is) refl

  of_if : (at : Place) (ts rest : List Lexeme) → TakesEither mark.If mark.Cif at ts rest → stmt_of d below ts ≡ if_of d below at rest
  of_if at ts rest (inl p) = of_sort (marked mark.If) at ts rest p refl
  of_if at ts rest (inr p) = of_sort (marked mark.Cif) at ts rest p refl

  of_while : (at : Place) (ts rest : List Lexeme) → TakesEither mark.While mark.Cwhile at ts rest → stmt_of d below ts ≡ loop_of loop.While d below at rest
  of_while at ts rest (inl p) = of_sort (marked mark.While) at ts rest p refl
  of_while at ts rest (inr p) = of_sort (marked mark.Cwhile) at ts rest p refl

  of_do : (at : Place) (ts rest : List Lexeme) → TakesEither mark.Do mark.Cdo at ts rest → stmt_of d below ts ≡ do_of d below rest
  of_do at ts rest (inl p) = of_sort (marked mark.Do) at ts rest p refl
  of_do at ts rest (inr p) = of_sort (marked mark.Cdo) at ts rest p refl

  of_for : (at : Place) (ts rest : List Lexeme) → TakesEither mark.For mark.Cfor at ts rest → stmt_of d below ts ≡ loop_of loop.For d below at rest
  of_for at ts rest (inl p) = of_sort (marked mark.For) at ts rest p refl
  of_for at ts rest (inr p) = of_sort (marked mark.Cfor) at ts rest p refl

  of_foreach : (is_tiled : Bool) (at : Place) (ts rest : List Lexeme) → TakesAt (marked (foreach_word is_tiled)) at ts rest → stmt_of d below ts ≡ loop_of (loop.ForEach is_tiled) d below at rest
  of_foreach true at ts rest p = of_sort (marked mark.ForeachTiled) at ts rest p refl
  of_foreach false at ts rest p = of_sort (marked mark.Foreach) at ts rest p refl

  of_simple : (s : Sort) (ts rest : List Lexeme) → Takes s ts rest → BeginsSimple s → stmt_of d below ts ≡ ended_of (simple_of d) ts
  unfolding plain_of
  of_simple (named n) ts rest p simple = of_sort (named n) p.token.place ts rest (placed (named n) ts rest p) refl
  of_simple (marked mark.PlusPlus) ts rest p simple = of_sort (marked mark.PlusPlus) p.token.place ts rest (placed (marked mark.PlusPlus) ts rest p) refl
  of_simple (marked mark.MinusMinus) ts rest p simple = of_sort (marked mark.MinusMinus) p.token.place ts rest (placed (marked mark.MinusMinus) ts rest p) refl
  of_simple _ ts rest p simple = absurd simple

  of_declaration : (at : Place) (ts : List Lexeme) → begins_word ts ≡ true → BeginsAt at ts → stmt_of d below ts ≡ ended_of (declaration_of d at) ts
  unfolding stmt_of
  of_declaration at [] word here = absurd here
  of_declaration at (t ∷ ts) word here = rw (word, here) refl

  -- ---- each form

  simple_stmt : (x : ParsedStmt) (ts rest after : List Lexeme) → SpellsSimple d x ts rest → Takes (marked mark.Semicolon) rest after → stmt_of d below ts ≡ Some (x, after)
  unfolding ended_of
  simple_stmt x ts rest after p last =
      let q = simple_first d x ts rest p in
      of_simple q.0 ts q.1 q.2 q.3 ∙ rw (simple_complete d x ts rest p (stops_at any_level (marked mark.Semicolon) rest after last (omega arith)), take_again mark.Semicolon rest after last) refl

  loop_complete : (word : Loop) (head : ParsedHead) (at : Place) (x : ParsedStmt) (ts mid rest : List Lexeme)
      → head_of word d at ts ≡ Some (head, mid) → OpensBody x d (λ n. SpellsStmt x n mid rest) → loop_of word d below at ts ≡ Some (completed head x, rest)
  unfolding loop_of
  loop_complete word head at x ts mid rest e p = rw (e, body_complete x mid rest p) refl

  pub stmt_complete : (x : ParsedStmt) (ts rest : List Lexeme) → SpellsStmt x d ts rest → stmt_of d below ts ≡ Some (x, rest)
  unfolding plain_of ended_of else_of if_of do_test_of do_of
  stmt_complete ParsedEmpty ts rest p = of_sort (marked mark.Semicolon) p.token.place ts rest (placed (marked mark.Semicolon) ts rest p) refl
  stmt_complete (ParsedBlock ss) ts rest p =
      of_sort (marked mark.LeftBrace) p.2.token.place ts p.0 (placed (marked mark.LeftBrace) ts p.0 p.2) refl ∙ block_complete ss ts rest p
  stmt_complete (ParsedDeclare at spec name_at n o) ts rest p =
      of_declaration at ts (declaration_word d (ParsedDeclare at spec name_at n o) ts p.0 p.1) p.1.2
      ∙ rw (declaration_complete d at spec name_at n o ts p.0 rest p.1 p.2, take_again mark.Semicolon p.0 rest p.2) refl
  stmt_complete (ParsedBreak at) ts rest p = of_sort (marked mark.Break) at ts p.0 p.1 refl ∙ rw (take_again mark.Semicolon p.0 rest p.2) refl
  stmt_complete (ParsedContinue at) ts rest p = of_sort (marked mark.Continue) at ts p.0 p.1 refl ∙ rw (take_again mark.Semicolon p.0 rest p.2) refl
  stmt_complete (ParsedReturn at o) ts rest p =
      of_sort (marked mark.Return) at ts p.0 p.2 refl ∙ rw (optional_complete d o p.0 p.1 rest p.3 p.4, take_again mark.Semicolon p.1 rest p.4) refl
  stmt_complete (ParsedIf at e x) ts rest p =
      of_if at ts p.0 p.2 ∙ rw (test_complete d at p.0 p.1 e p.3, body_complete x p.1 rest p.4, begins_next mark.Else rest p.5) refl
  stmt_complete (ParsedIfElse at e x y) ts rest p =
      of_if at ts p.0 p.4 ∙ rw (test_complete d at p.0 p.1 e p.5, body_complete x p.1 p.2 p.6, begins_again mark.Else p.2 p.3 p.7, take_again mark.Else p.2 p.3 p.7, body_complete y p.3 rest p.8) refl
  stmt_complete (ParsedWhile at e x) ts rest p = of_while at ts p.0 p.2 ∙ loop_complete loop.While (WhileHead at e) at x p.0 p.1 rest (while_complete d at p.0 p.1 e p.3) p.4
  stmt_complete (ParsedDo x at e) ts rest p =
      of_do p.0 ts p.1 p.5 ∙ rw (body_complete x p.1 p.2 p.6, take_at_again mark.While at p.2 p.3 p.7, test_complete d at p.3 p.4 e p.8, take_again mark.Semicolon p.4 rest p.9) refl
  stmt_complete (ParsedFor at start test update x) ts rest p =
      let rounds : ParsedRounds = record { start = start; test = test; update = update } in
      of_for at ts p.0 p.2 ∙ loop_complete loop.For (ForHead at rounds) at x p.0 p.1 rest (for_complete d at p.0 p.1 rounds p.3) p.4
  stmt_complete (ParsedForEach at is_tiled dims x) ts rest p =
      of_foreach is_tiled at ts p.0 p.2 ∙ loop_complete (loop.ForEach is_tiled) (ForEachHead at is_tiled dims) at x p.0 p.1 rest (foreach_complete d at p.0 p.1 is_tiled dims p.3) p.4
  stmt_complete (ParsedForEachActive at name_at n x) ts rest p =
      of_sort (marked mark.ForeachActive) at ts p.0 p.2 refl ∙ loop_complete loop.ForEachActive (ActiveHead at name_at n) at x p.0 p.1 rest (active_complete d at p.0 p.1 name_at n p.3) p.4
  stmt_complete (ParsedForEachUnique at name_at n e x) ts rest p =
      let distinct : ParsedDistinct = record { at = name_at; name = n; value = e } in
      of_sort (marked mark.ForeachUnique) at ts p.0 p.2 refl ∙ loop_complete loop.ForEachUnique (UniqueHead at distinct) at x p.0 p.1 rest (unique_complete d at p.0 p.1 distinct p.3) p.4
  stmt_complete (ParsedAssign at target e) ts rest p = simple_stmt (ParsedAssign at target e) ts p.0 rest p.1 p.2
  stmt_complete (ParsedChange at target op e) ts rest p = simple_stmt (ParsedChange at target op e) ts p.0 rest p.1 p.2
  stmt_complete (ParsedIncrement at target op) ts rest p = simple_stmt (ParsedIncrement at target op) ts p.0 rest p.1 p.2
  stmt_complete (ParsedDoCall at n es) ts rest p = simple_stmt (ParsedDoCall at n es) ts p.0 rest p.1 p.2
  stmt_complete (ParsedSwitch at e xs) ts rest p = of_sort (marked mark.Switch) at ts p.0 p.4 refl ∙ switch_complete at e xs ts rest p

  pub stmts_complete : (n : ℕ) (ss : ParsedStmts) (ts rest : List Lexeme) → length ts ≤ n → SpellsStmts ss d ts rest → ends_stmts rest ≡ true → stmts_of (stmt_of d below) n ts ≡ Some (ss, rest)
  unfolding stmts_of
  stmts_complete zero ParsedLast ts rest long p e = rw p refl
  stmts_complete (suc n) ParsedLast ts rest long p e = rw (p, e) refl
  stmts_complete zero (ParsedNext x ss) ts rest long p e = absurd (omega (arith, stmt_shorter x d ts p.0 p.1))
  stmts_complete (suc n) (ParsedNext x ss) ts rest long p e =
      rw ((stmt_first x d ts p.0 p.1).1, stmt_complete x ts p.0 p.1, stmts_complete n ss p.0 rest (omega (arith, stmt_shorter x d ts p.0 p.1)) p.2 e) refl

  -- ---- segments

  segment_stmt_complete : (x : ParsedStmt) (ts rest : List Lexeme) → SpellsStmt x d ts rest → is_declaration x ≡ false → segment_stmt_of d below ts ≡ Some (x, rest)
  unfolding segment_stmt_of
  segment_stmt_complete x ts rest p bare = rw ((stmt_first x d ts rest p).2, bare) (stmt_complete x ts rest p)

  segment_stmts_complete : (n : ℕ) (ss : ParsedStmts) (ts rest : List Lexeme) → length ts ≤ n → SpellsStmts ss d ts rest → HasNoDeclaration ss → ends_stmts rest ≡ true
      → stmts_of (segment_stmt_of d below) n ts ≡ Some (ss, rest)
  unfolding stmts_of
  segment_stmts_complete zero ParsedLast ts rest long p bare e = rw p refl
  segment_stmts_complete (suc n) ParsedLast ts rest long p bare e = rw (p, e) refl
  segment_stmts_complete zero (ParsedNext x ss) ts rest long p bare e = absurd (omega (arith, stmt_shorter x d ts p.0 p.1))
  segment_stmts_complete (suc n) (ParsedNext x ss) ts rest long p bare e =
      rw (
        (stmt_first x d ts p.0 p.1).1,
        segment_stmt_complete x ts p.0 p.1 bare.0,
        segment_stmts_complete n ss p.0 rest (omega (arith, stmt_shorter x d ts p.0 p.1)) p.2 bare.1 e,
      ) refl

  segment_complete : (at : Place) (label : Option Label) (ss : ParsedStmts) (ts mid rest : List Lexeme)
      → SpellsLabel at label ts mid → SpellsStmts ss d mid rest → HasNoDeclaration ss → ends_stmts rest ≡ true
      → segment_of d below ts ≡ Some (record { at = at; label = label; stmts = ss }, rest)
  unfolding segment_of
  segment_complete at label ss ts mid rest first p bare e =
      rw (label_complete at label ts mid first, segment_stmts_complete (length mid) ss mid rest (omega arith) p bare e) refl

  -- a label begins with its word
  label_first : (at : Place) (label : Option Label) (ts rest : List Lexeme) → SpellsLabel at label ts rest → (begins mark.RightBrace ts ≡ false) × (ends_stmts ts ≡ true)
  label_first at (Some x) ts rest h = (rw (h.5.is, h.5.sort_is) refl, rw (h.5.is, h.5.sort_is) refl)
  label_first at None ts rest h = (rw (h.1.is, h.1.sort_is) refl, rw (h.1.is, h.1.sort_is) refl)

  brace_ends : (ts : List Lexeme) → begins mark.RightBrace ts ≡ true → ends_stmts ts ≡ true
  brace_ends [] e = absurd cc
  brace_ends (t ∷ ts) e = rw e refl

  -- what follows the statements of a segment ends them
  segments_end : (xs : ParsedSegments) (ts rest : List Lexeme) → SpellsSegments xs d ts rest → begins mark.RightBrace rest ≡ true → ends_stmts ts ≡ true
  segments_end ParsedNoMore ts rest p e = rw p (brace_ends rest e)
  segments_end (ParsedSegment at label ss xs) ts rest p e = (label_first at label ts p.0 p.2).1

  segments_complete : (n : ℕ) (xs : ParsedSegments) (ts rest : List Lexeme) → SpellsSegments xs d ts rest → label_count xs ≤ n → begins mark.RightBrace rest ≡ true
      → segments_of (segment_of d below) n ts ≡ Some (xs, rest)
  unfolding segments_of
  segments_complete zero ParsedNoMore ts rest p few e = rw p refl
  segments_complete (suc n) ParsedNoMore ts rest p few e = rw (p, e) refl
  segments_complete zero (ParsedSegment at label ss xs) ts rest p few e = absurd (omega (arith, few))
  segments_complete (suc n) (ParsedSegment at label ss xs) ts rest p few e =
      rw (
        (label_first at label ts p.0 p.2).0,
        segment_complete at label ss ts p.0 p.1 p.2 p.3 p.4 (segments_end xs p.1 rest p.5 e),
        segments_complete n xs p.1 rest p.5 (omega (arith, few)) e,
      ) refl

pub parsers_complete : (d : ℕ) → AreComplete d (parsers d)
unfolding parsers
parsers_complete zero = record { stmt = λ x ts rest h. absurd h; stmts = λ ss ts rest h e. absurd h; segments = λ xs ts rest h few e. absurd h }
parsers_complete (suc d) = record {
  stmt = λ x ts rest h. (within d (parsers d), refl, stmt_complete d (parsers d) (parsers_complete d) x ts rest h);
  stmts = λ ss ts rest h e. (within d (parsers d), refl, stmts_complete d (parsers d) (parsers_complete d) (length ts) ss ts rest (omega arith) h e);
  segments = λ xs ts rest h few e. (within d (parsers d), refl, segments_complete d (parsers d) (parsers_complete d) max_labels xs ts rest h few e);
}
