-- The statements at the front of the tokens, by descent.
use Rattle.std.specs.Prelude.{ℕ, zero, suc, Bool, true, ◌||◌, List, [], ◌∷◌, length, Option, Some, None, if◌then◌else◌}
use Rattle.gang_types.specs.declared.places.Place.{Place}
use Rattle.gang_model.specs.declared.marks.Mark.TheVariants as mark
use Rattle.gang_model.specs.declared.forms.Label.{Label}
use Rattle.gang_model.specs.Source.Tokens.{Sort, named, numbered, marked, Lexeme}
use Rattle.gang_model.specs.Source.Parsed.{ParsedExpr, ParsedStmt, ParsedEmpty, ParsedBlock, ParsedBreak, ParsedContinue, ParsedReturn, ParsedIf, ParsedIfElse, ParsedDo, ParsedSwitch, ParsedStmts, ParsedLast, ParsedNext, ParsedSegments, ParsedNoMore, ParsedSegment}
use Rattle.gang_model.specs.Source.SpellsStatements.{max_labels}
use Rattle.ispc_lexer.specs.Options.{◌>>=◌}
use Rattle.ispc_parser_words.specs.Front.{begins, take, is_mark}
use Rattle.ispc_parser_words.specs.Words.{begins_word}
use Rattle.ispc_parser_expressions.specs.Parse.{whole_expr}
use Rattle.ispc_parser_shared.specs.declared.words.Loop.{Loop}
use Rattle.ispc_parser_shared.specs.declared.words.Plain.{Plain}
use Rattle.ispc_parser_shared.specs.declared.words.Plain.TheVariants as plain
use Rattle.ispc_parser_shared.specs.declared.words.Opening.{Opening}
use Rattle.ispc_parser_shared.specs.declared.words.Opening.TheVariants as opening
use Rattle.ispc_parser_shared.specs.Front.{Reader, take_at, in_parens, ended_of}
use Rattle.ispc_parser_shared.specs.Openings.{opening_of}
use Rattle.ispc_parser_parts.specs.Parts.{declaration_of, simple_of}
use Rattle.ispc_parser_heads.specs.Heads.{optional_of, completed, head_of}
use Rattle.ispc_parser_heads.specs.Labels.{label_of}
use Rattle.source_tree.specs.declared.tree.Segment.{Segment as WrittenSegment}
use Rattle.source_tree.specs.Tree.{stmts_view}
use Rattle.ispc_parser_statements.specs.declared.statements.Holder.{Holder}
use Rattle.ispc_parser_statements.specs.declared.statements.Holder.TheVariants as holder

-- a statement that holds no other one: all of its tokens, and those behind its first
unfoldable pub plain_of : Plain → ℕ → Place → List Lexeme → Reader ParsedStmt
plain_of plain.Empty d at all rest = Some (ParsedEmpty, rest)
plain_of plain.Break d at all rest = take mark.Semicolon rest >>= λ after. Some (ParsedBreak at, after)
plain_of plain.Continue d at all rest = take mark.Semicolon rest >>= λ after. Some (ParsedContinue at, after)
plain_of plain.Return d at all rest = optional_of d rest >>= λ e. take mark.Semicolon e.1 >>= λ after. Some (ParsedReturn at e.0, after)
plain_of plain.Simple d at all rest = ended_of (simple_of d) all

-- what parses one nesting deeper
pub record Below : Type 0 where
  pub stmt : Reader ParsedStmt
  pub stmts : Reader ParsedStmts
  pub segments : Reader ParsedSegments

unfoldable pub block_of : Option Below → Reader ParsedStmt
block_of below ts = take mark.LeftBrace ts >>= λ a. below >>= λ inner. inner.stmts a >>= λ ss. take mark.RightBrace ss.1 >>= λ rest. Some (ParsedBlock ss.0, rest)

unfoldable pub body_of : Option Below → Reader ParsedStmt
body_of below ts = if begins mark.LeftBrace ts then block_of below ts else (below >>= λ inner. inner.stmt ts)

-- `else` and its body
unfoldable pub else_of : Option Below → Reader ParsedStmt
else_of below ts = take mark.Else ts >>= λ a. body_of below a

-- behind `if`
unfoldable pub if_of : ℕ → Option Below → Place → Reader ParsedStmt
if_of d below at ts = in_parens whole_expr d ts >>= λ e. body_of below e.1 >>= λ x.
    if begins mark.Else x.1 then (else_of below x.1 >>= λ y. Some (ParsedIfElse at e.0 x.0 y.0, y.1))
    else Some (ParsedIf at e.0 x.0, x.1)

-- `while ( e ) ;` behind the body of a `do`
unfoldable pub do_test_of : ℕ → Reader (Place × ParsedExpr)
do_test_of d ts = take_at mark.While ts >>= λ w. in_parens whole_expr d w.1 >>= λ e. take mark.Semicolon e.1 >>= λ rest. Some ((w.0, e.0), rest)

-- behind `do`
unfoldable pub do_of : ℕ → Option Below → Reader ParsedStmt
do_of d below ts = body_of below ts >>= λ x. do_test_of d x.1 >>= λ t. Some (ParsedDo x.0 t.0.0 t.0.1, t.1)

-- behind `switch`
unfoldable pub switch_of : ℕ → Option Below → Place → Reader ParsedStmt
switch_of d below at ts = in_parens whole_expr d ts >>= λ e. take mark.LeftBrace e.1 >>= λ a. below >>= λ inner. inner.segments a >>= λ segments.
    take mark.RightBrace segments.1 >>= λ rest. Some (ParsedSwitch at e.0 segments.0, rest)

unfoldable pub loop_of : Loop → ℕ → Option Below → Place → Reader ParsedStmt
loop_of word d below at ts = head_of word d at ts >>= λ h. body_of below h.1 >>= λ x. Some (completed h.0 x.0, x.1)

abbrev pub opened_of : Opening → ℕ → Option Below → Place → List Lexeme → Reader ParsedStmt
opened_of (opening.Plain word) d below at all rest = plain_of word d at all rest
opened_of opening.Block d below at all rest = block_of below all
opened_of opening.If d below at all rest = if_of d below at rest
opened_of opening.Switch d below at all rest = switch_of d below at rest
opened_of opening.Do d below at all rest = do_of d below rest
opened_of (opening.Loop word) d below at all rest = loop_of word d below at rest

abbrev pub stmt_at : ℕ → Option Below → Sort → Place → List Lexeme → Reader ParsedStmt
stmt_at d below (named n) at all rest = ended_of (simple_of d) all
stmt_at d below (marked m) at all rest = opening_of m >>= λ o. opened_of o d below at all rest
stmt_at d below (numbered n u l) at all rest = None

unfoldable pub stmt_of : ℕ → Option Below → Reader ParsedStmt
stmt_of d below [] = None
stmt_of d below (t ∷ ts) =
    if begins_word (t ∷ ts) then ended_of (declaration_of d t.place) (t ∷ ts)
    else stmt_at d below t.sort t.place (t ∷ ts) ts

-- a }, a label or the end comes next
abbrev pub ends_at : Sort → Bool
ends_at s = is_mark mark.RightBrace s || (is_mark mark.Case s || is_mark mark.Default s)

abbrev pub ends_stmts : List Lexeme → Bool
ends_stmts [] = true
ends_stmts (t ∷ ts) = ends_at t.sort

-- at most n statements, up to a }, a label or the end
unfoldable pub stmts_of : Reader ParsedStmt → ℕ → Reader ParsedStmts
stmts_of one zero ts = Some (ParsedLast, ts)
stmts_of one (suc n) ts =
    if ends_stmts ts then Some (ParsedLast, ts)
    else (one ts >>= λ s. stmts_of one n s.1 >>= λ ss. Some (ParsedNext s.0 ss.0, ss.1))

-- a statement in a block or in a segment; in a segment it is no declaration
unfoldable pub segment_stmt_of : ℕ → Option Below → Reader ParsedStmt
segment_stmt_of d below ts = if begins_word ts then None else stmt_of d below ts

abbrev pub one_of : Holder → ℕ → Option Below → Reader ParsedStmt
one_of holder.Block d below = stmt_of d below
one_of holder.Segment d below = segment_stmt_of d below

abbrev pub held_of : Holder → ℕ → Option Below → Reader ParsedStmts
held_of h d below ts = stmts_of (one_of h d below) (length ts) ts

-- a label with its place, and the statements up to the next one
pub record Segment : Type 0 where
  pub at : Place
  pub label : Option Label
  pub stmts : ParsedStmts

abbrev pub segment_view : WrittenSegment → Segment
segment_view s = record { at = s.place; label = s.label; stmts = stmts_view s.body.items }

unfoldable pub segment_of : ℕ → Option Below → Reader Segment
segment_of d below ts = label_of ts >>= λ l. held_of holder.Segment d below l.1 >>= λ ss.
    Some (record { at = l.0.0; label = l.0.1; stmts = ss.0 }, ss.1)

-- at most n segments, up to a }
unfoldable pub segments_of : Reader Segment → ℕ → Reader ParsedSegments
segments_of one zero ts = Some (ParsedNoMore, ts)
segments_of one (suc n) ts =
    if begins mark.RightBrace ts then Some (ParsedNoMore, ts)
    else (one ts >>= λ s. segments_of one n s.1 >>= λ segments. Some (ParsedSegment s.0.at s.0.label s.0.stmts segments.0, segments.1))

abbrev pub within : ℕ → Option Below → Below
within d below = record {
  stmt = stmt_of d below;
  stmts = held_of holder.Block d below;
  segments = segments_of (segment_of d below) max_labels;
}

-- what parses inside one of so many nestings
unfoldable pub parsers : ℕ → Option Below
parsers zero = None
parsers (suc d) = Some (within d (parsers d))
