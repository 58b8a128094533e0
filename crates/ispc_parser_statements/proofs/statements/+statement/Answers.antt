use Rattle.std.proofs.Common.{◌≡◌, ◌-◌, ◌+◌, ◌∙◌, sym, arith, length}
use Rattle.std.proofs.lemmas.Result.{err_from_is_err_and}
use Rattle.gang_model.specs.Source.Parsed.{ParsedLast, ParsedNext, ParsedNoMore}
use Rattle.gang_model.specs.Source.SpellsStatements.{max_labels}
use Rattle.ispc_parser_words.proofs.Tokens.{length-lexemes_of}
use Rattle.ispc_lexer.specs.Views.{lexemes_of}
use Rattle.source_tree.specs.Tree.{stmt_view, stmts_view, segments_view}
use Rattle.ispc_parser_statements.specs.Statements.{parsers, one_of, segment_view, segment_of}
use Rattle.ispc_parser_statements.proofs.Sequences.{append, stmts_view-push, starts_last, stmts_done, stmts_spent, stmts_fail, stmts_go_on}
use Rattle.ispc_parser_statements.proofs.SegmentSequences.{before, append as append_segments, segments_view-push, starts_none, segments_done, segments_spent, segments_fail, segments_go_on}
use Rattle.ispc_parser_statements.proofs.statements.+statement.Goals as goal

pub block-held-requires : goal.block-held-requires
block-held-requires t c = omega (arith, c.in_ok-inner.ensures.one_less)

pub body-stmt-requires : goal.body-stmt-requires
body-stmt-requires t c = omega (arith, c.in_ok-inner.ensures.one_less)

pub switch_stmt-segments-requires : goal.switch_stmt-segments-requires
switch_stmt-segments-requires t c = omega (arith, c.in_ok-inner.ensures.one_less)

pub held-loop-init : goal.held-loop-init
held-loop-init t c =
    rw c.new-stmts.ensures.items
    (starts_last (one_of c.args.holder c.args.depth (parsers c.args.depth)) (length c.args.tokens.now - 0) (length (lexemes_of c.args.tokens.now)) (lexemes_of c.args.tokens.now) (omega (arith, length-lexemes_of c.args.tokens.now)))

pub held-returns-then-ends_stmts : goal.held-returns-then-ends_stmts
held-returns-then-ends_stmts t c =
    sym c.loop.invariant ∙ stmts_done (one_of c.args.holder c.args.depth (parsers c.args.depth)) (length c.args.tokens.now - c.loop.counter) (stmts_view c.loop.stmts.items) (lexemes_of c.loop.rest.now) (sym c.ends_stmts.ensures ∙ c.if-ends_stmts.true)

pub held-returns-in_err-stmt : goal.held-returns-in_err-stmt
held-returns-in_err-stmt t c =
    let p = err_from_is_err_and c.from_residual.result c.from_residual.ensures.1 in
    rw (p.1, p.2) (stmts_fail (one_of c.args.holder c.args.depth (parsers c.args.depth)) (length c.args.tokens.now - c.loop.counter) (length c.args.tokens.now - (c.loop.counter + 1)) (stmts_view c.loop.stmts.items) (lexemes_of c.loop.rest.now) _ (omega arith) (sym c.ends_stmts.ensures ∙ c.if-ends_stmts.false) c.loop.invariant c.in_err-stmt.field-0.0 c.in_err-stmt.ensures)

pub held-loop-preserved : goal.held-loop-preserved
held-loop-preserved t c =
    let e : stmts_view c.push.new.stmts.items ≡ append (stmts_view c.loop.stmts.items) (ParsedNext (stmt_view c.in_ok-stmt.stmt.value) ParsedLast) = rw c.in_ok-push.ensures (stmts_view-push c.loop.stmts.items c.in_ok-stmt.stmt.value) in
    rw e (stmts_go_on (one_of c.args.holder c.args.depth (parsers c.args.depth)) (length c.args.tokens.now - c.loop.counter) (length c.args.tokens.now - (c.loop.counter + 1)) (stmts_view c.loop.stmts.items) (lexemes_of c.loop.rest.now) _ (omega arith) (sym c.ends_stmts.ensures ∙ c.if-ends_stmts.false) c.loop.invariant (stmt_view c.in_ok-stmt.stmt.value) (lexemes_of c.in_ok-stmt.next.now) c.in_ok-stmt.ensures)

pub held-returns : goal.held-returns
held-returns t c =
    sym c.loop.invariant ∙ stmts_spent (one_of c.args.holder c.args.depth (parsers c.args.depth)) (length c.args.tokens.now - c.loop.counter) (stmts_view c.loop.stmts.items) (lexemes_of c.loop.rest.now) (omega arith)

pub segments-loop-init : goal.segments-loop-init
segments-loop-init t c = rw c.new-segments.ensures.items (starts_none (segment_of c.args.depth (parsers c.args.depth)) max_labels (lexemes_of c.args.tokens.now))

pub segments-returns-then-begins : goal.segments-returns-then-begins
segments-returns-then-begins t c =
    sym c.loop.invariant ∙ segments_done (segment_of c.args.depth (parsers c.args.depth)) (max_labels - c.loop.counter) (segments_view c.loop.segments.items) (lexemes_of c.loop.rest.now) (sym c.begins.ensures ∙ c.if-begins.true)

pub segments-returns-in_err-segment : goal.segments-returns-in_err-segment
segments-returns-in_err-segment t c =
    let p = err_from_is_err_and c.from_residual.result c.from_residual.ensures.1 in
    rw (p.1, p.2) (segments_fail (segment_of c.args.depth (parsers c.args.depth)) (max_labels - c.loop.counter) (max_labels - (c.loop.counter + 1)) (segments_view c.loop.segments.items) (lexemes_of c.loop.rest.now) _ (omega arith) (sym c.begins.ensures ∙ c.if-begins.false) c.loop.invariant c.in_err-segment.field-0.0 c.in_err-segment.ensures)

pub segments-loop-preserved : goal.segments-loop-preserved
segments-loop-preserved t c =
    let e : segments_view c.push.new.self.items ≡ append_segments (segments_view c.loop.segments.items) (before (segment_view c.in_ok-segment.segment) ParsedNoMore) = rw c.in_ok-push.ensures.items (segments_view-push c.loop.segments.items c.in_ok-segment.segment) in
    rw e (segments_go_on (segment_of c.args.depth (parsers c.args.depth)) (max_labels - c.loop.counter) (max_labels - (c.loop.counter + 1)) (segments_view c.loop.segments.items) (lexemes_of c.loop.rest.now) _ (omega arith) (sym c.begins.ensures ∙ c.if-begins.false) c.loop.invariant (segment_view c.in_ok-segment.segment) (lexemes_of c.in_ok-segment.next.now) c.in_ok-segment.ensures)

pub segments-returns : goal.segments-returns
segments-returns t c =
    sym c.loop.invariant ∙ segments_spent (segment_of c.args.depth (parsers c.args.depth)) (max_labels - c.loop.counter) (segments_view c.loop.segments.items) (lexemes_of c.loop.rest.now) (omega arith)
