use Rattle.std.proofs.Common.{◌≡◌, ◌+◌, ◌-◌, ◌*◌, length}
use Rattle.gang_model.specs.Source.SpellsStatements.{max_labels}
use Rattle.ispc_lexer.specs.Views.{lexemes_of}
use Rattle.source_tree.specs.Tree.{stmts_view, segments_view}
use Rattle.ispc_parser_statements.specs.Statements.{parsers, one_of, stmts_of, segment_of, segments_of}
use Rattle.ispc_parser_statements.proofs.Sequences.{after_front}
use Rattle.ispc_parser_statements.proofs.SegmentSequences.{after_front as after_segments}
use Rattle.ispc_parser_statements.proofs.statements.+statement.Given as goal

abbrev pub decreases-block : goal.decreases-block
decreases-block l = 16 * l.depth + 1

abbrev pub decreases-body : goal.decreases-body
decreases-body l = 16 * l.depth + 2

abbrev pub decreases-else_body : goal.decreases-else_body
decreases-else_body l = 16 * l.depth + 3

abbrev pub decreases-if_stmt : goal.decreases-if_stmt
decreases-if_stmt l = 16 * l.depth + 4

abbrev pub decreases-switch_stmt : goal.decreases-switch_stmt
decreases-switch_stmt l = 16 * l.depth + 1

abbrev pub decreases-do_stmt : goal.decreases-do_stmt
decreases-do_stmt l = 16 * l.depth + 3

abbrev pub decreases-loop_stmt : goal.decreases-loop_stmt
decreases-loop_stmt l = 16 * l.depth + 3

abbrev pub decreases-opened_stmt : goal.decreases-opened_stmt
decreases-opened_stmt l = 16 * l.depth + 5

abbrev pub decreases-stmt : goal.decreases-stmt
decreases-stmt l = 16 * l.depth + 6

abbrev pub decreases-one : goal.decreases-one
decreases-one l = 16 * l.depth + 7

abbrev pub decreases-held : goal.decreases-held
decreases-held l = 16 * l.depth + 8

abbrev pub decreases-segment : goal.decreases-segment
decreases-segment l = 16 * l.depth + 9

abbrev pub decreases-segments : goal.decreases-segments
decreases-segments l = 16 * l.depth + 10

abbrev pub invariant-held-loop : goal.invariant-held-loop
invariant-held-loop l = after_front (stmts_view l.stmts.items) (stmts_of (one_of l.holder l.depth (parsers l.depth)) (length l.tokens - l.counter) (lexemes_of l.rest))
    ≡ stmts_of (one_of l.holder l.depth (parsers l.depth)) (length (lexemes_of l.tokens)) (lexemes_of l.tokens)

abbrev pub invariant-segments-loop : goal.invariant-segments-loop
invariant-segments-loop l = after_segments (segments_view l.segments.items) (segments_of (segment_of l.depth (parsers l.depth)) (max_labels - l.counter) (lexemes_of l.rest))
    ≡ segments_of (segment_of l.depth (parsers l.depth)) max_labels (lexemes_of l.tokens)
