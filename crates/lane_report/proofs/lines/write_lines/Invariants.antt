use Rattle.std.proofs.Common.{◌≡◌, ◌+◌, ◌++◌, false, drop, length, map}
use Rattle.std.specs.Io.KnownBytes.{Appends}
use Rattle.gang_model.specs.Source.Parsed.{functions_in}
use Rattle.gang_model.specs.Texts.Text.{Bytes}
use Rattle.source_tree.specs.Tree.{item_view, tree_view}
use Rattle.lane_report.specs.Reports.{function_lines}
use Rattle.lane_report.proofs.lines.write_lines.Given as goal

-- the lines of the functions before this item were written, and there is an answer for each function that is left
abbrev pub invariant-loop-item : goal.invariant-loop-item
invariant-loop-item g l =
    ((front : Bytes) × Appends (g.O.AnswerWriter.written l.initial.writer) (g.O.AnswerWriter.written l.writer) front
    × (function_lines (functions_in (tree_view l.tree)) l.answers ≡ front ++ function_lines (functions_in (map item_view (drop l.item-index l.item-items))) (drop l.number l.answers)))
    × (l.number + length (functions_in (map item_view (drop l.item-index l.item-items))) ≡ length l.answers)
    × (g.O.AnswerWriter.has_failed l.writer ≡ false)
