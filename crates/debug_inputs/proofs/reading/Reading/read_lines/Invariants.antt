-- the rows so far, from which the reading of the lines that are left goes on; each line is numbered
use Rattle.std.proofs.Common.{◌≡◌, ◌+◌, ◌≤◌, List, length}
use Rattle.gang_model.specs.Debugger.Events.{Row}
use Rattle.gang_model.specs.Texts.InputText as text
use Rattle.gang_model.specs.Texts.Transcript.{lines_of}
use Rattle.debug_inputs.specs.Lines.{Rest, Stands, left_len, lines_left, lines_then}
use Rattle.debug_inputs.proofs.reading.Reading.read_lines.Given as goal

abbrev pub invariant-loop-rest : goal.invariant-loop-rest
invariant-loop-rest l =
    ((receivers : List text.Receiver) → (rows : List Row) → Stands receivers rows l.initial.self → (now : List Row)
    × ((next : Rest) → lines_then receivers 1 rows (lines_of l.bytes) next ≡ lines_then receivers l.number now (lines_left l.rest) next)
    × Stands receivers now l.self)
    × (l.number + left_len l.rest ≤ length l.bytes + 2)

abbrev pub decreases-loop-rest : goal.decreases-loop-rest
decreases-loop-rest l = left_len l.rest
