-- the digits of the lanes before this one were written
use Rattle.std.proofs.Common.{◌≡◌, false, take}
use Rattle.std.specs.Io.KnownBytes.{Appends}
use Rattle.gang_types.specs.Masks.{lanes_of}
use Rattle.gang_model.specs.Texts.Text.{bits}
use Rattle.debug_texts.proofs.place_texts.write_lanes.Given as goal

abbrev pub invariant-loop-lane : goal.invariant-loop-lane
invariant-loop-lane g l =
    Appends (g.O.AnswerWriter.written l.initial.writer) (g.O.AnswerWriter.written l.writer) (bits (take l.lane (lanes_of l.width l.lanes))) × (g.O.AnswerWriter.has_failed l.writer ≡ false)
