-- the pieces before this one were written
use Rattle.std.proofs.Common.{◌≡◌, false, map, take}
use Rattle.std.specs.List.{concat}
use Rattle.std.specs.Io.KnownBytes.{Appends}
use Rattle.debug_texts.proofs.texts.write_pieces.Given as goal

abbrev pub invariant-loop-piece : goal.invariant-loop-piece
invariant-loop-piece g l =
    Appends (g.O.AnswerWriter.written l.initial.writer) (g.O.AnswerWriter.written l.writer) (concat (map (λ p. p.now) (take l.piece-index l.pieces))) × (g.O.AnswerWriter.has_failed l.writer ≡ false)
