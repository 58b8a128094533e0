-- the moments before this one were written
use Rattle.std.proofs.Common.{map, take}
use Rattle.std.specs.Prelude.{flat_map}
use Rattle.prompt_texts.specs.Shown.{Puts}
use Rattle.prompt_scenes.specs.Holding.{noted_of}
use Rattle.prompt_moves.specs.Noted.{line_text}
use Rattle.prompt_moves.proofs.moments.list_checkpoints.Given as goal

abbrev pub invariant-loop-checkpoint : goal.invariant-loop-checkpoint
invariant-loop-checkpoint g l = Puts (flat_map line_text (map noted_of (take l.checkpoint-index l.checkpoints)))
    l.initial.page.has_failed l.page.has_failed (g.O.AnswerWriter.written l.initial.page.writer) (g.O.AnswerWriter.written l.page.writer)
