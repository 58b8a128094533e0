use Rattle.std.proofs.Common.{◌≡◌, ◌+◌, ◌≤◌, length}
use Rattle.gang_model.specs.Source.Lexes.{first_place}
use Rattle.ispc_lexer.specs.Views.{lexemes_of}
use Rattle.ispc_lexer.specs.Source.{lexed}
use Rattle.ispc_lexer.proofs.ReadLoop.{with_front}
use Rattle.ispc_lexer.proofs.source.read.Given as goal

abbrev pub invariant-loop-rest : goal.invariant-loop-rest
invariant-loop-rest l = (with_front (lexemes_of l.tokens.items) (lexed (length l.rest) l.start l.place l.rest) ≡ lexed (length l.source) 0 first_place l.source)
    × (l.start + length l.rest ≡ length l.source) × (l.place.line ≤ l.start + 1) × (l.place.col ≤ l.start + 1)

abbrev pub decreases-loop-rest : goal.decreases-loop-rest
decreases-loop-rest l = length l.rest
