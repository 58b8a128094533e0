use Rattle.std.proofs.Common.{◌≡◌, drop}
use Rattle.ispc_lexer.specs.Pieces.{closed_at}
use Rattle.ispc_lexer.proofs.Comments.{more_by}
use Rattle.ispc_lexer.proofs.pieces.comment_len.Given as goal

abbrev pub invariant-loop-i : goal.invariant-loop-i
invariant-loop-i l = more_by l.i (closed_at (drop l.i l.bytes)) ≡ closed_at l.bytes
