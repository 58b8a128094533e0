use Rattle.std.proofs.Common.{◌≡◌, ◌+◌, ◌≤◌, drop}
use Rattle.gang_model.specs.Source.Lexes.{place_after}
use Rattle.ispc_lexer.proofs.places.place_after.Given as goal

abbrev pub invariant-loop-byte : goal.invariant-loop-byte
invariant-loop-byte l = (place_after l.next (drop l.byte-index l.bytes) ≡ place_after l.fn.place l.bytes)
    × (l.next.line ≤ l.fn.place.line + l.byte-index) × (l.next.col ≤ l.fn.place.col + l.byte-index)
