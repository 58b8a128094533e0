-- the rows that are left decide
use Rattle.std.proofs.Common.{◌≡◌, drop, map}
use Rattle.adapter_replies.specs.Hints.{hint_of, row_view}
use Rattle.adapter_replies.proofs.hints.hint_of.Given as goal

abbrev pub invariant-loop-words : goal.invariant-loop-words
invariant-loop-words l = hint_of (map row_view (drop l.words-index l.rows)) l.word ≡ hint_of (map row_view l.rows) l.word
