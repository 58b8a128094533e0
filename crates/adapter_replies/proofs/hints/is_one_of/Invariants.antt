-- the words that are left decide
use Rattle.std.proofs.Common.{◌≡◌, drop}
use Rattle.debug_commands.specs.LineWords.{texts}
use Rattle.adapter_replies.specs.Hints.{is_one_of}
use Rattle.adapter_replies.proofs.hints.is_one_of.Given as goal

abbrev pub invariant-loop-other : goal.invariant-loop-other
invariant-loop-other l = is_one_of (texts (drop l.other-index l.words)) l.word ≡ is_one_of (texts l.words) l.word
