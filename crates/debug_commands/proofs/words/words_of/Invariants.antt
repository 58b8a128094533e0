-- the words read so far, and those that are left
use Rattle.std.proofs.Common.{◌≡◌, ◌++◌, length}
use Rattle.gang_model.specs.Texts.Spellings.{words_of_line}
use Rattle.gang_model.specs.Texts.CommandText.{is_mark}
use Rattle.debug_commands.specs.LineWords.{texts}
use Rattle.debug_commands.proofs.words.words_of.Given as goal

abbrev pub invariant-loop-word : goal.invariant-loop-word
invariant-loop-word l = texts l.words.items ++ words_of_line is_mark l.rest ≡ words_of_line is_mark l.line

abbrev pub decreases-loop-word : goal.decreases-loop-word
decreases-loop-word l = length (words_of_line is_mark l.rest)
