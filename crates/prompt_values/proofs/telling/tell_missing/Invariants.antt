-- the words that are left become fewer
use Rattle.std.proofs.Common.{length}
use Rattle.gang_model.specs.Texts.CommandText.{is_mark}
use Rattle.gang_model.specs.Texts.Spellings.{words_of_line}
use Rattle.prompt_values.proofs.telling.tell_missing.Given as goal

abbrev pub decreases-loop-word : goal.decreases-loop-word
decreases-loop-word g l = length (words_of_line is_mark l.rest)
