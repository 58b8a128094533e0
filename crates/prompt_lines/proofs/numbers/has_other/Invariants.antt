-- the words that were read stand for numbers
use Rattle.std.proofs.Common.{◌≡◌, length}
use Rattle.gang_model.specs.Texts.CommandText.{is_mark}
use Rattle.gang_model.specs.Texts.Spellings.{words_of_line}
use Rattle.prompt_lines.specs.Numbers as spec
use Rattle.prompt_lines.proofs.numbers.has_other.Given as goal

abbrev pub invariant-loop-word : goal.invariant-loop-word
invariant-loop-word l = spec.has_other (words_of_line is_mark l.rest) ≡ spec.has_other (words_of_line is_mark l.text)

abbrev pub decreases-loop-word : goal.decreases-loop-word
decreases-loop-word l = length (words_of_line is_mark l.rest)
