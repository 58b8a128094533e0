use Rattle.std.proofs.Common.{◌≡◌, drop}
use Rattle.debug_commands.specs.LineWords.{texts}
use Rattle.prompt_lines.specs.Words.{behind_words}
use Rattle.prompt_lines.proofs.reading.behind_words.Given as goal

abbrev pub invariant-loop-word : goal.invariant-loop-word
invariant-loop-word l = behind_words (texts (drop l.word-index l.words)) l.rest ≡ behind_words (texts l.words) l.text
