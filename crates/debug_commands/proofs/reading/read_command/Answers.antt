use Rattle.std.proofs.Common.{sym, ap, ◌∙◌, arith}
use Rattle.gang_model.specs.Texts.Spellings.{words_of_line}
use Rattle.gang_model.specs.Texts.CommandText.{is_mark}
use Rattle.debug_commands.specs.Views.{option_view}
use Rattle.debug_commands.proofs.LongLines.{no_command, of_words}
use Rattle.debug_commands.proofs.reading.read_command.Goals as goal

pub returns-in_err-words : goal.returns-in_err-words
returns-in_err-words c =
    ap option_view c.from_residual.ensures ∙ (sym (no_command (words_of_line is_mark c.args.line.now) c.in_err-words.ensures)
    ∙ of_words c.args.line.now (omega arith) (cc) (cc))
