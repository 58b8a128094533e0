use Rattle.std.proofs.Common.{◌-◌, arith, drop, length, take}
use Rattle.std.proofs.lemmas.Grind.{common_steps}
use Rattle.debug_inputs.proofs.LineTexts.{last_line, more_lines}
use Rattle.debug_inputs.proofs.lines.next_line.Goals as goal

pub returns-in-empty-clause-lines : goal.returns-in-empty-clause-lines
returns-in-empty-clause-lines c = last_line c.args.text.now _ _ c.line_len.result c.line_len.ensures.run c.split_at.ensures.front c.split_at.ensures.back (omega (arith, c.in-empty.len_below))

pub returns-in-len1-up-clause-lines : goal.returns-in-len1-up-clause-lines
returns-in-len1-up-clause-lines c = more_lines c.args.text.now _ c.split_at.result.1.now (take (length c.split_at.result.1.now - 1) (drop 1 c.split_at.result.1.now)) c.line_len.result c.line_len.ensures.run c.split_at.ensures.front c.split_at.ensures.back (omega (arith, c.in-len1-up.len_at_least))
    (grind (arith, common_steps))
