-- the line stands so many lines behind what is left
use Rattle.std.proofs.Common.{◌≡◌, ◌≤◌, ◌-◌}
use Rattle.std.specs.Prelude.{option_and_then}
use Rattle.prompt_texts.specs.SourceLines.{behind_lines, first_line, line_of}
use Rattle.prompt_texts.proofs.source.line_of.Given as goal

abbrev pub invariant-loop-skipped : goal.invariant-loop-skipped
invariant-loop-skipped l = (1 ≤ l._skipped) × (line_of l.text l.number ≡ option_and_then first_line (behind_lines (l.number - l._skipped) l.rest))
