use Rattle.std.proofs.Common.{◌≡◌, drop, map}
use Rattle.prompt_lines.specs.Readings.{row_view}
use Rattle.prompt_lines.specs.Words.{found_by}
use Rattle.prompt_lines.proofs.reading.found_by.Given as goal

abbrev pub invariant-loop-words : goal.invariant-loop-words
invariant-loop-words l = found_by (map row_view (drop l.words-index l.rows)) l.text ≡ found_by (map row_view l.rows) l.text
