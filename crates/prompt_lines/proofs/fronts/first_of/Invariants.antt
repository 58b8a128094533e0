use Rattle.std.proofs.Common.{◌≡◌, drop, map}
use Rattle.prompt_lines.specs.Readings.{full_view}
use Rattle.prompt_lines.specs.Fronts.{first_of}
use Rattle.prompt_lines.proofs.fronts.first_of.Given as goal

abbrev pub invariant-loop-word : goal.invariant-loop-word
invariant-loop-word l = first_of (map full_view (drop l.word-index l.words)) l.front l.rest ≡ first_of (map full_view l.words) l.front l.rest
