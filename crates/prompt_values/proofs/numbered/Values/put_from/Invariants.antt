-- the lines of the numbers before this were written
use Rattle.std.specs.Prelude.{◌+◌, flat_map}
use Rattle.std.specs.List.{range_with_len}
use Rattle.prompt_texts.specs.Shown.{Puts}
use Rattle.prompt_values.specs.Numbered.{kept, listed_line}
use Rattle.prompt_values.proofs.numbered.Values.put_from.Given as goal

abbrev pub invariant-loop-place : goal.invariant-loop-place
invariant-loop-place g l = Puts (flat_map (λ place. listed_line (kept l.self) (l.first + place)) (range_with_len 0 l.place))
    l.initial.page.has_failed l.page.has_failed (g.O.AnswerWriter.written l.initial.page.writer) (g.O.AnswerWriter.written l.page.writer)
