-- the lines of the functions before this were written
use Rattle.std.proofs.Common.{take}
use Rattle.std.specs.Prelude.{flat_map}
use Rattle.prompt_texts.specs.Shown.{Puts}
use Rattle.prompt_values.specs.Functions.{function_line}
use Rattle.prompt_values.proofs.functions.put_functions.Given as goal

abbrev pub invariant-loop-place : goal.invariant-loop-place
invariant-loop-place g l = Puts (flat_map (λ f. function_line l.part l.source f.name.items) (take l.place l.functions))
    l.initial.page.has_failed l.page.has_failed (g.O.AnswerWriter.written l.initial.page.writer) (g.O.AnswerWriter.written l.page.writer)
