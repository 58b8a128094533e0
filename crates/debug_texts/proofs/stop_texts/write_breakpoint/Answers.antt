use Rattle.std.proofs.Common.{◌∙◌, ◌∷◌, [], ap, codes, decimal, subst}
use Rattle.std.specs.List.{concat}
use Rattle.debug_traits.specs.Devices.{Writes}
use Rattle.debug_texts.proofs.Pieces.{line_pieces}
use Rattle.debug_texts.proofs.stop_texts.write_breakpoint.Goals as goal

pub returns : goal.returns
returns g c =
    let number = c.args.number.now in
    let middle = codes " breakpoint line " in
    let digits = c.as_bytes-source_line.ensures.value ∙ c.format.ensures.text in
    let same = ap (λ t. concat (number ∷ middle ∷ t ∷ codes "\n" ∷ [])) digits ∙ line_pieces number middle (decimal c.args.source_line) in
    subst (λ t. Writes t (g.O.AnswerWriter.written c.args.writer.now) (g.O.AnswerWriter.written c.write_pieces.new.writer) (g.O.AnswerWriter.has_failed c.write_pieces.new.writer) c.write_pieces.result) same c.write_pieces.ensures
