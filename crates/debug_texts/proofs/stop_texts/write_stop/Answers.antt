use Rattle.std.proofs.Common.{◌∙◌, ap, subst, decimal}
use Rattle.debug_answers.specs.Meanings.{IsStop}
use Rattle.debug_traits.specs.Devices.{Writes}
use Rattle.debug_texts.proofs.Stops.{watch_line}
use Rattle.debug_texts.proofs.stop_texts.write_stop.Goals as goal

pub returns-in-Watch-clause-said : goal.returns-in-Watch-clause-said
returns-in-Watch-clause-said g c s d number meant st same is =
    let digits = c.as_bytes-number.ensures.value ∙ c.format.ensures.text ∙ ap decimal same in
    let watch = subst (λ stop. IsStop s stop meant) c.in-Watch.is is in
    let text = watch_line s c.in-Watch.variable c.in-Watch.at meant number c.as_bytes-number.result.now c.name_in_file-name.result.now digits (λ v at. c.name_in_file-name.ensures s d v st at) watch in
    subst (λ t. Writes t (g.O.AnswerWriter.written c.args.writer.now) (g.O.AnswerWriter.written c.write_target_line.new.writer) (g.O.AnswerWriter.has_failed c.write_target_line.new.writer) c.write_target_line.result) text c.write_target_line.ensures
