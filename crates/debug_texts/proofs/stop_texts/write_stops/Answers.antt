use Rattle.std.proofs.Common.{rules, ◌<◌, length, sym, subst}
use Rattle.debug_traits.specs.Devices.{Writes}
use Rattle.debug_texts.proofs.Stops.{some_stops}
use Rattle.debug_texts.proofs.stop_texts.write_stops.Goals as goal

pub returns-clause-said : goal.returns-clause-said
returns-clause-said g c s d meant st are =
    let some : 0 < length c.args.stops.now = search rules in
    subst (λ t. Writes t (g.O.AnswerWriter.written c.args.writer.now) (g.O.AnswerWriter.written c.write_stop_lines.new.writer) (g.O.AnswerWriter.has_failed c.write_stop_lines.new.writer) c.write_stop_lines.result)
    (sym (some_stops s c.args.stops.now meant are some)) (c.write_stop_lines.ensures.said s d meant st are)
