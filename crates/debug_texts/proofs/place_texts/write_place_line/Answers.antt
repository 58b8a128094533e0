use Rattle.std.proofs.Common.{sym, subst, map, codes}
use Rattle.std.proofs.lemmas.Result.{err_from_is_err_and}
use Rattle.std.specs.List.{concat}
use Rattle.debug_traits.specs.Devices.{Writes}
use Rattle.debug_traits.specs.Machines.{position_text}
use Rattle.debug_texts.proofs.Pieces.{line_parts}
use Rattle.debug_traits.proofs.Writing.{Broke, writes_err}
use Rattle.debug_texts.proofs.Writing.{broke_early, broke_late, writes_rest}
use Rattle.debug_texts.proofs.place_texts.write_place_line.Goals as goal

pub returns-in_err-write_position : goal.returns-in_err-write_position
returns-in_err-write_position g c =
    let (y, is, _) = err_from_is_err_and c.from_residual-in_err-write_position.result c.from_residual-in_err-write_position.ensures.1 in
    let written = g.O.AnswerWriter.written in
    let front = concat (map (λ p. p.now) c.args.why.now) in
    let place = position_text c.args.position in
    let broke = broke_late front _ _ _ _ _ c.in_ok-write_pieces.ensures.0 (broke_early place (codes "\n") _ _ _ c.in_err-write_position.ensures) in
    writes_err _ _ _ _ c.from_residual-in_err-write_position.result y is
    (subst (λ t. Broke t (written c.args.writer.now) (written c.write_position.new.writer) (g.O.AnswerWriter.has_failed c.write_position.new.writer)) (sym (line_parts front place)) broke)

pub returns : goal.returns
returns g c =
    let written = g.O.AnswerWriter.written in
    let front = concat (map (λ p. p.now) c.args.why.now) in
    let place = position_text c.args.position in
    let whole = writes_rest front _ _ _ _ _ c.write_all.result c.in_ok-write_pieces.ensures.0 (writes_rest place _ _ _ _ _ c.write_all.result c.in_ok-write_position.ensures.0 c.write_all.ensures) in
    subst (λ t. Writes t (written c.args.writer.now) (written c.write_all.new.self) (g.O.AnswerWriter.has_failed c.write_all.new.self) c.write_all.result) (sym (line_parts front place)) whole
