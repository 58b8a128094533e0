use Rattle.std.proofs.Common.{sym, subst, ◌∙◌}
use Rattle.std.proofs.lemmas.Result.{err_from_is_err_and}
use Rattle.debug_traits.specs.Machines.{listed}
use Rattle.debug_traits.specs.Devices.{Writes}
use Rattle.debug_texts.proofs.Locals.{no_locals, some_locals}
use Rattle.debug_texts.proofs.Writing.{breaks_first, writes_parts}
use Rattle.debug_texts.proofs.local_texts.write_locals.Goals as goal

pub returns-in-None-clause-said : goal.returns-in-None-clause-said
returns-in-None-clause-said g c s d st =
    let none = sym (c.in-None.ensures.all s d st) ∙ c.in-None.ensures.next s d st in
    subst (λ t. Writes t (g.O.AnswerWriter.written c.args.writer.now) (g.O.AnswerWriter.written c.write_all.new.self) (g.O.AnswerWriter.has_failed c.write_all.new.self) c.write_all.result)
    (sym (no_locals s d (listed s d) none)) c.write_all.ensures

pub returns-in_err-write_whole-in-Some-clause-said : goal.returns-in_err-write_whole-in-Some-clause-said
returns-in_err-write_whole-in-Some-clause-said g c s d st =
    let (y, err, _) = err_from_is_err_and c.from_residual.result c.from_residual.ensures.1 in
    let (v, is, named) = c.in-Some.ensures.next s d st in
    breaks_first _ _ _ _ _ _ c.from_residual.result y err (some_locals s d (listed s d) v _ (sym (c.in-Some.ensures.all s d st) ∙ is))
    (c.in_err-write_whole-in-Some.ensures.said s d v st named.0 named.1)

pub returns-in_ok-write_whole-in-Some-clause-said : goal.returns-in_ok-write_whole-in-Some-clause-said
returns-in_ok-write_whole-in-Some-clause-said g c s d st =
    let (v, is, named) = c.in-Some.ensures.next s d st in
    writes_parts _ _ _ _ _ _ _ c.write_local_lines.result (some_locals s d (listed s d) v _ (sym (c.in-Some.ensures.all s d st) ∙ is))
    (c.in_ok-write_whole-in-Some.ensures.said s d v st named.0 named.1).0 (c.write_local_lines.ensures.said s d st)
