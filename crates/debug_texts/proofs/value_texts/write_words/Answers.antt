use Rattle.std.proofs.Common.{◌<◌, ◌+◌, sym, subst, length, drop, arith}
use Rattle.std.proofs.lemmas.List.{take_all}
use Rattle.std.proofs.lemmas.Result.{err_from_is_err_and}
use Rattle.std.proofs.KnownBytes.{Appends-trans}
use Rattle.std.specs.Io.KnownBytes.{Appends}
use Rattle.gang_model.specs.Debugger.Debugger.{now, shown_words}
use Rattle.debug_texts.specs.Wording.{value_text, values_text}
use Rattle.debug_texts.proofs.Pieces.{flat_at, flat_more}
use Rattle.debug_traits.proofs.Writing.{Broke}
use Rattle.debug_texts.proofs.Writing.{breaks_second, broke_early}
use Rattle.debug_texts.proofs.value_texts.write_words.Goals as goal

pub returns-in_err-write_blank_and_value-clause-said : goal.returns-in_err-write_blank_and_value-clause-said
returns-in_err-write_blank_and_value-clause-said g c s d v st is =
    let (y, err, _) = err_from_is_err_and c.from_residual.result c.from_residual.ensures.1 in
    let type = c.args.shown.value_type in
    let words = shown_words (now s d) v in
    let index = c.loop-index.index in
    let inside : index < length words = omega (arith, is.count, c.loop-index-test.true) in
    let word = c.word.ensures s d v st is c.loop-index-test.true in
    let broke = subst (λ w. Broke (value_text type w) (g.O.AnswerWriter.written c.loop-index.writer) (g.O.AnswerWriter.written c.write_blank_and_value.new.writer) (g.O.AnswerWriter.has_failed c.write_blank_and_value.new.writer)) word c.in_err-write_blank_and_value.ensures in
    breaks_second _ _ _ _ _ _ _ c.from_residual.result y err (flat_at (value_text type) words index 0 inside) (c.loop-index.invariant.0 s d v st is) (broke_early _ (values_text type (drop (index + 1) words)) _ _ _ broke)

pub loop-index-preserved : goal.loop-index-preserved
loop-index-preserved g c = (
  λ s d v st is.
      let type = c.args.shown.value_type in
      let words = shown_words (now s d) v in
      let index = c.loop-index.index in
      let inside : index < length words = omega (arith, is.count, c.loop-index-test.true) in
      let word = c.word.ensures s d v st is c.loop-index-test.true in
      let one = subst (λ w. Appends (g.O.AnswerWriter.written c.loop-index.writer) (g.O.AnswerWriter.written c.write_blank_and_value.new.writer) (value_text type w)) word c.in_ok-write_blank_and_value.ensures.0 in
      subst (Appends (g.O.AnswerWriter.written c.args.writer.now) (g.O.AnswerWriter.written c.write_blank_and_value.new.writer)) (sym (flat_more (value_text type) words index 0 inside))
      (Appends-trans _ _ _ _ _ (c.loop-index.invariant.0 s d v st is) one),
  c.in_ok-write_blank_and_value.ensures.1,
)

pub returns-clause-said : goal.returns-clause-said
returns-clause-said g c s d v st is =
    let type = c.args.shown.value_type in
    let words = shown_words (now s d) v in
    let all = take_all c.loop-index.index words (omega (arith, is.count, c.loop-index-test.false)) in
    (subst (λ l. Appends (g.O.AnswerWriter.written c.args.writer.now) (g.O.AnswerWriter.written c.loop-index.writer) (values_text type l)) all (c.loop-index.invariant.0 s d v st is), c.loop-index.invariant.1)
