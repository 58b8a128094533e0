use Rattle.std.proofs.Common.{◌<◌, ◌+◌, ℕ, sym, subst, length, drop, get_or, arith}
use Rattle.std.proofs.lemmas.List.{take_all}
use Rattle.std.proofs.lemmas.Result.{err_from_is_err_and}
use Rattle.std.proofs.KnownBytes.{Appends-trans}
use Rattle.std.specs.Io.KnownBytes.{Appends}
use Rattle.gang_model.specs.Debugger.Debugger as model
use Rattle.gang_model.specs.Texts.Text.{stop_lines}
use Rattle.debug_texts.proofs.Pieces.{flat_at, flat_more}
use Rattle.debug_texts.proofs.Stops.{as_many, entry_line, stop_at}
use Rattle.debug_texts.proofs.Writing.{breaks_second, broke_early}
use Rattle.debug_texts.proofs.stop_texts.write_stop_lines.Goals as goal

abbrev no_entry : ℕ × model.Stop
no_entry = (0, model.Line 0)

pub returns-in_err-write_stop-clause-said : goal.returns-in_err-write_stop-clause-said
returns-in_err-write_stop-clause-said g c s d meant st are =
    let (y, err, _) = err_from_is_err_and c.from_residual.result c.from_residual.ensures.1 in
    let i = c.loop-stop.stop-index in
    let inside : i < length meant = omega (arith, as_many s c.args.stops.now meant are, c.loop-stop-test.true) in
    let (number, is) = stop_at s c.args.stops.now meant i _ no_entry are c.loop-stop-test.true in
    let entry = get_or meant i no_entry in
    let broke = c.in_err-write_stop.ensures.said s d entry.0 entry.1 st number is in
    breaks_second _ _ _ _ _ _ _ c.from_residual.result y err (flat_at entry_line meant i no_entry inside) (c.loop-stop.invariant.0 s d meant st are) (broke_early _ (stop_lines (drop (i + 1) meant)) _ _ _ broke)

pub loop-stop-preserved : goal.loop-stop-preserved
loop-stop-preserved g c = (
  λ s d meant st are.
      let i = c.loop-stop.stop-index in
      let inside : i < length meant = omega (arith, as_many s c.args.stops.now meant are, c.loop-stop-test.true) in
      let (number, is) = stop_at s c.args.stops.now meant i _ no_entry are c.loop-stop-test.true in
      let entry = get_or meant i no_entry in
      let one = (c.in_ok-write_stop.ensures.said s d entry.0 entry.1 st number is).0 in
      subst (Appends (g.O.AnswerWriter.written c.args.writer.now) (g.O.AnswerWriter.written c.write_stop.new.writer)) (sym (flat_more entry_line meant i no_entry inside))
      (Appends-trans _ _ _ _ _ (c.loop-stop.invariant.0 s d meant st are) one),
  c.in_ok-write_stop.ensures.failed,
)

pub returns-clause-said : goal.returns-clause-said
returns-clause-said g c s d meant st are =
    let all = take_all c.loop-stop.stop-index meant (omega (arith, as_many s c.args.stops.now meant are, c.loop-stop-test.false)) in
    (subst (λ l. Appends (g.O.AnswerWriter.written c.args.writer.now) (g.O.AnswerWriter.written c.loop-stop.writer) (stop_lines l)) all (c.loop-stop.invariant.0 s d meant st are), c.loop-stop.invariant.1)
