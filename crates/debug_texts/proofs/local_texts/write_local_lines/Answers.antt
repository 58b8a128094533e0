use Rattle.std.proofs.Common.{◌++◌, ap, sym, ◌∙◌, append_assoc, arith}
use Rattle.std.proofs.KnownBytes.{Appends-trans}
use Rattle.std.proofs.lemmas.Result.{err_from_is_err_and}
use Rattle.gang_model.specs.Debugger.Debugger.{now}
use Rattle.gang_model.specs.Texts.Text.{shown_line, whole}
use Rattle.debug_texts.proofs.Locals.{lines_at, lines_of_all}
use Rattle.debug_texts.proofs.Writing.{breaks_second, broke_early}
use Rattle.debug_texts.proofs.local_texts.write_local_lines.Goals as goal

pub returns-in_err-write_whole-clause-said : goal.returns-in_err-write_whole-clause-said
returns-in_err-write_whole-clause-said g c s d st =
    let (y, err, _) = err_from_is_err_and c.from_residual.result c.from_residual.ensures.1 in
    let (front, wrote, same) = c.loop-local.invariant.0 s d st in
    let (v, is, named) = c.in-Some.ensures.next s d st in
    let broke = c.in_err-write_whole.ensures.said s d v st named.0 named.1 in
    breaks_second _ _ _ _ _ _ _ c.from_residual.result y err (same ∙ ap (λ t. front ++ t) (lines_at s d _ v _ is)) wrote
    (broke_early _ (lines_of_all s d (g.M.RecordedMachine.locals_from c.args.machine.now s d c.in-Some.local.next)) _ _ _ broke)

pub loop-local-preserved : goal.loop-local-preserved
loop-local-preserved g c = (
  λ s d st.
      let (front, wrote, same) = c.loop-local.invariant.0 s d st in
      let (v, is, named) = c.in-Some.ensures.next s d st in
      let one = c.in_ok-write_whole.ensures.said s d v st named.0 named.1 in
      let text = shown_line (now s d) (whole v) v in
      let others = lines_of_all s d (g.M.RecordedMachine.locals_from c.args.machine.now s d c.in-Some.local.next) in
      let next = sym c.place_after-place.ensures in (
        front ++ text,
        Appends-trans _ _ _ _ _ wrote one.0,
        same ∙ ap (λ t. front ++ t) (lines_at s d _ v _ is) ∙ sym (append_assoc front text others)
            ∙ ap (λ k. (front ++ text) ++ lines_of_all s d (g.M.RecordedMachine.locals_from c.args.machine.now s d k)) next,
      ),
  c.in_ok-write_whole.ensures.failed,
)

pub loop-local-smaller : goal.loop-local-smaller
loop-local-smaller g c = omega (arith, c.in-Some.ensures.further, c.place_after-place.ensures, c.place_after-place.type_inv)
