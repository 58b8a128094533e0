use Rattle.std.proofs.Common.{length, arith, refl}
use Rattle.whole_runs.proofs.DoneAgain.{kept_on, kept_still}
use Rattle.whole_runs.proofs.WholeLaws.{none_kept, one_less}
use Rattle.whole_runs.proofs.redoing.take_all_back.Goals as goal

pub loop-taken-init : goal.loop-taken-init
loop-taken-init g c = record {
  left = omega arith;
  copies = kept_still g.M.BeginsAgain.can_have g.M.BeginsAgain.copies _;
}

pub loop-taken-preserved : goal.loop-taken-preserved
loop-taken-preserved g c = record {
  left = one_less _ c.undo.result _ c.loop-taken._taken _ (omega (arith, c.loop-taken-test.true, c.kept-taken-end.ensures.all)) c.loop-taken.invariant.left c.undo.ensures.words;
  copies = kept_on g.M.BeginsAgain.can_have g.M.BeginsAgain.copies _ _ _ c.loop-taken.invariant.copies (
    λ words h. g.met.M.BeginsAgain.can_have_so _ _ words c.undo.ensures.run h,
    λ words s d h. g.met.M.BeginsAgain.copies_so _ _ words s d c.undo.ensures.run h,
  );
}

pub returns-clause-none_kept : goal.returns-clause-none_kept
returns-clause-none_kept g c =
    let past = (g.M.RecordedMachine.history c.loop-taken.machine).past in
    let left = c.loop-taken.invariant.left in
    none_kept (length past) past refl (omega (arith, left, c.loop-taken-test.false, c.kept-taken-end.ensures.all))
