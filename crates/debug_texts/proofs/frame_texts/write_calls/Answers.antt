use Rattle.std.proofs.Common.{◌∙◌, ◌++◌, ◌-◌, sym, ap, append_assoc, arith}
use Rattle.std.proofs.lemmas.Result.{err_from_is_err_and}
use Rattle.std.proofs.KnownBytes.{Appends-trans}
use Rattle.gang_model.specs.Debugger.Debugger.{now}
use Rattle.debug_traits.specs.Machines.{call_text}
use Rattle.debug_texts.specs.Wording.{calls_text}
use Rattle.debug_texts.proofs.Frames.{calls_at}
use Rattle.debug_texts.proofs.Writing.{breaks_second, broke_early}
use Rattle.debug_texts.proofs.frame_texts.write_calls.Goals as goal

pub loop-last-preserved : goal.loop-last-preserved
loop-last-preserved g c = (
  λ s d st.
      let (done, wrote, split) = c.loop-last.invariant.0 s d st in
      let frames = (now s d).frames in
      let n = c.loop-last.last - 1 in
      let one = call_text s.program n frames in (
        done ++ one,
        Appends-trans _ _ _ done one wrote (c.in_ok-write_call.ensures.said s d st).0,
        split ∙ ap (λ t. done ++ t) (calls_at s.program frames n (omega (arith, c.loop-last-test.true))) ∙ sym (append_assoc done one (calls_text s.program frames (n - 1))),
      ),
  c.in_ok-write_call.ensures.failed,
)

pub returns-in_err-write_call-clause-said : goal.returns-in_err-write_call-clause-said
returns-in_err-write_call-clause-said g c s d st =
    let (y, err, _) = err_from_is_err_and c.from_residual.result c.from_residual.ensures.1 in
    let (done, wrote, split) = c.loop-last.invariant.0 s d st in
    let frames = (now s d).frames in
    let n = c.loop-last.last - 1 in
    let broke = broke_early (call_text s.program n frames) (calls_text s.program frames (n - 1)) _ _ _ (c.in_err-write_call.ensures.said s d st) in
    breaks_second _ done _ _ _ _ _ c.from_residual.result y err (split ∙ ap (λ t. done ++ t) (calls_at s.program frames n (omega (arith, c.loop-last-test.true)))) wrote broke
