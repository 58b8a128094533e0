use Rattle.std.proofs.Common.{◌≡◌, ◌∙◌, ◌+◌, ◌-◌, length, refl, sym, subst, arith}
use Rattle.gang_model.specs.Debugger.Debugger.{now}
use Rattle.debug_traits.specs.Frames.{frames_at}
use Rattle.lane_counts.specs.Tallies.{HasFrames}
use Rattle.lane_profile.specs.Stands.{functions_of}
use Rattle.lane_profile.proofs.Frames.{all_but_top, no_frame}
use Rattle.lane_profile.proofs.run.begun_at.Goals as goal

pub loop-depth-init : goal.loop-depth-init
loop-depth-init g c = record {
  begun = c.new-tally.ensures.begun;
  forms = refl;
  from = omega arith;
  to = λ s d there some. some;
  frames = λ s d there few. subst (λ frames. HasFrames c.new-tally.result (functions_of s.program frames)) (sym (no_frame (now s d).frames)) c.new-tally.ensures.frames;
}

pub loop-depth-preserved : goal.loop-depth-preserved
loop-depth-preserved g c = record {
  begun = c.in_ok-enter_frame.ensures.begun;
  forms = c.in_ok-enter_frame.ensures.forms ∙ c.loop-depth.invariant.forms;
  from = omega (arith, c.loop-depth.invariant.from);
  to = λ s d there some. omega (arith, c.depth_of-depth-end.ensures s d there, c.loop-depth-test.true);
  frames = λ s d there few.
      let all : c.depth_of-depth-end.result ≡ length (now s d).frames = c.depth_of-depth-end.ensures s d there in
      let same : c.loop-depth.depth + 1 - 1 ≡ c.loop-depth.depth = omega arith in
      subst (λ n. HasFrames c.enter_frame.new.tally (functions_of s.program (frames_at n (now s d).frames))) (sym same)
      (c.in_ok-enter_frame.ensures.frames s d there few c.loop-depth.invariant.from (omega (arith, all, c.loop-depth-test.true)) (c.loop-depth.invariant.frames s d there few));
}

pub returns-clause-frames : goal.returns-clause-frames
returns-clause-frames g c s d there few =
    let all : c.depth_of-depth-end.result ≡ length (now s d).frames = c.depth_of-depth-end.ensures s d there in
    subst (λ frames. HasFrames c.loop-depth.tally (functions_of s.program frames))
    (all_but_top c.loop-depth.depth (now s d).frames (omega (arith, all, c.loop-depth-test.false)) (c.loop-depth.invariant.to s d there)) (c.loop-depth.invariant.frames s d there few)
