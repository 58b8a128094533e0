use Rattle.std.proofs.Common.{◌≡◌, ◌∙◌, ◌+◌, suc, ap, sym, arith, ◌∷◌, [], ◌++◌, None, Some, length, take}
use Rattle.std.proofs.lemmas.List.{length-take-le}
use Rattle.lane_counts.specs.Pending.{last_at, parting_of, pending}
use Rattle.lane_counts.proofs.Parting.{behind, split}
use Rattle.lane_counts.proofs.frames.Frames.put.Goals as goal

pub loop-self-preserved : goal.loop-self-preserved
loop-self-preserved c = record {
  few = omega (arith, c.in_ok-push.ensures.len, c.loop-self-test.true);
  same = λ mine later.
      let more : pending mine 1 c.push.new.self.items later ≡ pending mine 1 (c.loop-self.self.lasts.items ++ None ∷ []) later = ap (λ lasts. pending mine 1 lasts later) c.in_ok-push.ensures.items in
      omega (arith, more, behind mine 1 c.loop-self.self.lasts.items None later, c.loop-self.invariant.same mine later);
  frames = λ enough.
      let short : length c.loop-self.self.lasts.items ≡ length (take c.args.below c.args.self.now.lasts.items) = ap length (c.loop-self.invariant.frames enough) in
      absurd (omega (arith, short, length-take-le c.args.below c.args.self.now.lasts.items enough, enough, c.loop-self-test.true));
}

pub returns-clause-parting : goal.returns-clause-parting
returns-clause-parting c mine stand later deep =
    let before = c.loop-self.self.lasts.items in
    let old = c.args.self.now.lasts.items in
    let more : pending mine 1 c.push-2.new.self.items later ≡ pending mine 1 (before ++ Some c.args.step ∷ []) later = ap (λ lasts. pending mine 1 lasts later) c.in_ok-push-2.ensures.items in
    let full : 1 + length before ≡ suc c.args.below = omega (arith, c.loop-self.invariant.few, c.loop-self-test.false) in
    let here : 1 + c.args.below ≡ suc c.args.below = omega arith in
    let last : parting_of mine (1 + c.args.below) (last_at old c.args.below) (stand ∷ later) ≡ parting_of mine (suc c.args.below) c.last-before.result (stand ∷ later) =
    ap (λ n. parting_of mine n (last_at old c.args.below) (stand ∷ later)) here ∙ ap (λ l. parting_of mine (suc c.args.below) l (stand ∷ later)) (sym c.last-before.ensures) in
    omega (
      arith,
      more,
      behind mine 1 before (Some c.args.step) later,
      ap (λ n. parting_of mine n (Some c.args.step) later) full,
      c.loop-self.invariant.same mine later,
      split mine 1 c.args.below old stand later (deep ∙ sym here),
      last,
    )

pub returns-clause-frames : goal.returns-clause-frames
returns-clause-frames c enough = c.in_ok-push-2.ensures.items ∙ ap (λ lasts. lasts ++ Some c.args.step ∷ []) (c.loop-self.invariant.frames enough)
