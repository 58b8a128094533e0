use Rattle.std.proofs.Common.{◌++◌, ◌∷◌, [], ◌∙◌, ap, sym, arith, get_or, take}
use Rattle.std.proofs.lemmas.List.Sums.{sum_by_more}
use Rattle.gang_memory.specs.Ranges.{range, ranges_from}
use Rattle.gang_memory.proofs.Orders.{ranges_more}
use Rattle.gang_memory.proofs.layout.lay_out.Goals as goal

pub loop-len-preserved : goal.loop-len-preserved
loop-len-preserved c =
    let sizes = c.args.sizes.now in
    let i = c.loop-len.len-index in
    let len = get_or sizes i 0 in
    let within = c.loop-len-test.true in
    let more = sum_by_more (λ n. n) sizes i 0 within in
    record {
      ranges =
          c.in_ok-push.ensures.items
          ∙ ap (λ parts. parts ++ (range c.loop-len.next len ∷ [])) c.loop-len.invariant.ranges
          ∙ ap (λ n. ranges_from c.args.first (take i sizes) ++ (range n len ∷ [])) c.loop-len.invariant.end
          ∙ sym (ranges_more c.args.first sizes i within);
      end = omega (arith, c.in-Some.ensures, c.loop-len.invariant.end, more);
    }
