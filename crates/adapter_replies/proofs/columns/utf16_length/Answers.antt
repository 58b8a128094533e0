use Rattle.std.proofs.Common.{◌∙◌, ◌+◌, ap, get_or, sym, arith}
use Rattle.std.specs.List.{sum_by}
use Rattle.std.proofs.lemmas.List.{take_all}
use Rattle.std.proofs.lemmas.List.Sums.{sum_by_more}
use Rattle.adapter_replies.specs.Columns.{units_of}
use Rattle.adapter_replies.proofs.columns.utf16_length.Goals as goal

pub loop-byte-preserved : goal.loop-byte-preserved
loop-byte-preserved c =
    let text = c.args.text.now in
    let i = c.loop-byte.byte-index in
    record {
      counted = ap (λ n. c.loop-byte.units + n) c.units_of-units.ensures.units ∙ ap (λ n. n + units_of (get_or text i 0)) c.loop-byte.invariant.counted ∙ sym (sum_by_more units_of text i 0 c.loop-byte-test.true);
      few = omega (arith, c.loop-byte.invariant.few, c.units_of-units.ensures.bound);
      within = omega (arith, c.loop-byte-test.true);
    }

pub returns-clause-units : goal.returns-clause-units
returns-clause-units c = c.loop-byte.invariant.counted ∙ ap (sum_by units_of) (take_all c.loop-byte.byte-index c.args.text.now c.loop-byte-test.false)

pub returns-clause-bound : goal.returns-clause-bound
returns-clause-bound c = omega (arith, c.loop-byte.invariant.few, c.loop-byte.invariant.within)
