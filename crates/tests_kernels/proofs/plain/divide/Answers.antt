use Rattle.std.proofs.Common.{◌∙◌, sym, arith, slice_index}
use Rattle.gang_types.specs.Masks.{lanes_of}
use Rattle.gang_types.specs.MaskLaws.{length-lanes_of_word}
use Rattle.tests_kernels.proofs.Divisors.{none_zero, faulted, only_divisions_fault}
use Rattle.tests_kernels.proofs.plain.divide.Goals as goal

pub returns-in-Err : goal.returns-in-Err
returns-in-Err g c =
    let (zero_divisor, named) = only_divisions_fault c.args.op c.args.ty (slice_index c.args.a c.loop-i.i) (slice_index c.args.b c.loop-i.i) c.in-Err.fault c.in-Err.ensures.value in
    faulted (lanes_of g.row.W c.args.active) c.args.b c.loop-i.i c.in-Err.fault (sym c.has.ensures ∙ c.if-has.true) zero_divisor c.loop-i.invariant.1 named

pub returns : goal.returns
returns g c = (
  none_zero g.row.W (lanes_of g.row.W c.args.active) c.args.b (length-lanes_of_word g.row.W c.args.active.word) (λ i h here. c.loop-i.invariant.1 i (omega arith) here),
  λ i h. c.loop-i.invariant.2 i (omega arith),
)
