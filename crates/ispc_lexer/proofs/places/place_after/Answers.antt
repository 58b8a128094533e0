use Rattle.std.proofs.Common.{◌+◌, ◌∙◌, sym, arith, get_or}
use Rattle.ispc_lexer.proofs.PlaceSteps.{place_step, line_bound, col_bound, place_done}
use Rattle.ispc_lexer.proofs.places.place_after.Goals as goal

pub loop-byte-preserved : goal.loop-byte-preserved
loop-byte-preserved c =
    let i = c.loop-byte.byte-index in
    let b = get_or c.args.bytes.now i 0 in
    rw c.next_place-next.ensures (
      sym (place_step c.args.bytes.now i c.loop-byte.next c.loop-byte-test.true) ∙ c.loop-byte.invariant.0,
      omega (arith, line_bound c.loop-byte.next b (c.args.place.line + i) c.loop-byte.invariant.1),
      omega (arith, col_bound c.loop-byte.next b (c.args.place.col + i) c.loop-byte.invariant.2),
    )

pub returns : goal.returns
returns c = place_done c.args.bytes.now c.loop-byte.byte-index c.loop-byte.next _ c.loop-byte-test.false c.loop-byte.invariant.0
