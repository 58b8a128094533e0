use Rattle.std.proofs.Common.{arith}
use Rattle.std.proofs.lemmas.List.{length-take}
use Rattle.adapter_replies.proofs.expressions.cut.Goals as goal

pub slice_bounds-from_utf8_lossy-end : goal.slice_bounds-from_utf8_lossy-end
slice_bounds-from_utf8_lossy-end c =
    omega (arith, length-take 200 c.as_bytes-bytes.result.now, c.if-len-le-MOST_HOVERED.false, c.len.ensures, c.as_bytes-bytes.ensures.len)
