use Rattle.std.proofs.Common.{◌+◌, sym, subst, arith}
use Rattle.std.proofs.lemmas.List.{take_rest}
use Rattle.adapter_frames.proofs.HeadLines.{HeadSoFar, line_more, no_head}
use Rattle.adapter_frames.proofs.heads.end_of_head.Goals as goal

pub loop-line-preserved : goal.loop-line-preserved
loop-line-preserved c =
    let rest = c.loop-line.rest.now in
    let line = c.in-Some.line in
    subst (λ xs. HeadSoFar c.args.bytes.now xs (c.loop-line.at + (line + 2))) (sym (take_rest rest (line + 2)))
    (line_more c.args.bytes.now rest c.loop-line.at line c.loop-line.invariant c.in-Some.ensures (omega arith))

pub returns : goal.returns
returns c = no_head c.args.bytes.now c.loop-line.rest.now c.loop-line.at c.loop-line.invariant c.in_default.ensures
