use Rattle.std.proofs.Common.{◌≡◌, true, false, nat_eq, length, drop, sym, ap, ◌∙◌, subst, arith, take_all}
use Rattle.std.specs.List.{starts_with}
use Rattle.std.proofs.lemmas.List.{take_rest}
use Rattle.adapter_frames.specs.Heads.{has_line_end, line_end}
use Rattle.adapter_frames.proofs.HeadLines.{line_at, one_before}
use Rattle.adapter_frames.proofs.heads.first_line.Goals as goal

pub returns-then-starts_with : goal.returns-then-starts_with
returns-then-starts_with c =
    let here : starts_with nat_eq (drop c.loop-at.at c.args.bytes.now) line_end ≡ true =
    ap (λ xs. starts_with nat_eq xs line_end) (sym (take_rest c.args.bytes.now c.loop-at.at)) ∙ (sym c.starts_with.ensures.value ∙ c.if-starts_with.true) in
    line_at c.args.bytes.now c.loop-at.at here c.loop-at.invariant

pub returns : goal.returns
returns c =
    let bytes = c.args.bytes.now in
    subst (λ xs. has_line_end xs ≡ false) (take_all (length bytes) bytes (omega arith)) (one_before bytes (length bytes) (λ k lt. c.loop-at.invariant k (omega arith)))
