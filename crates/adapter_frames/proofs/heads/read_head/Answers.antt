use Rattle.std.proofs.Common.{◌≡◌, Err, MatchOption, MatchResult, take, sym, ap, ◌∙◌, subst, arith}
use Rattle.std.proofs.lemmas.Result.{err_from_is_err_and}
use Rattle.adapter_frames.specs.Heads.{IsAtFault}
use Rattle.adapter_frames.specs.Places.{HeadAt, IsPending, SaysLength}
use Rattle.adapter_frames.proofs.WholeHeads.{head_at, lines_at_fault, not_headed, too_long}
use Rattle.adapter_frames.proofs.heads.read_head.Goals as goal

pub returns-then-end-gt-MOST_HEAD : goal.returns-then-end-gt-MOST_HEAD
returns-then-end-gt-MOST_HEAD c =
    let within = c.in-Some.ensures.within in
    (omega arith, not_headed c.args.bytes.now c.in-Some.end c.in-Some.ensures (omega arith))

pub returns-in_err-length : goal.returns-in_err-length
returns-in_err-length c =
    let bytes = c.args.bytes.now in
    let (fault, err, same) = err_from_is_err_and c.from_residual.result c.from_residual.ensures.1 in
    let told : c.from_residual.result ≡ Err c.in_err-length.field-0.0 = err ∙ ap (λ x. Err x) same in
    let says = subst (SaysLength (take c.in-Some.end bytes)) c.in_err-length.was c.length_in.ensures in
    subst (λ r. MatchResult r (λ found. MatchOption found (IsPending bytes) (λ head. HeadAt bytes head.start head.length)) (λ fault. IsAtFault fault bytes)) (sym told)
    (lines_at_fault bytes c.in-Some.end c.in_err-length.field-0.0 c.in-Some.ensures (omega arith) says)

pub returns-then-length-gt-MOST_BODY : goal.returns-then-length-gt-MOST_BODY
returns-then-length-gt-MOST_BODY c =
    let bytes = c.args.bytes.now in
    let says = subst (SaysLength (take c.in-Some.end bytes)) c.in_ok-length.was c.length_in.ensures in
    too_long bytes c.in-Some.end c.in_ok-length.length c.in-Some.ensures (omega arith) says (omega arith)

pub returns : goal.returns
returns c =
    let bytes = c.args.bytes.now in
    let says = subst (SaysLength (take c.in-Some.end bytes)) c.in_ok-length.was c.length_in.ensures in
    head_at bytes c.in-Some.end c.in_ok-length.length c.in-Some.ensures (omega arith) says (omega arith)
