use Rattle.std.proofs.Common.{◌∷◌, [], ◌++◌, ◌∙◌, sym, ap, map, take}
use Rattle.std.proofs.lemmas.List.{map_more}
use Rattle.adapter_replies.specs.Breakpoints.{told_breakpoint}
use Rattle.adapter_replies.proofs.breakpoints.breakpoints.Goals as goal

pub loop-line-preserved : goal.loop-line-preserved
loop-line-preserved g c s d meant st are =
    let told = told_breakpoint s c.args.is_program meant in
    let lines = c.args.lines.now in
    let index = c.loop-line.line-index in
    c.in_ok-push.ensures.items
    ∙ ap (λ old. old ++ c.breakpoint.result ∷ []) (c.loop-line.invariant s d meant st are)
    ∙ ap (λ one. map told (take index lines) ++ one ∷ []) (c.breakpoint.ensures s d meant st are)
    ∙ sym (map_more told lines index _ c.loop-line-test.true)
