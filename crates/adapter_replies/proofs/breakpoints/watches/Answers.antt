use Rattle.std.proofs.Common.{◌∷◌, [], ◌++◌, ◌∙◌, sym, ap, map, take}
use Rattle.std.proofs.lemmas.List.{map_more}
use Rattle.adapter_replies.specs.Breakpoints.{told_watch}
use Rattle.adapter_replies.proofs.breakpoints.watches.Goals as goal

pub loop-target-preserved : goal.loop-target-preserved
loop-target-preserved g c s d meant st are =
    let told = told_watch s d meant in
    let targets = c.args.targets.now in
    let index = c.loop-target.target-index in
    c.in_ok-push.ensures.items
    ∙ ap (λ old. old ++ c.in_ok-watch.field-0 ∷ []) (c.loop-target.invariant s d meant st are)
    ∙ ap (λ one. map told (take index targets) ++ one ∷ []) (c.in_ok-watch.ensures s d meant st are)
    ∙ sym (map_more told targets index _ c.loop-target-test.true)
