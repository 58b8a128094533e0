use Rattle.std.proofs.Common.{◌∷◌, [], ◌++◌, ◌∙◌, sym, ap, map, take}
use Rattle.std.proofs.lemmas.List.{map_more}
use Rattle.adapter_replies.specs.Breakpoints.{told_function}
use Rattle.adapter_replies.proofs.breakpoints.functions.Goals as goal

pub loop-function-preserved : goal.loop-function-preserved
loop-function-preserved g c s d meant st are =
    let told = told_function s meant in
    let functions = c.args.functions.now in
    let index = c.loop-function.function-index in
    c.in_ok-push.ensures.items
    ∙ ap (λ old. old ++ c.function_breakpoint.result ∷ []) (c.loop-function.invariant s d meant st are)
    ∙ ap (λ one. map told (take index functions) ++ one ∷ []) (c.function_breakpoint.ensures s d meant st are)
    ∙ sym (map_more told functions index _ c.loop-function-test.true)
