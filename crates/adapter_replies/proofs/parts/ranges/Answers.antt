use Rattle.std.proofs.Common.{◌∷◌, [], ◌++◌, ◌∙◌, sym, ap, map, arith}
use Rattle.std.proofs.lemmas.List.{map-append}
use Rattle.std.proofs.lemmas.List.FromFn.{map-range_with_len_more}
use Rattle.adapter_replies.specs.Variables.{told_range, variable_view}
use Rattle.adapter_replies.proofs.parts.ranges.Goals as goal

pub loop-range-preserved : goal.loop-range-preserved
loop-range-preserved c s d depth v shown =
    let range = c.loop-range.range in
    let told = told_range v c.args.named.shown.count c.args.place in
    ap (map variable_view) c.in_ok-push.ensures.items
    ∙ map-append variable_view c.loop-range.told.items (c.in_ok-range_shown.field-0 ∷ [])
    ∙ ap (λ one. map variable_view c.loop-range.told.items ++ one ∷ []) (c.in_ok-range_shown.ensures s d depth v shown)
    ∙ ap (λ old. old ++ told range ∷ []) (c.loop-range.invariant s d depth v shown)
    ∙ sym (map-range_with_len_more told 0 range range (omega arith))
