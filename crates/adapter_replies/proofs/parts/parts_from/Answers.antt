use Rattle.std.proofs.Common.{◌∷◌, [], ◌++◌, ◌+◌, ◌∙◌, refl, sym, ap, map, arith}
use Rattle.std.proofs.lemmas.List.{map-append}
use Rattle.std.proofs.lemmas.List.FromFn.{map-range_with_len_more}
use Rattle.adapter_replies.specs.Variables.{told_part, variable_view, words_at}
use Rattle.adapter_replies.specs.Waiting.{position_lanes}
use Rattle.adapter_replies.proofs.parts.parts_from.Goals as goal

pub loop-offset-preserved : goal.loop-offset-preserved
loop-offset-preserved g c s d v st shown =
    let first = c.args.first in
    let offset = c.loop-offset.offset in
    let told = told_part c.args.form (position_lanes c.args.position) v (words_at s d c.args.depth v) in
    let part = c.in_ok-part.ensures s d v st shown (omega (arith, c.requires.within, c.loop-offset-test.true)) in
    ap (map variable_view) c.in_ok-push.ensures.items
    ∙ map-append variable_view c.loop-offset.told.items (c.in_ok-part.field-0 ∷ [])
    ∙ ap (λ one. map variable_view c.loop-offset.told.items ++ one ∷ []) part
    ∙ ap (λ old. old ++ told (first + offset) ∷ []) (c.loop-offset.invariant s d v st shown)
    ∙ sym (map-range_with_len_more told first offset (first + offset) refl)
