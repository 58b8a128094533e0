use Rattle.std.proofs.Common.{◌∷◌, [], ◌++◌, ◌+◌, ◌∙◌, refl, sym, ap, map, arith}
use Rattle.std.proofs.lemmas.List.{map-append}
use Rattle.std.proofs.lemmas.List.FromFn.{map-range_with_len_more}
use Rattle.gang_types.specs.Masks.{lanes_of}
use Rattle.adapter_replies.specs.Children.{told_lane}
use Rattle.adapter_replies.specs.Variables.{variable_view}
use Rattle.adapter_replies.proofs.children.lanes_from.Goals as goal

pub loop-offset-preserved : goal.loop-offset-preserved
loop-offset-preserved c gang within =
    let given = c.args.lanes.now in
    let first = c.args.first in
    let offset = c.loop-offset.offset in
    let told = told_lane c.args.form c.args.value_type (lanes_of given.width given.lanes) given.words in
    let lane = c.in_ok-lane_of.ensures gang (omega (arith, within, c.loop-offset-test.true)) in
    ap (map variable_view) c.in_ok-push.ensures.items
    ∙ map-append variable_view c.loop-offset.told.items (c.in_ok-lane_of.field-0 ∷ [])
    ∙ ap (λ one. map variable_view c.loop-offset.told.items ++ one ∷ []) lane
    ∙ ap (λ old. old ++ told (first + offset) ∷ []) (c.loop-offset.invariant gang within)
    ∙ sym (map-range_with_len_more told first offset (first + offset) refl)
