use Rattle.std.proofs.Common.{◌∷◌, [], ◌++◌, ◌∙◌, sym, ap, map, arith}
use Rattle.std.proofs.lemmas.List.{map-append}
use Rattle.std.proofs.lemmas.List.FromFn.{map-range_with_len_more}
use Rattle.adapter_replies.specs.Threads.{lane_thread}
use Rattle.adapter_replies.specs.Told.{thread_view}
use Rattle.adapter_replies.specs.Waiting.{position_lanes}
use Rattle.adapter_replies.proofs.threads.lane_threads.Goals as goal

pub loop-lane-preserved : goal.loop-lane-preserved
loop-lane-preserved c =
    let lane = c.loop-lane.lane in
    let told = lane_thread (position_lanes c.args.position) in
    let old = c.loop-lane.threads.items in
    ap (map thread_view) c.in_ok-push.ensures.items
    ∙ map-append thread_view old (c.in_ok-lane_thread.field-0 ∷ [])
    ∙ ap (λ one. map thread_view old ++ one ∷ []) c.in_ok-lane_thread.ensures
    ∙ ap (λ front. front ++ told lane ∷ []) c.loop-lane.invariant
    ∙ sym (map-range_with_len_more told 0 lane lane (omega arith))
