use Rattle.std.proofs.Common.{ap, refl, sym, ◌∙◌, ◌++◌, ◌∷◌, [], map, append_assoc}
use Rattle.std.proofs.lemmas.List.{map-append}
use Rattle.gang_model.specs.Debugger.Debugger as model
use Rattle.adapter_requests.specs.declared.reply.StopReason.TheVariants as reason
use Rattle.adapter_server.specs.Events.{counted_events, event_view, first_stop, verdict_events}
use Rattle.adapter_server.specs.Threads.{threads_of}
use Rattle.adapter_server.proofs.events.put_counted.Goals as goal

pub returns : goal.returns
returns g c s d there =
    let seen = threads_of c.args.launch.now in
    let old = map event_view c.args.events.now.items in
    let why = verdict_events c.in-Some.counted.verdict in
    let lines = c.put_verdict.new.events.items in
    let made = c.in_ok-first_stop.field-0 in
    let number = c.number-number.result in
    ap (map event_view) c.in_ok-push.ensures.items
    ∙ map-append event_view lines (made ∷ [])
    ∙ ap (λ front. front ++ event_view made ∷ []) c.in_ok-put_verdict.ensures
    ∙ ap (λ event. (old ++ why) ++ event ∷ []) (c.in_ok-first_stop.ensures s d (model.AtBreakpoint number) there refl)
    ∙ ap (λ n. (old ++ why) ++ first_stop seen s d (reason.Breakpoint n) (model.AtBreakpoint n) ∷ []) c.number-number.ensures
    ∙ append_assoc old why _
    ∙ ap (λ first. old ++ counted_events seen s d first) (sym c.in-Some.is)
