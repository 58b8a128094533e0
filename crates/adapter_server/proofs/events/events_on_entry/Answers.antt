use Rattle.std.proofs.Common.{ap, refl, ◌∙◌, ◌++◌, ◌∷◌, [], map}
use Rattle.gang_model.specs.Debugger.Debugger as model
use Rattle.adapter_server.specs.Events.{event_view}
use Rattle.adapter_server.proofs.events.events_on_entry.Goals as goal

pub returns : goal.returns
returns g c s d there =
    ap (map event_view) (c.in_ok-push.ensures.items ∙ ap (λ events. events ++ c.in_ok-first_stop.field-0 ∷ []) c.new-events.ensures.items)
    ∙ ap (λ event. event ∷ []) (c.in_ok-first_stop.ensures s d model.Here there refl)
