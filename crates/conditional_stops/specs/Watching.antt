-- Watches among breakpoints.
use Rattle.std.specs.Prelude.{Bool, true, false}
use Rattle.debug_answers.specs.declared.stops.NumberedStop.{NumberedStop}
use Rattle.debug_answers.specs.declared.stops.Stop.{Stop}
use Rattle.debug_answers.specs.declared.stops.Stop.TheVariants as stop

abbrev pub watches : Stop → Bool
watches (stop.Line line) = false
watches (stop.Watch variable at) = true

-- whether this is a watch
abbrev pub is_watch : NumberedStop → Bool
is_watch entry = watches entry.stop
