-- What a walk has of its watches.
use Rattle.std.proofs.Common.{List, Option, Some, None}
use Rattle.gang_model.specs.Types.Tree.{Program}
use Rattle.gang_model.specs.Debugger.Debugger.{Debugger, Setting}
use Rattle.expression_watches.specs.declared.codes.KeptCodes.{KeptCodes}
use Rattle.expression_watches.specs.declared.sights.ExpressionWatch.{ExpressionWatch}
use Rattle.expression_watches.specs.Codes.{AreCodesOf}
use Rattle.conditional_stops.specs.declared.going.MoveEnd.{MoveEnd}
use Rattle.conditional_stops.specs.declared.walking.Watched.{Watched}
use Rattle.conditional_stops.specs.declared.watches.Watch.{Watch}
use Rattle.conditional_stops.specs.declared.watches.Watch.TheVariants as watch
use Rattle.conditional_stops.specs.Noted.{HasCodes, IsWatched, IsWatchedOn}

-- codes of each text are codes for each watch
pub any_codes : (p : Program) (kept : KeptCodes) → ((w : ExpressionWatch) → AreCodesOf p w kept) → (w : Watch) → HasCodes p w kept
any_codes p kept each (watch.Variable w) = tt
any_codes p kept each (watch.Expression w) = each w
any_codes p kept each (watch.Writes w) = tt

-- whether the move goes on or not
pub watched_on : (s : Setting) (d : Debugger) (watches : List Watch) (ended : Option MoveEnd) (it : Watched) → IsWatched s d watches it → IsWatchedOn s d watches ended it
watched_on s d watches None it is = is
watched_on s d watches (Some ended) it is = tt
