-- What a walk notes of its watches where a session stands, and the codes that it keeps of their texts.
use Rattle.std.specs.Prelude.{◌≡◌, ⊤, List, map, Option, Some, None}
use Rattle.std.specs.List.{AllZip}
use Rattle.gang_model.specs.Types.Tree.{Program}
use Rattle.gang_model.specs.Debugger.Debugger.{Debugger, Setting, now}
use Rattle.debug_session.specs.Moves.{noted, watch_words}
use Rattle.expression_watches.specs.declared.codes.KeptCodes.{KeptCodes}
use Rattle.expression_watches.specs.Codes.{AreCodesOf}
use Rattle.conditional_stops.specs.declared.going.MoveEnd.{MoveEnd}
use Rattle.conditional_stops.specs.declared.walking.Noted.{Noted}
use Rattle.conditional_stops.specs.declared.walking.Watched.{Watched}
use Rattle.conditional_stops.specs.declared.watches.Watch.{Watch}
use Rattle.conditional_stops.specs.declared.watches.Watch.TheVariants as watch
use Rattle.conditional_stops.specs.SightViews.{sights_view}
use Rattle.conditional_stops.specs.Watches.{seen}

-- the codes that are kept for a watch are those of its text, if it has one
abbrev pub HasCodes : Program → Watch → KeptCodes → Type 0
HasCodes p (watch.Variable w) kept = ⊤
HasCodes p (watch.Expression w) kept = AreCodesOf p w kept
HasCodes p (watch.Writes w) kept = ⊤

-- the same of each watch, in their order
abbrev pub HaveCodes : Program → List Watch → List KeptCodes → Type 0
HaveCodes p watches kept = AllZip (HasCodes p) watches kept

-- what is noted is what is seen where a debugger stands: what the watches of the file show, and what those of frames show
abbrev pub IsNoted : Setting → Debugger → List Watch → Noted → Type 0
IsNoted s d watches it = (noted it.words.items ≡ watch_words (now s d) d.stops) × (sights_view it.sights.items ≡ map (seen s d) watches)

-- a walk has noted what is seen there, and keeps codes of its watches' texts alone
abbrev pub IsWatched : Setting → Debugger → List Watch → Watched → Type 0
IsWatched s d watches it = IsNoted s d watches it.before × HaveCodes s.program watches it.codes.items

-- the same where a move goes on
abbrev pub IsWatchedOn : Setting → Debugger → List Watch → Option MoveEnd → Watched → Type 0
IsWatchedOn s d watches None it = IsWatched s d watches it
IsWatchedOn s d watches (Some ended) it = ⊤
