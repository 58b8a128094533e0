-- Where a machine stands, whatever can be taken back.
use Rattle.std.specs.Prelude.{ℕ, List}
use Rattle.gang_model.specs.Debugger.Events.{Event}
use Rattle.gang_model.specs.Debugger.Debugger.{Debugger, Setting}

-- a debugger after these events, of which so many can be taken back, at most the history
abbrev pub with_events : List Event → (kept history : ℕ) → Debugger → Debugger
with_events events kept history d = record d { events = events; kept = kept; history = history }

-- a machine stands where the debugger stands after these events, however many of them it can take back
abbrev pub StandsAt : {M : Type 0} → (M → Setting → Debugger → Type 0) → M → Setting → Debugger → List Event → Type 0
StandsAt stands m s d events = (kept : ℕ) × (history : ℕ) × stands m s (with_events events kept history d)
