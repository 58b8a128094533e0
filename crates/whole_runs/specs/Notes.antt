-- What notes say of a run: its events, and that they happened.
use Rattle.std.specs.Prelude.{◌≡◌, ◌⊎◌, ℕ, zero, suc, ◌<◌, ◌≤◌, List, [], ◌∷◌, ◌++◌, length, min, Result, Ok, Err, Option, Some, None, if◌then◌else◌}
use Rattle.undo_log.specs.declared.timeline.Undone.{Undone}
use Rattle.undo_log.specs.declared.timeline.Undone.TheVariants as undone
use Rattle.undo_log.specs.declared.timeline.NoHistory.{NoHistory}
use Rattle.gang_model.specs.Types.Tree.{Variable}
use Rattle.gang_model.specs.Running.Step.{Stepped, Goes, Fails, Over, step}
use Rattle.gang_model.specs.Debugger.Events.{Event, Step, Poke, Poked, WholeOf, LaneOf, ElementAt, after}
use Rattle.gang_model.specs.Debugger.Debugger.{Setting, fresh}
use Rattle.debug_traits.specs.declared.machine.Shown.{Shown}
use Rattle.debug_traits.specs.Beginnings.{with_events}
use Rattle.debug_traits.specs.Machines.{IsPart}
use Rattle.whole_runs.specs.declared.notes.NotedPoke.{NotedPoke}
use Rattle.whole_runs.specs.Pokes.{IsShownIn, poked_in}

-- ---- events

-- so many steps after older events, all newest first
abbrev pub steps_on : ℕ → List Event → List Event
steps_on zero older = older
steps_on (suc n) older = Step ∷ steps_on n older

-- what a poke of a variable that is shown so sets
abbrev pub poked_at : Shown → Option ℕ → Poked
poked_at shown None = WholeOf shown.id
poked_at shown (Some k) = if shown.is_array then ElementAt shown.id k else LaneOf shown.id k

-- the event that a note spells, in the frame at its depth or in the top one
abbrev pub poke_of : NotedPoke → Event
poke_of note = Poke (poked_in note.depth (poked_at note.shown note.at)) note.word

-- the pokes with the steps before each of them, after older events
abbrev pub noted : List Event → List NotedPoke → List Event
noted older [] = older
noted older (note ∷ notes) = noted (poke_of note ∷ steps_on note.steps older) notes

-- all events of a run, the newest first
abbrev pub events_of : List NotedPoke → (steps : ℕ) → List Event
events_of notes steps = steps_on steps (noted [] notes)

-- ---- that they happened

abbrev pub IsGoing : Stepped → Type 0
IsGoing (Goes state) = Unit {0}
IsGoing (Fails fault) = ⊥
IsGoing Over = ⊥

-- a step can be made after these events
abbrev pub CanGo : Setting → List Event → Type 0
CanGo s events = IsGoing (step s.program (after s.program s.first events))

-- so many steps were made after older events
abbrev pub HaveGone : Setting → ℕ → List Event → Type 0
HaveGone s zero older = Unit {0}
HaveGone s (suc n) older = HaveGone s n older × CanGo s (steps_on n older)

-- a part of a variable that is shown so in the note's frame after these events
pub record CanPoke (s : Setting) (events : List Event) (note : NotedPoke) : Type 0 where
  pub variable : Variable
  pub shown : IsShownIn note.depth s (with_events events 0 0 (fresh 0)) variable note.shown
  pub part : IsPart note.at note.shown

-- the pokes and the steps before each of them happened, after older events
abbrev pub AreNoted : Setting → List Event → List NotedPoke → Type 0
AreNoted s older [] = Unit {0}
AreNoted s older (note ∷ notes) =
    HaveGone s note.steps older × CanPoke s (steps_on note.steps older) note × AreNoted s (poke_of note ∷ steps_on note.steps older) notes

-- the events of a run happened
abbrev pub Happened : Setting → List NotedPoke → (steps : ℕ) → Type 0
Happened s notes steps = AreNoted s [] notes × HaveGone s steps (noted [] notes)

-- ---- forgetting

-- The last event is forgotten, and one event less can be taken back; or none can be taken back, and nothing changes.
abbrev pub Forgets : (old : List NotedPoke) → (steps kept : ℕ) → Result Undone NoHistory → (new : List NotedPoke) → (left fewer : ℕ) → Type 0
Forgets old steps kept (Ok undone.Step) new left fewer = (steps ≡ suc left) × (new ≡ old) × (kept ≡ suc fewer)
Forgets old steps kept (Ok undone.Poke) new left fewer = (note : NotedPoke) × (steps ≡ 0) × (old ≡ new ++ note ∷ []) × (left ≡ note.steps) × (kept ≡ suc fewer)
Forgets old steps kept (Err none) new left fewer = (kept ≡ 0) × (new ≡ old) × (left ≡ steps) × (fewer ≡ kept)

-- ---- places

-- how many steps come before the first of these pokes, or at the end where there is none
abbrev pub steps_first : List NotedPoke → (steps : ℕ) → ℕ
steps_first [] steps = steps
steps_first (note ∷ notes) steps = note.steps

-- a place after so many of the pokes and so many steps after these is not past the end
abbrev pub IsWithin : List NotedPoke → (steps : ℕ) → (before done : ℕ) → Type 0
IsWithin notes steps before done = (before < length notes) ⊎ ((before ≡ length notes) × (done ≤ steps))

-- ---- what is noted

-- the pokes with the steps before each, the steps since, how many of these events can be taken back, and how many can be at most
pub record Noted : Type 0 where
  pub pokes : List NotedPoke
  pub steps : ℕ
  pub kept : ℕ
  pub limit : ℕ

-- one step more
abbrev pub one_step : Noted → Noted
one_step n = record n { steps = suc n.steps; kept = min (suc n.kept) n.limit }

-- one poke more, after all steps, in the frame at a depth or in the top one
abbrev pub one_poke : (depth : Option ℕ) → Shown → Option ℕ → (word : ℕ) → Noted → Noted
one_poke depth shown at word n = record n {
  pokes = n.pokes ++ record { steps = n.steps; depth = depth; shown = shown; at = at; word = word } ∷ [];
  steps = 0;
  kept = min (suc n.kept) n.limit;
}

-- at most so many events can be taken back
abbrev pub kept_to : (limit : ℕ) → Noted → Noted
kept_to limit n = record n { kept = min n.kept limit; limit = limit }

-- only so many steps are left
abbrev pub last_steps : (steps : ℕ) → Noted → Noted
last_steps steps n = record n { pokes = []; steps = steps }
