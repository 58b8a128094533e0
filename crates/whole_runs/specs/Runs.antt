-- What a machine whose whole run can be taken back stands for.
use Rattle.std.specs.Prelude.{◌≡◌, ℕ, ◌≤◌, Bool, false, List, All, drop, length, take}
use Rattle.undo_log.specs.History.{History}
use Rattle.gang_model.specs.Debugger.Events.{Event}
use Rattle.gang_model.specs.Debugger.Debugger.{Debugger, Setting}
use Rattle.debug_traits.specs.Beginnings.{StandsAt, with_events}
use Rattle.whole_runs.specs.declared.notes.NotedPoke.{NotedPoke}
use Rattle.whole_runs.specs.declared.copies.CopiedMoment.{CopiedMoment}
use Rattle.whole_runs.specs.Copies.{KeptMoments}
use Rattle.whole_runs.specs.Notes.{AreNoted, Noted, HaveGone, IsWithin, noted, steps_first, steps_on}

-- what a contract sees of a machine whose whole run can be taken back: the machine; what is noted; the words of the start; the copies, and how many
-- there can be; whether one of these may be of a moment after the last event; and how often it has moved
pub record Whole (M : Type 0) : Type 0 where
  pub inner : M
  pub notes : Noted
  pub start : List ℕ
  pub copies : List CopiedMoment
  pub most : ℕ
  pub is_stale : Bool
  pub moves : ℕ

-- what one machine can have, and what a copy is, holds of another too
abbrev pub KeepsCopies : {M : Type 0} → (M → List ℕ → Type 0) → (M → List ℕ → Setting → Debugger → Type 0) → (old new : M) → Type 0
KeepsCopies can_have copies old new =
    ((words : List ℕ) → can_have old words → can_have new words)
    × ((words : List ℕ) (s : Setting) (d : Debugger) → copies old words s d → copies new words s d)

-- it can have the words of the start, and those of each copy
abbrev pub CanHaveAll : {M : Type 0} → (M → List ℕ → Type 0) → M → (start : List ℕ) → List CopiedMoment → Type 0
CanHaveAll can_have inner start copies = can_have inner start × All (λ c. can_have inner c.words.items) copies

-- a copy of no moment after the last event is one of its moment
abbrev pub IsCopied : {M : Type 0} → (M → List ℕ → Setting → Debugger → Type 0) → M → Setting → Debugger → List Event → List NotedPoke → (steps : ℕ) → CopiedMoment → Type 0
IsCopied copies inner s d older pokes steps c = IsWithin pokes steps c.pokes c.steps →
    (c.steps ≤ steps_first (drop c.pokes pokes) steps) × copies inner c.words.items s (with_events (steps_on c.steps (noted older (take c.pokes pokes))) 0 0 d)

-- the copies are of no moment after the last event
abbrev pub AreWithin : List NotedPoke → (steps : ℕ) → List CopiedMoment → Type 0
AreWithin pokes steps copies = All (λ c. IsWithin pokes steps c.pokes c.steps) copies

-- It stands where the debugger stands: the machine stands after the events, whatever it can take back itself; the notes are the events after
-- those that were forgotten, and they happened; the start is a copy of their beginning, and each other copy one of its moment; and as many of the
-- events can be taken back.
pub record StandsWhole {M : Type 0} (stands : M → Setting → Debugger → Type 0) (copies : M → List ℕ → Setting → Debugger → Type 0) (run : Whole M) (s : Setting) (d : Debugger) : Type 0 where
  pub older : List Event
  pub there : StandsAt stands run.inner s d d.events
  pub events : d.events ≡ steps_on run.notes.steps (noted older run.notes.pokes)
  pub are_noted : AreNoted s older run.notes.pokes
  pub have_gone : HaveGone s run.notes.steps (noted older run.notes.pokes)
  pub begins : copies run.inner run.start s (with_events older 0 0 d)
  pub copied : All (IsCopied copies run.inner s d older run.notes.pokes run.notes.steps) run.copies
  pub within : run.is_stale ≡ false → AreWithin run.notes.pokes run.notes.steps run.copies
  pub kept : d.kept ≡ run.notes.kept
  pub history : d.history ≡ run.notes.limit

-- where the machine itself stands, by what it can take back
abbrev pub inner_debugger : {M : Type 0} → (M → History) → Whole M → Debugger → Debugger
inner_debugger history run d = with_events d.events (length (history run.inner).past) (history run.inner).limit d

abbrev pub whole_of : {M : Type 0} → M → Noted → (start : List ℕ) → List CopiedMoment → (most : ℕ) → Bool → (moves : ℕ) → Whole M
whole_of inner notes start copies most is_stale moves = record { inner = inner; notes = notes; start = start; copies = copies; most = most; is_stale = is_stale; moves = moves }

-- what is kept of its run
abbrev pub moments_of : {M : Type 0} → Whole M → KeptMoments
moments_of run = record { start = run.start; copies = run.copies; most = run.most }

-- there can be as many copies as before
abbrev pub AsManyCopies : {M : Type 0} → Whole M → Whole M → Type 0
AsManyCopies old new = new.most ≡ old.most
