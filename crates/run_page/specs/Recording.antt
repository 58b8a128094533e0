-- The changes that a record has of a run.
use Rattle.std.specs.Prelude.{◌≡◌, ℕ, ◌-◌, ◌≤◌, List, [], ◌∷◌, ◌++◌, drop, length, map, take, Option, Some, None}
use Rattle.gang_model.specs.Types.Tree.{Program}
use Rattle.gang_model.specs.Running.State.{State}
use Rattle.gang_model.specs.Debugger.Debugger.{Debugger, Setting, now}
use Rattle.lane_picture.specs.Seen.{state_after}
use Rattle.run_page.specs.declared.moments.Moment.{Moment}
use Rattle.run_page.specs.declared.record.Record.{Record}
use Rattle.run_page.specs.declared.views.Change.{Change}
use Rattle.run_page.specs.declared.views.Row.{Row}
use Rattle.run_page.specs.Changes.{TellDifferences}
use Rattle.run_page.specs.Rows.{AreRowsOf, Grows, sight_view}
use Rattle.run_page.specs.Sights.{Sight}

-- the changes of a moment, among those of all moments
abbrev pub changes_of : List Change → Moment → List Change
changes_of changes moment = take (moment.end_of_changes - moment.first_change) (drop moment.first_change changes)

-- a moment has the changes from where a program stood, if it did, to where it stands
pub record HasChanges (p : Program) (most : ℕ) (sights : List Sight) (changes : List Change) (before : Option State) (state : State) (moment : Moment) : Type 0 where
  pub order : moment.first_change ≤ moment.end_of_changes
  pub inside : moment.end_of_changes ≤ length changes
  pub tell : TellDifferences p most before state sights (changes_of changes moment)

-- each moment has the changes from the state of the moment before, if there is one, to its own: that after as many steps as were done before it
abbrev pub HaveChanges : Program → (most : ℕ) → List Sight → List Change → (before : Option State) → (first : State) → List Moment → Type 0
HaveChanges p most sights changes before first [] = Unit {0}
HaveChanges p most sights changes before first (moment ∷ moments) =
    let state = state_after p moment.taken first in HasChanges p most sights changes before state moment × HaveChanges p most sights changes (Some state) first moments

-- the variables of a record, by their numbers
abbrev pub sights_of : Record → List Sight
sights_of record' = map sight_view record'.variables.items

-- A record has the changes of a run that begins where a debugger stands: what can be seen at its first moment, and from each moment to the next what
-- is another there, as far as the first so many words of each variable are seen. Where each moment is told, it is what each step changes.
abbrev pub IsRecordOf : Setting → Debugger → (most : ℕ) → Record → Type 0
IsRecordOf s d most record' = HaveChanges s.program most (sights_of record') record'.changes.items None (now s d) record'.moments.items

-- ---- one moment

-- A moment was put behind others, with so many steps done before it, and the changes to where a debugger stands from where it stood when the rows
-- were read. More variables may have numbers, and those of the variables before are still theirs.
pub record NotesChanges (s : Setting) (d : Debugger) (taken most : ℕ) (before : Option State) (old new : Record) (rows : List Row) : Type 0 where
  pub moment : Moment
  pub behind : new.moments.items ≡ old.moments.items ++ moment ∷ []
  pub taken_is : moment.taken ≡ taken
  pub has : HasChanges s.program most (sights_of new) new.changes.items before (now s d) moment
  pub sights : Grows (sights_of old) (sights_of new)
  pub more : List Change
  pub changes : new.changes.items ≡ old.changes.items ++ more
  pub rows_of : AreRowsOf (sights_of new) most s.program (Some (now s d)) rows
