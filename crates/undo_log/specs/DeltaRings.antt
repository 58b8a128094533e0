-- What the fields of a DeltaRing mean.
use Rattle.std.specs.Prelude.{◌≡◌, ℕ, zero, suc, ◌+◌, ◌*◌, ◌≤◌, ◌<◌, List, [], ◌∷◌, ◌++◌, length, map, reverse, All, take, drop, slice_index, slice_set, count_by}
use Rattle.undo_log.specs.declared.changes.Change.{Change}
use Rattle.undo_log.specs.declared.events.Mark.{Mark}
use Rattle.undo_log.specs.declared.delta_ring.DeltaRing.TheInside.{Inside}
use Rattle.undo_log.specs.History.{Moment, moment, is_step}
use Rattle.undo_log.specs.Deltas.{Deltas, deltas}

-- the words as they were before these changes, of which the newest comes first
abbrev pub taken_back : List Change → List ℕ → List ℕ
taken_back [] words = words
taken_back (c ∷ cs) words = taken_back cs (slice_set words c.index c.old)

-- the changes of so many words from one on, of which the newest comes last
abbrev pub run_changes : (first count : ℕ) → List ℕ → List Change
run_changes first zero words = []
run_changes first (suc n) words = run_changes first n words ++ record { index = first + n; old = slice_index words (first + n) } ∷ []

-- each event with the words before it
abbrev pub moments : List Mark → List Change → List ℕ → List Moment
moments [] changes words = []
moments (m ∷ ms) changes words = moment m.event (taken_back (take m.count changes) words) ∷ moments ms (drop m.count changes) (taken_back (take m.count changes) words)

-- how many changes all events have
abbrev pub total : List Mark → ℕ
total [] = 0
total (m ∷ ms) = m.count + total ms

abbrev pub deltas_seen : Inside → Deltas
deltas_seen a = deltas (record { words = a.words.items; past = moments a.marks.items (reverse a.changes.items) a.words.items; limit = a.limit; room = a.cells }) (map (λ m. m.count) a.marks.items)

-- The rings have room for as many events and old words as may be kept, and each kept event has all its old words. The steps are counted.
pub record AreDeltas (a : Inside) : Type 0 where
  pub some : (1 ≤ a.limit) × (a.limit ≤ 65536) × (a.cells ≤ 65536)
  pub marks : (a.limit ≤ a.marks.capacity) × (length a.marks.items ≤ a.limit)
  pub changes : (a.limit * a.cells ≤ a.changes.capacity) × (length a.changes.items ≡ total a.marks.items)
  pub small : All (λ m. m.count ≤ a.cells) a.marks.items
  pub in_range : All (λ c. c.index < length a.words.items) a.changes.items
  pub steps : a.steps ≡ count_by (λ m. is_step m.event) a.marks.items
