-- A record that keeps old words alone, as its contracts see it.
use Rattle.std.specs.Prelude.{ℕ, ◌+◌, ◌-◌, List, [], ◌∷◌}
use Rattle.undo_log.specs.History.{History}

-- the record, and for each kept event, from the newest to the oldest, how many times a word was set after it was opened and before the next one was
pub record Deltas : Type 0 where
  pub history : History
  pub counts : List ℕ

abbrev pub deltas : History → List ℕ → Deltas
deltas history counts = record { history = history; counts = counts }

-- how many words may still be set: the room, less how many were set since the newest kept event was opened
abbrev pub left_of : ℕ → List ℕ → ℕ
left_of room [] = room
left_of room (count ∷ counts) = room - count

-- one more word is set: it counts for the newest kept event, and for none where none is kept
abbrev pub one_more : List ℕ → List ℕ
one_more [] = []
one_more (count ∷ counts) = (count + 1) ∷ counts
