-- How many steps a machine does again to take the last event back, where it keeps none itself.
use Rattle.std.specs.Prelude.{ℕ, ◌+◌, ◌-◌, List, [], ◌∷◌, length, drop, slice_get, Option, Some, None, if◌then◌else◌}
use Rattle.whole_runs.specs.declared.notes.NotedPoke.{NotedPoke}
use Rattle.whole_runs.specs.declared.copies.CopiedMoment.{CopiedMoment}
use Rattle.whole_runs.specs.Copies.{is_within}

-- the steps of a run, where so many of those before its first poke are done already
abbrev pub steps_left : List NotedPoke → (steps done : ℕ) → ℕ
steps_left [] steps done = steps - done
steps_left (note ∷ notes) steps done = (note.steps - done) + steps_left notes steps 0

-- the steps after a copy, or after the start, where there is no copy or it is of a moment after the last event
abbrev pub steps_behind : List NotedPoke → (steps : ℕ) → Option CopiedMoment → ℕ
steps_behind pokes steps None = steps_left pokes steps 0
steps_behind pokes steps (Some c) = if is_within pokes steps c.pokes c.steps then steps_left (drop c.pokes pokes) steps c.steps else steps_left pokes steps 0

-- the steps after the newest of these copies, or after the start
abbrev pub steps_again : List NotedPoke → (steps : ℕ) → List CopiedMoment → ℕ
steps_again pokes steps copies = steps_behind pokes steps (slice_get copies (length copies - 1))
