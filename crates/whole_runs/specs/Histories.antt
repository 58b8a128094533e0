-- The history that clauses of `RecordedMachine` speak of, for a run that can be taken back: the kinds of the events that can be, and no words.
use Rattle.std.specs.Prelude.{ℕ, List, [], map, take}
use Rattle.undo_log.specs.History.{History, Moment, moment}
use Rattle.gang_model.specs.Debugger.Events.{Event}
use Rattle.debug_traits.specs.Machines.{kind_of}
use Rattle.whole_runs.specs.Notes.{events_of}
use Rattle.whole_runs.specs.Runs.{Whole}

abbrev pub kinds : List Event → List Moment
kinds events = map (λ event. moment (kind_of event) []) events

abbrev pub history_at : (kept limit : ℕ) → List Event → History
history_at kept limit events = record { words = []; past = kinds (take kept events); limit = limit; room = 0 }

abbrev pub history_of : {M : Type 0} → Whole M → History
history_of run = history_at run.notes.kept run.notes.limit (events_of run.notes.pokes run.notes.steps)
