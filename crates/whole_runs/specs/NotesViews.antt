-- What a contract sees of notes.
use Rattle.whole_runs.specs.declared.notes.Notes.{Notes}
use Rattle.whole_runs.specs.Notes.{Noted}

abbrev pub noted_of : Notes → Noted
noted_of notes = record { pokes = notes.pokes.items; steps = notes.steps; kept = notes.kept; limit = notes.limit }
