-- How often a machine moves for a command.
use Rattle.std.specs.Prelude.{◌≡◌, ℕ, ◌+◌, length}
use Rattle.undo_log.specs.History.{History}
use Rattle.gang_model.specs.Debugger.Debugger.{Command, DoStep, DoNext, DoFinish, DoContinue, DoReverseStep, DoReverseNext, DoReverseFinish, DoReverseContinue, DoUndo}

-- the most moves that a command makes, where a forward one makes at most so many, and so many events are kept, each of which a
-- backward one takes back at most; undo makes one, and every other command none
abbrev pub most_moves : (steps kept : ℕ) → Command → ℕ
most_moves steps kept (DoStep n) = steps
most_moves steps kept (DoNext n) = steps
most_moves steps kept DoFinish = steps
most_moves steps kept DoContinue = steps
most_moves steps kept (DoReverseStep n) = kept
most_moves steps kept (DoReverseNext n) = kept
most_moves steps kept DoReverseFinish = kept
most_moves steps kept DoReverseContinue = kept
most_moves steps kept DoUndo = 1
most_moves steps kept command = 0

-- each move took an event back: the moves that were made and the events that are kept are together as many as before
abbrev pub TakesBack : {M : Type 0} → (moves : M → ℕ) → (history : M → History) → (old new : M) → Type 0
TakesBack moves history old new = moves new + length (history new).past ≡ moves old + length (history old).past
