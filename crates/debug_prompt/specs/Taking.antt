-- What is done for a line where lists are read and lines wait: a list is read, or begins, and nothing else is done; or the line is done.
use Rattle.std.specs.Prelude.{◌≡◌, ℕ, ◌||◌, Bool, true, false, List, [], Option, Some, None, drop, slice_get, if◌then◌else◌}
use Rattle.arrayvec.specs.ArrayVec.{ArrayVec}
use Rattle.gang_model.specs.Debugger.Debugger.{Debugger, Setting}
use Rattle.debug_session.specs.declared.session.Session.{Session}
use Rattle.debug_session.specs.Sessions.{StandsFor}
use Rattle.prompt_lines.specs.Sources.{Sheet}
use Rattle.prompt_lines.specs.Words.{Spelled}
use Rattle.prompt_scenes.specs.Holding.{Held, nothing_kept}
use Rattle.prompt_scenes.specs.declared.holding.LastMove.TheVariants as last
use Rattle.prompt_stops.specs.Listed.{Lists, all_there, begins_list, is_reading, listed, numbers_for, read, settled}
use Rattle.prompt_going.specs.GoingOn.{Does}
use Rattle.debug_prompt.specs.Doing.{kept_after, meant, turn_of}
use Rattle.debug_prompt.specs.Lines.{DoesLine}
use Rattle.debug_prompt.specs.declared.prompt.Turn.{Turn}
use Rattle.debug_prompt.specs.declared.prompt.Turn.TheVariants as turn

-- no move was made yet for a line
abbrev pub unmoved : Held → Held
unmoved h = record h { last_move = last.Still }

-- a line is done; then those lines wait that what stopped its last move has
abbrev pub DoesOther : {M : Type 0} → (M → Setting → Debugger → Type 0) → Sheet → (kept : Spelled) → Held → Lists → Setting → Debugger → (line : List ℕ) → Session M → Held → Lists → Type 0
DoesOther stands sheet kept h lists s d line session new left =
    DoesLine stands sheet kept (unmoved h) s d line session new × ((e : Debugger) → StandsFor stands session s e → left ≡ settled new.last_move (all_there e new) lists)

-- a line of a list that is read, one that begins a list, or another one
abbrev pub TakesBy : {M : Type 0} → (M → Setting → Debugger → Type 0) → Sheet → (kept : Spelled) → Held → Lists → Setting → Debugger → (line : List ℕ) → (reading begins : Bool) → Session M → Held → Lists → Type 0
TakesBy stands sheet kept h lists s d line true begins session new left = Does stands s d [] h session new × (left ≡ read line lists)
TakesBy stands sheet kept h lists s d line false true session new left = Does stands s d [] h session new × (left ≡ listed (numbers_for d h line) lists)
TakesBy stands sheet kept h lists s d line false false session new left = DoesOther stands sheet kept h lists s d line session new left

-- what is done for a line
abbrev pub Takes : {M : Type 0} → (M → Setting → Debugger → Type 0) → Sheet → (kept : Spelled) → Held → Lists → Setting → Debugger → (line : List ℕ) → Session M → Held → Lists → Type 0
Takes stands sheet kept h lists s d line session new left = TakesBy stands sheet kept h lists s d line (is_reading lists) (begins_list line) session new left

-- what is done for the first of the lines that wait, if there is one: it waits no more, and an empty one repeats nothing
abbrev pub TakesWaited : {M : Type 0} → (M → Setting → Debugger → Type 0) → Sheet → Held → Lists → Setting → Debugger → Option (ArrayVec ℕ) → Session M → Held → Lists → Type 0
TakesWaited stands sheet h lists s d None session new left = Does stands s d [] h session new × (left ≡ lists)
TakesWaited stands sheet h lists s d (Some line) session new left =
    Takes stands sheet nothing_kept h (record lists { waiting = drop 1 lists.waiting }) s d line.items session new left

abbrev pub TakesFirst : {M : Type 0} → (M → Setting → Debugger → Type 0) → Sheet → Held → Lists → Setting → Debugger → Session M → Held → Lists → Type 0
TakesFirst stands sheet h lists s d session new left = TakesWaited stands sheet h lists s d (slice_get lists.waiting 0) session new left

-- whether a line is one of a list, or begins one
abbrev pub is_of_list : Lists → (line : List ℕ) → Bool
is_of_list lists line = is_reading lists || begins_list line

-- the line that is kept then: a list keeps none
abbrev pub kept_then : Lists → (kept : Spelled) → (line : List ℕ) → Spelled
kept_then lists kept line = if is_of_list lists line then nothing_kept else kept_after kept line

-- what a line of a list leads to: none quits
abbrev pub turn_in_list : (failed : Bool) → Turn
turn_in_list failed = if failed then turn.Fails else turn.Goes

-- what a line leads to
abbrev pub turn_then : (failed : Bool) → Lists → (kept : Spelled) → (line : List ℕ) → Turn
turn_then failed lists kept line = if is_of_list lists line then turn_in_list failed else turn_of failed (meant kept line)

-- what a line leads to that waited, if there was one
abbrev pub turn_first : (failed : Bool) → Lists → Option (ArrayVec ℕ) → Turn
turn_first failed lists None = turn_in_list failed
turn_first failed lists (Some line) = turn_then failed lists nothing_kept line.items
