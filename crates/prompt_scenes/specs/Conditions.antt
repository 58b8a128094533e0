-- The conditions and the counts of breakpoints and watches, and which are disabled, as lines change them.
use Rattle.std.specs.Prelude.{ℕ, ◌==◌, ◌||◌, Bool, List, [], ◌∷◌, Option, Some, None, is_none, if◌then◌else◌}
use Rattle.std.specs.List.{list_any}
use Rattle.gang_model.specs.Debugger.Debugger.{Debugger, Stop}
use Rattle.conditional_stops.specs.Tables.{condition_refusal, count_refusal, nothing, with_condition, with_passes, without, without_condition, with_disabled, without_disabled}
use Rattle.prompt_scenes.specs.FrameWatches.{is_frame}
use Rattle.prompt_scenes.specs.Holding.{Held}

-- whether a breakpoint or watch has a number
abbrev pub is_there : ℕ → List (ℕ × Stop) → Bool
is_there number stops = list_any (λ entry. entry.0 == number) stops

-- the same with the watches of frames
abbrev pub is_known : ℕ → Debugger → Held → Bool
is_known number d h = is_there number d.stops || is_frame number h

-- a breakpoint or watch has a condition from now on, where there is room
abbrev pub conditioned : ℕ → (text : List ℕ) → Held → Held
conditioned number text h = if is_none (condition_refusal number text h.table) then record h { table = with_condition number text h.table } else h

-- so many of its stops are to be passed from now on, where there is room
abbrev pub counted : ℕ → (count : ℕ) → Held → Held
counted number count h = if is_none (count_refusal number count h.table) then record h { table = with_passes number count h.table } else h

-- what was made has the condition that was named
abbrev pub made_so : (made : Option ℕ) → (condition : Option (List ℕ)) → Held → Held
made_so None condition h = h
made_so (Some n) None h = h
made_so (Some n) (Some text) h = conditioned n text h

-- a breakpoint or watch has this condition, or none where the text is empty
abbrev pub replaced : ℕ → (text : List ℕ) → Held → Held
replaced number [] h = record h { table = without_condition number h.table }
replaced number (byte ∷ bytes) h = conditioned number (byte ∷ bytes) h

-- the same where one of the number is there
abbrev pub after_condition : Debugger → Held → (number : Option ℕ) → (text : List ℕ) → Held
after_condition d h None text = h
after_condition d h (Some n) text = if is_known n d h then replaced n text h else h

-- a number, and how many of its stops are to be passed
abbrev pub after_ignore : Debugger → Held → (number count : Option ℕ) → Held
after_ignore d h None count = h
after_ignore d h (Some n) None = h
after_ignore d h (Some n) (Some count) = if is_known n d h then counted n count h else h

-- what was said of a breakpoint or watch is forgotten
abbrev pub forgotten : ℕ → Held → Held
forgotten number h = record h { table = without number h.table }

-- the same of one that may be there
abbrev pub forgotten_one : Option ℕ → Held → Held
forgotten_one None h = h
forgotten_one (Some n) h = forgotten n h

-- what a line deleted is forgotten: one, or all
abbrev pub forgotten_by : Option (Option ℕ) → Held → Held
forgotten_by None h = h
forgotten_by (Some None) h = record h { table = nothing }
forgotten_by (Some (Some n)) h = forgotten n h

-- what was said of the breakpoint that stopped a move is forgotten, where it is temporary
abbrev pub forgotten_stop : (stopped : Option ℕ) → Held → Held
forgotten_stop None h = h
forgotten_stop (Some n) h = if list_any (λ t. t == n) h.temporaries then forgotten n h else h

-- a breakpoint or watch is disabled
abbrev pub disabled : ℕ → Held → Held
disabled number h = record h { table = with_disabled number h.table }

-- a breakpoint or watch is enabled again
abbrev pub enabled : ℕ → Held → Held
enabled number h = record h { table = without_disabled number h.table }
