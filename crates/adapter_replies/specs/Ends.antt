-- The frame of a program that has ended: it shows where the program ended, and the variables of the file.
use Rattle.std.specs.Prelude.{◌≡◌, ◌⊎◌, ℕ, ◌-◌, Bool, true, false, List, [], ◌∷◌, ◌++◌, length, codes, option_map, slice_get, Option, Some, None}
use Rattle.std.specs.Str.Lossy.{utf8_lossy}
use Rattle.gang_types.specs.declared.places.Place.{Place}
use Rattle.gang_model.specs.Types.Tree.{Function, Program}
use Rattle.gang_model.specs.Debugger.Debugger.{Debugger, Setting, has_ended, now}
use Rattle.gang_model.specs.Texts.Text.{Bytes, line_and_column}
use Rattle.adapter_requests.specs.declared.reply.Reply.{Reply}
use Rattle.adapter_requests.specs.declared.reply.Reply.TheVariants as reply
use Rattle.adapter_requests.specs.declared.request.Request.{Request}
use Rattle.adapter_requests.specs.declared.request.Request.TheVariants as request
use Rattle.adapter_replies.specs.Frames.{ToldFrame}
use Rattle.adapter_replies.specs.Told.{AreFramesTold}

-- where the closing brace of a function stands: it is the last of its steps
abbrev pub closing_place : Function → Option Place
closing_place f = option_map (λ standing. standing.place) (slice_get f.standings (length f.standings - 1))

-- NAME (ended)
abbrev pub end_name : Bytes → Bytes
end_name function = utf8_lossy function ++ codes " (ended)"

-- a frame with the number of the outermost one, at a place of a function
abbrev pub frame_at_end : Bytes → Option Place → List ToldFrame
frame_at_end function None = []
frame_at_end function (Some place) = record { depth = 1; name = end_name function; place = line_and_column place } ∷ []

-- the frame of a program that has ended in a function
abbrev pub ended_in : Option Function → List ToldFrame
ended_in None = []
ended_in (Some f) = frame_at_end f.name (closing_place f)

-- the same, where the function is known by its number
abbrev pub end_frames : Program → (entry : Option ℕ) → List ToldFrame
end_frames p None = []
end_frames p (Some entry) = ended_in (slice_get p.functions entry)

-- what is told in place of a reply, once the program has ended: a request for frames is told that one, or that memory is wanting
abbrev pub IsToldThen : Program → (entry : Option ℕ) → Request → (given told : Reply) → Type 0
IsToldThen p entry (request.StackTrace thread start levels) given told = (told ≡ reply.OutOfMemory) ⊎ AreFramesTold start levels (end_frames p entry) told
IsToldThen p entry other given told = told ≡ given

-- the same by whether it has; before that the reply itself
abbrev pub IsToldWhere : (has_ended : Bool) → Program → (entry : Option ℕ) → Request → (given told : Reply) → Type 0
IsToldWhere true p entry asked given told = IsToldThen p entry asked given told
IsToldWhere false p entry asked given told = told ≡ given

-- what is told in place of a reply, where a debugger stands
abbrev pub IsToldAtEnd : Setting → Debugger → (entry : Option ℕ) → Request → (given told : Reply) → Type 0
IsToldAtEnd s d entry asked given told = IsToldWhere (has_ended (now s d)) s.program entry asked given told
