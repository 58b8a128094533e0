-- How many variables a function has room for.
use Rattle.std.specs.Prelude.{ℕ, ◌-◌, List, length, Option, Some, None, Result, Ok, Err, slice_get}
use Rattle.gang_types.specs.declared.places.Place.{Place}
use Rattle.gang_model.specs.Source.Parsed.{ParsedItem, ParsedFunctionItem, ParsedGlobalItem}
use Rattle.gang_model.specs.Types.Resolved.{length_of}

-- the place of a variable without room, if there is one, or else so much room
abbrev pub room_or : Option Place → ℕ → Result ℕ Place
room_or None room = Ok room
room_or (Some place) room = Err place

-- the room that is left after variables at these places, or the place of the first one that has no room
abbrev pub room_after : (room : ℕ) → List Place → Result ℕ Place
room_after room places = room_or (slice_get places room) (room - length places)

-- the words of a definition's array, if it is one
abbrev pub words_in : ParsedItem → ℕ
words_in (ParsedFunctionItem f) = 0
words_in (ParsedGlobalItem g) = length_of g.form
