-- What the references stand for by which an editor asks for variables.
use Rattle.std.specs.Prelude.{ℕ, zero, suc, Bool, true, false, ◌/◌, ◌%◌, ◌==◌, ◌&&◌, nat_lt, not, Option, Some, None, if◌then◌else◌}
use Rattle.adapter_replies.specs.declared.places.Place.{Place}
use Rattle.adapter_replies.specs.declared.places.Place.TheVariants as place
use Rattle.adapter_replies.specs.declared.places.Scope.TheVariants.{Locals, Arguments}

-- the lanes of the value of the expression for which a number stands: 1 for the first one of a table, which has at most 64
abbrev pub expression_at : (number : ℕ) → Place
expression_at zero = place.Nothing
expression_at (suc index) = if nat_lt index 64 then place.Expression index else place.Nothing

-- what a kind, a depth and a number stand for: 1 and 2 the local variables and the parameters of the frame at the depth, 3 and 4 the parts of one of them
-- by its number, 5 the variables of the file, 6 the parts of one of those; 7, 8 and 9 a range of the elements of one, where the number is RANGE VARIABLE with
-- three digits for the variable's number; 0 the lanes of an expression's value
abbrev pub numbered : (kind depth number : ℕ) → Place
numbered kind deep number =
    if kind == 1 then place.Variables Locals deep
    else (if kind == 2 then place.Variables Arguments deep
    else (if kind == 3 then place.Parts Locals deep number
    else (if kind == 4 then place.Parts Arguments deep number
    else (if kind == 5 then place.File
    else (if kind == 6 then place.OfFile number
    else (if kind == 7 then place.Range Locals deep (number % 1000) (number / 1000)
    else (if kind == 8 then place.Range Arguments deep (number % 1000) (number / 1000)
    else (if kind == 9 then place.FileRange (number % 1000) (number / 1000)
    else (if kind == 0 then expression_at number else place.Nothing)))))))))

-- a reference is written NUMBER DEPTH KIND: two digits are the depth's, the last one is the kind's
abbrev pub place_of : ℕ → Place
place_of n = if nat_lt 2147483647 n then place.Nothing else numbered (n % 10) (n / 10 % 100) (n / 1000)

-- whether the protocol's numbers have room for a depth and a number
abbrev pub has_room : (depth number : ℕ) → Bool
has_room deep number = nat_lt deep 100 && nat_lt number 2147483

-- whether they have room for a depth, a variable's number and a range
abbrev pub has_range_room : (depth number range : ℕ) → Bool
has_range_room deep number range = nat_lt deep 100 && (nat_lt number 1000 && nat_lt range 2147)

-- what a reference can stand for; what there is no room for has none
abbrev pub within : Place → Place
within (place.Variables scope deep) = if has_room deep 0 then place.Variables scope deep else place.Nothing
within (place.Parts scope deep number) = if has_room deep number then place.Parts scope deep number else place.Nothing
within place.File = place.File
within (place.OfFile number) = if has_room 0 number then place.OfFile number else place.Nothing
within (place.Range scope deep number range) = if has_range_room deep number range then place.Range scope deep number range else place.Nothing
within (place.FileRange number range) = if has_range_room 0 number range then place.FileRange number range else place.Nothing
within (place.Expression index) = if nat_lt index 64 then place.Expression index else place.Nothing
within place.Nothing = place.Nothing

-- a range of the elements of the variable whose parts are at a place
abbrev pub range_of : Place → (range : ℕ) → Place
range_of (place.Parts scope deep number) range = place.Range scope deep number range
range_of (place.OfFile number) range = place.FileRange number range
range_of other range = place.Nothing

-- whether a program of this depth has a frame at another one
abbrev pub is_frame : (top depth : ℕ) → Bool
is_frame top deep = nat_lt 0 deep && not (nat_lt top deep)

-- whether what a reference stands for is in a frame that is there, or in none
abbrev pub is_there : (top : ℕ) → Place → Bool
is_there top (place.Variables scope deep) = is_frame top deep
is_there top (place.Parts scope deep number) = is_frame top deep
is_there top (place.Range scope deep number range) = is_frame top deep
is_there top other = true

-- what a reference stands for where the program has this depth
abbrev pub place_now : (top reference : ℕ) → Place
place_now top reference = if is_there top (place_of reference) then place_of reference else place.Nothing

-- whether a variable is set that is one of those of a reference: in a frame that is there, or in the file
abbrev pub is_set_there : (top : ℕ) → Place → Bool
is_set_there top (place.Variables scope deep) = is_frame top deep
is_set_there top (place.Parts scope deep number) = is_frame top deep
is_set_there top place.File = true
is_set_there top (place.OfFile number) = true
is_set_there top (place.Range scope deep number range) = is_frame top deep
is_set_there top (place.FileRange number range) = true
is_set_there top (place.Expression index) = false
is_set_there top place.Nothing = false

-- the depth of the frame in which what a reference stands for is looked up: the top one's where it is in none
abbrev pub depth_in : (top : ℕ) → Place → ℕ
depth_in top (place.Variables scope deep) = deep
depth_in top (place.Parts scope deep number) = deep
depth_in top (place.Range scope deep number range) = deep
depth_in top other = top

-- the index of the expression whose value is at a place
abbrev pub expression_index : Place → Option ℕ
expression_index (place.Expression index) = Some index
expression_index other = None
