-- The variables that an editor is told.
use Rattle.std.specs.Prelude.{ℕ, suc, Bool, true, false, ◌+◌, ◌-◌, ◌*◌, ◌/◌, not, ◌&&◌, ◌||◌, List, [], ◌∷◌, ◌++◌, codes, decimal, length, map, min, nat_le, nat_lt, slice_get, string_bytes, take, Option, Some, None, if◌then◌else◌}
use Rattle.std.specs.List.{join_by, range_with_len}
use Rattle.std.specs.Str.Lossy.{utf8_lossy}
use Rattle.gang_types.specs.Lanes.{Lanes}
use Rattle.gang_types.specs.declared.types.IntType.{IntType}
use Rattle.gang_types.specs.declared.types.IntType.TheVariants as t
use Rattle.gang_types.specs.declared.types.Rate.{Rate}
use Rattle.gang_types.specs.declared.types.Rate.TheVariants as rate
use Rattle.gang_model.specs.Types.Tree as model
use Rattle.gang_model.specs.Running.State.{same_id}
use Rattle.gang_model.specs.Debugger.Debugger.{Debugger, Setting, depth, now, part_shown, shown_words}
use Rattle.gang_model.specs.Texts.Text.{Bytes, index_text}
use Rattle.debug_traits.specs.declared.machine.NamedVariable.{NamedVariable}
use Rattle.debug_traits.specs.Frames.{ShowsNamedAt, found_at, listed_at, listed_parameters_at, state_at}
use Rattle.debug_traits.specs.Machines.{file_variables}
use Rattle.value_digits.specs.declared.digits.Digits.{Digits}
use Rattle.value_digits.specs.Words.{form_text}
use Rattle.adapter_requests.specs.declared.reply.Variable.{Variable}
use Rattle.adapter_requests.specs.declared.reply.VariableKind.{VariableKind}
use Rattle.adapter_requests.specs.declared.reply.VariableKind.TheVariants as kind
use Rattle.adapter_requests.specs.declared.request.Page.{Page}
use Rattle.adapter_replies.specs.declared.places.Place.{Place}
use Rattle.adapter_replies.specs.declared.places.Place.TheVariants as place
use Rattle.adapter_replies.specs.declared.places.Scope.{Scope}
use Rattle.adapter_replies.specs.declared.places.Scope.TheVariants.{Locals, Arguments}
use Rattle.adapter_replies.specs.declared.forms.Form.{Form}
use Rattle.adapter_replies.specs.Forms.{digits_for}
use Rattle.adapter_replies.specs.Pages.{asks_places, indexed_children, named_children, paged}
use Rattle.adapter_replies.specs.References.{place_now, place_of, range_of, within}
use Rattle.adapter_replies.specs.Waiting.{shown_lanes, waits}

-- a variable, a lane, an element or a range: its name, the text of its values and that of its type, what it is, whether it is a constant, whether it is only
-- looked at, and what its reference stands for
pub record ToldVariable : Type 0 where
  pub name : Bytes
  pub value : Bytes
  pub type : Bytes
  pub kind : VariableKind
  pub is_constant : Bool
  pub is_read_only : Bool
  pub parts : Place

-- a variable of a reply
abbrev pub variable_view : Variable → ToldVariable
variable_view v = record { name = string_bytes v.name; value = string_bytes v.value; type = string_bytes v.type_name; kind = v.kind; is_constant = v.is_constant; is_read_only = v.is_read_only; parts = place_of v.reference }

-- ---- texts

-- the name of a type
abbrev pub type_name : IntType → Bytes
type_name t.Bool = codes "bool"
type_name t.Int8 = codes "int8"
type_name t.Int16 = codes "int16"
type_name t.Int32 = codes "int32"
type_name t.Int64 = codes "int64"
type_name t.Uint8 = codes "uint8"
type_name t.Uint16 = codes "uint16"
type_name t.Uint32 = codes "uint32"
type_name t.Uint64 = codes "uint64"

abbrev pub rate_name : Rate → Bytes
rate_name rate.Uniform = codes "uniform"
rate_name rate.Varying = codes "varying"

-- RATE TYPE, of an array RATE TYPE[COUNT]
abbrev pub type_text : Rate → IntType → (is_array : Bool) → (count : ℕ) → Bytes
type_text rate type true count = rate_name rate ++ codes " " ++ type_name type ++ codes "[" ++ decimal count ++ codes "]"
type_text rate type false count = rate_name rate ++ codes " " ++ type_name type

-- a blank and a word in digits
abbrev pub behind_blank : Digits → IntType → ℕ → Bytes
behind_blank digits type word = codes " " ++ form_text digits type word

-- the values of words, with blanks between
abbrev pub values : Form → IntType → List ℕ → Bytes
values form type words = join_by (form_text (digits_for form type) type) (codes " ") words

-- the values of a scalar, or how many elements an array has
abbrev pub whole_text : Form → IntType → (is_array : Bool) → List ℕ → Bytes
whole_text form type true words = decimal (length words) ++ codes " elements"
whole_text form type false words = values form type words

-- ---- variables

abbrev pub is_varying : Rate → Bool
is_varying rate.Uniform = false
is_varying rate.Varying = true

-- whether a variable has lanes or elements
abbrev pub has_parts : model.Variable → Bool
has_parts v = v.is_array || is_varying v.rate

-- a scalar, or an array of so many elements
abbrev pub whole_kind : (is_array : Bool) → (count : ℕ) → VariableKind
whole_kind true count = kind.Array count
whole_kind false count = kind.Plain

-- a variable with its words, whose lanes or elements are at a place
abbrev pub told_whole : Form → model.Variable → List ℕ → Place → ToldVariable
told_whole form v words parts = record {
  name = utf8_lossy v.name;
  value = whole_text form v.type v.is_array words;
  type = type_text v.rate v.type v.is_array (length words);
  kind = whole_kind v.is_array (length words);
  is_constant = v.is_constant;
  is_read_only = false;
  parts = if has_parts v then parts else place.Nothing;
}

-- whether the part of a variable at an index is a lane that waits; elements of arrays are none
abbrev pub waits_at : Lanes → (is_array : Bool) → ℕ → Bool
waits_at lanes is_array index = not is_array && waits lanes index

-- a part of a variable that waits, or not
abbrev pub part_kind : (waits : Bool) → VariableKind
part_kind true = kind.Waits
part_kind false = kind.Plain

-- the lane or the element at an index, where these lanes are active
abbrev pub told_part : Form → Lanes → model.Variable → List ℕ → ℕ → ToldVariable
told_part form lanes v words index = record {
  name = utf8_lossy v.name ++ index_text (Some index);
  value = values form v.type (part_shown (Some index) words);
  type = type_name v.type;
  kind = part_kind (waits_at lanes v.is_array index);
  is_constant = v.is_constant;
  is_read_only = false;
  parts = place.Nothing;
}

-- so many lanes or elements from one on, as a page asks for them
abbrev pub told_between : Form → Page → Lanes → model.Variable → List ℕ → (first count : ℕ) → List ToldVariable
told_between form page lanes v words first count = map (told_part form lanes v words) (paged page (range_with_len first count))

-- how many elements a range of an array of so many has: 1,000, but the last range what is left
abbrev pub range_count : (count range : ℕ) → ℕ
range_count count range = min 1000 (count - range * 1000)

-- a range of an array: NAME[FIRST..LAST], whose elements are at a place
abbrev pub told_range : model.Variable → (count : ℕ) → Place → (range : ℕ) → ToldVariable
told_range v count at range = record {
  name = utf8_lossy v.name ++ (codes "[" ++ (decimal (range * 1000) ++ (codes ".." ++ (decimal (range * 1000 + range_count count range - 1) ++ codes "]"))));
  value = decimal (range_count count range) ++ codes " elements";
  type = type_name v.type;
  kind = kind.Range;
  is_constant = v.is_constant;
  is_read_only = false;
  parts = within (range_of at range);
}

-- how many ranges of 1,000 so many elements are
abbrev pub ranges_in : (count : ℕ) → ℕ
ranges_in count = (count + 999) / 1000

-- the ranges of an array whose parts are at a place
abbrev pub told_ranges : model.Variable → (count : ℕ) → Place → List ToldVariable
told_ranges v count at = map (told_range v count at) (range_with_len 0 (ranges_in count))

-- The lanes or elements of a variable whose parts are at a place, as a page asks for them; ranges of them where there are more than 1,000 and no place is
-- asked for. A uniform scalar has none.
abbrev pub told_all : Form → Page → Lanes → Place → model.Variable → List ℕ → List ToldVariable
told_all form page lanes at v words =
    if not (has_parts v) then []
    else (if asks_places page || nat_le (length words) 1000 then told_between form page lanes v words 0 (length words) else told_ranges v (length words) at)

-- these, unless a page asks for variables alone
abbrev pub told_parts : Form → Page → Lanes → Place → model.Variable → List ℕ → List ToldVariable
told_parts form page lanes at v words = indexed_children page.filter (told_all form page lanes at v words)

-- whether a variable of so many elements has this range
abbrev pub has_range : (is_array : Bool) → (count range : ℕ) → Bool
has_range is_array count range = is_array && (nat_lt 1000 count && nat_lt (range * 1000) count)

-- the elements of a range, as a page asks for them
abbrev pub told_of_range : Form → Page → Lanes → (range : ℕ) → model.Variable → List ℕ → List ToldVariable
told_of_range form page lanes range v words =
    indexed_children page.filter (told_between form page lanes v words (range * 1000) (range_count (length words) range))

-- ---- the variables of a frame

-- the words of a variable in the frame at a depth
abbrev pub words_at : Setting → Debugger → (depth : ℕ) → model.Variable → List ℕ
words_at s d deep v = shown_words (state_at deep (now s d)) v

-- whether a variable is the one that its name finds
abbrev pub is_it : Option model.Variable → model.Variable → Bool
is_it None v = false
is_it (Some other) v = same_id other.id v.id

-- whether the name of a variable finds it in the frame at a depth
abbrev pub is_found : Setting → Debugger → (depth : ℕ) → model.Variable → Bool
is_found s d deep v = is_it (found_at s.program deep (now s d) v.name) v

-- a variable whose lanes or elements are at a place, if its name finds it in the frame at a depth
abbrev pub told_one : Form → Setting → Debugger → (depth : ℕ) → Place → model.Variable → List ToldVariable
told_one form s d deep parts v = if is_found s d deep v then told_whole form v (words_at s d deep v) parts ∷ [] else []

-- those of some variables that their names find in the frame at a depth; the lanes or elements of each are at the place of its number
abbrev pub told_each : Form → Setting → Debugger → (depth : ℕ) → (place : ℕ → Place) → (number : ℕ) → List model.Variable → List ToldVariable
told_each form s d deep at number [] = []
told_each form s d deep at number (v ∷ variables) = told_one form s d deep (within (at number)) v ++ told_each form s d deep at (suc number) variables

-- the lanes that the frame at a depth shows
abbrev pub lanes_at : Setting → Debugger → (depth : ℕ) → Lanes
lanes_at s d deep = shown_lanes (now s d) deep

-- the lanes or elements of a variable in the frame at a depth, if there is such a variable
abbrev pub told_option : Form → Page → Setting → Debugger → (depth : ℕ) → Place → Option model.Variable → Option (List ToldVariable)
told_option form page s d deep at None = None
told_option form page s d deep at (Some v) = Some (told_parts form page (lanes_at s d deep) at v (words_at s d deep v))

-- a range of the elements of a variable in the frame at a depth, if there is such a variable and it has the range
abbrev pub told_range_option : Form → Page → Setting → Debugger → (depth range : ℕ) → Option model.Variable → Option (List ToldVariable)
told_range_option form page s d deep range None = None
told_range_option form page s d deep range (Some v) =
    if has_range v.is_array (length (words_at s d deep v)) range then Some (told_of_range form page (lanes_at s d deep) range v (words_at s d deep v)) else None

-- those of a scope, as a page asks for them
abbrev pub told_scope : Page → List ToldVariable → List ToldVariable
told_scope page told = named_children page.filter (paged page told)

-- one of two
abbrev pub of_scope : {A : Type 0} → Scope → (locals arguments : A) → A
of_scope Locals locals arguments = locals
of_scope Arguments locals arguments = arguments

-- the local variables in scope in the frame at a depth, or its parameters
abbrev pub scope_list : Setting → Debugger → Scope → (depth : ℕ) → List model.Variable
scope_list s d scope deep = of_scope scope (listed_at s d deep) (listed_parameters_at s d deep)

-- what is told of a place; the variables of the file are those that the top frame finds, and which expression is meant at an index is not known here
abbrev pub told_of : Form → Page → Setting → Debugger → Place → Option (List ToldVariable)
told_of form page s d (place.Variables scope deep) = Some (told_scope page (told_each form s d deep (place.Parts scope deep) 0 (scope_list s d scope deep)))
told_of form page s d (place.Parts scope deep number) = told_option form page s d deep (place.Parts scope deep number) (slice_get (scope_list s d scope deep) number)
told_of form page s d (place.Range scope deep number range) = told_range_option form page s d deep range (slice_get (scope_list s d scope deep) number)
told_of form page s d place.File = Some (told_scope page (told_each form s d (depth (now s d)) place.OfFile 0 (take 1000 (file_variables s))))
told_of form page s d (place.OfFile number) = told_option form page s d (depth (now s d)) (place.OfFile number) (slice_get (file_variables s) number)
told_of form page s d (place.FileRange number range) = told_range_option form page s d (depth (now s d)) range (slice_get (file_variables s) number)
told_of form page s d (place.Expression index) = None
told_of form page s d place.Nothing = None

-- what is told of a reference; nothing of one that names a frame which is not there
abbrev pub told_now : Form → Page → Setting → Debugger → (reference : ℕ) → Option (List ToldVariable)
told_now form page s d reference = told_of form page s d (place_now (depth (now s d)) reference)

-- a variable is told by its name with what can be shown of it in the frame at a depth, or there is none
abbrev pub ShowsOptionAt : Setting → Debugger → (depth : ℕ) → Option model.Variable → Option NamedVariable → Type 0
ShowsOptionAt s d deep None None = Unit {0}
ShowsOptionAt s d deep (Some v) (Some given) = ShowsNamedAt s d deep v given
ShowsOptionAt s d deep v given = ⊥
