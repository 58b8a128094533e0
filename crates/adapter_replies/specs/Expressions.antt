-- What an editor is told of the value of an expression.
use Rattle.std.specs.Prelude.{ℕ, zero, suc, Bool, true, false, ◌++◌, List, [], ◌∷◌, codes, decimal, length, nat_lt, slice_index, take, if◌then◌else◌}
use Rattle.std.specs.List.{join_by, range_with_len}
use Rattle.std.specs.Str.Lossy.{utf8_lossy}
use Rattle.gang_types.specs.declared.places.Place.{Place}
use Rattle.gang_types.specs.declared.types.IntType.{IntType}
use Rattle.gang_types.specs.declared.types.Rate.{Rate}
use Rattle.gang_types.specs.declared.types.Rate.TheVariants.{Uniform, Varying}
use Rattle.gang_types.specs.Lanes.{Lanes, has, lowest, no_lane}
use Rattle.gang_types.specs.Masks.{lanes_of}
use Rattle.gang_model.specs.declared.refusals.RefusalNumber.{RefusalNumber}
use Rattle.gang_model.specs.declared.refusals.RefusalNumber.TheVariants as number
use Rattle.gang_model.specs.Texts.Text.{Bytes, fault_text}
use Rattle.placed_expressions.specs.declared.answers.ExpressionRefusal.{ExpressionRefusal}
use Rattle.placed_expressions.specs.declared.answers.ExpressionRefusal.TheVariants as refusal
use Rattle.frame_values.specs.declared.values.ExpressionValue.{ExpressionValue}
use Rattle.frame_values.specs.declared.values.NoValue.{NoValue}
use Rattle.frame_values.specs.declared.values.NoValue.TheVariants as no
use Rattle.adapter_requests.specs.declared.request.Context.{Context}
use Rattle.adapter_requests.specs.declared.request.Context.TheVariants.{Hover}
use Rattle.adapter_replies.specs.declared.forms.Form.{Form}
use Rattle.adapter_replies.specs.Variables.{values}

-- ---- a value

-- the value of a lane, or a point where it waits
abbrev pub lane_text : Form → IntType → Lanes → List ℕ → (lane : ℕ) → Bytes
lane_text form type lanes words lane = if has lanes lane then values form type (slice_index words lane ∷ []) else codes "."

-- the value of each lane of so many, lane 0 first, with blanks between
abbrev pub lanes_text : Form → IntType → Lanes → List ℕ → (width : ℕ) → Bytes
lanes_text form type lanes words width = join_by (lane_text form type lanes words) (codes " ") (range_with_len 0 width)

-- the blank before each lane but the first
abbrev pub gap : (lane : ℕ) → Bytes
gap zero = []
gap (suc n) = codes " "

-- the one value that each active lane has, or a point where all wait
abbrev pub one_text : Form → IntType → Lanes → List ℕ → Bytes
one_text form type lanes words = if no_lane lanes then codes "." else lane_text form type lanes words (lowest lanes)

abbrev pub text_by_rate : Rate → Form → IntType → Lanes → List ℕ → (width : ℕ) → Bytes
text_by_rate Uniform form type lanes words width = one_text form type lanes words
text_by_rate Varying form type lanes words width = lanes_text form type lanes words width

-- the value of an expression
abbrev pub expression_text : Form → ExpressionValue → Bytes
expression_text form found = text_by_rate found.rate form found.value_type (lanes_of found.lanes.width found.lanes.lanes) found.lanes.words found.lanes.width

-- a text that is longer than 200 bytes without the rest, for which three points stand
abbrev pub cut : Bytes → Bytes
cut text = if nat_lt 200 (length text) then utf8_lossy (take 200 text) ++ codes "..." else text

-- the text of a value where an expression stands: under the mouse it is cut
abbrev pub shown_in : Context → Bytes → Bytes
shown_in Hover text = cut text
shown_in other text = text

-- ---- no value

abbrev pub refusal_name : RefusalNumber → Bytes
refusal_name number.S1 = codes "S1 BadByte"
refusal_name number.S2 = codes "S2 BadNumber"
refusal_name number.S3 = codes "S3 Unexpected"
refusal_name number.S4 = codes "S4 TooDeep"
refusal_name number.S5 = codes "S5 UnknownName"
refusal_name number.S6 = codes "S6 Duplicate"
refusal_name number.S7 = codes "S7 Rate"
refusal_name number.S8 = codes "S8 Type"
refusal_name number.S9 = codes "S9 NoOverload"
refusal_name number.S10 = codes "S10 Ambiguous"
refusal_name number.S11 = codes "S11 BadControl"
refusal_name number.S12 = codes "S12 NestedCall"
refusal_name number.S13 = codes "S13 Limit"

-- what a refusal says of an expression
abbrev pub refusal_meaning : RefusalNumber → Bytes
refusal_meaning number.S1 = codes "nothing in an expression begins with this byte"
refusal_meaning number.S2 = codes "this is no number, or too large a one"
refusal_meaning number.S3 = codes "an expression does not go on so"
refusal_meaning number.S4 = codes "an expression has at most 64 nestings"
refusal_meaning number.S5 = codes "no variable of this name is in scope in this frame or of the file"
refusal_meaning number.S7 = codes "a varying value stands where a uniform one is wanted"
refusal_meaning number.S8 = codes "the type does not fit: an array has no value without an index, and a bool is no number"
refusal_meaning number.S9 = codes "no function of the library with this name takes these values and gives one"
refusal_meaning other = codes "the expression is too long"

-- NAME, column COLUMN: MEANING
abbrev pub refusal_text : RefusalNumber → Place → (meaning : Bytes) → Bytes
refusal_text number place meaning = refusal_name number ++ (codes ", column " ++ (decimal place.col ++ (codes ": " ++ meaning)))

-- why a text has no meaning where a frame stands
abbrev pub refused_text : ExpressionRefusal → Bytes
refused_text refusal.Memory = codes "out of memory"
refused_text (refusal.NoTokens r) = refusal_text r.number r.place (refusal_meaning r.number)
refused_text (refusal.NoExpression r) = refusal_text r.number r.place (refusal_meaning r.number)
refused_text (refusal.NoValue r) = refusal_text r.number r.place (refusal_meaning r.number)
refused_text (refusal.CallsFunction place) = refusal_text number.S9 place (codes "a function of the program is not called here")

-- why a text has no value where a frame stands
abbrev pub no_value_text : NoValue → Bytes
no_value_text no.NoFrame = codes "the program has ended, and no frame has values"
no_value_text (no.Refused why) = refused_text why
no_value_text (no.Fault fault) = fault_text fault.name ++ codes " in lane " ++ decimal fault.lane ++ codes ": the expression has no value"

-- whether it has none since there is no memory
abbrev pub is_memory : NoValue → Bool
is_memory (no.Refused refusal.Memory) = true
is_memory other = false
