-- Values in the digits that people ask for, one behind another, and the values of expressions.
use Rattle.std.specs.Prelude.{ℕ, List, ◌++◌, codes, flat_map, slice_index, if◌then◌else◌}
use Rattle.std.specs.List.{range_with_len}
use Rattle.gang_types.specs.declared.types.IntType.{IntType}
use Rattle.gang_types.specs.declared.types.Rate.{Rate}
use Rattle.gang_types.specs.declared.types.Rate.TheVariants.{Uniform, Varying}
use Rattle.gang_types.specs.Lanes.{Lanes, has, lowest, no_lane}
use Rattle.gang_types.specs.Masks.{lanes_of}
use Rattle.gang_model.specs.Texts.Text.{Bytes}
use Rattle.value_digits.specs.declared.digits.Digits.{Digits}
use Rattle.value_digits.specs.Words.{form_text}
use Rattle.frame_values.specs.declared.values.ExpressionValue.{ExpressionValue}
use Rattle.prompt_texts.specs.Shown.{masked}

-- a blank and a word
abbrev pub shown_text : Digits → IntType → ℕ → Bytes
shown_text given type word = codes " " ++ form_text given type word

-- a blank and a word, for each
abbrev pub values_text : Digits → IntType → List ℕ → Bytes
values_text given type words = flat_map (shown_text given type) words

-- ---- values of expressions

-- a blank, and the word of a lane, or a point where it waits
abbrev pub lane_text : Digits → IntType → Lanes → List ℕ → (lane : ℕ) → Bytes
lane_text given type lanes words lane = codes " " ++ (if has lanes lane then form_text given type (slice_index words lane) else codes ".")

-- the same for each lane of so many, lane 0 first
abbrev pub lanes_text : Digits → IntType → Lanes → List ℕ → (width : ℕ) → Bytes
lanes_text given type lanes words width = flat_map (lane_text given type lanes words) (range_with_len 0 width)

-- of a uniform expression the word of each active lane, once, or a point where all wait
abbrev pub one_text : Digits → IntType → Lanes → List ℕ → Bytes
one_text given type lanes words = if no_lane lanes then codes " ." else lane_text given type lanes words (lowest lanes)

abbrev pub by_rate : Rate → Digits → IntType → Lanes → List ℕ → (width : ℕ) → Bytes
by_rate Uniform given type lanes words width = one_text given type lanes words
by_rate Varying given type lanes words width = lanes_text given type lanes words width

-- the value of an expression
abbrev pub expression_text : Digits → ExpressionValue → Bytes
expression_text given found = by_rate found.rate given found.value_type (lanes_of found.lanes.width found.lanes.lanes) found.lanes.words found.lanes.width

-- a line: an expression as it is typed, and its value
abbrev pub expression_line : Digits → (typed : Bytes) → ExpressionValue → Bytes
expression_line given typed found = masked typed ++ codes " =" ++ expression_text given found ++ codes "\n"
