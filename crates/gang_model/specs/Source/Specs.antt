-- What the words before a declared name say, and those of a cast.
use Rattle.std.specs.Prelude.{Bool, true, false, ◌&&◌, ◌||◌, not, List, [], ◌∷◌, Option, Some, None, if◌then◌else◌, option_and_then}
use denote.Enum.Bare.{sameb}
use Rattle.gang_types.specs.declared.types.IntType.{IntType}
use Rattle.gang_types.specs.declared.types.IntType.TheVariants as ty
use Rattle.gang_types.specs.declared.types.Rate.{Rate}
use Rattle.gang_types.specs.declared.types.Rate.TheVariants as rate
use Rattle.gang_model.specs.declared.marks.Mark.{Mark}
use Rattle.gang_model.specs.declared.marks.Mark.TheVariants as mark
use Rattle.gang_model.specs.declared.forms.Spec.{Spec}
use Rattle.gang_model.specs.contracts.marks.Mark.{the_type}

-- the word stands among these
abbrev pub has : Mark → List Mark → Bool
has m [] = false
has m (w ∷ ws) = sameb the_type w m || has m ws

abbrev pub is_type_word : Mark → Bool
is_type_word mark.Unsigned = true
is_type_word mark.Void = true
is_type_word mark.Bool = true
is_type_word mark.Int = true
is_type_word mark.Int8 = true
is_type_word mark.Int16 = true
is_type_word mark.Int32 = true
is_type_word mark.Int64 = true
is_type_word mark.Uint = true
is_type_word mark.Uint8 = true
is_type_word mark.Uint16 = true
is_type_word mark.Uint32 = true
is_type_word mark.Uint64 = true
is_type_word _ = false

abbrev pub is_spec_word : Mark → Bool
is_spec_word mark.Export = true
is_spec_word mark.Static = true
is_spec_word mark.Inline = true
is_spec_word mark.Const = true
is_spec_word mark.Uniform = true
is_spec_word mark.Varying = true
is_spec_word m = is_type_word m

-- each is such a word, and none stands twice
abbrev pub are_spec_words : List Mark → Bool
are_spec_words [] = true
are_spec_words (w ∷ ws) = is_spec_word w && not (has w ws) && are_spec_words ws

-- at most one rate
abbrev pub rate_of : List Mark → Option (Option Rate)
rate_of ws =
    if has mark.Uniform ws
    then (if has mark.Varying ws then None else Some (Some rate.Uniform))
    else Some (if has mark.Varying ws then Some rate.Varying else None)

-- the type that a word names, none being `void`
abbrev pub type_named : Mark → Option (Option IntType)
type_named mark.Void = Some None
type_named mark.Bool = Some (Some ty.Bool)
type_named mark.Int = Some (Some ty.Int32)
type_named mark.Int8 = Some (Some ty.Int8)
type_named mark.Int16 = Some (Some ty.Int16)
type_named mark.Int32 = Some (Some ty.Int32)
type_named mark.Int64 = Some (Some ty.Int64)
type_named mark.Uint = Some (Some ty.Uint32)
type_named mark.Uint8 = Some (Some ty.Uint8)
type_named mark.Uint16 = Some (Some ty.Uint16)
type_named mark.Uint32 = Some (Some ty.Uint32)
type_named mark.Uint64 = Some (Some ty.Uint64)
type_named _ = None

-- the type that a word names beside `unsigned`
abbrev pub unsigned_named : Mark → Option (Option IntType)
unsigned_named mark.Int = Some (Some ty.Uint32)
unsigned_named mark.Int8 = Some (Some ty.Uint8)
unsigned_named mark.Int16 = Some (Some ty.Uint16)
unsigned_named mark.Int32 = Some (Some ty.Uint32)
unsigned_named mark.Int64 = Some (Some ty.Uint64)
unsigned_named _ = None

-- the words that name a type, but for `unsigned`
abbrev pub type_words : List Mark → List Mark
type_words [] = []
type_words (w ∷ ws) = if is_type_word w && not (sameb the_type w mark.Unsigned) then w ∷ type_words ws else type_words ws

-- the one type: a word that names it, `unsigned` with such a word, or `unsigned` alone
abbrev pub type_from : (is_unsigned : Bool) → List Mark → Option (Option IntType)
type_from false (w ∷ []) = type_named w
type_from true (w ∷ []) = unsigned_named w
type_from true [] = Some (Some ty.Uint32)
type_from _ _ = None

abbrev pub type_of : List Mark → Option (Option IntType)
type_of ws = type_from (has mark.Unsigned ws) (type_words ws)

-- where there is at most one rate, and just one type
abbrev pub spec_with : (is_exported is_static is_inline is_constant : Bool) → Option (Option Rate) → Option (Option IntType) → Option Spec
spec_with e s i c (Some r) (Some t) = Some (record {
  is_exported = e;
  is_static = s;
  is_inline = i;
  is_constant = c;
  rate = r;
  value_type = t;
})
spec_with e s i c _ _ = None

-- what the words mean, in whatever order they stand
unfoldable pub spec_of : List Mark → Option Spec
spec_of ws =
    if are_spec_words ws
    then spec_with (has mark.Export ws) (has mark.Static ws) (has mark.Inline ws) (has mark.Const ws) (rate_of ws) (type_of ws)
    else None

-- a cast has a rate and a type only
abbrev pub cast_part : Spec → Option (Option Rate × Option IntType)
cast_part s = if s.is_exported || s.is_static || s.is_inline || s.is_constant then None else Some (s.rate, s.value_type)

abbrev pub cast_spec_of : List Mark → Option (Option Rate × Option IntType)
cast_spec_of ws = option_and_then cast_part (spec_of ws)
