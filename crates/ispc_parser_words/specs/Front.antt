-- What stands at the front of the tokens, and how reading it ends.
use Rattle.std.specs.Prelude.{◌≡◌, Bool, false, List, [], ◌∷◌, Option, Some, None, Result, Ok, Err, if◌then◌else◌}
use denote.Enum.Bare.{sameb}
use Rattle.gang_types.specs.declared.places.Place.{Place}
use Rattle.gang_model.specs.declared.marks.Mark.{Mark}
use Rattle.gang_model.specs.contracts.marks.Mark.{the_type}
use Rattle.gang_model.specs.Source.Tokens.{Sort, marked, Lexeme}
use Rattle.gang_model.specs.declared.refusals.RefusalNumber.{RefusalNumber}
use Rattle.gang_model.specs.declared.refusals.RefusalNumber.TheVariants as numbers
use Rattle.source_answers.specs.declared.fault.SourceFault.{SourceFault}
use Rattle.source_answers.specs.declared.fault.SourceFault.TheVariants as faults

-- the numbers of a parser's refusals
abbrev pub IsParserNumber : RefusalNumber → Type 0
IsParserNumber numbers.S3 = Unit {0}
IsParserNumber numbers.S4 = Unit {0}
IsParserNumber numbers.S13 = Unit {0}
IsParserNumber _ = ⊥

-- What a function returned, seen by view, is what reading gives, unless memory ran out.
abbrev pub Fails : {Y : Type 0} → SourceFault → Option Y → Type 0
Fails faults.Memory read = Unit {0}
Fails (faults.Refused r) read = (read ≡ None) × IsParserNumber r.number

abbrev pub Gives : {X Y : Type 0} → (X → Y) → Result X SourceFault → Option Y → Type 0
Gives view (Ok x) read = read ≡ Some (view x)
Gives view (Err e) read = Fails e read

-- ---- tokens

abbrev pub is_mark : Mark → Sort → Bool
is_mark m (marked k) = sameb the_type k m
is_mark m _ = false

abbrev pub begins : Mark → List Lexeme → Bool
begins m [] = false
begins m (t ∷ ts) = is_mark m t.sort

-- the tokens after this mark
unfoldable pub take : Mark → List Lexeme → Option (List Lexeme)
take m [] = None
take m (t ∷ ts) = if is_mark m t.sort then Some ts else None

abbrev pub mark_of : Sort → Option Mark
mark_of (marked m) = Some m
mark_of _ = None

-- ---- refusals

abbrev pub first_place : List Lexeme → Place → Place
first_place [] end = end
first_place (t ∷ ts) end = t.place

-- S3 at the first of the tokens, or at the end
abbrev pub unexpected_at : List Lexeme → Place → SourceFault
unexpected_at ts end = faults.Refused (record { number = numbers.S3; place = first_place ts end })
