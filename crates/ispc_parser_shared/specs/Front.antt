-- What stands at the front of the tokens, by descent: marks, names and what stands round a part.
use Rattle.std.specs.Prelude.{ℕ, zero, suc, Bool, List, [], ◌∷◌, Option, Some, None, if◌then◌else◌}
use Rattle.gang_types.specs.declared.places.Place.{Place}
use Rattle.gang_model.specs.declared.marks.Mark.{Mark}
use Rattle.gang_model.specs.declared.marks.Mark.TheVariants as mark
use Rattle.gang_model.specs.Source.Tokens.{Sort, named, numbered, Lexeme}
use Rattle.gang_model.specs.Source.Parsed.{Name}
use Rattle.ispc_lexer.specs.Options.{◌>>=◌, if_some}
use Rattle.ispc_lexer.specs.declared.token.Number.{Number}
use Rattle.ispc_parser_words.specs.Front.{take, is_mark}
use Rattle.ispc_parser_shared.specs.declared.front.Identifier.{Identifier}

abbrev pub Reader : Type 0 → Type 0
Reader A = List Lexeme → Option (A × List Lexeme)

-- ---- tokens

-- one nesting more
abbrev pub deeper : ℕ → Option ℕ
deeper zero = None
deeper (suc d) = Some d

-- a mark that opens a nesting, and how many are left inside
unfoldable pub enter : Mark → ℕ → Reader ℕ
enter m d ts = take m ts >>= λ rest. deeper d >>= λ inner. Some (inner, rest)

-- a mark, and its place
unfoldable pub take_at : Mark → Reader Place
take_at m [] = None
take_at m (t ∷ ts) = if is_mark m t.sort then Some (t.place, ts) else None

abbrev pub name_in : Sort → Option Name
name_in (named n) = Some n
name_in _ = None

unfoldable pub name_of : Reader (Place × Name)
name_of [] = None
name_of (t ∷ ts) = name_in t.sort >>= λ n. Some ((t.place, n), ts)

-- a number with its suffix
pub record Digits : Type 0 where
  pub value : ℕ
  pub is_unsigned : Bool
  pub is_long : Bool

abbrev pub digits_in : Sort → Option Digits
digits_in (numbered n u l) = Some (record { value = n; is_unsigned = u; is_long = l })
digits_in _ = None

unfoldable pub number_of : Reader Digits
number_of [] = None
number_of (t ∷ ts) = digits_in t.sort >>= λ n. Some (n, ts)

abbrev pub name_view : Identifier → Place × Name
name_view n = (n.place, n.text.items)

abbrev pub digits_view : Number → Digits
digits_view n = record { value = n.value; is_unsigned = n.is_unsigned; is_long = n.is_long }

-- ---- what stands round a part

-- ( .. )
unfoldable pub in_parens : {A : Type 0} → (ℕ → Reader A) → ℕ → Reader A
in_parens one d ts = enter mark.LeftParen d ts >>= λ o. one o.0 o.1 >>= λ x. take mark.RightParen x.1 >>= λ rest. Some (x.0, rest)

-- a value for which nothing more is read
abbrev pub just : {A : Type 0} → A → Reader A
just x ts = Some (x, ts)

-- a value, where this mark stands
abbrev pub closed_by : {A : Type 0} → Mark → A → Reader A
closed_by m x ts = take m ts >>= λ rest. Some (x, rest)

-- a part and the `;` behind it
unfoldable pub ended_of : {A : Type 0} → Reader A → Reader A
ended_of one ts = one ts >>= λ x. take mark.Semicolon x.1 >>= λ rest. Some (x.0, rest)

-- one to n, with commas between them
unfoldable pub list_of : {A : Type 0} → Reader A → ℕ → Reader (List A)
list_of one zero ts = None
list_of one (suc n) ts = one ts >>= λ x. if_some (take mark.Comma x.1)
    (λ a. list_of one n a >>= λ xs. Some (x.0 ∷ xs.0, xs.1))
    (Some (x.0 ∷ [], x.1))
