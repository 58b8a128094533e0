-- The tokens of a source, by cases.
use Rattle.std.specs.Prelude.{◌≡◌, ◌≢◌, ℕ, ◌+◌, ◌≤◌, Bool, true, false, ◌==◌, List, [], ◌∷◌, ◌++◌, length, IsTrue, if◌then◌else◌, codes}
use Rattle.std.specs.List.{list_all}
use Rattle.gang_types.specs.declared.places.Place.{Place}
use Rattle.gang_model.specs.declared.marks.Mark.{Mark}
use Rattle.gang_model.specs.declared.refusals.RefusalNumber.{RefusalNumber}
use Rattle.gang_model.specs.declared.refusals.RefusalNumber.TheVariants.{S1, S2}
use Rattle.gang_model.specs.Source.Tokens.{Sort, named, numbered, marked, Lexeme}
use Rattle.gang_model.specs.Source.Spelling.{text_of, is_blank, is_digit, is_word, IsNumber}

-- in bytes
abbrev pub max_source : ℕ
max_source = 65536

-- ---- what is spelled

abbrev pub begins_word : List ℕ → Bool
begins_word [] = false
begins_word (b ∷ bs) = is_word b

-- the line ends here, at LF or with the source
abbrev pub ends_line : List ℕ → Bool
ends_line [] = true
ends_line (b ∷ bs) = b == 10

-- a run of letters, digits and _ as a token: a number, if it begins with a digit, or a reserved word, or else a name
abbrev pub IsWordOf : Sort → List ℕ → Type 0
IsWordOf s [] = ⊥
IsWordOf (numbered n is_unsigned is_long) (b ∷ bs) = IsTrue (is_digit b) × IsNumber (b ∷ bs) n is_unsigned is_long
IsWordOf (marked m) (b ∷ bs) = (is_digit b ≡ false) × (text_of m ≡ b ∷ bs)
IsWordOf (named text) (b ∷ bs) = (is_digit b ≡ false) × (text ≡ b ∷ bs) × ((m : Mark) → text_of m ≢ b ∷ bs)

-- the bytes have no LF
abbrev pub is_in_line : List ℕ → Bool
is_in_line bs = list_all (λ b. if b == 10 then false else true) bs

-- the bytes have no */
abbrev pub NoClose : List ℕ → Type 0
NoClose [] = Unit {0}
NoClose (b ∷ bs) = ((more : List ℕ) → b ∷ bs ≡ codes "*/" ++ more → ⊥) × NoClose bs

-- a source is a row of these
pub data Piece : Type 0 where
  blank : ℕ → Piece
  line_comment : (body : List ℕ) → Piece
  block_comment : (body : List ℕ) → Piece
  word : Sort → (text : List ℕ) → Piece
  mark : Mark → Piece

abbrev pub spelling : Piece → List ℕ
spelling (blank b) = b ∷ []
spelling (line_comment body) = codes "//" ++ body
spelling (block_comment body) = codes "/*" ++ (body ++ codes "*/")
spelling (word s text) = text
spelling (mark m) = text_of m

-- no comment begins here
abbrev pub NoComment : List ℕ → Type 0
NoComment bs = (more : List ℕ) → (bs ≡ codes "//" ++ more → ⊥) × (bs ≡ codes "/*" ++ more → ⊥)

-- the longest mark, which is no word
pub record IsLongest (m : Mark) (after : List ℕ) : Type 0 where
  pub no_word : begins_word (text_of m) ≡ false
  pub no_comment : NoComment (text_of m ++ after)
  pub longest : (other : Mark) (rest : List ℕ) → begins_word (text_of other) ≡ false → text_of m ++ after ≡ text_of other ++ rest → length (text_of other) ≤ length (text_of m)

-- the piece may stand before these bytes
abbrev pub Fits : Piece → List ℕ → Type 0
Fits (blank b) after = IsTrue (is_blank b)
Fits (line_comment body) after = (is_in_line body ≡ true) × (ends_line after ≡ true)
Fits (block_comment body) after = NoClose body
Fits (word s text) after = (list_all is_word text ≡ true) × (begins_word after ≡ false) × IsWordOf s text
Fits (mark m) after = IsLongest m after

-- the bytes are these pieces, and then the rest
abbrev pub Reads : List Piece → List ℕ → List ℕ → Type 0
Reads [] bs rest = bs ≡ rest
Reads (x ∷ xs) bs rest = (mid : List ℕ) × (bs ≡ spelling x ++ mid) × Fits x mid × Reads xs mid rest

-- ---- places: lines and columns from 1, columns in bytes

abbrev pub first_place : Place
first_place = record { line = 1; col = 1 }

abbrev pub next_place : Place → ℕ → Place
next_place p b = if b == 10 then record { line = p.line + 1; col = 1 } else record { line = p.line; col = p.col + 1 }

abbrev pub place_after : Place → List ℕ → Place
place_after p [] = p
place_after p (b ∷ bs) = place_after (next_place p b) bs

abbrev pub place_of_end : Place → List Piece → Place
place_of_end p [] = p
place_of_end p (x ∷ xs) = place_of_end (place_after p (spelling x)) xs

-- blanks and comments are no tokens
abbrev pub with_lexeme : Piece → ℕ → Place → List Lexeme → List Lexeme
with_lexeme (word s text) at p more = record { sort = s; start = at; end = at + length text; place = p } ∷ more
with_lexeme (mark m) at p more = record { sort = marked m; start = at; end = at + length (text_of m); place = p } ∷ more
with_lexeme _ at p more = more

abbrev pub lexemes : ℕ → Place → List Piece → List Lexeme
lexemes at p [] = []
lexemes at p (x ∷ xs) = with_lexeme x at p (lexemes (at + length (spelling x)) (place_after p (spelling x)) xs)

-- ---- a whole source

-- the tokens of the source
abbrev pub Lexes : List ℕ → List Lexeme → Type 0
Lexes source tokens = (pieces : List Piece) × Reads pieces source [] × (lexemes 0 first_place pieces ≡ tokens)

-- bytes are left, and no piece stands here
abbrev pub IsStuck : List ℕ → Type 0
IsStuck [] = ⊥
IsStuck (b ∷ bs) = (x : Piece) (mid : List ℕ) → b ∷ bs ≡ spelling x ++ mid → Fits x mid → ⊥

-- a number that is none is S2, all else is S1
abbrev pub fault_at : List ℕ → RefusalNumber
fault_at [] = S1
fault_at (b ∷ bs) = if is_digit b then S2 else S1

-- the first place where no piece stands
abbrev pub IsFirstFault : List ℕ → RefusalNumber → Place → Type 0
IsFirstFault source n p = (pieces : List Piece) × (rest : List ℕ) × Reads pieces source rest × IsStuck rest × (n ≡ fault_at rest) × (p ≡ place_of_end first_place pieces)
