-- The piece at the front, from the left to the right.
use Rattle.std.specs.Prelude.{ℕ, ◌+◌, ◌-◌, Bool, true, false, ◌==◌, nat_eq, List, [], ◌∷◌, length, take, drop, Option, Some, None, if◌then◌else◌, codes}
use Rattle.std.specs.List.{prefix_len, starts_with, find}
use lib.Pointwise.{pointwise}
use Rattle.gang_model.specs.declared.marks.Mark.{Mark}
use Rattle.gang_model.specs.Source.Tokens.{Sort, named, marked}
use Rattle.gang_model.specs.Source.Spelling.{text_of, is_blank, is_digit, is_word}
use Rattle.gang_model.specs.Source.Lexes.{Piece, blank, line_comment, block_comment, word, mark}
use Rattle.ispc_lexer.specs.declared.marks.TheConstants.{RESERVED, PUNCTUATION}
use Rattle.ispc_lexer.specs.Options.{if_some, ◌>>=◌}
use Rattle.ispc_lexer.specs.Numbers.{number_of}

unfoldable pub begins_close : List ℕ → Bool
begins_close bs = starts_with nat_eq bs (codes "*/")

abbrev pub one_more : Option ℕ → Option ℕ
one_more None = None
one_more (Some n) = Some (n + 1)

-- how many bytes a comment has behind its /*
unfoldable pub closed_at : List ℕ → Option ℕ
closed_at [] = None
closed_at (b ∷ bs) = if begins_close (b ∷ bs) then Some 2 else one_more (closed_at bs)

abbrev pub reserved_in : List Mark → List ℕ → Option Mark
reserved_in marks text = find (λ m. pointwise nat_eq text (text_of m)) marks

unfoldable pub reserved_of : List ℕ → Option Mark
reserved_of text = reserved_in RESERVED text

abbrev pub first_of : List Mark → List ℕ → Option Mark
first_of marks bs = find (λ m. starts_with nat_eq bs (text_of m)) marks

unfoldable pub mark_of : List ℕ → Option Mark
mark_of bs = first_of PUNCTUATION bs

unfoldable pub word_of : List ℕ → Option Sort
word_of [] = None
word_of (b ∷ bs) = if is_digit b then number_of (b ∷ bs) else Some (if_some (reserved_of (b ∷ bs)) marked (named (b ∷ bs)))

abbrev pub is_not_line_end : ℕ → Bool
is_not_line_end b = if b == 10 then false else true

abbrev pub run_of : List ℕ → List ℕ
run_of bs = take (prefix_len is_word bs) bs

abbrev pub line_of : List ℕ → List ℕ
line_of bs = take (prefix_len is_not_line_end bs) bs

unfoldable pub mark_piece : List ℕ → Option Piece
mark_piece bs = mark_of bs >>= λ m. Some (mark m)

unfoldable pub comment_or_mark : List ℕ → Option Piece
comment_or_mark bs = if starts_with nat_eq bs (codes "//") then Some (line_comment (line_of (drop 2 bs)))
    else (if starts_with nat_eq bs (codes "/*") then (closed_at (drop 2 bs) >>= λ n. Some (block_comment (take (n - 2) (drop 2 bs))))
    else mark_piece bs)

-- the piece at the front
unfoldable pub piece_of : List ℕ → Option Piece
piece_of [] = None
piece_of (b ∷ bs) = if is_blank b then Some (blank b)
    else (if is_word b then (word_of (run_of (b ∷ bs)) >>= λ s. Some (word s (run_of (b ∷ bs))))
    else comment_or_mark (b ∷ bs))

-- a piece's token, if it has one, and how many bytes it has
pub record Shape : Type 0 where
  pub sort : Option Sort
  pub len : ℕ

abbrev pub shape : Piece → Shape
shape (blank b) = record { sort = None; len = 1 }
shape (line_comment body) = record { sort = None; len = 2 + length body }
shape (block_comment body) = record { sort = None; len = 4 + length body }
shape (word s text) = record { sort = Some s; len = length text }
shape (mark m) = record { sort = Some (marked m); len = length (text_of m) }
