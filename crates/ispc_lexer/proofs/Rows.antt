-- Sources whose tokens, or first fault, the definition gives by computing.
use Rattle.std.proofs.Common.{◌≡◌, ℕ, List, [], ◌∷◌, length, Ok, Err, true, false, refl, arith}
use Rattle.std.specs.Prelude.{codes}
use Rattle.gang_types.specs.declared.places.Place.{Place}
use Rattle.gang_model.specs.declared.marks.Mark.TheVariants as mark
use Rattle.gang_model.specs.declared.refusals.RefusalNumber.{RefusalNumber}
use Rattle.gang_model.specs.declared.refusals.RefusalNumber.TheVariants.{S1, S2}
use Rattle.gang_model.specs.Source.Tokens.{Sort, named, numbered, marked, Lexeme}
use Rattle.gang_model.specs.Source.Spelling.{text_of}
use Rattle.gang_model.specs.Source.Lexes.{Lexes, IsFirstFault, first_place}
use Rattle.ispc_lexer.specs.Numbers.{number_in, number_of}
use Rattle.ispc_lexer.specs.Pieces.{begins_close, closed_at, reserved_of, mark_of, word_of, mark_piece, comment_or_mark, piece_of}
use Rattle.ispc_lexer.specs.Source.{lexed}
use Rattle.ispc_lexer.proofs.Lexed.{lex_sound, lex_fault}

tokens_are : (source : List ℕ) (tokens : List Lexeme) → lexed (length source) 0 first_place source ≡ Ok tokens → Lexes source tokens
tokens_are source tokens e = lex_sound (length source) 0 first_place source tokens (omega arith) e

fault_is : (source : List ℕ) (n : RefusalNumber) (p : Place) → lexed (length source) 0 first_place source ≡ Err (record { number = n; place = p }) → IsFirstFault source n p
fault_is source n p e = lex_fault (length source) 0 first_place source (record { number = n; place = p }) (omega arith) e

abbrev lexeme : (start end line col : ℕ) → Sort → Lexeme
lexeme start end line col s = record { sort = s; start = start; end = end; place = record { line = line; col = col } }

abbrev First : (source : List ℕ) → RefusalNumber → (line col : ℕ) → Type 0
First source n line col = IsFirstFault source n (record { line = line; col = col })

longest_mark : Lexes (codes "a<<=b") (lexeme 0 1 1 1 (named (codes "a")) ∷ lexeme 1 4 1 2 (marked mark.ShiftLeftAssign) ∷ lexeme 4 5 1 5 (named (codes "b")) ∷ [])
unfolding text_of number_in number_of begins_close closed_at reserved_of mark_of word_of mark_piece comment_or_mark piece_of lexed
longest_mark = tokens_are _ _ refl

increment_first : Lexes (codes "x+++y") (lexeme 0 1 1 1 (named (codes "x")) ∷ lexeme 1 3 1 2 (marked mark.PlusPlus) ∷ lexeme 3 4 1 4 (marked mark.Plus) ∷ lexeme 4 5 1 5 (named (codes "y")) ∷ [])
unfolding text_of number_in number_of begins_close closed_at reserved_of mark_of word_of mark_piece comment_or_mark piece_of lexed
increment_first = tokens_are _ _ refl

dots : Lexes (codes "0...5") (lexeme 0 1 1 1 (numbered 0 false false) ∷ lexeme 1 4 1 2 (marked mark.Dots) ∷ lexeme 4 5 1 5 (numbered 5 false false) ∷ [])
unfolding text_of number_in number_of begins_close closed_at reserved_of mark_of word_of mark_piece comment_or_mark piece_of lexed
dots = tokens_are _ _ refl

suffixes : Lexes (codes "4ul 0x1FLuL") (lexeme 0 3 1 1 (numbered 4 true true) ∷ lexeme 4 11 1 5 (numbered 31 true true) ∷ [])
unfolding text_of number_in number_of begins_close closed_at reserved_of mark_of word_of mark_piece comment_or_mark piece_of lexed
suffixes = tokens_are _ _ refl

binary_digits : Lexes (codes "0b101l") (lexeme 0 6 1 1 (numbered 5 false true) ∷ [])
unfolding text_of number_in number_of begins_close closed_at reserved_of mark_of word_of mark_piece comment_or_mark piece_of lexed
binary_digits = tokens_are _ _ refl

whole_words : Lexes (codes "int intx") (lexeme 0 3 1 1 (marked mark.Int) ∷ lexeme 4 8 1 5 (named (codes "intx")) ∷ [])
unfolding text_of number_in number_of begins_close closed_at reserved_of mark_of word_of mark_piece comment_or_mark piece_of lexed
whole_words = tokens_are _ _ refl

closed_comment : Lexes (codes "a/**/+//b") (lexeme 0 1 1 1 (named (codes "a")) ∷ lexeme 5 6 1 6 (marked mark.Plus) ∷ [])
unfolding text_of number_in number_of begins_close closed_at reserved_of mark_of word_of mark_piece comment_or_mark piece_of lexed
closed_comment = tokens_are _ _ refl

fourth_dot : First (codes "1....2") S1 1 5
unfolding text_of number_in number_of begins_close closed_at reserved_of mark_of word_of mark_piece comment_or_mark piece_of lexed
fourth_dot = fault_is _ S1 _ refl

unclosed_comment : First (codes "a /* x") S1 1 3
unfolding text_of number_in number_of begins_close closed_at reserved_of mark_of word_of mark_piece comment_or_mark piece_of lexed
unclosed_comment = fault_is _ S1 _ refl

leading_zero : First (codes "08") S2 1 1
unfolding text_of number_in number_of begins_close closed_at reserved_of mark_of word_of mark_piece comment_or_mark piece_of lexed
leading_zero = fault_is _ S2 _ refl

two_u : First (codes "1uu") S2 1 1
unfolding text_of number_in number_of begins_close closed_at reserved_of mark_of word_of mark_piece comment_or_mark piece_of lexed
two_u = fault_is _ S2 _ refl

three_l : First (codes "1lll") S2 1 1
unfolding text_of number_in number_of begins_close closed_at reserved_of mark_of word_of mark_piece comment_or_mark piece_of lexed
three_l = fault_is _ S2 _ refl

no_binary_digit : First (codes "0b12") S2 1 1
unfolding text_of number_in number_of begins_close closed_at reserved_of mark_of word_of mark_piece comment_or_mark piece_of lexed
no_binary_digit = fault_is _ S2 _ refl

no_digit : First (codes "0x") S2 1 1
unfolding text_of number_in number_of begins_close closed_at reserved_of mark_of word_of mark_piece comment_or_mark piece_of lexed
no_digit = fault_is _ S2 _ refl

above_64_bits : First (codes "18446744073709551616") S2 1 1
unfolding text_of number_in number_of begins_close closed_at reserved_of mark_of word_of mark_piece comment_or_mark piece_of lexed
above_64_bits = fault_is _ S2 _ refl
