-- The loop over the pieces.
use Rattle.std.proofs.Common.{◌≡◌, ℕ, zero, suc, ◌-◌, ◌+◌, ◌<◌, ◌≤◌, List, [], ◌∷◌, ◌++◌, length, take, drop, Option, Some, None, Result, Ok, Err, true, false, refl, sym, ap, ◌∙◌, arith, append_assoc}
use Rattle.std.specs.Prelude.{◌==◌, option_map}
use Rattle.std.proofs.lemmas.Bool.Decides.{nat_tests}
use Rattle.std.proofs.lemmas.List.{append-nil, length-append, length-drop}
use Rattle.gang_types.specs.declared.places.Place.{Place}
use Rattle.gang_model.specs.declared.refusals.SourceRefusal.{SourceRefusal}
use Rattle.gang_model.specs.Source.Tokens.{Lexeme}
use Rattle.gang_model.specs.Source.Lexes.{Piece, spelling, place_after, fault_at}
use Rattle.ispc_lexer.specs.declared.token.Token.{Token}
use Rattle.ispc_lexer.specs.Views.{lexemes_of}
use Rattle.ispc_lexer.specs.Numbers.{is_nil}
use Rattle.ispc_lexer.specs.Pieces.{Shape, shape, piece_of}
use Rattle.ispc_lexer.specs.Source.{◌>>>◌, lexeme_at, lexed}
use Rattle.ispc_lexer.proofs.FirstPiece.{piece_stands}
use Rattle.ispc_lexer.proofs.Lexed.{long, enough}

abbrev pub with_front : List Lexeme → Result (List Lexeme) SourceRefusal → Result (List Lexeme) SourceRefusal
with_front front read = read >>> λ more. Ok (front ++ more)

pub lexemes_of-push : (ts : List Token) (t : Token) → lexemes_of (ts ++ t ∷ []) ≡ lexemes_of ts ++ lexemes_of (t ∷ [])
lexemes_of-push [] t = refl
lexemes_of-push (x ∷ ts) t = ap (λ (l : List Lexeme). lexemes_of (x ∷ []) ++ l) (lexemes_of-push ts t)

front_more : (front : List Lexeme) (some : List Lexeme) (r : Result (List Lexeme) SourceRefusal) → with_front front (r >>> λ more. Ok (some ++ more)) ≡ with_front (front ++ some) r
front_more front some (Ok more) = ap (λ (l : List Lexeme). Ok l) (sym (append_assoc front some more))
front_more front some (Err d) = refl

pub ends_nil : (n at : ℕ) (p : Place) (bs : List ℕ) (front : List Lexeme) → is_nil bs ≡ true → with_front front (lexed n at p bs) ≡ Ok front
unfolding lexed
ends_nil zero at p bs front e = ap (λ (l : List Lexeme). Ok l) (append-nil front)
ends_nil (suc n) at p bs front e = rw e (ap (λ (l : List Lexeme). Ok l) (append-nil front))

shown_none : (o : Option Piece) → None ≡ option_map shape o → o ≡ None
shown_none None e = refl
shown_none (Some x) e = absurd cc

shown_some : (s : Shape) (o : Option Piece) → Some s ≡ option_map shape o → (x : Piece) × (o ≡ Some x) × (shape x ≡ s)
shown_some s None e = absurd cc
shown_some s (Some x) e = (x, refl, cc)

full_length : (bs : List ℕ) → is_nil bs ≡ false → length bs ≡ suc (length bs - 1)
full_length [] e = absurd cc
full_length (b ∷ bs) e = omega arith

pub stops_here : (at : ℕ) (p : Place) (bs : List ℕ) (front : List Lexeme) → is_nil bs ≡ false → None ≡ option_map shape (piece_of bs) → with_front front (lexed (length bs) at p bs) ≡ Err (record { number = fault_at bs; place = p })
unfolding lexed
stops_here at p bs front full e = rw (full_length bs full, full, shown_none (piece_of bs) e) refl

one_piece : (n m at : ℕ) (p : Place) (bs : List ℕ) (front : List Lexeme) (s : Shape) → n ≡ suc m → is_nil bs ≡ false → Some s ≡ option_map shape (piece_of bs)
    → with_front front (lexed n at p bs) ≡ with_front (front ++ lexeme_at s at p) (lexed m (at + s.len) (place_after p (take s.len bs)) (drop s.len bs))
unfolding lexed
one_piece n m at p bs front s n-is full e =
    let q = shown_some s (piece_of bs) e in
    rw (n-is, full, q.1, q.2) (front_more front (lexeme_at s at p) (lexed m (at + s.len) (place_after p (take s.len bs)) (drop s.len bs)))

pub some_bytes : (s : Shape) (bs : List ℕ) → Some s ≡ option_map shape (piece_of bs) → 0 < s.len
some_bytes s bs e =
    let q = shown_some s (piece_of bs) e in
    let stands = piece_stands bs q.0 q.1 in
    let len_is : (shape q.0).len ≡ s.len = ap (λ (x : Shape). x.len) q.2 in
    omega (arith, stands.len, len_is, long q.0 stands.mid stands.fits)

pub goes_on : (at : ℕ) (p : Place) (bs : List ℕ) (front : List Lexeme) (s : Shape) (total : Result (List Lexeme) SourceRefusal) → is_nil bs ≡ false → Some s ≡ option_map shape (piece_of bs)
    → with_front front (lexed (length bs) at p bs) ≡ total → with_front (front ++ lexeme_at s at p) (lexed (length (drop s.len bs)) (at + s.len) (place_after p (take s.len bs)) (drop s.len bs)) ≡ total
goes_on at p bs front s total full e so_far =
    let some = some_bytes s bs e in
    let size = full_length bs full in
    let fewer : length (drop s.len bs) ≤ length bs - 1 = omega (arith, length-drop s.len bs, some, size) in
    ap (with_front (front ++ lexeme_at s at p)) (enough (length (drop s.len bs)) (length bs - 1) (at + s.len) (place_after p (take s.len bs)) (drop s.len bs) (omega arith) fewer)
    ∙ sym (one_piece (length bs) (length bs - 1) at p bs front s size full e) ∙ so_far

pub within : (s : Shape) (bs : List ℕ) → Some s ≡ option_map shape (piece_of bs) → s.len ≤ length bs
within s bs e =
    let q = shown_some s (piece_of bs) e in
    let stands = piece_stands bs q.0 q.1 in
    let len_is : (shape q.0).len ≡ s.len = ap (λ (x : Shape). x.len) q.2 in
    omega (arith, stands.len, len_is, ap length stands.parts, length-append (spelling q.0) stands.mid)

pub length_nil : (bs : List ℕ) → (length bs == 0) ≡ is_nil bs
length_nil [] = refl
length_nil (b ∷ bs) = grind (arith, nat_tests)
