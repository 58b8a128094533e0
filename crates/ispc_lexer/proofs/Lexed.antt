-- All pieces of a source.
use Rattle.std.proofs.Common.{◌≡◌, ℕ, zero, suc, ◌+◌, ◌<◌, ◌≤◌, List, [], ◌∷◌, ◌++◌, length, take, drop, Option, Some, None, Result, Ok, Err, Bool, true, false, refl, sym, ap, ◌∙◌, arith}
use Rattle.std.proofs.lemmas.List.{length-append}
use Rattle.std.proofs.Math.Seq.{take-append_seam, drop-append_seam}
use Rattle.gang_types.specs.declared.places.Place.{Place}
use Rattle.gang_model.specs.declared.marks.Mark.{Mark}
use Rattle.gang_model.specs.declared.marks.Mark.TheVariants as mark
use Rattle.gang_model.specs.declared.refusals.SourceRefusal.{SourceRefusal}
use Rattle.gang_model.specs.Source.Tokens.{Lexeme}
use Rattle.gang_model.specs.Source.Spelling.{text_of}
use Rattle.gang_model.specs.Source.Lexes.{Piece, blank, line_comment, block_comment, word, mark as mark_at, spelling, Fits, Reads, with_lexeme, lexemes, place_after, place_of_end, IsStuck, fault_at}
use Rattle.ispc_lexer.specs.Numbers.{is_nil}
use Rattle.ispc_lexer.specs.Pieces.{shape, piece_of}
use Rattle.ispc_lexer.specs.Source.{◌>>>◌, lexeme_at, lexed}
use Rattle.ispc_lexer.proofs.FirstPiece.{piece_stands, piece_finds}

nil_is : (bs : List ℕ) → is_nil bs ≡ true → bs ≡ []
nil_is [] e = refl
nil_is (b ∷ bs) e = absurd cc

then_ok : {A B : Type 0} (r : Result A SourceRefusal) (f : A → Result B SourceRefusal) (y : B) → (r >>> f) ≡ Ok y → (x : A) × (r ≡ Ok x) × (f x ≡ Ok y)
then_ok (Ok x) f y e = (x, refl, e)
then_ok (Err d) f y e = absurd cc

then_err : {A B : Type 0} (r : Result A SourceRefusal) (f : A → B) (d : SourceRefusal) → (r >>> λ x. Ok (f x)) ≡ Err d → r ≡ Err d
then_err (Ok x) f d e = absurd cc
then_err (Err c) f d e = cc

abbrev pub fine : {A : Type 0} → A → Result A SourceRefusal
fine x = Ok x

pub ok_is : {A : Type 0} (x y : A) → fine x ≡ fine y → x ≡ y
ok_is x y e = cc

marks_long : (m : Mark) → 0 < length (text_of m)
unfolding text_of
marks_long m = elim m as (λ x. 0 < length (text_of x)) [ mark.LeftParen ↦ omega arith | _ ↦ omega arith ]

pub long : (x : Piece) (mid : List ℕ) → Fits x mid → 0 < length (spelling x)
long (blank b) mid h = omega arith
long (line_comment body) mid h = omega arith
long (block_comment body) mid h = omega arith
long (word s []) mid h = absurd h.2
long (word s (b ∷ bs)) mid h = omega arith
long (mark_at m) mid h = marks_long m

with_shape : (x : Piece) (at : ℕ) (p : Place) (more : List Lexeme) → with_lexeme x at p more ≡ lexeme_at (shape x) at p ++ more
with_shape (blank b) at p more = refl
with_shape (line_comment body) at p more = refl
with_shape (block_comment body) at p more = refl
with_shape (word s text) at p more = refl
with_shape (mark_at m) at p more = refl

shape_len : (x : Piece) → (shape x).len ≡ length (spelling x)
shape_len (blank b) = refl
shape_len (line_comment body) = omega arith
shape_len (block_comment body) = omega (arith, length-append body (42 ∷ 47 ∷ []))
shape_len (word s text) = refl
shape_len (mark_at m) = refl

abbrev pub bad : SourceRefusal → Result (List Lexeme) SourceRefusal
bad f = Err f

pub err_is : (x y : SourceRefusal) → bad x ≡ bad y → x ≡ y
err_is x y e = cc

-- the two sides of a piece at the front
front_is : (x : Piece) (bs mid : List ℕ) → bs ≡ spelling x ++ mid → take (shape x).len bs ≡ spelling x
front_is x bs mid e = rw (shape_len x, e) (take-append_seam (spelling x) mid)

rest_is : (x : Piece) (bs mid : List ℕ) → bs ≡ spelling x ++ mid → drop (shape x).len bs ≡ mid
rest_is x bs mid e = rw (shape_len x, e) (drop-append_seam (spelling x) mid)

-- one step, at a piece that stands there
stepped_by_shape : (n at : ℕ) (p : Place) (bs : List ℕ) (x : Piece) (mid : List ℕ) → is_nil bs ≡ false → piece_of bs ≡ Some x → bs ≡ spelling x ++ mid
    → lexed (suc n) at p bs ≡ (lexed n (at + (shape x).len) (place_after p (spelling x)) mid >>> λ more. Ok (with_lexeme x at p more))
unfolding lexed
stepped_by_shape n at p bs x mid full found e =
    rw (full, found, front_is x bs mid e, rest_is x bs mid e) (finish (lexed n (at + (shape x).len) (place_after p (spelling x)) mid))
  where
    finish : (r : Result (List Lexeme) SourceRefusal) → (r >>> λ more. Ok (lexeme_at (shape x) at p ++ more)) ≡ (r >>> λ more. Ok (with_lexeme x at p more))
    finish (Ok more) = ap (λ (l : List Lexeme). Ok l) (sym (with_shape x at p more))
    finish (Err d) = refl

stepped : (n at : ℕ) (p : Place) (bs : List ℕ) (x : Piece) (mid : List ℕ) → is_nil bs ≡ false → piece_of bs ≡ Some x → bs ≡ spelling x ++ mid
    → lexed (suc n) at p bs ≡ (lexed n (at + length (spelling x)) (place_after p (spelling x)) mid >>> λ more. Ok (with_lexeme x at p more))
stepped n at p bs x mid full found e =
    stepped_by_shape n at p bs x mid full found e ∙ ap (λ (k : ℕ). lexed n (at + k) (place_after p (spelling x)) mid >>> λ more. Ok (with_lexeme x at p more)) (shape_len x)

stuck_here : (n at : ℕ) (p : Place) (bs : List ℕ) → is_nil bs ≡ false → piece_of bs ≡ None → lexed (suc n) at p bs ≡ Err (record { number = fault_at bs; place = p })
unfolding lexed
stuck_here n at p bs full none = rw (full, none) refl

is_stuck : (bs : List ℕ) → is_nil bs ≡ false → piece_of bs ≡ None → IsStuck bs
is_stuck [] full none = absurd cc
is_stuck (b ∷ bs) full none = λ x mid e fits. let found : piece_of (b ∷ bs) ≡ Some x = ap piece_of e ∙ piece_finds x mid fits in absurd cc

empty_of : (bs : List ℕ) → length bs ≤ 0 → bs ≡ []
empty_of [] le = refl
empty_of (b ∷ bs) le = absurd (omega arith)

at_end : (n at : ℕ) (p : Place) → lexed n at p [] ≡ Ok []
unfolding lexed
at_end zero at p = refl
at_end (suc n) at p = refl

pub lex_sound : (n at : ℕ) (p : Place) (bs : List ℕ) (ts : List Lexeme) → length bs ≤ n → lexed n at p bs ≡ Ok ts → (pieces : List Piece) × Reads pieces bs [] × (lexemes at p pieces ≡ ts)
lex_sound zero at p bs ts le e =
    let none : bs ≡ [] = empty_of bs le in
    ([], none, ok_is [] ts (sym (at_end zero at p) ∙ ap (lexed 0 at p) (sym none) ∙ e))
lex_sound (suc n) at p bs ts le e = split (is_nil bs) refl (piece_of bs) refl (λ at2 p2 bs2 ts2 le2 e2. lex_sound n at2 p2 bs2 ts2 le2 e2)
  where
    split : (v : Bool) → is_nil bs ≡ v → (o : Option Piece) → piece_of bs ≡ o
        → ((at2 : ℕ) (p2 : Place) (bs2 : List ℕ) (ts2 : List Lexeme) → length bs2 ≤ n → lexed n at2 p2 bs2 ≡ Ok ts2 → (pieces : List Piece) × Reads pieces bs2 [] × (lexemes at2 p2 pieces ≡ ts2))
        → (pieces : List Piece) × Reads pieces bs [] × (lexemes at p pieces ≡ ts)
    split true v o k rec =
        let none : bs ≡ [] = nil_is bs v in
        ([], none, ok_is [] ts (sym (at_end (suc n) at p) ∙ ap (lexed (suc n) at p) (sym none) ∙ e))
    split false v None k rec = let failed = sym e ∙ stuck_here n at p bs v k in absurd cc
    split false v (Some x) k rec =
        let s = piece_stands bs x k in
        let q = then_ok (lexed n (at + length (spelling x)) (place_after p (spelling x)) s.mid) (λ more. Ok (with_lexeme x at p more)) ts (sym (stepped n at p bs x s.mid v k s.parts) ∙ e) in
        let shorter : length s.mid ≤ n = omega (arith, long x s.mid s.fits, ap length s.parts, length-append (spelling x) s.mid) in
        let r = rec (at + length (spelling x)) (place_after p (spelling x)) s.mid q.0 shorter q.1 in
        (x ∷ r.0, (s.mid, s.parts, s.fits, r.1), ap (with_lexeme x at p) r.2 ∙ ok_is (with_lexeme x at p q.0) ts q.2)

pub lex_fault : (n at : ℕ) (p : Place) (bs : List ℕ) (f : SourceRefusal) → length bs ≤ n → lexed n at p bs ≡ Err f → (pieces : List Piece) × (rest : List ℕ) × Reads pieces bs rest × IsStuck rest × (f.number ≡ fault_at rest) × (f.place ≡ place_of_end p pieces)
lex_fault zero at p bs f le e =
    let none : bs ≡ [] = empty_of bs le in
    let fine_here = sym (ap (lexed 0 at p) (sym none) ∙ e) ∙ at_end zero at p in absurd cc
lex_fault (suc n) at p bs f le e = split (is_nil bs) refl (piece_of bs) refl (λ at2 p2 bs2 f2 le2 e2. lex_fault n at2 p2 bs2 f2 le2 e2)
  where
    split : (v : Bool) → is_nil bs ≡ v → (o : Option Piece) → piece_of bs ≡ o
        → ((at2 : ℕ) (p2 : Place) (bs2 : List ℕ) (f2 : SourceRefusal) → length bs2 ≤ n → lexed n at2 p2 bs2 ≡ Err f2 → (pieces : List Piece) × (rest : List ℕ) × Reads pieces bs2 rest × IsStuck rest × (f2.number ≡ fault_at rest) × (f2.place ≡ place_of_end p2 pieces))
        → (pieces : List Piece) × (rest : List ℕ) × Reads pieces bs rest × IsStuck rest × (f.number ≡ fault_at rest) × (f.place ≡ place_of_end p pieces)
    split true v o k rec =
        let none : bs ≡ [] = nil_is bs v in
        let fine_here = sym (ap (lexed (suc n) at p) (sym none) ∙ e) ∙ at_end (suc n) at p in absurd cc
    split false v None k rec =
        let here : SourceRefusal = record { number = fault_at bs; place = p } in let same : here ≡ f = err_is here f (sym (stuck_here n at p bs v k) ∙ e) in
        ([], bs, refl, is_stuck bs v k, ap (λ (x : SourceRefusal). x.number) (sym same), ap (λ (x : SourceRefusal). x.place) (sym same))
    split false v (Some x) k rec =
        let s = piece_stands bs x k in
        let q = then_err (lexed n (at + length (spelling x)) (place_after p (spelling x)) s.mid) (λ more. with_lexeme x at p more) f (sym (stepped n at p bs x s.mid v k s.parts) ∙ e) in
        let shorter : length s.mid ≤ n = omega (arith, long x s.mid s.fits, ap length s.parts, length-append (spelling x) s.mid) in
        let r = rec (at + length (spelling x)) (place_after p (spelling x)) s.mid f shorter q in
        (x ∷ r.0, r.1, (s.mid, s.parts, s.fits, r.2), r.3, r.4, r.5)

not_nil : (xs : List ℕ) → 0 < length xs → is_nil xs ≡ false
not_nil [] lt = absurd (omega arith)
not_nil (y ∷ ys) lt = refl

pub lex_complete : (pieces : List Piece) (n at : ℕ) (p : Place) (bs : List ℕ) → length bs ≤ n → Reads pieces bs [] → lexed n at p bs ≡ Ok (lexemes at p pieces)
lex_complete [] n at p bs le h = ap (lexed n at p) h ∙ at_end n at p
lex_complete (x ∷ xs) zero at p bs le h = absurd (omega (arith, long x h.0 h.2, ap length h.1, length-append (spelling x) h.0))
lex_complete (x ∷ xs) (suc n) at p bs le h =
    let found : piece_of bs ≡ Some x = ap piece_of h.1 ∙ piece_finds x h.0 h.2 in
    let full : is_nil bs ≡ false = not_nil bs (omega (arith, long x h.0 h.2, ap length h.1, length-append (spelling x) h.0)) in
    stepped n at p bs x h.0 full found h.1 ∙ rw (lex_complete xs n (at + length (spelling x)) (place_after p (spelling x)) h.0 (omega (arith, long x h.0 h.2, ap length h.1, length-append (spelling x) h.0)) h.3) refl

none_there : (bs : List ℕ) → IsStuck bs → piece_of bs ≡ None
none_there bs stuck = go (piece_of bs) refl
  where
    go : (o : Option Piece) → piece_of bs ≡ o → o ≡ None
    go None e = refl
    go (Some x) e = let s = piece_stands bs x e in absurd (no_piece bs stuck x s.mid s.parts s.fits)
      where
        no_piece : (bs : List ℕ) → IsStuck bs → (x : Piece) (mid : List ℕ) → bs ≡ spelling x ++ mid → Fits x mid → ⊥
        no_piece [] stuck = absurd stuck
        no_piece (b ∷ bs) stuck = stuck

stuck_full : (bs : List ℕ) → IsStuck bs → is_nil bs ≡ false
stuck_full [] stuck = absurd stuck
stuck_full (b ∷ bs) stuck = refl

stuck_long : (bs : List ℕ) → IsStuck bs → 0 < length bs
stuck_long [] stuck = absurd stuck
stuck_long (b ∷ bs) stuck = omega arith

pub lex_stuck : (pieces : List Piece) (n at : ℕ) (p : Place) (bs rest : List ℕ) → length bs ≤ n → Reads pieces bs rest → IsStuck rest → lexed n at p bs ≡ Err (record { number = fault_at rest; place = place_of_end p pieces })
lex_stuck [] zero at p bs rest le h stuck = absurd (omega (arith, stuck_long rest stuck, ap length h))
lex_stuck [] (suc n) at p bs rest le h stuck = ap (lexed (suc n) at p) h ∙ stuck_here n at p rest (stuck_full rest stuck) (none_there rest stuck)
lex_stuck (x ∷ xs) zero at p bs rest le h stuck = absurd (omega (arith, long x h.0 h.2, ap length h.1, length-append (spelling x) h.0))
lex_stuck (x ∷ xs) (suc n) at p bs rest le h stuck =
    let found : piece_of bs ≡ Some x = ap piece_of h.1 ∙ piece_finds x h.0 h.2 in
    let full : is_nil bs ≡ false = not_nil bs (omega (arith, long x h.0 h.2, ap length h.1, length-append (spelling x) h.0)) in
    stepped n at p bs x h.0 full found h.1 ∙ rw (lex_stuck xs n (at + length (spelling x)) (place_after p (spelling x)) h.0 rest (omega (arith, long x h.0 h.2, ap length h.1, length-append (spelling x) h.0)) h.3 stuck) refl

-- how many pieces there may be does not matter, where it is no less than the bytes
pub enough : (n m at : ℕ) (p : Place) (bs : List ℕ) → length bs ≤ n → length bs ≤ m → lexed n at p bs ≡ lexed m at p bs
enough zero m at p bs le lt = let none : bs ≡ [] = empty_of bs le in ap (lexed 0 at p) none ∙ at_end 0 at p ∙ sym (at_end m at p) ∙ ap (lexed m at p) (sym none)
enough (suc n) zero at p bs le lt = let none : bs ≡ [] = empty_of bs lt in ap (lexed (suc n) at p) none ∙ at_end (suc n) at p ∙ sym (at_end 0 at p) ∙ ap (lexed 0 at p) (sym none)
enough (suc n) (suc m) at p bs le lt = split (is_nil bs) refl (piece_of bs) refl (λ at2 p2 bs2 le2 lt2. enough n m at2 p2 bs2 le2 lt2)
  where
    split : (v : Bool) → is_nil bs ≡ v → (o : Option Piece) → piece_of bs ≡ o
        → ((at2 : ℕ) (p2 : Place) (bs2 : List ℕ) → length bs2 ≤ n → length bs2 ≤ m → lexed n at2 p2 bs2 ≡ lexed m at2 p2 bs2)
        → lexed (suc n) at p bs ≡ lexed (suc m) at p bs
    split true v o k rec = let none : bs ≡ [] = nil_is bs v in ap (lexed (suc n) at p) none ∙ at_end (suc n) at p ∙ sym (at_end (suc m) at p) ∙ ap (lexed (suc m) at p) (sym none)
    split false v None k rec = stuck_here n at p bs v k ∙ sym (stuck_here m at p bs v k)
    split false v (Some x) k rec =
        let s = piece_stands bs x k in
        let some : 0 < length (spelling x) = long x s.mid s.fits in
        let size : length bs ≡ length (spelling x) + length s.mid = ap length s.parts ∙ length-append (spelling x) s.mid in
        stepped n at p bs x s.mid v k s.parts
        ∙ ap (λ (r : Result (List Lexeme) SourceRefusal). r >>> λ more. Ok (with_lexeme x at p more)) (rec (at + length (spelling x)) (place_after p (spelling x)) s.mid (omega arith) (omega arith))
        ∙ sym (stepped m at p bs x s.mid v k s.parts)
