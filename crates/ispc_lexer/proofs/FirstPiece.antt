-- The piece at the front is the one that fits there.
use Rattle.std.proofs.Common.{◌≡◌, inl, inr, ℕ, ◌-◌, ◌+◌, List, [], ◌∷◌, ◌++◌, length, take, drop, Option, Some, None, Bool, true, false, cond, refl, sym, ap, subst, ◌∙◌, arith, append_assoc, one-add}
use Rattle.std.specs.Prelude.{nat_eq, ◌==◌}
use Rattle.std.specs.List.{list_all, prefix_len, starts_with}
use Rattle.std.proofs.lemmas.Bool.Decides.{nat_tests}
use Rattle.std.proofs.lemmas.List.{take-append-drop, length-append}
use Rattle.std.proofs.Math.Seq.{take-append_seam}
use Rattle.gang_model.specs.declared.marks.Mark.{Mark}
use Rattle.gang_model.specs.declared.marks.Mark.TheVariants as mark
use Rattle.gang_model.specs.Source.Tokens.{Sort, named, numbered, marked}
use Rattle.gang_model.specs.Source.Spelling.{text_of, is_blank, is_digit, is_word}
use Rattle.gang_model.specs.Source.Lexes.{Piece, blank, line_comment, block_comment, word, mark as mark_at, begins_word, ends_line, IsWordOf, NoComment, spelling, Fits}
use Rattle.ispc_lexer.specs.Options.{◌>>=◌, if_some}
use Rattle.ispc_lexer.specs.Pieces.{closed_at, word_of, reserved_of, is_not_line_end, run_of, line_of, mark_of, mark_piece, comment_or_mark, piece_of, shape}
use Rattle.ispc_lexer.proofs.Runs.{bind_some, which, both_true, Ends, run_all, run_ends, run_again, starts_sound, starts_again, starts_not}
use Rattle.ispc_lexer.proofs.Comments.{closes, closes_again}
use Rattle.ispc_lexer.proofs.MarkTables.{mark_sound, mark_complete, reserved_again, reserved_sound}
use Rattle.ispc_lexer.proofs.NumberParts.{number_sound, number_complete}
use Rattle.std.proofs.lemmas.Option.{same_Some}

-- ---- words

word_sound : (text : List ℕ) (s : Sort) → begins_word text ≡ true → word_of text ≡ Some s → IsWordOf s text
unfolding word_of
word_sound [] s first e = absurd cc
word_sound (b ∷ bs) s first e =
    elim (which (is_digit b) _ _ (Some s) e) [
      | inl p ↦
          let q = number_sound (b ∷ bs) s p.1 in
          subst (λ (x : Sort). IsWordOf x (b ∷ bs)) (sym q.3) (p.0, q.4)
      | inr p ↦ subst (λ (x : Sort). IsWordOf x (b ∷ bs)) (same_Some _ s p.1) (go (reserved_of (b ∷ bs)) refl p.0)
    ]
  where
    go : (o : Option Mark) → reserved_of (b ∷ bs) ≡ o → is_digit b ≡ false → IsWordOf (if_some o marked (named (b ∷ bs))) (b ∷ bs)
    go (Some m) k d = (d, reserved_sound (b ∷ bs) m k)
    go None k d = (d, refl, λ m is. let yes = reserved_again m (b ∷ bs) first is in absurd cc)

word_complete : (text : List ℕ) (s : Sort) → begins_word text ≡ true → IsWordOf s text → word_of text ≡ Some s
unfolding word_of
word_complete [] s first h = absurd h
word_complete (b ∷ bs) (numbered n u l) first h = rw h.0 (number_complete (b ∷ bs) n u l h.1)
word_complete (b ∷ bs) (marked m) first h = rw (h.0, reserved_again m (b ∷ bs) first h.1) refl
word_complete (b ∷ bs) (named text) first h = rw (h.0, none_of (reserved_of (b ∷ bs)) refl, h.1) refl
  where
    none_of : (o : Option Mark) → reserved_of (b ∷ bs) ≡ o → o ≡ None
    none_of None k = refl
    none_of (Some m) k = absurd (h.2 m (reserved_sound (b ∷ bs) m k))

-- ---- any piece

-- the piece stands at the front of these bytes, as long as its shape says
pub record Stands (bs : List ℕ) (x : Piece) : Type 0 where
  pub mid : List ℕ
  pub parts : bs ≡ spelling x ++ mid
  pub fits : Fits x mid
  pub len : (shape x).len ≡ length (spelling x)

line_ends : (xs : List ℕ) → Ends is_not_line_end xs → ends_line xs ≡ true
line_ends [] h = refl
line_ends (x ∷ xs) h = go (x == 10) h
  where
    go : (v : Bool) → cond v false true ≡ false → v ≡ true
    go true e = refl
    go false e = absurd cc

line_ends_again : (xs : List ℕ) → ends_line xs ≡ true → Ends is_not_line_end xs
line_ends_again [] h = tt
line_ends_again (x ∷ xs) h = rw h refl

word_ends : (xs : List ℕ) → Ends is_word xs → begins_word xs ≡ false
word_ends [] h = refl
word_ends (x ∷ xs) h = h

ends_word : (xs : List ℕ) → begins_word xs ≡ false → Ends is_word xs
ends_word [] h = tt
ends_word (x ∷ xs) h = h

run_first : (b : ℕ) (bs : List ℕ) → is_word b ≡ true → begins_word (run_of (b ∷ bs)) ≡ true
run_first b bs e = rw (e, one-add) e

rest_stands : (bs : List ℕ) (x : Piece) → comment_or_mark bs ≡ Some x → Stands bs x
unfolding comment_or_mark mark_piece
rest_stands bs x e =
    elim (which (starts_with nat_eq bs (47 ∷ 47 ∷ [])) _ _ (Some x) e) [
      | inl p ↦
          subst (Stands bs) (same_Some (line_comment (line_of (drop 2 bs))) x p.1) (record {
            mid = drop (prefix_len is_not_line_end (drop 2 bs)) (drop 2 bs);
            parts = starts_sound bs (47 ∷ 47 ∷ []) p.0 ∙ ap (λ (r : List ℕ). 47 ∷ 47 ∷ r) (sym (take-append-drop (prefix_len is_not_line_end (drop 2 bs)) (drop 2 bs)));
            fits = (run_all is_not_line_end (drop 2 bs), line_ends (drop (prefix_len is_not_line_end (drop 2 bs)) (drop 2 bs)) (run_ends is_not_line_end (drop 2 bs)));
            len = omega arith;
          })
      | inr p ↦ elim (which (starts_with nat_eq bs (47 ∷ 42 ∷ [])) _ _ (Some x) p.1) [
        | inl q ↦
            let n = bind_some (closed_at (drop 2 bs)) (λ k. Some (block_comment (take (k - 2) (drop 2 bs)))) x q.1 in
            let c = closes (drop 2 bs) n.0 n.1 in
            let size_is : n.0 - 2 ≡ length c.0 = omega (arith, c.3) in
            let body_is : take (n.0 - 2) (drop 2 bs) ≡ c.0 = ap (λ (k : ℕ). take k (drop 2 bs)) size_is ∙ ap (take (length c.0)) c.2 ∙ take-append_seam c.0 (42 ∷ 47 ∷ c.1) in
            subst (Stands bs) (ap block_comment (sym body_is) ∙ same_Some (block_comment (take (n.0 - 2) (drop 2 bs))) x n.2) (record {
              mid = c.1;
              parts = starts_sound bs (47 ∷ 42 ∷ []) q.0 ∙ ap (λ (r : List ℕ). 47 ∷ 42 ∷ r) (c.2 ∙ sym (append_assoc c.0 (42 ∷ 47 ∷ []) c.1));
              fits = c.4;
              len = omega (arith, length-append c.0 (42 ∷ 47 ∷ []));
            })
        | inr q ↦
            let m = bind_some (mark_of bs) (λ k. Some (mark_at k)) x q.1 in
            let clear : NoComment bs = λ more. (λ is. let yes = starts_again bs (47 ∷ 47 ∷ []) more is in let different = p.0 in absurd cc, λ is. let yes = starts_again bs (47 ∷ 42 ∷ []) more is in let different = q.0 in absurd cc) in
            let s = mark_sound bs m.0 clear m.1 in
            subst (Stands bs) (same_Some (mark_at m.0) x m.2) (record { mid = drop (length (text_of m.0)) bs; parts = s.0; fits = s.1; len = refl })
      ]
    ]

pub piece_stands : (bs : List ℕ) (x : Piece) → piece_of bs ≡ Some x → Stands bs x
unfolding piece_of
piece_stands [] x e = absurd cc
piece_stands (b ∷ bs) x e =
    elim (which (is_blank b) _ _ (Some x) e) [
      | inl p ↦ subst (Stands (b ∷ bs)) (same_Some (blank b) x p.1) (record { mid = bs; parts = refl; fits = p.0; len = refl })
      | inr p ↦ elim (which (is_word b) _ _ (Some x) p.1) [
        | inl q ↦
            let s = bind_some (word_of (run_of (b ∷ bs))) (λ k. Some (word k (run_of (b ∷ bs)))) x q.1 in
            subst (Stands (b ∷ bs)) (same_Some (word s.0 (run_of (b ∷ bs))) x s.2) (record {
              mid = drop (prefix_len is_word (b ∷ bs)) (b ∷ bs);
              parts = sym (take-append-drop (prefix_len is_word (b ∷ bs)) (b ∷ bs));
              fits = (run_all is_word (b ∷ bs), word_ends (drop (prefix_len is_word (b ∷ bs)) (b ∷ bs)) (run_ends is_word (b ∷ bs)), word_sound (run_of (b ∷ bs)) s.0 (run_first b bs q.0) s.1);
              len = refl;
            })
        | inr q ↦ rest_stands (b ∷ bs) x q.1
      ]
    ]

-- ---- and what stands there is found

not_blank : (b : ℕ) → is_word b ≡ true → is_blank b ≡ false
not_blank b e = grind (arith, nat_tests)

mark_first : (m : Mark) → begins_word (text_of m) ≡ false → (after : List ℕ) → piece_of (text_of m ++ after) ≡ comment_or_mark (text_of m ++ after)
unfolding text_of piece_of
mark_first mark.LeftParen e after = refl
mark_first mark.RightParen e after = refl
mark_first mark.LeftBrace e after = refl
mark_first mark.RightBrace e after = refl
mark_first mark.LeftBracket e after = refl
mark_first mark.RightBracket e after = refl
mark_first mark.Comma e after = refl
mark_first mark.Semicolon e after = refl
mark_first mark.Question e after = refl
mark_first mark.Colon e after = refl
mark_first mark.Plus e after = refl
mark_first mark.Minus e after = refl
mark_first mark.Star e after = refl
mark_first mark.Slash e after = refl
mark_first mark.Percent e after = refl
mark_first mark.Ampersand e after = refl
mark_first mark.Bar e after = refl
mark_first mark.Caret e after = refl
mark_first mark.Tilde e after = refl
mark_first mark.Exclamation e after = refl
mark_first mark.Less e after = refl
mark_first mark.Greater e after = refl
mark_first mark.ShiftLeft e after = refl
mark_first mark.ShiftRight e after = refl
mark_first mark.LessEqual e after = refl
mark_first mark.GreaterEqual e after = refl
mark_first mark.EqualEqual e after = refl
mark_first mark.NotEqual e after = refl
mark_first mark.AndAnd e after = refl
mark_first mark.OrOr e after = refl
mark_first mark.Assign e after = refl
mark_first mark.PlusAssign e after = refl
mark_first mark.MinusAssign e after = refl
mark_first mark.StarAssign e after = refl
mark_first mark.SlashAssign e after = refl
mark_first mark.PercentAssign e after = refl
mark_first mark.AmpersandAssign e after = refl
mark_first mark.BarAssign e after = refl
mark_first mark.CaretAssign e after = refl
mark_first mark.ShiftLeftAssign e after = refl
mark_first mark.ShiftRightAssign e after = refl
mark_first mark.PlusPlus e after = refl
mark_first mark.MinusMinus e after = refl
mark_first mark.Dots e after = refl
mark_first _ e after = absurd cc

pub piece_finds : (x : Piece) (mid : List ℕ) → Fits x mid → piece_of (spelling x ++ mid) ≡ Some x
unfolding piece_of comment_or_mark mark_piece
piece_finds (blank b) mid h = rw h refl
piece_finds (line_comment body) mid h =
    let n : prefix_len is_not_line_end (body ++ mid) ≡ length body = run_again is_not_line_end body mid h.0 (line_ends_again mid h.1) in
    rw (n, take-append_seam body mid) refl
piece_finds (block_comment body) mid h =
    let whole : (body ++ (42 ∷ 47 ∷ [])) ++ mid ≡ body ++ (42 ∷ 47 ∷ mid) = append_assoc body (42 ∷ 47 ∷ []) mid in
    let size_is : (length body + 2) - 2 ≡ length body = omega arith in
    rw (whole, closes_again body mid h, size_is, take-append_seam body (42 ∷ 47 ∷ mid)) refl
piece_finds (word s []) mid h = absurd h.2
piece_finds (word s (b ∷ bs)) mid h =
    let first = both_true (is_word b) (list_all is_word bs) h.0 in
    let n : prefix_len is_word (b ∷ (bs ++ mid)) ≡ length (b ∷ bs) = run_again is_word (b ∷ bs) mid h.0 (ends_word mid h.1) in
    let text_is : run_of (b ∷ (bs ++ mid)) ≡ b ∷ bs = ap (λ (k : ℕ). take k (b ∷ (bs ++ mid))) n ∙ take-append_seam (b ∷ bs) mid in
    found (run_of (b ∷ (bs ++ mid))) text_is (not_blank b first.0) first.0
  where
    found : (text : List ℕ) → text ≡ b ∷ bs → is_blank b ≡ false → is_word b ≡ true → cond (is_blank b) (Some (blank b)) (cond (is_word b) (word_of text >>= λ k. Some (word k text)) (comment_or_mark (b ∷ (bs ++ mid)))) ≡ Some (word s (b ∷ bs))
    found text e p q = rw (p, q, e, word_complete (b ∷ bs) s q h.2) refl
piece_finds (mark_at m) mid h =
    mark_first m h.no_word mid ∙ rw (starts_not (text_of m ++ mid) (47 ∷ 47 ∷ []) (λ rest e. (h.no_comment rest).0 e), starts_not (text_of m ++ mid) (47 ∷ 42 ∷ []) (λ rest e. (h.no_comment rest).1 e), mark_complete m mid h) refl
