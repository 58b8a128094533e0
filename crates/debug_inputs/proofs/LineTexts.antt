-- The first line of a text, and the lines behind it.
use Rattle.std.proofs.Common.{◌≡◌, ℕ, ◌+◌, ◌<◌, List, [], ◌∷◌, ◌++◌, length, take, drop, Bool, true, false, cond, refl, sym, ap, ◌∙◌, arith, one-add, append_assoc, append-nil}
use Rattle.std.specs.Prelude.{◌==◌, not, if◌then◌else◌}
use Rattle.std.specs.List.{prefix_len}
use Rattle.gang_model.specs.Texts.Transcript.{lines_after, lines_of}
use Rattle.debug_inputs.specs.Lines.{is_inside}

-- the lines behind a line, whose line feed comes first
abbrev behind_feed : List ℕ → List (List ℕ)
behind_feed [] = []
behind_feed (b ∷ bs) = lines_of bs

line_ends : (begun text : List ℕ) → lines_after begun text ≡ (begun ++ take (prefix_len is_inside text) text) ∷ behind_feed (drop (prefix_len is_inside text) text)
line_ends begun [] = ap (λ l. l ∷ []) (sym (append-nil begun))
line_ends begun (b ∷ bs) = go (b == 10) (line_ends (begun ++ b ∷ []) bs)
  where
    go : (t : Bool) → lines_after (begun ++ b ∷ []) bs ≡ ((begun ++ b ∷ []) ++ take (prefix_len is_inside bs) bs) ∷ behind_feed (drop (prefix_len is_inside bs) bs)
        → (if t then begun ∷ lines_after [] bs else lines_after (begun ++ b ∷ []) bs)
        ≡ (begun ++ take (cond (not t) (1 + prefix_len is_inside bs) 0) (b ∷ bs)) ∷ behind_feed (drop (cond (not t) (1 + prefix_len is_inside bs) 0) (b ∷ bs))
    go true later = ap (λ l. l ∷ lines_of bs) (sym (append-nil begun))
    go false later = later
        ∙ (ap (λ l. l ∷ behind_feed (drop (prefix_len is_inside bs) bs)) (append_assoc begun (b ∷ []) (take (prefix_len is_inside bs) bs))
        ∙ ap (λ k. (begun ++ take k (b ∷ bs)) ∷ behind_feed (drop k (b ∷ bs))) (sym (one-add (prefix_len is_inside bs))))

-- nothing follows the line
pub last_line : (text line rest : List ℕ) (n : ℕ) → n ≡ prefix_len is_inside text → line ≡ take n text → rest ≡ drop n text → length rest ≡ 0 → lines_of text ≡ line ∷ []
last_line text line rest n long is behind none =
    line_ends [] text ∙ (ap (λ k. take k text ∷ behind_feed (drop k text)) (sym long) ∙ (ap (λ l. l ∷ behind_feed (drop n text)) (sym is) ∙ (ap (λ r. line ∷ behind_feed r) (sym behind) ∙ empty rest none)))
  where
    empty : (r : List ℕ) → length r ≡ 0 → line ∷ behind_feed r ≡ line ∷ []
    empty [] e = refl
    empty (x ∷ xs) e = absurd (omega arith)

-- more lines follow
pub more_lines : (text line rest after : List ℕ) (n : ℕ) → n ≡ prefix_len is_inside text → line ≡ take n text → rest ≡ drop n text → 0 < length rest → after ≡ drop 1 rest
    → lines_of text ≡ line ∷ lines_of after
more_lines text line rest after n long is behind some next =
    line_ends [] text ∙ (ap (λ k. take k text ∷ behind_feed (drop k text)) (sym long) ∙ (ap (λ l. l ∷ behind_feed (drop n text)) (sym is) ∙ (ap (λ r. line ∷ behind_feed r) (sym behind) ∙ filled rest some next)))
  where
    filled : (r : List ℕ) → 0 < length r → after ≡ drop 1 r → line ∷ behind_feed r ≡ line ∷ lines_of after
    filled [] lt e = absurd (omega arith)
    filled (x ∷ xs) lt e = ap (λ r. line ∷ lines_of r) (sym e)
