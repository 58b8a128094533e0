-- The first word of a line.
use Rattle.std.proofs.Common.{◌≡◌, ℕ, ◌+◌, ◌-◌, ◌<◌, ◌≤◌, List, [], ◌∷◌, ◌++◌, length, take, drop, get_or, Bool, true, false, cond, ◌&&◌, refl, sym, ap, ◌∙◌, arith, one-add, append_assoc, append-nil}
use Rattle.std.specs.Prelude.{not, if◌then◌else◌}
use Rattle.std.specs.List.{prefix_len}
use Rattle.std.proofs.lemmas.Grind.{common_steps}
use Rattle.gang_model.specs.Texts.Spellings.{Word, is_blank, before, words_after, words_of_line}

-- neither a blank nor a mark
abbrev plain_by : (ℕ → Bool) → ℕ → Bool
plain_by is_mark byte = not (is_blank byte) && not (is_mark byte)

-- the words behind one that has begun, at a next byte of which it is known whether it is blank or a mark
abbrev at_byte : (is_mark : ℕ → Bool) (blank mark : Bool) → Word → ℕ → List ℕ → List Word
at_byte is_mark blank mark word byte bytes =
    if blank then before word (words_after is_mark [] bytes)
    else (if mark then before word ((byte ∷ []) ∷ words_after is_mark [] bytes)
    else words_after is_mark (word ++ byte ∷ []) bytes)

pub blanks_skipped : (is_mark : ℕ → Bool) (line : List ℕ) → words_of_line is_mark line ≡ words_of_line is_mark (drop (prefix_len is_blank line) line)
blanks_skipped is_mark [] = refl
blanks_skipped is_mark (b ∷ bs) = skip (is_blank b) refl (blanks_skipped is_mark bs)
  where
    skip : (t : Bool) → is_blank b ≡ t → words_of_line is_mark bs ≡ words_of_line is_mark (drop (prefix_len is_blank bs) bs)
        → words_of_line is_mark (b ∷ bs) ≡ words_of_line is_mark (drop (cond t (1 + prefix_len is_blank bs) 0) (b ∷ bs))
    skip true e rest = ap (λ t. at_byte is_mark t (is_mark b) [] b bs) e ∙ rest
        ∙ ap (λ k. words_of_line is_mark (drop k (b ∷ bs))) (sym (one-add (prefix_len is_blank bs)))
    skip false e rest = refl

-- the word goes on up to the first blank or mark
word_goes_on : (is_mark : ℕ → Bool) (word xs : List ℕ) → words_after is_mark word xs ≡ words_after is_mark (word ++ take (prefix_len (plain_by is_mark) xs) xs) (drop (prefix_len (plain_by is_mark) xs) xs)
word_goes_on is_mark word [] = ap (λ w. words_after is_mark w []) (sym (append-nil word))
word_goes_on is_mark word (b ∷ bs) = go (is_blank b) (is_mark b) refl refl (word_goes_on is_mark (word ++ b ∷ []) bs)
  where
    here : (n : ℕ) → n ≡ 0 → words_after is_mark word (b ∷ bs) ≡ words_after is_mark (word ++ take n (b ∷ bs)) (drop n (b ∷ bs))
    here n e = ap (λ w. words_after is_mark w (b ∷ bs)) (sym (append-nil word)) ∙ ap (λ k. words_after is_mark (word ++ take k (b ∷ bs)) (drop k (b ∷ bs))) (sym e)

    go : (t u : Bool) → is_blank b ≡ t → is_mark b ≡ u
        → words_after is_mark (word ++ b ∷ []) bs ≡ words_after is_mark ((word ++ b ∷ []) ++ take (prefix_len (plain_by is_mark) bs) bs) (drop (prefix_len (plain_by is_mark) bs) bs)
        → words_after is_mark word (b ∷ bs)
        ≡ words_after is_mark (word ++ take (cond (not t && not u) (1 + prefix_len (plain_by is_mark) bs) 0) (b ∷ bs)) (drop (cond (not t && not u) (1 + prefix_len (plain_by is_mark) bs) 0) (b ∷ bs))
    go true u e f rest = here 0 refl
    go false true e f rest = here 0 refl
    go false false e f rest = ap (λ t. at_byte is_mark t (is_mark b) word b bs) e ∙ ap (λ u. at_byte is_mark false u word b bs) f ∙ rest
        ∙ ap (λ w. words_after is_mark w (drop (prefix_len (plain_by is_mark) bs) bs)) (append_assoc word (b ∷ []) (take (prefix_len (plain_by is_mark) bs) bs))
        ∙ ap (λ k. words_after is_mark (word ++ take k (b ∷ bs)) (drop k (b ∷ bs))) (sym (one-add (prefix_len (plain_by is_mark) bs)))

-- a word that has begun ends before a blank, a mark or the line's end
word_ends : (is_mark : ℕ → Bool) (w : ℕ) (ws xs : List ℕ) → words_after is_mark (w ∷ ws) (drop (prefix_len (plain_by is_mark) xs) xs) ≡ (w ∷ ws) ∷ words_of_line is_mark (drop (prefix_len (plain_by is_mark) xs) xs)
word_ends is_mark w ws [] = refl
word_ends is_mark w ws (b ∷ bs) = go (plain_by is_mark b) refl (word_ends is_mark w ws bs)
  where
    ends : (t u : Bool) → (not t && not u) ≡ false → at_byte is_mark t u (w ∷ ws) b bs ≡ (w ∷ ws) ∷ at_byte is_mark t u [] b bs
    ends true u e = refl
    ends false true e = refl
    ends false false e = absurd cc

    go : (t : Bool) → plain_by is_mark b ≡ t
        → words_after is_mark (w ∷ ws) (drop (prefix_len (plain_by is_mark) bs) bs) ≡ (w ∷ ws) ∷ words_of_line is_mark (drop (prefix_len (plain_by is_mark) bs) bs)
        → words_after is_mark (w ∷ ws) (drop (cond t (1 + prefix_len (plain_by is_mark) bs) 0) (b ∷ bs))
        ≡ (w ∷ ws) ∷ words_of_line is_mark (drop (cond t (1 + prefix_len (plain_by is_mark) bs) 0) (b ∷ bs))
    go true e rest = ap (λ k. words_after is_mark (w ∷ ws) (drop k (b ∷ bs))) (one-add (prefix_len (plain_by is_mark) bs)) ∙ rest
        ∙ ap (λ k. (w ∷ ws) ∷ words_of_line is_mark (drop k (b ∷ bs))) (sym (one-add (prefix_len (plain_by is_mark) bs)))
    go false e rest = ends (is_blank b) (is_mark b) e

-- the length of the first word of a line that does not begin with a blank
abbrev pub first_len : (is_mark : ℕ → Bool) → List ℕ → ℕ
first_len is_mark [] = 0
first_len is_mark (b ∷ bs) = if is_mark b then 1 else prefix_len (plain_by is_mark) (b ∷ bs)

-- what follows the line's blanks, with its first word cut off
first_word : (is_mark : ℕ → Bool) (b : ℕ) (bs : List ℕ) → is_blank b ≡ false
    → words_of_line is_mark (b ∷ bs) ≡ take (first_len is_mark (b ∷ bs)) (b ∷ bs) ∷ words_of_line is_mark (drop (first_len is_mark (b ∷ bs)) (b ∷ bs))
first_word is_mark b bs e = go (is_mark b) refl
  where
    cut : (n : ℕ) → n ≡ cond (not false && not false) (1 + prefix_len (plain_by is_mark) bs) 0
        → words_after is_mark (b ∷ []) bs ≡ take n (b ∷ bs) ∷ words_of_line is_mark (drop n (b ∷ bs))
    cut n is = word_goes_on is_mark (b ∷ []) bs ∙ word_ends is_mark b (take (prefix_len (plain_by is_mark) bs) bs) bs
        ∙ ap (λ k. take k (b ∷ bs) ∷ words_of_line is_mark (drop k (b ∷ bs))) (sym (is ∙ one-add (prefix_len (plain_by is_mark) bs)))

    plain : (t u : Bool) → is_blank b ≡ t → is_mark b ≡ u → prefix_len (plain_by is_mark) (b ∷ bs) ≡ cond (not t && not u) (1 + prefix_len (plain_by is_mark) bs) 0
    plain t u p q = ap (λ v. cond (not v && not (is_mark b)) (1 + prefix_len (plain_by is_mark) bs) 0) p ∙ ap (λ v. cond (not t && not v) (1 + prefix_len (plain_by is_mark) bs) 0) q

    go : (u : Bool) → is_mark b ≡ u → words_of_line is_mark (b ∷ bs)
        ≡ take (if u then 1 else prefix_len (plain_by is_mark) (b ∷ bs)) (b ∷ bs) ∷ words_of_line is_mark (drop (if u then 1 else prefix_len (plain_by is_mark) (b ∷ bs)) (b ∷ bs))
    go true f = ap (λ t. at_byte is_mark t (is_mark b) [] b bs) e ∙ ap (λ u. at_byte is_mark false u [] b bs) f
    go false f = ap (λ t. at_byte is_mark t (is_mark b) [] b bs) e ∙ ap (λ u. at_byte is_mark false u [] b bs) f ∙ cut (prefix_len (plain_by is_mark) (b ∷ bs)) (plain false false e f)

-- a line's words, by what follows its blanks
pub first_and_rest : (is_mark : ℕ → Bool) (line rest : List ℕ) (first len : ℕ) → rest ≡ drop (prefix_len is_blank line) line → 0 < length rest → first ≡ get_or rest 0 0
    → len ≡ (if is_mark first then 1 else prefix_len (plain_by is_mark) rest)
    → words_of_line is_mark line ≡ take len rest ∷ words_of_line is_mark (drop len rest)
first_and_rest is_mark line [] first len is some at long = absurd (omega arith)
first_and_rest is_mark line (b ∷ bs) first len is some at long = blanks_skipped is_mark line ∙ ap (words_of_line is_mark) (sym is)
    ∙ first_word is_mark b bs (ends_blanks line b bs is)
    ∙ ap (λ k. take k (b ∷ bs) ∷ words_of_line is_mark (drop k (b ∷ bs))) (sym (long ∙ ap (λ x. if is_mark x then 1 else prefix_len (plain_by is_mark) (b ∷ bs)) at))
  where
    ends_blanks : (line : List ℕ) (b : ℕ) (bs : List ℕ) → b ∷ bs ≡ drop (prefix_len is_blank line) line → is_blank b ≡ false
    ends_blanks [] b bs e = absurd cc
    ends_blanks (x ∷ xs) b bs e = go (is_blank x) refl e (ends_blanks xs b bs)
      where
        go : (t : Bool) → is_blank x ≡ t → b ∷ bs ≡ drop (cond t (1 + prefix_len is_blank xs) 0) (x ∷ xs) → (b ∷ bs ≡ drop (prefix_len is_blank xs) xs → is_blank b ≡ false) → is_blank b ≡ false
        go true p q rest = rest (q ∙ ap (λ k. drop k (x ∷ xs)) (one-add (prefix_len is_blank xs)))
        go false p q rest = let same : b ≡ x = cc in ap is_blank same ∙ p

pub no_word : (is_mark : ℕ → Bool) (line : List ℕ) → length (drop (prefix_len is_blank line) line) ≤ 0 → words_of_line is_mark line ≡ []
no_word is_mark line le = blanks_skipped is_mark line ∙ none (drop (prefix_len is_blank line) line) le
  where
    none : (rest : List ℕ) → length rest ≤ 0 → words_of_line is_mark rest ≡ []
    none [] h = refl
    none (x ∷ xs) h = absurd (omega arith)

pub tail_is : (line : List ℕ) (n m : ℕ) → n ≡ m → take (length line - n) (drop n line) ≡ drop m line
tail_is line n m e = grind (arith, common_steps, e)
