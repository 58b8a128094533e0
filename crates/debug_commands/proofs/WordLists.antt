-- The words read so far.
use Rattle.std.proofs.Common.{◌≡◌, ℕ, zero, suc, ◌<◌, List, [], ◌∷◌, ◌++◌, length, drop, Option, None, sym, ap, ◌∙◌, arith, append_assoc, append-nil, length-append}
use Rattle.std.proofs.lemmas.List.{length-map, map-append}
use Rattle.std.specs.Borrow.{Bor}
use Rattle.gang_model.specs.Texts.Spellings.{Word}
use Rattle.gang_model.specs.Texts.CommandText.{words_behind}
use Rattle.debug_commands.specs.LineWords.{texts}

-- one more word is read
pub one_more : (items items' : List (Bor (List ℕ))) (w : Bor (List ℕ)) (rest after all : List Word) → items' ≡ items ++ w ∷ [] → rest ≡ w.now ∷ after
    → texts items ++ rest ≡ all → texts items' ++ after ≡ all
one_more items items' w rest after all more is so_far =
    ap (λ ws. texts ws ++ after) more ∙ ap (λ ws. ws ++ after) (map-append (λ (v : Bor (List ℕ)). v.now) items (w ∷ [])) ∙ append_assoc (texts items) (w.now ∷ []) after
    ∙ ap (λ ws. texts items ++ ws) (sym is) ∙ so_far

-- there is a word behind as many as there is room for
pub too_many : (items : List (Bor (List ℕ))) (w : Word) (rest after all : List Word) → length items ≡ 8 → rest ≡ w ∷ after → texts items ++ rest ≡ all → 8 < length all
too_many items w rest after all full is so_far =
    omega (arith, ap length so_far, ap length is, length-append (texts items) rest, length-map items (λ (v : Bor (List ℕ)). v.now))

-- no word is left
pub all_words : (items : List (Bor (List ℕ))) (rest all : List Word) → rest ≡ [] → texts items ++ rest ≡ all → texts items ≡ all
all_words items rest all is so_far = sym (append-nil (texts items)) ∙ ap (λ ws. texts items ++ ws) (sym is) ∙ so_far

-- a command's words go on, and the line's do not
pub no_more : (command rest : List (Bor (List ℕ))) (i : ℕ) (behind : Option (List Word)) → i < length command → length rest < 1
    → words_behind (texts (drop i command)) (texts rest) ≡ behind → None ≡ behind
no_more [] rest i behind lt few is = absurd (omega arith)
no_more (c ∷ cs) [] zero behind lt few is = is
no_more (c ∷ cs) (w ∷ ws) zero behind lt few is = absurd (omega arith)
no_more (c ∷ cs) rest (suc i) behind lt few is = no_more cs rest i behind (omega arith) few is
