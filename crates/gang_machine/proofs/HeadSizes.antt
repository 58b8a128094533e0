-- The sizes of the parts of a head with one level more.
use Rattle.std.proofs.Common.{ℕ, zero, suc, ◌+◌, ◌≡◌, refl, sym, ◌∙◌, ap, arith, List, [], ◌∷◌, ◌++◌, append_assoc}
use Rattle.machine_words.specs.Ranges.{head_sizes, level_sizes}

one_more_level : (w levels : ℕ) → level_sizes w (suc levels) ≡ level_sizes w levels ++ (1 ∷ 9 ∷ w ∷ w ∷ [])
one_more_level w zero = refl
one_more_level w (suc levels) = ap (λ sizes. 1 ∷ 9 ∷ w ∷ w ∷ sizes) (one_more_level w levels)

pub head_more : (w levels : ℕ) → head_sizes w (levels + 1) ≡ head_sizes w levels ++ (1 ∷ 9 ∷ w ∷ w ∷ [])
head_more w levels =
    let next : levels + 1 ≡ suc levels = omega arith in
    ap (head_sizes w) next ∙ ap (λ sizes. 1 ∷ 1 ∷ 1 ∷ w ∷ 1 ∷ w ∷ sizes) (one_more_level w levels)

-- four words are pushed one after another
pub four_pushed : (w levels : ℕ) (sizes one two three four : List ℕ) → sizes ≡ head_sizes w levels → one ≡ sizes ++ 1 ∷ [] → two ≡ one ++ 9 ∷ [] → three ≡ two ++ w ∷ [] → four ≡ three ++ w ∷ []
    → four ≡ head_sizes w (levels + 1)
four_pushed w levels sizes one two three four is first second third fourth =
    fourth
    ∙ ap (λ l. l ++ w ∷ []) (third ∙ ap (λ l. l ++ w ∷ []) (second ∙ ap (λ l. l ++ 9 ∷ []) first))
    ∙ regrouped sizes
    ∙ ap (λ l. l ++ 1 ∷ 9 ∷ w ∷ w ∷ []) is
    ∙ sym (head_more w levels)
  where
    regrouped : (l : List ℕ) → (((l ++ 1 ∷ []) ++ 9 ∷ []) ++ w ∷ []) ++ w ∷ [] ≡ l ++ 1 ∷ 9 ∷ w ∷ w ∷ []
    regrouped l = simp append_assoc
