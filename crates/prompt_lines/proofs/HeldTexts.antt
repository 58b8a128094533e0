-- What is held of a text, byte after byte.
use Rattle.std.proofs.Common.{◌≡◌, ℕ, zero, suc, ◌+◌, ◌<◌, List, [], ◌∷◌, ◌++◌, length, take, get_or, refl, sym, ap, ◌∙◌, arith, append_assoc, take_all, length-append}
use Rattle.std.proofs.lemmas.List.{take_at, take_more}
use Rattle.prompt_lines.specs.Words.{held_text}

take_again : (n : ℕ) (front rest : List ℕ) → take n (take n front ++ rest) ≡ take n (front ++ rest)
take_again zero front rest = refl
take_again (suc n) [] rest = refl
take_again (suc n) (b ∷ front) rest = ap (λ l. b ∷ l) (take_again n front rest)

-- what is held of a front of a text, and then of more of it
pub held_on : (front rest : List ℕ) → held_text (held_text front ++ rest) ≡ held_text (front ++ rest)
held_on front rest = take_again 257 front rest

-- where 257 bytes are held, no other is
pub held_full : (held : List ℕ) (b : ℕ) → length held ≡ 257 → held ≡ held_text (held ++ b ∷ [])
held_full held b full = sym (take_at held (b ∷ []) 257 full)

-- where fewer are, the byte is
pub held_more : (held held' : List ℕ) (b : ℕ) → length held < 257 → held' ≡ held ++ b ∷ [] → held' ≡ held_text (held ++ b ∷ [])
held_more held held' b room is = is ∙ sym (take_all 257 (held ++ b ∷ []) (omega (arith, length-append held (b ∷ []))))

-- one byte more of a text is held
pub held_byte : (old held held' bytes : List ℕ) (i : ℕ) → i < length bytes → held ≡ held_text (old ++ take i bytes) → held' ≡ held_text (held ++ get_or bytes i 0 ∷ [])
    → held' ≡ held_text (old ++ take (i + 1) bytes)
held_byte old held held' bytes i inside is more =
    more ∙ ap (λ l. held_text (l ++ get_or bytes i 0 ∷ [])) is ∙ held_on (old ++ take i bytes) (get_or bytes i 0 ∷ [])
    ∙ ap held_text (append_assoc old (take i bytes) (get_or bytes i 0 ∷ []) ∙ ap (λ l. old ++ l) (sym (take_more bytes i 0 inside)))

-- a text, a blank and another text
pub held_joined : (own rest : List ℕ) → held_text (held_text (held_text own ++ 32 ∷ []) ++ rest) ≡ held_text (own ++ 32 ∷ rest)
held_joined own rest =
    held_on (held_text own ++ 32 ∷ []) rest ∙ ap held_text (append_assoc (held_text own) (32 ∷ []) rest) ∙ held_on own (32 ∷ rest)
