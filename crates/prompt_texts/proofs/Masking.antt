-- A text as a terminal may have it, byte by byte.
use Rattle.std.proofs.Common.{zero, suc, ◌≡◌, ◌∙◌, ◌||◌, ◌<◌, ℕ, Bool, true, false, List, [], ◌∷◌, get_or, length, map, refl, ap, if◌then◌else◌, arith}
use Rattle.std.specs.List.{list_any}
use Rattle.std.specs.Prelude.{zip}
use Rattle.prompt_texts.specs.Shown.{ends_large_control, is_small_control, masked, shown_byte}

-- a text behind a byte
abbrev behind : ℕ → List ℕ → List ℕ
behind before text = map (λ p. shown_byte p.0 p.1) (zip (before ∷ text) text)

length-behind : (before : ℕ) (text : List ℕ) → length (behind before text) ≡ length text
length-behind before [] = refl
length-behind before (byte ∷ rest) = ap suc (length-behind byte rest)

pub length-masked : (text : List ℕ) → length (masked text) ≡ length text
length-masked text = length-behind 0 text

behind_at : (before : ℕ) (text : List ℕ) (at : ℕ) → at < length text
    → get_or (behind before text) at 0 ≡ shown_byte (get_or (before ∷ text) at 0) (get_or text at 0)
behind_at before [] at inside = absurd (omega (inside, arith))
behind_at before (byte ∷ rest) zero inside = refl
behind_at before (byte ∷ rest) (suc at) inside = behind_at byte rest at (omega (inside, arith))

-- the byte at a place
pub masked_at : (text : List ℕ) (at : ℕ) → at < length text → get_or (masked text) at 0 ≡ shown_byte (get_or (0 ∷ text) at 0) (get_or text at 0)
masked_at text at inside = behind_at 0 text at inside

shows_none : (before byte : ℕ) → is_small_control (shown_byte before byte) ≡ false
shows_none before byte = go (is_small_control byte) (ends_large_control before byte) refl refl
  where
    go : (small large : Bool) → is_small_control byte ≡ small → ends_large_control before byte ≡ large → is_small_control (shown_byte before byte) ≡ false
    go true large is ends = ap (λ b. is_small_control (if b || ends_large_control before byte then 63 else byte)) is
    go false true is ends = ap (λ b. is_small_control (if b || ends_large_control before byte then 63 else byte)) is ∙ ap (λ b. is_small_control (if b then 63 else byte)) ends
    go false false is ends =
        ap (λ b. is_small_control (if b || ends_large_control before byte then 63 else byte)) is ∙ ap (λ b. is_small_control (if b then 63 else byte)) ends ∙ is

none_behind : (before : ℕ) (text : List ℕ) → list_any is_small_control (behind before text) ≡ false
none_behind before [] = refl
none_behind before (byte ∷ rest) = ap (λ b. b || list_any is_small_control (behind byte rest)) (shows_none before byte) ∙ none_behind byte rest

-- no byte of a masked text is a control of one byte
pub no_control : (text : List ℕ) → list_any is_small_control (masked text) ≡ false
no_control text = none_behind 0 text
