-- What is left of a text without its codes, part after part.
use Rattle.std.proofs.Common.{zero, suc, ◌≡◌, ◌∙◌, ◌==◌, ◌||◌, ◌⊎◌, ◌<◌, ℕ, Bool, true, false, true≢false, List, [], ◌∷◌, ◌++◌, length, slice_index_or, Result, Ok, Err, OnOk, refl, ap, sym, inl, inr, append_assoc, append-nil, if◌then◌else◌, arith}
use Rattle.terminal_lines.specs.declared.inks.Ink.{Ink}
use Rattle.terminal_lines.specs.declared.inks.Ink.TheVariants.{Plain, Active, Waiting, Here, Changed}
use Rattle.terminal_lines.specs.Colours.{AddsColoured, code, has_escape, visible, without_codes}

-- a code goes
no_code : (ink : Ink) (rest : List ℕ) → without_codes (code ink ++ rest) ≡ without_codes rest
no_code Plain rest = refl
no_code Active rest = refl
no_code Waiting rest = refl
no_code Here rest = refl
no_code Changed rest = refl

-- and a byte stays that is no escape
byte_stays : (byte : ℕ) (rest : List ℕ) → (byte == 27) ≡ false → without_codes (byte ∷ rest) ≡ byte ∷ without_codes rest
byte_stays byte rest free = ap (λ b. if b then visible true rest else byte ∷ visible false rest) free

-- without its codes what was added is a text, and what may follow begins behind it
abbrev IsLeft : (front added : List ℕ) → Type 0
IsLeft front added = (rest : List ℕ) → without_codes (added ++ rest) ≡ front ++ without_codes rest

-- what was added to a text is the front of a line, if that has no escape
abbrev pub Adds : (initial line front now : List ℕ) → Type 0
Adds initial line front now = (added : List ℕ) × (now ≡ initial ++ added) × (has_escape line ≡ false → IsLeft front added)

with_code : (ink : Ink) (front added : List ℕ) → IsLeft front added → IsLeft front (added ++ code ink)
with_code ink front added left rest = ap without_codes (append_assoc added (code ink) rest) ∙ left (code ink ++ rest) ∙ ap (λ t. front ++ t) (no_code ink rest)

with_byte : (byte : ℕ) (front added : List ℕ) → (byte == 27) ≡ false → IsLeft front added → IsLeft (front ++ byte ∷ []) (added ++ byte ∷ [])
with_byte byte front added free left rest =
    ap without_codes (append_assoc added (byte ∷ []) rest) ∙ left (byte ∷ rest) ∙ ap (λ t. front ++ t) (byte_stays byte rest free)
    ∙ sym (append_assoc front (byte ∷ []) (without_codes rest))

-- nothing was added yet
pub none_added : (initial line : List ℕ) → Adds initial line [] initial
none_added initial line = ([], sym (append-nil initial), λ free rest. refl)

-- a code or nothing was added
pub code_added : (ink : Ink) (initial line front before after : List ℕ) → Adds initial line front before
    → (after ≡ before) ⊎ (after ≡ before ++ code ink) → Adds initial line front after
code_added ink initial line front before after adds (inl same) = (adds.0, same ∙ adds.1, adds.2)
code_added ink initial line front before after adds (inr more) = (
  adds.0 ++ code ink,
  more ∙ ap (λ t. t ++ code ink) adds.1 ∙ append_assoc initial adds.0 (code ink),
  λ free. with_code ink front adds.0 (adds.2 free),
)

either_left : (a b : Bool) → (a || b) ≡ false → a ≡ false
either_left false b free = refl
either_left true b free = absurd (true≢false free)

either_right : (a b : Bool) → (a || b) ≡ false → b ≡ false
either_right false b free = free
either_right true b free = absurd (true≢false free)

no_escape_at : (line : List ℕ) (at d : ℕ) → has_escape line ≡ false → at < length line → (slice_index_or line at d == 27) ≡ false
no_escape_at [] at d free lt = absurd (omega arith)
no_escape_at (byte ∷ rest) zero d free lt = either_left (byte == 27) (has_escape rest) free
no_escape_at (byte ∷ rest) (suc at) d free lt = no_escape_at rest at d (either_right (byte == 27) (has_escape rest) free) (omega arith)

-- a byte of the line was added
pub byte_added : (at d : ℕ) (initial line front before after : List ℕ) → at < length line → Adds initial line front before
    → after ≡ before ++ slice_index_or line at d ∷ [] → Adds initial line (front ++ slice_index_or line at d ∷ []) after
byte_added at d initial line front before after lt adds more =
    let byte = slice_index_or line at d in (
      adds.0 ++ byte ∷ [],
      more ∙ ap (λ t. t ++ byte ∷ []) adds.1 ∙ append_assoc initial adds.0 (byte ∷ []),
      λ free. with_byte byte front adds.0 (no_escape_at line at d free lt) (adds.2 free),
    )

-- the whole line was added
pub all_added : (initial line now : List ℕ) → Adds initial line line now → AddsColoured line initial now
all_added initial line now adds = (adds.0, adds.1, λ free. ap without_codes (sym (append-nil adds.0)) ∙ adds.2 free [] ∙ append-nil line)

-- what holds on success, from what else holds there
pub on_ok : {T E : Type 0} (result : Result T E) (P Q : Type 0) → (P → Q) → OnOk result P → OnOk result Q
on_ok (Ok value) P Q goes held = goes held
on_ok (Err fault) P Q goes held = tt
