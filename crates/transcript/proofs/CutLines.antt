-- The lines of bytes that come in two parts, and what is held of a line.
use Rattle.std.proofs.Common.{◌≡◌, ◌≢◌, ℕ, zero, suc, ◌+◌, ◌<◌, true, false, [], ◌∷◌, ◌++◌, length, take, drop, get_or, None, nat_lt, refl, sym, ap, ◌∙◌, inl, inr, arith, append_assoc, append-nil, take_all, take-append-drop, length-append, length-take}
use Rattle.std.specs.Prelude.{◌==◌}
use Rattle.std.proofs.lemmas.Bool.{cases_lt, cases_Bool}
use Rattle.std.proofs.lemmas.Bool.Decides.{nat_tests}
use Rattle.std.proofs.lemmas.List.{drop_more, nil_from_length, take_at, take_more}
use Rattle.gang_model.specs.Texts.CommandText.{command_of}
use Rattle.gang_model.specs.Texts.Text.{Bytes}
use Rattle.gang_model.specs.Texts.Transcript.{complete_lines_after, lines_after, lines_of}
use Rattle.transcript.specs.Answered.{begun_after, held_of, line_alone}

-- ---- lines

-- the lines that end in two pieces
pub complete_split : (begun came more : Bytes) → complete_lines_after begun (came ++ more) ≡ complete_lines_after begun came ++ complete_lines_after (begun_after begun came) more
complete_split begun [] more = refl
complete_split begun (b ∷ came) more = elim (cases_Bool (b == 10)) [
  | inl e ↦ rw e (ap (λ l. begun ∷ l) (complete_split [] came more))
  | inr e ↦ rw e (complete_split (begun ++ b ∷ []) came more)
]

-- the line that has begun behind two pieces
pub begun_split : (begun came more : Bytes) → begun_after begun (came ++ more) ≡ begun_after (begun_after begun came) more
begun_split begun [] more = refl
begun_split begun (b ∷ came) more = elim (cases_Bool (b == 10)) [
  | inl e ↦ rw e (begun_split [] came more)
  | inr e ↦ rw e (begun_split (begun ++ b ∷ []) came more)
]

-- all lines: those that end in the bytes that came, and the others
pub lines_split : (begun came more : Bytes) → lines_after begun (came ++ more) ≡ complete_lines_after begun came ++ lines_after (begun_after begun came) more
lines_split begun [] more = refl
lines_split begun (b ∷ came) more = elim (cases_Bool (b == 10)) [
  | inl e ↦ rw e (ap (λ l. begun ∷ l) (lines_split [] came more))
  | inr e ↦ rw e (lines_split (begun ++ b ∷ []) came more)
]

-- the last line may lack its line feed
pub lines_end : (came : Bytes) → lines_of came ≡ complete_lines_after [] came ++ line_alone (begun_after [] came)
lines_end came = ap lines_of (sym (append-nil came)) ∙ lines_split [] came []

other_byte : (b : ℕ) → b ≢ 10 → (b == 10) ≡ false
other_byte b other = grind (arith, nat_tests)

-- at a byte that is no line feed no line ends
pub none_ended : (begun : Bytes) (b : ℕ) → b ≢ 10 → complete_lines_after begun (b ∷ []) ≡ []
none_ended begun b other = rw (other_byte b other) refl

pub begun_byte : (begun : Bytes) (b : ℕ) → b ≢ 10 → begun_after begun (b ∷ []) ≡ begun ++ b ∷ []
begun_byte begun b other = rw (other_byte b other) refl

-- ---- a piece at one of its bytes

pub piece_at : (piece : Bytes) (i b : ℕ) → i < length piece → get_or piece i 0 ≡ b → piece ≡ (take i piece ++ b ∷ []) ++ drop (i + 1) piece
piece_at piece i b h e =
    sym (take-append-drop i piece) ∙ ap (λ l. take i piece ++ l) (drop_more piece i 0 h ∙ ap (λ x. x ∷ drop (i + 1) piece) e) ∙ sym (append_assoc (take i piece) (b ∷ []) (drop (i + 1) piece))

pub take_at_byte : (piece : Bytes) (i b : ℕ) → i < length piece → get_or piece i 0 ≡ b → take (i + 1) piece ≡ take i piece ++ b ∷ []
take_at_byte piece i b h e = take_more piece i 0 h ∙ ap (λ x. take i piece ++ x ∷ []) e

-- ---- what is held of a line

take_again : (n : ℕ) (front rest : Bytes) → take n (take n front ++ rest) ≡ take n (front ++ rest)
take_again zero front rest = refl
take_again (suc n) [] rest = refl
take_again (suc n) (b ∷ front) rest = ap (λ l. b ∷ l) (take_again n front rest)

-- one more byte
pub held_byte : (begun held held' : Bytes) (b : ℕ) → held ≡ held_of begun → held' ≡ held_of (held ++ b ∷ []) → held' ≡ held_of (begun ++ b ∷ [])
held_byte begun held held' b is more = more ∙ ap (λ l. held_of (l ++ b ∷ [])) is ∙ take_again 257 begun (b ∷ [])

-- where 257 bytes are held, no other is
pub held_full : (held : Bytes) (b : ℕ) → length held ≡ 257 → held ≡ held_of (held ++ b ∷ [])
held_full held b full = sym (take_at held (b ∷ []) 257 full)

-- where fewer are, the byte is
pub held_more : (held held' : Bytes) (b : ℕ) → length held < 257 → held' ≡ held ++ b ∷ [] → held' ≡ held_of (held ++ b ∷ [])
held_more held held' b room is = is ∙ sym (take_all 257 (held ++ b ∷ []) (omega (arith, length-append held (b ∷ []))))

-- of an empty line nothing is held, and only of that
pub none_held : (begun held : Bytes) → held ≡ held_of begun → length held ≡ 0 → begun ≡ []
none_held begun held is empty = nil_from_length begun (omega (arith, length-take 257 begun, ap length is))

-- a line of more than 256 bytes spells no command
long_line : (line : Bytes) → nat_lt 256 (length line) ≡ true → command_of line ≡ None
long_line line long = rw long refl

-- what is held of a line spells what the line spells
pub held_spells : (line : Bytes) → command_of (held_of line) ≡ command_of line
held_spells line = elim (cases_lt 256 (length line)) [
  | inl long ↦
      let kept : length (held_of line) ≡ 257 = omega (arith, length-take 257 line) in
      let first : nat_lt 256 (length (held_of line)) ≡ true = grind (arith, nat_tests) in
      let second : nat_lt 256 (length line) ≡ true = grind (arith, nat_tests) in
      long_line (held_of line) first ∙ sym (long_line line second)
  | inr short ↦ ap command_of (take_all 257 line (omega arith))
]
