-- Reads that come in turn with what is written, and one read more.
use Rattle.std.proofs.Common.{◌≡◌, ◌≢◌, ℕ, ◌≤◌, List, [], ◌∷◌, ◌++◌, length, take, Option, refl, sym, ap, subst, ◌∙◌, arith, append_assoc, append-nil, length-take}
use Rattle.std.specs.Prelude.{⊤}
use Rattle.gang_model.specs.Debugger.Debugger.{Debugger, Setting}
use Rattle.gang_model.specs.Texts.Text.{Bytes}
use Rattle.debug_traits.specs.Devices.{Heard}
use Rattle.transcript.specs.declared.debugger.Turn.TheVariants.{Goes}
use Rattle.transcript.specs.Answered.{AnswersPiece}
use Rattle.transcript.specs.Order.{Interleaves, IsAnswered, TakesTurns}

-- ---- what is heard

-- the bytes that reads gave
abbrev pub came_of : List Heard → Bytes
came_of [] = []
came_of (read ∷ reads) = read.came ++ came_of reads

-- each read gave a piece
abbrev pub GavePieces : List Heard → Type 0
GavePieces [] = ⊤
GavePieces (read ∷ reads) = (read.came ≢ []) × GavePieces reads

came_more : (reads : List Heard) (read : Heard) → came_of (reads ++ read ∷ []) ≡ came_of reads ++ read.came
came_more [] read = append-nil read.came
came_more (r ∷ reads) read = ap (λ l. r.came ++ l) (came_more reads read) ∙ sym (append_assoc r.came (came_of reads) read.came)

pieces_more : (reads : List Heard) (read : Heard) → GavePieces reads → read.came ≢ [] → GavePieces (reads ++ read ∷ [])
pieces_more [] read gave some = (some, tt)
pieces_more (r ∷ reads) read gave some = (gave.0, pieces_more reads read gave.1 some)

heard_then : (a b c xs ys : List Heard) → b ≡ a ++ xs → c ≡ b ++ ys → c ≡ a ++ (xs ++ ys)
heard_then a b c xs ys first second = second ∙ ap (λ l. l ++ ys) first ∙ append_assoc a xs ys

-- a piece of some bytes
pub some_came : (n : ℕ) (into : Bytes) → n ≢ 0 → n ≤ length into → take n into ≢ []
some_came n into some bound none =
    let e : length (take n into) ≡ 0 = ap length none in
    absurd (some (omega (arith, e, length-take n into)))

-- ---- turns

module _ (s : Setting) (d : Debugger) (old : Option Bytes) where
  -- one read more, after reads that each gave a piece
  turns_more : (came : Bytes) (reads : List Heard) (read : Heard) → Interleaves s d old came reads → GavePieces reads → IsAnswered s d old (came ++ came_of reads) read.told
      → Interleaves s d old came (reads ++ read ∷ [])
  turns_more came [] read turns gave answered = (subst (λ l. IsAnswered s d old l read.told) (append-nil came) answered, λ e. refl, tt)
  turns_more came (r ∷ reads) read (first, last, rest) gave answered = (
    first,
    λ none. absurd (gave.0 none),
    turns_more (came ++ r.came) reads read rest gave.1 (subst (λ l. IsAnswered s d old l read.told) (sym (append_assoc came r.came (came_of reads))) answered),
  )

-- what goes on has answered the whole lines of what came
pub piece_answered : {D : Type 0} (stands : D → Setting → Debugger → Type 0) (s : Setting) (d : Debugger) (came : Bytes) (x : D) (held : Bytes) (old new : Option Bytes)
    → AnswersPiece stands s d [] came Goes x held old new → IsAnswered s d old came new
piece_answered stands s d came x held old new (replies, (out, wrote, (are, (none, is))), leads) = (out, wrote, none, (replies, are, is))

-- ---- in the loop

-- each read so far gave a piece, all of them these bytes, in turn with what was written wherever the debugger stood
abbrev pub InTurn : (Stood : Setting → Debugger → Type 0) → (old : Option Bytes) → (heard heard' : List Heard) → (came : Bytes) → Type 0
InTurn Stood old heard heard' came = (reads : List Heard) × (heard' ≡ heard ++ reads) × (came_of reads ≡ came) × GavePieces reads
    × ((s : Setting) (d : Debugger) → Stood s d → Interleaves s d old [] reads)

module _ (Stood : Setting → Debugger → Type 0) (old : Option Bytes) where
  -- before the first read
  pub no_turn : (heard : List Heard) → InTurn Stood old heard heard []
  no_turn heard = ([], sym (append-nil heard), refl, tt, λ s d st. tt)

  -- after one read more, whatever it gave
  pub turn_taken : (a b c : List Heard) (came piece : Bytes) (told : Option Bytes) (s : Setting) (d : Debugger) → InTurn Stood old a b came
      → c ≡ b ++ record { told = told; came = piece } ∷ [] → Stood s d → IsAnswered s d old came told → TakesTurns s d old a c
  turn_taken a b c came piece told s d (reads, hears, is, gave, turns) more st answered =
      let read : Heard = record { told = told; came = piece } in (
        reads ++ read ∷ [],
        heard_then a b c reads (read ∷ []) hears more,
        turns_more s d old [] reads read (turns s d st) gave (subst (λ l. IsAnswered s d old l told) (sym is) answered),
      )

  -- where no read follows
  pub turns_taken : (a b : List Heard) (came : Bytes) (s : Setting) (d : Debugger) → InTurn Stood old a b came → Stood s d → TakesTurns s d old a b
  turns_taken a b came s d (reads, hears, is, gave, turns) st = (reads, hears, turns s d st)

  -- after one piece more
  pub turn_more : (a b c : List Heard) (came piece : Bytes) (told : Option Bytes) → InTurn Stood old a b came → c ≡ b ++ record { told = told; came = piece } ∷ []
      → piece ≢ [] → ((s : Setting) (d : Debugger) → Stood s d → IsAnswered s d old came told) → InTurn Stood old a c (came ++ piece)
  turn_more a b c came piece told (reads, hears, is, gave, turns) more some answered =
      let read : Heard = record { told = told; came = piece } in (
        reads ++ read ∷ [],
        heard_then a b c reads (read ∷ []) hears more,
        came_more reads read ∙ ap (λ l. l ++ piece) is,
        pieces_more reads read gave some,
        λ s d st. turns_more s d old [] reads read (turns s d st) gave (subst (λ l. IsAnswered s d old l told) (sym is) (answered s d st)),
      )
