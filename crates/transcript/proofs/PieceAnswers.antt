-- What is written for one piece, and then for another, and how the answering ends.
use Rattle.std.proofs.Common.{◌≡◌, ◌≢◌, ℕ, List, [], ◌∷◌, ◌++◌, take, Option, Some, None, refl, sym, ap, subst, ◌∙◌, append-nil}
use Rattle.std.specs.Prelude.{IfSome}
use Rattle.std.proofs.KnownBytes.{Appends-nil}
use Rattle.std.specs.Io.KnownBytes.{Appends, Consumes, IsAtEnd, Keeps}
use Rattle.gang_model.specs.Debugger.Debugger.{Debugger, Reply, Setting}
use Rattle.gang_model.specs.Texts.Endings.{Ends}
use Rattle.gang_model.specs.Texts.Text.{Bytes}
use Rattle.gang_model.specs.Texts.Transcript.{complete_lines_after, lines_after, lines_of, reply_texts}
use Rattle.transcript.specs.Lines.{Says}
use Rattle.transcript.specs.declared.debugger.Turn.{Turn}
use Rattle.transcript.specs.declared.debugger.Turn.TheVariants.{Goes, Quits, Fails}
use Rattle.transcript.specs.Answered.{AnswersBy, AnswersLines, AnswersPiece, Written, after_replies, begun_after, held_of, line_alone}
use Rattle.transcript.specs.declared.answering.Ending.{Ending}
use Rattle.transcript.specs.declared.answering.Ending.TheVariants.{ReadFault}
use Rattle.transcript.specs.Endings.{end_of, ending_of}
use Rattle.transcript.proofs.CutLines.{begun_byte, begun_split, complete_split, held_byte, held_spells, lines_end, lines_split, none_ended}
use Rattle.transcript.proofs.LineAnswers.{after_split, answers_then, says_answers, written_before}

module _ {D : Type 0} (stands : D → Setting → Debugger → Type 0) (s : Setting) where
  -- ---- pieces

  pub piece_none : (d : Debugger) (begun : Bytes) (x : D) (held : Bytes) (w : Option Bytes) → stands x s d → held ≡ held_of begun → AnswersPiece stands s d begun [] Goes x held w w
  piece_none d begun x held w st is = ([], ([], Appends-nil w, (refl, (refl, refl))), λ goes. record { debugger = st; line = is })

  pub piece_byte : (d : Debugger) (begun : Bytes) (x : D) (held held' : Bytes) (w : Option Bytes) (b : ℕ) → b ≢ 10 → stands x s d
      → held ≡ held_of begun → held' ≡ held_of (held ++ b ∷ []) → AnswersPiece stands s d begun (b ∷ []) Goes x held' w w
  piece_byte d begun x held held' w b other st is more =
      let none = sym (none_ended begun b other) in (
        [],
        subst (λ l. AnswersBy s d l [] Goes w w) none ([], Appends-nil w, (refl, (refl, refl))),
        λ goes. record {
          debugger = st;
          line = held_byte begun held held' b is more ∙ ap held_of (sym (begun_byte begun b other));
        },
      )

  -- the line that has begun is answered by what is held of it
  says_begun : (d : Debugger) (begun held : Bytes) (turn : Turn) (y : D) (old new : Option Bytes) → held ≡ held_of begun → Says stands s d held turn y old new
      → (replies : List Reply) × AnswersBy s d (line_alone begun) replies turn old new × (turn ≡ Goes → stands y s (after_replies d replies))
  says_begun d begun held turn y old new is says =
      says_answers s stands d begun (held_of begun) (held_spells begun) turn y old new (subst (λ l. Says stands s d l turn y old new) is says)

  pub says_held : (d : Debugger) (begun held : Bytes) (turn : Turn) (y : D) (old new : Option Bytes) → held ≡ held_of begun → Says stands s d held turn y old new → AnswersLines s d (line_alone begun) turn old new
  says_held d begun held turn y old new is says =
      let (replies, answers, leads) = says_begun d begun held turn y old new is says in
      (replies, answers)

  -- the line that has begun ends
  pub piece_line : (d : Debugger) (begun held held' : Bytes) (turn : Turn) (y : D) (old new : Option Bytes) → held ≡ held_of begun → Says stands s d held turn y old new
      → (turn ≡ Goes → held' ≡ []) → AnswersPiece stands s d begun (10 ∷ []) turn y held' old new
  piece_line d begun held held' turn y old new is says none =
      let (replies, answers, leads) = says_begun d begun held turn y old new is says in
      (replies, answers, λ goes. record { debugger = leads goes; line = none goes })

  -- after one piece, another
  pub piece_then : (d : Debugger) (begun came piece : Bytes) (turn : Turn) (x y : D) (held held' : Bytes) (old mid new : Option Bytes) (first : AnswersPiece stands s d begun came Goes x held old mid)
      → AnswersPiece stands s (after_replies d first.0) (begun_after begun came) piece turn y held' mid new → AnswersPiece stands s d begun (came ++ piece) turn y held' old new
  piece_then d begun came piece turn x y held held' old mid new (replies, answers, before) (more, answers', after) = (
    replies ++ more,
    subst (λ l. AnswersBy s d l (replies ++ more) turn old new) (sym (complete_split begun came piece))
        (answers_then s d (complete_lines_after begun came) (complete_lines_after (begun_after begun came) piece) replies more turn old mid new answers answers'),
    λ goes.
        let leads = after goes in
        record {
          debugger = subst (stands y s) (sym (after_split replies more d)) leads.debugger;
          line = leads.line ∙ ap held_of (sym (begun_split begun came piece));
        },
  )

  -- what ends the answering ends it whatever follows in the piece
  pub piece_before : (d : Debugger) (begun came more : Bytes) (turn : Turn) (y : D) (held : Bytes) (old new : Option Bytes) → turn ≢ Goes
      → AnswersPiece stands s d begun came turn y held old new → AnswersPiece stands s d begun (came ++ more) turn y held old new
  piece_before d begun came more turn y held old new ends (replies, (out, wrote, written), leads) =
      let (all, whole) = written_before s d (complete_lines_after begun came) (complete_lines_after (begun_after begun came) more) replies turn out ends written in (
        all,
        (out, wrote, subst (λ l. Written s d l all turn out) (sym (complete_split begun came more)) whole),
        λ goes. absurd (ends goes),
      )

  -- one byte more that ends no line
  pub piece_and_byte : (d : Debugger) (begun came : Bytes) (x : D) (held held' : Bytes) (old new : Option Bytes) (b : ℕ) → AnswersPiece stands s d begun came Goes x held old new
      → b ≢ 10 → held' ≡ held_of (held ++ b ∷ []) → AnswersPiece stands s d begun (came ++ b ∷ []) Goes x held' old new
  piece_and_byte d begun came x held held' old new b answered other more =
      let leads = answered.2 refl in
      piece_then d begun came (b ∷ []) Goes x x held held' old new new answered (piece_byte (after_replies d answered.0) (begun_after begun came) x held held' new b other leads.debugger leads.line more)

  -- one line feed more
  pub piece_and_line : (d : Debugger) (begun came : Bytes) (turn : Turn) (x y : D) (held held' : Bytes) (old mid new : Option Bytes) → AnswersPiece stands s d begun came Goes x held old mid
      → ((d : Debugger) → stands x s d → Says stands s d held turn y mid new) → (turn ≡ Goes → held' ≡ []) → AnswersPiece stands s d begun (came ++ 10 ∷ []) turn y held' old new
  piece_and_line d begun came turn x y held held' old mid new answered says none =
      let leads = answered.2 refl in
      let next = after_replies d answered.0 in
      piece_then d begun came (10 ∷ []) turn x y held held' old mid new answered (piece_line next (begun_after begun came) held held' turn y mid new leads.line (says next leads.debugger) none)

-- ---- ends

-- a reader at its end gave all
told_all : (a b : Option Bytes) (came : Bytes) (P : Bytes → Type 0) → Consumes a b came → IsAtEnd b → P came → IfSome a P
told_all None b came P used end p = tt
told_all (Some x) None came P used end p = absurd used
told_all (Some x) (Some y) came P used end p = subst P (sym (used ∙ ap (λ l. came ++ l) end ∙ append-nil came)) p

-- whatever follows
told_more : (a b : Option Bytes) (came : Bytes) (P : Bytes → Type 0) → Consumes a b came → ((more : Bytes) → P (came ++ more)) → IfSome a P
told_more None b came P used p = tt
told_more (Some x) None came P used p = absurd used
told_more (Some x) (Some y) came P used p = subst P (sym used) (p y)

-- what is written for lines, by some replies
abbrev IsWritten : Setting → Debugger → Turn → (out bytes : Bytes) → Type 0
IsWritten s d turn out bytes = (replies : List Reply) × Written s d (lines_of bytes) replies turn out

-- what the reader had was answered
written_ends : (s : Setting) (d : Debugger) (turn : Turn) (a b : Option Bytes) (out : Bytes) → IfSome a (IsWritten s d turn out) → Ends s d (ending_of (end_of turn)) a b out
written_ends s d Goes None b out h = tt
written_ends s d Goes (Some x) b out (replies, (are, (none, is))) = (none, (replies, are, is))
written_ends s d Quits None b out h = tt
written_ends s d Quits (Some x) b out (replies, (are, (one, is))) = (one, (replies, are, is))
written_ends s d Fails None b out h = tt
written_ends s d Fails (Some x) b out (replies, (are, (k, below, is))) = (reply_texts s replies, (replies, are, refl), (k, below, is))

-- how the answering ended, and what was written by then
abbrev pub IsEnded : Setting → Debugger → Ending → (left left' old new : Option Bytes) → Type 0
IsEnded s d end left left' old new = (out : Bytes) × Appends old new out × Ends s d (ending_of end) left left' out

-- at the end of the input
pub ends_at : (s : Setting) (d : Debugger) (turn : Turn) (came : Bytes) (a b old new : Option Bytes) → Consumes a b came → IsAtEnd b → AnswersLines s d (lines_of came) turn old new → IsEnded s d (end_of turn) a b old new
ends_at s d turn came a b old new used end (replies, (out, wrote, written)) =
    (out, wrote, written_ends s d turn a b out (told_all a b came (IsWritten s d turn out) used end (replies, written)))

-- before it
pub ends_before : (s : Setting) (d : Debugger) (turn : Turn) (came : Bytes) (a b old new : Option Bytes) → turn ≢ Goes → Consumes a b came → AnswersLines s d (complete_lines_after [] came) turn old new → IsEnded s d (end_of turn) a b old new
ends_before s d turn came a b old new ends used (replies, (out, wrote, written)) =
    let whatever : (more : Bytes) → IsWritten s d turn out (came ++ more) =
    λ more.
    let (all, whole) = written_before s d (complete_lines_after [] came) (lines_after (begun_after [] came) more) replies turn out ends written in
    (all, subst (λ l. Written s d l all turn out) (sym (lines_split [] came more)) whole) in
    (out, wrote, written_ends s d turn a b out (told_more a b came (IsWritten s d turn out) used whatever))

-- at a fault of the reader
pub ends_fault : (s : Setting) (d : Debugger) (came : Bytes) (a b old new : Option Bytes) → Consumes a b came → AnswersLines s d (complete_lines_after [] came) Goes old new → IsEnded s d ReadFault a b old new
ends_fault s d came a b old new used (replies, (out, wrote, (are, (none, is)))) = (out, wrote, (came, used, none, (replies, are, is)))

-- in the last line, behind those that ended
pub answers_last : (s : Setting) (d : Debugger) (came : Bytes) (replies : List Reply) (turn : Turn) (old mid new : Option Bytes) → AnswersBy s d (complete_lines_after [] came) replies Goes old mid
    → AnswersLines s (after_replies d replies) (line_alone (begun_after [] came)) turn mid new → AnswersLines s d (lines_of came) turn old new
answers_last s d came replies turn old mid new first (more, second) = (
  replies ++ more,
  subst (λ l. AnswersBy s d l (replies ++ more) turn old new) (sym (lines_end came))
      (answers_then s d (complete_lines_after [] came) (line_alone (begun_after [] came)) replies more turn old mid new first second),
)

-- a read of nothing
pub consumes_none : (a b : Option Bytes) (n : ℕ) (piece : Bytes) → n ≡ 0 → Consumes a b (take n piece) → Keeps a b
consumes_none None b n piece e used = tt
consumes_none (Some x) None n piece e used = absurd used
consumes_none (Some x) (Some y) n piece e used = sym (used ∙ ap (λ k. take k piece ++ y) e)
