-- Answers that are gathered, and given out.
use Rattle.std.proofs.Common.{◌≡◌, ◌≢◌, ℕ, ◌+◌, ◌<◌, Bool, false, List, [], ◌∷◌, ◌++◌, length, take, drop, Option, Some, Result, Ok, Err, refl, sym, ap, subst, ◌∙◌, arith, append_assoc, append-nil, take-append-drop, length-append, length-take}
use Rattle.std.proofs.lemmas.List.{take_at, take-append-le}
use Rattle.std.proofs.Math.Seq.{take-append-add}
use Rattle.std.proofs.KnownBytes.{Appends-nil, Appends-trans}
use Rattle.std.specs.Io.KnownBytes.{Appends}
use Rattle.gang_model.specs.Texts.CommandText.{command_of}
use Rattle.gang_model.specs.Debugger.Debugger.{Debugger, Reply, Setting}
use Rattle.gang_model.specs.Texts.Text.{Bytes}
use Rattle.gang_model.specs.Texts.Transcript.{AreReplies, FirstAndRest, IsReplyTo, complete_lines_after, is_quit, reply_texts}
use Rattle.gang_model.proofs.WholeTranscripts.{are_replied, replied_all}
use Rattle.debug_traits.specs.Devices.{Writes}
use Rattle.transcript.specs.Lines.{Says, Tells, fails, quits, reply_text}
use Rattle.transcript.specs.declared.debugger.Turn.{Turn}
use Rattle.transcript.specs.declared.debugger.Turn.TheVariants.{Goes, Quits, Fails}
use Rattle.transcript.specs.Answered.{AnswersPiece, Written, WrittenOf, after_replies, begun_after, held_of, line_alone}
use Rattle.transcript.specs.Gathering.{AddsOrFails, Breaks, GathersPiece, SaysBehind}
use Rattle.transcript.proofs.CutLines.{complete_split, held_spells}
use Rattle.transcript.proofs.LineAnswers.{fails_no_go, reply_alone, text_alone, written_front}
use Rattle.transcript.proofs.PieceAnswers.{piece_and_byte, piece_before, piece_line, piece_none, piece_then}

-- ---- fronts

-- what a text begins with is a front of it
front_is : (sent rest all : Bytes) (k : ℕ) → sent ++ rest ≡ take k all → sent ≡ take (length sent) all
front_is sent rest all k is =
    let whole : all ≡ sent ++ (rest ++ drop k all) = sym (take-append-drop k all) ∙ ap (λ l. l ++ drop k all) (sym is) ∙ append_assoc sent rest (drop k all) in
    sym (ap (take (length sent)) whole ∙ take_at sent (rest ++ drop k all) (length sent) refl)

-- one text was written, and of another one a front
pub breaks_then : (first second : Bytes) (old mid new : Option Bytes) → Appends old mid first → Breaks second mid new → Breaks (first ++ second) old new
breaks_then first second old mid new wrote (k, below, broke) = (
  length first + k,
  omega (arith, below, length-append first second),
  subst (Appends old new) (sym (take-append-add first second k)) (Appends-trans old mid new first (take k second) wrote broke),
)

-- a front of a text is one of a longer text
breaks_before : (first second : Bytes) (old new : Option Bytes) → Breaks first old new → Breaks (first ++ second) old new
breaks_before first second old new (k, below, broke) =
    (k, omega (arith, below, length-append first second), subst (Appends old new) (sym (take-append-le k first second (omega (arith, below)))) broke)

-- where nothing is left behind them
none_left : (front back left : Bytes) → left ≡ [] → (front ++ back) ++ left ≡ front ++ back
none_left front back left none = ap (λ l. (front ++ back) ++ l) none ∙ append-nil (front ++ back)

-- only a turn that fails leaves a writer that failed
pub works_still : (turn : Turn) → turn ≢ Fails → fails turn ≡ false
works_still Goes works = refl
works_still Quits works = refl
works_still Fails works = absurd (works refl)

-- ---- one text

-- what had been gathered before a text is what was
pub gathered_before : {X E : Type 0} (text before after : Bytes) (failed : Bool) (result : Result X E) → Writes text (Some before) (Some after) failed result → take (length before) after ≡ before
gathered_before text before after failed (Ok x) (wrote, works) = ap (take (length before)) wrote ∙ take_at before text (length before) refl
gathered_before text before after failed (Err e) (k, below, wrote, broke) = ap (take (length before)) wrote ∙ take_at before (take k text) (length before) refl

-- told behind what is gathered, where a writer got that
pub tells_behind : (text : Bytes) (turn : Turn) (old mid new : Option Bytes) (room room' : Bytes) → Appends old mid room → room' ≡ [] → Tells text mid new turn
    → AddsOrFails text old new room room' turn
tells_behind text Goes old mid new room room' given none tells =
    (room ++ text, Appends-trans old mid new room text given tells, none_left room text room' none)
tells_behind text Quits old mid new room room' given none tells = absurd tells
tells_behind text Fails old mid new room room' given none tells = (breaks_then room text old mid new given tells, none)

-- ---- one line

-- replies to a line are replies to another one that spells the same
alone_same : (s : Setting) (d : Debugger) (line held : Bytes) (replies : List Reply) → command_of held ≡ command_of line → AreReplies s (line_alone held) d replies → AreReplies s (line_alone line) d replies
alone_same s d line held replies same are = subst (λ c. FirstAndRest s (is_quit c) c d (λ d rs. AreReplies s [] d rs) replies) same are

module _ {D : Type 0} (stands : D → Setting → Debugger → Type 0) (s : Setting) (d : Debugger) (line : Bytes) (next : D) (old new : Option Bytes) (room room' : Bytes) where
  -- the text of a reply was added
  pub says_added : (r : Reply) → quits line ≡ false → IsReplyTo s (command_of line) d r → stands next s r.next → (turn : Turn) → AddsOrFails (reply_text s r) old new room room' turn
      → SaysBehind stands s d line turn next old new room room'
  says_added r goes is st Goes (out, wrote, whole) = (out, wrote, (goes, (r, is, whole, st)))
  says_added r goes is st Quits adds = absurd adds
  says_added r goes is st Fails (broke, none) =
      let c = command_of line in
      ((r ∷ [], reply_alone s (is_quit c) c d r goes is, subst (λ text. Breaks (room ++ text) old new) (sym (text_alone s r)) broke), none)

  -- a line was answered after a writer had got what was gathered
  pub says_behind : (turn : Turn) (mid : Option Bytes) → Appends old mid room → room' ≡ [] → Says stands s d line turn next mid new → SaysBehind stands s d line turn next old new room room'
  says_behind Goes mid given none (goes, (r, is, wrote, st)) = says_added r goes is st Goes (tells_behind (reply_text s r) Goes old mid new room room' given none wrote)
  says_behind Quits mid given none (quits, wrote) =
      (room ++ [], Appends-trans old mid new room [] given wrote, (quits, none_left room [] room' none))
  says_behind Fails mid given none (goes, (r, is, broke)) =
      let c = command_of line in
      let more = subst (λ text. Breaks text mid new) (sym (text_alone s r)) broke in
      ((r ∷ [], reply_alone s (is_quit c) c d r goes is, breaks_then room (reply_texts s (r ∷ [])) old mid new given more), none)

  -- the writer failed before it had got what was gathered
  pub fails_behind : Breaks room old new → room' ≡ [] → SaysBehind stands s d line Fails next old new room room'
  fails_behind broke none =
      let replies = replied_all s (line_alone line) d in
      ((replies, are_replied s (line_alone line) d, breaks_before room (reply_texts s replies) old new broke), none)

-- ---- pieces

-- after more was given
later : (sent out room room' text : Bytes) → out ++ room' ≡ room ++ text → (sent ++ out) ++ room' ≡ (sent ++ room) ++ text
later sent out room room' text is = append_assoc sent out room' ∙ ap (λ l. sent ++ l) is ∙ sym (append_assoc sent room text)

module _ {D : Type 0} (stands : D → Setting → Debugger → Type 0) (s : Setting) where
  says_later : (d : Debugger) (line : Bytes) (turn : Turn) (next : D) (sent out room room' : Bytes) → turn ≢ Fails → Says stands s d line turn next (Some room) (Some (out ++ room'))
      → Says stands s d line turn next (Some (sent ++ room)) (Some ((sent ++ out) ++ room'))
  says_later d line Goes next sent out room room' works (goes, (r, is, whole, st)) = (goes, (r, is, later sent out room room' (reply_text s r) whole, st))
  says_later d line Quits next sent out room room' works (quits, whole) = (quits, later sent out room room' [] whole)
  says_later d line Fails next sent out room room' works says = absurd (works refl)

  pub gathers_none : (d : Debugger) (begun : Bytes) (x : D) (held : Bytes) (w : Option Bytes) (room : Bytes) → stands x s d → held ≡ held_of begun → room ≡ []
      → GathersPiece stands s d begun [] Goes x held w w room
  gathers_none d begun x held w room st is none =
      ([], Appends-nil w, subst (λ l. AnswersPiece stands s d begun [] Goes x held (Some []) (Some l)) (sym none) (piece_none stands s d begun x held (Some []) st is))

  -- one byte more that ends no line
  pub gathers_and_byte : (d : Debugger) (begun came : Bytes) (x : D) (held held' : Bytes) (old new : Option Bytes) (room : Bytes) (b : ℕ) → GathersPiece stands s d begun came Goes x held old new room
      → b ≢ 10 → held' ≡ held_of (held ++ b ∷ []) → GathersPiece stands s d begun (came ++ b ∷ []) Goes x held' old new room
  gathers_and_byte d begun came x held held' old new room b (sent, wrote, answered) other more =
      (sent, wrote, piece_and_byte stands s d begun came x held held' (Some []) (Some (sent ++ room)) b answered other more)

  -- what ends the answering ends it whatever follows in the piece
  pub gathers_before : (d : Debugger) (begun came more : Bytes) (turn : Turn) (y : D) (held : Bytes) (old new : Option Bytes) (room : Bytes) → turn ≢ Goes
      → GathersPiece stands s d begun came turn y held old new room → GathersPiece stands s d begun (came ++ more) turn y held old new room
  gathers_before d begun came more turn y held old new room ends (sent, wrote, answered) =
      (sent, wrote, piece_before stands s d begun came more turn y held (Some []) (Some (sent ++ room)) ends answered)

  -- one line feed more
  pub gathers_and_line : (d : Debugger) (begun came : Bytes) (turn : Turn) (x y : D) (held held' : Bytes) (old mid new : Option Bytes) (room room' : Bytes)
      → GathersPiece stands s d begun came Goes x held old mid room
      → ((d : Debugger) → stands x s d → SaysBehind stands s d held turn y mid new room room') → (turn ≡ Goes → held' ≡ []) → GathersPiece stands s d begun (came ++ 10 ∷ []) turn y held' old new room'
  gathers_and_line d begun came Goes x y held held' old mid new room room' (sent, wrote, answered) says none =
      let leads = answered.2 refl in
      let next = after_replies d answered.0 in
      let (out, more, said) = says next leads.debugger in (
        sent ++ out,
        Appends-trans old mid new sent out wrote more,
        piece_then stands s d begun came (10 ∷ []) Goes x y held held' (Some []) (Some (sent ++ room)) (Some ((sent ++ out) ++ room')) answered
            (piece_line stands s next (begun_after begun came) held held' Goes y (Some (sent ++ room)) (Some ((sent ++ out) ++ room')) leads.line (says_later next held Goes y sent out room room' (λ e. cc e) said) none),
      )
  gathers_and_line d begun came Quits x y held held' old mid new room room' (sent, wrote, answered) says none =
      let leads = answered.2 refl in
      let next = after_replies d answered.0 in
      let (out, more, said) = says next leads.debugger in (
        sent ++ out,
        Appends-trans old mid new sent out wrote more,
        piece_then stands s d begun came (10 ∷ []) Quits x y held held' (Some []) (Some (sent ++ room)) (Some ((sent ++ out) ++ room')) answered
            (piece_line stands s next (begun_after begun came) held held' Quits y (Some (sent ++ room)) (Some ((sent ++ out) ++ room')) leads.line (says_later next held Quits y sent out room room' (λ e. cc e) said) none),
      )
  gathers_and_line d begun came Fails x y held held' old mid new room room' (sent, wrote, (replies, (all, is, written), leads)) says none =
      let there = leads refl in
      let next = after_replies d replies in
      let ((more, are, (k, below, broke)), empty) = says next there.debugger in
      let line = begun_after begun came in
      let texts = reply_texts s more in
      let front = take k (room ++ texts) in
      let whole : sent ++ (room ++ texts) ≡ all ++ texts = sym (append_assoc sent room texts) ∙ ap (λ l. l ++ texts) is in
      let cut : (sent ++ front) ++ room' ≡ take (length sent + k) (all ++ texts) =
      ap (λ l. (sent ++ front) ++ l) empty ∙ append-nil (sent ++ front) ∙ sym (take-append-add sent (room ++ texts) k) ∙ ap (take (length sent + k)) whole in
      let inside : length sent + k < length (all ++ texts) = omega (arith, below, length-append sent (room ++ texts), ap length whole) in
      let replied = alone_same s next line held more (ap command_of there.line ∙ held_spells line) are in (
        sent ++ front,
        Appends-trans old mid new sent front wrote broke,
        (
          replies ++ more,
          (
            take (length sent + k) (all ++ texts),
            cut,
            subst (λ l. Written s d l (replies ++ more) Fails (take (length sent + k) (all ++ texts))) (sym (complete_split begun came (10 ∷ [])))
                (written_front s d (complete_lines_after begun came) (line_alone line) replies more all (length sent + k) written replied inside),
          ),
          λ goes. absurd (fails_no_go goes),
        ),
      )

  -- ---- giving out

  -- all that was gathered was given
  pub given_all : (d : Debugger) (begun piece : Bytes) (turn : Turn) (y : D) (held : Bytes) (old mid new : Option Bytes) (room : Bytes) → GathersPiece stands s d begun piece turn y held old mid room
      → Appends mid new room → AnswersPiece stands s d begun piece turn y held old new
  given_all d begun piece turn y held old mid new room (sent, wrote, (replies, (out, is, written), leads)) more =
      (replies, (out, subst (Appends old new) is (Appends-trans old mid new sent room wrote more), written), leads)

  written_broken : (lines : List Bytes) (turn : Turn) (all out sent room : Bytes) (k : ℕ) → turn ≢ Fails → sent ++ room ≡ out → k < length room → WrittenOf lines turn all out
      → WrittenOf lines Fails all (sent ++ take k room)
  written_broken lines Goes all out sent room k works is below (none, written) =
      (length sent + k, omega (arith, below, length-append sent room, ap length is, ap length written), sym (take-append-add sent room k) ∙ ap (take (length sent + k)) (is ∙ written))
  written_broken lines Quits all out sent room k works is below (one, written) =
      (length sent + k, omega (arith, below, length-append sent room, ap length is, ap length written), sym (take-append-add sent room k) ∙ ap (take (length sent + k)) (is ∙ written))
  written_broken lines Fails all out sent room k works is below written = absurd (works refl)

  -- the writer failed before it had all of that
  pub given_front : (d : Debugger) (begun piece : Bytes) (turn : Turn) (y : D) (held : Bytes) (old mid new : Option Bytes) (room : Bytes) → turn ≢ Fails
      → GathersPiece stands s d begun piece turn y held old mid room → Breaks room mid new → AnswersPiece stands s d begun piece Fails y held old new
  given_front d begun piece turn y held old mid new room works (sent, wrote, (replies, (out, is, (are, written)), leads)) (k, below, broke) = (
    replies,
    (
      sent ++ take k room,
      Appends-trans old mid new sent (take k room) wrote broke,
      (are, written_broken (complete_lines_after begun piece) turn (reply_texts s replies) out sent room k works is below written),
    ),
    λ goes. absurd (fails_no_go goes),
  )

  -- the writer had failed
  pub given_none : (d : Debugger) (begun piece : Bytes) (y : D) (held : Bytes) (old new : Option Bytes) (room : Bytes) → GathersPiece stands s d begun piece Fails y held old new room
      → AnswersPiece stands s d begun piece Fails y held old new
  given_none d begun piece y held old new room (sent, wrote, (replies, (out, is, (are, (k, below, written))), leads)) =
      let all = reply_texts s replies in
      let less : length sent < length all = omega (arith, below, length-append sent room, ap length is, ap length written, length-take k all) in
      (replies, (sent, wrote, (are, (length sent, less, front_is sent room all k (is ∙ written)))), λ goes. absurd (fails_no_go goes))
