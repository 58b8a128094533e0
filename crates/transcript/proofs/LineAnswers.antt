-- What is written for some lines, and then for others.
use Rattle.std.proofs.Common.{◌≡◌, ◌≢◌, ℕ, ◌+◌, ◌<◌, Bool, true, false, List, [], ◌∷◌, ◌++◌, length, take, Option, refl, sym, ap, ap₂, inl, subst, ◌∙◌, arith, append_assoc, append-nil, length-append}
use Rattle.std.specs.Prelude.{if◌then◌else◌}
use Rattle.std.proofs.lemmas.Bool.{true≢false}
use Rattle.std.proofs.lemmas.List.{take-append-le}
use Rattle.std.proofs.Math.Seq.{take-append-add}
use Rattle.std.proofs.KnownBytes.{Appends-nil, Appends-trans}
use Rattle.std.specs.Io.KnownBytes.{Appends}
use Rattle.gang_model.specs.Texts.CommandText.{command_of}
use Rattle.gang_model.specs.Debugger.Debugger.{Command, Debugger, Reply, Setting, Silent, reply}
use Rattle.gang_model.specs.Texts.Text.{Bytes}
use Rattle.gang_model.specs.Texts.Transcript.{AreReplies, FirstAndRest, IsReplyTo, has_quit, is_quit, reply_texts}
use Rattle.gang_model.proofs.WholeTranscripts.{are_replied, replied_all}
use Rattle.transcript.specs.Lines.{Says, reply_text}
use Rattle.transcript.specs.declared.debugger.Turn.{Turn}
use Rattle.transcript.specs.declared.debugger.Turn.TheVariants.{Goes, Quits, Fails}
use Rattle.transcript.specs.Answered.{AnswersBy, AnswersLines, Written, after_replies, line_alone}

-- ---- lines that quit or do not

quit_later_by : (q : Bool) (some all rest : Bool) → (some ≡ false → all ≡ rest) → (if q then true else some) ≡ false → (if q then true else all) ≡ rest
quit_later_by true some all rest h none = absurd (true≢false none)
quit_later_by false some all rest h none = h none

quit_later : (xs ys : List Bytes) → has_quit xs ≡ false → has_quit (xs ++ ys) ≡ has_quit ys
quit_later [] ys none = refl
quit_later (x ∷ xs) ys none = quit_later_by (is_quit (command_of x)) (has_quit xs) (has_quit (xs ++ ys)) (has_quit ys) (quit_later xs ys) none

quit_sooner_by : (q : Bool) (some all : Bool) → (some ≡ true → all ≡ true) → (if q then true else some) ≡ true → (if q then true else all) ≡ true
quit_sooner_by true some all h one = refl
quit_sooner_by false some all h one = h one

quit_sooner : (xs ys : List Bytes) → has_quit xs ≡ true → has_quit (xs ++ ys) ≡ true
quit_sooner [] ys one = absurd (true≢false (sym one))
quit_sooner (x ∷ xs) ys one = quit_sooner_by (is_quit (command_of x)) (has_quit xs) (has_quit (xs ++ ys)) (quit_sooner xs ys) one

-- where some replies lead, and then others
pub after_split : (xs ys : List Reply) (d : Debugger) → after_replies d (xs ++ ys) ≡ after_replies (after_replies d xs) ys
after_split [] ys d = refl
after_split (x ∷ xs) ys d = after_split xs ys x.next

no_quit : (q some : Bool) → (if q then true else some) ≡ false → (q ≡ false) × (some ≡ false)
no_quit true some none = absurd (true≢false none)
no_quit false some none = (refl, none)

quits_no_go : Quits ≢ Goes
quits_no_go e = cc e

pub fails_no_go : Fails ≢ Goes
fails_no_go e = cc e

module _ (s : Setting) where
  -- ---- replies

  texts_both : (xs ys : List Reply) → reply_texts s (xs ++ ys) ≡ reply_texts s xs ++ reply_texts s ys
  texts_both [] ys = refl
  texts_both (x ∷ xs) ys = ap (λ t. reply_text s x ++ t) (texts_both xs ys) ∙ sym (append_assoc (reply_text s x) (reply_texts s xs) (reply_texts s ys))

  later_first : (q : Bool) (c : Option Command) (d : Debugger) (Front All Rest : Debugger → List Reply → Type 0) (replies more : List Reply) → q ≡ false
      → ((d : Debugger) (replies : List Reply) → Front d replies → Rest (after_replies d replies) more → All d (replies ++ more))
      → FirstAndRest s q c d Front replies → Rest (after_replies d replies) more → FirstAndRest s q c d All (replies ++ more)
  later_first true c d Front All Rest replies more goes h are rest = absurd (true≢false goes)
  later_first false c d Front All Rest [] more goes h are rest = absurd are
  later_first false c d Front All Rest (r ∷ replies) more goes h are rest = (are.0, h r.next replies are.1 rest)

  -- replies to lines of which none quits, and then to others
  replies_later : (xs ys : List Bytes) (d : Debugger) (replies more : List Reply) → has_quit xs ≡ false → AreReplies s xs d replies → AreReplies s ys (after_replies d replies) more
      → AreReplies s (xs ++ ys) d (replies ++ more)
  replies_later [] ys d replies more none are rest =
      subst (λ rs. AreReplies s ys d (rs ++ more)) (sym are) (subst (λ rs. AreReplies s ys (after_replies d rs) more) are rest)
  replies_later (x ∷ xs) ys d replies more none are rest =
      let parts = no_quit (is_quit (command_of x)) (has_quit xs) none in
      later_first (is_quit (command_of x)) (command_of x) d (λ d rs. AreReplies s xs d rs) (λ d rs. AreReplies s (xs ++ ys) d rs) (λ d rs. AreReplies s ys d rs) replies more parts.0
      (λ d rs are rest. replies_later xs ys d rs more parts.1 are rest) are rest

  sooner_first : (q some : Bool) (c : Option Command) (d : Debugger) (Front All : Debugger → List Reply → Type 0) (replies : List Reply)
      → (some ≡ true → (d : Debugger) (replies : List Reply) → Front d replies → All d replies) → (if q then true else some) ≡ true
      → FirstAndRest s q c d Front replies → FirstAndRest s q c d All replies
  sooner_first true some c d Front All replies h one are = are
  sooner_first false some c d Front All [] h one are = absurd are
  sooner_first false some c d Front All (r ∷ replies) h one are = (are.0, h one r.next replies are.1)

  -- replies up to a line that quits are so whatever lines follow
  replies_sooner : (xs ys : List Bytes) (d : Debugger) (replies : List Reply) → has_quit xs ≡ true → AreReplies s xs d replies → AreReplies s (xs ++ ys) d replies
  replies_sooner [] ys d replies one are = absurd (true≢false (sym one))
  replies_sooner (x ∷ xs) ys d replies one are =
      sooner_first (is_quit (command_of x)) (has_quit xs) (command_of x) d (λ d rs. AreReplies s xs d rs) (λ d rs. AreReplies s (xs ++ ys) d rs) replies
      (λ one d rs are. replies_sooner xs ys d rs one are) one are

  further_first : (q : Bool) (c : Option Command) (d : Debugger) (Front All : Debugger → List Reply → Type 0) (replies : List Reply)
      → ((d : Debugger) (replies : List Reply) → Front d replies → (more : List Reply) × All d (replies ++ more))
      → FirstAndRest s q c d Front replies → (more : List Reply) × FirstAndRest s q c d All (replies ++ more)
  further_first true c d Front All replies h are = ([], append-nil replies ∙ are)
  further_first false c d Front All [] h are = absurd are
  further_first false c d Front All (r ∷ replies) h are =
      let (more, all) = h r.next replies are.1 in
      (more, (are.0, all))

  -- replies to lines are the first of replies to more lines
  replies_further : (xs ys : List Bytes) (d : Debugger) (replies : List Reply) → AreReplies s xs d replies → (more : List Reply) × AreReplies s (xs ++ ys) d (replies ++ more)
  replies_further [] ys d replies are =
      (replied_all s ys d, subst (λ rs. AreReplies s ys d (rs ++ replied_all s ys d)) (sym are) (are_replied s ys d))
  replies_further (x ∷ xs) ys d replies are =
      further_first (is_quit (command_of x)) (command_of x) d (λ d rs. AreReplies s xs d rs) (λ d rs. AreReplies s (xs ++ ys) d rs) replies
      (λ d rs are. replies_further xs ys d rs are) are

  -- ---- answers

  written_then : (d : Debugger) (xs ys : List Bytes) (replies more : List Reply) (turn : Turn) (out rest : Bytes) → Written s d xs replies Goes out
      → Written s (after_replies d replies) ys more turn rest → Written s d (xs ++ ys) (replies ++ more) turn (out ++ rest)
  written_then d xs ys replies more Goes out rest (are, (none, is)) (are', (none', is')) =
      (replies_later xs ys d replies more none are are', (quit_later xs ys none ∙ none', ap₂ (λ a b. a ++ b) is is' ∙ sym (texts_both replies more)))
  written_then d xs ys replies more Quits out rest (are, (none, is)) (are', (one, is')) =
      (replies_later xs ys d replies more none are are', (quit_later xs ys none ∙ one, ap₂ (λ a b. a ++ b) is is' ∙ sym (texts_both replies more)))
  written_then d xs ys replies more Fails out rest (are, (none, is)) (are', (k, below, is')) =
      let front = reply_texts s replies in
      let back = reply_texts s more in
      let all = texts_both replies more in (
        replies_later xs ys d replies more none are are',
        (
          length front + k,
          omega (arith, below, length-append front back, ap length all),
          ap₂ (λ a b. a ++ b) is is' ∙ sym (ap (take (length front + k)) all ∙ take-append-add front back k),
        ),
      )

  -- a front of what is written for some lines and for others, which is not all of it
  pub written_front : (d : Debugger) (xs ys : List Bytes) (replies more : List Reply) (out : Bytes) (k : ℕ) → Written s d xs replies Goes out
      → AreReplies s ys (after_replies d replies) more → k < length (out ++ reply_texts s more) → Written s d (xs ++ ys) (replies ++ more) Fails (take k (out ++ reply_texts s more))
  written_front d xs ys replies more out k (are, (none, is)) are' below =
      let all : out ++ reply_texts s more ≡ reply_texts s (replies ++ more) = ap (λ l. l ++ reply_texts s more) is ∙ sym (texts_both replies more) in
      (replies_later xs ys d replies more none are are', (k, subst (λ l. k < length l) all below, ap (take k) all))

  -- after some lines, others
  pub answers_then : (d : Debugger) (xs ys : List Bytes) (replies more : List Reply) (turn : Turn) (old mid new : Option Bytes) → AnswersBy s d xs replies Goes old mid
      → AnswersBy s (after_replies d replies) ys more turn mid new → AnswersBy s d (xs ++ ys) (replies ++ more) turn old new
  answers_then d xs ys replies more turn old mid new (out, first, written) (rest, second, written') =
      (out ++ rest, Appends-trans old mid new out rest first second, written_then d xs ys replies more turn out rest written written')

  -- what ends the answering ends it whatever lines follow
  pub written_before : (d : Debugger) (xs ys : List Bytes) (replies : List Reply) (turn : Turn) (out : Bytes) → turn ≢ Goes → Written s d xs replies turn out
      → (all : List Reply) × Written s d (xs ++ ys) all turn out
  written_before d xs ys replies Goes out ends written = absurd (ends refl)
  written_before d xs ys replies Quits out ends (are, (one, is)) = (replies, (replies_sooner xs ys d replies one are, (quit_sooner xs ys one, is)))
  written_before d xs ys replies Fails out ends (are, (k, below, is)) =
      let (more, all) = replies_further xs ys d replies are in
      let front = reply_texts s replies in
      let back = reply_texts s more in
      let both = texts_both replies more in (
        replies ++ more,
        (
          all,
          (
            k,
            omega (arith, below, length-append front back, ap length both),
            is ∙ sym (ap (take k) both ∙ take-append-le k front back (omega (arith, below))),
          ),
        ),
      )

  -- ---- one line

  -- what is said of a line's command
  abbrev SaysOf : {D : Type 0} → (D → Setting → Debugger → Type 0) → Debugger → Option Command → Turn → D → Option Bytes → Option Bytes → Type 0
  SaysOf stands d c Goes next old new = (is_quit c ≡ false) × ((r : Reply) × IsReplyTo s c d r × Appends old new (reply_text s r) × stands next s r.next)
  SaysOf stands d c Quits next old new = (is_quit c ≡ true) × Appends old new []
  SaysOf stands d c Fails next old new = (is_quit c ≡ false)
      × ((r : Reply) × IsReplyTo s c d r × ((k : ℕ) × (k < length (reply_text s r)) × Appends old new (take k (reply_text s r))))

  says_of : {D : Type 0} (stands : D → Setting → Debugger → Type 0) (d : Debugger) (line : Bytes) (turn : Turn) (next : D) (old new : Option Bytes)
      → Says stands s d line turn next old new → SaysOf stands d (command_of line) turn next old new
  says_of stands d line Goes next old new says = says
  says_of stands d line Quits next old new says = says
  says_of stands d line Fails next old new says = says

  pub reply_alone : (q : Bool) (c : Option Command) (d : Debugger) (r : Reply) → q ≡ false → IsReplyTo s c d r → FirstAndRest s q c d (λ d rs. AreReplies s [] d rs) (r ∷ [])
  reply_alone true c d r goes is = absurd (true≢false goes)
  reply_alone false c d r goes is = (is, refl)

  no_reply : (q : Bool) (c : Option Command) (d : Debugger) (Rest : Debugger → List Reply → Type 0) → q ≡ true → FirstAndRest s q c d Rest []
  no_reply true c d Rest quits = refl
  no_reply false c d Rest quits = absurd (true≢false (sym quits))

  quits_alone : (q quits : Bool) → q ≡ quits → (if q then true else false) ≡ quits
  quits_alone true quits e = e
  quits_alone false quits e = e

  pub text_alone : (r : Reply) → reply_texts s (r ∷ []) ≡ reply_text s r
  text_alone r = append-nil (reply_text s r)

  -- the line was answered by a reply, after which the debugger stands
  abbrev AnswersOne : {D : Type 0} → (D → Setting → Debugger → Type 0) → Debugger → Bytes → Turn → D → Option Bytes → Option Bytes → Type 0
  AnswersOne stands d line turn next old new = (replies : List Reply) × AnswersBy s d (line_alone line) replies turn old new × (turn ≡ Goes → stands next s (after_replies d replies))

  answers_of : {D : Type 0} (stands : D → Setting → Debugger → Type 0) (d : Debugger) (line : Bytes) (turn : Turn) (next : D) (old new : Option Bytes)
      → SaysOf stands d (command_of line) turn next old new → AnswersOne stands d line turn next old new
  answers_of stands d line Goes next old new (goes, (r, is, wrote, st)) =
      let c = command_of line in
      (r ∷ [], (reply_text s r, wrote, (reply_alone (is_quit c) c d r goes is, (quits_alone (is_quit c) false goes, sym (text_alone r)))), λ go. st)
  answers_of stands d line Quits next old new (quits, wrote) =
      let c = command_of line in
      ([], ([], wrote, (no_reply (is_quit c) c d (λ d rs. AreReplies s [] d rs) quits, (quits_alone (is_quit c) true quits, refl))), λ go. absurd (quits_no_go go))
  answers_of stands d line Fails next old new (goes, (r, is, (k, below, wrote))) =
      let c = command_of line in
      let alone = sym (text_alone r) in
      (r ∷ [], (take k (reply_text s r), wrote, (reply_alone (is_quit c) c d r goes is, (k, subst (λ t. k < length t) alone below, ap (take k) alone))), λ go. absurd (fails_no_go go))

  -- a line is answered by another one that spells the same
  pub says_answers : {D : Type 0} (stands : D → Setting → Debugger → Type 0) (d : Debugger) (line held : Bytes) → command_of held ≡ command_of line
      → (turn : Turn) (next : D) (old new : Option Bytes) → Says stands s d held turn next old new → AnswersOne stands d line turn next old new
  says_answers stands d line held same turn next old new says =
      answers_of stands d line turn next old new (subst (λ c. SaysOf stands d c turn next old new) same (says_of stands d held turn next old new says))

  -- an empty line has no answer
  pub answers_empty : (d : Debugger) (w : Option Bytes) → AnswersLines s d (line_alone []) Goes w w
  answers_empty d w = (reply Silent d ∷ [], ([], Appends-nil w, ((inl refl, refl), (refl, refl))))
