-- From the reply of a session to what is said of a line.
use Rattle.std.proofs.Common.{◌≡◌, false, Option, Some, None, refl, subst, inl, inr}
use Rattle.gang_model.specs.Debugger.Debugger.{BadCommand, Command, Debugger, IsReply, Reply, Setting, refused}
use Rattle.gang_model.specs.Texts.CommandText.{command_of}
use Rattle.gang_model.specs.Texts.Text.{Bytes}
use Rattle.gang_model.specs.Texts.Transcript.{IsReplyTo}
use Rattle.debug_answers.specs.declared.answer.Answer.{Answer}
use Rattle.debug_answers.specs.Meanings.{Means}
use Rattle.debug_session.specs.declared.session.Session.{Session}
use Rattle.debug_session.specs.Sessions.{RepliesOn, RepliesTo, StandsFor}
use Rattle.transcript.specs.Lines.{Says, Tells, quits, reply_text}
use Rattle.transcript.specs.Gathering.{AddsOrFails, SaysBehind}
use Rattle.transcript.specs.declared.debugger.Turn.{Turn}
use Rattle.transcript.specs.declared.debugger.Turn.TheVariants.{Goes, Quits, Fails}
use Rattle.transcript.proofs.Gathering.{says_added}

-- a machine that never wants for memory where a value is set replies as the definitions say
surely : (may_want : Type 0) (s : Setting) (command : Command) (d : Debugger) (r : Reply) → (may_want → ⊥) → RepliesOn may_want s command d r → IsReply s command d r
surely may_want s command d r never is = elim is [ inl e ↦ e | inr none ↦ absurd (never none.0) ]

module _ {M : Type 0} (stands : M → Setting → Debugger → Type 0) (s : Setting) (d : Debugger) (line : Bytes) (new : Session M) (w w' : Option Bytes) (goes : quits line ≡ false) where
  -- a reply to the line was told, and the session stands as after it
  says_reply : (r : Reply) → IsReplyTo s (command_of line) d r → StandsFor stands new s r.next → (turn : Turn) → Tells (reply_text s r) w w' turn
      → Says (λ session s d. StandsFor stands session s d) s d line turn new w w'
  says_reply r is st Goes tells = (goes, (r, is, tells, st))
  says_reply r is st Quits tells = absurd tells
  says_reply r is st Fails tells = (goes, (r, is, tells))

  -- that of a command
  pub says_replies : (may_want : Type 0) → (may_want → ⊥) → (command : Command) (given : Answer) → Some command ≡ command_of line → RepliesTo may_want stands s command d given new → (turn : Turn)
      → ((r : Reply) → StandsFor stands new s r.next → Means s r.next given r.answer → Tells (reply_text s r) w w' turn)
      → Says (λ session s d. StandsFor stands session s d) s d line turn new w w'
  says_replies may_want never command given spells replies turn tells =
      let r = replies.reply in
      says_reply r (subst (λ c. IsReplyTo s c d r) spells (surely may_want s command d r never replies.is_reply)) replies.replied.there turn (tells r replies.replied.there replies.replied.means)

  -- that of a line that spells no command
  pub says_bad : None ≡ command_of line → StandsFor stands new s d → (turn : Turn) → Tells (reply_text s (refused BadCommand d)) w w' turn
      → Says (λ session s d. StandsFor stands session s d) s d line turn new w w'
  says_bad spells st turn tells = says_reply (refused BadCommand d) (subst (λ c. IsReplyTo s c d (refused BadCommand d)) spells refl) st turn tells

module _ {M : Type 0} (stands : M → Setting → Debugger → Type 0) (s : Setting) (d : Debugger) (line : Bytes) (new : Session M) (w w' : Option Bytes) (room room' : Bytes) (goes : quits line ≡ false) where
  -- the reply of a session to a command, behind what is gathered
  pub adds_replies : (may_want : Type 0) → (may_want → ⊥) → (command : Command) (given : Answer) → Some command ≡ command_of line → RepliesTo may_want stands s command d given new → (turn : Turn)
      → ((r : Reply) → StandsFor stands new s r.next → Means s r.next given r.answer → AddsOrFails (reply_text s r) w w' room room' turn)
      → SaysBehind (λ session s d. StandsFor stands session s d) s d line turn new w w' room room'
  adds_replies may_want never command given spells replies turn adds =
      let r = replies.reply in
      says_added (λ session s d. StandsFor stands session s d) s d line new w w' room room' r goes (subst (λ c. IsReplyTo s c d r) spells (surely may_want s command d r never replies.is_reply)) replies.replied.there turn
      (adds r replies.replied.there replies.replied.means)

  -- that to a line that spells no command
  pub adds_bad : None ≡ command_of line → StandsFor stands new s d → (turn : Turn) → AddsOrFails (reply_text s (refused BadCommand d)) w w' room room' turn
      → SaysBehind (λ session s d. StandsFor stands session s d) s d line turn new w w' room room'
  adds_bad spells st turn adds =
      says_added (λ session s d. StandsFor stands session s d) s d line new w w' room room' (refused BadCommand d) goes (subst (λ c. IsReplyTo s c d (refused BadCommand d)) spells refl) st turn adds
