-- The text of a message, with the values of its expressions.
use Rattle.std.specs.Prelude.{◌≡◌, ◌⊎◌, ℕ, zero, suc, ◌==◌, ◌<◌, true, false, List, [], ◌∷◌, ◌++◌, length, codes, string_bytes, Option, Some, None}
use Rattle.std.specs.List.{list_any}
use Rattle.gang_model.specs.Debugger.Debugger.{Debugger, Setting, depth, now}
use Rattle.gang_model.specs.Texts.Text.{Bytes}
use Rattle.debug_session.specs.Sessions.{bare}
use Rattle.adapter_requests.specs.declared.request.Context.TheVariants.{Watch}
use Rattle.adapter_requests.specs.declared.reply.Reply.{Reply}
use Rattle.adapter_requests.specs.declared.reply.Reply.TheVariants as reply
use Rattle.adapter_replies.specs.Asking.{asking_of}
use Rattle.adapter_replies.specs.References.{is_frame}
use Rattle.adapter_replies.specs.Told.{IsNameToldIn}
use Rattle.log_points.specs.Points.{Written}

-- ---- the value of an expression

-- the text of what an expression is told: its value, or in brackets why it has none
abbrev pub told_text : Reply → Option Bytes
told_text (reply.Evaluated text reason reference) = Some (string_bytes text)
told_text (reply.Refused why) = Some (codes "(" ++ (string_bytes why ++ codes ")"))
told_text other = None

-- the text that stands for an expression where the top frame stands: what an editor is told of it in a list of watched expressions
pub record IsShown (s : Setting) (d : Debugger) (expression text : Bytes) : Type 0 where
  pub told : Reply
  pub is_told : IsNameToldIn (is_frame (depth (now s d)) (depth (now s d))) s (bare d) (depth (now s d)) (asking_of Watch expression false) told
  pub text_is : told_text told ≡ Some text

-- ---- the text of a message

-- the bytes `{` and `}`
abbrev pub opens : ℕ
opens = 123

abbrev pub closes : ℕ
closes = 125

-- a byte does not stand in a text
abbrev pub Lacks : ℕ → Bytes → Type 0
Lacks byte text = list_any (λ b. b == byte) text ≡ false

-- a text has an expression in braces, the first one: this stands before it, and that behind it
pub record IsPart (text before expression behind : Bytes) : Type 0 where
  pub is : text ≡ before ++ opens ∷ (expression ++ closes ∷ behind)
  pub first : Lacks opens before
  pub inside : Lacks closes expression

-- what a brace opened is closed behind an expression; this stands before it, and that behind it
pub record IsClosed (before inside text expression behind : Bytes) : Type 0 where
  pub same : text ≡ before
  pub is : inside ≡ expression ++ closes ∷ behind
  pub first : Lacks closes expression

-- a text has no expression in braces: none opens, or what opens first is not closed
abbrev pub IsWhole : Bytes → Type 0
IsWhole text = Lacks opens text ⊎ ((before inside : Bytes) × (text ≡ before ++ opens ∷ inside) × Lacks opens before × Lacks closes inside)

-- in a text so many expressions in braces are replaced, one after another, and no other is there
abbrev pub IsReplaced : (many : ℕ) → Setting → Debugger → (message text : Bytes) → Type 0
IsReplaced zero s d message text = IsWhole message × (text ≡ message)
IsReplaced (suc many) s d message text =
    (before expression behind shown later : Bytes) × IsPart message before expression behind × IsShown s d expression shown × IsReplaced many s d behind later × (text ≡ before ++ (shown ++ later))

-- the text of a message
abbrev pub IsLogText : Setting → Debugger → (message text : Bytes) → Type 0
IsLogText s d message text = (many : ℕ) × IsReplaced many s d message text

-- ---- texts that are written

-- the text of a message stands behind others
abbrev pub AddsText : Setting → Debugger → (message : Bytes) → (old new : List Bytes) → Type 0
AddsText s d message old new = (text : Bytes) × IsLogText s d message text × (new ≡ old ++ text ∷ [])

-- the text of a message is written behind others, of which there are at most 999; or it is left out, which is so too where memory is wanting
abbrev pub Adds : Setting → Debugger → (message : Bytes) → (old new : Written) → Type 0
Adds s d message old new =
    ((length old.texts < 1000) × AddsText s d message old.texts new.texts × (new.is_cut ≡ old.is_cut)) ⊎ (new ≡ record { texts = old.texts; is_cut = true })
