-- What command lines do to a session, and what they are answered.
use Rattle.std.specs.Prelude.{◌≡◌, ℕ, List, [], ◌++◌, Option, Some, None}
use Rattle.gang_model.specs.Debugger.Debugger.{BadCommand, Command, Debugger, Reply, Setting, refused}
use Rattle.gang_model.specs.Texts.CommandText.{command_of}
use Rattle.gang_model.specs.Texts.Text.{Bytes}
use Rattle.debug_answers.specs.declared.answer.Answer.{Answer}
use Rattle.debug_session.specs.declared.session.Session.{Session}
use Rattle.debug_session.specs.Sessions.{MayReply, Replied, StandsFor}
use Rattle.command_lists.specs.Lists.{Leads}
use Rattle.adapter_session.specs.Requested.{all_in_frame, in_frame, only, spelled}

-- a reply to a line that spells this command, or none; one that sets a value may find no memory
abbrev pub MayReplyTo : Setting → Option Command → Debugger → Reply → Type 0
MayReplyTo s None d r = r ≡ refused BadCommand d
MayReplyTo s (Some command) d r = MayReply s command d r

-- a session stands as after a reply to a line in the frame at a depth, if there is one, and the answer is the reply's
pub record DoesIn {M : Type 0} (stands : M → Setting → Debugger → Type 0) (s : Setting) (frame : Option ℕ) (line : Bytes) (d : Debugger) (given : Answer) (new : Session M) : Type 0 where
  pub reply : Reply
  pub is_reply : MayReplyTo s (in_frame frame (command_of line)) d reply
  pub replied : Replied stands s reply given new

-- the same of a line as it stands
abbrev pub Does : {M : Type 0} → (M → Setting → Debugger → Type 0) → Setting → (line : Bytes) → Debugger → Answer → Session M → Type 0
Does stands s line d given new = DoesIn stands s None line d given new

-- the last of some lines was done where those before it lead
pub record DoesLast {M : Type 0} (stands : M → Setting → Debugger → Type 0) (s : Setting) (frame : Option ℕ) (lines : List Bytes) (d : Debugger) (given : Answer) (new : Session M) : Type 0 where
  pub front : List Bytes
  pub line : Bytes
  pub are : lines ≡ front ++ only line
  pub middle : Debugger
  pub leads : Leads s (all_in_frame frame (spelled front)) d middle
  pub does : DoesIn stands s frame line middle given new

-- lines were done one after another, and the answer is the last one's; where there is no line, nothing was done
abbrev pub DoesLinesIn : {M : Type 0} → (M → Setting → Debugger → Type 0) → Setting → (frame : Option ℕ) → (lines : List Bytes) → Debugger → Option Answer → Session M → Type 0
DoesLinesIn stands s frame lines d None new = (lines ≡ []) × StandsFor stands new s d
DoesLinesIn stands s frame lines d (Some given) new = DoesLast stands s frame lines d given new

-- the same of lines as they stand
abbrev pub DoesLines : {M : Type 0} → (M → Setting → Debugger → Type 0) → Setting → (lines : List Bytes) → Debugger → Option Answer → Session M → Type 0
DoesLines stands s lines d last new = DoesLinesIn stands s None lines d last new
