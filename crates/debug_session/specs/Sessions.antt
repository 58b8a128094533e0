-- What a session stands for, and what its commands come to.
use Rattle.std.specs.Prelude.{◌≡◌, ◌⊎◌, [], Bool, true, false}
use Rattle.undo_log.specs.History.{History}
use Rattle.gang_model.specs.Debugger.Debugger.{Command, Debugger, DoSet, DoSetIn, IsReply, Memory, Reply, Setting, refused}
use Rattle.debug_answers.specs.declared.answer.Answer.{Answer}
use Rattle.debug_answers.specs.declared.answer.Answer.TheVariants as answer
use Rattle.debug_answers.specs.Meanings.{AreStops, Means}
use Rattle.debug_session.specs.declared.session.Session.{Session}

-- a debugger without its breakpoints and watches, of which a machine knows nothing
abbrev pub bare : Debugger → Debugger
bare d = record d { stops = []; next = 1 }

-- a session stands for a debugger: its machine does, for all but the breakpoints and watches; it makes as many moves for a
-- forward command at most; and its breakpoints and watches, and the next number, are the same
pub record StandsFor {M : Type 0} (stands : M → Setting → Debugger → Type 0) (session : Session M) (s : Setting) (d : Debugger) : Type 0 where
  pub there : stands session.machine s (bare d)
  pub limit : s.limit ≡ session.most_steps
  pub stops : AreStops s session.stops.items d.stops
  pub next : d.next ≡ session.stops.next

-- a session stands as after a reply, and the answer is the reply's
pub record Replied {M : Type 0} (stands : M → Setting → Debugger → Type 0) (s : Setting) (reply : Reply) (given : Answer) (new : Session M) : Type 0 where
  pub there : StandsFor stands new s reply.next
  pub means : Means s reply.next given reply.answer

-- a command sets a value
abbrev pub Sets : Command → Type 0
Sets (DoSet target z) = Unit {0}
Sets (DoSetIn deep target z) = Unit {0}
Sets command = ⊥

-- a command that sets a value is refused with C12, and nothing changes
abbrev pub FindsNoRoom : Command → Debugger → Reply → Type 0
FindsNoRoom command d r = Sets command × (r ≡ refused Memory d)

-- a reply to a command over some machine: one where a value is set may want for memory to note it
abbrev pub MayReply : Setting → Command → Debugger → Reply → Type 0
MayReply s command d r = IsReply s command d r ⊎ FindsNoRoom command d r

-- a reply to a command over a machine that may want for memory where a value is set, or does not
abbrev pub RepliesOn : (may_want : Type 0) → Setting → Command → Debugger → Reply → Type 0
RepliesOn may_want s command d r = IsReply s command d r ⊎ (may_want × FindsNoRoom command d r)

-- a session stands as after a reply to a command, and the answer is the reply's
pub record RepliesTo {M : Type 0} (may_want : Type 0) (stands : M → Setting → Debugger → Type 0) (s : Setting) (command : Command) (d : Debugger) (given : Answer) (new : Session M) : Type 0 where
  pub reply : Reply
  pub is_reply : RepliesOn may_want s command d reply
  pub replied : Replied stands s reply given new

-- whether an answer refuses the command
abbrev pub is_refused : Answer → Bool
is_refused (answer.Refused r) = true
is_refused other = false

-- the words of the machine, the breakpoints and watches and the next number are as they were
pub record IsUnchanged {M : Type 0} (history : M → History) (old new : Session M) : Type 0 where
  pub words : history new.machine ≡ history old.machine
  pub limit : new.most_steps ≡ old.most_steps
  pub stops : new.stops ≡ old.stops
