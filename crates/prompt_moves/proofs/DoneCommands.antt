-- Commands that a prompt does, and the lists that they make.
use Rattle.std.proofs.Common.{◌≡◌, true, List, [], ◌∷◌, ◌++◌, sym, ap, ◌∙◌, inl, inr}
use Rattle.std.proofs.lemmas.Bool.{true≢false}
use Rattle.gang_model.specs.Debugger.Debugger.{Command, Debugger, DoBacktrace, DoBreak, DoContinue, DoDelete, DoFinish, DoInfoBreakpoints, DoInfoLocals, DoNext, DoNothing, DoPrint, DoQuit, DoReverseContinue, DoReverseFinish, DoReverseNext, DoReverseStep, DoSet, DoSetHistory, DoSetIn, DoStep, DoUndo, DoWatch, IsReply, MayRunOut, Reply, Setting, do_command}
use Rattle.debug_answers.specs.declared.answer.Answer.{Answer}
use Rattle.debug_session.specs.declared.session.Session.{Session}
use Rattle.debug_session.specs.Sessions.{RepliesOn, RepliesTo, Sets, StandsFor}
use Rattle.command_lists.specs.Lists.{HasDone}
use Rattle.command_lists.proofs.DoneLists.{done_one, done_then}
use Rattle.prompt_scenes.specs.Holding.{Held}
use Rattle.prompt_scenes.specs.Readings as readings
use Rattle.prompt_moves.proofs.AnswersFollow.{begun-means, follows-means}
use Rattle.prompt_moves.specs.Following as following
use Rattle.prompt_moves.specs.GivenMoves as given_moves

-- a command that moves wants for no memory
move_sure : (command : Command) (d : Debugger) → readings.moves command ≡ true → MayRunOut command d → ⊥
move_sure (DoStep n) d moving may = may
move_sure (DoNext n) d moving may = may
move_sure (DoReverseStep n) d moving may = may
move_sure (DoReverseNext n) d moving may = may
move_sure DoFinish d moving may = may
move_sure DoContinue d moving may = may
move_sure DoReverseFinish d moving may = may
move_sure DoReverseContinue d moving may = may
move_sure DoUndo d moving may = may
move_sure (DoPrint target) d moving may = absurd (true≢false (sym moving))
move_sure (DoSet target z) d moving may = absurd (true≢false (sym moving))
move_sure (DoBreak n) d moving may = absurd (true≢false (sym moving))
move_sure (DoWatch target) d moving may = absurd (true≢false (sym moving))
move_sure (DoDelete n) d moving may = absurd (true≢false (sym moving))
move_sure DoInfoBreakpoints d moving may = absurd (true≢false (sym moving))
move_sure DoInfoLocals d moving may = absurd (true≢false (sym moving))
move_sure DoBacktrace d moving may = absurd (true≢false (sym moving))
move_sure DoNothing d moving may = absurd (true≢false (sym moving))
move_sure DoQuit d moving may = absurd (true≢false (sym moving))
move_sure (DoSetHistory n) d moving may = absurd (true≢false (sym moving))
move_sure (DoSetIn deep target z) d moving may = absurd (true≢false (sym moving))

-- a command that moves sets no value
sets_none : (command : Command) → readings.moves command ≡ true → Sets command → ⊥
sets_none (DoSet target z) moving sets = true≢false (sym moving)
sets_none (DoSetIn deep target z) moving sets = true≢false (sym moving)
sets_none other moving sets = sets

reply_done : (s : Setting) (command : Command) (d : Debugger) (r : Reply) → (MayRunOut command d → ⊥) → IsReply s command d r → r ≡ do_command s command d
reply_done s command d r sure is = elim is [ inl e ↦ e | inr out ↦ absurd (sure out.0) ]

-- a command that wants for no memory has one reply
pub only_reply : (may_want : Type 0) (s : Setting) (command : Command) (d : Debugger) (r : Reply) → (MayRunOut command d → ⊥) → (Sets command → ⊥) → RepliesOn may_want s command d r → r ≡ do_command s command d
only_reply may_want s command d r sure none is = elim is [ inl is ↦ reply_done s command d r sure is | inr out ↦ absurd (none out.1.0) ]

-- a command that moves has one reply
pub sure_reply : (may_want : Type 0) (s : Setting) (command : Command) (d : Debugger) (r : Reply) → readings.moves command ≡ true → RepliesOn may_want s command d r → r ≡ do_command s command d
sure_reply may_want s command d r moving is = elim is [ inl is ↦ reply_done s command d r (move_sure command d moving) is | inr none ↦ absurd (sets_none command moving none.1.0) ]

module _ {M : Type 0} (stands : M → Setting → Debugger → Type 0) (s : Setting) (d : Debugger) where
  -- a command, and then what follows it from wherever it leads
  pub one_then : (may_want : Type 0) (command : Command) (more : List Command) (told : Answer) (middle new : Session M) → RepliesTo may_want stands s command d told middle
      → ((e : Debugger) → StandsFor stands middle s e → HasDone stands s more e new) → HasDone stands s (command ∷ more) d new
  one_then may_want command more told middle new replies next =
      let first = done_one stands s may_want command d told middle replies in
      done_then stands s (command ∷ []) more d middle new first (next first.after first.there)

  -- a list of commands, and then another
  pub list_then : (cs ds : List Command) (middle new : Session M) → HasDone stands s cs d middle
      → ((e : Debugger) → StandsFor stands middle s e → HasDone stands s ds e new) → HasDone stands s (cs ++ ds) d new
  list_then cs ds middle new first next = done_then stands s cs ds d middle new first (next first.after first.there)

  -- what follows a move is what its answer means
  pub move_follows : (may_want : Type 0) (h : Held) (command : Command) (told : Answer) (middle : Session M) → readings.moves command ≡ true → RepliesTo may_want stands s command d told middle
      → given_moves.follows h told ≡ following.follows h (do_command s command d).answer
  move_follows may_want h command told middle moving replies =
      follows-means s replies.reply.next h told replies.reply.answer replies.replied.means
      ∙ ap (λ (r : Reply). following.follows h r.answer) (sure_reply may_want s command d replies.reply moving replies.is_reply)

  -- whether the program has begun by a move is what its answer means
  pub move_begun : (may_want : Type 0) (h : Held) (command : Command) (told : Answer) (middle : Session M) → readings.moves command ≡ true → RepliesTo may_want stands s command d told middle
      → given_moves.begun h told ≡ following.begun h (do_command s command d).answer
  move_begun may_want h command told middle moving replies =
      begun-means s replies.reply.next h told replies.reply.answer replies.replied.means
      ∙ ap (λ (r : Reply). following.begun h r.answer) (sure_reply may_want s command d replies.reply moving replies.is_reply)
