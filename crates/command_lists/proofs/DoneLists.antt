-- Lists of commands, one behind another.
use Rattle.std.proofs.Common.{List, [], ◌∷◌, ◌++◌, refl, subst, inl, inr}
use Rattle.gang_model.specs.Debugger.Debugger.{Command, Debugger, Reply, Setting, do_command}
use Rattle.debug_answers.specs.declared.answer.Answer.{Answer}
use Rattle.debug_session.specs.declared.session.Session.{Session}
use Rattle.debug_session.specs.Sessions.{MayReply, RepliesOn, RepliesTo, StandsFor}
use Rattle.command_lists.specs.Lists.{HasDone, Leads}

-- where commands lead, and others from there
pub leads_on : (s : Setting) (cs ds : List Command) (d e f : Debugger) → Leads s cs d e → Leads s ds e f → Leads s (cs ++ ds) d f
leads_on s [] ds d e f first second = subst (λ x. Leads s ds x f) first second
leads_on s (c ∷ cs) ds d e f (r, is, first) second = (r, is, leads_on s cs ds r.next e f first second)

-- where one command leads
pub leads_by : (s : Setting) (c : Command) (d : Debugger) → Leads s (c ∷ []) d (do_command s c d).next
leads_by s c d = (do_command s c d, inl (inl refl), refl)

-- a reply over a machine is one over some machine
pub may_reply : (may_want : Type 0) (s : Setting) (c : Command) (d : Debugger) (r : Reply) → RepliesOn may_want s c d r → MayReply s c d r
may_reply may_want s c d r is = elim is [ inl e ↦ inl e | inr none ↦ inr none.1 ]

module _ {M : Type 0} (stands : M → Setting → Debugger → Type 0) (s : Setting) where
  -- a session that does nothing
  pub done_nothing : (d : Debugger) (session : Session M) → StandsFor stands session s d → HasDone stands s [] d session
  done_nothing d session there = record { after = d; leads = refl; there = there }

  -- commands, and others from where they lead
  pub done_then : (cs ds : List Command) (d : Debugger) (middle new : Session M) (first : HasDone stands s cs d middle) → HasDone stands s ds first.after new → HasDone stands s (cs ++ ds) d new
  done_then cs ds d middle new first second = record {
    after = second.after;
    leads = leads_on s cs ds d first.after second.after first.leads second.leads;
    there = second.there;
  }

  -- one command of a session
  pub done_one : (may_want : Type 0) (c : Command) (d : Debugger) (given : Answer) (new : Session M) → RepliesTo may_want stands s c d given new → HasDone stands s (c ∷ []) d new
  done_one may_want c d given new replies = record {
    after = replies.reply.next;
    leads = (replies.reply, may_reply may_want s c d replies.reply replies.is_reply, refl);
    there = replies.replied.there;
  }
