-- From what the parts of a session do to what the session replies.
use Rattle.std.proofs.Common.{◌≡◌, inl, ◌<◌, refl, sym, subst, ap, ◌∙◌, ℕ, Bool, true, false, [], Some, None, arith}
use Rattle.std.specs.Prelude.{◌==◌, if◌then◌else◌}
use Rattle.std.proofs.lemmas.Bool.Decides.{nat_tests}
use Rattle.gang_model.specs.Running.State.{State}
use Rattle.gang_model.specs.Debugger.Debugger.{Command, Debugger, Goal, NoHistory, Reply, Setting, Refusal, Refused, backward, backward_refusal, do_backward, do_command, do_forward, forward, forward_refusal, kept_steps, now, outermost_refusal, refused, unless_refused}
use Rattle.debug_answers.specs.declared.answer.Answer.{Answer}
use Rattle.debug_answers.specs.Meanings.{AreStops, Means}
use Rattle.debug_session.specs.declared.session.Session.{Session}
use Rattle.debug_session.specs.Moves.{Done, MayBeDone}
use Rattle.debug_session.specs.Sessions.{Replied, RepliesTo, StandsFor, bare}
use Rattle.debug_session.specs.Stops.{Table}
use Rattle.debug_session.specs.Tables.{Listed}

-- a command that was done
pub done_replies : {M : Type 0} (may_want : Type 0) (stands : M → Setting → Debugger → Type 0) (s : Setting) (command : Command) (d : Debugger) (given : Answer) (new : Session M)
    → Replied stands s (do_command s command d) given new → RepliesTo may_want stands s command d given new
done_replies may_want stands s command d given new replied = record { reply = do_command s command d; is_reply = inl (inl refl); replied = replied }

-- a command that a machine may want memory for was done
pub done_surely : {M : Type 0} (may_want : Type 0) (stands : M → Setting → Debugger → Type 0) (s : Setting) (d : Debugger) (command : Command) (given : Answer) (machine : M)
    → Done stands s d (do_command s command d) given machine → MayBeDone may_want stands s d command given machine
done_surely may_want stands s d command given machine done = (do_command s command d, inl (inl refl), done)

-- a command that was refused, and nothing changed
pub done_refused : {M : Type 0} (may_want : Type 0) (stands : M → Setting → Debugger → Type 0) (s : Setting) (d : Debugger) (command : Command) (given : Answer) (machine : M)
    → stands machine s (bare d) → (r : Refusal) → Means s d given (Refused r) → do_command s command d ≡ refused r d → MayBeDone may_want stands s d command given machine
done_refused may_want stands s d command given machine st r means is =
    (refused r d, inl (inl (sym is)), record { follows = record { there = st; stops = refl; next = refl }; means = means })

-- a debugger with no breakpoint or watch is all that a machine knows of it
pub bare_already : (d : Debugger) → d.stops ≡ [] → d.next ≡ 1 → d ≡ bare d
bare_already d stops next = ap (λ stops. record d { stops = stops; next = d.next }) stops ∙ ap (λ next. record d { stops = []; next = next }) next

module _ {M : Type 0} (stands : M → Setting → Debugger → Type 0) (s : Setting) (d : Debugger) (old new : Session M) (st : StandsFor stands old s d) (limit : new.most_steps ≡ old.most_steps) where
  -- a command that keeps the breakpoints and watches
  pub replied_done : (r q : Reply) (given : Answer) → new.stops ≡ old.stops → r ≡ q → Done stands s d q given new.machine → Replied stands s r given new
  replied_done r q given stops same done =
      subst (λ r. Replied stands s r given new) (sym same)
      (record {
        there = record {
          there = done.follows.there;
          limit = st.limit ∙ sym limit;
          stops = subst (λ (table : Table). AreStops s table.items q.next.stops) (sym stops) (subst (AreStops s old.stops.items) (sym done.follows.stops) st.stops);
          next = done.follows.next ∙ st.next ∙ sym (ap (λ (table : Table). table.next) stops);
        };
        means = done.means;
      })

  -- a command that changes them alone
  pub replied_listed : (r : Reply) (given : Answer) → new.machine ≡ old.machine → Listed s d r given new.stops → Replied stands s r given new
  replied_listed r given machine listed = record {
    there = record {
      there = subst (λ machine. stands machine s (bare r.next)) (sym machine) (subst (stands old.machine s) (sym listed.same) st.there);
      limit = st.limit ∙ sym limit;
      stops = listed.stops;
      next = listed.next;
    };
    means = listed.means;
  }

-- ---- moves that are refused, and moves that are not

some_steps : (steps : ℕ) (needs : Bool) (state : State) → backward_refusal steps needs state ≡ None → 0 < steps
some_steps steps needs state e = go (steps == 0) refl
  where
    go : (b : Bool) → (steps == 0) ≡ b → 0 < steps
    go true h = absurd (cc (sym (ap (λ b. if b then Some NoHistory else outermost_refusal needs state) h) ∙ e))
    go false h = grind (arith, nat_tests)

pub steps_kept : (s : Setting) (d : Debugger) (needs : Bool) → backward_refusal (kept_steps d) needs (now s d) ≡ None → 0 < kept_steps d
steps_kept s d needs e = some_steps (kept_steps d) needs (now s d) e

module _ (s : Setting) (d : Debugger) (needs : Bool) (goal : Goal) where
  pub forward_refused : (r : Refusal) → forward_refusal needs (now s d) ≡ Some r → do_forward s needs goal d ≡ refused r d
  forward_refused r e = ap (λ o. unless_refused o d (forward s.limit s goal)) e

  pub forward_done : (n : ℕ) → s.limit ≡ n → forward_refusal needs (now s d) ≡ None → do_forward s needs goal d ≡ forward n s goal d
  forward_done n limit e = ap (λ o. unless_refused o d (forward s.limit s goal)) e ∙ ap (λ n. forward n s goal d) limit

  pub backward_refused : (r : Refusal) → backward_refusal (kept_steps d) needs (now s d) ≡ Some r → do_backward s needs goal d ≡ refused r d
  backward_refused r e = ap (λ o. unless_refused o d (backward d.kept s goal)) e

  pub backward_done : backward_refusal (kept_steps d) needs (now s d) ≡ None → do_backward s needs goal d ≡ backward d.kept s goal d
  backward_done e = ap (λ o. unless_refused o d (backward d.kept s goal)) e
