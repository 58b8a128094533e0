-- What a try comes to, of a run whose steps are tried one after another.
use Rattle.std.proofs.Common.{◌≡◌, refl, sym, ap, ◌∙◌, subst, inl, inr, ℕ, suc, ◌+◌, ◌-◌, ◌<◌, ◌≤◌, true, false, Some, None, arith}
use Rattle.std.specs.Prelude.{if◌then◌else◌}
use Rattle.gang_model.specs.Running.Lanes.{Fault}
use Rattle.gang_model.specs.Running.Step.{Fails, Stepped, step}
use Rattle.gang_model.specs.Debugger.Events.{Step}
use Rattle.gang_model.specs.Debugger.Debugger as model
use Rattle.gang_model.specs.Debugger.Debugger.{Debugger, DoStep, Moves, Reply, Setting, attempted, do_command, forward, has_ended, moved, now, reply}
use Rattle.debug_traits.specs.Machines.{fault_view}
use Rattle.debug_session.specs.declared.session.Session.{Session}
use Rattle.debug_session.specs.Sessions.{MayReply, StandsFor}
use Rattle.debug_session.proofs.Replies.{forward_done}
use Rattle.lane_picture.specs.declared.columns.StepsEnd.{StepsEnd}
use Rattle.lane_picture.specs.declared.columns.StepsEnd.TheVariants as end
use Rattle.lane_picture.specs.Seen.{state_after}
use Rattle.lane_picture.specs.Tries.{CameTo, HasRun, Tries, end_view}
use Rattle.lane_picture.proofs.Counting.{SoFar, one_more, run_over, run_stopped}
use Rattle.run_page.specs.Moments.{ComesTo, steps_done}

-- a step that faults leads nowhere
module _ (s : Setting) (d : Debugger) (goes : has_ended (now s d) ≡ false) (fault : Fault) (fails : step s.program (now s d) ≡ Fails fault) where
  only_reply : (r : Reply) → MayReply s (DoStep 1) d r → r ≡ do_command s (DoStep 1) d
  only_reply r is = elim is [ inl alone ↦ elim alone [ inl e ↦ e | inr h ↦ absurd h.0 ] | inr none ↦ absurd none.0 ]

  abbrev reply_of : (n : ℕ) → Stepped → Reply
  reply_of n st = attempted s (Moves 1) d st (λ next. forward n s next (moved Step d))

  stays : (r : Reply) → 1 ≤ s.limit → MayReply s (DoStep 1) d r → r.next ≡ d
  stays r limit is =
      let some : s.limit ≡ suc (s.limit - 1) = omega (arith, limit) in
      let forwards : do_command s (DoStep 1) d ≡ reply_of (s.limit - 1) (step s.program (now s d)) =
      forward_done s d false (Moves 1) (suc (s.limit - 1)) some (ap (λ b. if b then Some model.Ended else None) goes) in
      ap (λ (r : Reply). r.next) (only_reply r is ∙ forwards ∙ ap (reply_of (s.limit - 1)) fails)

module _ {M : Type 0} (stands : M → Setting → Debugger → Type 0) (s : Setting) (most : ℕ) (d : Debugger) (taken : ℕ) where
  -- a session whose last try ended the run stands where it did behind so many steps
  pub record Ends (how : StepsEnd) (new : Session M) : Type 0 where
    pub run : HasRun stands s most d how new
    pub done : 1 ≤ s.limit → steps_done run.begun.taken (end_view how) ≡ taken
    pub here : Debugger
    pub there : StandsFor stands new s here
    pub stood : 1 ≤ s.limit → now s here ≡ state_after s.program taken (now s d)

  module _ (old new : Session M) (so : SoFar stands s most d taken old) (below : taken < most) where
    -- a step was done
    pub goes_on : ComesTo stands s so.done.after None old new → SoFar stands s most d (taken + 1) new
    goes_on came = elim came [ inl over ↦ absurd (cc (over.1)) | inr did ↦ one_more stands s most d taken old so below new did.0 did.1 ]

    over : has_ended (now s so.done.after) ≡ true → Ends end.Ended old
    over ended = record { run = run_over stands s most d taken old so (omega (arith, below)) ended; done = λ limit. refl; here = so.done.after; there = so.done.there; stood = so.stood }

    one_less : (how : StepsEnd) (e : Debugger) → CameTo s so.done.after e (Some how) → steps_done (taken + 1) (end_view how) ≡ taken
    one_less end.Ended e came = absurd came
    one_less (end.AtFault fault) e came = omega arith
    one_less end.StepLimit e came = absurd came

    at_fault : (how : StepsEnd) (e : Debugger) → CameTo s so.done.after e (Some how) → (fault : Fault) × (step s.program (now s so.done.after) ≡ Fails fault)
    at_fault end.Ended e came = absurd came
    at_fault (end.AtFault fault) e came = (fault_view fault, came)
    at_fault end.StepLimit e came = absurd came

    stopped : (how : StepsEnd) → has_ended (now s so.done.after) ≡ false → Tries stands s so.done.after (Some how) new → Ends how new
    stopped how goes tried = record {
      run = run_stopped stands s most d taken old so below new goes how tried;
      done = λ limit. one_less how tried.done.after (tried.comes limit goes);
      here = tried.done.after;
      there = tried.done.there;
      stood = λ limit.
          let (fault, fails) = at_fault how tried.done.after (tried.comes limit goes) in
          let (r, may, last) = tried.done.leads in
          ap (now s) (last ∙ stays s so.done.after goes fault fails r limit may) ∙ so.stood limit;
    }

    -- the run has ended
    pub ends : (how : StepsEnd) → ComesTo stands s so.done.after (Some how) old new → Ends how new
    ends how came = elim came [
      | inl did ↦ subst (λ session. Ends how session) (sym did.2) (subst (λ how. Ends how old) (sym (some_same how end.Ended did.1)) (over did.0))
      | inr did ↦ stopped how did.0 did.1
    ]
      where
        some_same : (a b : StepsEnd) → Some a ≡ Some b → a ≡ b
        some_same a b is = cc is
