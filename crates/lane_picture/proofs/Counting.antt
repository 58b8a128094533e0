-- Steps that were tried, one after another.
use Rattle.std.proofs.Common.{◌≡◌, refl, sym, ap, ◌∙◌, subst, ℕ, zero, suc, ◌+◌, ◌-◌, ◌<◌, ◌≤◌, true, false, Some, None, arith}
use Rattle.std.specs.Prelude.{if◌then◌else◌}
use Rattle.std.proofs.lemmas.List.{replicate-append-replicate}
use Rattle.gang_model.specs.Types.Tree.{Program}
use Rattle.gang_model.specs.Running.State.{State}
use Rattle.gang_model.specs.Debugger.Events.{gone}
use Rattle.gang_model.specs.Debugger.Debugger.{Debugger, DoStep, Setting, has_ended, now}
use Rattle.debug_session.specs.declared.session.Session.{Session}
use Rattle.debug_session.specs.Sessions.{StandsFor}
use Rattle.command_lists.specs.Lists.{HasDone, Leads}
use Rattle.command_lists.proofs.DoneLists.{leads_on}
use Rattle.lane_picture.specs.declared.columns.StepsEnd.{StepsEnd}
use Rattle.lane_picture.specs.declared.columns.StepsEnd.TheVariants as end
use Rattle.lane_picture.specs.Runs as run
use Rattle.lane_picture.specs.Runs.{ended_by, run_end, step_commands, steps_taken, tried_by}
use Rattle.lane_picture.specs.Seen.{next_state, state_after}
use Rattle.lane_picture.specs.Tries.{CameTo, HasRun, Tries, end_view}
use Rattle.lane_picture.proofs.SeenColumns.{after_more}
use Rattle.lane_picture.proofs.Trying.{ended_over}

-- ---- a run that has no step left, or just one

pub none_left : (p : Program) (most : ℕ) (state : State) → has_ended state ≡ true → steps_taken p most state ≡ 0
none_left p zero state ended = refl
none_left p (suc most) state ended = ap (λ st. tried_by st (steps_taken p most)) (ended_over p state ended)

pub over_left : (p : Program) (most : ℕ) (state : State) → has_ended state ≡ true → run_end p most state ≡ run.Ended
over_left p zero state ended = ap (λ b. if b then run.Ended else run.StepLimit) ended
over_left p (suc most) state ended = ap (λ st. ended_by st (run_end p most)) (ended_over p state ended)

module _ (s : Setting) (d e : Debugger) (most : ℕ) where
  pub last_taken : (ended : StepsEnd) → CameTo s d e (Some ended) → steps_taken s.program (suc most) (now s d) ≡ 1
  last_taken end.Ended came = absurd came
  last_taken (end.AtFault fault) came = ap (λ st. tried_by st (steps_taken s.program most)) came
  last_taken end.StepLimit came = absurd came

  pub last_ends : (ended : StepsEnd) → CameTo s d e (Some ended) → run_end s.program (suc most) (now s d) ≡ end_view ended
  last_ends end.Ended came = absurd came
  last_ends (end.AtFault fault) came = ap (λ st. ended_by st (run_end s.program most)) came
  last_ends end.StepLimit came = absurd came

module _ {M : Type 0} (stands : M → Setting → Debugger → Type 0) (s : Setting) (most : ℕ) (d : Debugger) where
  -- so many steps were tried and done, and what is left of the run is the run from here
  pub record SoFar (taken : ℕ) (session : Session M) : Type 0 where
    pub done : HasDone stands s (step_commands taken) d session
    pub stood : 1 ≤ s.limit → now s done.after ≡ state_after s.program taken (now s d)
    pub left : 1 ≤ s.limit → steps_taken s.program most (now s d) ≡ taken + steps_taken s.program (most - taken) (now s done.after)
    pub ends : 1 ≤ s.limit → run_end s.program most (now s d) ≡ run_end s.program (most - taken) (now s done.after)

  -- one more command `step`
  abbrev with_step : (taken : ℕ) (old new : Session M) (done : HasDone stands s (step_commands taken) d old) → HasDone stands s (step_commands 1) done.after new → HasDone stands s (step_commands (taken + 1)) d new
  with_step taken old new done one = record {
    after = one.after;
    leads = subst (λ cs. Leads s cs d one.after) (replicate-append-replicate taken 1 (DoStep 1))
        (leads_on s (step_commands taken) (step_commands 1) d done.after one.after done.leads one.leads);
    there = one.there;
  }

  pub none_tried : (session : Session M) → StandsFor stands session s d → SoFar 0 session
  none_tried session there = record {
    done = record { after = d; leads = refl; there = there };
    stood = λ _. refl;
    left = λ _. let all : most ≡ most - 0 = omega arith in ap (λ n. steps_taken s.program n (now s d)) all ∙ omega arith;
    ends = λ _. let all : most ≡ most - 0 = omega arith in ap (λ n. run_end s.program n (now s d)) all;
  }

  module _ (taken : ℕ) (old : Session M) (so : SoFar taken old) where
    -- a run that is over
    abbrev pub run_over : taken ≤ most → has_ended (now s so.done.after) ≡ true → HasRun stands s most d end.Ended old
    run_over few ended = record {
      begun = record { taken = taken; few = few; done = so.done };
      whole = λ limit. let none = none_left s.program (most - taken) (now s so.done.after) ended in sym (so.left limit ∙ ap (λ n. taken + n) none ∙ omega arith);
      ends = λ limit. sym (so.ends limit ∙ over_left s.program (most - taken) (now s so.done.after) ended);
    }

    -- a run of which as many steps were tried as may be
    abbrev pub run_full : (how : StepsEnd) → taken ≡ most → end_view how ≡ run_end s.program 0 (now s so.done.after) → HasRun stands s most d how old
    run_full how all is =
        let none : most - taken ≡ 0 = omega arith in record {
          begun = record { taken = taken; few = omega arith; done = so.done };
          whole = λ limit. sym (so.left limit ∙ ap (λ n. taken + steps_taken s.program n (now s so.done.after)) none ∙ omega arith);
          ends = λ limit. is ∙ sym (so.ends limit ∙ ap (λ n. run_end s.program n (now s so.done.after)) none);
        }

    module _ (below : taken < most) (new : Session M) (goes : has_ended (now s so.done.after) ≡ false) where
      pub next_of : most - taken ≡ suc (most - (taken + 1))
      next_of = omega arith

      -- a step was tried and done
      pub one_more : Tries stands s so.done.after None new → SoFar (taken + 1) new
      one_more tried = record {
        done = with_step taken old new so.done tried.done;
        stood = λ limit.
            sym (ap (λ st. gone st (now s so.done.after)) (tried.comes limit goes)) ∙ ap (next_state s.program) (so.stood limit) ∙ sym (after_more s.program taken (now s d));
        left = λ limit.
            so.left limit ∙ ap (λ n. taken + steps_taken s.program n (now s so.done.after)) next_of
            ∙ ap (λ st. taken + tried_by st (steps_taken s.program (most - (taken + 1)))) (tried.comes limit goes) ∙ omega arith;
        ends = λ limit.
            so.ends limit ∙ ap (λ n. run_end s.program n (now s so.done.after)) next_of
            ∙ ap (λ st. ended_by st (run_end s.program (most - (taken + 1)))) (tried.comes limit goes);
      }

      -- a step was tried, and it was the last one
      abbrev pub run_stopped : (how : StepsEnd) → Tries stands s so.done.after (Some how) new → HasRun stands s most d how new
      run_stopped how tried = record {
        begun = record { taken = taken + 1; few = omega arith; done = with_step taken old new so.done tried.done };
        whole = λ limit.
            let one = last_taken s so.done.after tried.done.after (most - (taken + 1)) how (tried.comes limit goes) in
            sym (so.left limit ∙ ap (λ n. taken + steps_taken s.program n (now s so.done.after)) next_of ∙ ap (λ n. taken + n) one);
        ends = λ limit.
            let last = last_ends s so.done.after tried.done.after (most - (taken + 1)) how (tried.comes limit goes) in
            sym (so.ends limit ∙ ap (λ n. run_end s.program n (now s so.done.after)) next_of ∙ last);
      }
