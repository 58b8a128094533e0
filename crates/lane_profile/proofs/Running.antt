-- Steps that a machine did, one after another.
use Rattle.std.proofs.Common.{◌≡◌, refl, sym, ap, ◌∙◌, subst, ℕ, zero, suc, ◌+◌, ◌-◌, ◌<◌, ◌≤◌, true, false, [], ◌∷◌, length, Some, None, arith}
use Rattle.std.specs.Prelude.{if◌then◌else◌}
use Rattle.gang_model.specs.Types.Tree.{Program}
use Rattle.gang_model.specs.Running.State.{State}
use Rattle.gang_model.specs.Running.Step.{Goes, step}
use Rattle.gang_model.specs.Debugger.Debugger.{Debugger, Setting, has_ended, now}
use Rattle.gang_model.specs.Debugger.Events.{gone}
use Rattle.lane_picture.specs.declared.columns.StepsEnd.{StepsEnd}
use Rattle.lane_picture.specs.declared.columns.StepsEnd.TheVariants as end
use Rattle.lane_picture.specs.Runs as run
use Rattle.lane_picture.specs.Runs.{ended_by, run_end}
use Rattle.lane_picture.specs.Seen.{next_state, state_after}
use Rattle.lane_picture.specs.Tries.{end_view}
use Rattle.lane_picture.proofs.SeenColumns.{after_more}
use Rattle.lane_picture.proofs.Trying.{ended_over}
use Rattle.lane_profile.specs.Ran.{HasBegun, HasRun, Stops, Tries, after_steps, steps_done}
use Rattle.lane_profile.proofs.Touching.{all_left, none_after_all, none_after_end, none_after_stop, states_left, step_left}

one_more : (n : ℕ) → n + 1 ≡ suc n
one_more n = omega arith

-- the state after so many steps
pub stood : (s : Setting) (n : ℕ) (d : Debugger) → now s (after_steps n d) ≡ state_after s.program n (now s d)
stood s zero d = refl
stood s (suc n) d = ap (next_state s.program) (stood s n d) ∙ sym (after_more s.program n (now s d)) ∙ ap (λ k. state_after s.program k (now s d)) (one_more n)

over_ends : (p : Program) (n : ℕ) (state : State) → has_ended state ≡ true → run_end p n state ≡ run.Ended
over_ends p zero state ended = ap (λ b. if b then run.Ended else run.StepLimit) ended
over_ends p (suc n) state ended = ap (λ st. ended_by st (run_end p n)) (ended_over p state ended)

stop_ends : (p : Program) (n : ℕ) (state : State) (ended : StepsEnd) → Stops p state ended → run_end p (suc n) state ≡ end_view ended
stop_ends p n state end.Ended stops = ap (λ st. ended_by st (run_end p n)) stops
stop_ends p n state (end.AtFault fault) stops = ap (λ st. ended_by st (run_end p n)) stops
stop_ends p n state end.StepLimit stops = absurd stops

module _ {M : Type 0} (stands : M → Setting → Debugger → Type 0) (s : Setting) (most : ℕ) (d : Debugger) where
  -- so many steps were done, and what is left of the run is the run from here
  pub record SoFar (taken : ℕ) (machine : M) : Type 0 where
    pub there : stands machine s (after_steps taken d)
    pub left : steps_done s most d ≡ taken + length (states_left s.program most (now s d) taken)
    pub ends : run_end s.program most (now s d) ≡ run_end s.program (most - taken) (now s (after_steps taken d))

  pub none_done : (machine : M) → stands machine s d → SoFar 0 machine
  none_done machine there = record {
    there = there;
    left = ap length (sym (all_left s.program most (now s d))) ∙ omega arith;
    ends = let all : most ≡ most - 0 = omega arith in ap (λ n. run_end s.program n (now s d)) all;
  }

  module _ (taken : ℕ) (machine : M) (so : SoFar taken machine) where
    abbrev here : State
    here = now s (after_steps taken d)

    abbrev pub begun_so : HasBegun stands s most d machine
    begun_so = record { taken = taken; few = omega (arith, so.left); there = so.there }

    -- no step is left
    whole_so : states_left s.program most (now s d) taken ≡ [] → taken ≡ steps_done s most d
    whole_so none = sym (so.left ∙ ap (λ l. taken + length l) none ∙ omega arith)

    -- a run that is over
    pub run_over : has_ended here ≡ true → HasRun stands s most d end.Ended machine
    run_over ended = record {
      begun = begun_so;
      whole = whole_so (none_after_end s.program most (now s d) taken here (stood s taken d) ended);
      ends = sym (so.ends ∙ over_ends s.program (most - taken) here ended);
    }

    -- a run of which as many steps were done as may be
    pub run_full : (ended : StepsEnd) → most ≤ taken → end_view ended ≡ run_end s.program 0 here → HasRun stands s most d ended machine
    run_full ended all is =
        let none : most - taken ≡ 0 = omega (arith, all) in record {
          begun = begun_so;
          whole = whole_so (none_after_all s.program most (now s d) taken all);
          ends = is ∙ sym (so.ends ∙ ap (λ n. run_end s.program n here) none);
        }

    module _ (below : taken < most) (new : M) where
      next_of : most - taken ≡ suc (most - (taken + 1))
      next_of = omega (arith, below)

      -- a step more was done
      pub one_done : Tries stands s (after_steps taken d) None new → SoFar (taken + 1) new
      one_done tried = record {
        there = subst (λ n. stands new s (after_steps n d)) (sym (one_more taken)) tried.2;
        left = so.left ∙ ap (λ l. taken + length l) (step_left s.program most (now s d) taken below here tried.0 (stood s taken d) tried.1) ∙ omega arith;
        ends = so.ends ∙ ap (λ n. run_end s.program n here) next_of ∙ ap (λ st. ended_by st (run_end s.program (most - (taken + 1)))) tried.1
            ∙ ap (run_end s.program (most - (taken + 1))) (sym (ap (λ st. gone st here) tried.1))
            ∙ ap (λ n. run_end s.program (most - (taken + 1)) (now s (after_steps n d))) (sym (one_more taken));
      }

      -- a step was tried, and the run ends there
      pub run_stopped : (ended : StepsEnd) → Tries stands s (after_steps taken d) (Some ended) new → HasRun stands s most d ended new
      run_stopped ended tried = record {
        begun = record { taken = taken; few = omega (arith, so.left); there = tried.1 };
        whole = whole_so (none_after_stop s.program most (now s d) taken below here ended (stood s taken d) tried.0);
        ends = sym (so.ends ∙ ap (λ n. run_end s.program n here) next_of ∙ stop_ends s.program (most - (taken + 1)) here ended tried.0);
      }
