-- What a move comes to.
use Rattle.std.proofs.Common.{◌≡◌, sym, subst, ap, ◌∙◌, ℕ, suc, Bool}
use Rattle.std.specs.Prelude.{◌==◌}
use Rattle.gang_model.specs.Running.Lanes.{Fault}
use Rattle.gang_model.specs.Running.State.{State}
use Rattle.gang_model.specs.Running.Step.{Goes, Fails, Over, step}
use Rattle.gang_model.specs.Debugger.Events.{Step, gone}
use Rattle.gang_model.specs.Debugger.Debugger as model
use Rattle.gang_model.specs.Debugger.Debugger.{AtFault, Debugger, Goal, Here, HistoryEnd, Reply, Setting, after_move, attempted, backward, forward, has_ended, kept_steps, moved, now, or_next, reply, stepped_back}
use Rattle.debug_answers.specs.declared.answer.Answer.{Answer}
use Rattle.debug_session.specs.declared.moving.AfterMove.{AfterMove}
use Rattle.debug_session.specs.declared.moving.AfterMove.TheVariants.{Ends, GoesOn}
use Rattle.debug_session.specs.Moves.{Done, Follows, IfGoesOn, MeansAfter, Moved}

module _ {M : Type 0} (stands : M → Setting → Debugger → Type 0) (s : Setting) where
  -- the reply after a move, or what is left
  pub moved_by : (d e : Debugger) (machine : M) (given : AfterMove) (meant : model.AfterMove) (next : Goal → Debugger → Reply)
      → Follows stands s d machine e → MeansAfter s e given meant → Moved stands s d e (or_next meant e (λ goal. next goal e)) next given machine
  moved_by d e machine (Ends given) (model.Ends meant) next there means = record { follows = there; means = means }
  moved_by d e machine (GoesOn goal) (model.GoesOn meant) next there means = (there, ap (λ goal. next goal e) (sym means))
  moved_by d e machine (Ends given) (model.GoesOn meant) next there means = absurd means
  moved_by d e machine (GoesOn goal) (model.Ends meant) next there means = absurd means

  pub moved_so : (d e : Debugger) (machine : M) (given : AfterMove) (next : Goal → Debugger → Reply) (r q : Reply)
      → r ≡ q → Moved stands s d e q next given machine → Moved stands s d e r next given machine
  moved_so d e machine given next r q same h = subst (λ r. Moved stands s d e r next given machine) (sym same) h

  pub done_so : (d : Debugger) (r q : Reply) (given : Answer) (machine : M) → r ≡ q → Done stands s d q given machine → Done stands s d r given machine
  done_so d r q given machine same h = subst (λ r. Done stands s d r given machine) (sym same) h

  -- what follows a debugger that follows another one follows that
  pub follows_on : (d e f : Debugger) (old new : M) → Follows stands s d old e → Follows stands s e new f → Follows stands s d new f
  follows_on d e f old new h k = record { there = k.there; stops = k.stops ∙ h.stops; next = k.next ∙ h.next }

  pub done_on : (d e : Debugger) (old new : M) (r q : Reply) (given : Answer) → r ≡ q → Follows stands s d old e → Done stands s e q given new → Done stands s d r given new
  done_on d e old new r q given same h k =
      subst (λ r. Done stands s d r given new) (sym same) (record { follows = follows_on d e q.next old new h k.follows; means = k.means })

module _ (s : Setting) (d : Debugger) (n : ℕ) (goal : Goal) where
  -- the state after a step that was done
  pub now_moved : (new : State) → step s.program (now s d) ≡ Goes new → now s (moved Step d) ≡ new
  now_moved new e = ap (λ r. gone r (now s d)) e

  pub forward_fails : (fault : Fault) → step s.program (now s d) ≡ Fails fault → forward (suc n) s goal d ≡ reply (AtFault fault) d
  forward_fails fault e = ap (λ r. attempted s goal d r (λ next. forward n s next (moved Step d))) e

  pub forward_over : step s.program (now s d) ≡ Over → forward (suc n) s goal d ≡ reply Here d
  forward_over e = ap (λ r. attempted s goal d r (λ next. forward n s next (moved Step d))) e

  -- what ends the command after a step, by where the program stands then
  abbrev after_step : Bool → model.AfterMove
  after_step ended = after_move s.program goal (now s d) (now s (moved Step d)) d.stops ended Here

  pub forward_goes : (new : State) (ended : Bool) → step s.program (now s d) ≡ Goes new → ended ≡ has_ended (now s (moved Step d))
      → forward (suc n) s goal d ≡ or_next (after_move s.program goal (now s d) (now s (moved Step d)) d.stops ended Here) (moved Step d) (λ next. forward n s next (moved Step d))
  forward_goes new ended e is =
      ap (λ r. attempted s goal d r (λ next. forward n s next (moved Step d))) e
      ∙ ap (λ state. or_next (after_move s.program goal (now s d) state d.stops (has_ended state) Here) (moved Step d) (λ next. forward n s next (moved Step d))) (sym (now_moved new e))
      ∙ ap (λ b. or_next (after_step b) (moved Step d) (λ next. forward n s next (moved Step d))) (sym is)

  pub backward_goes : (none : Bool) → none ≡ (kept_steps (stepped_back d) == 0)
      → backward (suc n) s goal d ≡ or_next (after_move s.program goal (now s d) (now s (stepped_back d)) d.stops none HistoryEnd) (stepped_back d) (λ next. backward n s next (stepped_back d))
  backward_goes none is =
      ap (λ b. or_next (after_move s.program goal (now s d) (now s (stepped_back d)) d.stops b HistoryEnd) (stepped_back d) (λ next. backward n s next (stepped_back d))) (sym is)

pub goes_on : (given : AfterMove) (P Q : Type 0) → (P → Q) → IfGoesOn given P → IfGoesOn given Q
goes_on (Ends given) P Q f h = h
goes_on (GoesOn goal) P Q f h = f h
