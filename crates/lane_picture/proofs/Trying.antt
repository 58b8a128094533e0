-- What the command `step` comes to.
use Rattle.std.proofs.Common.{◌≡◌, refl, sym, ap, ◌∙◌, subst, inl, inr, ℕ, suc, ◌-◌, true, false, List, [], ◌∷◌, length, Option, Some, None, Result, Ok, Err, arith}
use Rattle.std.specs.Prelude.{◌==◌, if◌then◌else◌}
use Rattle.std.proofs.lemmas.Bool.Decides.{nat_tests}
use Rattle.gang_model.specs.Types.Tree.{Program}
use Rattle.gang_model.specs.Running.Lanes.{Fault}
use Rattle.gang_model.specs.Running.State.{Store, Task, Frame, State}
use Rattle.gang_model.specs.Running.Step.{Stepped, Goes, Fails, Over, perform, step, step_frame, step_task, stepped}
use Rattle.gang_model.specs.Debugger.Events.{Step, gone}
use Rattle.gang_model.specs.Debugger.Debugger as model
use Rattle.gang_model.specs.Debugger.Debugger.{Debugger, DoStep, IsReply, Moves, Reply, Setting, attempted, do_command, forward, has_ended, moved, now, reply}
use Rattle.debug_answers.specs.declared.answer.Answer.{Answer}
use Rattle.debug_answers.specs.declared.answer.Answer.TheVariants as answer
use Rattle.debug_answers.specs.Meanings.{Means}
use Rattle.debug_session.specs.declared.session.Session.{Session}
use Rattle.debug_session.specs.Sessions.{RepliesOn, RepliesTo}
use Rattle.command_lists.proofs.DoneLists.{may_reply}
use Rattle.debug_session.proofs.Replies.{forward_done}
use Rattle.lane_picture.specs.declared.columns.StepsEnd.{StepsEnd}
use Rattle.lane_picture.specs.declared.columns.StepsEnd.TheVariants as end
use Rattle.lane_picture.specs.Tries.{CameTo, Tries}

-- ---- a program is over where it has no frame

over_result : (r : Result State Fault) → stepped r ≡ Over → ⊥
over_result (Ok state) e = cc e
over_result (Err fault) e = cc e

over_task : (p : Program) (memory : Store) (frames : List Frame) (frame : Frame) (tasks : List Task) → step_task p memory frames frame tasks ≡ Over → ⊥
over_task p memory frames frame [] e = cc e
over_task p memory frames frame (t ∷ ts) e = over_result (perform p t.doing t.lanes (record { memory = memory; frames = record frame { tasks = ts } ∷ frames })) e

over_frames : (p : Program) (memory : Store) (frames : List Frame) → step_frame p memory frames ≡ Over → (length frames == 0) ≡ true
over_frames p memory [] e = refl
over_frames p memory (frame ∷ frames) e = absurd (over_task p memory frames frame frame.tasks e)

no_frames : (p : Program) (memory : Store) (frames : List Frame) → (length frames == 0) ≡ true → step_frame p memory frames ≡ Over
no_frames p memory [] e = refl
no_frames p memory (frame ∷ frames) e = absurd (grind (arith, nat_tests))

pub over_ended : (p : Program) (state : State) → step p state ≡ Over → has_ended state ≡ true
over_ended p state e = over_frames p state.memory state.frames e

pub ended_over : (p : Program) (state : State) → has_ended state ≡ true → step p state ≡ Over
ended_over p state e = no_frames p state.memory state.frames e

-- ---- answers

-- how the steps ended, if they did, by the answer to a step
abbrev pub came : Answer → Option StepsEnd
came answer.Here = None
came (answer.AtFault fault) = Some (end.AtFault fault)
came other = Some end.StepLimit

pub came_other : (given : Answer) → (given ≡ answer.Here → ⊥) → ((fault : _) → given ≡ answer.AtFault fault → ⊥) → came given ≡ Some end.StepLimit
came_other answer.Here here fault = absurd (here refl)
came_other (answer.AtFault f) here fault = absurd (fault f refl)
came_other other here fault = refl

module _ (s : Setting) (d : Debugger) where
  -- a step that faults is answered so
  came_fault : (given : Answer) (fault : Fault) (e : Debugger) → step s.program (now s d) ≡ Fails fault → Means s d given (model.AtFault fault) → CameTo s d e (came given)
  came_fault answer.Here fault e fails means = absurd (cc means)
  came_fault (answer.AtFault f) fault e fails means = cc
  came_fault (answer.Shows target shown) fault e fails means = absurd (cc (means.1))
  came_fault other fault e fails means = absurd (cc means)

  -- a step that is done is answered so
  came_here : (given : Answer) (new : State) → step s.program (now s d) ≡ Goes new → Means s (moved Step d) given model.Here → CameTo s d (moved Step d) (came given)
  came_here answer.Here new goes means = goes ∙ ap Goes (sym (ap (λ st. gone st (now s d)) goes))
  came_here (answer.AtFault f) new goes means = absurd (cc means)
  came_here (answer.Shows target shown) new goes means = absurd (cc (means.1))
  came_here other new goes means = absurd (cc means)

  module _ (n : ℕ) (limit : s.limit ≡ suc n) (goes : has_ended (now s d) ≡ false) where
    -- the reply, by what the step comes to
    abbrev reply_of : Stepped → Reply
    reply_of st = attempted s (Moves 1) d st (λ next. forward n s next (moved Step d))

    done_alone : (r : Reply) → IsReply s (DoStep 1) d r → r ≡ do_command s (DoStep 1) d
    done_alone r is = elim is [ inl e ↦ e | inr h ↦ absurd h.0 ]

    done_surely : (may_want : Type 0) (r : Reply) → RepliesOn may_want s (DoStep 1) d r → IsReply s (DoStep 1) d r
    done_surely may_want r is = elim is [ inl is ↦ is | inr none ↦ absurd none.1.0 ]

    reply_is : (r : Reply) → IsReply s (DoStep 1) d r → r ≡ reply_of (step s.program (now s d))
    reply_is r is = done_alone r is ∙ forward_done s d false (Moves 1) (suc n) limit (ap (λ b. if b then Some model.Ended else None) goes)

    came_by : (st : Stepped) → step s.program (now s d) ≡ st → (given : Answer) (r : Reply) → IsReply s (DoStep 1) d r → Means s r.next given r.answer → CameTo s d r.next (came given)
    came_by Over e given r is means = absurd (cc (sym goes ∙ over_ended s.program (now s d) e))
    came_by (Fails fault) e given r is means =
        let replied : r ≡ reply (model.AtFault fault) d = reply_is r is ∙ ap reply_of e in
        came_fault given fault r.next e (subst (λ r. Means s r.next given r.answer) replied means)
    came_by (Goes new) e given r is means =
        let replied : r ≡ reply model.Here (moved Step d) = reply_is r is ∙ ap reply_of e in
        subst (λ r. CameTo s d r.next (came given)) (sym replied) (came_here given new e (subst (λ r. Means s r.next given r.answer) replied means))

-- a session has tried a step
pub tries : {M : Type 0} (may_want : Type 0) (stands : M → Setting → Debugger → Type 0) (s : Setting) (d : Debugger) (given : Answer) (new : Session M) → RepliesTo may_want stands s (DoStep 1) d given new → Tries stands s d (came given) new
tries may_want stands s d given new replies = record {
  done = record { after = replies.reply.next; leads = (replies.reply, may_reply may_want s (DoStep 1) d replies.reply replies.is_reply, refl); there = replies.replied.there };
  comes = λ limit goes.
      let some : s.limit ≡ suc (s.limit - 1) = omega (arith, limit) in
      came_by s d (s.limit - 1) some goes (step s.program (now s d)) refl given replies.reply (done_surely s d (s.limit - 1) some goes may_want replies.reply replies.is_reply) replies.replied.means;
}
