-- Single steps, made one after another.
use Rattle.std.proofs.Common.{◌≡◌, refl, sym, subst, ap, ℕ, zero, suc, ◌<◌, false, List, inl, inr, arith}
use Rattle.std.specs.Prelude.{true, Option, Some, None, option_map, replicate}
use Rattle.gang_model.specs.Debugger.Debugger as model
use Rattle.gang_model.specs.Debugger.Debugger.{Debugger, Moves, Reply, Setting, backward, backward_refusal, do_command, forward, forward_refusal, kept_steps, now}
use Rattle.debug_answers.specs.declared.answer.Answer.{Answer}
use Rattle.debug_answers.specs.declared.answer.Answer.TheVariants as answer
use Rattle.debug_answers.specs.Meanings.{Means}
use Rattle.debug_session.specs.declared.session.Session.{Session}
use Rattle.debug_session.specs.Sessions.{RepliesOn, RepliesTo, StandsFor}
use Rattle.command_lists.specs.Lists.{HasDone, Leads}
use Rattle.conditional_stops.specs.declared.going.Direction.{Direction}
use Rattle.conditional_stops.specs.declared.going.Direction.TheVariants as direction
use Rattle.conditional_stops.specs.declared.going.MoveEnd.{MoveEnd}
use Rattle.conditional_stops.specs.declared.going.MoveEnd.TheVariants as end
use Rattle.conditional_stops.specs.declared.watches.Watch.{Watch}
use Rattle.conditional_stops.specs.Going.{times}
use Rattle.conditional_stops.specs.Reasons.{Asks}
use Rattle.conditional_stops.specs.Tables.{Table}
use Rattle.conditional_stops.specs.Walking.{EndsHere, EndsStepBy, EndsWalk, PassesStep, PassesSteps, StepsOnce, WalksOn, end_without_memory, is_here, last_answer, reasons_on, step_of, tells_here}
use Rattle.conditional_stops.proofs.Passing.{forward_stops, backward_stops, refused_stops}

-- ---- the reply

-- a step has one reply
pub sure_step : (may_want : Type 0) (s : Setting) (way : Direction) (d : Debugger) (r : Reply) → RepliesOn may_want s (step_of way) d r → r ≡ do_command s (step_of way) d
sure_step may_want s direction.Forward d r (inl (inl e)) = e
sure_step may_want s direction.Forward d r (inl (inr out)) = absurd out.0
sure_step may_want s direction.Forward d r (inr none) = absurd none.1.0
sure_step may_want s direction.Backward d r (inl (inl e)) = e
sure_step may_want s direction.Backward d r (inl (inr out)) = absurd out.0
sure_step may_want s direction.Backward d r (inr none) = absurd none.1.0

-- an answer tells that a step was made where it means that
pub here_told : (s : Setting) (d : Debugger) (given : Answer) (meant : model.Answer) → Means s d given meant → tells_here given ≡ is_here meant
here_told s d answer.Here meant h = sym (ap is_here h)
here_told s d (answer.AtBreakpoint n) meant h = sym (ap is_here h)
here_told s d (answer.AtWatch n) meant h = sym (ap is_here h)
here_told s d (answer.AtFault fault) meant h = sym (ap is_here h)
here_told s d answer.HistoryEnd meant h = sym (ap is_here h)
here_told s d answer.StepLimit meant h = sym (ap is_here h)
here_told s d answer.UndoneStep meant h = sym (ap is_here h)
here_told s d answer.UndonePoke meant h = sym (ap is_here h)
here_told s d (answer.Shows target shown) meant h = sym (ap is_here h.1)
here_told s d (answer.BreaksAt number line) meant h = sym (ap is_here h)
here_told s d (answer.Watches number target) meant h = sym (ap is_here h)
here_told s d (answer.Deleted number) meant h = sym (ap is_here h)
here_told s d answer.ListsStops meant h = sym (ap is_here h)
here_told s d answer.ListsLocals meant h = sym (ap is_here h)
here_told s d answer.ListsFrames meant h = sym (ap is_here h)
here_told s d (answer.KeepsHistory n) meant h = sym (ap is_here h)
here_told s d answer.Silent meant h = sym (ap is_here h)
here_told s d (answer.Refused r) meant h = sym (ap is_here h)

-- breakpoints and watches stay
pub step_stops : (way : Direction) (s : Setting) (d : Debugger) → (do_command s (step_of way) d).next.stops ≡ d.stops
step_stops direction.Forward s d = refused_stops (forward_refusal false (now s d)) d (forward s.limit s (Moves 1)) (forward_stops s.limit s (Moves 1) d)
step_stops direction.Backward s d = refused_stops (backward_refusal (kept_steps d) false (now s d)) d (backward d.kept s (Moves 1)) (backward_stops d.kept s (Moves 1) d)

-- ---- steps one after another

module _ (s : Setting) (way : Direction) (watches : List Watch) where
  -- one step more
  pub steps_on : (n : ℕ) (d at : Debugger) (table middle new : Table) → PassesSteps n s way watches d table at middle → PassesStep s way watches at middle new
      → PassesSteps (suc n) s way watches d table (do_command s (step_of way) at).next new
  steps_on zero d at table middle new (same, left) one =
      (new, subst (λ x. PassesStep s way watches x table new) same (subst (λ t. PassesStep s way watches at t new) left one), (ap (λ x. (do_command s (step_of way) x).next) same, refl))
  steps_on (suc n) d at table middle new (between, first, others) one = (between, first, steps_on n (do_command s (step_of way) d).next at between middle new others one)

  -- where they lead
  pub steps_lead : (n : ℕ) (d at : Debugger) (table new : Table) → PassesSteps n s way watches d table at new → Leads s (replicate n (step_of way)) d at
  steps_lead zero d at table new (same, left) = same
  steps_lead (suc n) d at table new (between, first, others) = (do_command s (step_of way) d, inl (inl refl), steps_lead n (do_command s (step_of way) d).next at between new others)

  -- and one step more
  pub steps_lead_on : (n : ℕ) (d at : Debugger) (table new : Table) → PassesSteps n s way watches d table at new → Leads s (replicate (suc n) (step_of way)) d (do_command s (step_of way) at).next
  steps_lead_on zero d at table new (same, left) = (do_command s (step_of way) d, inl (inl refl), ap (λ x. (do_command s (step_of way) x).next) same)
  steps_lead_on (suc n) d at table new (between, first, others) = (do_command s (step_of way) d, inl (inl refl), steps_lead_on n (do_command s (step_of way) d).next at between new others)

module _ {M : Type 0} (stands : M → Setting → Debugger → Type 0) (s : Setting) (way : Direction) (watches : List Watch) where
  -- a move that was ended
  pub ends_walk : (most passed : ℕ) (at : Debugger) (table new : Table) (ended : MoveEnd) (session : Session M) → passed < most → EndsStepBy stands s way watches at table ended session new
      → EndsWalk stands s way watches most passed at table ended session new
  ends_walk most passed at table new (end.Stopped counted) session few by = (few, by)
  ends_walk most passed at table new (end.Answered given) session few by = (few, by)
  ends_walk most passed at table new end.MostPassed session few by = absurd by.1
  ends_walk most passed at table new end.NoMemory session few by = (few, by)

  -- what was done then
  pub all_stepped : (passed : ℕ) (d at : Debugger) (table before new : Table) (ended : MoveEnd) (session : Session M) → PassesSteps passed s way watches d table at before
      → EndsStepBy stands s way watches at before ended session new → HasDone stands s (replicate (times passed ended) (step_of way)) d session
  all_stepped passed d at table before new (end.Stopped counted) session passes by =
      record { after = (do_command s (step_of way) at).next; leads = steps_lead_on s way watches passed d at table before passes; there = by.0 }
  all_stepped passed d at table before new (end.Answered given) session passes by =
      record { after = (do_command s (step_of way) at).next; leads = steps_lead_on s way watches passed d at table before passes; there = by.0 }
  all_stepped passed d at table before new end.MostPassed session passes by = absurd by.1
  all_stepped passed d at table before new end.NoMemory session passes by =
      record { after = at; leads = steps_lead s way watches passed d at table before passes; there = by.0 }

  -- a move for which nothing could be noted
  pub nothing_noted : (most : ℕ) (d : Debugger) (table : Table) (session : Session M) → StandsFor stands session s d
      → WalksOn stands s way watches most d table (record { end = end_without_memory most; passed = 0 }) session table
  nothing_noted zero d table session there =
      record { at = d; before = table; passes = (refl, refl); ends = (refl, there, refl); done = record { after = d; leads = refl; there = there } }
  nothing_noted (suc n) d table session there =
      record { at = d; before = table; passes = (refl, refl); ends = (omega arith, (there, refl)); done = record { after = d; leads = refl; there = there } }

  -- where a session stands behind a step, and what its answer means there
  pub stepped : (may_want : Type 0) (d : Debugger) (given : Answer) (new : Session M) → RepliesTo may_want stands s (step_of way) d given new
      → StandsFor stands new s (do_command s (step_of way) d).next × Means s (do_command s (step_of way) d).next given (do_command s (step_of way) d).answer
  stepped may_want d given new replies =
      let is : replies.reply ≡ do_command s (step_of way) d = sure_step may_want s way d replies.reply replies.is_reply in
      (subst (λ (r : Reply). StandsFor stands new s r.next) is replies.replied.there, subst (λ (r : Reply). Means s r.next given r.answer) is replies.replied.means)

  -- a step that was made, and what ends the move behind it
  pub step_ended : (d : Debugger) (table new : Table) (ended : Option MoveEnd) (session : Session M) → StandsFor stands session s (do_command s (step_of way) d).next
      → is_here (do_command s (step_of way) d).answer ≡ true → EndsHere s way watches d (do_command s (step_of way) d).next table ended new → StepsOnce stands s way watches d table ended session new
  step_ended d table new None session there made (none, more) = (there, record { made = made; none = none; more = more })
  step_ended d table new (Some (end.Stopped counted)) session there made first = (there, (made, first))
  step_ended d table new (Some (end.Answered given)) session there made (none, is) = (there, inr (inl (made, none, is)))
  step_ended d table new (Some end.MostPassed) session there made by = absurd by
  step_ended d table new (Some end.NoMemory) session there made by = absurd by

-- where nothing counts behind a step, it is the last one, or the next one can be made
pub last_ended : (s : Setting) (way : Direction) (watches : List Watch) (began d : Debugger) (table new : Table) (last : Option Answer) → Asks s d (reasons_on way s began d watches) table None new
    → last_answer way s d watches ≡ last → EndsHere s way watches began d table (option_map (λ given. end.Answered given) last) new
last_ended s way watches began d table new None none is = (none, is)
last_ended s way watches began d table new (Some given) none is = (none, is)
