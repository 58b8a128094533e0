-- A command that goes on, done again and again.
use Rattle.std.proofs.Common.{◌≡◌, refl, sym, subst, ap, ◌∙◌, ℕ, zero, suc, ◌<◌, true, false, Option, Some, None, inl, inr}
use Rattle.std.specs.Prelude.{◌==◌, replicate}
use Rattle.gang_model.specs.Running.Step.{Fails, Goes, Over, Stepped, step}
use Rattle.gang_model.specs.Debugger.Debugger as model
use Rattle.gang_model.specs.Debugger.Debugger.{AfterMove, Command, Debugger, Ends, Goal, GoesOn, Here, HistoryEnd, NoGoal, Reply, Setting, after_move, attempted, backward, backward_refusal, do_command, forward, forward_refusal, has_ended, kept_steps, moved, now, or_next, stepped_back, unless_refused}
use Rattle.gang_model.specs.Debugger.Events.{Step}
use Rattle.debug_answers.specs.declared.answer.Answer.{Answer}
use Rattle.debug_answers.specs.declared.answer.Answer.TheVariants as answer
use Rattle.debug_answers.specs.Meanings.{Means}
use Rattle.debug_session.specs.declared.session.Session.{Session}
use Rattle.debug_session.specs.Bounds.{most_moves}
use Rattle.debug_session.specs.Sessions.{RepliesOn, StandsFor}
use Rattle.command_lists.specs.Lists.{HasDone, Leads}
use Rattle.conditional_stops.specs.declared.going.Direction.{Direction}
use Rattle.conditional_stops.specs.declared.going.Direction.TheVariants as direction
use Rattle.conditional_stops.specs.declared.going.MoveEnd.{MoveEnd}
use Rattle.conditional_stops.specs.declared.going.MoveEnd.TheVariants as end
use Rattle.conditional_stops.specs.declared.reasons.CountedStop.{CountedStop}
use Rattle.conditional_stops.specs.Reasons.{Asks, reasons}
use Rattle.conditional_stops.specs.Going.{EndsBy, EndsMove, GoesOnce, Passes, PassesOne, command_of, end_at, is_stop, tells_stop, times}
use Rattle.conditional_stops.specs.Tables.{Table}

-- ---- the reply

-- a command that goes on has one reply
pub sure_reply : (may_want : Type 0) (s : Setting) (way : Direction) (d : Debugger) (r : Reply) → RepliesOn may_want s (command_of way) d r → r ≡ do_command s (command_of way) d
sure_reply may_want s direction.Forward d r (inl (inl e)) = e
sure_reply may_want s direction.Forward d r (inl (inr out)) = absurd out.0
sure_reply may_want s direction.Forward d r (inr none) = absurd none.1.0
sure_reply may_want s direction.Backward d r (inl (inl e)) = e
sure_reply may_want s direction.Backward d r (inl (inr out)) = absurd out.0
sure_reply may_want s direction.Backward d r (inr none) = absurd none.1.0

-- how many moves it makes at most forward
pub forward_moves : (steps kept limit : ℕ) (way : Direction) (command : Command) → command ≡ command_of way → way ≡ direction.Forward → limit ≡ steps → most_moves steps kept command ≡ limit
forward_moves steps kept limit way command is forward same = ap (most_moves steps kept) (is ∙ ap command_of forward) ∙ sym same

-- an answer tells a stop where what it means is one
pub stop_told : (s : Setting) (d : Debugger) (given : Answer) (meant : model.Answer) → Means s d given meant → tells_stop given ≡ is_stop meant
stop_told s d answer.Here meant h = sym (ap is_stop h)
stop_told s d (answer.AtBreakpoint n) meant h = sym (ap is_stop h)
stop_told s d (answer.AtWatch n) meant h = sym (ap is_stop h)
stop_told s d (answer.AtFault fault) meant h = sym (ap is_stop h)
stop_told s d answer.HistoryEnd meant h = sym (ap is_stop h)
stop_told s d answer.StepLimit meant h = sym (ap is_stop h)
stop_told s d answer.UndoneStep meant h = sym (ap is_stop h)
stop_told s d answer.UndonePoke meant h = sym (ap is_stop h)
stop_told s d (answer.Shows target shown) meant h = sym (ap is_stop h.1)
stop_told s d (answer.BreaksAt number line) meant h = sym (ap is_stop h)
stop_told s d (answer.Watches number target) meant h = sym (ap is_stop h)
stop_told s d (answer.Deleted number) meant h = sym (ap is_stop h)
stop_told s d answer.ListsStops meant h = sym (ap is_stop h)
stop_told s d answer.ListsLocals meant h = sym (ap is_stop h)
stop_told s d answer.ListsFrames meant h = sym (ap is_stop h)
stop_told s d (answer.KeepsHistory n) meant h = sym (ap is_stop h)
stop_told s d answer.Silent meant h = sym (ap is_stop h)
stop_told s d (answer.Refused r) meant h = sym (ap is_stop h)

-- ---- breakpoints and watches stay

or_stops : (m : AfterMove) (d e : Debugger) (next : Goal → Reply) → e.stops ≡ d.stops → ((goal : Goal) → (next goal).next.stops ≡ d.stops) → (or_next m e next).next.stops ≡ d.stops
or_stops (Ends given) d e next here same = here
or_stops (GoesOn goal) d e next here same = same goal

attempted_stops : (s : Setting) (goal : Goal) (d : Debugger) (r : Stepped) (next : Goal → Reply) → ((goal : Goal) → (next goal).next.stops ≡ d.stops) → (attempted s goal d r next).next.stops ≡ d.stops
attempted_stops s goal d Over next same = refl
attempted_stops s goal d (Fails fault) next same = refl
attempted_stops s goal d (Goes new) next same = or_stops (after_move s.program goal (now s d) new d.stops (has_ended new) Here) d (moved Step d) next refl same

pub forward_stops : (n : ℕ) (s : Setting) (goal : Goal) (d : Debugger) → (forward n s goal d).next.stops ≡ d.stops
forward_stops zero s goal d = refl
forward_stops (suc n) s goal d = attempted_stops s goal d (step s.program (now s d)) (λ next. forward n s next (moved Step d)) (λ next. forward_stops n s next (moved Step d))

pub backward_stops : (n : ℕ) (s : Setting) (goal : Goal) (d : Debugger) → (backward n s goal d).next.stops ≡ d.stops
backward_stops zero s goal d = refl
backward_stops (suc n) s goal d =
    or_stops (after_move s.program goal (now s d) (now s (stepped_back d)) d.stops (kept_steps (stepped_back d) == 0) HistoryEnd) d (stepped_back d) (λ next. backward n s next (stepped_back d)) refl
    (λ next. backward_stops n s next (stepped_back d))

pub refused_stops : (r : Option model.Refusal) (d : Debugger) (go : Debugger → Reply) → (go d).next.stops ≡ d.stops → (unless_refused r d go).next.stops ≡ d.stops
refused_stops None d go same = same
refused_stops (Some r) d go same = refl

pub stops_stay : (way : Direction) (s : Setting) (d : Debugger) → (do_command s (command_of way) d).next.stops ≡ d.stops
stops_stay direction.Forward s d = refused_stops (forward_refusal false (now s d)) d (forward s.limit s NoGoal) (forward_stops s.limit s NoGoal d)
stops_stay direction.Backward s d = refused_stops (backward_refusal (kept_steps d) false (now s d)) d (backward d.kept s NoGoal) (backward_stops d.kept s NoGoal d)

-- ---- stops that are passed

module _ (s : Setting) (command : Command) where
  -- one stop more is passed
  pub passes_on : (n : ℕ) (d at : Debugger) (table middle new : Table) → Passes n s command d table at middle → PassesOne s command at middle new → Passes (suc n) s command d table (do_command s command at).next new
  passes_on zero d at table middle new (same, left) one =
      (new, subst (λ x. PassesOne s command x table new) same (subst (λ t. PassesOne s command at t new) left one), (ap (λ x. (do_command s command x).next) same, refl))
  passes_on (suc n) d at table middle new (between, first, others) one = (between, first, passes_on n (do_command s command d).next at between middle new others one)

  -- where they lead
  pub passes_lead : (n : ℕ) (d at : Debugger) (table new : Table) → Passes n s command d table at new → Leads s (replicate n command) d at
  passes_lead zero d at table new (same, left) = same
  passes_lead (suc n) d at table new (between, first, others) = (do_command s command d, inl (inl refl), passes_lead n (do_command s command d).next at between new others)

  -- and the command once more
  pub passes_lead_on : (n : ℕ) (d at : Debugger) (table new : Table) → Passes n s command d table at new → Leads s (replicate (suc n) command) d (do_command s command at).next
  passes_lead_on zero d at table new (same, left) = (do_command s command d, inl (inl refl), ap (λ x. (do_command s command x).next) same)
  passes_lead_on (suc n) d at table new (between, first, others) = (do_command s command d, inl (inl refl), passes_lead_on n (do_command s command d).next at between new others)

module _ {M : Type 0} (stands : M → Setting → Debugger → Type 0) (s : Setting) (command : Command) where
  -- a stop that counts, or does not
  pub once_stopped : (d : Debugger) (table new : Table) (counted : Option CountedStop) (session : Session M) → StandsFor stands session s (do_command s command d).next → is_stop (do_command s command d).answer ≡ true
      → Asks s (do_command s command d).next (reasons s d (do_command s command d).next) table counted new → GoesOnce stands s command d table (end_at counted) session new
  once_stopped d table new None session there stops asks = (there, record { stops = stops; none = asks })
  once_stopped d table new (Some counted) session there stops asks = (there, (stops, asks))

  -- another answer
  pub once_answered : (d : Debugger) (table : Table) (given : Answer) (session : Session M) → StandsFor stands session s (do_command s command d).next → is_stop (do_command s command d).answer ≡ false
      → Means s (do_command s command d).next given (do_command s command d).answer → GoesOnce stands s command d table (Some (end.Answered given)) session table
  once_answered d table given session there other means = (there, (other, means, refl))

  -- a move that was ended
  pub ends_move : (most passed : ℕ) (at : Debugger) (table new : Table) (ended : MoveEnd) (session : Session M) → passed < most → EndsBy stands s command at table ended session new
      → EndsMove stands s command most passed at table ended session new
  ends_move most passed at table new (end.Stopped counted) session few by = (few, by)
  ends_move most passed at table new (end.Answered given) session few by = (few, by)
  ends_move most passed at table new end.MostPassed session few by = absurd by.1
  ends_move most passed at table new end.NoMemory session few by = (few, by)

  -- what was done then
  pub all_done : (passed : ℕ) (d at : Debugger) (table before new : Table) (ended : MoveEnd) (session : Session M) → Passes passed s command d table at before → EndsBy stands s command at before ended session new
      → HasDone stands s (replicate (times passed ended) command) d session
  all_done passed d at table before new (end.Stopped counted) session passes by =
      record { after = (do_command s command at).next; leads = passes_lead_on s command passed d at table before passes; there = by.0 }
  all_done passed d at table before new (end.Answered given) session passes by =
      record { after = (do_command s command at).next; leads = passes_lead_on s command passed d at table before passes; there = by.0 }
  all_done passed d at table before new end.MostPassed session passes by = absurd by.1
  all_done passed d at table before new end.NoMemory session passes by =
      record { after = at; leads = passes_lead s command passed d at table before passes; there = by.0 }
