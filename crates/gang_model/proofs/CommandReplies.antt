-- What holds of the reply to every command: a refused command changes nothing, and what may be taken back has happened and lies
-- within the history limit. A command that finds its memory is not refused for it.
use Rattle.std.proofs.Common.{◌≡◌, ◌≢◌, inl, inr, refl, sym, ap, ◌∙◌, subst, ℕ, zero, suc, ◌-◌, ◌≤◌, Bool, true, false, List, [], ◌∷◌, length, Option, Some, None, arith}
use Rattle.std.specs.Prelude.{min, drop, ◌&&◌, ◌==◌, ◌||◌, not, nat_lt, nat_le, is_some, find, if◌then◌else◌}
use Rattle.std.proofs.lemmas.Bool.{true≢false}
use Rattle.std.proofs.lemmas.List.{length-drop}
use Rattle.gang_types.specs.declared.types.Rate.{Rate}
use Rattle.gang_types.specs.declared.types.Rate.TheVariants.{Uniform, Varying}
use Rattle.gang_types.specs.Values.{wrapped}
use Rattle.gang_model.specs.Types.Tree.{Variable}
use Rattle.gang_model.specs.Running.State.{State}
use Rattle.gang_model.specs.Running.Step.{Stepped, Goes, Fails, Over, step}
use Rattle.gang_model.specs.Debugger.Events.{Event, Step, Poke, InFrame}
use Rattle.gang_model.specs.Debugger.Frames.{state_at}
use Rattle.gang_model.specs.Debugger.Debugger.{Target, Stop, Line, Watch, Debugger, Command, DoStep, DoNext, DoReverseStep, DoReverseNext, DoFinish, DoContinue, DoReverseFinish, DoReverseContinue, DoUndo, DoPrint, DoSet, DoBreak, DoWatch, DoDelete, DoInfoBreakpoints, DoInfoLocals, DoBacktrace, DoNothing, DoQuit, DoSetHistory, DoSetIn, Refusal, NoSuchName, NoHistory, Ended, Outermost, NoLine, OutOfRange, Constant, NoSuchNumber, TableFull, Memory, Answer, Here, HistoryEnd, BreaksAt, Watches, Refused, Reply, reply, Setting, now, depth, has_ended, global_named, found, Goal, Moves, Groups, Above, NoGoal, towards, moved, taken_back, to_last_step, stepped_back, kept_steps, AfterMove, Ends, GoesOn, ends_or_goes_on, after_move, or_next, attempted, forward, backward, unless_refused, outermost_refusal, forward_refusal, backward_refusal, shown_words, do_forward, do_backward, undone, bad_part, with_target, with_target_in, found_at, is_value, poked_by, least_from, step_lines, add_stop, break_on, do_delete, limited, do_command, IsReply}

-- whether an answer is a refusal
abbrev pub is_refusal : Answer → Bool
is_refusal (Refused r) = true
is_refusal answer = false

-- whether a refusal is that for want of memory
abbrev is_memory : Refusal → Bool
is_memory Memory = true
is_memory r = false

-- a command was refused, not for memory, and changed nothing; or it was done and an invariant holds then
pub data Outcome (Holds : Debugger → Type 0) (d : Debugger) (r : Reply) : Type 0 where
  was_refused : (refusal : Refusal) → is_memory refusal ≡ false → r.answer ≡ Refused refusal → r.next ≡ d → Outcome Holds d r
  was_done : is_refusal r.answer ≡ false → Holds r.next → Outcome Holds d r

-- what keeps an invariant
pub record IsKept (Holds : Debugger → Type 0) : Type 0 where
  pub by_move : (event : Event) (d : Debugger) → Holds d → Holds (moved event d)
  pub by_step_back : (d : Debugger) → Holds d → Holds (stepped_back d)
  pub by_undo : (d : Debugger) → Holds d → Holds (taken_back d)
  pub by_stops : (d : Debugger) (stops : List (ℕ × Stop)) (next : ℕ) → Holds d → Holds (record d { stops = stops; next = next })
  pub by_history : (d : Debugger) (n : ℕ) → Holds d → Holds (limited n d)

-- ---- refusals that are not for memory

abbrev NotMemory : Option Refusal → Type 0
NotMemory None = Unit {0}
NotMemory (Some r) = is_memory r ≡ false

plain_outermost : (needs_depth : Bool) (state : State) → NotMemory (outermost_refusal needs_depth state)
plain_outermost needs_depth state = go (needs_depth && (depth state == 1))
  where
    go : (b : Bool) → NotMemory (if b then Some Outermost else None)
    go true = refl
    go false = tt

plain_forward : (needs_depth : Bool) (state : State) → NotMemory (forward_refusal needs_depth state)
plain_forward needs_depth state = go (has_ended state)
  where
    go : (b : Bool) → NotMemory (if b then Some Ended else outermost_refusal needs_depth state)
    go true = refl
    go false = plain_outermost needs_depth state

plain_backward : (steps : ℕ) (needs_depth : Bool) (state : State) → NotMemory (backward_refusal steps needs_depth state)
plain_backward steps needs_depth state = go (steps == 0)
  where
    go : (b : Bool) → NotMemory (if b then Some NoHistory else outermost_refusal needs_depth state)
    go true = refl
    go false = plain_outermost needs_depth state

plain_part : (whole_array : Bool) (at : Option ℕ) (is_array : Bool) (rate : Rate) (words : ℕ) → NotMemory (bad_part whole_array at is_array rate words)
plain_part true None true rate words = tt
plain_part false None true rate words = refl
plain_part whole_array None false rate words = tt
plain_part whole_array (Some k) false Uniform words = refl
plain_part whole_array (Some k) false Varying words = in_words (nat_lt k words)
  where
    in_words : (b : Bool) → NotMemory (if b then None else Some OutOfRange)
    in_words true = tt
    in_words false = refl
plain_part whole_array (Some k) true rate words = in_words (nat_lt k words)
  where
    in_words : (b : Bool) → NotMemory (if b then None else Some OutOfRange)
    in_words true = tt
    in_words false = refl

-- ---- moves

-- an end that is no refusal
abbrev PlainEnd : AfterMove → Type 0
PlainEnd (Ends answer) = is_refusal answer ≡ false
PlainEnd (GoesOn goal) = Unit {0}

plain_end : (goal : Option Goal) (breakpoint watch : Option ℕ) (no_move : Bool) (last : Answer) → is_refusal last ≡ false → PlainEnd (ends_or_goes_on goal breakpoint watch no_move last)
plain_end None breakpoint watch no_move last h = refl
plain_end (Some goal) (Some n) watch no_move last h = refl
plain_end (Some goal) None (Some n) no_move last h = refl
plain_end (Some goal) None None true last h = h
plain_end (Some goal) None None false last h = tt

module _ (Holds : Debugger → Type 0) (kept : IsKept Holds) where
  -- a reply that is no refusal, in which the invariant holds
  abbrev IsDone : Reply → Type 0
  IsDone r = (is_refusal r.answer ≡ false) × Holds r.next

  done_or_next : (m : AfterMove) (d : Debugger) (next : Goal → Reply) → PlainEnd m → Holds d → ((goal : Goal) → IsDone (next goal)) → IsDone (or_next m d next)
  done_or_next (Ends answer) d next plain h go = (plain, h)
  done_or_next (GoesOn goal) d next plain h go = go goal

  done_attempted : (s : Setting) (goal : Goal) (d : Debugger) (r : Stepped) (next : Goal → Reply) → Holds d → ((goal : Goal) → IsDone (next goal)) → IsDone (attempted s goal d r next)
  done_attempted s goal d Over next h go = (refl, h)
  done_attempted s goal d (Fails fault) next h go = (refl, h)
  done_attempted s goal d (Goes new) next h go =
      done_or_next (after_move s.program goal (now s d) new d.stops (has_ended new) Here) (moved Step d) next
      (plain_end (towards goal (depth new)) _ _ (has_ended new) Here refl) (kept.by_move Step d h) go

  done_forward : (n : ℕ) (s : Setting) (goal : Goal) (d : Debugger) → Holds d → IsDone (forward n s goal d)
  done_forward zero s goal d h = (refl, h)
  done_forward (suc n) s goal d h =
      done_attempted s goal d (step s.program (now s d)) _ h (λ next. done_forward n s next (moved Step d) (kept.by_move Step d h))

  done_backward : (n : ℕ) (s : Setting) (goal : Goal) (d : Debugger) → Holds d → IsDone (backward n s goal d)
  done_backward zero s goal d h = (refl, h)
  done_backward (suc n) s goal d h =
      done_or_next (after_move s.program goal (now s d) (now s (stepped_back d)) d.stops (kept_steps (stepped_back d) == 0) HistoryEnd) (stepped_back d) _
      (plain_end (towards goal (depth (now s (stepped_back d)))) _ _ (kept_steps (stepped_back d) == 0) HistoryEnd refl) (kept.by_step_back d h)
      (λ next. done_backward n s next (stepped_back d) (kept.by_step_back d h))

  -- ---- commands

  done : (d : Debugger) (r : Reply) → IsDone r → Outcome Holds d r
  done d r h = was_done h.0 h.1

  outcome_unless : (refusal : Option Refusal) (d : Debugger) (go : Debugger → Reply) → NotMemory refusal → Outcome Holds d (go d) → Outcome Holds d (unless_refused refusal d go)
  outcome_unless (Some r) d go plain h = was_refused r plain refl refl
  outcome_unless None d go plain h = h

  outcome_if : (b : Bool) (d : Debugger) (r q : Reply) → Outcome Holds d r → Outcome Holds d q → Outcome Holds d (if b then r else q)
  outcome_if true d r q h k = h
  outcome_if false d r q h k = k

  outcome_forward : (s : Setting) (needs_depth : Bool) (goal : Goal) (d : Debugger) → Holds d → Outcome Holds d (do_forward s needs_depth goal d)
  outcome_forward s needs_depth goal d h = outcome_unless (forward_refusal needs_depth (now s d)) d (forward s.limit s goal) (plain_forward needs_depth (now s d)) (done d (forward s.limit s goal d) (done_forward s.limit s goal d h))

  outcome_backward : (s : Setting) (needs_depth : Bool) (goal : Goal) (d : Debugger) → Holds d → Outcome Holds d (do_backward s needs_depth goal d)
  outcome_backward s needs_depth goal d h = outcome_unless (backward_refusal (kept_steps d) needs_depth (now s d)) d (backward d.kept s goal) (plain_backward (kept_steps d) needs_depth (now s d)) (done d (backward d.kept s goal d) (done_backward d.kept s goal d h))

  plain_undone : (events : List Event) → is_refusal (undone events) ≡ false
  plain_undone [] = refl
  plain_undone (Step ∷ events) = refl
  plain_undone (Poke what word ∷ events) = refl

  outcome_target_in : (state : State) (d : Debugger) (whole_array : Bool) (target : Target) (v : Option Variable) (go : Variable → Reply) → ((v : Variable) → Outcome Holds d (go v)) → Outcome Holds d (with_target_in state d whole_array target v go)
  outcome_target_in state d whole_array target None go h = was_refused NoSuchName refl refl refl
  outcome_target_in state d whole_array target (Some v) go h =
      outcome_unless _ d (λ d. go v) (plain_part whole_array target.at v.is_array v.rate (length (shown_words state v))) (h v)

  outcome_target : (s : Setting) (d : Debugger) (whole_array : Bool) (target : Target) (v : Option Variable) (go : Variable → Reply) → ((v : Variable) → Outcome Holds d (go v)) → Outcome Holds d (with_target s d whole_array target v go)
  outcome_target s d whole_array target v go h = outcome_target_in (now s d) d whole_array target v go h

  outcome_stop : (stop : Stop) (answer : ℕ → Answer) (d : Debugger) → ((n : ℕ) → is_refusal (answer n) ≡ false) → Holds d → Outcome Holds d (add_stop stop answer d)
  outcome_stop stop answer d plain h = outcome_if (nat_le 64 (length d.stops) || nat_lt 10000000 d.next) d _ _ (was_refused TableFull refl refl refl) (was_done (plain d.next) (kept.by_stops d _ _ h))

  outcome_break : (line : Option ℕ) (d : Debugger) → Holds d → Outcome Holds d (break_on line d)
  outcome_break None d h = was_refused NoLine refl refl refl
  outcome_break (Some l) d h = outcome_stop (Line l) (λ n. BreaksAt n l) d (λ n. refl) h

  outcome_delete : (n : Option ℕ) (d : Debugger) → Holds d → Outcome Holds d (do_delete n d)
  outcome_delete None d h = was_done refl (kept.by_stops d [] d.next h)
  outcome_delete (Some n) d h =
      outcome_if (is_some (find (λ entry. entry.0 == n) d.stops)) d _ _ (was_done refl (kept.by_stops d _ d.next h)) (was_refused NoSuchNumber refl refl refl)

  -- every command is refused and changes nothing, or keeps the invariant
  pub outcome : (s : Setting) (command : Command) (d : Debugger) → Holds d → Outcome Holds d (do_command s command d)
  outcome s (DoStep n) d h = outcome_forward s false (Moves n) d h
  outcome s (DoNext n) d h = outcome_forward s false (Groups n (depth (now s d))) d h
  outcome s DoFinish d h = outcome_forward s true (Above (depth (now s d))) d h
  outcome s DoContinue d h = outcome_forward s false NoGoal d h
  outcome s (DoReverseStep n) d h = outcome_backward s false (Moves n) d h
  outcome s (DoReverseNext n) d h = outcome_backward s false (Groups n (depth (now s d))) d h
  outcome s DoReverseFinish d h = outcome_backward s true (Above (depth (now s d))) d h
  outcome s DoReverseContinue d h = outcome_backward s false NoGoal d h
  outcome s DoUndo d h = outcome_if (d.kept == 0) d _ _ (was_refused NoHistory refl refl refl) (was_done (plain_undone d.events) (kept.by_undo d h))
  outcome s (DoPrint target) d h = outcome_target s d true target (found s.program (now s d) target.name) _ (λ v. was_done refl h)
  outcome s (DoSet target z) d h = outcome_target s d false target (found s.program (now s d) target.name) _ (λ v.
      outcome_if (not (is_value v.type z)) d _ _ (was_refused OutOfRange refl refl refl)
      (outcome_if v.is_constant d _ _ (was_refused Constant refl refl refl) (was_done refl (kept.by_move (Poke (poked_by v target.at) (wrapped v.type z)) d h))))
  outcome s (DoBreak line) d h = outcome_break (least_from line (step_lines s.program)) d h
  outcome s (DoWatch target) d h = outcome_target s d false target (global_named s.program target.name) _ (λ v. outcome_stop (Watch target v) (λ n. Watches n target) d (λ n. refl) h)
  outcome s (DoDelete n) d h = outcome_delete n d h
  outcome s DoInfoBreakpoints d h = was_done refl h
  outcome s DoInfoLocals d h = was_done refl h
  outcome s DoBacktrace d h = was_done refl h
  outcome s DoNothing d h = was_done refl h
  outcome s DoQuit d h = was_done refl h
  outcome s (DoSetHistory n) d h = outcome_if ((n == 0) || nat_lt 65536 n) d _ _ (was_refused OutOfRange refl refl refl) (was_done refl (kept.by_history d n h))
  outcome s (DoSetIn deep target z) d h = outcome_target_in (state_at deep (now s d)) d false target (found_at s.program deep (now s d) target.name) _ (λ v.
      outcome_if (not (is_value v.type z)) d _ _ (was_refused OutOfRange refl refl refl)
      (outcome_if v.is_constant d _ _ (was_refused Constant refl refl refl) (was_done refl (kept.by_move (Poke (InFrame deep (poked_by v target.at)) (wrapped v.type z)) d h))))

-- ---- a refused command changes nothing

nothing_kept : IsKept (λ d. Unit {0})
nothing_kept = record {
  by_move = λ event d h. tt;
  by_step_back = λ d h. tt;
  by_undo = λ d h. tt;
  by_stops = λ d stops next h. tt;
  by_history = λ d n h. tt;
}

outcome_alone : (s : Setting) (command : Command) (d : Debugger) → Outcome (λ d. Unit {0}) d (do_command s command d)
outcome_alone s command d = outcome (λ d. Unit {0}) nothing_kept s command d tt

pub refused_changes_nothing : (s : Setting) (command : Command) (d : Debugger) → is_refusal (do_command s command d).answer ≡ true → (do_command s command d).next ≡ d
refused_changes_nothing s command d r = go (do_command s command d) (outcome_alone s command d) r
  where
    go : (reply : Reply) → Outcome (λ d. Unit {0}) d reply → is_refusal reply.answer ≡ true → reply.next ≡ d
    go reply (was_refused refusal plain is same) r = same
    go reply (was_done e h) r = absurd (true≢false (sym r ∙ e))

-- nor does one that is refused for memory
pub refused_reply_changes_nothing : (s : Setting) (command : Command) (d : Debugger) (r : Reply) → IsReply s command d r → is_refusal r.answer ≡ true → r.next ≡ d
refused_reply_changes_nothing s command d r (inl done) is =
    ap (λ (r : Reply). r.next) done ∙ refused_changes_nothing s command d (sym (ap (λ (r : Reply). is_refusal r.answer) done) ∙ is)
refused_reply_changes_nothing s command d r (inr out) is = ap (λ (r : Reply). r.next) out.1

-- a command that finds its memory is not refused for it
pub finds_memory : (s : Setting) (command : Command) (d : Debugger) → (do_command s command d).answer ≢ Refused Memory
finds_memory s command d = go (do_command s command d) (outcome_alone s command d)
  where
    wants : Answer → Bool
    wants (Refused r) = is_memory r
    wants answer = false

    go : (reply : Reply) → Outcome (λ d. Unit {0}) d reply → reply.answer ≢ Refused Memory
    go reply (was_refused refusal plain is same) e = true≢false (sym (ap wants (sym is ∙ e)) ∙ plain)
    go reply (was_done plain h) e = true≢false (sym (ap is_refusal e) ∙ plain)

-- ---- what may be taken back

-- as many events as may be taken back have happened, and they are at most the history limit
pub record IsWithin (d : Debugger) : Type 0 where
  pub happened : d.kept ≤ length d.events
  pub in_history : d.kept ≤ d.history

within_kept : IsKept IsWithin
within_kept = record {
  by_move = λ event d h. record { happened = lesser_left (suc d.kept) d.history (suc (length d.events)) (omega (arith, h.happened)); in_history = lesser_right (suc d.kept) d.history };
  by_step_back = λ d h. record { happened = back d (to_last_step d.events) h.happened; in_history = omega (arith, h.in_history) };
  by_undo = λ d h. record { happened = back d 1 h.happened; in_history = omega (arith, h.in_history) };
  by_stops = λ d stops next h. record { happened = h.happened; in_history = h.in_history };
  by_history = λ d n h. record { happened = lesser_left d.kept n (length d.events) h.happened; in_history = lesser_right d.kept n };
}
  where
    lesser_left : (a b c : ℕ) → a ≤ c → min a b ≤ c
    lesser_left a b c h = omega (arith, h)

    lesser_right : (a b : ℕ) → min a b ≤ b
    lesser_right a b = omega arith

    back : (d : Debugger) (n : ℕ) → d.kept ≤ length d.events → d.kept - n ≤ length (drop n d.events)
    back d n h = omega (arith, h, length-drop n d.events)

-- every command keeps what may be taken back within what has happened and within the history limit
pub stays_within : (s : Setting) (command : Command) (d : Debugger) → IsWithin d → IsWithin (do_command s command d).next
stays_within s command d h = go (do_command s command d) (outcome IsWithin within_kept s command d h)
  where
    go : (reply : Reply) → Outcome IsWithin d reply → IsWithin reply.next
    go reply (was_refused refusal plain is same) = subst IsWithin (sym same) h
    go reply (was_done e k) = k

-- and so does every reply
pub reply_within : (s : Setting) (command : Command) (d : Debugger) (r : Reply) → IsReply s command d r → IsWithin d → IsWithin r.next
reply_within s command d r (inl done) h = subst (λ (r : Reply). IsWithin r.next) (sym done) (stays_within s command d h)
reply_within s command d r (inr out) h = subst (λ (r : Reply). IsWithin r.next) (sym out.1) h
