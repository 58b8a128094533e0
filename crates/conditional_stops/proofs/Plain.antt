-- The debugger's own answer names the first breakpoint or watch that is asked; and where nothing is said of any, a move is its command alone.
use Rattle.std.proofs.Common.{◌≡◌, refl, sym, subst, ap, ◌∙◌, ℕ, zero, suc, ◌≤◌, Bool, true, false, List, [], ◌∷◌, ◌++◌, Option, Some, None, inl, inr, arith}
use Rattle.std.specs.Prelude.{◌==◌, not, if◌then◌else◌}
use Rattle.std.proofs.lemmas.Bool.{cases_Bool, true≢false}
use Rattle.gang_model.specs.Source.Names.{same_text}
use Rattle.gang_model.specs.Running.State.{State}
use Rattle.gang_model.specs.Running.Step.{Fails, Goes, Over, Stepped, step}
use Rattle.gang_model.specs.Debugger.Debugger as model
use Rattle.gang_model.specs.Debugger.Debugger.{AtBreakpoint, AtWatch, Debugger, Goal, Here, HistoryEnd, Line, NoGoal, Reply, Setting, Stop, Watch, backward, backward_refusal, depth, differs, do_command, ends_or_goes_on, first_stop, forward, forward_refusal, has_ended, kept_steps, moved, now, on_line, or_next, stepped_back, target_words, towards, unless_refused}
use Rattle.gang_model.specs.Debugger.Events.{Step}
use Rattle.gang_model.specs.Debugger.Positions.{line_now}
use Rattle.debug_answers.specs.Meanings.{Means}
use Rattle.debug_session.specs.declared.session.Session.{Session}
use Rattle.debug_session.specs.Moves.{watch_words}
use Rattle.debug_session.specs.Sessions.{Replied}
use Rattle.debug_session.proofs.Moves.{forward_fails, forward_goes, forward_over}
use Rattle.debug_session.proofs.Watches.{words_stay}
use Rattle.conditional_stops.specs.declared.going.Direction.{Direction}
use Rattle.conditional_stops.specs.declared.going.Direction.TheVariants as direction
use Rattle.conditional_stops.specs.declared.going.MoveEnd.{MoveEnd}
use Rattle.conditional_stops.specs.declared.going.MoveEnd.TheVariants as end
use Rattle.conditional_stops.specs.declared.going.Moved.{Moved}
use Rattle.conditional_stops.specs.declared.judging.Verdict.{Verdict}
use Rattle.conditional_stops.specs.declared.reasons.CountedStop.{CountedStop}
use Rattle.conditional_stops.specs.declared.reasons.Reason.{Reason}
use Rattle.conditional_stops.specs.declared.reasons.Reason.TheVariants as reason
use Rattle.conditional_stops.specs.Going.{EndsBy, EndsMove, GoesOn, Passes, PassesOne, answer_at, answer_of, command_of, is_stop}
use Rattle.conditional_stops.specs.Reasons.{Asks, changed_watches, counted_by, first_of, reasons, taking_of}
use Rattle.conditional_stops.specs.Tables.{Table, nothing}
use Rattle.conditional_stops.specs.Verdicts.{IsJudged}
use Rattle.conditional_stops.proofs.Asked.{chosen, chosen_at}

-- ---- the first that passes a test

module _ (make : ℕ → Reason) (test : Stop → Bool) where
  first_at : (entry : ℕ × Stop) (stops : List (ℕ × Stop)) (b : Bool) → test entry.1 ≡ b → first_stop test (entry ∷ stops) ≡ (if b then Some entry.0 else first_stop test stops)
  first_at entry stops b e = ap (λ b. if b then Some entry.0 else first_stop test stops) e

  chosen_none : (stops : List (ℕ × Stop)) → first_stop test stops ≡ None → chosen make test stops ≡ []
  chosen_none [] e = refl
  chosen_none (entry ∷ stops) e = elim (cases_Bool (test entry.1)) [
    | inl passes ↦ absurd (cc (sym (first_at entry stops true passes) ∙ e))
    | inr fails ↦ chosen_at make test (entry ∷ stops) entry stops false refl fails ∙ chosen_none stops (sym (first_at entry stops false fails) ∙ e)
  ]

  chosen_first : (stops : List (ℕ × Stop)) (n : ℕ) → first_stop test stops ≡ Some n → (rest : List Reason) × (chosen make test stops ≡ make n ∷ rest)
  chosen_first [] n e = absurd (cc e)
  chosen_first (entry ∷ stops) n e = elim (cases_Bool (test entry.1)) [
    | inl passes ↦
        let same : entry.0 ≡ n = cc (sym (first_at entry stops true passes) ∙ e) in
        (chosen make test stops, chosen_at make test (entry ∷ stops) entry stops true refl passes ∙ ap (λ k. make k ∷ chosen make test stops) same)
    | inr fails ↦
        let (rest, is) = chosen_first stops n (sym (first_at entry stops false fails) ∙ e) in
        (rest, chosen_at make test (entry ∷ stops) entry stops false refl fails ∙ is)
  ]

-- watches that show the same words differ alike from another state
same_change : (a b new : State) (stops : List (ℕ × Stop)) → watch_words a stops ≡ watch_words b stops → first_stop (differs a new) stops ≡ first_stop (differs b new) stops
same_change a b new [] e = refl
same_change a b new ((n, Line l) ∷ stops) e = same_change a b new stops e
same_change a b new ((n, Watch target v) ∷ stops) e =
    let head : target_words a target v ≡ target_words b target v = cc e in
    let others : watch_words a stops ≡ watch_words b stops = cc e in
    ap (λ words. if not (same_text words (target_words new target v)) then Some n else first_stop (differs a new) stops) head
    ∙ ap (λ later. if not (same_text (target_words b target v) (target_words new target v)) then Some n else later) (same_change a b new stops others)

-- ---- the first reason

module _ (s : Setting) (began : Debugger) where
  -- the answer names the first reason, where it is a stop
  abbrev pub NamesFirst : model.Answer → Debugger → Type 0
  NamesFirst (AtBreakpoint n) d = (rest : List Reason) × (reasons s began d ≡ reason.Breakpoint n ∷ rest)
  NamesFirst (AtWatch n) d = (rest : List Reason) × (reasons s began d ≡ reason.Watch n ∷ rest)
  NamesFirst answer d = Unit {0}

  after_names : (goal : Option Goal) (breakpoint watch : Option ℕ) (no_move : Bool) (last : model.Answer) (d : Debugger) (next : Goal → Reply)
      → first_stop (on_line (line_now s.program (now s d))) d.stops ≡ breakpoint → first_stop (differs (now s began) (now s d)) d.stops ≡ watch → NamesFirst last d
      → ((goal : Goal) → watch ≡ None → NamesFirst (next goal).answer (next goal).next)
      → NamesFirst (or_next (ends_or_goes_on goal breakpoint watch no_move last) d next).answer (or_next (ends_or_goes_on goal breakpoint watch no_move last) d next).next
  after_names None breakpoint watch no_move last d next here change names further = tt
  after_names (Some goal) (Some n) watch no_move last d next here change names further =
      let (rest, is) = chosen_first reason.Breakpoint (on_line (line_now s.program (now s d))) d.stops n here in
      (rest ++ changed_watches s began d d.stops, ap (λ xs. xs ++ changed_watches s began d d.stops) is)
  after_names (Some goal) None (Some n) no_move last d next here change names further =
      let (rest, is) = chosen_first reason.Watch (differs (now s began) (now s d)) d.stops n change in
      (rest, ap (λ xs. xs ++ changed_watches s began d d.stops) (chosen_none reason.Breakpoint (on_line (line_now s.program (now s d))) d.stops here) ∙ is)
  after_names (Some goal) None None true last d next here change names further = names
  after_names (Some goal) None None false last d next here change names further = further goal refl

  step_names : (n : ℕ) (goal : Goal) (d : Debugger) (r : Stepped) → step s.program (now s d) ≡ r → watch_words (now s began) d.stops ≡ watch_words (now s d) d.stops
      → ((goal : Goal) → watch_words (now s began) d.stops ≡ watch_words (now s (moved Step d)) d.stops → NamesFirst (forward n s goal (moved Step d)).answer (forward n s goal (moved Step d)).next)
      → NamesFirst (forward (suc n) s goal d).answer (forward (suc n) s goal d).next
  step_names n goal d Over e same further = subst (λ (r : Reply). NamesFirst r.answer r.next) (sym (forward_over s d n goal e)) tt
  step_names n goal d (Fails fault) e same further = subst (λ (r : Reply). NamesFirst r.answer r.next) (sym (forward_fails s d n goal fault e)) tt
  step_names n goal d (Goes new) e same further =
      let there = now s (moved Step d) in
      let change = same_change (now s began) (now s d) there d.stops same in
      subst (λ (r : Reply). NamesFirst r.answer r.next) (sym (forward_goes s d n goal new (has_ended there) e refl))
      (after_names (towards goal (depth there)) (first_stop (on_line (line_now s.program there)) d.stops) (first_stop (differs (now s d) there) d.stops) (has_ended there) Here (moved Step d)
      (λ next. forward n s next (moved Step d)) refl change tt
      (λ next none. further next (words_stay (now s began) there d.stops (change ∙ none))))

  forward_names : (n : ℕ) (goal : Goal) (d : Debugger) → watch_words (now s began) d.stops ≡ watch_words (now s d) d.stops → NamesFirst (forward n s goal d).answer (forward n s goal d).next
  forward_names zero goal d same = tt
  forward_names (suc n) goal d same = step_names n goal d (step s.program (now s d)) refl same (λ next same. forward_names n next (moved Step d) same)

  backward_names : (n : ℕ) (goal : Goal) (d : Debugger) → watch_words (now s began) d.stops ≡ watch_words (now s d) d.stops → NamesFirst (backward n s goal d).answer (backward n s goal d).next
  backward_names zero goal d same = tt
  backward_names (suc n) goal d same =
      let back = stepped_back d in
      let there = now s back in
      let change = same_change (now s began) (now s d) there d.stops same in
      after_names (towards goal (depth there)) (first_stop (on_line (line_now s.program there)) d.stops) (first_stop (differs (now s d) there) d.stops) (kept_steps back == 0) HistoryEnd back
      (λ next. backward n s next back) refl change tt
      (λ next none. backward_names n next back (words_stay (now s began) there d.stops (change ∙ none)))

  refusal_names : (r : Option model.Refusal) (d : Debugger) (go : Debugger → Reply) → NamesFirst (go d).answer (go d).next → NamesFirst (unless_refused r d go).answer (unless_refused r d go).next
  refusal_names None d go names = names
  refusal_names (Some r) d go names = tt

-- the answer of a command that goes on names the first of those that are asked
pub names_first : (way : Direction) (s : Setting) (d : Debugger) → NamesFirst s d (do_command s (command_of way) d).answer (do_command s (command_of way) d).next
names_first direction.Forward s d = refusal_names s d (forward_refusal false (now s d)) d (forward s.limit s NoGoal) (forward_names s d s.limit NoGoal d refl)
names_first direction.Backward s d = refusal_names s d (backward_refusal (kept_steps d) false (now s d)) d (backward d.kept s NoGoal) (backward_names s d d.kept NoGoal d refl)

-- ---- where nothing is said

counts_plain : (s : Setting) (d : Debugger) (asked : Reason) (told : Option Verdict) → IsJudged None s d told → counted_by (taking_of 0 told) asked told ≡ Some (record { reason = asked; verdict = None })
counts_plain s d asked None judged = refl
counts_plain s d asked (Some v) judged = absurd judged

none_is_some : (counted : CountedStop) → None ≡ Some counted → ⊥
none_is_some counted e = cc e

-- the first that is asked counts
first_counts : (s : Setting) (d : Debugger) (asked : Reason) (others : List Reason) (first : Option CountedStop) (new : Table) → Asks s d (asked ∷ others) nothing first new
    → first ≡ Some (record { reason = asked; verdict = None })
first_counts s d asked others first new (counted, middle, later, one, more, is) = is ∙ ap (λ c. first_of c later) (one.counts ∙ counts_plain s d asked one.told one.judged)

module _ (s : Setting) (d : Debugger) where
  -- a stop counts, and is told as the debugger tells it
  stop_counts : (meant : model.Answer) (e : Debugger) (first : Option CountedStop) (new : Table) → is_stop meant ≡ true → NamesFirst s d meant e → Asks s e (reasons s d e) nothing first new
      → (asked : Reason) × (first ≡ Some (record { reason = asked; verdict = None })) × Means s e (answer_at asked) meant
  stop_counts (AtBreakpoint n) e first new stops (rest, is) asks =
      (reason.Breakpoint n, first_counts s e (reason.Breakpoint n) rest first new (subst (λ xs. Asks s e xs nothing first new) is asks), refl)
  stop_counts (AtWatch n) e first new stops (rest, is) asks =
      (reason.Watch n, first_counts s e (reason.Watch n) rest first new (subst (λ xs. Asks s e xs nothing first new) is asks), refl)
  stop_counts other e first new stops names asks = absurd (true≢false (sym stops))

  never_passes : (way : Direction) (new : Table) → PassesOne s (command_of way) d nothing new → ⊥
  never_passes way new one =
      let (asked, is, means) = stop_counts (do_command s (command_of way) d).answer (do_command s (command_of way) d).next None new one.stops (names_first way s d) one.none in
      none_is_some (record { reason = asked; verdict = None }) is

module _ {M : Type 0} (stands : M → Setting → Debugger → Type 0) (s : Setting) (way : Direction) (d : Debugger) (session : Session M) (new : Table) where
  by_end : (ended : MoveEnd) → (ended ≡ end.NoMemory → ⊥) → EndsBy stands s (command_of way) d nothing ended session new → Replied stands s (do_command s (command_of way) d) (answer_of ended) session
  by_end (end.Stopped counted) room (there, (stops, asks)) =
      let (asked, is, means) = stop_counts s d (do_command s (command_of way) d).answer (do_command s (command_of way) d).next (Some counted) new stops (names_first way s d) asks in
      let same : counted ≡ record { reason = asked; verdict = None } = cc is in
      record { there = there; means = subst (λ (c : CountedStop). Means s (do_command s (command_of way) d).next (answer_at c.reason) (do_command s (command_of way) d).answer) (sym same) means }
  by_end (end.Answered given) room (there, (other, means, stays)) = record { there = there; means = means }
  by_end end.MostPassed room (there, never) = absurd never
  by_end end.NoMemory room h = absurd (room refl)

  ended_here : (ended : MoveEnd) (at : Debugger) (before : Table) → at ≡ d → before ≡ nothing → EndsBy stands s (command_of way) at before ended session new → EndsBy stands s (command_of way) d nothing ended session new
  ended_here ended at before same left by =
      subst (λ x. EndsBy stands s (command_of way) x nothing ended session new) same (subst (λ t. EndsBy stands s (command_of way) at t ended session new) left by)

  by_move : (most passed : ℕ) (ended : MoveEnd) (at : Debugger) (before : Table) → 1 ≤ most → (ended ≡ end.NoMemory → ⊥) → Passes passed s (command_of way) d nothing at before
      → EndsMove stands s (command_of way) most passed at before ended session new → Replied stands s (do_command s (command_of way) d) (answer_of ended) session
  by_move most (suc n) ended at before some room (middle, one, others) ends = absurd (never_passes s d way middle one)
  by_move most zero end.MostPassed at before some room (same, left) (none, there, stays) = absurd (omega arith)
  by_move most zero (end.Stopped counted) at before some room (same, left) (few, by) = by_end (end.Stopped counted) room (ended_here (end.Stopped counted) at before same left by)
  by_move most zero (end.Answered given) at before some room (same, left) (few, by) = by_end (end.Answered given) room (ended_here (end.Answered given) at before same left by)
  by_move most zero end.NoMemory at before some room (same, left) (few, by) = absurd (room refl)

  -- the move is the command alone
  pub plain_move : (most : ℕ) (table : Table) (moved : Moved) → table ≡ nothing → 1 ≤ most → (moved.end ≡ end.NoMemory → ⊥) → GoesOn stands s way most d table moved session new
      → Replied stands s (do_command s (command_of way) d) (answer_of moved.end) session
  plain_move most table moved none some room goes =
      by_move most moved.passed moved.end goes.at goes.before some room (subst (λ t. Passes moved.passed s (command_of way) d t goes.at goes.before) none goes.passes) goes.ends
