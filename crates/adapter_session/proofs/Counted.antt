-- Requests by which a program goes on to a stop that counts, and those that do not.
use Rattle.std.proofs.Common.{◌≡◌, refl, ap, subst, ◌∙◌, ℕ, Bool, true, false, List, [], ◌∷◌, map, Option, Some, None}
use Rattle.std.specs.Prelude.{filter, option_map, if◌then◌else◌}
use Rattle.gang_model.specs.Debugger.Debugger as model
use Rattle.gang_model.specs.Debugger.Debugger.{Command, Debugger, Setting, Stop, first_stop, now, on_line}
use Rattle.gang_model.specs.Debugger.Positions.{line_now}
use Rattle.gang_model.specs.Texts.Text.{Bytes}
use Rattle.debug_answers.specs.Meanings.{Means}
use Rattle.debug_session.specs.declared.session.Session.{Session}
use Rattle.debug_session.specs.Sessions.{StandsFor}
use Rattle.conditional_stops.specs.declared.going.MoveEnd.{MoveEnd}
use Rattle.conditional_stops.specs.declared.going.MoveEnd.TheVariants as end
use Rattle.conditional_stops.specs.declared.judging.Verdict.{Verdict}
use Rattle.conditional_stops.specs.declared.reasons.CountedStop.{CountedStop}
use Rattle.conditional_stops.specs.declared.reasons.Reason.{Reason}
use Rattle.conditional_stops.specs.declared.reasons.Reason.TheVariants as reason
use Rattle.conditional_stops.specs.Going.{EndsMove, answer_at, answer_of}
use Rattle.conditional_stops.specs.Reasons.{Asks, breakpoints_here, counted_by, first_of, number_of, taking_of}
use Rattle.conditional_stops.specs.Tables.{Table, condition_of, is_nothing, nothing, passes_of}
use Rattle.conditional_stops.specs.Verdicts.{IsJudged}
use Rattle.adapter_requests.specs.declared.request.Request.{Request}
use Rattle.adapter_session.specs.declared.answering.Answered.{Answered}
use Rattle.adapter_session.specs.Beginning.{breakpoint_here}
use Rattle.adapter_session.specs.Done.{DoesBy, DoesPlainly, DoesRequest, way_of}
use Rattle.adapter_session.specs.Terms.{Terms}

-- where a move ended, and what its answer means there
pub record EndsAt {M : Type 0} (stands : M → Setting → Debugger → Type 0) (s : Setting) (ended : MoveEnd) (session : Session M) : Type 0 where
  pub after : Debugger
  pub there : StandsFor stands session s after
  pub meant : model.Answer
  pub means : Means s after (answer_of ended) meant

reason_means : (s : Setting) (d : Debugger) (at : Reason) → (meant : model.Answer) × Means s d (answer_at at) meant
reason_means s d (reason.Breakpoint n) = (model.AtBreakpoint n, refl)
reason_means s d (reason.Watch n) = (model.AtWatch n, refl)

-- where no condition and no count is there, what is asked counts
counts_plain : (s : Setting) (d : Debugger) (asked : Reason) (told : Option Verdict) → IsJudged (condition_of (number_of asked) nothing) s d told
    → counted_by (taking_of (passes_of (number_of asked) nothing) told) asked told ≡ Some (record { reason = asked; verdict = None })
counts_plain s d asked None judged = refl
counts_plain s d asked (Some told) judged = absurd judged

first_number : (s : Setting) (d : Debugger) (test : Stop → Bool) (stops : List (ℕ × Stop)) (first : Option CountedStop) (new : Table)
    → Asks s d (map (λ (entry : ℕ × Stop). reason.Breakpoint entry.0) (filter (λ (entry : ℕ × Stop). test entry.1) stops)) nothing first new → option_map (λ (c : CountedStop). number_of c.reason) first ≡ first_stop test stops
first_number s d test [] first new (none, same) = ap (option_map (λ (c : CountedStop). number_of c.reason)) none
first_number s d test (entry ∷ stops) first new asks =
    elim (test entry.1) as (λ b. Asks s d (map (λ (entry : ℕ × Stop). reason.Breakpoint entry.0) (if b then entry ∷ filter (λ (entry : ℕ × Stop). test entry.1) stops else filter (λ (entry : ℕ × Stop). test entry.1) stops)) nothing first new
    → option_map (λ (c : CountedStop). number_of c.reason) first ≡ (if b then Some entry.0 else first_stop test stops)) [
      | true ↦ λ all.
          let (counted, middle, later, one, others, is) = all in
          ap (option_map (λ (c : CountedStop). number_of c.reason)) (is ∙ ap (λ c. first_of c later) (one.counts ∙ counts_plain s d (reason.Breakpoint entry.0) one.told one.judged))
      | false ↦ λ all. first_number s d test stops first new all
    ] asks

-- the first that counts where a run begins is the least breakpoint of its line then
pub plain_beginning : (s : Setting) (d : Debugger) (first : Option CountedStop) (new : Table) → Asks s d (breakpoints_here s d d.stops) nothing first new
    → option_map (λ (c : CountedStop). number_of c.reason) first ≡ breakpoint_here s d
plain_beginning s d first new asks = first_number s d (on_line (line_now s.program (now s d))) d.stops first new asks

module _ {M : Type 0} (stands : M → Setting → Debugger → Type 0) (s : Setting) where
  pub ends_at : (command : Command) (most passed : ℕ) (at : Debugger) (table new : Table) (ended : MoveEnd) (session : Session M) → EndsMove stands s command most passed at table ended session new → EndsAt stands s ended session
  ends_at command most passed at table new (end.Stopped counted) session (few, (there, stops)) =
      let found = reason_means s (model.do_command s command at).next counted.reason in
      record { after = (model.do_command s command at).next; there = there; meant = found.0; means = found.1 }
  ends_at command most passed at table new (end.Answered given) session (few, (there, (other, means, same))) =
      record { after = (model.do_command s command at).next; there = there; meant = (model.do_command s command at).answer; means = means }
  ends_at command most passed at table new end.MostPassed session (all, there, same) =
      record { after = at; there = there; meant = model.StepLimit; means = refl }
  ends_at command most passed at table new end.NoMemory session (few, (there, watched, same)) =
      record { after = at; there = there; meant = model.Refused model.Memory; means = refl }

  -- where no condition and no count is there, the commands of what is meant by a request are done, and nothing else but that its beginning is noted
  pub plain_request : (program : Bytes) (request : Request) (d : Debugger) (terms : Terms) (answered : Answered) (session : Session M) (new : Terms) → terms.left ≡ nothing → (does : DoesRequest stands s program request d terms answered session new)
      → DoesPlainly stands s program does.does.meant d terms answered session does.after
  plain_request program request d terms answered session new none does =
      subst (λ way. DoesBy stands way s program does.does.meant d terms answered session does.after) (ap (λ (table : Table). if is_nothing table then None else way_of does.does.meant) none) does.does.does
