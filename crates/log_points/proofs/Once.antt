-- A command that is done once more, and the texts of the place where it stopped.
use Rattle.std.proofs.Common.{◌≡◌, refl, sym, subst, ◌∙◌, ℕ, ◌+◌, ◌<◌, true, false, List, [], ◌∷◌, Option, Some, None, arith}
use Rattle.std.proofs.lemmas.Bool.{true≢false}
use Rattle.gang_model.specs.Debugger.Debugger.{Command, Debugger, Setting, do_command}
use Rattle.debug_session.specs.declared.session.Session.{Session}
use Rattle.debug_session.specs.Sessions.{StandsFor}
use Rattle.conditional_stops.specs.declared.going.MoveEnd.{MoveEnd}
use Rattle.conditional_stops.specs.declared.going.MoveEnd.TheVariants as end
use Rattle.conditional_stops.specs.Going.{EndsBy, EndsMove, GoesOnce, Passes, PassesOne}
use Rattle.conditional_stops.specs.Tables.{Table}
use Rattle.log_points.specs.Going.{end_of, is_at_stop, places, stops_of, stops_once}
use Rattle.log_points.specs.Points.{Log, Written}
use Rattle.log_points.specs.Writing.{WritesAlong, WritesHere}

module _ {M : Type 0} (stands : M → Setting → Debugger → Type 0) (s : Setting) (command : Command) (d : Debugger) (session : Session M) where
  -- a move in which no stop was passed
  none_passed : (passed : ℕ) (at : Debugger) (table before new : Table) (ended : MoveEnd) → Passes passed s command d table at before → passed < 1 → EndsBy stands s command at before ended session new
      → EndsBy stands s command d table ended session new
  none_passed passed at table before new ended passes few by =
      let none : passed ≡ 0 = omega (arith, few) in
      let same = subst (λ n. Passes n s command d table at before) none passes in
      subst (λ t. EndsBy stands s command d t ended session new) same.1 (subst (λ x. EndsBy stands s command x before ended session new) same.0 by)

  -- a move of one command
  pub once_ended : (passed : ℕ) (at : Debugger) (table before new : Table) (ended : MoveEnd) → Passes passed s command d table at before → EndsMove stands s command 1 passed at before ended session new
      → GoesOnce stands s command d table (end_of ended) session new
  once_ended passed at table before new end.MostPassed passes by =
      let (middle, first, same) = subst (λ n. Passes n s command d table at before) by.0 passes in
      (subst (λ x. StandsFor stands session s x) same.0 by.1, subst (λ t. PassesOne s command d table t) (sym (by.2 ∙ same.1)) first)
  once_ended passed at table before new (end.Stopped counted) passes by = none_passed passed at table before new (end.Stopped counted) passes by.0 by.1
  once_ended passed at table before new (end.Answered given) passes by = none_passed passed at table before new (end.Answered given) passes by.0 by.1
  once_ended passed at table before new end.NoMemory passes by = none_passed passed at table before new end.NoMemory passes by.0 by.1

  -- where the session stands then
  pub stands_there : (table new : Table) (ended : Option MoveEnd) → GoesOnce stands s command d table ended session new → is_at_stop ended ≡ true → StandsFor stands session s (do_command s command d).next
  stands_there table new None by is = by.0
  stands_there table new (Some (end.Stopped counted)) by is = by.0
  stands_there table new (Some (end.Answered given)) by is = absurd (true≢false (sym is))
  stands_there table new (Some end.MostPassed) by is = absurd (true≢false (sym is))
  stands_there table new (Some end.NoMemory) by is = absurd (true≢false (sym is))

module _ (s : Setting) (command : Command) (d : Debugger) (logs : List Log) where
  -- the texts of the place where the command stopped
  pub along_one : (table new : Table) (old written : Written) (ended : Option MoveEnd) → is_at_stop ended ≡ true → WritesHere s (do_command s command d).next logs table old new written
      → WritesAlong s (places (stops_once (is_at_stop ended)) s command d) logs table old new written
  along_one table new old written ended is here =
      subst (λ b. WritesAlong s (places (stops_once b) s command d) logs table old new written) (sym is) (new, written, here, (refl, refl))

  -- and none where it did not
  pub along_none : (table : Table) (old : Written) (ended : Option MoveEnd) → is_at_stop ended ≡ false → WritesAlong s (places (stops_once (is_at_stop ended)) s command d) logs table old table old
  along_none table old ended is = subst (λ b. WritesAlong s (places (stops_once b) s command d) logs table old table old) (sym is) (refl, refl)

-- what is written at one place, and then at others
pub along_with : (s : Setting) (logs : List Log) (x : Debugger) (others : List Debugger) (table middle new : Table) (old then now : Written) → WritesAlong s (x ∷ []) logs table old middle then → WritesAlong s others logs middle then new now
    → WritesAlong s (x ∷ others) logs table old new now
along_with s logs x others table middle new old then now (between, written, here, same) rest =
    (between, written, here, subst (λ t. WritesAlong s others logs t written new now) same.0 (subst (λ w. WritesAlong s others logs middle w new now) same.1 rest))

-- how often a move stopped, by its last command
pub stops_is : (passed : ℕ) (ended : MoveEnd) → passed + stops_once (is_at_stop (Some ended)) ≡ stops_of passed ended
stops_is passed (end.Stopped counted) = omega arith
stops_is passed (end.Answered given) = omega arith
stops_is passed end.MostPassed = omega arith
stops_is passed end.NoMemory = omega arith
