-- What is ahead of a lane: its own tasks of a round under way, and the rounds to come that some lane does.
use Rattle.std.proofs.Common.{◌≡◌, refl, sym, ap, ◌∙◌, ℕ, ◌≤◌, Bool, true, false, List, [], ◌∷◌, ◌++◌, Option, arith}
use Rattle.std.specs.Prelude.{◌||◌, ◌&&◌, not, map, filter, if◌then◌else◌}
use Rattle.gang_types.specs.Lanes.{has, no_lane, lowest}
use Rattle.gang_types.specs.LaneLaws.{has_past, lowest_has, no_lane_has}
use Rattle.gang_model.specs.Types.Tree.{StepNumber, Stmt}
use Rattle.gang_model.specs.Running.State.{Doing, Run, LoopTest, LoopUpdate, Round, RoundEnd, SwitchEnd, Task}
use Rattle.gang_model.specs.Running.Rounds.{Turn}
use Rattle.gang_model.specs.Running.Step.{round_tasks}
use Rattle.gang_model.proofs.StateLanes.{TasksSized}
use Rattle.mask_states.specs.Masked.{turns_taken}
use Rattle.mask_states.specs.Points.{Point, Ways}
use Rattle.mask_states.specs.Stands.{own, waits, ways_before, DoingFits, Fits}
use Rattle.mask_states.proofs.OwnTasks.{by_bool, own_here, own_away}
use Rattle.mask_states.proofs.Replaced.{fits_first, fits_rest}
use Rattle.lane_places.specs.Places.{ahead, holds, is_round}

-- ---- tests

either : (a b : Bool) → a ≡ true → (a || b) ≡ true
either a b h = ap (λ x. x || b) h

neither : (a b : Bool) → a ≡ false → b ≡ false → (a || b) ≡ false
neither a b h k = ap (λ x. x || b) h ∙ k

no_round : (a b : Bool) → a ≡ false → (a && b) ≡ false
no_round a b h = ap (λ x. x && b) h

no_part : (a b : Bool) → b ≡ true → (a && not b) ≡ false
no_part true b h = ap not h
no_part false b h = refl

-- ---- the first task

module _ (lane : ℕ) (t : Task) (ts : List Task) where
  pub ahead_held : holds lane t ≡ true → ahead lane (t ∷ ts) ≡ t.doing ∷ ahead lane ts
  ahead_held h = ap (λ b. map (λ u. u.doing) (if b then t ∷ filter (holds lane) ts else filter (holds lane) ts)) h

  pub ahead_passed : holds lane t ≡ false → ahead lane (t ∷ ts) ≡ ahead lane ts
  ahead_passed h = ap (λ b. map (λ u. u.doing) (if b then t ∷ filter (holds lane) ts else filter (holds lane) ts)) h

  pub held_own : has t.lanes lane ≡ true → holds lane t ≡ true
  held_own h = either (has t.lanes lane) (is_round t.doing && not (no_lane t.lanes)) h

  -- a task of no lane holds none
  pub passed_none : no_lane t.lanes ≡ true → holds lane t ≡ false
  passed_none h = neither (has t.lanes lane) (is_round t.doing && not (no_lane t.lanes)) (no_lane_has t.lanes h lane) (no_part (is_round t.doing) (no_lane t.lanes) h)

  -- another lane's task that is no round
  pub passed_other : has t.lanes lane ≡ false → is_round t.doing ≡ false → holds lane t ≡ false
  passed_other h r = neither (has t.lanes lane) (is_round t.doing && not (no_lane t.lanes)) h (no_round (is_round t.doing) (not (no_lane t.lanes)) r)

pub ahead_append : (lane : ℕ) (xs ys : List Task) → ahead lane (xs ++ ys) ≡ ahead lane xs ++ ahead lane ys
ahead_append lane [] ys = refl
ahead_append lane (t ∷ xs) ys = by_bool (holds lane t)
    (λ h. ahead_held lane t (xs ++ ys) h ∙ ap (λ ds. t.doing ∷ ds) (ahead_append lane xs ys) ∙ sym (ap (λ ds. ds ++ ahead lane ys) (ahead_held lane t xs h)))
    (λ h. ahead_passed lane t (xs ++ ys) h ∙ ahead_append lane xs ys ∙ sym (ap (λ ds. ds ++ ahead lane ys) (ahead_passed lane t xs h)))

-- ---- a round under way

-- what fits is no round
fits_unrounded : (points : List Point) (doing : Doing) (ways : Ways) → DoingFits points doing ways → is_round doing ≡ false
fits_unrounded points (Run s) ways fits = refl
fits_unrounded points (LoopUpdate s) ways fits = refl
fits_unrounded points (LoopTest number test update body) ways fits = refl
fits_unrounded points (Round number indices body) ways fits = absurd fits
fits_unrounded points RoundEnd ways fits = refl
fits_unrounded points SwitchEnd ways fits = refl

module _ (points : List Point) (back : Option StepNumber) (end : StepNumber) where
  -- a task that the lane does not have holds it not
  passed_away : (lane : ℕ) (t : Task) (ts : List Task) → ((k : ℕ) → Fits points back end (own k (t ∷ ts))) → has t.lanes lane ≡ false → holds lane t ≡ false
  passed_away lane t ts fits h = by_bool (no_lane t.lanes)
      (λ none. passed_none lane t ts none)
      (λ some.
      let k : ℕ = lowest t.lanes in
      let first = fits_first points 0 back end k t ts (fits k) (lowest_has t.lanes some) in
      passed_other lane t ts h (fits_unrounded points t.doing (ways_before back end (own k ts)) first.0))

  pub ahead_own : (lane : ℕ) (ts : List Task) → ((k : ℕ) → Fits points back end (own k ts)) → ahead lane ts ≡ own lane ts
  ahead_own lane [] fits = refl
  ahead_own lane (t ∷ ts) fits =
      let later : ahead lane ts ≡ own lane ts = ahead_own lane ts (λ k. fits_rest points 0 back end k t ts (fits k)) in
      by_bool (has t.lanes lane)
      (λ h. ahead_held lane t ts (held_own lane t ts h) ∙ ap (λ ds. t.doing ∷ ds) later ∙ sym (own_here lane t ts h))
      (λ h. ahead_passed lane t ts (passed_away lane t ts fits h) ∙ later ∙ sym (own_away lane t ts h))

-- ---- rounds to come

module _ (lane : ℕ) (number : StepNumber) (body : Stmt) (rest : List Task) where
  abbrev rounds_ahead : List Turn → List Doing
  rounds_ahead turns = ahead lane (round_tasks number body turns ++ rest)

  skipped : (turn : Turn) (turns : List Turn) → no_lane turn.lanes ≡ true → rounds_ahead (turn ∷ turns) ≡ rounds_ahead turns
  skipped turn turns none =
      let t : Task = record { doing = Round number turn.indices body; lanes = turn.lanes } in
      ahead_passed lane t (round_tasks number body turns ++ rest) (passed_none lane t [] none)

  taken_later : (turn : Turn) (turns : List Turn) → no_lane turn.lanes ≡ true → turns_taken (turn ∷ turns) ≡ turns_taken turns
  taken_later turn turns none = ap (λ b. if not b then turn ∷ turns_taken turns else turns_taken turns) none

  taken_first : (turn : Turn) (turns : List Turn) → no_lane turn.lanes ≡ false → turns_taken (turn ∷ turns) ≡ turn ∷ turns_taken turns
  taken_first turn turns some = ap (λ b. if not b then turn ∷ turns_taken turns else turns_taken turns) some

  none_first : (turn : Turn) (turns : List Turn) → turn ∷ turns ≡ [] → ⊥
  none_first turn turns e = cc

  -- without one that some lane does, what follows them is ahead
  pub ahead_of_none : (turns : List Turn) → turns_taken turns ≡ [] → ahead lane (round_tasks number body turns ++ rest) ≡ ahead lane rest
  ahead_of_none [] none = refl
  ahead_of_none (turn ∷ turns) none = by_bool (no_lane turn.lanes)
      (λ h. skipped turn turns h ∙ ahead_of_none turns (sym (taken_later turn turns h) ∙ none))
      (λ h. absurd (none_first turn (turns_taken turns) (sym (taken_first turn turns h) ∙ none)))

  -- else each lane waits for the first such
  held_round : (turn : Turn) (turns : List Turn) → no_lane turn.lanes ≡ false → rounds_ahead (turn ∷ turns) ≡ Round number turn.indices body ∷ rounds_ahead turns
  held_round turn turns some =
      let t : Task = record { doing = Round number turn.indices body; lanes = turn.lanes } in
      ahead_held lane t (round_tasks number body turns ++ rest) (held_some (has turn.lanes lane) (no_lane turn.lanes) some)
    where
      held_some : (a b : Bool) → b ≡ false → (a || (true && not b)) ≡ true
      held_some true b h = refl
      held_some false b h = ap not h

  pub waits_for_round : (end : StepNumber) (turn : Turn) (more turns : List Turn) → turns_taken turns ≡ turn ∷ more → waits end (ahead lane (round_tasks number body turns ++ rest)) ≡ number
  waits_for_round end turn more [] some = absurd (none_first turn more (sym some))
  waits_for_round end turn more (first ∷ turns) some = by_bool (no_lane first.lanes)
      (λ h. ap (waits end) (skipped first turns h) ∙ waits_for_round end turn more turns (sym (taken_later first turns h) ∙ some))
      (λ h. ap (waits end) (held_round first turns h))

-- ---- lanes that the gang does not have

pub own_beyond : (w lane : ℕ) (ts : List Task) → TasksSized w ts → w ≤ lane → own lane ts ≡ []
own_beyond w lane [] sized beyond = refl
own_beyond w lane (t ∷ ts) sized beyond = own_away lane t ts (has_past t.lanes lane (omega (arith, sized.0, beyond))) ∙ own_beyond w lane ts sized.1 beyond
