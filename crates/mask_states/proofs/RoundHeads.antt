-- A foreach form that begins, and its next round, keep what numbers stand for.
use Rattle.std.proofs.Common.{◌≡◌, refl, sym, ap, ◌∙◌, subst, ℕ, zero, suc, ◌+◌, ◌<◌, true, false, List, [], ◌∷◌, map, Option, Some, None, slice_get, length, arith}
use Rattle.std.proofs.lemmas.List.{length-map}
use Rattle.gang_types.specs.Lanes.{Lanes, has}
use Rattle.gang_model.specs.Types.Tree.{StepNumber, RoundsOf, Stmt, ForEach}
use Rattle.gang_model.specs.Running.Lanes.{at}
use Rattle.gang_model.specs.Running.State.{Run, RoundEnd, Task}
use Rattle.gang_model.specs.Running.Rounds.{Turn}
use Rattle.gang_model.specs.Running.Step.{steps_of, round_number, task}
use Rattle.mask_states.specs.Points.{Point, Begin, entry_of}
use Rattle.mask_states.specs.Placed.{HasPoint}
use Rattle.mask_states.specs.Masked.{Level, sent, sent_in, begun}
use Rattle.mask_states.specs.Stands.{own, waits, Fits, AreSized, TasksStand, RoundsStand}
use Rattle.mask_states.proofs.OwnTasks.{by_bool, own_here, own_away}
use Rattle.mask_states.proofs.LaneNumbers.{length-sent, at-sent_in, at-sent_out}
use Rattle.gang_model.proofs.TaskOrder.{sooner}
use Rattle.mask_states.proofs.Replaced.{replaced, fits_first, fits_rest}

-- ---- the next round

-- what a lane has to do in a round
round_inside : (k : ℕ) (body : Stmt) (S : Lanes) → has S k ≡ true → own k (task (Run body) S ∷ task RoundEnd S ∷ []) ≡ Run body ∷ RoundEnd ∷ []
round_inside k body S h = own_here k (task (Run body) S) (task RoundEnd S ∷ []) h ∙ ap (λ ds. Run body ∷ ds) (own_here k (task RoundEnd S) [] h)

round_outside : (k : ℕ) (body : Stmt) (S : Lanes) → has S k ≡ false → own k (task (Run body) S ∷ task RoundEnd S ∷ []) ≡ []
round_outside k body S h = own_away k (task (Run body) S) (task RoundEnd S ∷ []) h ∙ own_away k (task RoundEnd S) [] h

-- the lanes of the round wait for the first step of the body
pub round_begins : (points : List Point) (w : ℕ) (level : Level) (body : Stmt) (turns : List Turn) → TasksStand points w None level [] → RoundsStand points w level body turns
    → (turn : Turn) (more : List Turn) → length turn.lanes ≡ w
    → TasksStand points w None (record level { turns = more; numbers = sent turn.lanes (λ j. entry_of body level.end) level.numbers }) (task (Run body) turn.lanes ∷ task RoundEnd turn.lanes ∷ [])
round_begins points w level body turns s r turn more e =
    let S = turn.lanes in
    let target : ℕ → StepNumber = λ j. entry_of body level.end in
    record {
      sized = length-sent S target level.numbers (s.sized ∙ sym e) ∙ s.sized;
      numbers = λ k within. by_bool (has S k)
          (λ h. at-sent_in S target level.numbers k (s.sized ∙ sym e) h ∙ sym (ap (waits level.end) (round_inside k body S h)))
          (λ h. at-sent_out S target level.numbers k (s.sized ∙ sym e) h ∙ s.numbers k within ∙ sym (ap (waits level.end) (round_outside k body S h)));
      fits = λ k. by_bool (has S k)
          (λ h. subst (Fits points None level.end) (sym (round_inside k body S h)) (r.body_placed, (tt, tt)))
          (λ h. subst (Fits points None level.end) (sym (round_outside k body S h)) tt);
      order = (r.first, omega arith, r.numbered, (r.first + steps_of body, omega arith, tt, omega (arith, r.above)));
      nested = ((λ k h. (refl, h)), ((λ k h. (refl, refl)), tt));
    }

-- ---- a form begins

begin_next : (o : Option Point) (form : RoundsOf) (r n m : StepNumber) → o ≡ Some (Begin form r n) → o ≡ Some (Begin form r m) → n ≡ m
begin_next o form r n m p q = cc

-- all lanes wait for the form's rounds
at-same : (numbers : List ℕ) (r k : ℕ) → k < length numbers → at (map (λ n. r) numbers) k ≡ r
at-same [] r k h = absurd (omega arith)
at-same (n ∷ numbers) r zero h = refl
at-same (n ∷ numbers) r (suc k) h = at-same numbers r k (omega arith)

-- its lanes wait for what follows the form, and those of the new level for the form's rounds
pub form_begins : (points : List Point) (w : ℕ) (back : Option StepNumber) (level : Level) (S : Lanes) (ts : List Task) (number : StepNumber) (form : RoundsOf) (body : Stmt)
    → TasksStand points w back level (task (Run (ForEach number form body)) S ∷ ts) → length S ≡ w → (k : ℕ) → has S k ≡ true
    → let next = waits level.end (own k ts) in
    HasPoint points number (Begin form (round_number number body) next)
    × TasksStand points w back (sent_in S (λ j. next) level) ts
    × ((turns : List Turn) → AreSized w turns
    → TasksStand points w None (begun (round_number number body) turns level.numbers) []
    × RoundsStand points w (begun (round_number number body) turns level.numbers) body turns)
form_begins points w back level S ts number form body s e k h =
    let t = task (Run (ForEach number form body)) S in
    let rounds = round_number number body in
    let next = waits level.end (own k ts) in
    let here = λ (j : ℕ) (i : has S j ≡ true). fits_first points w back level.end j t ts (s.fits j) i in
    let g : (j : ℕ) → has S j ≡ true → HasPoint points number (Begin form rounds (waits level.end (own j ts))) = λ j i. (here j i).0.0 in
    let o = s.order in (
      g k h,
      replaced points w back level t ts ts (λ j. next) s e
          (λ j i. begin_next (slice_get points number) form rounds _ _ (g k h) (g j i))
          (λ j i. refl)
          (λ j. fits_rest points w back level.end j t ts (s.fits j))
          (sooner (o.0 + (steps_of body + 2)) 0 ts level.end (omega arith) o.3)
          s.nested.1,
      (λ turns sized. (
        record {
          sized = length-map level.numbers (λ n. rounds) ∙ s.sized;
          numbers = λ j within. at-same level.numbers rounds j (omega (arith, within, s.sized));
          fits = λ j. tt;
          order = omega arith;
          nested = tt;
        },
        record {
          taken = refl;
          sized = sized;
          turn = (here k h).0.2;
          body_placed = (here k h).0.1;
          first = o.0 + 1;
          numbered = o.2.1;
          above = omega (arith, o.2.0);
        },
      )),
    )
