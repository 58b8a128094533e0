-- The first task of a level is done: its lanes are sent on, and other tasks stand in its place.
use Rattle.std.proofs.Common.{◌≡◌, sym, ap, ◌∙◌, subst, ℕ, true, false, List, ◌∷◌, Option, length}
use Rattle.gang_types.specs.Lanes.{has}
use Rattle.gang_model.specs.Types.Tree.{StepNumber}
use Rattle.gang_model.specs.Running.State.{Task}
use Rattle.gang_model.specs.Running.RunningOrder.{InOrder}
use Rattle.mask_states.specs.Points.{Point}
use Rattle.mask_states.specs.Masked.{Level, sent_in}
use Rattle.mask_states.specs.Stands.{own, waits, DoingFits, ways_before, Fits, AreNested, TasksStand}
use Rattle.mask_states.proofs.OwnTasks.{by_bool, own_here, own_away}
use Rattle.mask_states.proofs.LaneNumbers.{length-sent, at-sent_in, at-sent_out}

module _ (points : List Point) (w : ℕ) (back : Option StepNumber) where
  -- a level whose lanes are sent on stands for other tasks, if these lanes wait there for what they are sent to, and others as before
  pub replaced : (level : Level) (t : Task) (ts new : List Task) (target : ℕ → StepNumber) → TasksStand points w back level (t ∷ ts) → length t.lanes ≡ w
      → ((k : ℕ) → has t.lanes k ≡ true → target k ≡ waits level.end (own k new))
      → ((k : ℕ) → has t.lanes k ≡ false → waits level.end (own k ts) ≡ waits level.end (own k new))
      → ((k : ℕ) → Fits points back level.end (own k new)) → InOrder 0 new level.end → AreNested new
      → TasksStand points w back (sent_in t.lanes target level) new
  replaced level t ts new target s e inside outside fits order nested = record {
    sized = length-sent t.lanes target level.numbers (s.sized ∙ sym e) ∙ s.sized;
    numbers = λ k within. by_bool (has t.lanes k)
        (λ h. at-sent_in t.lanes target level.numbers k (s.sized ∙ sym e) h ∙ inside k h)
        (λ h. at-sent_out t.lanes target level.numbers k (s.sized ∙ sym e) h ∙ s.numbers k within ∙ ap (waits level.end) (own_away k t ts h) ∙ outside k h);
    fits = fits;
    order = order;
    nested = nested;
  }

  -- what a lane has to do that has the first task, and what follows
  pub fits_first : (end : StepNumber) (k : ℕ) (t : Task) (ts : List Task) → Fits points back end (own k (t ∷ ts)) → has t.lanes k ≡ true
      → DoingFits points t.doing (ways_before back end (own k ts)) × Fits points back end (own k ts)
  fits_first end k t ts f h = subst (Fits points back end) (own_here k t ts h) f

  pub fits_rest : (end : StepNumber) (k : ℕ) (t : Task) (ts : List Task) → Fits points back end (own k (t ∷ ts)) → Fits points back end (own k ts)
  fits_rest end k t ts f = by_bool (has t.lanes k) (λ h. (fits_first end k t ts f h).1) (λ h. subst (Fits points back end) (own_away k t ts h) f)
