-- The first task of a level is a `break`, a `continue` or a `return`, or goes on to the tasks behind it.
use Rattle.std.proofs.Common.{◌≡◌, refl, sym, ap, ◌∙◌, subst, ℕ, true, List, ◌∷◌, Option, Some, length, arith}
use Rattle.std.specs.Prelude.{map, slice_get}
use Rattle.gang_types.specs.Lanes.{Lanes, has}
use Rattle.gang_model.specs.Types.Tree.{StepNumber, Expr, Break, Continue, Return}
use Rattle.gang_model.specs.Running.State.{Run, Task}
use Rattle.gang_model.specs.Running.RunningOrder.{past_number, InOrder}
use Rattle.gang_model.specs.Running.Step.{task, leaves_task, broken, continued}
use Rattle.mask_states.specs.Points.{Point, Put, Go}
use Rattle.mask_states.specs.Placed.{HasPoint, Leads}
use Rattle.mask_states.specs.Masked.{Level, sent_in}
use Rattle.mask_states.specs.Stands.{own, waits, after_break, after_continue, TasksStand}
use Rattle.gang_model.proofs.TaskOrder.{sooner, broken_in, continued_in, leaves_in}
use Rattle.mask_states.proofs.Replaced.{replaced, fits_first, fits_rest}
use Rattle.mask_states.proofs.Leaving.{broken_out, continued_out, leaves_out, broken_waits, continued_waits, leaves_own, broken_fits, continued_fits, leaves_fits, broken_nested, continued_nested, leaves_nested}

-- one point stands at one number, with one number to go on at
pub same_point : (o : Option Point) (a b : Point) → o ≡ Some a → o ≡ Some b → a ≡ b
same_point o a b e f = cc

same_go : (m n : StepNumber) → Go m ≡ Go n → m ≡ n
same_go m n e = cc

-- the tasks behind the first one stand in order
pub rest_order : (t : Task) (ts : List Task) (to : ℕ) → InOrder 0 (t ∷ ts) to → InOrder 0 ts to
rest_order t ts to o = sooner (past_number t.doing o.0) 0 ts to (omega arith) o.3

module _ (points : List Point) (w : ℕ) (back : Option StepNumber) where
  -- lanes that go on to their own tasks behind the first one
  pub rest_stands : (level : Level) (t : Task) (ts : List Task) → TasksStand points w back level (t ∷ ts) → length t.lanes ≡ w → (target : ℕ → StepNumber)
      → ((k : ℕ) → has t.lanes k ≡ true → target k ≡ waits level.end (own k ts)) → TasksStand points w back (sent_in t.lanes target level) ts
  rest_stands level t ts s e target goes =
      replaced points w back level t ts ts target s e goes (λ k i. refl) (λ k. fits_rest points w back level.end k t ts (s.fits k))
      (rest_order t ts level.end s.order) s.nested.1

  -- a point that sends all lanes to one number
  pub put_stands : (level : Level) (t : Task) (ts : List Task) → TasksStand points w back level (t ∷ ts) → length t.lanes ≡ w
      → (number : StepNumber) (p : StepNumber → Point) → ((a b : StepNumber) → p a ≡ p b → a ≡ b)
      → ((k : ℕ) → has t.lanes k ≡ true → HasPoint points number (p (waits level.end (own k ts)))) → (k : ℕ) → has t.lanes k ≡ true
      → HasPoint points number (p (waits level.end (own k ts))) × TasksStand points w back (sent_in t.lanes (λ j. waits level.end (own k ts)) level) ts
  put_stands level t ts s e number p one points_there k h = (
    points_there k h,
    rest_stands level t ts s e (λ j. waits level.end (own k ts))
        (λ j i. one (waits level.end (own k ts)) (waits level.end (own j ts))
        (same_point (slice_get points number) (p (waits level.end (own k ts))) (p (waits level.end (own j ts))) (points_there k h) (points_there j i))),
  )

  -- lanes that break go on behind the loop or switch, lanes that continue at its update or at the end of the round
  pub break_stands : (level : Level) (number : StepNumber) (lanes : Lanes) (ts : List Task) → TasksStand points w back level (task (Run (Break number)) lanes ∷ ts)
      → length lanes ≡ w → (k : ℕ) → has lanes k ≡ true
      → (n : StepNumber) × (after_break level.end (own k ts) ≡ Some n) × HasPoint points number (Go n)
      × TasksStand points w back (sent_in lanes (λ j. n) level) (broken lanes ts)
  break_stands level number lanes ts s e k h =
      let t = task (Run (Break number)) lanes in
      let leads : (j : ℕ) → has lanes j ≡ true → Leads points number (after_break level.end (own j ts)) Go =
      λ j i. (fits_first points w back level.end j t ts (s.fits j) i).0 in
      let here = leads k h in (
        here.0,
        here.1,
        here.2,
        replaced points w back level t ts (broken lanes ts) (λ j. here.0) s e
            (λ j i.
            let there = leads j i in
            same_go here.0 there.0 (same_point (slice_get points number) (Go here.0) (Go there.0) here.2 there.2)
            ∙ sym (broken_waits level.end j lanes ts there.0 i (s.nested.0 j i).0 there.1))
            (λ j i. ap (waits level.end) (sym (broken_out j lanes ts i)))
            (λ j. broken_fits points back level.end j lanes ts (fits_rest points w back level.end j t ts (s.fits j)))
            (broken_in lanes ts 0 level.end (rest_order t ts level.end s.order))
            (broken_nested lanes ts s.nested.1),
      )

  pub continue_stands : (level : Level) (number : StepNumber) (lanes : Lanes) (ts : List Task)
      → TasksStand points w back level (task (Run (Continue number)) lanes ∷ ts) → length lanes ≡ w → (k : ℕ) → has lanes k ≡ true
      → (n : StepNumber) × (after_continue level.end (own k ts) ≡ Some n) × HasPoint points number (Go n)
      × TasksStand points w back (sent_in lanes (λ j. n) level) (continued lanes ts)
  continue_stands level number lanes ts s e k h =
      let t = task (Run (Continue number)) lanes in
      let leads : (j : ℕ) → has lanes j ≡ true → Leads points number (after_continue level.end (own j ts)) Go =
      λ j i. (fits_first points w back level.end j t ts (s.fits j) i).0 in
      let here = leads k h in (
        here.0,
        here.1,
        here.2,
        replaced points w back level t ts (continued lanes ts) (λ j. here.0) s e
            (λ j i.
            let there = leads j i in
            same_go here.0 there.0 (same_point (slice_get points number) (Go here.0) (Go there.0) here.2 there.2)
            ∙ sym (continued_waits level.end j lanes ts there.0 i (s.nested.0 j i).1 there.1))
            (λ j i. ap (waits level.end) (sym (continued_out j lanes ts i)))
            (λ j. continued_fits points back level.end j lanes ts (fits_rest points w back level.end j t ts (s.fits j)))
            (continued_in lanes ts 0 level.end (rest_order t ts level.end s.order))
            (continued_nested lanes ts s.nested.1),
      )

  -- lanes of any first task that return, and those of a `return`
  pub leaves_stand : (level : Level) (t : Task) (ts : List Task) → TasksStand points w back level (t ∷ ts) → length t.lanes ≡ w
      → TasksStand points w back (sent_in t.lanes (λ j. level.end) level) (map (leaves_task t.lanes) ts)
  leaves_stand level t ts s e =
      replaced points w back level t ts (map (leaves_task t.lanes) ts) (λ j. level.end) s e
      (λ j i. ap (waits level.end) (sym (leaves_own j t.lanes ts i)))
      (λ j i. ap (waits level.end) (sym (leaves_out j t.lanes ts i)))
      (λ j. leaves_fits points back level.end j t.lanes ts (fits_rest points w back level.end j t ts (s.fits j)))
      (leaves_in t.lanes ts 0 level.end (rest_order t ts level.end s.order))
      (leaves_nested t.lanes ts s.nested.1)

  pub return_stands : (level : Level) (number : StepNumber) (e : Option Expr) (lanes : Lanes) (ts : List Task)
      → TasksStand points w back level (task (Run (Return number e)) lanes ∷ ts) → length lanes ≡ w → (k : ℕ) → has lanes k ≡ true
      → (n : StepNumber) × (back ≡ Some n) × HasPoint points number (Put (Return number e) n)
      × (n ≡ level.end → TasksStand points w back (sent_in lanes (λ j. n) level) (map (leaves_task lanes) ts))
  return_stands level number e lanes ts s sized k h =
      let t = task (Run (Return number e)) lanes in
      let leads : Leads points number back (Put (Return number e)) = (fits_first points w back level.end k t ts (s.fits k) h).0 in (
        leads.0,
        leads.1,
        leads.2,
        λ is_end. subst (λ n. TasksStand points w back (sent_in lanes (λ j. n) level) (map (leaves_task lanes) ts)) (sym is_end) (leaves_stand level t ts s sized),
      )
