-- The first step of a lane's tasks is one of their own, or else that of what follows them, whatever this is.
use Rattle.std.proofs.Common.{◌≡◌, refl, ap, ◌∙◌, ℕ, ◌+◌, ◌<◌, true, false, ◌⊎◌, inl, inr, List, [], ◌∷◌, ◌++◌, Option, arith}
use Rattle.gang_types.specs.Lanes.{has}
use Rattle.gang_model.specs.Types.Tree.{StepNumber, Expr, Stmt, Empty, Then, If, Loop, BodyFirst, Switch, Segment, ForEach}
use Rattle.gang_model.specs.Running.State.{Doing, Run, LoopTest, LoopUpdate, Round, RoundEnd, SwitchEnd, Task}
use Rattle.gang_model.specs.Running.Step.{steps_of}
use Rattle.gang_model.specs.Running.RunningOrder.{IsNumbered, IsNumberedTask, InOrder, past_number}
use Rattle.gang_model.specs.Debugger.Positions.{number_of}
use Rattle.mask_states.specs.Points.{Point, Ways, entry_of}
use Rattle.mask_states.specs.Stands.{own, waits, ways_before, DoingFits, Fits}
use Rattle.mask_states.proofs.OwnTasks.{by_bool, own_here, own_away}
use Rattle.mask_states.proofs.ActiveLanes.{order_end}
use Rattle.mask_states.proofs.Replaced.{fits_first, fits_rest}

-- ---- statements

-- a statement's first step is one of its own
pub record OwnEntry (s : Stmt) : Type 0 where
  pub number : StepNumber
  pub entry : (next : StepNumber) → entry_of s next ≡ number
  pub below : (n : ℕ) → IsNumbered n s → number < n + steps_of s

-- it has no step, or it is
abbrev pub Enters : Stmt → Type 0
Enters s = ((next : StepNumber) → entry_of s next ≡ next) ⊎ OwnEntry s

then_enters : (first rest : Stmt) → Enters first → Enters rest → Enters (Then first rest)
then_enters first rest (inr a) b = inr (record { number = a.number; entry = λ next. a.entry (entry_of rest next); below = λ n h. omega (arith, a.below n h.0) })
then_enters first rest (inl a) (inr b) =
    inr (record { number = b.number; entry = λ next. a (entry_of rest next) ∙ b.entry next; below = λ n h. omega (arith, b.below (n + steps_of first) h.1) })
then_enters first rest (inl a) (inl b) = inl (λ next. a (entry_of rest next) ∙ b next)

segment_enters : (label : Option ℕ) (body rest : Stmt) → Enters body → Enters rest → Enters (Segment label body rest)
segment_enters label body rest (inr a) b = inr (record { number = a.number; entry = λ next. a.entry (entry_of rest next); below = λ n h. omega (arith, a.below n h.0) })
segment_enters label body rest (inl a) (inr b) =
    inr (record { number = b.number; entry = λ next. a (entry_of rest next) ∙ b.entry next; below = λ n h. omega (arith, b.below (n + steps_of body) h.1) })
segment_enters label body rest (inl a) (inl b) = inl (λ next. a (entry_of rest next) ∙ b next)

body_enters : (number : StepNumber) (test : Expr) (body : Stmt) → Enters body → Enters (BodyFirst number test body)
body_enters number test body (inr a) = inr (record { number = a.number; entry = λ next. a.entry number; below = λ n h. omega (arith, a.below n h.1) })
body_enters number test body (inl a) = inr (record { number = number; entry = λ next. a number; below = λ n h. omega (arith, h.0) })

enters : (s : Stmt) → Enters s
enters Empty = inl (λ next. refl)
enters (Then first rest) = then_enters first rest (enters first) (enters rest)
enters (Segment label body rest) = segment_enters label body rest (enters body) (enters rest)
enters (BodyFirst number test body) = body_enters number test body (enters body)
enters (Loop number test update body) = inr (record { number = number; entry = λ next. refl; below = λ n h. omega (arith, h.0) })
enters (If number test first other) = inr (record { number = number; entry = λ next. refl; below = λ n h. omega (arith, h.0) })
enters (Switch number e segments) = inr (record { number = number; entry = λ next. refl; below = λ n h. omega (arith, h.0) })
enters (ForEach number form body) = inr (record { number = number; entry = λ next. refl; below = λ n h. omega (arith, h.0) })
enters s = inr (record { number = number_of s; entry = λ next. refl; below = λ n h. omega (arith, h) })

-- ---- what a task does

-- it begins with a step of its own
pub record OwnStart (doing : Doing) : Type 0 where
  pub number : StepNumber
  pub start : (end : StepNumber) (ds : List Doing) → waits end (doing ∷ ds) ≡ number
  pub below : (n : ℕ) → IsNumberedTask n doing → number < past_number doing n

abbrev Starts : Doing → Type 0
Starts doing = ((end : StepNumber) (ds : List Doing) → waits end (doing ∷ ds) ≡ waits end ds) ⊎ OwnStart doing

run_starts : (s : Stmt) → Enters s → Starts (Run s)
run_starts s (inl a) = inl (λ end ds. a (waits end ds))
run_starts s (inr a) = inr (record { number = a.number; start = λ end ds. a.entry (waits end ds); below = a.below })

update_starts : (s : Stmt) → Enters s → Starts (LoopUpdate s)
update_starts s (inl a) = inl (λ end ds. a (waits end ds))
update_starts s (inr a) = inr (record { number = a.number; start = λ end ds. a.entry (waits end ds); below = a.below })

starts : (points : List Point) (doing : Doing) (ways : Ways) → DoingFits points doing ways → Starts doing
starts points (Run s) ways fits = run_starts s (enters s)
starts points (LoopUpdate s) ways fits = update_starts s (enters s)
starts points (LoopTest number test update body) ways fits = inr (record { number = number; start = λ end ds. refl; below = λ n h. omega arith })
starts points (Round number indices body) ways fits = absurd fits
starts points RoundEnd ways fits = inl (λ end ds. refl)
starts points SwitchEnd ways fits = inl (λ end ds. refl)

-- ---- what a lane has to do

-- a lane waits for a step of its tasks
pub record OwnNumber (lane : ℕ) (ts : List Task) : Type 0 where
  pub number : StepNumber
  pub waits_are : (end : StepNumber) → waits end (own lane ts) ≡ number
  pub below : (from end : ℕ) → InOrder from ts end → number < end

-- it has nothing to do in them, or it does
abbrev pub Waits : (lane : ℕ) → List Task → Type 0
Waits lane ts = ((end : StepNumber) → waits end (own lane ts) ≡ end) ⊎ OwnNumber lane ts

module _ (lane : ℕ) (t : Task) (ts : List Task) where
  -- of another lane's task
  away : has t.lanes lane ≡ false → Waits lane ts → Waits lane (t ∷ ts)
  away h (inl idle) = inl (λ end. ap (waits end) (own_away lane t ts h) ∙ idle end)
  away h (inr busy) = inr (record {
    number = busy.number;
    waits_are = λ end. ap (waits end) (own_away lane t ts h) ∙ busy.waits_are end;
    below = λ from end o. busy.below (past_number t.doing o.0) end o.3;
  })

  -- of the lane's own
  here : has t.lanes lane ≡ true → Starts t.doing → Waits lane ts → Waits lane (t ∷ ts)
  here h (inr first) later = inr (record {
    number = first.number;
    waits_are = λ end. ap (waits end) (own_here lane t ts h) ∙ first.start end (own lane ts);
    below = λ from end o. omega (arith, first.below o.0 o.2, order_end end (past_number t.doing o.0) ts o.3);
  })
  here h (inl first) (inl idle) = inl (λ end. ap (waits end) (own_here lane t ts h) ∙ first end (own lane ts) ∙ idle end)
  here h (inl first) (inr busy) = inr (record {
    number = busy.number;
    waits_are = λ end. ap (waits end) (own_here lane t ts h) ∙ first end (own lane ts) ∙ busy.waits_are end;
    below = λ from end o. busy.below (past_number t.doing o.0) end o.3;
  })

pub waits_in : (points : List Point) (back : Option StepNumber) (end : StepNumber) (lane : ℕ) (ts : List Task) → Fits points back end (own lane ts) → Waits lane ts
waits_in points back end lane [] fits = inl (λ other. refl)
waits_in points back end lane (t ∷ ts) fits =
    let later : Waits lane ts = waits_in points back end lane ts (fits_rest points 0 back end lane t ts fits) in
    by_bool (has t.lanes lane)
    (λ h. here lane t ts h (starts points t.doing (ways_before back end (own lane ts)) (fits_first points 0 back end lane t ts fits h).0) later)
    (λ h. away lane t ts h later)

-- what follows is what is waited for at the end
pub waits_append : (end : StepNumber) (ds es : List Doing) → waits end (ds ++ es) ≡ waits (waits end es) ds
waits_append end [] es = refl
waits_append end (Run s ∷ ds) es = ap (entry_of s) (waits_append end ds es)
waits_append end (LoopUpdate s ∷ ds) es = ap (entry_of s) (waits_append end ds es)
waits_append end (LoopTest number test update body ∷ ds) es = refl
waits_append end (Round number indices body ∷ ds) es = refl
waits_append end (RoundEnd ∷ ds) es = waits_append end ds es
waits_append end (SwitchEnd ∷ ds) es = waits_append end ds es
