-- An `if` and a loop's test keep what numbers stand for: the lanes of each branch wait for the branch's first step.
use Rattle.std.proofs.Common.{◌≡◌, refl, sym, ap, ◌∙◌, subst, ℕ, ◌+◌, Bool, true, false, not, ◌&&◌, List, ◌∷◌, Option, Some, slice_get, length, if◌then◌else◌, arith}
use Rattle.gang_types.specs.Lanes.{Lanes, has, lanes_where}
use Rattle.gang_types.specs.LaneLaws.{has-lanes_where}
use Rattle.gang_model.specs.Types.Tree.{Expr, StepNumber, Stmt, If}
use Rattle.gang_model.specs.Running.Lanes.{holds}
use Rattle.gang_model.specs.Running.State.{Doing, Run, LoopTest, LoopUpdate, Task}
use Rattle.gang_model.specs.Running.Step.{steps_of, task}
use Rattle.mask_states.specs.Points.{Point, Branch, entry_of}
use Rattle.mask_states.specs.Placed.{HasPoint}
use Rattle.mask_states.specs.Masked.{Level, sent_in}
use Rattle.mask_states.specs.Stands.{own, waits, Fits, TasksStand}
use Rattle.mask_states.proofs.OwnTasks.{by_bool, own_here, own_away}
use Rattle.gang_model.proofs.TaskOrder.{sooner}
use Rattle.mask_states.proofs.Replaced.{replaced, fits_first, fits_rest}

-- ---- the lanes of a set that pass a test

both_left : (a b : Bool) → (a && b) ≡ true → a ≡ true
both_left true b h = refl
both_left false b h = h

-- such a lane is one of the set
pub in_whole : (S : Lanes) (f : ℕ → Bool) (k : ℕ) → has (lanes_where S f) k ≡ true → has S k ≡ true
in_whole S f k h = both_left (has S k) (f k) (sym (has-lanes_where S f k) ∙ h)

pub is_where : (S : Lanes) (f : ℕ → Bool) (k : ℕ) → has S k ≡ true → has (lanes_where S f) k ≡ f k
is_where S f k h = has-lanes_where S f k ∙ ap (λ b. b && f k) h

pub not_where : (S : Lanes) (f : ℕ → Bool) (k : ℕ) → has S k ≡ false → has (lanes_where S f) k ≡ false
not_where S f k h = has-lanes_where S f k ∙ ap (λ b. b && f k) h

-- a task of such lanes is the own one of a lane of the set that passes the test, and of no other lane
pub own_passes : (k : ℕ) (d : Doing) (S : Lanes) (f : ℕ → Bool) (ts : List Task) → has S k ≡ true → f k ≡ true → own k (task d (lanes_where S f) ∷ ts) ≡ d ∷ own k ts
own_passes k d S f ts h e = own_here k (task d (lanes_where S f)) ts (is_where S f k h ∙ e)

pub own_fails : (k : ℕ) (d : Doing) (S : Lanes) (f : ℕ → Bool) (ts : List Task) → has S k ≡ true → f k ≡ false → own k (task d (lanes_where S f) ∷ ts) ≡ own k ts
own_fails k d S f ts h e = own_away k (task d (lanes_where S f)) ts (is_where S f k h ∙ e)

pub own_outside : (k : ℕ) (d : Doing) (S : Lanes) (f : ℕ → Bool) (ts : List Task) → has S k ≡ false → own k (task d (lanes_where S f) ∷ ts) ≡ own k ts
own_outside k d S f ts h = own_away k (task d (lanes_where S f)) ts (not_where S f k h)

-- ---- one point stands at one number

branch_yes : (o : Option Point) (test : Expr) (y n y' n' : StepNumber) → o ≡ Some (Branch test y n) → o ≡ Some (Branch test y' n') → y ≡ y'
branch_yes o test y n y' n' p q = cc

branch_no : (o : Option Point) (test : Expr) (y n y' n' : StepNumber) → o ≡ Some (Branch test y n) → o ≡ Some (Branch test y' n') → n ≡ n'
branch_no o test y n y' n' p q = cc

-- ---- what a lane has to do after an `if`

abbrev if_tasks : (first other : Stmt) → Lanes → List ℕ → List Task → List Task
if_tasks first other S c ts = task (Run first) (lanes_where S (holds c)) ∷ task (Run other) (lanes_where S (λ j. not (holds c j))) ∷ ts

if_passes : (k : ℕ) (first other : Stmt) (S : Lanes) (c : List ℕ) (ts : List Task) → has S k ≡ true → holds c k ≡ true → own k (if_tasks first other S c ts) ≡ Run first ∷ own k ts
if_passes k first other S c ts h y =
    own_passes k (Run first) S (holds c) (task (Run other) (lanes_where S (λ j. not (holds c j))) ∷ ts) h y
    ∙ ap (λ ds. Run first ∷ ds) (own_fails k (Run other) S (λ j. not (holds c j)) ts h (ap not y))

if_fails : (k : ℕ) (first other : Stmt) (S : Lanes) (c : List ℕ) (ts : List Task) → has S k ≡ true → holds c k ≡ false → own k (if_tasks first other S c ts) ≡ Run other ∷ own k ts
if_fails k first other S c ts h y =
    own_fails k (Run first) S (holds c) (task (Run other) (lanes_where S (λ j. not (holds c j))) ∷ ts) h y
    ∙ own_passes k (Run other) S (λ j. not (holds c j)) ts h (ap not y)

if_outside : (k : ℕ) (first other : Stmt) (S : Lanes) (c : List ℕ) (ts : List Task) → has S k ≡ false → own k (if_tasks first other S c ts) ≡ own k ts
if_outside k first other S c ts h =
    own_outside k (Run first) S (holds c) (task (Run other) (lanes_where S (λ j. not (holds c j))) ∷ ts) h
    ∙ own_outside k (Run other) S (λ j. not (holds c j)) ts h

-- ---- and after a loop's test

abbrev test_tasks : StepNumber → Expr → (update body : Stmt) → Lanes → List ℕ → List Task → List Task
test_tasks number test update body S c ts =
    task (Run body) (lanes_where S (holds c)) ∷ task (LoopUpdate update) (lanes_where S (holds c)) ∷ task (LoopTest number test update body) (lanes_where S (holds c)) ∷ ts

test_passes : (k : ℕ) (number : StepNumber) (test : Expr) (update body : Stmt) (S : Lanes) (c : List ℕ) (ts : List Task) → has S k ≡ true → holds c k ≡ true
    → own k (test_tasks number test update body S c ts) ≡ Run body ∷ LoopUpdate update ∷ LoopTest number test update body ∷ own k ts
test_passes k number test update body S c ts h y =
    let last = task (LoopTest number test update body) (lanes_where S (holds c)) ∷ ts in
    own_passes k (Run body) S (holds c) (task (LoopUpdate update) (lanes_where S (holds c)) ∷ last) h y
    ∙ ap (λ ds. Run body ∷ ds) (own_passes k (LoopUpdate update) S (holds c) last h y)
    ∙ ap (λ ds. Run body ∷ LoopUpdate update ∷ ds) (own_passes k (LoopTest number test update body) S (holds c) ts h y)

test_fails : (k : ℕ) (number : StepNumber) (test : Expr) (update body : Stmt) (S : Lanes) (c : List ℕ) (ts : List Task) → has S k ≡ true → holds c k ≡ false
    → own k (test_tasks number test update body S c ts) ≡ own k ts
test_fails k number test update body S c ts h y =
    let last = task (LoopTest number test update body) (lanes_where S (holds c)) ∷ ts in
    own_fails k (Run body) S (holds c) (task (LoopUpdate update) (lanes_where S (holds c)) ∷ last) h y
    ∙ own_fails k (LoopUpdate update) S (holds c) last h y
    ∙ own_fails k (LoopTest number test update body) S (holds c) ts h y

test_outside : (k : ℕ) (number : StepNumber) (test : Expr) (update body : Stmt) (S : Lanes) (c : List ℕ) (ts : List Task) → has S k ≡ false
    → own k (test_tasks number test update body S c ts) ≡ own k ts
test_outside k number test update body S c ts h =
    let last = task (LoopTest number test update body) (lanes_where S (holds c)) ∷ ts in
    own_outside k (Run body) S (holds c) (task (LoopUpdate update) (lanes_where S (holds c)) ∷ last) h
    ∙ own_outside k (LoopUpdate update) S (holds c) last h
    ∙ own_outside k (LoopTest number test update body) S (holds c) ts h

module _ (points : List Point) (w : ℕ) (back : Option StepNumber) (level : Level) (S : Lanes) (ts : List Task) where
  -- the lanes of an `if` wait for the part that they run
  pub if_stands : (number : StepNumber) (test : Expr) (first other : Stmt) → TasksStand points w back level (task (Run (If number test first other)) S ∷ ts) → length S ≡ w
      → (k : ℕ) → has S k ≡ true → (c : List ℕ)
      → let next = waits level.end (own k ts) in
      HasPoint points number (Branch test (entry_of first next) (entry_of other next))
      × TasksStand points w back (sent_in S (λ j. if holds c j then entry_of first next else entry_of other next) level)
      (task (Run first) (lanes_where S (holds c)) ∷ task (Run other) (lanes_where S (λ j. not (holds c j))) ∷ ts)
  if_stands number test first other s e k h c =
      let t = task (Run (If number test first other)) S in
      let new = if_tasks first other S c ts in
      let next = waits level.end (own k ts) in
      let yes' = entry_of first next in
      let no' = entry_of other next in
      let here = λ (j : ℕ) (i : has S j ≡ true). fits_first points w back level.end j t ts (s.fits j) i in
      let g : (j : ℕ) → has S j ≡ true → HasPoint points number (Branch test (entry_of first (waits level.end (own j ts))) (entry_of other (waits level.end (own j ts)))) =
      λ j i. (here j i).0.0 in
      let o = s.order in (
        g k h,
        replaced points w back level t ts new (λ j. if holds c j then yes' else no') s e
            (λ j i. by_bool (holds c j)
            (λ y. ap (λ b. if b then yes' else no') y ∙ branch_yes (slice_get points number) test _ _ _ _ (g k h) (g j i) ∙ sym (ap (waits level.end) (if_passes j first other S c ts i y)))
            (λ y. ap (λ b. if b then yes' else no') y ∙ branch_no (slice_get points number) test _ _ _ _ (g k h) (g j i) ∙ sym (ap (waits level.end) (if_fails j first other S c ts i y))))
            (λ j i. sym (ap (waits level.end) (if_outside j first other S c ts i)))
            (λ j. by_bool (has S j)
            (λ i. by_bool (holds c j)
            (λ y. subst (Fits points back level.end) (sym (if_passes j first other S c ts i y)) ((here j i).0.1, (here j i).1))
            (λ y. subst (Fits points back level.end) (sym (if_fails j first other S c ts i y)) ((here j i).0.2, (here j i).1)))
            (λ i. subst (Fits points back level.end) (sym (if_outside j first other S c ts i)) (fits_rest points w back level.end j t ts (s.fits j)))) (
              o.0 + 1,
              omega arith,
              o.2.1,
              (o.0 + 1 + steps_of first, omega arith, o.2.2, sooner (o.0 + (1 + steps_of first + steps_of other)) (o.0 + 1 + steps_of first + steps_of other) ts level.end (omega arith) o.3),
            ) (
              (λ j i. s.nested.0 j (in_whole S (holds c) j i)),
              ((λ j i. s.nested.0 j (in_whole S (λ j. not (holds c j)) j i)), s.nested.1),
            ),
      )

  -- the lanes of a loop's test wait for the body, or for what follows the loop
  pub test_stands : (number : StepNumber) (test : Expr) (update body : Stmt) → TasksStand points w back level (task (LoopTest number test update body) S ∷ ts) → length S ≡ w
      → (k : ℕ) → has S k ≡ true → (c : List ℕ)
      → let next = waits level.end (own k ts) in
      HasPoint points number (Branch test (entry_of body (entry_of update number)) next)
      × TasksStand points w back (sent_in S (λ j. if holds c j then entry_of body (entry_of update number) else next) level)
      (task (Run body) (lanes_where S (holds c)) ∷ task (LoopUpdate update) (lanes_where S (holds c)) ∷ task (LoopTest number test update body) (lanes_where S (holds c)) ∷ ts)
  test_stands number test update body s e k h c =
      let t = task (LoopTest number test update body) S in
      let new = test_tasks number test update body S c ts in
      let next = waits level.end (own k ts) in
      let yes' = entry_of body (entry_of update number) in
      let here = λ (j : ℕ) (i : has S j ≡ true). fits_first points w back level.end j t ts (s.fits j) i in
      let g : (j : ℕ) → has S j ≡ true → HasPoint points number (Branch test yes' (waits level.end (own j ts))) = λ j i. (here j i).0.2 in
      let stays : (j : ℕ) → has (lanes_where S (holds c)) j ≡ true → has S j ≡ true = λ j i. in_whole S (holds c) j i in
      let o = s.order in (
        g k h,
        replaced points w back level t ts new (λ j. if holds c j then yes' else next) s e
            (λ j i. by_bool (holds c j)
            (λ y. ap (λ b. if b then yes' else next) y ∙ sym (ap (waits level.end) (test_passes j number test update body S c ts i y)))
            (λ y. ap (λ b. if b then yes' else next) y ∙ branch_no (slice_get points number) test _ _ _ _ (g k h) (g j i) ∙ sym (ap (waits level.end) (test_fails j number test update body S c ts i y))))
            (λ j i. sym (ap (waits level.end) (test_outside j number test update body S c ts i)))
            (λ j. by_bool (has S j)
            (λ i. by_bool (holds c j)
            (λ y. subst (Fits points back level.end) (sym (test_passes j number test update body S c ts i y)) ((here j i).0.0, ((here j i).0.1, here j i)))
            (λ y. subst (Fits points back level.end) (sym (test_fails j number test update body S c ts i y)) (here j i).1))
            (λ i. subst (Fits points back level.end) (sym (test_outside j number test update body S c ts i)) (fits_rest points w back level.end j t ts (s.fits j))))
            (o.0, omega arith, o.2.1, (o.0 + steps_of body, omega arith, o.2.2, (o.0, omega (arith, o.2.0), o.2, o.3))) (
              (λ j i. (i, i)),
              (
                (λ j i. (i, (s.nested.0 j (stays j i)).1)),
                ((λ j i. s.nested.0 j (stays j i)), s.nested.1),
              ),
            ),
      )
