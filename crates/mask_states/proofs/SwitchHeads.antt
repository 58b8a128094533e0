-- A switch keeps what numbers stand for: each lane waits for the first step of the segments that it runs through.
use Rattle.std.proofs.Common.{◌≡◌, refl, sym, ap, ◌∙◌, subst, ℕ, suc, ◌+◌, ◌-◌, ◌≤◌, true, false, List, [], ◌∷◌, ◌++◌, Option, Some, None, nat_le, slice_get, slice_index_or, length, if◌then◌else◌, arith}
use Rattle.std.proofs.lemmas.Bool.{le-leb, leb-true, leb-false}
use Rattle.gang_types.specs.Lanes.{Lanes, has}
use Rattle.gang_model.specs.Types.Tree.{Expr, StepNumber, Stmt, Empty, Switch, Segment}
use Rattle.gang_model.specs.Running.Lanes.{at}
use Rattle.gang_model.specs.Running.State.{Doing, Run, SwitchEnd, Task}
use Rattle.gang_model.specs.Running.RunningOrder.{IsNumbered, InOrder}
use Rattle.gang_model.specs.Running.Step.{steps_of, task, labelled, default_of, or_default, is_at_most, segment_tasks, ends_break, ends_turn}
use Rattle.mask_states.specs.Points.{Point, Choose, Ways, entry_of, entries_of}
use Rattle.mask_states.specs.Placed.{HasPoint, IsPlaced, AreSegmentsPlaced}
use Rattle.mask_states.specs.Masked.{Level, sent_in}
use Rattle.mask_states.specs.MaskedStep.{segment_of, chosen}
use Rattle.mask_states.specs.Stands.{own, waits, after_break, after_continue, ways_before, Fits, in_first, AreNested, TasksStand}
use Rattle.mask_states.proofs.OwnTasks.{by_bool, own_here, own_away}
use Rattle.gang_model.proofs.TaskOrder.{sooner, joined, segments_in}
use Rattle.mask_states.proofs.Replaced.{replaced, fits_first, fits_rest}
use Rattle.mask_states.proofs.BranchHeads.{in_whole, own_passes, own_fails, own_outside}

-- nothing stands behind the last segment
abbrev AreSegmentsEnded : Stmt → Type 0
AreSegmentsEnded (Segment label body rest) = AreSegmentsEnded rest
AreSegmentsEnded s = s ≡ Empty

placed_ended : (points : List Point) (s : Stmt) (ways : Ways) → AreSegmentsPlaced points s ways → AreSegmentsEnded s
placed_ended points (Segment label body rest) ways h = placed_ended points rest ways h.1
placed_ended points s ways h = h

-- ---- what a lane of a switch has to do that enters at a segment, if at any

abbrev run_on : ℕ → Stmt → Option ℕ → List Doing → List Doing
run_on i (Segment label body rest) entry ds = if is_at_most entry i then Run body ∷ run_on (suc i) rest entry ds else run_on (suc i) rest entry ds
run_on i s entry ds = ds

run_here : (i : ℕ) (label : Option ℕ) (body rest : Stmt) (entry : Option ℕ) (ds : List Doing) → is_at_most entry i ≡ true
    → run_on i (Segment label body rest) entry ds ≡ Run body ∷ run_on (suc i) rest entry ds
run_here i label body rest entry ds h = ap (λ b. if b then Run body ∷ run_on (suc i) rest entry ds else run_on (suc i) rest entry ds) h

run_later : (i : ℕ) (label : Option ℕ) (body rest : Stmt) (entry : Option ℕ) (ds : List Doing) → is_at_most entry i ≡ false
    → run_on i (Segment label body rest) entry ds ≡ run_on (suc i) rest entry ds
run_later i label body rest entry ds h = ap (λ b. if b then Run body ∷ run_on (suc i) rest entry ds else run_on (suc i) rest entry ds) h

-- the tasks of a switch
abbrev switch_tasks : ℕ → Stmt → Lanes → (ℕ → Option ℕ) → List Task → List Task
switch_tasks i segments S entry ts = (segment_tasks i segments S entry ++ task SwitchEnd S ∷ []) ++ ts

own_inside : (k i : ℕ) (segments : Stmt) (S : Lanes) (entry : ℕ → Option ℕ) (ts : List Task) → has S k ≡ true
    → own k (switch_tasks i segments S entry ts) ≡ run_on i segments (entry k) (SwitchEnd ∷ own k ts)
own_inside k i (Segment label body rest) S entry ts h = by_bool (is_at_most (entry k) i)
    (λ e. own_passes k (Run body) S (λ j. is_at_most (entry j) i) (switch_tasks (suc i) rest S entry ts) h e
    ∙ ap (λ ds. Run body ∷ ds) (own_inside k (suc i) rest S entry ts h)
    ∙ sym (run_here i label body rest (entry k) (SwitchEnd ∷ own k ts) e))
    (λ e. own_fails k (Run body) S (λ j. is_at_most (entry j) i) (switch_tasks (suc i) rest S entry ts) h e
    ∙ own_inside k (suc i) rest S entry ts h
    ∙ sym (run_later i label body rest (entry k) (SwitchEnd ∷ own k ts) e))
own_inside k i s S entry ts h = own_here k (task SwitchEnd S) ts h

own_without : (k i : ℕ) (segments : Stmt) (S : Lanes) (entry : ℕ → Option ℕ) (ts : List Task) → has S k ≡ false
    → own k (switch_tasks i segments S entry ts) ≡ own k ts
own_without k i (Segment label body rest) S entry ts h =
    own_outside k (Run body) S (λ j. is_at_most (entry j) i) (switch_tasks (suc i) rest S entry ts) h ∙ own_without k (suc i) rest S entry ts h
own_without k i s S entry ts h = own_away k (task SwitchEnd S) ts h

-- ---- where it begins

at_most_next : (entry : Option ℕ) (i : ℕ) → is_at_most entry i ≡ true → is_at_most entry (suc i) ≡ true
at_most_next None i h = h
at_most_next (Some m) i h = le-leb m (suc i) (omega (arith, leb-true m i h))

-- behind the segment at which it entered, it begins where the next one does
run_waits : (end : StepNumber) (i : ℕ) (segments : Stmt) (entry : Option ℕ) (ds : List Doing) → AreSegmentsEnded segments → is_at_most entry i ≡ true
    → waits end (run_on i segments entry ds) ≡ entry_of segments (waits end ds)
run_waits end i (Segment label body rest) entry ds ended h =
    ap (waits end) (run_here i label body rest entry ds h) ∙ ap (entry_of body) (run_waits end (suc i) rest entry ds ended (at_most_next entry i h))
run_waits end i s entry ds ended h = sym (ap (λ u. entry_of u (waits end ds)) ended)

-- with no segment to enter at, it begins behind the switch
run_none : (i : ℕ) (segments : Stmt) (ds : List Doing) → run_on i segments None ds ≡ ds
run_none i (Segment label body rest) ds = run_none (suc i) rest ds
run_none i s ds = refl

-- before that segment, and at it, where the segment begins that has its number
run_chosen : (end : StepNumber) (i : ℕ) (segments : Stmt) (m : ℕ) (ds : List Doing) → AreSegmentsEnded segments → i ≤ m
    → waits end (run_on i segments (Some m) ds) ≡ slice_index_or (entries_of segments (waits end ds)) (m - i) (waits end ds)
run_chosen end i (Segment label body rest) m ds ended h =
    let next = waits end ds in
    by_bool (nat_le m i)
    (λ e. run_waits end i (Segment label body rest) (Some m) ds ended e
    ∙ ap (λ q. slice_index_or (entries_of (Segment label body rest) next) q next) {x = 0} {y = m - i} (omega (arith, leb-true m i e)))
    (λ e. ap (waits end) (run_later i label body rest (Some m) ds e)
    ∙ run_chosen end (suc i) rest m ds ended (omega (arith, leb-false m i e))
    ∙ ap (λ q. slice_index_or (entries_of (Segment label body rest) next) q next) {x = suc (m - suc i)} {y = m - i} (omega (arith, leb-false m i e)))
run_chosen end i s m ds ended h = refl

run_enters : (end : StepNumber) (segments : Stmt) (entry : Option ℕ) (ds : List Doing) → AreSegmentsEnded segments
    → waits end (run_on 0 segments entry ds) ≡ chosen (entries_of segments (waits end ds)) (waits end ds) entry
run_enters end segments None ds ended = ap (waits end) (run_none 0 segments ds)
run_enters end segments (Some m) ds ended =
    run_chosen end 0 segments m ds ended (omega arith)
    ∙ ap (λ q. slice_index_or (entries_of segments (waits end ds)) q (waits end ds)) {x = m - 0} {y = m} (omega arith)

-- ---- where it leads

run_break : (end : StepNumber) (i : ℕ) (segments : Stmt) (entry : Option ℕ) (ds : List Doing) → after_break end (run_on i segments entry ds) ≡ after_break end ds
run_break end i (Segment label body rest) entry ds = by_bool (is_at_most entry i)
    (λ e. ap (after_break end) (run_here i label body rest entry ds e) ∙ run_break end (suc i) rest entry ds)
    (λ e. ap (after_break end) (run_later i label body rest entry ds e) ∙ run_break end (suc i) rest entry ds)
run_break end i s entry ds = refl

run_continue : (end : StepNumber) (i : ℕ) (segments : Stmt) (entry : Option ℕ) (ds : List Doing) → after_continue end (run_on i segments entry ds) ≡ after_continue end ds
run_continue end i (Segment label body rest) entry ds = by_bool (is_at_most entry i)
    (λ e. ap (after_continue end) (run_here i label body rest entry ds e) ∙ run_continue end (suc i) rest entry ds)
    (λ e. ap (after_continue end) (run_later i label body rest entry ds e) ∙ run_continue end (suc i) rest entry ds)
run_continue end i s entry ds = refl

-- the points do it
run_fits : (points : List Point) (back : Option StepNumber) (end : StepNumber) (i : ℕ) (segments : Stmt) (entry : Option ℕ) (ds : List Doing) → AreSegmentsEnded segments
    → AreSegmentsPlaced points segments (ways_before back end ds) → Fits points back end ds → Fits points back end (run_on i segments entry ds)
run_fits points back end i (Segment label body rest) entry ds ended p f =
    let after = run_on (suc i) rest entry ds in
    let more : Fits points back end after = run_fits points back end (suc i) rest entry ds ended p.1 f in
    by_bool (is_at_most entry i)
    (λ e.
    let next : entry_of rest (waits end ds) ≡ waits end after = sym (run_waits end (suc i) rest entry ds ended (at_most_next entry i e)) in
    let by_next : IsPlaced points body (record { next = waits end after; on_break = after_break end ds; on_continue = after_continue end ds; on_return = back }) =
    subst (λ n. IsPlaced points body (record { next = n; on_break = after_break end ds; on_continue = after_continue end ds; on_return = back })) next p.0 in
    let by_break : IsPlaced points body (record { next = waits end after; on_break = after_break end after; on_continue = after_continue end ds; on_return = back }) =
    subst (λ n. IsPlaced points body (record { next = waits end after; on_break = n; on_continue = after_continue end ds; on_return = back })) (sym (run_break end (suc i) rest entry ds)) by_next in
    let by_continue : IsPlaced points body (ways_before back end after) =
    subst (λ n. IsPlaced points body (record { next = waits end after; on_break = after_break end after; on_continue = n; on_return = back })) (sym (run_continue end (suc i) rest entry ds)) by_break in
    subst (Fits points back end) (sym (run_here i label body rest entry ds e)) (by_continue, more))
    (λ e. subst (Fits points back end) (sym (run_later i label body rest entry ds e)) more)
run_fits points back end i s entry ds ended p f = f

-- ---- the tasks together

switch_break : (k i : ℕ) (segments : Stmt) (S : Lanes) (entry : ℕ → Option ℕ) (ts : List Task) → in_first ends_break k (switch_tasks i segments S entry ts) ≡ has S k
switch_break k i (Segment label body rest) S entry ts = switch_break k (suc i) rest S entry ts
switch_break k i s S entry ts = refl

switch_turn : (k i : ℕ) (segments : Stmt) (S : Lanes) (entry : ℕ → Option ℕ) (ts : List Task) → in_first ends_turn k (switch_tasks i segments S entry ts) ≡ in_first ends_turn k ts
switch_turn k i (Segment label body rest) S entry ts = switch_turn k (suc i) rest S entry ts
switch_turn k i s S entry ts = refl

switch_nested : (i : ℕ) (segments : Stmt) (S : Lanes) (entry : ℕ → Option ℕ) (ts : List Task)
    → ((k : ℕ) → has S k ≡ true → (in_first ends_break k ts ≡ true) × (in_first ends_turn k ts ≡ true)) → AreNested ts → AreNested (switch_tasks i segments S entry ts)
switch_nested i (Segment label body rest) S entry ts h nested = (
  (λ k inside. let lane = in_whole S (λ j. is_at_most (entry j) i) k inside in
      (switch_break k (suc i) rest S entry ts ∙ lane, switch_turn k (suc i) rest S entry ts ∙ (h k lane).1)),
  switch_nested (suc i) rest S entry ts h nested,
)
switch_nested i s S entry ts h nested = (h, nested)

switch_order : (segments : Stmt) (S : Lanes) (entry : ℕ → Option ℕ) (ts : List Task) (n end : ℕ) → IsNumbered n segments → InOrder (n + steps_of segments) ts end
    → InOrder 0 (switch_tasks 0 segments S entry ts) end
switch_order segments S entry ts n end h o =
    let past = n + steps_of segments in
    let all = segment_tasks 0 segments S entry in
    sooner n 0 (switch_tasks 0 segments S entry ts) end (omega arith)
    (joined n (all ++ task SwitchEnd S ∷ []) past ts end (joined n all past (task SwitchEnd S ∷ []) past (segments_in 0 segments S entry n h) (past, omega arith, tt, omega arith)) o)

choose_next : (o : Option Point) (e : Expr) (segments : Stmt) (entries entries' : List StepNumber) (n m : StepNumber)
    → o ≡ Some (Choose e segments entries n) → o ≡ Some (Choose e segments entries' m) → n ≡ m
choose_next o e segments entries entries' n m p q = cc

-- the lanes of a switch wait for the segment at which they enter, or for what follows the switch
pub switch_stands : (points : List Point) (w : ℕ) (back : Option StepNumber) (level : Level) (S : Lanes) (ts : List Task) (number : StepNumber) (e : Expr) (segments : Stmt)
    → TasksStand points w back level (task (Run (Switch number e segments)) S ∷ ts) → length S ≡ w → (k : ℕ) → has S k ≡ true → (x : List ℕ)
    → let next = waits level.end (own k ts) in
    HasPoint points number (Choose e segments (entries_of segments next) next)
    × TasksStand points w back (sent_in S (λ j. chosen (entries_of segments next) next (segment_of segments (at x j))) level)
    ((segment_tasks 0 segments S (λ j. or_default (labelled 0 segments (at x j)) (default_of 0 segments)) ++ task SwitchEnd S ∷ []) ++ ts)
switch_stands points w back level S ts number e segments s sized k h x =
    let t = task (Run (Switch number e segments)) S in
    let entry : ℕ → Option ℕ = λ j. or_default (labelled 0 segments (at x j)) (default_of 0 segments) in
    let new = switch_tasks 0 segments S entry ts in
    let end = level.end in
    let next = waits end (own k ts) in
    let here = λ (j : ℕ) (i : has S j ≡ true). fits_first points w back end j t ts (s.fits j) i in
    let g : (j : ℕ) → has S j ≡ true → HasPoint points number (Choose e segments (entries_of segments (waits end (own j ts))) (waits end (own j ts))) = λ j i. (here j i).0.0 in
    let ended : AreSegmentsEnded segments = placed_ended points segments _ (here k h).0.1 in
    let o = s.order in (
      g k h,
      replaced points w back level t ts new (λ j. chosen (entries_of segments next) next (entry j)) s sized
          (λ j i. ap (λ q. chosen (entries_of segments q) q (entry j)) (choose_next (slice_get points number) e segments _ _ _ _ (g k h) (g j i))
          ∙ sym (run_enters end segments (entry j) (SwitchEnd ∷ own j ts) ended)
          ∙ sym (ap (waits end) (own_inside j 0 segments S entry ts i)))
          (λ j i. sym (ap (waits end) (own_without j 0 segments S entry ts i)))
          (λ j. by_bool (has S j)
          (λ i. subst (Fits points back end) (sym (own_inside j 0 segments S entry ts i))
          (run_fits points back end 0 segments (entry j) (SwitchEnd ∷ own j ts) ended (here j i).0.1 (tt, (here j i).1)))
          (λ i. subst (Fits points back end) (sym (own_without j 0 segments S entry ts i)) (fits_rest points w back end j t ts (s.fits j))))
          (switch_order segments S entry ts (o.0 + 1) end o.2.1 (sooner (o.0 + (1 + steps_of segments)) (o.0 + 1 + steps_of segments) ts end (omega arith) o.3))
          (switch_nested 0 segments S entry ts s.nested.0 s.nested.1),
    )
