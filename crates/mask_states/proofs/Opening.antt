-- A statement is opened as far as its first step: what each lane waits for then, and what holds of the tasks.
use Rattle.std.proofs.Common.{◌≡◌, refl, sym, ap, ◌∙◌, subst, ℕ, true, false, List, [], ◌∷◌, ◌++◌, Option}
use Rattle.std.proofs.lemmas.List.{append_assoc}
use Rattle.gang_types.specs.Lanes.{Lanes, has, no_lane}
use Rattle.gang_model.specs.Types.Tree.{StepNumber, Expr, Stmt, Empty, Then, Loop, BodyFirst, Segment}
use Rattle.gang_model.specs.Running.State.{Run, LoopTest, LoopUpdate, Task}
use Rattle.gang_model.specs.Running.Step.{task, opened_before, opened, ends_break, ends_turn}
use Rattle.mask_states.specs.Points.{Point, Ways, entry_of}
use Rattle.mask_states.specs.Placed.{IsPlaced}
use Rattle.mask_states.specs.Stands.{own, waits, ways_before, DoingFits, Fits, in_first, AreNested, BeginsWithStep}
use Rattle.mask_states.proofs.OwnTasks.{by_bool, own_here, own_away}

-- ---- tasks before others

-- to put tasks before others that stand before others is to put them before all of these
pub opened_before_all : (xs next rest raw done : List Task) → opened_before (opened_before xs next rest) raw done ≡ opened_before xs (next ++ raw) (opened_before rest raw done)
opened_before_all [] next rest raw done = refl
opened_before_all (t ∷ xs) next rest raw done = append_assoc (t ∷ xs) next raw

-- so it is for a list of statements, and for a loop whose body comes first
pub opened_then : (first rest : Stmt) (lanes : Lanes) (raw done : List Task)
    → opened_before (opened (Then first rest) lanes) raw done ≡ opened_before (opened first lanes) (task (Run rest) lanes ∷ raw) (opened_before (opened rest lanes) raw done)
opened_then first rest lanes raw done = opened_before_all (opened first lanes) (task (Run rest) lanes ∷ []) (opened rest lanes) raw done

pub opened_body : (number : StepNumber) (test : Expr) (body : Stmt) (lanes : Lanes) (raw done : List Task)
    → opened_before (opened (BodyFirst number test body) lanes) raw done
    ≡ opened_before (opened body lanes) (task (LoopUpdate Empty) lanes ∷ task (LoopTest number test Empty body) lanes ∷ raw) (task (LoopTest number test Empty body) lanes ∷ raw)
opened_body number test body lanes raw done =
    opened_before_all (opened body lanes) (task (LoopUpdate Empty) lanes ∷ task (LoopTest number test Empty body) lanes ∷ []) (task (LoopTest number test Empty body) lanes ∷ []) raw done

-- ---- numbers

module _ (end : StepNumber) (k : ℕ) (lanes : Lanes) where
  -- a lane of the set waits for the statement's first step
  pub opened_waits_in : has lanes k ≡ true → (s : Stmt) (raw done : List Task) → waits end (own k done) ≡ waits end (own k raw)
      → waits end (own k (opened_before (opened s lanes) raw done)) ≡ entry_of s (waits end (own k raw))
  opened_waits_in h Empty raw done e = e
  opened_waits_in h (Then first rest) raw done e =
      let here : waits end (own k (task (Run rest) lanes ∷ raw)) ≡ entry_of rest (waits end (own k raw)) = ap (waits end) (own_here k (task (Run rest) lanes) raw h) in
      ap (λ ts. waits end (own k ts)) (opened_then first rest lanes raw done)
      ∙ opened_waits_in h first (task (Run rest) lanes ∷ raw) (opened_before (opened rest lanes) raw done) (opened_waits_in h rest raw done e ∙ sym here)
      ∙ ap (entry_of first) here
  opened_waits_in h (Loop number test update body) raw done e = ap (waits end) (own_here k (task (LoopTest number test update body) lanes) raw h)
  opened_waits_in h (BodyFirst number test body) raw done e =
      let last : Task = task (LoopTest number test Empty body) lanes in
      let here : waits end (own k (task (LoopUpdate Empty) lanes ∷ last ∷ raw)) ≡ waits end (own k (last ∷ raw)) = ap (waits end) (own_here k (task (LoopUpdate Empty) lanes) (last ∷ raw) h) in
      let there : waits end (own k (last ∷ raw)) ≡ number = ap (waits end) (own_here k last raw h) in
      ap (λ ts. waits end (own k ts)) (opened_body number test body lanes raw done)
      ∙ opened_waits_in h body (task (LoopUpdate Empty) lanes ∷ last ∷ raw) (last ∷ raw) (sym here)
      ∙ ap (entry_of body) (here ∙ there)
  opened_waits_in h s raw done e = ap (waits end) (own_here k (task (Run s) lanes) raw h)

  -- another one waits for what it waited for
  pub opened_waits_out : has lanes k ≡ false → (s : Stmt) (raw done : List Task) → waits end (own k done) ≡ waits end (own k raw)
      → waits end (own k (opened_before (opened s lanes) raw done)) ≡ waits end (own k raw)
  opened_waits_out h Empty raw done e = e
  opened_waits_out h (Then first rest) raw done e =
      let here : waits end (own k (task (Run rest) lanes ∷ raw)) ≡ waits end (own k raw) = ap (waits end) (own_away k (task (Run rest) lanes) raw h) in
      ap (λ ts. waits end (own k ts)) (opened_then first rest lanes raw done)
      ∙ opened_waits_out h first (task (Run rest) lanes ∷ raw) (opened_before (opened rest lanes) raw done) (opened_waits_out h rest raw done e ∙ sym here)
      ∙ here
  opened_waits_out h (Loop number test update body) raw done e = ap (waits end) (own_away k (task (LoopTest number test update body) lanes) raw h)
  opened_waits_out h (BodyFirst number test body) raw done e =
      let last : Task = task (LoopTest number test Empty body) lanes in
      let here : waits end (own k (task (LoopUpdate Empty) lanes ∷ last ∷ raw)) ≡ waits end (own k (last ∷ raw)) = ap (waits end) (own_away k (task (LoopUpdate Empty) lanes) (last ∷ raw) h) in
      ap (λ ts. waits end (own k ts)) (opened_body number test body lanes raw done)
      ∙ opened_waits_out h body (task (LoopUpdate Empty) lanes ∷ last ∷ raw) (last ∷ raw) (sym here)
      ∙ here ∙ ap (waits end) (own_away k last raw h)
  opened_waits_out h s raw done e = ap (waits end) (own_away k (task (Run s) lanes) raw h)

-- ---- points

module _ (points : List Point) (back : Option StepNumber) (end : StepNumber) where
  -- a task is put before others
  pub fits_before : (k : ℕ) (t : Task) (ts : List Task) → (has t.lanes k ≡ true → DoingFits points t.doing (ways_before back end (own k ts))) → Fits points back end (own k ts)
      → Fits points back end (own k (t ∷ ts))
  fits_before k t ts d f = by_bool (has t.lanes k)
      (λ h. subst (Fits points back end) (sym (own_here k t ts h)) (d h, f))
      (λ h. subst (Fits points back end) (sym (own_away k t ts h)) f)

  -- the points do the opened statement
  pub opened_fits : (k : ℕ) (lanes : Lanes) (s : Stmt) (raw done : List Task) → (has lanes k ≡ true → IsPlaced points s (ways_before back end (own k raw)))
      → Fits points back end (own k raw) → Fits points back end (own k done) → Fits points back end (own k (opened_before (opened s lanes) raw done))
  opened_fits k lanes Empty raw done p f d = d
  opened_fits k lanes (Then first rest) raw done p f d =
      let second : Task = task (Run rest) lanes in
      subst (λ ts. Fits points back end (own k ts)) (sym (opened_then first rest lanes raw done))
      (opened_fits k lanes first (second ∷ raw) (opened_before (opened rest lanes) raw done)
      (λ h. subst (λ ds. IsPlaced points first (ways_before back end ds)) (sym (own_here k second raw h)) (p h).0)
      (fits_before k second raw (λ h. (p h).1) f)
      (opened_fits k lanes rest raw done (λ h. (p h).1) f d))
  opened_fits k lanes (Loop number test update body) raw done p f d = fits_before k (task (LoopTest number test update body) lanes) raw p f
  opened_fits k lanes (BodyFirst number test body) raw done p f d =
      let last : Task = task (LoopTest number test Empty body) lanes in
      let between : Task = task (LoopUpdate Empty) lanes in
      let fits_last : Fits points back end (own k (last ∷ raw)) = fits_before k last raw (λ h. ((p h).0, tt, (p h).1)) f in
      let two : has lanes k ≡ true → LoopUpdate Empty ∷ LoopTest number test Empty body ∷ own k raw ≡ own k (between ∷ last ∷ raw)
      = λ h. sym (own_here k between (last ∷ raw) h ∙ ap (λ ds. LoopUpdate Empty ∷ ds) (own_here k last raw h)) in
      subst (λ ts. Fits points back end (own k ts)) (sym (opened_body number test body lanes raw done))
      (opened_fits k lanes body (between ∷ last ∷ raw) (last ∷ raw)
      (λ h. subst (λ ds. IsPlaced points body (ways_before back end ds)) (two h) (p h).0)
      (fits_before k between (last ∷ raw) (λ h. tt) fits_last)
      fits_last)
  opened_fits k lanes s raw done p f d = fits_before k (task (Run s) lanes) raw p f

-- ---- nesting

-- each lane of the set is inside of what the tasks stand in
abbrev pub AllInside : Lanes → List Task → Type 0
AllInside lanes ts = (k : ℕ) → has lanes k ≡ true → (in_first ends_break k ts ≡ true) × (in_first ends_turn k ts ≡ true)

pub opened_nested : (lanes : Lanes) (s : Stmt) (raw done : List Task) → AllInside lanes raw → AreNested raw → AreNested done → AreNested (opened_before (opened s lanes) raw done)
opened_nested lanes Empty raw done p r d = d
opened_nested lanes (Then first rest) raw done p r d =
    subst AreNested (sym (opened_then first rest lanes raw done))
    (opened_nested lanes first (task (Run rest) lanes ∷ raw) (opened_before (opened rest lanes) raw done) p (p, r) (opened_nested lanes rest raw done p r d))
opened_nested lanes (Loop number test update body) raw done p r d = (p, r)
opened_nested lanes (BodyFirst number test body) raw done p r d =
    subst AreNested (sym (opened_body number test body lanes raw done))
    (opened_nested lanes body (task (LoopUpdate Empty) lanes ∷ task (LoopTest number test Empty body) lanes ∷ raw) (task (LoopTest number test Empty body) lanes ∷ raw)
    (λ k h. (h, h)) ((λ k h. (h, (p k h).1)), (p, r)) (p, r))
opened_nested lanes s raw done p r d = (p, r)

-- ---- the first task

-- the first task is a step of some lane, if the statement has points: it is no segment of a switch
pub opened_begins : (points : List Point) (lanes : Lanes) → no_lane lanes ≡ false → (s : Stmt) (ways : Ways) (raw done : List Task) → IsPlaced points s ways → BeginsWithStep done
    → BeginsWithStep (opened_before (opened s lanes) raw done)
opened_begins points lanes some Empty ways raw done p d = d
opened_begins points lanes some (Then first rest) ways raw done p d =
    subst BeginsWithStep (sym (opened_then first rest lanes raw done))
    (opened_begins points lanes some first _ (task (Run rest) lanes ∷ raw) (opened_before (opened rest lanes) raw done) p.0 (opened_begins points lanes some rest ways raw done p.1 d))
opened_begins points lanes some (Loop number test update body) ways raw done p d = (some, tt)
opened_begins points lanes some (BodyFirst number test body) ways raw done p d =
    subst BeginsWithStep (sym (opened_body number test body lanes raw done))
    (opened_begins points lanes some body _ (task (LoopUpdate Empty) lanes ∷ task (LoopTest number test Empty body) lanes ∷ raw) (task (LoopTest number test Empty body) lanes ∷ raw) p.0 (some, tt))
opened_begins points lanes some (Segment label body rest) ways raw done p d = absurd p
opened_begins points lanes some s ways raw done p d = (some, tt)
