-- Lanes that leave tasks.
use Rattle.std.proofs.Common.{◌≡◌, refl, sym, ap, ◌∙◌, subst, ℕ, Bool, true, false, List, [], ◌∷◌}
use Rattle.std.specs.Prelude.{if◌then◌else◌, not, map, ◌&&◌}
use Rattle.gang_types.specs.declared.types.Rate.{Rate}
use Rattle.gang_types.specs.Lanes.{Lanes, has, without}
use Rattle.gang_types.specs.LaneLaws.{has-without}
use Rattle.gang_model.specs.Types.Tree.{Program}
use Rattle.gang_model.specs.Running.State.{Doing, Task}
use Rattle.gang_model.specs.Running.Step.{leaves_task, ends_break, ends_turn, broken, continued}
use Rattle.lane_alone.specs.Fits.{Locals, Family, FitsDoing}
use Rattle.lane_alone.specs.OwnTasks.{own, after_first, from_first, AllLanes, first_has, Inside, Nested, Chain}
use Rattle.lane_alone.proofs.TaskLists.{by_bool, not_both, own_here, own_away}

module _ (k : ℕ) (lanes : Lanes) where
  left_out : has lanes k ≡ true → (t : Task) → has (leaves_task lanes t).lanes k ≡ false
  left_out h t = has-without t.lanes lanes k ∙ ap (λ b. has t.lanes k && not b) h ∙ none (has t.lanes k)
    where
      none : (a : Bool) → (a && false) ≡ false
      none true = refl
      none false = refl

  left_in : has lanes k ≡ false → (t : Task) → has (leaves_task lanes t).lanes k ≡ has t.lanes k
  left_in h t = has-without t.lanes lanes k ∙ ap (λ b. has t.lanes k && not b) h ∙ same (has t.lanes k)
    where
      same : (a : Bool) → (a && true) ≡ a
      same true = refl
      same false = refl

  pub fewer : (t : Task) → has (leaves_task lanes t).lanes k ≡ true → has t.lanes k ≡ true
  fewer t h = by_bool (has lanes k) (λ m. not_both h (left_out m t)) (λ m. sym (left_in m t) ∙ h)

  -- ---- what the lane has to do

  own_out : has lanes k ≡ true → (t : Task) (us : List Task) → own k (leaves_task lanes t ∷ us) ≡ own k us
  own_out h t us = own_away k (leaves_task lanes t) us (left_out h t)

  own_in : has lanes k ≡ false → (t : Task) (us ts : List Task) → own k us ≡ own k ts → own k (leaves_task lanes t ∷ us) ≡ own k (t ∷ ts)
  own_in h t us ts e = ap (λ b. if b then t.doing ∷ own k us else own k us) (left_in h t) ∙ ap (λ ds. if has t.lanes k then t.doing ∷ ds else ds) e

  pub own_left : has lanes k ≡ true → (ts : List Task) → own k (map (leaves_task lanes) ts) ≡ []
  own_left h [] = refl
  own_left h (t ∷ ts) = own_out h t (map (leaves_task lanes) ts) ∙ own_left h ts

  pub own_stays : has lanes k ≡ false → (ts : List Task) → own k (map (leaves_task lanes) ts) ≡ own k ts
  own_stays h [] = refl
  own_stays h (t ∷ ts) = own_in h t (map (leaves_task lanes) ts) ts (own_stays h ts)

  pub broken_stays : has lanes k ≡ false → (ts : List Task) → own k (broken lanes ts) ≡ own k ts
  broken_stays h [] = refl
  broken_stays h (t ∷ ts) = own_in h t (if ends_break t.doing then ts else broken lanes ts) ts (by_bool (ends_break t.doing)
      (λ e. ap (λ b. own k (if b then ts else broken lanes ts)) e)
      (λ e. ap (λ b. own k (if b then ts else broken lanes ts)) e ∙ broken_stays h ts))

  pub continued_stays : has lanes k ≡ false → (ts : List Task) → own k (continued lanes ts) ≡ own k ts
  continued_stays h [] = refl
  continued_stays h (t ∷ ts) = by_bool (ends_turn t.doing)
      (λ e. ap (λ b. own k (if b then t ∷ ts else leaves_task lanes t ∷ continued lanes ts)) e)
      (λ e. ap (λ b. own k (if b then t ∷ ts else leaves_task lanes t ∷ continued lanes ts)) e ∙ own_in h t (continued lanes ts) ts (continued_stays h ts))

  -- a task of the lane, by the test on what it does
  past_first : (test : Doing → Bool) (d : Doing) (ds : List Doing) → test d ≡ false → after_first test (d ∷ ds) ≡ after_first test ds
  past_first test d ds e = ap (λ b. if b then ds else after_first test ds) e

  pub broken_leaves : has lanes k ≡ true → (ts : List Task) → first_has ends_break k ts ≡ true → own k (broken lanes ts) ≡ after_first ends_break (own k ts)
  broken_leaves h [] f = refl
  broken_leaves h (t ∷ ts) f = own_out h t (if ends_break t.doing then ts else broken lanes ts) ∙ by_bool (ends_break t.doing)
      (λ e.
      let m : has t.lanes k ≡ true = sym (ap (λ b. if b then has t.lanes k else first_has ends_break k ts) e) ∙ f in
      ap (λ b. own k (if b then ts else broken lanes ts)) e
      ∙ sym (ap (after_first ends_break) (own_here k t ts m) ∙ ap (λ b. if b then own k ts else after_first ends_break (own k ts)) e))
      (λ e.
      let g : first_has ends_break k ts ≡ true = sym (ap (λ b. if b then has t.lanes k else first_has ends_break k ts) e) ∙ f in
      ap (λ b. own k (if b then ts else broken lanes ts)) e ∙ broken_leaves h ts g ∙ sym (by_bool (has t.lanes k)
      (λ m. ap (after_first ends_break) (own_here k t ts m) ∙ past_first ends_break t.doing (own k ts) e)
      (λ m. ap (after_first ends_break) (own_away k t ts m))))

  pub continued_leaves : has lanes k ≡ true → (ts : List Task) → first_has ends_turn k ts ≡ true → own k (continued lanes ts) ≡ from_first ends_turn (own k ts)
  continued_leaves h [] f = refl
  continued_leaves h (t ∷ ts) f = by_bool (ends_turn t.doing)
      (λ e.
      let m : has t.lanes k ≡ true = sym (ap (λ b. if b then has t.lanes k else first_has ends_turn k ts) e) ∙ f in
      ap (λ b. own k (if b then t ∷ ts else leaves_task lanes t ∷ continued lanes ts)) e ∙ own_here k t ts m
      ∙ sym (ap (from_first ends_turn) (own_here k t ts m) ∙ ap (λ b. if b then t.doing ∷ own k ts else from_first ends_turn (own k ts)) e))
      (λ e.
      let g : first_has ends_turn k ts ≡ true = sym (ap (λ b. if b then has t.lanes k else first_has ends_turn k ts) e) ∙ f in
      ap (λ b. own k (if b then t ∷ ts else leaves_task lanes t ∷ continued lanes ts)) e ∙ own_out h t (continued lanes ts) ∙ continued_leaves h ts g ∙ sym (by_bool (has t.lanes k)
      (λ m. ap (from_first ends_turn) (own_here k t ts m) ∙ ap (λ b. if b then t.doing ∷ own k ts else from_first ends_turn (own k ts)) e)
      (λ m. ap (from_first ends_turn) (own_away k t ts m))))

  -- ---- the same tasks with fewer lanes

  pub Shrinks : List Task → List Task → Type 0
  Shrinks [] [] = Unit {0}
  Shrinks [] (u ∷ us) = ⊥
  Shrinks (t ∷ ts) [] = ⊥
  Shrinks (t ∷ ts) (u ∷ us) = (t.doing ≡ u.doing) × (has u.lanes k ≡ true → has t.lanes k ≡ true) × Shrinks ts us

  shrinks_same : (ts : List Task) → Shrinks ts ts
  unfolding Shrinks
  shrinks_same [] = tt
  shrinks_same (t ∷ ts) = (refl, (λ h. h), shrinks_same ts)

  pub shrinks_left : (ts : List Task) → Shrinks ts (map (leaves_task lanes) ts)
  unfolding Shrinks
  shrinks_left [] = tt
  shrinks_left (t ∷ ts) = (refl, fewer t, shrinks_left ts)

  shrinks_if : (b : Bool) (ts us vs : List Task) → Shrinks ts us → Shrinks ts vs → Shrinks ts (if b then us else vs)
  shrinks_if true ts us vs a c = a
  shrinks_if false ts us vs a c = c

  pub shrinks_broken : (ts : List Task) → Shrinks ts (broken lanes ts)
  unfolding Shrinks
  shrinks_broken [] = tt
  shrinks_broken (t ∷ ts) = (refl, fewer t, shrinks_if (ends_break t.doing) ts ts (broken lanes ts) (shrinks_same ts) (shrinks_broken ts))

  pub shrinks_continued : (ts : List Task) → Shrinks ts (continued lanes ts)
  unfolding Shrinks
  shrinks_continued [] = tt
  shrinks_continued (t ∷ ts) = shrinks_if (ends_turn t.doing) (t ∷ ts) (t ∷ ts) (leaves_task lanes t ∷ continued lanes ts) (shrinks_same (t ∷ ts)) (refl, fewer t, shrinks_continued ts)

  pub chain_shrinks : (p : Program) (family : Family) (own_rate : Rate) (alike : ℕ → Type 0) (bound : Locals) (ts us : List Task) → Shrinks ts us
      → Chain p family own_rate k alike bound ts → Chain p family own_rate k alike bound us
  unfolding Shrinks
  chain_shrinks p family own_rate alike bound [] [] s c = tt
  chain_shrinks p family own_rate alike bound [] (u ∷ us) s c = absurd s
  chain_shrinks p family own_rate alike bound (t ∷ ts) [] s c = absurd s
  chain_shrinks p family own_rate alike bound (t ∷ ts) (u ∷ us) s c =
      (c.0, c.1, subst (FitsDoing p family own_rate c.0) s.0 c.2, (λ h. c.3 (s.1 h)), chain_shrinks p family own_rate alike c.0 ts us s.2 c.4)

  -- ---- nesting

  first_if : (test : Doing → Bool) (b : Bool) (ts us vs : List Task) → first_has test k us ≡ first_has test k ts → first_has test k vs ≡ first_has test k ts → first_has test k (if b then us else vs) ≡ first_has test k ts
  first_if test true ts us vs a c = a
  first_if test false ts us vs a c = c

  first_in : has lanes k ≡ false → (test : Doing → Bool) (t : Task) (us ts : List Task) → first_has test k us ≡ first_has test k ts → first_has test k (leaves_task lanes t ∷ us) ≡ first_has test k (t ∷ ts)
  first_in h test t us ts e = ap (λ b. if test t.doing then b else first_has test k us) (left_in h t) ∙ ap (λ b. if test t.doing then has t.lanes k else b) e

  first_left : has lanes k ≡ false → (test : Doing → Bool) (ts : List Task) → first_has test k (map (leaves_task lanes) ts) ≡ first_has test k ts
  first_left h test [] = refl
  first_left h test (t ∷ ts) = first_in h test t (map (leaves_task lanes) ts) ts (first_left h test ts)

  first_broken : has lanes k ≡ false → (test : Doing → Bool) (ts : List Task) → first_has test k (broken lanes ts) ≡ first_has test k ts
  first_broken h test [] = refl
  first_broken h test (t ∷ ts) = first_in h test t (if ends_break t.doing then ts else broken lanes ts) ts (first_if test (ends_break t.doing) ts ts (broken lanes ts) refl (first_broken h test ts))

  first_continued : has lanes k ≡ false → (test : Doing → Bool) (ts : List Task) → first_has test k (continued lanes ts) ≡ first_has test k ts
  first_continued h test [] = refl
  first_continued h test (t ∷ ts) = first_if test (ends_turn t.doing) (t ∷ ts) (t ∷ ts) (leaves_task lanes t ∷ continued lanes ts) refl (first_in h test t (continued lanes ts) ts (first_continued h test ts))

  nested_if : (b : Bool) (us vs : List Task) → Nested k us → Nested k vs → Nested k (if b then us else vs)
  nested_if true us vs a c = a
  nested_if false us vs a c = c

  -- a task whose lanes leave, before others
  nested_one : (t : Task) (ts us : List Task) → (has lanes k ≡ false → (test : Doing → Bool) → first_has test k us ≡ first_has test k ts) → (has t.lanes k ≡ true → Inside k ts) → Nested k us → Nested k (leaves_task lanes t ∷ us)
  nested_one t ts us same inside n = (
    (λ h. by_bool (has lanes k)
        (λ m. not_both h (left_out m t))
        (λ m. let i : Inside k ts = inside (fewer t h) in (same m ends_break ∙ i.0, same m ends_turn ∙ i.1))),
    n,
  )

  pub nested_left : (ts : List Task) → Nested k ts → Nested k (map (leaves_task lanes) ts)
  nested_left [] n = tt
  nested_left (t ∷ ts) n = nested_one t ts (map (leaves_task lanes) ts) (λ m test. first_left m test ts) n.0 (nested_left ts n.1)

  pub nested_broken : (ts : List Task) → Nested k ts → Nested k (broken lanes ts)
  nested_broken [] n = tt
  nested_broken (t ∷ ts) n = nested_one t ts (if ends_break t.doing then ts else broken lanes ts)
      (λ m test. first_if test (ends_break t.doing) ts ts (broken lanes ts) refl (first_broken m test ts)) n.0 (nested_if (ends_break t.doing) ts (broken lanes ts) n.1 (nested_broken ts n.1))

  pub nested_continued : (ts : List Task) → Nested k ts → Nested k (continued lanes ts)
  nested_continued [] n = tt
  nested_continued (t ∷ ts) n = nested_if (ends_turn t.doing) (t ∷ ts) (leaves_task lanes t ∷ continued lanes ts) n
      (nested_one t ts (continued lanes ts) (λ m test. first_continued m test ts) n.0 (nested_continued ts n.1))

-- ---- properties of sets of lanes that smaller sets have too

module _ (Q : Lanes → Type 0) (smaller : (lanes out : Lanes) → Q lanes → Q (without lanes out)) (lanes : Lanes) where
  all_if : (b : Bool) (us vs : List Task) → AllLanes Q us → AllLanes Q vs → AllLanes Q (if b then us else vs)
  all_if true us vs a c = a
  all_if false us vs a c = c

  pub all_left : (ts : List Task) → AllLanes Q ts → AllLanes Q (map (leaves_task lanes) ts)
  all_left [] a = tt
  all_left (t ∷ ts) a = (smaller t.lanes lanes a.0, all_left ts a.1)

  pub all_broken : (ts : List Task) → AllLanes Q ts → AllLanes Q (broken lanes ts)
  all_broken [] a = tt
  all_broken (t ∷ ts) a = (smaller t.lanes lanes a.0, all_if (ends_break t.doing) ts (broken lanes ts) a.1 (all_broken ts a.1))

  pub all_continued : (ts : List Task) → AllLanes Q ts → AllLanes Q (continued lanes ts)
  all_continued [] a = tt
  all_continued (t ∷ ts) a = all_if (ends_turn t.doing) (t ∷ ts) (leaves_task lanes t ∷ continued lanes ts) a (smaller t.lanes lanes a.0, all_continued ts a.1)
