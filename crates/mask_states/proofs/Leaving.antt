-- Lanes that leave by `break`, `continue` and `return`: what they have still to do, and that the others have what they had.
use Rattle.std.proofs.Common.{◌≡◌, refl, sym, ap, ◌∙◌, subst, ℕ, Bool, true, false, List, [], ◌∷◌, ◌++◌, Option, Some}
use Rattle.std.specs.Prelude.{not, ◌&&◌, map, if◌then◌else◌}
use Rattle.gang_types.specs.Lanes.{Lanes, has, without}
use Rattle.gang_types.specs.LaneLaws.{has-without}
use Rattle.gang_model.specs.Types.Tree.{StepNumber}
use Rattle.gang_model.specs.Running.State.{Doing, Task}
use Rattle.gang_model.specs.Running.Step.{leaves_task, ends_break, ends_turn, broken, continued}
use Rattle.mask_states.specs.Points.{Point}
use Rattle.mask_states.specs.Stands.{own, waits, after_break, after_continue, Fits, in_first, AreNested}
use Rattle.mask_states.proofs.OwnTasks.{by_bool, own_here, own_away}
use Rattle.mask_states.proofs.Replaced.{fits_rest}
use Rattle.std.proofs.lemmas.Option.{same_Some, none-some}

-- ---- one task

-- tests, and numbers that may be missing
and_not_false : (b : Bool) → (b && not false) ≡ b
and_not_false true = refl
and_not_false false = refl

and_not_true : (b : Bool) → (b && not true) ≡ false
and_not_true true = refl
and_not_true false = refl

both_of : (a b : Bool) → (a && not b) ≡ true → (a ≡ true) × (b ≡ false)
both_of true true h = absurd cc
both_of true false h = (refl, refl)
both_of false b h = absurd cc

-- a lane outside the set that leaves is where it was; one of that set is not left; one that is left was there and does not leave
pub has_stays : (lanes out : Lanes) (k : ℕ) → has out k ≡ false → has (without lanes out) k ≡ has lanes k
has_stays lanes out k h = has-without lanes out k ∙ ap (λ b. has lanes k && not b) h ∙ and_not_false (has lanes k)

pub has_left : (lanes out : Lanes) (k : ℕ) → has out k ≡ true → has (without lanes out) k ≡ false
has_left lanes out k h = has-without lanes out k ∙ ap (λ b. has lanes k && not b) h ∙ and_not_true (has lanes k)

pub was_there : (lanes out : Lanes) (k : ℕ) → has (without lanes out) k ≡ true → (has lanes k ≡ true) × (has out k ≡ false)
was_there lanes out k h = both_of (has lanes k) (has out k) (sym (has-without lanes out k) ∙ h)

-- what a lane has of a task that lanes leave, and of the tasks after it
pub own_stays : (k : ℕ) (lanes : Lanes) (t : Task) (ts new : List Task) → has lanes k ≡ false → own k new ≡ own k ts
    → own k (leaves_task lanes t ∷ new) ≡ own k (t ∷ ts)
own_stays k lanes t ts new h e =
    ap (λ b. if b then t.doing ∷ own k new else own k new) (has_stays t.lanes lanes k h) ∙ ap (λ ds. if has t.lanes k then t.doing ∷ ds else ds) e

pub own_left : (k : ℕ) (lanes : Lanes) (t : Task) (ts : List Task) → has lanes k ≡ true → own k (leaves_task lanes t ∷ ts) ≡ own k ts
own_left k lanes t ts h = own_away k (leaves_task lanes t) ts (has_left t.lanes lanes k h)

-- ---- the tasks up to one of a kind

-- the first task is the last one that is left, or is not; where a `continue` goes on no task is left
pub broken_last : (lanes : Lanes) (t : Task) (ts : List Task) → ends_break t.doing ≡ true → broken lanes (t ∷ ts) ≡ leaves_task lanes t ∷ ts
broken_last lanes t ts e = ap (λ b. leaves_task lanes t ∷ (if b then ts else broken lanes ts)) e

pub broken_past : (lanes : Lanes) (t : Task) (ts : List Task) → ends_break t.doing ≡ false
    → broken lanes (t ∷ ts) ≡ leaves_task lanes t ∷ broken lanes ts
broken_past lanes t ts e = ap (λ b. leaves_task lanes t ∷ (if b then ts else broken lanes ts)) e

pub continued_last : (lanes : Lanes) (t : Task) (ts : List Task) → ends_turn t.doing ≡ true → continued lanes (t ∷ ts) ≡ t ∷ ts
continued_last lanes t ts e = ap (λ b. if b then t ∷ ts else leaves_task lanes t ∷ continued lanes ts) e

pub continued_past : (lanes : Lanes) (t : Task) (ts : List Task) → ends_turn t.doing ≡ false
    → continued lanes (t ∷ ts) ≡ leaves_task lanes t ∷ continued lanes ts
continued_past lanes t ts e = ap (λ b. if b then t ∷ ts else leaves_task lanes t ∷ continued lanes ts) e

-- the first task of a kind is the first of all, or a later one
pub first_here : (kind : Doing → Bool) (k : ℕ) (t : Task) (ts : List Task) → kind t.doing ≡ true → in_first kind k (t ∷ ts) ≡ has t.lanes k
first_here kind k t ts e = ap (λ b. if b then has t.lanes k else in_first kind k ts) e

pub first_later : (kind : Doing → Bool) (k : ℕ) (t : Task) (ts : List Task) → kind t.doing ≡ false → in_first kind k (t ∷ ts) ≡ in_first kind k ts
first_later kind k t ts e = ap (λ b. if b then has t.lanes k else in_first kind k ts) e

-- where a `break` or `continue` goes on, by the first task
pub after_break_here : (end : StepNumber) (k : ℕ) (t : Task) (ts : List Task) → has t.lanes k ≡ true → ends_break t.doing ≡ true
    → after_break end (own k (t ∷ ts)) ≡ Some (waits end (own k ts))
after_break_here end k t ts h e =
    ap (after_break end) (own_here k t ts h) ∙ ap (λ b. if b then Some (waits end (own k ts)) else after_break end (own k ts)) e

pub after_break_later : (end : StepNumber) (k : ℕ) (t : Task) (ts : List Task) → ends_break t.doing ≡ false
    → after_break end (own k (t ∷ ts)) ≡ after_break end (own k ts)
after_break_later end k t ts e = by_bool (has t.lanes k)
    (λ h. ap (after_break end) (own_here k t ts h) ∙ ap (λ b. if b then Some (waits end (own k ts)) else after_break end (own k ts)) e)
    (λ h. ap (after_break end) (own_away k t ts h))

pub after_continue_here : (end : StepNumber) (k : ℕ) (t : Task) (ts : List Task) → has t.lanes k ≡ true → ends_turn t.doing ≡ true
    → after_continue end (own k (t ∷ ts)) ≡ Some (waits end (own k (t ∷ ts)))
after_continue_here end k t ts h e =
    ap (after_continue end) (own_here k t ts h)
    ∙ ap (λ b. if b then Some (waits end (t.doing ∷ own k ts)) else after_continue end (own k ts)) e
    ∙ ap (λ ds. Some (waits end ds)) (sym (own_here k t ts h))

pub after_continue_later : (end : StepNumber) (k : ℕ) (t : Task) (ts : List Task) → ends_turn t.doing ≡ false
    → after_continue end (own k (t ∷ ts)) ≡ after_continue end (own k ts)
after_continue_later end k t ts e = by_bool (has t.lanes k)
    (λ h. ap (after_continue end) (own_here k t ts h) ∙ ap (λ b. if b then Some (waits end (t.doing ∷ own k ts)) else after_continue end (own k ts)) e)
    (λ h. ap (after_continue end) (own_away k t ts h))

-- ---- a lane that does not leave has what it had

pub broken_out : (k : ℕ) (lanes : Lanes) (ts : List Task) → has lanes k ≡ false → own k (broken lanes ts) ≡ own k ts
broken_out k lanes [] h = refl
broken_out k lanes (t ∷ ts) h = by_bool (ends_break t.doing)
    (λ e. ap (own k) (broken_last lanes t ts e) ∙ own_stays k lanes t ts ts h refl)
    (λ e. ap (own k) (broken_past lanes t ts e) ∙ own_stays k lanes t ts (broken lanes ts) h (broken_out k lanes ts h))

pub continued_out : (k : ℕ) (lanes : Lanes) (ts : List Task) → has lanes k ≡ false → own k (continued lanes ts) ≡ own k ts
continued_out k lanes [] h = refl
continued_out k lanes (t ∷ ts) h = by_bool (ends_turn t.doing)
    (λ e. ap (own k) (continued_last lanes t ts e))
    (λ e. ap (own k) (continued_past lanes t ts e) ∙ own_stays k lanes t ts (continued lanes ts) h (continued_out k lanes ts h))

pub leaves_out : (k : ℕ) (lanes : Lanes) (ts : List Task) → has lanes k ≡ false → own k (map (leaves_task lanes) ts) ≡ own k ts
leaves_out k lanes [] h = refl
leaves_out k lanes (t ∷ ts) h = own_stays k lanes t ts (map (leaves_task lanes) ts) h (leaves_out k lanes ts h)

-- ---- a lane that leaves waits for what its own tasks say

pub broken_waits : (end : StepNumber) (k : ℕ) (lanes : Lanes) (ts : List Task) (n : StepNumber) → has lanes k ≡ true → in_first ends_break k ts ≡ true
    → after_break end (own k ts) ≡ Some n → waits end (own k (broken lanes ts)) ≡ n
broken_waits end k lanes [] n h i a = absurd (none-some n a)
broken_waits end k lanes (t ∷ ts) n h i a = by_bool (ends_break t.doing)
    (λ e. ap (λ l. waits end (own k l)) (broken_last lanes t ts e) ∙ ap (waits end) (own_left k lanes t ts h)
    ∙ same_Some (waits end (own k ts)) n (sym (after_break_here end k t ts (sym (first_here ends_break k t ts e) ∙ i) e) ∙ a))
    (λ e. ap (λ l. waits end (own k l)) (broken_past lanes t ts e) ∙ ap (waits end) (own_left k lanes t (broken lanes ts) h)
    ∙ broken_waits end k lanes ts n h (sym (first_later ends_break k t ts e) ∙ i) (sym (after_break_later end k t ts e) ∙ a))

pub continued_waits : (end : StepNumber) (k : ℕ) (lanes : Lanes) (ts : List Task) (n : StepNumber) → has lanes k ≡ true → in_first ends_turn k ts ≡ true
    → after_continue end (own k ts) ≡ Some n → waits end (own k (continued lanes ts)) ≡ n
continued_waits end k lanes [] n h i a = absurd (none-some n a)
continued_waits end k lanes (t ∷ ts) n h i a = by_bool (ends_turn t.doing)
    (λ e. ap (λ l. waits end (own k l)) (continued_last lanes t ts e)
    ∙ same_Some (waits end (own k (t ∷ ts))) n (sym (after_continue_here end k t ts (sym (first_here ends_turn k t ts e) ∙ i) e) ∙ a))
    (λ e. ap (λ l. waits end (own k l)) (continued_past lanes t ts e) ∙ ap (waits end) (own_left k lanes t (continued lanes ts) h)
    ∙ continued_waits end k lanes ts n h (sym (first_later ends_turn k t ts e) ∙ i) (sym (after_continue_later end k t ts e) ∙ a))

pub leaves_own : (k : ℕ) (lanes : Lanes) (ts : List Task) → has lanes k ≡ true → own k (map (leaves_task lanes) ts) ≡ []
leaves_own k lanes [] h = refl
leaves_own k lanes (t ∷ ts) h = own_left k lanes t (map (leaves_task lanes) ts) h ∙ leaves_own k lanes ts h

-- ---- the points do what is left

module _ (points : List Point) (back : Option StepNumber) (end : StepNumber) (k : ℕ) (lanes : Lanes) where
  left_fits : (t : Task) (ts new : List Task) → has lanes k ≡ true → new ≡ leaves_task lanes t ∷ ts → Fits points back end (own k ts) → Fits points back end (own k new)
  left_fits t ts new h e f = subst (Fits points back end) (sym (ap (own k) e ∙ own_left k lanes t ts h)) f

  broken_fits_in : (ts : List Task) → has lanes k ≡ true → Fits points back end (own k ts) → Fits points back end (own k (broken lanes ts))
  broken_fits_in [] h f = f
  broken_fits_in (t ∷ ts) h f =
      let rest = fits_rest points 0 back end k t ts f in
      by_bool (ends_break t.doing)
      (λ e. left_fits t ts (broken lanes (t ∷ ts)) h (broken_last lanes t ts e) rest)
      (λ e. left_fits t (broken lanes ts) (broken lanes (t ∷ ts)) h (broken_past lanes t ts e) (broken_fits_in ts h rest))

  continued_fits_in : (ts : List Task) → has lanes k ≡ true → Fits points back end (own k ts) → Fits points back end (own k (continued lanes ts))
  continued_fits_in [] h f = f
  continued_fits_in (t ∷ ts) h f =
      by_bool (ends_turn t.doing)
      (λ e. subst (λ l. Fits points back end (own k l)) (sym (continued_last lanes t ts e)) f)
      (λ e. left_fits t (continued lanes ts) (continued lanes (t ∷ ts)) h (continued_past lanes t ts e) (continued_fits_in ts h (fits_rest points 0 back end k t ts f)))

  pub broken_fits : (ts : List Task) → Fits points back end (own k ts) → Fits points back end (own k (broken lanes ts))
  broken_fits ts f = by_bool (has lanes k) (λ h. broken_fits_in ts h f) (λ h. subst (Fits points back end) (sym (broken_out k lanes ts h)) f)

  pub continued_fits : (ts : List Task) → Fits points back end (own k ts) → Fits points back end (own k (continued lanes ts))
  continued_fits ts f = by_bool (has lanes k) (λ h. continued_fits_in ts h f) (λ h. subst (Fits points back end) (sym (continued_out k lanes ts h)) f)

  pub leaves_fits : (ts : List Task) → Fits points back end (own k ts) → Fits points back end (own k (map (leaves_task lanes) ts))
  leaves_fits ts f = by_bool (has lanes k)
      (λ h. subst (Fits points back end) (sym (leaves_own k lanes ts h)) tt)
      (λ h. subst (Fits points back end) (sym (leaves_out k lanes ts h)) f)

-- ---- lanes that stay are inside of the same loops

first_stays : (kind : Doing → Bool) (k : ℕ) (lanes : Lanes) (t : Task) (ts new : List Task) → has lanes k ≡ false → in_first kind k new ≡ in_first kind k ts
    → in_first kind k (leaves_task lanes t ∷ new) ≡ in_first kind k (t ∷ ts)
first_stays kind k lanes t ts new h e =
    ap (λ b. if kind t.doing then b else in_first kind k new) (has_stays t.lanes lanes k h) ∙ ap (λ b. if kind t.doing then has t.lanes k else b) e

pub first_broken : (kind : Doing → Bool) (k : ℕ) (lanes : Lanes) (ts : List Task) → has lanes k ≡ false → in_first kind k (broken lanes ts) ≡ in_first kind k ts
first_broken kind k lanes [] h = refl
first_broken kind k lanes (t ∷ ts) h = by_bool (ends_break t.doing)
    (λ e. ap (in_first kind k) (broken_last lanes t ts e) ∙ first_stays kind k lanes t ts ts h refl)
    (λ e. ap (in_first kind k) (broken_past lanes t ts e) ∙ first_stays kind k lanes t ts (broken lanes ts) h (first_broken kind k lanes ts h))

pub first_continued : (kind : Doing → Bool) (k : ℕ) (lanes : Lanes) (ts : List Task) → has lanes k ≡ false → in_first kind k (continued lanes ts) ≡ in_first kind k ts
first_continued kind k lanes [] h = refl
first_continued kind k lanes (t ∷ ts) h = by_bool (ends_turn t.doing)
    (λ e. ap (in_first kind k) (continued_last lanes t ts e))
    (λ e. ap (in_first kind k) (continued_past lanes t ts e) ∙ first_stays kind k lanes t ts (continued lanes ts) h (first_continued kind k lanes ts h))

pub first_leaves : (kind : Doing → Bool) (k : ℕ) (lanes : Lanes) (ts : List Task) → has lanes k ≡ false → in_first kind k (map (leaves_task lanes) ts) ≡ in_first kind k ts
first_leaves kind k lanes [] h = refl
first_leaves kind k lanes (t ∷ ts) h = first_stays kind k lanes t ts (map (leaves_task lanes) ts) h (first_leaves kind k lanes ts h)

-- the tasks are nested as before
pub broken_nested : (lanes : Lanes) (ts : List Task) → AreNested ts → AreNested (broken lanes ts)
broken_nested lanes [] n = n
broken_nested lanes (t ∷ ts) n = by_bool (ends_break t.doing)
    (λ e. subst AreNested (sym (broken_last lanes t ts e)) (λ k i. n.0 k (was_there t.lanes lanes k i).0, n.1))
    (λ e. subst AreNested (sym (broken_past lanes t ts e)) (
      λ k i.
          let there = was_there t.lanes lanes k i in
          let m = n.0 k there.0 in
          (first_broken ends_break k lanes ts there.1 ∙ m.0, first_broken ends_turn k lanes ts there.1 ∙ m.1),
      broken_nested lanes ts n.1,
    ))

pub continued_nested : (lanes : Lanes) (ts : List Task) → AreNested ts → AreNested (continued lanes ts)
continued_nested lanes [] n = n
continued_nested lanes (t ∷ ts) n = by_bool (ends_turn t.doing)
    (λ e. subst AreNested (sym (continued_last lanes t ts e)) n)
    (λ e. subst AreNested (sym (continued_past lanes t ts e)) (
      λ k i.
          let there = was_there t.lanes lanes k i in
          let m = n.0 k there.0 in
          (first_continued ends_break k lanes ts there.1 ∙ m.0, first_continued ends_turn k lanes ts there.1 ∙ m.1),
      continued_nested lanes ts n.1,
    ))

pub leaves_nested : (lanes : Lanes) (ts : List Task) → AreNested ts → AreNested (map (leaves_task lanes) ts)
leaves_nested lanes [] n = n
leaves_nested lanes (t ∷ ts) n = (
  λ k i.
      let there = was_there t.lanes lanes k i in
      let m = n.0 k there.0 in
      (first_leaves ends_break k lanes ts there.1 ∙ m.0, first_leaves ends_turn k lanes ts there.1 ∙ m.1),
  leaves_nested lanes ts n.1,
)

-- ---- where a lane's own tasks have such a task, what follows the list is not reached

pub broken_append : (end : StepNumber) (k : ℕ) (lanes : Lanes) (ts more : List Task) (n : StepNumber) → after_break end (own k ts) ≡ Some n
    → broken lanes (ts ++ more) ≡ broken lanes ts ++ more
broken_append end k lanes [] more n a = absurd (none-some n a)
broken_append end k lanes (t ∷ ts) more n a = by_bool (ends_break t.doing)
    (λ e. broken_last lanes t (ts ++ more) e ∙ ap (λ l. l ++ more) (sym (broken_last lanes t ts e)))
    (λ e. broken_past lanes t (ts ++ more) e
    ∙ ap (λ l. leaves_task lanes t ∷ l) (broken_append end k lanes ts more n (sym (after_break_later end k t ts e) ∙ a))
    ∙ ap (λ l. l ++ more) (sym (broken_past lanes t ts e)))

pub continued_append : (end : StepNumber) (k : ℕ) (lanes : Lanes) (ts more : List Task) (n : StepNumber) → after_continue end (own k ts) ≡ Some n
    → continued lanes (ts ++ more) ≡ continued lanes ts ++ more
continued_append end k lanes [] more n a = absurd (none-some n a)
continued_append end k lanes (t ∷ ts) more n a = by_bool (ends_turn t.doing)
    (λ e. continued_last lanes t (ts ++ more) e ∙ ap (λ l. l ++ more) (sym (continued_last lanes t ts e)))
    (λ e. continued_past lanes t (ts ++ more) e
    ∙ ap (λ l. leaves_task lanes t ∷ l) (continued_append end k lanes ts more n (sym (after_continue_later end k t ts e) ∙ a))
    ∙ ap (λ l. l ++ more) (sym (continued_past lanes t ts e)))
