-- A lane's own tasks.
use Rattle.std.proofs.Common.{◌≡◌, refl, sym, ap, ◌∙◌, ℕ, zero, suc, ◌<◌, Bool, true, false, List, [], ◌∷◌, ◌++◌, length, arith}
use Rattle.std.specs.Prelude.{if◌then◌else◌}
use Rattle.gang_types.specs.Lanes.{Lanes, has, no_lane}
use Rattle.gang_types.specs.LaneLaws.{no_lane_has}
use Rattle.gang_model.specs.Running.State.{Task}
use Rattle.mask_states.specs.Stands.{own}

-- a fact by the two values of a test
pub by_bool : {P : Type 0} → (b : Bool) → (b ≡ true → P) → (b ≡ false → P) → P
by_bool true yes' no' = yes' refl
by_bool false yes' no' = no' refl

pub none_true : false ≡ true → ⊥
none_true h = cc

-- a lane of a task's set has the task, another has not
pub own_here : (k : ℕ) (t : Task) (ts : List Task) → has t.lanes k ≡ true → own k (t ∷ ts) ≡ t.doing ∷ own k ts
own_here k t ts h = ap (λ b. if b then t.doing ∷ own k ts else own k ts) h

pub own_away : (k : ℕ) (t : Task) (ts : List Task) → has t.lanes k ≡ false → own k (t ∷ ts) ≡ own k ts
own_away k t ts h = ap (λ b. if b then t.doing ∷ own k ts else own k ts) h

-- a task of no lane is no lane's own
pub own_none : (k : ℕ) (t : Task) (ts : List Task) → no_lane t.lanes ≡ true → own k (t ∷ ts) ≡ own k ts
own_none k t ts h = own_away k t ts (no_lane_has t.lanes h k)

-- what a lane has of two lists one after the other
pub own_append : (k : ℕ) (xs ys : List Task) → own k (xs ++ ys) ≡ own k xs ++ own k ys
own_append k [] ys = refl
own_append k (t ∷ xs) ys = by_bool (has t.lanes k)
    (λ h. own_here k t (xs ++ ys) h ∙ ap (λ ds. t.doing ∷ ds) (own_append k xs ys) ∙ sym (ap (λ ds. ds ++ own k ys) (own_here k t xs h)))
    (λ h. own_away k t (xs ++ ys) h ∙ own_append k xs ys ∙ sym (ap (λ ds. ds ++ own k ys) (own_away k t xs h)))

-- a lane of a set is one of the gang
pub lane_lt : (lanes : Lanes) (k : ℕ) → has lanes k ≡ true → k < length lanes
lane_lt [] k h = absurd (none_true h)
lane_lt (b ∷ lanes) zero h = omega arith
lane_lt (b ∷ lanes) (suc k) h = omega (arith, lane_lt lanes k h)
