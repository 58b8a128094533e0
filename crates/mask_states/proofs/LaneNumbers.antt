-- The numbers that lanes wait for: those that were sent on, and the least one.
use Rattle.std.proofs.Common.{◌≡◌, refl, sym, ap, ◌∙◌, ℕ, zero, suc, ◌<◌, ◌≤◌, true, false, List, [], ◌∷◌, length, arith, ⊎_elim}
use Rattle.std.specs.Prelude.{◌==◌, if◌then◌else◌}
use Rattle.std.proofs.Math.Nat.{min-le_left, min-le_right, le-min}
use Rattle.std.proofs.lemmas.Bool.{cases_lt}
use Rattle.std.proofs.lemmas.List.{length-map}
use Rattle.gang_types.specs.Lanes.{Lanes, has}
use Rattle.gang_model.specs.Running.Lanes.{each, merged, at}
use Rattle.gang_model.specs.Types.Tree.{StepNumber}
use Rattle.gang_model.proofs.LaneWords.{length-each, length-merged}
use Rattle.gang_model.proofs.UniformValues.{at-each}
use Rattle.mask_states.specs.Masked.{least, waiting_for, sent}
use Rattle.mask_states.proofs.OwnTasks.{none_true}

-- ---- numbers sent on

pub at-merged_in : (lanes : Lanes) (new old : List ℕ) (k : ℕ) → length new ≡ length lanes → length old ≡ length lanes → has lanes k ≡ true → at (merged lanes new old) k ≡ at new k
at-merged_in [] new old k e f h = absurd (none_true h)
at-merged_in (b ∷ lanes) [] old k e f h = absurd (omega arith)
at-merged_in (b ∷ lanes) (x ∷ new) [] k e f h = absurd (omega arith)
at-merged_in (b ∷ lanes) (x ∷ new) (y ∷ old) zero e f h = ap (λ c. if c then x else y) h
at-merged_in (b ∷ lanes) (x ∷ new) (y ∷ old) (suc k) e f h = at-merged_in lanes new old k (omega arith) (omega arith) h

pub at-merged_out : (lanes : Lanes) (new old : List ℕ) (k : ℕ) → length new ≡ length lanes → length old ≡ length lanes → has lanes k ≡ false → at (merged lanes new old) k ≡ at old k
at-merged_out [] new [] k e f h = refl
at-merged_out [] new (y ∷ old) k e f h = absurd (omega arith)
at-merged_out (b ∷ lanes) [] old k e f h = absurd (omega arith)
at-merged_out (b ∷ lanes) (x ∷ new) [] k e f h = absurd (omega arith)
at-merged_out (b ∷ lanes) (x ∷ new) (y ∷ old) zero e f h = ap (λ c. if c then x else y) h
at-merged_out (b ∷ lanes) (x ∷ new) (y ∷ old) (suc k) e f h = at-merged_out lanes new old k (omega arith) (omega arith) h

pub length-sent : (lanes : Lanes) (target : ℕ → StepNumber) (numbers : List StepNumber) → length numbers ≡ length lanes → length (sent lanes target numbers) ≡ length numbers
length-sent lanes target numbers e = length-merged lanes (each lanes target) numbers (length-each lanes target) e ∙ sym e

-- a lane of the set waits for its new number, another for its old one
pub at-sent_in : (lanes : Lanes) (target : ℕ → StepNumber) (numbers : List StepNumber) (k : ℕ) → length numbers ≡ length lanes → has lanes k ≡ true → at (sent lanes target numbers) k ≡ target k
at-sent_in lanes target numbers k e h = at-merged_in lanes (each lanes target) numbers k (length-each lanes target) e h ∙ at-each lanes target k h

pub at-sent_out : (lanes : Lanes) (target : ℕ → StepNumber) (numbers : List StepNumber) (k : ℕ) → length numbers ≡ length lanes → has lanes k ≡ false → at (sent lanes target numbers) k ≡ at numbers k
at-sent_out lanes target numbers k e h = at-merged_out lanes (each lanes target) numbers k (length-each lanes target) e h

-- ---- the lanes that wait for a number

pub length-waiting_for : (number : StepNumber) (numbers : List StepNumber) → length (waiting_for number numbers) ≡ length numbers
length-waiting_for number numbers = length-map numbers _

pub has-waiting_for : (number : StepNumber) (numbers : List StepNumber) (k : ℕ) → k < length numbers → has (waiting_for number numbers) k ≡ (at numbers k == number)
has-waiting_for number [] k h = absurd (omega arith)
has-waiting_for number (n ∷ numbers) zero h = refl
has-waiting_for number (n ∷ numbers) (suc k) h = has-waiting_for number numbers k (omega arith)

-- ---- the least number

pub least_at_most : (end : StepNumber) (numbers : List StepNumber) → least end numbers ≤ end
least_at_most end [] = omega arith
least_at_most end (n ∷ numbers) = omega (arith, min-le_right n (least end numbers), least_at_most end numbers)

pub least_below : (end : StepNumber) (numbers : List StepNumber) (k : ℕ) → k < length numbers → least end numbers ≤ at numbers k
least_below end [] k h = absurd (omega arith)
least_below end (n ∷ numbers) zero h = min-le_left n (least end numbers)
least_below end (n ∷ numbers) (suc k) h = omega (arith, min-le_right n (least end numbers), least_below end numbers k (omega arith))

-- a number that is no greater than any is no greater than the least
pub least_above : (end : StepNumber) (numbers : List StepNumber) (m : ℕ) → m ≤ end → ((k : ℕ) → k < length numbers → m ≤ at numbers k) → m ≤ least end numbers
least_above end [] m h all = h
least_above end (n ∷ numbers) m h all = le-min (all 0 (omega arith)) (least_above end numbers m h (λ k within. all (suc k) (omega arith)))

-- a least number below the end is one that a lane waits for
pub least_met : (end : StepNumber) (numbers : List StepNumber) → least end numbers < end → (k : ℕ) × (k < length numbers) × (at numbers k ≡ least end numbers)
least_met end [] h = absurd (omega arith)
least_met end (n ∷ numbers) h = ⊎_elim
    (λ less.
    let here : n ≤ least end (n ∷ numbers) = le-min (omega arith) (omega (arith, less)) in
    (0, omega arith, omega (arith, here, min-le_left n (least end numbers))))
    (λ more.
    let rest : least end numbers ≤ least end (n ∷ numbers) = le-min more (omega arith) in
    let met = least_met end numbers (omega (arith, h, rest, min-le_right n (least end numbers))) in
    (suc met.0, omega (arith, met.1), omega (arith, met.2, rest, min-le_right n (least end numbers))))
    (cases_lt n (least end numbers))
