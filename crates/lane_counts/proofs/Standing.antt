-- The frames that stand, by the last steps of frames.
use Rattle.std.proofs.Common.{◌≡◌, refl, sym, ap, ◌∙◌, subst, ℕ, suc, ◌+◌, ◌-◌, ◌<◌, ◌≤◌, Bool, true, false, List, [], ◌∷◌, ◌++◌, length, take, Option, Some, arith}
use Rattle.std.specs.Prelude.{◌&&◌, ◌||◌, ◌==◌, bytes_eq, nat_lt}
use Rattle.std.specs.List.{list_any}
use Rattle.std.proofs.lemmas.Bool.Decides.{nat_tests}
use Rattle.std.proofs.lemmas.List.{length-append, take-append-le, take_all}
use Rattle.std.proofs.lemmas.List.Folds.{list_any-append}
use Rattle.lane_counts.specs.declared.frames.LastStep.{LastStep}
use Rattle.lane_counts.specs.declared.names.Names.{Names}
use Rattle.lane_counts.specs.Naming.{AreDistinct, Extends, name_at}
use Rattle.lane_counts.specs.Pending.{has_function, is_of}
use Rattle.lane_counts.specs.Tallies.{AreFrames}
use Rattle.lane_counts.proofs.Named.{numbered, some_same, within}

-- names more leave the frames as they are
pub kept : (old new : Names) → Extends old new → (lasts : List (Option LastStep)) (functions : List (List ℕ)) → AreFrames old lasts functions → AreFrames new lasts functions
kept old new more lasts [] is = is
kept old new more lasts (name ∷ below) is = (is.0, is.1, is.2, more is.1.function name is.3, kept old new more is.0 below is.4)

-- there is a last step for each frame
pub as_many : (names : Names) (lasts : List (Option LastStep)) (functions : List (List ℕ)) → AreFrames names lasts functions → length lasts ≡ length functions
as_many names lasts [] is = ap length is
as_many names lasts (name ∷ below) is =
    let here : length lasts ≡ length is.0 + 1 = ap length is.2 ∙ length-append is.0 (Some is.1 ∷ []) in
    omega (arith, here, as_many names is.0 below is.4)

-- the lower ones of frames
pub lower : (names : Names) (lasts : List (Option LastStep)) (left below : List (List ℕ)) → AreFrames names lasts (left ++ below) → AreFrames names (take (length below) lasts) below
lower names lasts [] below is =
    let all : take (length below) lasts ≡ lasts = take_all (length below) lasts (omega (arith, as_many names lasts below is)) in
    subst (λ l. AreFrames names l below) (sym all) is
lower names lasts (name ∷ left) below is =
    let many : length is.0 ≡ length left + length below = as_many names is.0 (left ++ below) is.4 ∙ length-append left below in
    let same : take (length below) lasts ≡ take (length below) is.0 = ap (take (length below)) is.2 ∙ take-append-le (length below) is.0 (Some is.1 ∷ []) (omega (arith, many)) in
    subst (λ l. AreFrames names l below) (sym same) (lower names is.0 left below is.4)

or_swapped : (a b : Bool) → (a || (b || false)) ≡ (b || a)
or_swapped true true = refl
or_swapped true false = refl
or_swapped false true = refl
or_swapped false false = refl

-- the frames have a function of a number just where one of them is of this name
module _ (names final : Names) (more : Extends names final) (distinct : AreDistinct final) (number : ℕ) (name : List ℕ) (is_name : name_at final number ≡ Some name) where
  pub has_name : (lasts : List (Option LastStep)) (functions : List (List ℕ)) → AreFrames names lasts functions → has_function number lasts ≡ list_any (λ other. bytes_eq other name) functions
  has_name lasts [] is = ap (has_function number) is
  has_name lasts (first ∷ below) is =
      let given = is.1.function in
      let known : name_at final given ≡ Some first = more given first is.3 in
      let same : given ≡ number → first ≡ name = λ e. some_same first name (sym known ∙ ap (name_at final) e ∙ is_name) in
      let back : first ≡ name → given ≡ number = λ e. distinct given number name (known ∙ ap Some e) is_name in
      ap (has_function number) is.2 ∙ list_any-append (is_of number) is.0 (Some is.1 ∷ []) ∙ ap (λ b. b || ((given == number) || false)) (has_name is.0 below is.4)
      ∙ ap (λ b. list_any (λ other. bytes_eq other name) below || (b || false)) (sym (numbered given number first name same back))
      ∙ or_swapped (list_any (λ other. bytes_eq other name) below) (bytes_eq first name)

-- no frame has a function without a name
pub none_unnamed : (names : Names) (number : ℕ) → length names.names.items ≤ number → (lasts : List (Option LastStep)) (functions : List (List ℕ)) → AreFrames names lasts functions
    → has_function number lasts ≡ false
none_unnamed names number unnamed lasts [] is = ap (has_function number) is
none_unnamed names number unnamed lasts (first ∷ below) is =
    let few : is.1.function < length names.names.items = within (λ v. v.items) names.names.items is.1.function first is.3 in
    let other : (is.1.function == number) ≡ false = grind (arith, nat_tests) in
    ap (has_function number) is.2 ∙ list_any-append (is_of number) is.0 (Some is.1 ∷ []) ∙ ap (λ b. b || ((is.1.function == number) || false)) (none_unnamed names number unnamed is.0 below is.4)
    ∙ ap (λ b. b || false) other

pub named_alone : (names : Names) (number : ℕ) (lasts : List (Option LastStep)) (functions : List (List ℕ)) → AreFrames names lasts functions
    → (nat_lt number (length names.names.items) && has_function number lasts) ≡ has_function number lasts
named_alone names number lasts functions is = go (nat_lt number (length names.names.items)) refl
  where
    go : (b : Bool) → nat_lt number (length names.names.items) ≡ b → (nat_lt number (length names.names.items) && has_function number lasts) ≡ has_function number lasts
    go true e = ap (λ b. b && has_function number lasts) e
    go false e =
        let unnamed : length names.names.items ≤ number = grind (arith, nat_tests) in
        ap (λ b. b && has_function number lasts) e ∙ sym (none_unnamed names number unnamed lasts functions is)

-- a tally counts a step of the frames of the functions that stand at it
pub counted_whole : (names final : Names) (number : ℕ) (name : List ℕ) → Extends names final → AreDistinct final → name_at final number ≡ Some name
    → (lasts : List (Option LastStep)) (functions : List (List ℕ)) → AreFrames names lasts functions
    → list_any (λ other. bytes_eq other name) functions ≡ (nat_lt number (length names.names.items) && has_function number lasts)
counted_whole names final number name more distinct is_name lasts functions is =
    sym (has_name names final more distinct number name is_name lasts functions is) ∙ sym (named_alone names number lasts functions is)

-- a step in the place of the last one of its frame
pub stepped : (old new : Names) → Extends old new → (lasts : List (Option LastStep)) (left below : List (List ℕ)) (first : List ℕ) (step : LastStep) (count : ℕ) → count ≡ length below
    → name_at new step.function ≡ Some first → AreFrames old lasts (left ++ below) → AreFrames new (take count lasts ++ Some step ∷ []) (first ∷ below)
stepped old new more lasts left below first step count is_count named is =
    (take count lasts, step, refl, named, subst (λ n. AreFrames new (take n lasts) below) (sym is_count) (kept old new more (take (length below) lasts) below (lower old lasts left below is)))

-- as many frames stand as there are below a step
pub enough : (names : Names) (lasts : List (Option LastStep)) (left below : List (List ℕ)) (count : ℕ) → count ≡ length below → AreFrames names lasts (left ++ below) → count ≤ length lasts
enough names lasts left below count is_count is = omega (arith, is_count, as_many names lasts (left ++ below) is, length-append left below)

-- how many frames stand below that of a step
pub above : (depth count : ℕ) (functions below : List (List ℕ)) {first : List ℕ} → length functions ≡ depth → functions ≡ first ∷ below → count ≡ depth - 1 → length functions ≡ suc count
above depth count functions below deep is less = omega (arith, deep, ap length is, less)
