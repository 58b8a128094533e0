-- The numbers of the breakpoints, or of the watches.
use Rattle.std.proofs.Common.{◌≡◌, refl, ap, sym, ◌∙◌, cond, not, ◌&&◌, ℕ, ◌+◌, ◌<◌, true, false, List, [], ◌∷◌, ◌++◌, length, take, get_or, add-one, append-nil}
use Rattle.std.specs.Prelude.{count_by, if◌then◌else◌}
use Rattle.std.proofs.lemmas.List.Sums.{sum_by-cons}
use Rattle.std.proofs.Math.Seq.{take-suc}
use Rattle.gang_model.specs.Debugger.Debugger as model
use Rattle.gang_model.specs.Debugger.Debugger.{Setting}
use Rattle.debug_answers.specs.declared.stops.NumberedStop.{NumberedStop}
use Rattle.debug_answers.specs.declared.stops.Stop.{Stop}
use Rattle.debug_answers.specs.declared.stops.Stop.TheVariants as stop
use Rattle.debug_answers.specs.Meanings.{AreStops, IsStop}
use Rattle.adapter_session.specs.declared.lines.Kind.{Kind}
use Rattle.adapter_session.specs.declared.lines.Kind.TheVariants.{Functions, Lines, Watches}
use Rattle.adapter_session.specs.Changes.{staying}
use Rattle.adapter_session.specs.Given.{given_numbers, is_of, is_on_line}
use Rattle.adapter_session.specs.Requested.{is_breakpoint, is_in, is_watch, numbers_of, test_of}

-- a stop is a breakpoint, or a watch, where what it means is
line_is : (s : Setting) (given : Stop) (meant : model.Stop) → IsStop s given meant → is_on_line given ≡ is_breakpoint meant
line_is s (stop.Line line) (model.Line l) h = refl
line_is s (stop.Line line) (model.Watch target v) h = absurd h
line_is s (stop.Watch variable at) (model.Line l) h = absurd h
line_is s (stop.Watch variable at) (model.Watch target v) h = refl

watch_is : (s : Setting) (given : Stop) (meant : model.Stop) → IsStop s given meant → not (is_on_line given) ≡ is_watch meant
watch_is s (stop.Line line) (model.Line l) h = refl
watch_is s (stop.Line line) (model.Watch target v) h = absurd h
watch_is s (stop.Watch variable at) (model.Line l) h = absurd h
watch_is s (stop.Watch variable at) (model.Watch target v) h = refl

-- a stop is of the kind of what it means
test_is : (s : Setting) (kind : Kind) (functions : List ℕ) (given : NumberedStop) (meant : ℕ × model.Stop) → given.number ≡ meant.0 → IsStop s given.stop meant.1 → is_of kind functions given ≡ test_of kind functions meant
test_is s Lines functions given meant number is =
    ap (λ b. b && not (is_in functions given.number)) (line_is s given.stop meant.1 is) ∙ ap (λ n. is_breakpoint meant.1 && not (is_in functions n)) number
test_is s Functions functions given meant number is =
    ap (λ b. b && is_in functions given.number) (line_is s given.stop meant.1 is) ∙ ap (λ n. is_breakpoint meant.1 && is_in functions n) number
test_is s Watches functions given meant number is = watch_is s given.stop meant.1 is

-- the numbers of a kind are those of the definitions
pub numbers_are : (s : Setting) (kind : Kind) (functions : List ℕ) (given : List NumberedStop) (meant : List (ℕ × model.Stop)) → AreStops s given meant → given_numbers kind functions given ≡ numbers_of (test_of kind functions) meant
numbers_are s kind functions [] [] h = refl
numbers_are s kind functions [] (m ∷ ms) h = absurd h
numbers_are s kind functions (x ∷ xs) [] h = absurd h
numbers_are s kind functions (x ∷ xs) (m ∷ ms) (number, is, others) =
    ap (λ b. if b then x.number ∷ given_numbers kind functions xs else given_numbers kind functions xs) (test_is s kind functions x m number is)
    ∙ ap (λ r. if test_of kind functions m then x.number ∷ r else r) (numbers_are s kind functions xs ms others)
    ∙ ap (λ n. if test_of kind functions m then n ∷ numbers_of (test_of kind functions) ms else numbers_of (test_of kind functions) ms) number

-- and as many stay
pub staying_is : (s : Setting) (kind : Kind) (functions : List ℕ) (given : List NumberedStop) (meant : List (ℕ × model.Stop)) → AreStops s given meant
    → count_by (λ entry. not (is_of kind functions entry)) given ≡ staying kind functions meant
staying_is s kind functions [] [] h = refl
staying_is s kind functions [] (m ∷ ms) h = absurd h
staying_is s kind functions (x ∷ xs) [] h = absurd h
staying_is s kind functions (x ∷ xs) (m ∷ ms) (number, is, others) =
    sum_by-cons (λ (entry : NumberedStop). cond (not (is_of kind functions entry)) 1 0) x xs
    ∙ ap (λ b. cond (not b) 1 0 + count_by (λ (entry : NumberedStop). not (is_of kind functions entry)) xs) (test_is s kind functions x m number is)
    ∙ ap (λ n. cond (not (test_of kind functions m)) 1 0 + n) (staying_is s kind functions xs ms others)
    ∙ sym (sum_by-cons (λ (entry : ℕ × model.Stop). cond (not (test_of kind functions entry)) 1 0) m ms)

-- the numbers of one stop more
numbers_behind : (kind : Kind) (functions : List ℕ) (xs : List NumberedStop) (x : NumberedStop) → given_numbers kind functions (xs ++ x ∷ []) ≡ given_numbers kind functions xs ++ given_numbers kind functions (x ∷ [])
numbers_behind kind functions [] x = refl
numbers_behind kind functions (y ∷ ys) x =
    elim (is_of kind functions y) as (λ b. (if b then y.number ∷ given_numbers kind functions (ys ++ x ∷ []) else given_numbers kind functions (ys ++ x ∷ []))
    ≡ (if b then y.number ∷ given_numbers kind functions ys else given_numbers kind functions ys) ++ given_numbers kind functions (x ∷ [])) [
      | true ↦ ap (λ r. y.number ∷ r) (numbers_behind kind functions ys x)
      | false ↦ numbers_behind kind functions ys x
    ]

-- the numbers of the stops up to an index and of the one there
pub numbers_more : (kind : Kind) (functions : List ℕ) (xs : List NumberedStop) (i : ℕ) (x : NumberedStop) → i < length xs
    → given_numbers kind functions (take (i + 1) xs) ≡ given_numbers kind functions (take i xs) ++ given_numbers kind functions (get_or xs i x ∷ [])
numbers_more kind functions xs i x within =
    ap (λ n. given_numbers kind functions (take n xs)) (add-one i)
    ∙ ap (given_numbers kind functions) (take-suc xs i x within)
    ∙ numbers_behind kind functions (take i xs) (get_or xs i x)

-- one that is of the kind, or is not
pub numbers_with : (kind : Kind) (functions : List ℕ) (xs : List NumberedStop) (i : ℕ) (x : NumberedStop) → i < length xs → is_of kind functions (get_or xs i x) ≡ true
    → given_numbers kind functions (take (i + 1) xs) ≡ given_numbers kind functions (take i xs) ++ (get_or xs i x).number ∷ []
numbers_with kind functions xs i x within is =
    numbers_more kind functions xs i x within
    ∙ ap (λ b. given_numbers kind functions (take i xs) ++ (if b then (get_or xs i x).number ∷ [] else [])) is

pub numbers_without : (kind : Kind) (functions : List ℕ) (xs : List NumberedStop) (i : ℕ) (x : NumberedStop) → i < length xs → is_of kind functions (get_or xs i x) ≡ false
    → given_numbers kind functions (take (i + 1) xs) ≡ given_numbers kind functions (take i xs)
numbers_without kind functions xs i x within is =
    numbers_more kind functions xs i x within
    ∙ ap (λ b. given_numbers kind functions (take i xs) ++ (if b then (get_or xs i x).number ∷ [] else [])) is
    ∙ append-nil (given_numbers kind functions (take i xs))
