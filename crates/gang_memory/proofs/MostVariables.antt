-- The most variables that a function has.
use Rattle.std.proofs.Common.{rules, ℕ, zero, suc, ◌+◌, ◌<◌, ◌≤◌, ◌≡◌, ◌∙◌, sym, ap, arith, List, [], ◌∷◌, length, get_or, take, nat_cmp}
use Rattle.std.specs.Prelude.{All, fold, max}
use Rattle.std.specs.Ordering.{ord_max}
use Rattle.std.proofs.Math.Nat.{le-max_left, le-max_right}
use Rattle.std.proofs.lemmas.List.Sums.{fold_more}
use Rattle.typed_tree.specs.declared.program.Function.{Function}
use Rattle.gang_memory.specs.Layouts.{most_variables}

pub greater_is : (a b : ℕ) → ord_max nat_cmp a b ≡ max a b
greater_is a b = search rules

abbrev step : ℕ → Function → ℕ
step most f = max most (length f.variables.items)

pub most_more : (functions : List Function) (i : ℕ) (f : Function) → i < length functions → f ≡ get_or functions i f → most_variables (take (i + 1) functions) ≡ max (most_variables (take i functions)) (length f.variables.items)
most_more functions i f h is = fold_more step 0 functions i f h ∙ ap (λ g. max (most_variables (take i functions)) (length g.variables.items)) (sym is)

no_less : (functions : List Function) (most : ℕ) → most ≤ fold step most functions
no_less [] most = omega arith
no_less (f ∷ functions) most =
    let here = le-max_left most (length f.variables.items) in
    let later = no_less functions (step most f) in
    omega (arith, here, later)

each_within : (functions : List Function) (most k : ℕ) (d : Function) → k < length functions → length (get_or functions k d).variables.items ≤ fold step most functions
each_within [] most k d h = absurd (omega arith)
each_within (f ∷ functions) most zero d h =
    let here = le-max_right most (length f.variables.items) in
    let later = no_less functions (step most f) in
    omega (arith, here, later)
each_within (f ∷ functions) most (suc k) d h = each_within functions (step most f) k d (omega arith)

-- no function has more
pub all_within : (functions : List Function) → All (λ f. length f.variables.items ≤ most_variables functions) functions
all_within functions = λ k d h. each_within functions 0 k d h
