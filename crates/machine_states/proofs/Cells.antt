-- No step of a program sets more words than its cells, and these are few.
use Rattle.std.proofs.Common.{ℕ, suc, ◌+◌, ◌*◌, ◌≤◌, ◌≡◌, refl, subst, arith, List, [], ◌∷◌}
use Rattle.std.specs.Prelude.{Some, slice_get}
use Rattle.std.proofs.Math.Nat.{mul-le-mul_right}
use Rattle.std.proofs.lemmas.List.Recursion.{max_bounds}
use Rattle.std.proofs.lemmas.Option.{get_or_from_slice_get, slice_get_within}
use Rattle.gang_model.specs.Types.Tree.{Scalar, ElementOf, Declare, Assign, Change, Return, Check, PackedStore, PackedLoad, Function, Program}
use Rattle.mask_states.specs.Points.{Point, Put, Go, Branch, Choose, Begin, Turn, Enter, points_in}
use Rattle.mask_states.specs.Placed.{HasPoint}
use Rattle.machine_states.specs.Cells.{cells_of, greatest, words_left, words_set}
use Rattle.machine_states.specs.WellScoped.{IsWellScopedPoint, IsWellScopedProgram}
use Rattle.machine_states.specs.Variables.{Variables}
use Rattle.machine_states.proofs.WellScopedPoints.{points_in-well_scoped, point_at}

pub greatest_enough : {A : Type 0} (number : A → ℕ) (xs : List A) (k : ℕ) (x : A) → slice_get xs k ≡ Some x → number x ≤ greatest number xs
greatest_enough number xs k x is =
    subst (λ y. number y ≤ greatest number xs) (get_or_from_slice_get xs k x x is)
    (max_bounds (greatest number) number refl (λ y ys. refl) xs k x (slice_get_within xs k x is))

pub greatest_few : {A : Type 0} (number : A → ℕ) (xs : List A) (most : ℕ) → ((k : ℕ) (x : A) → slice_get xs k ≡ Some x → number x ≤ most) → greatest number xs ≤ most
greatest_few number [] most h = omega arith
greatest_few number (x ∷ xs) most h = omega (arith, h 0 x refl, greatest_few number xs most (λ k. h (suc k)))

module _ (width : ℕ) (p : Program) where
  -- leaving a frame sets no more
  pub leaving_enough : words_left width ≤ cells_of width p
  leaving_enough = omega arith

  -- nor does a step
  pub cells_enough : (n : ℕ) (f : Function) → slice_get p.functions n ≡ Some f → (number : ℕ) (point : Point) → HasPoint (points_in f) number point
      → words_set width point ≤ cells_of width p
  cells_enough n f is number point has =
      let of_points = greatest_enough (words_set width) (points_in f) number point has in
      let of_functions = greatest_enough (λ g. greatest (words_set width) (points_in g)) p.functions n f is in
      omega (arith, of_points, of_functions)

module _ (width : ℕ) (variables : Variables) where
  point_few : (n : ℕ) (point : Point) → IsWellScopedPoint variables n point → words_set width point ≤ 9 * width + 16
  point_few n (Put (Declare number x e) next) well_scoped = omega arith
  point_few n (Put (Assign number (Scalar x) e) next) well_scoped = omega arith
  point_few n (Put (Assign number (ElementOf array rate index) e) next) well_scoped = omega arith
  point_few n (Put (Change number (Scalar x) type op in_type e) next) well_scoped = omega arith
  point_few n (Put (Change number (ElementOf array rate index) type op in_type e) next) well_scoped = omega arith
  point_few n (Put (PackedStore number array from e result_for) next) well_scoped = omega arith
  point_few n (Put (PackedLoad number array from x result_for) next) well_scoped = omega arith
  point_few n (Put (Return number e) next) well_scoped = omega arith
  point_few n (Put (Check number e) next) well_scoped = omega arith
  point_few n (Go next) well_scoped = omega arith
  point_few n (Branch test yes' no') well_scoped = omega arith
  point_few n (Enter called args result_for next) well_scoped = let args_few = mul-le-mul_right width well_scoped.0.few in omega (arith, args_few)
  point_few n (Choose e segments entries next) well_scoped = omega arith
  point_few n (Begin form rounds next) well_scoped = omega arith
  point_few n (Turn body) well_scoped = omega arith
  point_few n (Put s next) well_scoped = absurd well_scoped

  -- a call has at most 8 parameters
  pub cells_few : (most : ℕ) (p : Program) → IsWellScopedProgram variables most p → cells_of width p ≤ 9 * width + 16
  cells_few most p well_scoped =
      let function_few : (n : ℕ) (f : Function) → slice_get p.functions n ≡ Some f → greatest (words_set width) (points_in f) ≤ 9 * width + 16 =
      λ n f is. greatest_few (words_set width) (points_in f) (9 * width + 16) (λ k point has. point_few n point
      (point_at variables n (points_in f) k point (points_in-well_scoped variables n f (well_scoped.functions n f is)) has)) in
      omega (arith, greatest_few (λ f. greatest (words_set width) (points_in f)) p.functions (9 * width + 16) function_few)
