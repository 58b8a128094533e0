-- The code of a program sets as many words as the program's steps.
use Rattle.std.proofs.Common.{ℕ, ◌+◌, ◌*◌, ◌<◌, ◌≤◌, ◌≡◌, ◌∙◌, refl, sym, ap, ap₂, arith, rules, List, [], ◌∷◌, ◌++◌, length, get_or, map, take, nat_cmp, Vec, Global}
use Rattle.std.specs.Prelude.{max, Some, slice_get}
use Rattle.std.specs.Ordering.{ord_max}
use Rattle.std.proofs.lemmas.List.{take_more}
use Rattle.std.proofs.lemmas.List.Recursion.{max_push}
use Rattle.gang_model.specs.Types.Tree as t
use Rattle.mask_states.specs.Points as p
use Rattle.mask_states.specs.Points.{points_in}
use Rattle.machine_states.specs.Cells.{cells_of, greatest, words_left, words_set}
use Rattle.machine_states.specs.WellScoped.{IsWellScopedProgram}
use Rattle.machine_states.specs.Variables.{Variables}
use Rattle.machine_states.proofs.Cells.{cells_few, greatest_enough}
use Rattle.codegen.specs.declared.code.StepCode.{StepCode}
use Rattle.codegen.specs.declared.code.StepCode.TheVariants as step
use Rattle.codegen.specs.Cells.{cells_by, most_set, words_set_by}
use Rattle.codegen.specs.Codes.{DoAll, DoEach, Does, Fit, IsArg}
use Rattle.codegen.proofs.Rows.{fit_long}

pub greater_is : (a b : ℕ) → ord_max nat_cmp a b ≡ max a b
greater_is a b = search rules

-- ---- the greatest of a list

-- with one more item
pub greatest_more : {A : Type 0} (number : A → ℕ) (xs : List A) (i : ℕ) (x : A) → i < length xs → x ≡ get_or xs i x → greatest number (take (i + 1) xs) ≡ max (greatest number (take i xs)) (number x)
greatest_more number xs i x below is =
    ap (greatest number) (take_more xs i x below ∙ ap (λ y. take i xs ++ y ∷ []) (sym is)) ∙ max_push (greatest number) number refl (λ y ys. refl) (take i xs) x

greatest_fit : {A B : Type 0} (P : A → B → Type 0) (f : A → ℕ) (g : B → ℕ) → ((x : A) (y : B) → P x y → f x ≡ g y) → (xs : List A) (ys : List B) → Fit P xs ys → greatest f xs ≡ greatest g ys
greatest_fit P f g same [] [] h = refl
greatest_fit P f g same [] (y ∷ ys) h = absurd h
greatest_fit P f g same (x ∷ xs) [] h = absurd h
greatest_fit P f g same (x ∷ xs) (y ∷ ys) h = ap₂ max (same x y h.0) (greatest_fit P f g same xs ys h.1)

pub greatest_mapped : {A B : Type 0} (g : B → ℕ) (f : A → B) (xs : List A) → greatest g (map f xs) ≡ greatest (λ x. g (f x)) xs
greatest_mapped g f [] = refl
greatest_mapped g f (x ∷ xs) = ap (max (g (f x))) (greatest_mapped g f xs)

-- ---- the words of a step

module _ (width : ℕ) where
  step_sets : (code : StepCode) (point : p.Point) → Does code point → words_set_by width code ≡ words_set width point
  step_sets (step.Declare variable value next) (p.Put (t.Declare number x e) then) h = refl
  step_sets (step.Assign variable value next) (p.Put (t.Assign number (t.Scalar x) e) then) h = refl
  step_sets (step.Change variable change value next) (p.Put (t.Change number (t.Scalar x) type op in_type e) then) h = refl
  step_sets (step.AssignElement array index value next) (p.Put (t.Assign number (t.ElementOf stored rate i) e) then) h = refl
  step_sets (step.ChangeElement array index change value next) (p.Put (t.Change number (t.ElementOf stored rate i) type op in_type e) then) h = refl
  step_sets (step.PackedStore array from value result_for next) (p.Put (t.PackedStore number stored index e for) then) h = refl
  step_sets (step.PackedLoad array from into result_for next) (p.Put (t.PackedLoad number loaded index x for) then) h = refl
  step_sets (step.Return value next) (p.Put (t.Return number e) then) h = refl
  step_sets (step.Check test next) (p.Put (t.Check number e) then) h = refl
  step_sets (step.Go next) (p.Go then) h = refl
  step_sets (step.Branch test yes' no') (p.Branch e on off) h = refl
  step_sets (step.Choose selector segments next) (p.Choose e labelled entries then) h = refl
  step_sets (step.Begin form rounds next) (p.Begin f turns then) h = refl
  step_sets (step.Round form body) (p.Turn begin) h = refl
  step_sets (step.Enter function args result_for next) (p.Enter called given for then) h = ap (λ n. n * width + width + 5) (fit_long IsArg args.items given h.1)
  step_sets code point h = absurd h

  steps_set : (steps : List StepCode) (points : List p.Point) → DoAll steps points → most_set width steps ≡ greatest (words_set width) points
  steps_set steps points = greatest_fit Does (words_set_by width) (words_set width) step_sets steps points

  pub cells_same : (functions : List (Vec StepCode Global)) (program : t.Program) → DoEach functions (map points_in program.functions) → cells_by width functions ≡ cells_of width program
  cells_same functions program h =
      ap (max (words_left width))
      (greatest_fit (λ steps points. DoAll steps.items points) (λ steps. most_set width steps.items) (greatest (words_set width)) (λ steps points. steps_set steps.items points)
      functions (map points_in program.functions) h
      ∙ greatest_mapped (greatest (words_set width)) points_in program.functions)

  -- with one more function
  pub cells_more : (functions : List (Vec StepCode Global)) (i : ℕ) (steps : Vec StepCode Global) → i < length functions → steps ≡ get_or functions i steps
      → cells_by width (take (i + 1) functions) ≡ max (cells_by width (take i functions)) (most_set width steps.items)
  cells_more functions i steps below is = omega (arith, greatest_more (λ (s : Vec StepCode Global). most_set width s.items) functions i steps below is)

  pub most_within : (functions : List (Vec StepCode Global)) (i : ℕ) (steps : Vec StepCode Global) → slice_get functions i ≡ Some steps → most_set width steps.items ≤ cells_by width functions
  most_within functions i steps is = omega (arith, greatest_enough (λ (s : Vec StepCode Global). most_set width s.items) functions i steps is)

  pub cells_by-few : (functions : List (Vec StepCode Global)) (variables : Variables) (most : ℕ) (program : t.Program) → IsWellScopedProgram variables most program
      → DoEach functions (map points_in program.functions) → cells_by width functions ≤ 9 * width + 16
  cells_by-few functions variables most program well_scoped does = omega (arith, cells_same functions program does, cells_few width variables most program well_scoped)
