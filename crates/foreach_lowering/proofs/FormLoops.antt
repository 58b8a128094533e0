-- The forms of points and of functions, one after another.
use Rattle.std.proofs.Common.{◌≡◌, sym, ap, ap₂, ◌∙◌, ℕ, zero, suc, ◌+◌, ◌<◌, ◌≤◌, List, [], ◌∷◌, ◌++◌, map, length, get_or, drop, arith, append_assoc}
use Rattle.std.specs.Prelude.{max, fold, Option}
use Rattle.std.proofs.lemmas.List.{append-nil, drop_all, drop_more, length-map}
use Rattle.gang_model.specs.Types.Tree.{RoundsOf, Function}
use Rattle.mask_states.specs.Points as p
use Rattle.mask_states.specs.Points.{points_in}
use Rattle.mask_lowering.specs.declared.point.Point.{Point}
use Rattle.mask_lowering.specs.PointViews.{point_view}
use Rattle.foreach_lowering.specs.Forms.{FormsOf, form_at, passed, function_forms}
use Rattle.foreach_lowering.proofs.NestedForms.{passing, told, function_told, function_nested}

-- the most forms round one of the points that follow, or before them
abbrev pub deepest : (most : ℕ) → List p.Point → (round : List RoundsOf) → ℕ
deepest most points round = fold (λ most round. max most (length round)) most (passing points round)

-- the points from the i-th on
points_from : (items : List Point) (i : ℕ) (x : Point) → i < length items → x ≡ get_or items i x → map point_view (drop i items) ≡ point_view x ∷ map point_view (drop (i + 1) items)
points_from items i x below is = ap (map point_view) (drop_more items i x below) ∙ ap (λ y. point_view y ∷ map point_view (drop (i + 1) items)) (sym is)

-- one point more has its form
pub told_more : (items : List Point) (i : ℕ) (x : Point) (whole made now : List (Option RoundsOf)) (form : Option RoundsOf) (round after : List RoundsOf) → i < length items → x ≡ get_or items i x
    → whole ≡ made ++ told (map point_view (drop i items)) round → form ≡ form_at (point_view x) round → after ≡ passed (point_view x) round → now ≡ made ++ form ∷ []
    → whole ≡ now ++ told (map point_view (drop (i + 1) items)) after
told_more items i x whole made now form round after below is before this next more =
    before
    ∙ ap (λ xs. made ++ told xs round) (points_from items i x below is)
    ∙ ap₂ (λ y rest. made ++ y ∷ told (map point_view (drop (i + 1) items)) rest) (sym this) (sym next)
    ∙ sym (append_assoc made (form ∷ []) (told (map point_view (drop (i + 1) items)) after))
    ∙ ap (λ xs. xs ++ told (map point_view (drop (i + 1) items)) after) (sym more)

pub deepest_more : (items : List Point) (i : ℕ) (x : Point) (whole most now : ℕ) (round after : List RoundsOf) → i < length items → x ≡ get_or items i x
    → whole ≡ deepest most (map point_view (drop i items)) round → after ≡ passed (point_view x) round → now ≡ max most (length round)
    → whole ≡ deepest now (map point_view (drop (i + 1) items)) after
deepest_more items i x whole most now round after below is before next more =
    before
    ∙ ap (λ xs. deepest most xs round) (points_from items i x below is)
    ∙ ap₂ (λ m rest. deepest m (map point_view (drop (i + 1) items)) rest) (sym more) (sym next)

-- all points are passed
pub told_all : (items : List Point) (i : ℕ) (whole made : List (Option RoundsOf)) (round : List RoundsOf) → length items ≤ i → whole ≡ made ++ told (map point_view (drop i items)) round → whole ≡ made
told_all items i whole made round past before = before ∙ ap (λ xs. made ++ told (map point_view xs) round) (drop_all i items past) ∙ append-nil made

pub deepest_all : (items : List Point) (i : ℕ) (whole most : ℕ) (round : List RoundsOf) → length items ≤ i → whole ≡ deepest most (map point_view (drop i items)) round → whole ≡ most
deepest_all items i whole most round past before = before ∙ ap (λ xs. deepest most (map point_view xs) round) (drop_all i items past)

-- so they are the forms of the function whose points they are
pub function_done : (f : Function) (points : List p.Point) (rounds : List (Option RoundsOf)) (depth : ℕ) → points ≡ points_in f → told points [] ≡ rounds → deepest 0 points [] ≡ depth
    → record { rounds = rounds; depth = depth } ≡ function_forms f
function_done f points rounds depth is told_is deepest_is =
    ap₂ (λ (r : List (Option RoundsOf)) (d : ℕ). record { rounds = r; depth = d })
    (sym told_is ∙ ap (λ xs. told xs []) is ∙ function_told f)
    (sym deepest_is ∙ ap (λ xs. deepest 0 xs []) is ∙ function_nested f)

-- ---- functions

module _ {V : Type 0} (view : V → List p.Point) where
  same_rest : (items : List V) (fs : List Function) (i : ℕ) (x : V) (forms : FormsOf) → map view items ≡ map points_in fs → i < length items → x ≡ get_or items i x
      → ((f : Function) → view x ≡ points_in f → forms ≡ function_forms f) → map function_forms (drop i fs) ≡ forms ∷ map function_forms (drop (i + 1) fs)
  same_rest [] fs i x forms e below is h = absurd (omega (arith, below))
  same_rest (y ∷ ys) [] i x forms e below is h = absurd cc
  same_rest (y ∷ ys) (f ∷ fs) zero x forms e below is h =
      let first : view y ≡ points_in f = cc in
      ap (λ (g : FormsOf). g ∷ map function_forms fs) (sym (h f (ap view is ∙ first)))
  same_rest (y ∷ ys) (f ∷ fs) (suc i) x forms e below is h =
      let rest : map view ys ≡ map points_in fs = cc in
      let more : suc (i + 1) ≡ suc i + 1 = omega arith in
      same_rest ys fs i x forms rest (omega (arith, below)) is h ∙ ap (λ n. forms ∷ map function_forms (drop n (f ∷ fs))) more

  -- one function more has its forms
  pub next_function : (items : List V) (fs : List Function) (i : ℕ) (x : V) (made now : List FormsOf) (forms : FormsOf) → map view items ≡ map points_in fs → i < length items → x ≡ get_or items i x
      → ((f : Function) → view x ≡ points_in f → forms ≡ function_forms f) → map function_forms fs ≡ made ++ map function_forms (drop i fs) → now ≡ made ++ forms ∷ []
      → map function_forms fs ≡ now ++ map function_forms (drop (i + 1) fs)
  next_function items fs i x made now forms e below is h before more =
      before
      ∙ ap (λ xs. made ++ xs) (same_rest items fs i x forms e below is h)
      ∙ sym (append_assoc made (forms ∷ []) (map function_forms (drop (i + 1) fs)))
      ∙ ap (λ xs. xs ++ map function_forms (drop (i + 1) fs)) (sym more)

  -- all functions have theirs
  pub all_functions : (items : List V) (fs : List Function) (i : ℕ) (made : List FormsOf) → map view items ≡ map points_in fs → length items ≤ i → map function_forms fs ≡ made ++ map function_forms (drop i fs)
      → made ≡ map function_forms fs
  all_functions items fs i made e past before =
      let long : length items ≡ length fs = sym (length-map items view) ∙ ap length e ∙ length-map fs points_in in
      sym (before ∙ ap (λ xs. made ++ map function_forms xs) (drop_all i fs (omega (arith, past, long))) ∙ append-nil made)
