-- The points of a function from those of its body, and of functions one after another.
use Rattle.std.proofs.Common.{◌≡◌, ℕ, zero, suc, ◌+◌, ◌<◌, List, [], ◌∷◌, ◌++◌, map, length, get_or, take, refl, ap, sym, ◌∙◌, arith, Vec, Global}
use Rattle.std.specs.Prelude.{Some, reverse, slice_get}
use Rattle.std.proofs.lemmas.List.{append-nil, map-append, reverse-append, take_more}
use Rattle.gang_model.specs.Types.Tree as t
use Rattle.gang_model.specs.Running.Step.{steps_of}
use Rattle.gang_model.specs.Running.RunningOrder.{IsNumbered}
use Rattle.typed_tree.specs.declared.program.Function.{Function}
use Rattle.typed_tree.specs.Views.{function_view}
use Rattle.mask_states.specs.Points.{Ways, entry_of, function_ways, points_of}
use Rattle.mask_lowering.specs.declared.point.Point.{Point}
use Rattle.mask_lowering.specs.PointViews.{point_view}
use Rattle.mask_lowering.specs.Lowering.{Lowered, in_order}
use Rattle.mask_lowering.specs.Views.{IsFunctionLowered}

map_reverse : {A B : Type 0} (f : A → B) (list : List A) → map f (reverse list) ≡ reverse (map f list)
map_reverse f [] = refl
map_reverse f (x ∷ list) =
    ap (map f) (reverse-append (x ∷ []) list)
    ∙ map-append f (reverse list) (x ∷ [])
    ∙ ap (λ l. l ++ f x ∷ []) (map_reverse f list)
    ∙ sym (reverse-append (f x ∷ []) (map f list))

pub function_lowered : (f : t.Function) (closing : ℕ) (old new : List Point) (out : Vec Point Global) (ways : Ways) (entry : ℕ) → closing ≡ steps_of f.body → old ≡ [] → ways ≡ function_ways f
    → Lowered closing old new f.body ways entry → out.items ≡ reverse new → IsNumbered 0 f.body → IsFunctionLowered f (entry, out)
function_lowered f closing old new out ways entry ends none same made turned numbered =
    let l : length old ≡ 0 = ap length none in
    let b = made.placed 0 numbered (omega arith) in (
      b.waits ∙ ap (λ (ways : Ways). entry_of f.body ways.next) same,
      ap (map point_view) turned
          ∙ map_reverse point_view new
          ∙ b.points
          ∙ ap (λ list. points_of f.body ways ++ in_order list) none
          ∙ append-nil (points_of f.body ways)
          ∙ ap (points_of f.body) same,
    )

function_at : (items : List Function) (i : ℕ) (f : Function) → i < length items → f ≡ get_or items i f → slice_get (map function_view items) i ≡ Some (function_view f)
function_at [] i f below is = absurd (omega arith)
function_at (x ∷ items) zero f below is = ap (λ y. Some (function_view y)) (sym is)
function_at (x ∷ items) (suc i) f below is = function_at items i f (omega arith) is

-- what is said of each function, for one function more
pub next_function : {A B : Type 0} (view : A → B) (of : t.Function → B) (items all : List Function) (made next : List A) (i : ℕ) (f : Function) (x : A) → items ≡ all → i < length items → f ≡ get_or items i f
    → ((n : ℕ) (g : t.Function) → slice_get (map function_view all) n ≡ Some g → IsNumbered 0 g.body)
    → (IsNumbered 0 (function_view f).body → view x ≡ of (function_view f)) → map view made ≡ map of (map function_view (take i items))
    → next ≡ made ++ x ∷ [] → map view next ≡ map of (map function_view (take (i + 1) items))
next_function view of items all made next i f x same below is numbered lowered before pushed =
    let there = ap (λ list. slice_get (map function_view list) i) (sym same) ∙ function_at items i f below is in
    let of_one = lowered (numbered i (function_view f) there) in
    ap (map view) pushed
    ∙ map-append view made (x ∷ [])
    ∙ ap (λ list. list ++ view x ∷ []) before
    ∙ ap (λ y. map of (map function_view (take i items)) ++ y ∷ []) of_one
    ∙ sym (map-append of (map function_view (take i items)) (function_view f ∷ []))
    ∙ ap (map of) (sym (map-append function_view (take i items) (f ∷ [])))
    ∙ ap (λ y. map of (map function_view (take i items ++ y ∷ []))) is
    ∙ ap (λ list. map of (map function_view list)) (sym (take_more items i f below))
