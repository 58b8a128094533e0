-- Points that were made last to first, in running order.
use Rattle.std.proofs.Common.{◌≡◌, ℕ, List, [], ◌∷◌, ◌++◌, length, map, ap, sym, ◌∙◌, append_assoc}
use Rattle.std.specs.Prelude.{reverse, slice_set}
use Rattle.std.proofs.Math.Seq.{set-append_seam}
use Rattle.std.proofs.lemmas.List.{length-map, length-reverse, map-append, map-set, reverse-append, reverse-reverse}
use Rattle.mask_states.specs.Points as p
use Rattle.mask_lowering.specs.declared.point.Point.{Point}
use Rattle.mask_lowering.specs.PointViews.{point_view}
use Rattle.mask_lowering.specs.Lowering.{in_order}

-- one more
pub order_more : (old new : List Point) (x : Point) → new ≡ old ++ x ∷ [] → in_order new ≡ point_view x ∷ in_order old
order_more old new x made =
    ap in_order made ∙ ap reverse (map-append point_view old (x ∷ [])) ∙ reverse-append (map point_view old) (point_view x ∷ [])

backwards_first : {A : Type 0} (x : A) (list : List A) → reverse (x ∷ list) ≡ reverse list ++ x ∷ []
backwards_first x list = reverse-append (x ∷ []) list

-- a list read backwards, with one element in it changed
backwards_set : {A : Type 0} (list front base : List A) (x y : A) → reverse list ≡ front ++ x ∷ base → reverse (slice_set list (length base) y) ≡ front ++ y ∷ base
backwards_set list front base x y is =
    let whole : list ≡ reverse base ++ x ∷ reverse front =
    sym (reverse-reverse list) ∙ ap reverse is ∙ reverse-append front (x ∷ base) ∙ ap (λ l. l ++ reverse front) (backwards_first x base) ∙ append_assoc (reverse base) (x ∷ []) (reverse front) in
    ap (λ l. reverse (slice_set l (length base) y)) whole
    ∙ ap (λ n. reverse (slice_set (reverse base ++ x ∷ reverse front) n y)) (sym (length-reverse base))
    ∙ ap reverse (set-append_seam (reverse base) x (reverse front) y)
    ∙ reverse-append (reverse base) (y ∷ reverse front)
    ∙ ap (λ l. l ++ reverse (reverse base)) (backwards_first y (reverse front))
    ∙ ap (λ l. (reverse (reverse front) ++ y ∷ []) ++ l) (reverse-reverse base)
    ∙ append_assoc (reverse (reverse front)) (y ∷ []) base
    ∙ ap (λ l. l ++ y ∷ base) (reverse-reverse front)

-- the one behind so many others is changed
pub order_set : (old now new : List Point) (front : List p.Point) (x : p.Point) (y : Point) (n : ℕ) → in_order now ≡ front ++ x ∷ in_order old → n ≡ length old → new ≡ slice_set now n y
    → in_order new ≡ front ++ point_view y ∷ in_order old
order_set old now new front x y n is at made =
    let same : n ≡ length (in_order old) = at ∙ sym (length-map old point_view) ∙ sym (length-reverse (map point_view old)) in
    ap in_order made
    ∙ ap reverse (map-set point_view now n y)
    ∙ ap (λ k. reverse (slice_set (map point_view now) k (point_view y))) same
    ∙ backwards_set (map point_view now) front (in_order old) x (point_view y) is
