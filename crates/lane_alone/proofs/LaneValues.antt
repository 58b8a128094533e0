-- The value of an expression in one lane: alone it is what it is among others.
use Rattle.std.proofs.Common.{◌≡◌, refl, sym, ap, ◌∙◌, subst, ℕ, Bool, true, false, List, Option, Some, None}
use Rattle.std.specs.Prelude.{Ok, not, ◌&&◌, ◌||◌, ◌==◌, if◌then◌else◌}
use Rattle.gang_types.specs.declared.places.VarId.{VarId}
use Rattle.gang_types.specs.Values.{unary_of, binary_result, converted}
use Rattle.gang_types.specs.Lanes.{Lanes, has, lanes_where}
use Rattle.gang_model.specs.Running.Lanes.{at, holds, truth_word}
use Rattle.gang_model.specs.Running.Library.{of_one, of_two}
use Rattle.gang_model.specs.Types.Tree.{Program, Expr, Number, ProgramIndex, Read, Element, Unary, Binary, Convert, And, Or, Choice, OfOne, OfTwo, Select}
use Rattle.gang_model.specs.Running.State.{State, seen, view_of, words_in}
use Rattle.gang_model.specs.Running.Value.{value, element}
use Rattle.gang_model.specs.Running.Step.{initial}
use Rattle.gang_model.specs.Running.SeparateInstances.{IsArrayId}
use Rattle.lane_alone.specs.Fits.{Locals, Known, FitsExpr, FitsOption}
use Rattle.lane_alone.proofs.Follows.{Follows, follows_bind, AtLane, Part, part_where, where_has, follows_each, follows_tried}
use Rattle.gang_model.proofs.UniformValues.{has_where}

both_and : (p q r s : Bool) → p ≡ q → (q ≡ true → r ≡ s) → (p && r) ≡ (q && s)
both_and p true r s e h = subst (λ b. (b && r) ≡ (true && s)) (sym e) (h refl)
both_and p false r s e h = subst (λ b. (b && r) ≡ (false && s)) (sym e) refl

both_or : (p q r s : Bool) → p ≡ q → (not q ≡ true → r ≡ s) → (p || r) ≡ (q || s)
both_or p true r s e h = subst (λ b. (b || r) ≡ (true || s)) (sym e) refl
both_or p false r s e h = subst (λ b. (b || r) ≡ (false || s)) (sym e) (h refl)

both_choose : (p q : Bool) (u v x y : ℕ) → p ≡ q → (q ≡ true → u ≡ x) → (not q ≡ true → v ≡ y) → (if p then u else v) ≡ (if q then x else y)
both_choose p true u v x y e h k = subst (λ b. (if b then u else v) ≡ x) (sym e) (h refl)
both_choose p false u v x y e h k = subst (λ b. (if b then u else v) ≡ y) (sym e) (k refl)

two : {A B C : Type 0} (f : A → B → C) {a c : A} {b d : B} → a ≡ c → b ≡ d → f a b ≡ f c d
two f {a = a} {d = d} e h = ap (f a) h ∙ ap (λ z. f z d) e

-- what lane k sees is the same in two states
pub record SeesAlike (p : Program) (known : Locals) (k : ℕ) (state other : State) : Type 0 where
  pub words : (v : VarId) → Known p known v → at (words_in state v) k ≡ at (words_in other v) k
  pub elements : (v : VarId) → IsArrayId p v → (i : ℕ) → element state (view_of state v) i ≡ element other (view_of other v) i

module _ (p : Program) (known : Locals) (k : ℕ) (state other : State) where
  holds_same : (alone : Lanes) (xs ys : List ℕ) → AtLane k alone xs ys → has alone k ≡ true → holds xs k ≡ holds ys k
  holds_same alone xs ys h m = ap (λ n. not (n == 0)) (h m)

  -- the value in lane k is the same, wherever lane k evaluates the expression; the other state's lanes are lane k at most
  pub value_alone : (e : Expr) → FitsExpr p known e → (lanes alone : Lanes) → Part k lanes alone → (has alone k ≡ true → SeesAlike p known k state other)
      → Follows (AtLane k alone) (value e lanes state) (value e alone other)
  value_alone (Number n) fits lanes alone part sees = follows_each k lanes alone _ _ part (λ m. refl)
  value_alone ProgramIndex fits lanes alone part sees = follows_each k lanes alone _ _ part (λ m. refl)
  value_alone (Read v) fits lanes alone part sees =
      subst (λ rate. Follows (AtLane k alone) (Ok (seen rate lanes (words_in state v.id))) (Ok (seen rate alone (words_in other v.id)))) (sym fits.0)
      (follows_each k lanes alone _ _ part (λ m. (sees m).words v.id fits.1))
  value_alone (Element array index) fits lanes alone part sees = follows_bind (AtLane k alone) (AtLane k alone) (value index lanes state) (value index alone other) _ _
      (value_alone index fits.1 lanes alone part sees)
      (λ x y h. follows_tried k lanes alone _ _ part (λ m. ap (element state (view_of state array)) (h m) ∙ (sees m).elements array fits.0 (at y k)))
  value_alone (Unary op type a) fits lanes alone part sees = follows_bind (AtLane k alone) (AtLane k alone) (value a lanes state) (value a alone other) _ _
      (value_alone a fits lanes alone part sees) (λ x y h. follows_each k lanes alone _ _ part (λ m. ap (unary_of op type) (h m)))
  value_alone (Convert from to a) fits lanes alone part sees = follows_bind (AtLane k alone) (AtLane k alone) (value a lanes state) (value a alone other) _ _
      (value_alone a fits lanes alone part sees) (λ x y h. follows_each k lanes alone _ _ part (λ m. ap (converted from to) (h m)))
  value_alone (OfOne f type a) fits lanes alone part sees = follows_bind (AtLane k alone) (AtLane k alone) (value a lanes state) (value a alone other) _ _
      (value_alone a fits lanes alone part sees) (λ x y h. follows_each k lanes alone _ _ part (λ m. ap (of_one f type) (h m)))
  value_alone (Binary op type a b) fits lanes alone part sees = follows_bind (AtLane k alone) (AtLane k alone) (value a lanes state) (value a alone other) _ _
      (value_alone a fits.0 lanes alone part sees)
      (λ x x' h. follows_bind (AtLane k alone) (AtLane k alone) (value b lanes state) (value b alone other) _ _ (value_alone b fits.1 lanes alone part sees)
      (λ y y' g. follows_tried k lanes alone _ _ part (λ m. two (binary_result op type) (h m) (g m))))
  value_alone (OfTwo f type a b) fits lanes alone part sees = follows_bind (AtLane k alone) (AtLane k alone) (value a lanes state) (value a alone other) _ _
      (value_alone a fits.0 lanes alone part sees)
      (λ x x' h. follows_bind (AtLane k alone) (AtLane k alone) (value b lanes state) (value b alone other) _ _ (value_alone b fits.1 lanes alone part sees)
      (λ y y' g. follows_each k lanes alone _ _ part (λ m. two (of_two f type) (h m) (g m))))
  value_alone (And a b) fits lanes alone part sees = follows_bind (AtLane k alone) (AtLane k alone) (value a lanes state) (value a alone other) _ _
      (value_alone a fits.0 lanes alone part sees)
      (λ x x' h.
      let right : Part k (lanes_where lanes (holds x)) (lanes_where alone (holds x')) = part_where k lanes alone (holds x) (holds x') part (holds_same alone x x' h) in
      follows_bind (AtLane k (lanes_where alone (holds x'))) (AtLane k alone) (value b (lanes_where lanes (holds x)) state) (value b (lanes_where alone (holds x')) other) _ _
      (value_alone b fits.1 _ _ right (λ m. sees (where_has alone (holds x') k m)))
      (λ y y' g. follows_each k lanes alone _ _ part (λ m. ap truth_word (both_and (holds x k) (holds x' k) (holds y k) (holds y' k) (holds_same alone x x' h m)
      (λ t. ap (λ n. not (n == 0)) (g (has_where alone (holds x') k m t)))))))
  value_alone (Or a b) fits lanes alone part sees = follows_bind (AtLane k alone) (AtLane k alone) (value a lanes state) (value a alone other) _ _
      (value_alone a fits.0 lanes alone part sees)
      (λ x x' h.
      let right : Part k (lanes_where lanes (λ j. not (holds x j))) (lanes_where alone (λ j. not (holds x' j))) = part_where k lanes alone (λ j. not (holds x j)) (λ j. not (holds x' j)) part (λ m. ap not (holds_same alone x x' h m)) in
      follows_bind (AtLane k (lanes_where alone (λ j. not (holds x' j)))) (AtLane k alone) (value b (lanes_where lanes (λ j. not (holds x j))) state) (value b (lanes_where alone (λ j. not (holds x' j))) other) _ _
      (value_alone b fits.1 _ _ right (λ m. sees (where_has alone (λ j. not (holds x' j)) k m)))
      (λ y y' g. follows_each k lanes alone _ _ part (λ m. ap truth_word (both_or (holds x k) (holds x' k) (holds y k) (holds y' k) (holds_same alone x x' h m)
      (λ t. ap (λ n. not (n == 0)) (g (has_where alone (λ j. not (holds x' j)) k m t)))))))
  value_alone (Choice c a b) fits lanes alone part sees = follows_bind (AtLane k alone) (AtLane k alone) (value c lanes state) (value c alone other) _ _
      (value_alone c fits.0 lanes alone part sees)
      (λ z z' f.
      let yes' : Part k (lanes_where lanes (holds z)) (lanes_where alone (holds z')) = part_where k lanes alone (holds z) (holds z') part (holds_same alone z z' f) in
      let no' : Part k (lanes_where lanes (λ j. not (holds z j))) (lanes_where alone (λ j. not (holds z' j))) = part_where k lanes alone (λ j. not (holds z j)) (λ j. not (holds z' j)) part (λ m. ap not (holds_same alone z z' f m)) in
      follows_bind (AtLane k (lanes_where alone (holds z'))) (AtLane k alone) (value a (lanes_where lanes (holds z)) state) (value a (lanes_where alone (holds z')) other) _ _
      (value_alone a fits.1 _ _ yes' (λ m. sees (where_has alone (holds z') k m)))
      (λ x x' h. follows_bind (AtLane k (lanes_where alone (λ j. not (holds z' j)))) (AtLane k alone) (value b (lanes_where lanes (λ j. not (holds z j))) state) (value b (lanes_where alone (λ j. not (holds z' j))) other) _ _
      (value_alone b fits.2 _ _ no' (λ m. sees (where_has alone (λ j. not (holds z' j)) k m)))
      (λ y y' g. follows_each k lanes alone _ _ part (λ m. both_choose (holds z k) (holds z' k) (at x k) (at y k) (at x' k) (at y' k) (holds_same alone z z' f m)
      (λ t. h (has_where alone (holds z') k m t)) (λ t. g (has_where alone (λ j. not (holds z' j)) k m t))))))
  value_alone (Select c a b) fits lanes alone part sees = follows_bind (AtLane k alone) (AtLane k alone) (value c lanes state) (value c alone other) _ _
      (value_alone c fits.0 lanes alone part sees)
      (λ z z' f. follows_bind (AtLane k alone) (AtLane k alone) (value a lanes state) (value a alone other) _ _ (value_alone a fits.1 lanes alone part sees)
      (λ x x' h. follows_bind (AtLane k alone) (AtLane k alone) (value b lanes state) (value b alone other) _ _ (value_alone b fits.2 lanes alone part sees)
      (λ y y' g. follows_each k lanes alone _ _ part (λ m. both_choose (holds z k) (holds z' k) (at x k) (at y k) (at x' k) (at y' k) (holds_same alone z z' f m) (λ t. h m) (λ t. g m)))))
  value_alone e fits lanes alone part sees = absurd fits

  pub initial_alone : (e : Option Expr) → FitsOption p known e → (lanes alone : Lanes) → Part k lanes alone → (has alone k ≡ true → SeesAlike p known k state other)
      → Follows (AtLane k alone) (initial e lanes state) (initial e alone other)
  initial_alone None fits lanes alone part sees = follows_each k lanes alone _ _ part (λ m. refl)
  initial_alone (Some e) fits lanes alone part sees = value_alone e fits lanes alone part sees
