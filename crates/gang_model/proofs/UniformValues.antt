-- A uniform expression has equal values in all lanes that evaluate it.
use Rattle.std.proofs.Common.{◌≡◌, refl, sym, ap, ◌∙◌, subst, ℕ, zero, suc, ◌+◌, Bool, true, false, List, [], ◌∷◌, arith}
use Rattle.std.specs.Prelude.{Result, Ok, Err, IfOk, MatchResult, not, ◌&&◌, ◌||◌, ◌==◌, if◌then◌else◌}
use Rattle.gang_types.specs.declared.faults.FaultName.{FaultName}
use Rattle.gang_types.specs.Values.{unary_of, binary_result, converted}
use Rattle.gang_types.specs.Lanes.{Lanes, has, lanes_where}
use Rattle.gang_types.specs.LaneLaws.{has-lanes_where}
use Rattle.gang_model.specs.Running.Lanes.{Fault, words_from, each, tried_from, try_each, at, holds, truth_word}
use Rattle.gang_model.specs.Running.Library.{lane_value, of_one, of_two}
use Rattle.gang_model.specs.Types.Tree.{Expr, Number, ProgramCount, LaneMask, Read, Element, Unary, Binary, Convert, And, Or, Choice, Reduce, OfOne, OfTwo, Extract, Select}
use Rattle.gang_model.specs.Running.State.{State, seen, view_of, words_in}
use Rattle.gang_model.specs.Running.Value.{value, element}
use Rattle.gang_model.specs.Running.UniformExprs.{IsUniform, AreAlike}
use Rattle.gang_model.proofs.LaneWords.{if_ok_after, if_ok_bind, TriedFrom, FaultsFrom, tries, none_true, past}

-- ---- the values of lanes

pub at-words_from : (m : ℕ) (lanes : Lanes) (f : ℕ → ℕ) (k : ℕ) → has lanes k ≡ true → at (words_from m lanes f) k ≡ f (m + k)
at-words_from m [] f k h = absurd (none_true h)
at-words_from m (true ∷ lanes) f zero h = ap f (omega arith)
at-words_from m (false ∷ lanes) f zero h = absurd (none_true h)
at-words_from m (b ∷ lanes) f (suc k) h = at-words_from (suc m) lanes f k h ∙ ap f (past m k)

-- each lane of the set has its value
pub at-each : (lanes : Lanes) (f : ℕ → ℕ) (k : ℕ) → has lanes k ≡ true → at (each lanes f) k ≡ f k
at-each lanes f k h = at-words_from 0 lanes f k h ∙ ap f (omega arith)

-- a lane of the set that passes the test is among those that pass it
pub has_where : (lanes : Lanes) (test : ℕ → Bool) (k : ℕ) → has lanes k ≡ true → test k ≡ true → has (lanes_where lanes test) k ≡ true
has_where lanes test k h t = has-lanes_where lanes test k ∙ subst (λ b. (b && test k) ≡ true) (sym h) t

-- ---- equal values

alike-each : (lanes : Lanes) (f : ℕ → ℕ) → ((j k : ℕ) → has lanes j ≡ true → has lanes k ≡ true → f j ≡ f k) → AreAlike lanes (each lanes f)
alike-each lanes f same j k mj mk = at-each lanes f j mj ∙ same j k mj mk ∙ sym (at-each lanes f k mk)

word_or_zero : Result ℕ FaultName → ℕ
word_or_zero (Ok x) = x
word_or_zero (Err name) = 0

same_ok : (x y : ℕ) → (r s : Result ℕ FaultName) → r ≡ Ok x → s ≡ Ok y → r ≡ s → x ≡ y
unfolding word_or_zero
same_ok x y r s e f same = ap word_or_zero (sym e ∙ same ∙ f)

alike-tried : (lanes : Lanes) (f : ℕ → Result ℕ FaultName) → ((j k : ℕ) → has lanes j ≡ true → has lanes k ≡ true → f j ≡ f k) → IfOk (try_each lanes f) (AreAlike lanes)
alike-tried lanes f same = go (tried_from 0 lanes f) (tries 0 lanes f)
  where
    go : (r : Result (List ℕ) Fault) → MatchResult r (TriedFrom 0 lanes f) (FaultsFrom 0 lanes f) → IfOk r (AreAlike lanes)
    go (Ok xs) h = λ j k mj mk. same_ok (at xs j) (at xs k) (f (0 + j)) (f (0 + k)) (h j mj) (h k mk) (ap f (omega arith) ∙ same j k mj mk ∙ ap f (omega arith))
    go (Err fault) h = tt

alike-holds : (lanes : Lanes) (xs : List ℕ) → AreAlike lanes xs → (j k : ℕ) → has lanes j ≡ true → has lanes k ≡ true → holds xs j ≡ holds xs k
alike-holds lanes xs h j k mj mk = ap (λ n. not (n == 0)) (h j k mj mk)

-- ---- two lanes that take the same way

both_and : (p q r s : Bool) → p ≡ q → (p ≡ true → r ≡ s) → (p && r) ≡ (q && s)
both_and true q r s e h = subst (λ b. (true && r) ≡ (b && s)) e (h refl)
both_and false q r s e h = subst (λ b. (false && r) ≡ (b && s)) e refl

both_or : (p q r s : Bool) → p ≡ q → (not p ≡ true → r ≡ s) → (p || r) ≡ (q || s)
both_or true q r s e h = subst (λ b. (true || r) ≡ (b || s)) e refl
both_or false q r s e h = subst (λ b. (false || r) ≡ (b || s)) e (h refl)

both_choose : (p q : Bool) (u v x y : ℕ) → p ≡ q → (p ≡ true → u ≡ x) → (not p ≡ true → v ≡ y) → (if p then u else v) ≡ (if q then x else y)
both_choose true q u v x y e h k = subst (λ b. u ≡ (if b then x else y)) e (h refl)
both_choose false q u v x y e h k = subst (λ b. v ≡ (if b then x else y)) e (k refl)

two : {A B C : Type 0} (f : A → B → C) {a c : A} {b d : B} → a ≡ c → b ≡ d → f a b ≡ f c d
two f {a = a} {d = d} e h = ap (f a) h ∙ ap (λ z. f z d) e

-- ---- uniform expressions

pub alike-value : (e : Expr) → IsUniform e → (lanes : Lanes) (state : State) → IfOk (value e lanes state) (AreAlike lanes)
alike-value (Number n) u lanes state = alike-each lanes _ (λ j k mj mk. refl)
alike-value ProgramCount u lanes state = alike-each lanes _ (λ j k mj mk. refl)
alike-value LaneMask u lanes state = alike-each lanes _ (λ j k mj mk. refl)
alike-value (Read v) u lanes state =
    subst (λ rate. AreAlike lanes (seen rate lanes (words_in state v.id))) (sym u) (alike-each lanes _ (λ j k mj mk. refl))
alike-value (Element array index) u lanes state = if_ok_bind (AreAlike lanes) (AreAlike lanes) (value index lanes state) _ (alike-value index u lanes state)
    (λ i h. alike-tried lanes _ (λ j k mj mk. ap (element state (view_of state array)) (h j k mj mk)))
alike-value (Unary op type a) u lanes state = if_ok_bind (AreAlike lanes) (AreAlike lanes) (value a lanes state) _ (alike-value a u lanes state)
    (λ x h. alike-each lanes _ (λ j k mj mk. ap (unary_of op type) (h j k mj mk)))
alike-value (Convert from to a) u lanes state = if_ok_bind (AreAlike lanes) (AreAlike lanes) (value a lanes state) _ (alike-value a u lanes state)
    (λ x h. alike-each lanes _ (λ j k mj mk. ap (converted from to) (h j k mj mk)))
alike-value (OfOne f type a) u lanes state = if_ok_bind (AreAlike lanes) (AreAlike lanes) (value a lanes state) _ (alike-value a u lanes state)
    (λ x h. alike-each lanes _ (λ j k mj mk. ap (of_one f type) (h j k mj mk)))
alike-value (Reduce f type a) u lanes state = if_ok_after (AreAlike lanes) (value a lanes state) _ (λ x. alike-each lanes _ (λ j k mj mk. refl))
alike-value (Binary op type a b) u lanes state = if_ok_bind (AreAlike lanes) (AreAlike lanes) (value a lanes state) _ (alike-value a u.0 lanes state)
    (λ x h. if_ok_bind (AreAlike lanes) (AreAlike lanes) (value b lanes state) _ (alike-value b u.1 lanes state)
    (λ y g. alike-tried lanes _ (λ j k mj mk. two (binary_result op type) (h j k mj mk) (g j k mj mk))))
alike-value (OfTwo f type a b) u lanes state = if_ok_bind (AreAlike lanes) (AreAlike lanes) (value a lanes state) _ (alike-value a u.0 lanes state)
    (λ x h. if_ok_bind (AreAlike lanes) (AreAlike lanes) (value b lanes state) _ (alike-value b u.1 lanes state)
    (λ y g. alike-each lanes _ (λ j k mj mk. two (of_two f type) (h j k mj mk) (g j k mj mk))))
alike-value (Extract a index) u lanes state = if_ok_after (AreAlike lanes) (value a lanes state) _
    (λ x. if_ok_bind (AreAlike lanes) (AreAlike lanes) (value index lanes state) _ (alike-value index u lanes state)
    (λ i h. alike-tried lanes _ (λ j k mj mk. ap (lane_value x) (h j k mj mk))))
alike-value (And a b) u lanes state = if_ok_bind (AreAlike lanes) (AreAlike lanes) (value a lanes state) _ (alike-value a u.0 lanes state)
    (λ x h. if_ok_bind (AreAlike (lanes_where lanes (holds x))) (AreAlike lanes) (value b (lanes_where lanes (holds x)) state) _ (alike-value b u.1 _ state)
    (λ y g. alike-each lanes _ (λ j k mj mk.
    let same : holds x j ≡ holds x k = alike-holds lanes x h j k mj mk in
    ap truth_word (both_and (holds x j) (holds x k) (holds y j) (holds y k) same
    (λ t. alike-holds (lanes_where lanes (holds x)) y g j k (has_where lanes _ j mj t) (has_where lanes _ k mk (sym same ∙ t)))))))
alike-value (Or a b) u lanes state = if_ok_bind (AreAlike lanes) (AreAlike lanes) (value a lanes state) _ (alike-value a u.0 lanes state)
    (λ x h. if_ok_bind (AreAlike (lanes_where lanes (λ k. not (holds x k)))) (AreAlike lanes) (value b (lanes_where lanes (λ k. not (holds x k))) state) _ (alike-value b u.1 _ state)
    (λ y g. alike-each lanes _ (λ j k mj mk.
    let same : holds x j ≡ holds x k = alike-holds lanes x h j k mj mk in
    ap truth_word (both_or (holds x j) (holds x k) (holds y j) (holds y k) same
    (λ t. alike-holds (lanes_where lanes (λ k. not (holds x k))) y g j k (has_where lanes _ j mj t) (has_where lanes _ k mk (sym (ap not same) ∙ t)))))))
alike-value (Choice c a b) u lanes state = if_ok_bind (AreAlike lanes) (AreAlike lanes) (value c lanes state) _ (alike-value c u.0 lanes state)
    (λ z f. if_ok_bind (AreAlike (lanes_where lanes (holds z))) (AreAlike lanes) (value a (lanes_where lanes (holds z)) state) _ (alike-value a u.1 _ state)
    (λ x h. if_ok_bind (AreAlike (lanes_where lanes (λ k. not (holds z k)))) (AreAlike lanes) (value b (lanes_where lanes (λ k. not (holds z k))) state) _ (alike-value b u.2 _ state)
    (λ y g. alike-each lanes _ (λ j k mj mk.
    let same : holds z j ≡ holds z k = alike-holds lanes z f j k mj mk in
    both_choose (holds z j) (holds z k) (at x j) (at y j) (at x k) (at y k) same
    (λ t. h j k (has_where lanes _ j mj t) (has_where lanes _ k mk (sym same ∙ t)))
    (λ t. g j k (has_where lanes _ j mj t) (has_where lanes _ k mk (sym (ap not same) ∙ t)))))))
alike-value (Select c a b) u lanes state = if_ok_bind (AreAlike lanes) (AreAlike lanes) (value c lanes state) _ (alike-value c u.0 lanes state)
    (λ z f. if_ok_bind (AreAlike lanes) (AreAlike lanes) (value a lanes state) _ (alike-value a u.1 lanes state)
    (λ x h. if_ok_bind (AreAlike lanes) (AreAlike lanes) (value b lanes state) _ (alike-value b u.2 lanes state)
    (λ y g. alike-each lanes _ (λ j k mj mk.
    both_choose (holds z j) (holds z k) (at x j) (at y j) (at x k) (at y k) (alike-holds lanes z f j k mj mk) (λ t. h j k mj mk) (λ t. g j k mj mk)))))
alike-value e u lanes state = absurd u
