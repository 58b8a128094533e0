-- The next round of `foreach_active` and of `foreach_unique` is that of the lowest lane of those still to come.
use Rattle.std.proofs.Common.{◌≡◌, refl, sym, ap, ap₂, ◌∙◌, subst, ℕ, zero, suc, ◌+◌, ◌<◌, Bool, true, false, List, [], ◌∷◌, map, length, replicate, slice_set, arith}
use Rattle.std.specs.Prelude.{not, ◌==◌, ◌&&◌}
use Rattle.std.proofs.lemmas.Bool.{eq-eqb, ne_eqb, eqb-true, eqb-false}
use Rattle.gang_types.specs.Lanes.{Lanes, has, no_lane, lowest, without, lanes_from, lanes_where}
use Rattle.gang_types.specs.LaneLaws.{same_lanes, length-lanes_where, has-lanes_where, length-without, has-without}
use Rattle.gang_model.specs.Running.Lanes.{at, members, members_from}
use Rattle.gang_model.specs.Running.Rounds.{distinct, lone}
use Rattle.gang_model.specs.Types.Tree.{Expr, EachLane, EachValue, Var}
use Rattle.foreach_lowering.specs.Kept.{lane_turn, value_turn, turns_left, other_lanes, Takes, kept_lanes}
use Rattle.foreach_lowering.proofs.BelowBounds.{same_test}
use Rattle.foreach_lowering.proofs.KeptRounds.{later, lanes_take, values_take}

members_none : (k : ℕ) (lanes : Lanes) → no_lane lanes ≡ true → members_from k lanes ≡ []
members_none k [] h = refl
members_none k (true ∷ lanes) h = absurd cc
members_none k (false ∷ lanes) h = members_none (suc k) lanes h

members_first : (k : ℕ) (lanes : Lanes) → no_lane lanes ≡ false → members_from k lanes ≡ (k + lowest lanes) ∷ members_from k (later lanes)
members_first k [] h = absurd cc
members_first k (true ∷ lanes) h = ap (λ j. j ∷ members_from (suc k) lanes) (omega arith)
members_first k (false ∷ lanes) h = members_first (suc k) lanes h ∙ ap (λ j. j ∷ members_from (suc k) (later lanes)) (omega arith)

first_member : (lanes : Lanes) → no_lane lanes ≡ false → members lanes ≡ lowest lanes ∷ members (later lanes)
first_member lanes h = members_first 0 lanes h ∙ ap (λ j. j ∷ members (later lanes)) (omega arith)

without_none : (lanes : Lanes) → without lanes (replicate (length lanes) false) ≡ lanes
without_none [] = refl
without_none (true ∷ lanes) = ap (λ ls. true ∷ ls) (without_none lanes)
without_none (false ∷ lanes) = ap (λ ls. false ∷ ls) (without_none lanes)

without_lowest : (lanes : Lanes) → no_lane lanes ≡ false → without lanes (slice_set (replicate (length lanes) false) (lowest lanes) true) ≡ later lanes
without_lowest [] h = absurd cc
without_lowest (true ∷ lanes) h = ap (λ ls. false ∷ ls) (without_none lanes)
without_lowest (false ∷ lanes) h = ap (λ ls. false ∷ ls) (without_lowest lanes h)

pub no_lane_left : (i : Var) (width : ℕ) (lanes : Lanes) → no_lane lanes ≡ true → turns_left (EachLane i) width (kept_lanes lanes []) ≡ []
no_lane_left i width lanes h = ap (map (lane_turn i width)) (members_none 0 lanes h)

pub lane_next : (i : Var) (width : ℕ) (lanes after : Lanes) → length lanes ≡ width → no_lane lanes ≡ false → after ≡ without lanes (slice_set (replicate width false) (lowest lanes) true)
    → Takes (EachLane i) width (kept_lanes lanes []) (lane_turn i width (lowest lanes)) (kept_lanes after [])
lane_next i width lanes after long some is =
    subst (λ ls. Takes (EachLane i) width (kept_lanes lanes []) (lane_turn i width (lowest lanes)) (kept_lanes ls []))
    (sym (is ∙ (ap (λ n. without lanes (slice_set (replicate n false) (lowest lanes) true)) (sym long) ∙ without_lowest lanes some)))
    (lanes_take i width lanes [] (lowest lanes) (members (later lanes)) (first_member lanes some))

-- the set of one lane
suc_test : (j k : ℕ) → (j == k) ≡ (suc j == suc k)
suc_test j k =
    same_test (j == k) (suc j == suc k) (λ e. eq-eqb (suc j) (suc k) (ap suc (eqb-true j k e)))
    (λ e. ne_eqb (suc j) (suc k) (λ h. eqb-false j k e (omega (arith, h))))

pub lone_is : (width k : ℕ) → k < width → slice_set (replicate width false) k true ≡ lone width k
lone_is zero k within = absurd (omega (arith, within))
lone_is (suc n) zero within = ap (λ ls. true ∷ ls) (none_is n 1 0 (omega arith))
  where
    none_is : (n j k : ℕ) → k < j → replicate n false ≡ lanes_from j n (λ i. i == k)
    none_is zero j k less = refl
    none_is (suc n) j k less = ap₂ (λ b ls. b ∷ ls) (sym (ne_eqb j k (λ e. absurd (omega (arith, e, less))))) (none_is n (suc j) k (omega (arith, less)))
lone_is (suc n) (suc k) within = ap₂ (λ b ls. b ∷ ls) (sym (ne_eqb 0 (suc k) (λ e. absurd (omega (arith, e))))) (lone_is n k (omega (arith, within)) ∙ further 0 n k)
  where
    further : (j n k : ℕ) → lanes_from j n (λ i. i == k) ≡ lanes_from (suc j) n (λ i. i == suc k)
    further j zero k = refl
    further j (suc n) k = ap₂ (λ b ls. b ∷ ls) (suc_test j k) (further (suc j) n k)

-- ---- values

pub no_value_left : (v : Var) (e : Expr) (width : ℕ) (lanes : Lanes) (values : List ℕ) → no_lane lanes ≡ true → turns_left (EachValue v e) width (kept_lanes lanes values) ≡ []
no_value_left v e width lanes values h = ap (λ ks. map (value_turn v lanes values) (distinct [] (map (at values) ks))) (members_none 0 lanes h)

-- the others are those without them
others_are : (lanes : Lanes) (values : List ℕ) (value : ℕ) → without lanes (lanes_where lanes (λ k. at values k == value)) ≡ other_lanes lanes values value
others_are lanes values value =
    same_lanes (without lanes (lanes_where lanes (λ k. at values k == value))) (other_lanes lanes values value)
    (length-without lanes (lanes_where lanes (λ k. at values k == value)) ∙ sym (length-lanes_where lanes (λ k. not (at values k == value))))
    (λ k. has-without lanes (lanes_where lanes (λ k. at values k == value)) k
    ∙ (ap (λ b. has lanes k && not b) (has-lanes_where lanes (λ k. at values k == value) k)
    ∙ (dropped (has lanes k) (at values k == value) ∙ sym (has-lanes_where lanes (λ k. not (at values k == value)) k))))
  where
    dropped : (a b : Bool) → (a && not (a && b)) ≡ (a && not b)
    dropped true b = refl
    dropped false b = refl

pub value_next : (v : Var) (e : Expr) (width : ℕ) (lanes equal after : Lanes) (values : List ℕ) (value : ℕ) → no_lane lanes ≡ false → value ≡ at values (lowest lanes)
    → equal ≡ lanes_where lanes (λ k. at values k == value) → after ≡ without lanes equal
    → Takes (EachValue v e) width (kept_lanes lanes values) (record { lanes = equal; indices = (v.id, value ∷ []) ∷ [] }) (kept_lanes after values)
value_next v e width lanes equal after values value some is those rest =
    subst (λ ls. Takes (EachValue v e) width (kept_lanes lanes values) (record { lanes = equal; indices = (v.id, value ∷ []) ∷ [] }) (kept_lanes ls values))
    (sym (rest ∙ (ap (without lanes) those ∙ others_are lanes values value)))
    (subst (λ ls. Takes (EachValue v e) width (kept_lanes lanes values) (record { lanes = ls; indices = (v.id, value ∷ []) ∷ [] }) (kept_lanes (other_lanes lanes values value) values)) (sym those)
    (subst (λ x. Takes (EachValue v e) width (kept_lanes lanes values) (value_turn v lanes values x) (kept_lanes (other_lanes lanes values x) values)) (sym is)
    (values_take v e width lanes values (lowest lanes) (members (later lanes)) (first_member lanes some))))
