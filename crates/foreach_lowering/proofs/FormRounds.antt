-- What holds of the rounds of one form holds of every form that is this one.
use Rattle.std.proofs.Common.{◌≡◌, sym, subst, ℕ, List, [], ◌∷◌}
use Rattle.gang_types.specs.Lanes.{Lanes}
use Rattle.gang_model.specs.Running.Rounds.{lone}
use Rattle.gang_model.specs.Types.Tree.{Expr, Var, RoundsOf, EachLane, EachValue}
use Rattle.foreach_lowering.specs.declared.rounds.Indices.TheVariants.{Uniform}
use Rattle.foreach_lowering.specs.Kept.{Takes, turns_left, kept_lanes, lane_turn}
use Rattle.foreach_lowering.specs.RoundViews.{index_store}

pub lane_form : (width : ℕ) (form : RoundsOf) (i : Var) (lanes these after : Lanes) (lane : ℕ) → form ≡ EachLane i → these ≡ lone width lane
    → ((i : Var) → Takes (EachLane i) width (kept_lanes lanes []) (lane_turn i width lane) (kept_lanes after []))
    → Takes form width (kept_lanes lanes []) (record { lanes = these; indices = index_store width form (Uniform lane) }) (kept_lanes after [])
lane_form width form i lanes these after lane is one h =
    subst (λ f. Takes f width (kept_lanes lanes []) (record { lanes = these; indices = index_store width f (Uniform lane) }) (kept_lanes after [])) (sym is)
    (subst (λ ls. Takes (EachLane i) width (kept_lanes lanes []) (record { lanes = ls; indices = (i.id, lane ∷ []) ∷ [] }) (kept_lanes after [])) (sym one) (h i))

pub value_form : (width : ℕ) (form : RoundsOf) (v : Var) (e : Expr) (lanes these after : Lanes) (values : List ℕ) (value : ℕ) → form ≡ EachValue v e
    → ((v : Var) → (e : Expr) → Takes (EachValue v e) width (kept_lanes lanes values) (record { lanes = these; indices = (v.id, value ∷ []) ∷ [] }) (kept_lanes after values))
    → Takes form width (kept_lanes lanes values) (record { lanes = these; indices = index_store width form (Uniform value) }) (kept_lanes after values)
value_form width form v e lanes these after values value is h =
    subst (λ f. Takes f width (kept_lanes lanes values) (record { lanes = these; indices = index_store width f (Uniform value) }) (kept_lanes after values)) (sym is) (h v e)

pub no_value_form : (width : ℕ) (form : RoundsOf) (v : Var) (e : Expr) (lanes : Lanes) (values : List ℕ) → form ≡ EachValue v e
    → ((v : Var) → (e : Expr) → turns_left (EachValue v e) width (kept_lanes lanes values) ≡ []) → turns_left form width (kept_lanes lanes values) ≡ []
no_value_form width form v e lanes values is h = subst (λ f. turns_left f width (kept_lanes lanes values) ≡ []) (sym is) (h v e)
