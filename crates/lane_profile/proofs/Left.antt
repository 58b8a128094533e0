-- The steps that are left of a run.
use Rattle.std.proofs.Common.{◌≡◌, refl, sym, ap, ◌∙◌, subst, ℕ, zero, suc, ◌+◌, ◌-◌, ◌<◌, ◌≤◌, ◌^◌, Bool, true, false, List, [], ◌∷◌, length, map, Option, Some, arith}
use Rattle.std.proofs.lemmas.List.{length-map}
use Rattle.gang_model.specs.Types.Tree.{Program}
use Rattle.gang_model.specs.Running.State.{State}
use Rattle.gang_model.specs.Running.Step.{Stepped, Fails, Goes, Over, step}
use Rattle.gang_model.specs.Debugger.Events.{gone}
use Rattle.gang_model.specs.Debugger.Debugger.{has_ended}
use Rattle.lane_picture.specs.declared.columns.StepsEnd.{StepsEnd}
use Rattle.lane_picture.specs.declared.columns.StepsEnd.TheVariants as end
use Rattle.lane_picture.specs.Seen.{state_after}
use Rattle.lane_picture.proofs.SeenColumns.{after_more}
use Rattle.lane_picture.proofs.Trying.{ended_over, over_ended}
use Rattle.gang_model.specs.Texts.Text.{Bytes}
use Rattle.lane_counts.specs.declared.names.Names.{Names}
use Rattle.lane_counts.specs.Naming.{Extends, HasName}
use Rattle.lane_counts.specs.Steps.{Stand}
use Rattle.lane_meetings.specs.Partings.{Measure, parted}
use Rattle.lane_meetings.specs.Pending.{Fits}
use Rattle.lane_meetings.proofs.Ends.{fits_parted}
use Rattle.lane_profile.specs.Counted.{IsNamed}
use Rattle.lane_profile.specs.Ran.{Stops}
use Rattle.lane_profile.specs.Stands.{stand_of, stands_of, states_tried, tried_at}

-- a name that is known stays known
pub named_by : (names final : Names) (functions below : List Bytes) (name : Bytes) → functions ≡ name ∷ below → HasName names name → Extends names final → IsNamed final functions
named_by names final functions below name is has extends = subst (IsNamed final) (sym is) (has.0, extends has.0 name has.1)

module _ (p : Program) (most : ℕ) (first : State) where
  -- where the steps stand that are left after so many
  abbrev pub stands_left : (taken : ℕ) → List Stand
  stands_left taken = stands_of p (most - taken) (state_after p taken first)

  pub all_left : stands_left 0 ≡ stands_of p most first
  all_left = let all : most - 0 ≡ most = omega arith in ap (λ n. stands_of p n first) all

  pub none_left : (taken : ℕ) → most ≤ taken → stands_left taken ≡ []
  none_left taken h = let none : most - taken ≡ 0 = omega (arith, h) in ap (λ n. stands_of p n (state_after p taken first)) none

  over_left : (n : ℕ) (state : State) → has_ended state ≡ true → stands_of p n state ≡ []
  over_left zero state ended = refl
  over_left (suc n) state ended = ap (λ st. map (stand_of p) (tried_at st state (states_tried p n))) (ended_over p state ended)

  pub ended_left : (taken : ℕ) (here : State) → here ≡ state_after p taken first → has_ended here ≡ true → stands_left taken ≡ []
  ended_left taken here stood ended = over_left (most - taken) (state_after p taken first) (subst (λ st. has_ended st ≡ true) stood ended)

  module _ (taken : ℕ) (below : taken < most) where
    next_of : most - taken ≡ suc (most - (taken + 1))
    next_of = omega (arith, below)

    -- a step that is done, with those behind it
    pub step_left : (here next : State) → here ≡ state_after p taken first → step p here ≡ Goes next → stands_left taken ≡ stand_of p here ∷ stands_left (taken + 1)
    step_left here next stood goes =
        let at = state_after p taken first in
        let does : step p at ≡ Goes next = ap (step p) (sym stood) ∙ goes in
        let after : next ≡ state_after p (taken + 1) first = sym (ap (λ st. gone st at) does) ∙ sym (after_more p taken first) in
        ap (λ n. stands_of p n at) next_of ∙ ap (λ st. map (stand_of p) (tried_at st at (states_tried p (most - (taken + 1))))) does
        ∙ ap (λ st. stand_of p at ∷ stands_of p (most - (taken + 1)) st) after ∙ ap (λ st. stand_of p st ∷ stands_left (taken + 1)) (sym stood)

    -- a step at which the run ends, and which there is
    pub last_left : (here : State) (ended : StepsEnd) → here ≡ state_after p taken first → has_ended here ≡ false → Stops p here ended → stands_left taken ≡ stand_of p here ∷ []
    last_left here end.Ended stood goes stops = absurd (cc (sym goes ∙ over_ended p here stops))
    last_left here (end.AtFault fault) stood goes stops =
        let at = state_after p taken first in
        ap (λ n. stands_of p n at) next_of ∙ ap (λ st. map (stand_of p) (tried_at st at (states_tried p (most - (taken + 1))))) (ap (step p) (sym stood) ∙ stops) ∙ ap (λ st. stand_of p st ∷ []) (sym stood)
    last_left here end.StepLimit stood goes stops = absurd stops

-- ---- how many steps there are

few_at : (most : ℕ) (came : Stepped) (state : State) (next : State → List State) → ((new : State) → length (next new) ≤ most) → length (tried_at came state next) ≤ suc most
few_at most Over state next few = omega arith
few_at most (Fails fault) state next few = omega arith
few_at most (Goes new) state next few = omega (arith, few new)

few_tried : (p : Program) (most : ℕ) (state : State) → length (states_tried p most state) ≤ most
few_tried p zero state = omega arith
few_tried p (suc most) state = few_at most (step p state) state (states_tried p most) (few_tried p most)

-- no sum over the partings of a run is past the words
pub fits_run : (p : Program) (most : ℕ) (first : State) → most < 2 ^ 32 → (measure : Measure) (chosen : ℕ → Option ℕ → Bool) → Fits (parted measure chosen (stands_of p most first))
fits_run p most first few measure chosen =
    let all : length (stands_of p most first) ≡ length (states_tried p most first) = length-map (states_tried p most first) (stand_of p) in
    fits_parted measure chosen (stands_of p most first) (omega (arith, all, few_tried p most first, few))
