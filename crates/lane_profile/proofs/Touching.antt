-- What the accesses of a run touch, step by step.
use Rattle.std.proofs.Common.{◌≡◌, refl, sym, ap, ◌∙◌, subst, ℕ, zero, suc, ◌+◌, ◌-◌, ◌*◌, ◌^◌, ◌<◌, ◌≤◌, Bool, true, false, List, [], ◌∷◌, ◌++◌, drop, length, Option, Some, Result, Ok, Err, arith}
use Rattle.std.specs.Prelude.{◌==◌, ◌&&◌, if◌then◌else◌, nat_lt, unwrap_or}
use Rattle.std.proofs.lemmas.Bool.Decides.{nat_tests}
use Rattle.std.proofs.lemmas.List.{length-map}
use Rattle.gang_types.specs.Lanes.{Lanes}
use Rattle.gang_types.specs.declared.places.Spot.{Spot}
use Rattle.gang_types.specs.declared.types.IntType.{IntType}
use Rattle.gang_types.specs.declared.types.Rate.{Rate}
use Rattle.gang_model.specs.Source.Parsed.{ParsedExpr}
use Rattle.gang_model.specs.Types.Tree.{Program}
use Rattle.gang_model.specs.Types.Typing.{expression}
use Rattle.expression_runs.specs.Correct.{Computes}
use Rattle.gang_model.specs.Running.Lanes.{Fault}
use Rattle.gang_model.specs.Running.State.{Frame, State}
use Rattle.gang_model.specs.Running.Step.{Goes, step}
use Rattle.gang_model.specs.Running.Value.{value}
use Rattle.gang_model.specs.Debugger.Debugger.{Debugger, Setting, has_ended, now}
use Rattle.gang_model.specs.Debugger.Events.{gone}
use Rattle.gang_model.specs.Debugger.Positions.{call_at, lanes_now, spot_in, spot_now, top_spot}
use Rattle.typed_tree.specs.Views.{expr_view}
use Rattle.debug_traits.specs.Frames.{frames_at, spot_at, state_at}
use Rattle.frame_expressions.specs.Lanes.{called_lanes, lanes_at}
use Rattle.frame_expressions.specs.Meanings.{Means, entries_at}
use Rattle.lane_picture.specs.Seen.{state_after}
use Rattle.lane_picture.proofs.SeenColumns.{after_more}
use Rattle.lane_picture.proofs.Trying.{ended_over}
use Rattle.lane_picture.specs.declared.columns.StepsEnd.{StepsEnd}
use Rattle.lane_picture.specs.declared.columns.StepsEnd.TheVariants as end
use Rattle.lane_counts.specs.declared.tally.StepAt.{StepAt}
use Rattle.lane_counts.specs.Tallies.{IsAt}
use Rattle.element_touches.specs.declared.counts.AccessCounts.{AccessCounts}
use Rattle.element_touches.specs.Counted.{IsFew, counts_of, none, with_touches}
use Rattle.element_touches.proofs.Touching.{from_none, none_more, touch_more}
use Rattle.element_accesses.specs.declared.accesses.Access.{Access}
use Rattle.element_accesses.specs.Rows.{IsNoted, IsNotedOne, kept, stands_at}
use Rattle.element_accesses.specs.Touched.{is_at, is_same, touch_in, touch_of, touches, with_value}
use Rattle.lane_profile.specs.Counted.{IsTouched}
use Rattle.lane_profile.specs.Ran.{Stops}
use Rattle.lane_profile.specs.Stands.{done_at, stand_of, states_done}

-- ---- where the step stands that is tried

top_is : (p : Program) (frames : List Frame) (spot : Spot) → (length frames == 0) ≡ false → unwrap_or (top_spot p frames) (spot_in 0 0) ≡ spot → top_spot p frames ≡ Some spot
top_is p [] spot goes is = cc goes
top_is p (frame ∷ frames) spot goes is = ap Some is

-- the step of a state, as the machine tells it
pub record IsHere (p : Program) (state : State) (depth : ℕ) (spot : Spot) : Type 0 where
  pub top : spot_now p state ≡ Some spot
  pub told : spot_at p depth state ≡ Some spot
  pub lanes : lanes_at depth state ≡ lanes_now state
  pub whole : state_at depth state ≡ state

pub is_here : (p : Program) (state : State) (at : StepAt) → has_ended state ≡ false → IsAt at (stand_of p state) → IsHere p state at.depth at.spot
is_here p state at goes stands =
    let deep : length state.frames ≡ at.depth = sym (length-map state.frames _) ∙ stands.deep in
    let here : spot_now p state ≡ Some at.spot = top_is p state.frames at.spot goes stands.spot in
    let past : nat_lt at.depth (length state.frames) ≡ false = grind (arith, nat_tests) in
    let none_above : length state.frames - at.depth ≡ 0 = omega (arith, deep) in
    record {
      top = here;
      told = ap (λ b. if b then call_at (suc at.depth) state.frames else spot_now p state) past ∙ here;
      lanes = ap (λ b. if b then called_lanes (frames_at (suc at.depth) state.frames) else lanes_now state) past;
      whole = ap (λ n. record state { frames = drop n state.frames }) none_above;
    }

-- ---- the states that are left of a run

module _ (p : Program) (most : ℕ) (first : State) where
  abbrev pub states_left : (taken : ℕ) → List State
  states_left taken = states_done p (most - taken) (state_after p taken first)

  pub all_left : states_left 0 ≡ states_done p most first
  all_left = let all : most - 0 ≡ most = omega arith in ap (λ n. states_done p n first) all

  pub none_after_all : (taken : ℕ) → most ≤ taken → states_left taken ≡ []
  none_after_all taken h = let none : most - taken ≡ 0 = omega (arith, h) in ap (λ n. states_done p n (state_after p taken first)) none

  over_left : (n : ℕ) (state : State) → has_ended state ≡ true → states_done p n state ≡ []
  over_left zero state ended = refl
  over_left (suc n) state ended = ap (λ st. done_at st state (states_done p n)) (ended_over p state ended)

  pub none_after_end : (taken : ℕ) (here : State) → here ≡ state_after p taken first → has_ended here ≡ true → states_left taken ≡ []
  none_after_end taken here stood ended = over_left (most - taken) (state_after p taken first) (subst (λ st. has_ended st ≡ true) stood ended)

  module _ (taken : ℕ) (below : taken < most) where
    next_of : most - taken ≡ suc (most - (taken + 1))
    next_of = omega (arith, below)

    pub step_left : (here next : State) → here ≡ state_after p taken first → step p here ≡ Goes next → states_left taken ≡ here ∷ states_left (taken + 1)
    step_left here next stood goes =
        let at = state_after p taken first in
        let does : step p at ≡ Goes next = ap (step p) (sym stood) ∙ goes in
        let after : next ≡ state_after p (taken + 1) first = sym (ap (λ st. gone st at) does) ∙ sym (after_more p taken first) in
        ap (λ n. states_done p n at) next_of ∙ ap (λ st. done_at st at (states_done p (most - (taken + 1)))) does
        ∙ ap (λ st. at ∷ states_done p (most - (taken + 1)) st) after ∙ ap (λ st. st ∷ states_left (taken + 1)) (sym stood)

    -- a step at which the run ends is not done
    pub none_after_stop : (here : State) (ended : StepsEnd) → here ≡ state_after p taken first → Stops p here ended → states_left taken ≡ []
    none_after_stop here end.Ended stood stops =
        let at = state_after p taken first in
        ap (λ n. states_done p n at) next_of ∙ ap (λ st. done_at st at (states_done p (most - (taken + 1)))) (ap (step p) (sym stood) ∙ stops)
    none_after_stop here (end.AtFault fault) stood stops =
        let at = state_after p taken first in
        ap (λ n. states_done p n at) next_of ∙ ap (λ st. done_at st at (states_done p (most - (taken + 1)))) (ap (step p) (sym stood) ∙ stops)
    none_after_stop here end.StepLimit stood stops = absurd stops

-- ---- an access, after so many steps that are done

-- an access that was noted is there still
pub noted_row : {T : Type 0} (stands : T → Setting → Debugger → Type 0) (machine : T) (depth : ℕ) (spot : Spot) (old new : Option Access) (so_far : Access) → old ≡ Some so_far
    → IsNoted stands machine depth spot old new → (noted : Access) × (new ≡ Some noted) × IsNotedOne stands machine depth spot so_far noted
noted_row stands machine depth spot old new so_far is noted = subst (λ o. IsNoted stands machine depth spot o new) is noted

same_parts : (one other : Spot) → one.number ≡ other.number → one.function.0 ≡ other.function.0 → one ≡ other
same_parts one other number function = ap (λ n. record one { number = n }) number ∙ ap (λ n. record other { function = record { 0 = n } }) function

pub is_one : (one other : Spot) → is_same one other ≡ true → one ≡ other
is_one one other same =
    let number : one.number ≡ other.number = grind (arith, nat_tests) in
    let function : one.function.0 ≡ other.function.0 = grind (arith, nat_tests) in
    same_parts one other number function

value_more : (lanes : Lanes) (result : Result (List ℕ) Fault) (c : AccessCounts) (later : List (List ℕ)) → with_touches (with_value lanes result c) later ≡ with_touches c (touch_of lanes result ++ later)
value_more lanes (Ok indices) c later = touch_more c _ later
value_more lanes (Err fault) c later = refl

few_more : (n : ℕ) (c : AccessCounts) → IsFew (16 * n + 16) c → IsFew (16 * (n + 1)) c
few_more n c few = let more : 16 * n + 16 ≡ 16 * (n + 1) = omega arith in subst (λ most. IsFew most c) more few

few_steps : (n : ℕ) (c : AccessCounts) → n < 2 ^ 32 → IsFew (16 * n) c → IsFew (2 ^ 40) c
few_steps n c below few = record {
  times = omega (arith, below, few.times);
  lanes = omega (arith, below, few.lanes);
  elements = omega (arith, below, few.elements);
  consecutive = omega (arith, below, few.consecutive);
  equal = omega (arith, below, few.equal);
  scattered = omega (arith, below, few.scattered);
}

few_none : (c : AccessCounts) → c ≡ none → IsFew 0 c
few_none c is = subst (IsFew 0) (sym is) (record { times = omega arith; lanes = omega arith; elements = omega arith; consecutive = omega arith; equal = omega arith; scattered = omega arith })

module _ (p : Program) (most : ℕ) (first : State) where
  -- what is counted of an access after so many steps comes with what is left to what is to be counted
  pub record SoTouched (taken : ℕ) (old now : Access) : Type 0 where
    pub same : now ≡ record old { done = now.done; tried = now.tried }
    pub kept_is : now.tried ≡ now.done
    pub few : IsFew (16 * taken) now.done
    pub unsure : old.is_sure ≡ false → now.done ≡ none
    pub counts : old.is_sure ≡ true → (written : ParsedExpr) (type : IntType) (rate : Rate) (means : Means written (entries_at p old.spot) type rate old.code.items)
        → with_touches now.done (touches p old.spot (expr_view means.tree) (states_left p most first taken)) ≡ counts_of (touches p old.spot (expr_view means.tree) (states_done p most first))

  pub begun_touched : (old : Access) → old.done ≡ none → old.tried ≡ none → SoTouched 0 old old
  begun_touched old done tried = record {
    same = refl;
    kept_is = tried ∙ sym done;
    few = few_none old.done done;
    unsure = λ unsure. done;
    counts = λ sure written type rate means.
        let all = touches p old.spot (expr_view means.tree) (states_left p most first 0) in
        ap (λ c. with_touches c all) done ∙ from_none all ∙ ap (λ states. counts_of (touches p old.spot (expr_view means.tree) states)) (all_left p most first);
  }

  -- no step is left
  pub all_touched : (taken : ℕ) (old now after : Access) → SoTouched taken old now → states_left p most first taken ≡ [] → after ≡ record now { tried = after.tried } → IsTouched p most first old after
  all_touched taken old now after so left is =
      let done : after.done ≡ now.done = ap (λ (a : Access). a.done) is in
      record {
        same = is ∙ ap (λ (a : Access). record a { tried = after.tried }) so.same ∙ ap (λ c. record old { done = c; tried = after.tried }) (sym done);
        unsure = λ unsure. done ∙ so.unsure unsure;
        counts = λ sure written type rate means.
            done ∙ sym (none_more now.done) ∙ ap (λ states. with_touches now.done (touches p old.spot (expr_view means.tree) states)) (sym left) ∙ so.counts sure written type rate means;
      }

  -- a step more is done
  module _ {T : Type 0} (stands : T → Setting → Debugger → Type 0) (machine : T) (s : Setting) (d : Debugger) (is_program : s.program ≡ p) (there : stands machine s d)
      (taken : ℕ) (below : taken < most) (bound : most < 2 ^ 32) (depth : ℕ) (spot : Spot) (here : IsHere p (now s d) depth spot)
      (next : State) (stood : now s d ≡ state_after p taken first) (goes : step p (now s d) ≡ Goes next) (old now' noted : Access) (so : SoTouched taken old now')
      (one : IsNotedOne stands machine depth spot now' noted) where
    left : states_left p most first taken ≡ now s d ∷ states_left p most first (taken + 1)
    left = step_left p most first taken below (now s d) next stood goes

    spot_same : now'.spot ≡ old.spot
    spot_same = ap (λ (a : Access). a.spot) so.same

    -- where the access does not stand there
    not_here : stands_at now' spot ≡ false → noted.tried ≡ now'.done
    not_here elsewhere = ap (λ (a : Access). a.tried) (one.elsewhere elsewhere) ∙ so.kept_is

    counted : (b : Bool) → is_same old.spot spot ≡ b → old.is_sure ≡ true → (written : ParsedExpr) (type : IntType) (rate : Rate) (means : Means written (entries_at p old.spot) type rate old.code.items)
        → with_touches noted.tried (touches p old.spot (expr_view means.tree) (states_left p most first (taken + 1)))
        ≡ with_touches now'.done (touches p old.spot (expr_view means.tree) (states_left p most first taken))
    counted false other sure written type rate means =
        let index = expr_view means.tree in
        let rest = touches p old.spot index (states_left p most first (taken + 1)) in
        let elsewhere : stands_at now' spot ≡ false = ap (λ (a : Access). a.is_sure && is_same a.spot spot) so.same ∙ ap (λ b. b && is_same old.spot spot) sure ∙ other in
        ap (λ c. with_touches c rest) (not_here elsewhere)
        ∙ sym (ap (λ b. with_touches now'.done ((if b then touch_in index (now s d) else []) ++ rest)) (ap (is_at old.spot) here.top ∙ other))
        ∙ ap (λ states. with_touches now'.done (touches p old.spot index states)) (sym left)
    counted true same sure written type rate means =
        let index = expr_view means.tree in
        let rest = touches p old.spot index (states_left p most first (taken + 1)) in
        let standing : stands_at now' spot ≡ true = ap (λ (a : Access). a.is_sure && is_same a.spot spot) so.same ∙ ap (λ b. b && is_same old.spot spot) sure ∙ same in
        let spots : old.spot ≡ spot = is_one old.spot spot same in
        let code : old.code.items ≡ now'.code.items = sym (ap (λ (a : Access). a.code.items) so.same) in
        let entries : entries_at p old.spot ≡ entries_at s.program spot = ap (entries_at p) spots ∙ ap (λ q. entries_at q spot) (sym is_program) in
        let there_means : Means written (entries_at s.program spot) type rate now'.code.items =
        record { tree = means.tree; is_sound = ap (λ scope. expression written scope) (sym entries) ∙ means.is_sound; computes = subst (Computes means.tree) code means.computes; room = means.room } in
        let at : spot_at s.program depth (now s d) ≡ Some spot = ap (λ q. spot_at q depth (now s d)) is_program ∙ here.told in
        let few : IsFew (2 ^ 40) now'.tried = subst (IsFew (2 ^ 40)) (sym so.kept_is) (few_steps taken now'.done (omega (arith, below, bound)) so.few) in
        let lanes = lanes_now (now s d) in
        let tried : noted.tried ≡ with_value lanes (value index lanes (now s d)) now'.done =
        one.here standing s d written type rate there at there_means few
        ∙ ap (λ l. with_value l (value index l (state_at depth (now s d))) now'.tried) here.lanes
        ∙ ap (λ state. with_value lanes (value index lanes state) now'.tried) here.whole
        ∙ ap (with_value lanes (value index lanes (now s d))) so.kept_is in
        ap (λ c. with_touches c rest) tried
        ∙ value_more lanes (value index lanes (now s d)) now'.done rest
        ∙ sym (ap (λ b. with_touches now'.done ((if b then touch_in index (now s d) else []) ++ rest)) (ap (is_at old.spot) here.top ∙ same))
        ∙ ap (λ states. with_touches now'.done (touches p old.spot index states)) (sym left)

    pub step_touched : SoTouched (taken + 1) old (kept noted)
    step_touched = record {
      same = ap kept one.others ∙ ap (λ (a : Access). record a { done = noted.tried; tried = noted.tried }) so.same;
      kept_is = refl;
      few = few_more taken noted.tried (one.few (16 * taken) (subst (IsFew (16 * taken)) (sym so.kept_is) so.few));
      unsure = λ unsure.
          let elsewhere : stands_at now' spot ≡ false = ap (λ (a : Access). a.is_sure && is_same a.spot spot) so.same ∙ ap (λ b. b && is_same old.spot spot) unsure in
          not_here elsewhere ∙ so.unsure unsure;
      counts = λ sure written type rate means. counted (is_same old.spot spot) refl sure written type rate means ∙ so.counts sure written type rate means;
    }
