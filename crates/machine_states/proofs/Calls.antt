-- What the machine reads of the calls that made its frames: which step of which function made each, and for which lanes.
use Rattle.std.proofs.Common.{◌≡◌, refl, sym, ap, ◌∙◌, ℕ, zero, suc, ◌<◌, ◌≤◌, ◌⊎◌, inl, inr, Bool, true, false, List, [], ◌∷◌, length, Option, Some, None, arith}
use Rattle.std.specs.Prelude.{slice_get, ◌==◌, if◌then◌else◌}
use Rattle.std.proofs.lemmas.Bool.{eq-eqb, ne_eqb, eqb-true}
use Rattle.gang_types.specs.declared.places.Spot.{Spot}
use Rattle.gang_model.specs.Types.Tree.{StepNumber, Function, Program}
use Rattle.gang_model.specs.Running.State.{Frame}
use Rattle.gang_model.specs.Debugger.Positions.{spot_in, call_spot, call_at}
use Rattle.mask_states.specs.Masked.{Level, Masked, next_in}
use Rattle.mask_states.proofs.OwnTasks.{by_bool}
use Rattle.machine_states.specs.Variables.{Variables}
use Rattle.machine_states.specs.Regions.{FunctionOf, LanesOf, Depth, OfHead, Regions, lanes_in}
use Rattle.machine_states.specs.Shows.{ShowsFrames, Shows}
use Rattle.machine_states.specs.Steps.{IsInnermost, least_in}
use Rattle.machine_states.proofs.CallerLevels.{caller_levels, caller_runs}
use Rattle.machine_states.proofs.DeclaredLists.{same_first}
use Rattle.machine_states.proofs.NextPoints.{same_word}
use Rattle.machine_states.proofs.TopLevels.{level_of}

-- the frame that a call of the frame at this depth made, and that frame, the entry's being at depth 1
abbrev pub made_at : (depth : ℕ) → List Frame → Option (Frame × Frame)
made_at depth [] = None
made_at depth (inner ∷ []) = None
made_at depth (inner ∷ frame ∷ frames) = if length (frame ∷ frames) == depth then Some (inner, frame) else made_at depth (frame ∷ frames)

-- where the call stands
abbrev pub spot_made : Option (Frame × Frame) → Option Spot
spot_made None = None
spot_made (Some made) = call_spot made.1.function made.0.call

suc_test : (m n : ℕ) → (suc m == suc n) ≡ (m == n)
suc_test m n = by_bool (m == n)
    (λ same. let e : m ≡ n = eqb-true m n same in eq-eqb (suc m) (suc n) (ap suc e) ∙ sym same)
    (λ other. ne_eqb (suc m) (suc n) (λ e. differs (eq-eqb m n (omega (arith, e))) other) ∙ sym other)
  where
    differs : (m == n) ≡ true → (m == n) ≡ false → ⊥
    differs same other = cc

through_if : (b : Bool) (made : Frame × Frame) (more : Option (Frame × Frame)) (spot : Option Spot) → spot ≡ spot_made more
    → (if b then call_spot made.1.function made.0.call else spot) ≡ spot_made (if b then Some made else more)
through_if true made more spot e = refl
through_if false made more spot e = e

-- the call that made the frame at a depth is that of the frame below it
pub call_is_made : (depth : ℕ) (frames : List Frame) → call_at (suc depth) frames ≡ spot_made (made_at depth frames)
call_is_made depth [] = refl
call_is_made depth (inner ∷ []) = refl
call_is_made depth (inner ∷ frame ∷ frames) =
    ap (λ b. if b then call_spot frame.function inner.call else call_at (suc depth) (frame ∷ frames)) (suc_test (length (frame ∷ frames)) depth)
    ∙ through_if (length (frame ∷ frames) == depth) (inner, frame) (made_at depth (frame ∷ frames)) (call_at (suc depth) (frame ∷ frames)) (call_is_made depth (frame ∷ frames))

-- ---- where there is no call

pub none_made : (depth : ℕ) (frames : List Frame) → length frames ≤ depth → made_at depth frames ≡ None
none_made depth [] few = refl
none_made depth (inner ∷ []) few = refl
none_made depth (inner ∷ frame ∷ frames) few =
    ap (λ b. if b then Some (inner, frame) else made_at depth (frame ∷ frames)) (ne_eqb (length (frame ∷ frames)) depth (λ e. omega (arith, e, few)))
    ∙ none_made depth (frame ∷ frames) (omega (arith, few))

pub none_made_at_0 : (frames : List Frame) → made_at 0 frames ≡ None
none_made_at_0 [] = refl
none_made_at_0 (inner ∷ []) = refl
none_made_at_0 (inner ∷ frame ∷ frames) =
    ap (λ b. if b then Some (inner, frame) else made_at 0 (frame ∷ frames)) (ne_eqb (length (frame ∷ frames)) 0 (λ e. omega (arith, e)))
    ∙ none_made_at_0 (frame ∷ frames)

none_called_at_0 : (frames : List Frame) → call_at 0 frames ≡ None
none_called_at_0 [] = refl
none_called_at_0 (inner ∷ []) = refl
none_called_at_0 (inner ∷ frame ∷ frames) =
    ap (λ b. if b then call_spot frame.function inner.call else call_at 0 (frame ∷ frames)) (ne_eqb (length (inner ∷ frame ∷ frames)) 0 (λ e. omega (arith, e)))
    ∙ none_called_at_0 (frame ∷ frames)

-- ---- where there is one

-- a step of a function was the call that made a frame
pub record IsMade (w : ℕ) (regions : Regions) (j m : ℕ) (number : StepNumber) (inner frame : Frame) : Type 0 where
  pub call : inner.call ≡ Some number
  pub function : frame.function ≡ m
  pub lanes : inner.lanes ≡ lanes_in w regions (OfHead (suc j) LanesOf)

module _ (p : Program) (variables : Variables) (w : ℕ) (regions : Regions) (j level m : ℕ) (g : Function)
    (number : regions (OfHead j FunctionOf) ≡ m ∷ []) (is_function : slice_get p.functions m ≡ Some g) (inner_is : IsInnermost w regions j g level) where
  -- the frame of this index made a call
  abbrev IsMadeIn : List Frame → Type 0
  IsMadeIn frames = (inner : Frame) × (frame : Frame) × (made_at (suc j) frames ≡ Some (inner, frame)) × IsMade w regions j m (least_in regions j g level) inner frame

  made_here : (inner frame : Frame) (frames : List Frame) (levels below : List Level) (rest : List (List Level)) → length frames ≡ j
      → ShowsFrames p variables w regions (inner ∷ frame ∷ frames) (levels ∷ below ∷ rest)
      → IsMade w regions j m (least_in regions j g level) inner frame
  made_here inner frame frames levels [] rest e s = absurd s.1
  made_here inner frame frames levels (first ∷ below) rest e s =
      let caller = caller_levels p variables w regions j level m g number is_function inner_is (length frames) frame (first ∷ below) e s.2.0 in
      record {
        call = s.1.2 ∙ ap (λ l. Some (next_in l)) (same_first first (level_of regions j g level caller.turns) below caller.under caller.levels_are);
        function = caller_runs p variables w regions j level m g number is_function inner_is (length frames) frame (first ∷ below) e s.2.0;
        lanes = s.0.lanes ∙ ap (λ k. lanes_in w regions (OfHead (suc k) LanesOf)) e;
      }

  made_in : (frames : List Frame) (levels : List (List Level)) → ShowsFrames p variables w regions frames levels → suc j < length frames → IsMadeIn frames
  made_in [] levels s deep = absurd (omega (arith, deep))
  made_in (inner ∷ []) levels s deep = absurd (omega (arith, deep))
  made_in (inner ∷ frame ∷ frames) [] s deep = absurd s
  made_in (inner ∷ frame ∷ frames) (levels ∷ []) s deep = absurd s.2
  made_in (inner ∷ frame ∷ frames) (levels ∷ below ∷ rest) s deep = by_bool (length (frame ∷ frames) == suc j)
      (λ same. (
        inner,
        frame,
        ap (λ b. if b then Some (inner, frame) else made_at (suc j) (frame ∷ frames)) same,
        made_here inner frame frames levels below rest (same_below (eqb-true (length (frame ∷ frames)) (suc j) same)) s,
      ))
      (λ other.
      let lower : IsMadeIn (frame ∷ frames) = made_in (frame ∷ frames) (below ∷ rest) s.2 (lower_still other) in
      (lower.0, lower.1, ap (λ b. if b then Some (inner, frame) else made_at (suc j) (frame ∷ frames)) other ∙ lower.2, lower.3))
    where
      same_below : length (frame ∷ frames) ≡ suc j → length frames ≡ j
      same_below e = omega (arith, e)

      differs : (length (frame ∷ frames) == suc j) ≡ false → length (frame ∷ frames) ≡ suc j → ⊥
      differs other e = cc_false (sym other ∙ eq-eqb (length (frame ∷ frames)) (suc j) e)
        where
          cc_false : false ≡ true → ⊥
          cc_false h = cc

      lower_still : (length (frame ∷ frames) == suc j) ≡ false → suc j < length (frame ∷ frames)
      lower_still other = omega (arith, deep, differs other)

-- ---- the laws

module _ (p : Program) (variables : Variables) (w : ℕ) (regions : Regions) (masked : Masked) (shows : Shows p variables w regions masked)
    (count : ℕ) (depth : regions Depth ≡ count ∷ []) where
  counted : count ≡ length masked.state.frames
  counted = same_word (regions Depth) count (length masked.state.frames) depth shows.depth

  -- the frame of index j made a call
  pub calls : (j level m : ℕ) (g : Function) → suc j < count → regions (OfHead j FunctionOf) ≡ m ∷ [] → slice_get p.functions m ≡ Some g → IsInnermost w regions j g level
      → (inner : Frame) × (frame : Frame) × (made_at (suc j) masked.state.frames ≡ Some (inner, frame)) × IsMade w regions j m (least_in regions j g level) inner frame
  calls j level m g deep number is inner_is = made_in p variables w regions j level m g number is inner_is masked.state.frames masked.levels shows.frames (omega (arith, deep, counted))

  pub call_spot_is : (j level m : ℕ) (g : Function) → suc j < count → regions (OfHead j FunctionOf) ≡ m ∷ [] → slice_get p.functions m ≡ Some g → IsInnermost w regions j g level
      → call_at (suc (suc j)) masked.state.frames ≡ Some (spot_in m (least_in regions j g level))
  call_spot_is j level m g deep number is inner_is =
      let made = calls j level m g deep number is inner_is in
      call_is_made (suc j) masked.state.frames ∙ ap spot_made made.2
      ∙ ap (call_spot made.1.function) made.3.call ∙ ap (λ k. Some (spot_in k (least_in regions j g level))) made.3.function

  -- at other depths there is no call
  pub no_call_above : (deep : ℕ) → count ≤ deep → made_at deep masked.state.frames ≡ None
  no_call_above deep few = none_made deep masked.state.frames (omega (arith, few, counted))

  pub no_call_at : (deep : ℕ) → (deep < 2) ⊎ (count < deep) → call_at deep masked.state.frames ≡ None
  no_call_at zero h = none_called_at_0 masked.state.frames
  no_call_at (suc zero) h = call_is_made 0 masked.state.frames ∙ ap spot_made (none_made_at_0 masked.state.frames)
  no_call_at (suc (suc deep)) (inl less) = absurd (omega (arith, less))
  no_call_at (suc (suc deep)) (inr more) = call_is_made (suc deep) masked.state.frames ∙ ap spot_made (no_call_above (suc deep) (omega (arith, more)))
