-- A whole call of lane k among others is a whole call of lane k alone.
use Rattle.std.proofs.Common.{◌≡◌, refl, sym, ap, ◌∙◌, subst, ℕ, zero, suc, ◌+◌, ◌<◌, ◌≤◌, true, List, [], ◌∷◌, length, Some, None, arith}
use Rattle.std.specs.Prelude.{◌==◌, slice_get, All}
use Rattle.std.proofs.lemmas.Bool.{eq-eqb, eqb-true}
use Rattle.gang_types.specs.declared.places.VarId.{VarId}
use Rattle.gang_types.specs.declared.places.VarId.TheVariants.{File, Local}
use Rattle.gang_types.specs.Lanes.{has}
use Rattle.gang_types.specs.LaneLaws.{has-lanes_from, length-lanes_from}
use Rattle.gang_model.specs.Source.Parsed.{ParsedParam}
use Rattle.gang_model.specs.Types.Tree.{Program, Nothing}
use Rattle.gang_model.specs.Running.Lanes.{at}
use Rattle.gang_model.specs.Running.State.{Store, Frame, State, Task, words_of}
use Rattle.gang_model.specs.Running.Step.{Goes, step, new_frame}
use Rattle.gang_model.specs.Running.Rounds.{lone}
use Rattle.gang_model.specs.Running.LanePure.{Steps, none, one_more, called_by, IsLeft}
use Rattle.gang_model.specs.Running.SeparateInstances.{IsVaryingScalar, IsArrayId, IsScalarParam, IsFrameOfGang, SameInLane, SameArrays, SameResult, IsSeparate}
use Rattle.gang_model.specs.Debugger.Events.{Step, gone}
use Rattle.gang_model.proofs.StateLanes.{TasksSized, FramesSized, StateSized, sized-after}
use Rattle.lane_alone.specs.Fits.{Only, Family, IsClosed, AreNumbered}
use Rattle.lane_alone.specs.OwnTasks.{own, own_settled, AllLanes}
use Rattle.lane_alone.specs.Alike.{AlikeAt, MemoryAlike, base, Stacks, together, apart, SettledTop, Stands}
use Rattle.lane_alone.proofs.TaskLists.{by_bool, all_settled}
use Rattle.lane_alone.proofs.Words.{lane_lt}
use Rattle.lane_alone.proofs.Frames.{new_pair, Joined, under_long, over_long}
use Rattle.lane_alone.proofs.Simulation.{settle_joined, Moves, waits, goes, step_stands, none_left}

goes_same : {s t : State} → Goes s ≡ Goes t → s ≡ t
goes_same q = cc

some_same : {A : Type 0} {x y : A} → Some x ≡ Some y → x ≡ y
some_same q = cc

-- ---- the lane alone

lone_has : (width k : ℕ) → k < width → has (lone width k) k ≡ true
lone_has width k h = has-lanes_from 0 width (λ j. j == k) k h ∙ eq-eqb (0 + k) k (omega arith)

lone_only : (width k : ℕ) → Only k (lone width k)
lone_only width k j h = eqb-true j k (sym (ap (λ i. i == k) (omega arith)) ∙ sym (has-lanes_from 0 width (λ i. i == k) j (subst (λ n. j < n) (length-lanes_from 0 width (λ i. i == k)) (lane_lt (lone width k) j h))) ∙ h)

-- ---- sizes

tasks_sized : (w : ℕ) (ts : List Task) → All (λ t. length t.lanes ≡ w) ts → TasksSized w ts
tasks_sized w [] h = tt
tasks_sized w (t ∷ ts) h = (h 0 t (omega arith), tasks_sized w ts (λ k d less. h (suc k) d (omega (arith, less))))

frames_sized : (w : ℕ) (frames : List Frame) → All (IsFrameOfGang w) frames → FramesSized w frames
frames_sized w [] h = tt
frames_sized w (frame ∷ frames) h = (
  record { call = (h 0 frame (omega arith)).0; tasks = tasks_sized w frame.tasks (h 0 frame (omega arith)).1 },
  frames_sized w frames (λ k d less. h (suc k) d (omega (arith, less))),
)

next_sized : (p : Program) (w : ℕ) (state next : State) → StateSized w state → step p state ≡ Goes next → StateSized w next
next_sized p w state next h e = subst (λ r. StateSized w (gone r state)) e (sized-after w p state (Step ∷ []) h)

module _ (p : Program) (below : ℕ) where
  -- steps of which none begins where the call is left
  pub data Path : ℕ → State → State → Type 0 where
    here : {state : State} → Path 0 state state
    there : {n : ℕ} {first next last : State} → (IsLeft below first.frames → ⊥) → step p first ≡ Goes next → Path n next last → Path (suc n) first last

  path_of : {n : ℕ} {first last : State} → Steps p n first last → ((m : ℕ) (between : State) → m < n → Steps p m first between → IsLeft below between.frames → ⊥) → Path n first last
  path_of none is_first = here
  path_of {n = suc n} {first = first} (one_more e steps) is_first = there (is_first 0 first (omega arith) none) e (path_of steps (λ m between less s. is_first (suc m) between (omega (arith, less)) (one_more e s)))

  path_steps : {n : ℕ} {first last : State} → Path n first last → Steps p n first last
  path_steps here = none
  path_steps (there h e path) = one_more e (path_steps path)

  pub steps_zero : (P : State → Type 0) {first last : State} → Steps p 0 first last → P first → P last
  steps_zero P none h = h

  pub steps_suc : {n : ℕ} {first last : State} {Q : Type 0} → Steps p (suc n) first last → ((next : State) → step p first ≡ Goes next → Steps p n next last → Q) → Q
  steps_suc (one_more {next = next} e steps) go = go next e steps

  path_first : {n : ℕ} {first last : State} → Path n first last → (m : ℕ) (between : State) → m < n → Steps p m first between → IsLeft below between.frames → ⊥
  path_first here m between less s l = absurd (omega (arith, less))
  path_first (there h e path) zero between less s l = steps_zero (λ x. IsLeft below x.frames → ⊥) s h l
  path_first (there {next = next} h e path) (suc m) between less s l = steps_suc s (λ next' e' s'. path_first path m between (omega (arith, less)) (subst (λ x. Steps p m x between) (goes_same (sym e' ∙ e)) s') l)

module _ (p : Program) (family : Family) (k below : ℕ) (closed : IsClosed p family) (w : ℕ) (in_gang : k < w) where
  pub record Reached (n : ℕ) (other last : State) : Type 0 where
    pub count : ℕ
    pub end : State
    pub few : count ≤ n
    pub path : Path p below count other end
    pub stands : Stands p family k below last end

  later : (n : ℕ) (other last : State) → Reached n other last → Reached (suc n) other last
  later n other last r = record { count = r.count; end = r.end; few = omega (arith, r.few); path = r.path; stands = r.stands }

  more : (n : ℕ) (other next last : State) → (IsLeft below other.frames → ⊥) → step p other ≡ Goes next → Reached n next last → Reached (suc n) other last
  more n other next last h e r = record { count = suc r.count; end = r.end; few = omega (arith, r.few); path = there h e r.path; stands = r.stands }

  by_moves : (n : ℕ) (other next last : State) → Moves p family k below closed next other → ((other' : State) → Stands p family k below next other' → Reached n other' last) → Reached (suc n) other last
  by_moves n other next last (waits s) go = later n other last (go other s)
  by_moves n other next last (goes after' e h s) go = more n other after' last h e (go after' s)

  pub simulated : {n : ℕ} {first last : State} → Path p below n first last → StateSized w first → (other : State) → Stands p family k below first other → Reached n other last
  simulated here sized other s = record { count = 0; end = other; few = omega arith; path = here; stands = s }
  simulated {n = suc n} {last = last} (there {first = first} {next = next} h e path) sized other s =
      by_moves n other next last (step_stands p family k below closed w in_gang first other next sized s e h) (λ other' s'. simulated path (next_sized p w first next sized e) other' s')

  -- where the call is left among others it is left alone
  left_frames : (frames others : List Frame) → Stacks true p family k below frames others → IsLeft below frames → SettledTop others
      → IsLeft below others × ((frame other : Frame) → slice_get frames 0 ≡ Some frame → slice_get others 0 ≡ Some other → SameResult k frame other)
  left_frames _ _ (together frame other {frames = frames} {others = others} h pair under) l top = (
    (sym (under_long p family k below under).0 ∙ l.0, none_left k other.tasks top pair.tasks.only (subst (λ xs. own_settled (own k xs) ≡ own_settled (own k other.tasks)) l.1 pair.tasks.same)),
    λ x y e f. ap (λ z. at z.result k) (sym (some_same e)) ∙ pair.frames.result ∙ ap (λ z. at z.result k) (some_same f),
  )
  left_frames _ _ (apart frame dummy {frames = frames} h empty pair over) l top = let above : below < length frames = over_long p family k below over in absurd (omega (arith, above, l.0))

wide_sized : (w : ℕ) (ts : List Task) → AllLanes (λ lanes. length lanes ≡ w) ts → TasksSized w ts
wide_sized w [] a = tt
wide_sized w (t ∷ ts) a = (a.0, wide_sized w ts a.1)

module _ (p : Program) (numbered : AreNumbered p) where
  memory_alike : (k w width : ℕ) (memory other : Store) → k < w → k < width → ((n : ℕ) → IsVaryingScalar p n → length (words_of memory (File n)) ≡ w) → ((n : ℕ) → IsVaryingScalar p n → length (words_of other (File n)) ≡ width)
      → SameArrays p memory other → SameInLane p k memory other → MemoryAlike p k memory other
  memory_alike k w width memory other in_w in_width long long' arrays in_lane = record { scalars = of_scalars; arrays = of_arrays }
    where
      of_scalars : (n : ℕ) → IsVaryingScalar p n → AlikeAt k (words_of memory (File n)) (words_of other (File n))
      of_scalars n s = (omega (arith, in_w, long n s), omega (arith, in_width, long' n s), subst (λ v. at (words_of memory v) k ≡ at (words_of other v) k) (numbered n s.0 s.1) (in_lane n s.0 s.1 s.3))

      of_arrays : (v : VarId) → IsArrayId p v → words_of memory v ≡ words_of other v
      of_arrays (File n) a = subst (λ v. words_of memory v ≡ words_of other v) (numbered n a.0 a.1) (arrays.0 n a.0 a.1 a.2)
      of_arrays (Local n) a = arrays.1 n

  in_lane_alike : (k : ℕ) (memory other : Store) → MemoryAlike p k memory other → SameInLane p k memory other
  in_lane_alike k memory other m n g is varying = subst (λ v. at (words_of memory v) k ≡ at (words_of other v) k) (sym (numbered n g is)) (by_bool g.variable.is_array
      (λ yes'. ap (λ ws. at ws k) (m.arrays (File n) (g, is, yes')))
      (λ no'. (m.scalars n (g, is, no', varying)).2))

  -- the lanes of the functions of a family are instances of their own
  pub separate : (family : Family) → IsClosed p family → (f : ℕ) → family.member f
      → (params : List ParsedParam) → ((n : ℕ) → family.parameters f n ≡ true → IsScalarParam params n) → IsSeparate p params f
  separate family closed f member params scalar lanes arguments state n last gang passed leaves k width h in_width alone before gang' passed' frames_same args arrays in_lane =
      let in_gang : k < length lanes = lane_lt lanes k h in
      let new : Frame = new_frame f leaves.function lanes None Nothing arguments in
      let new' : Frame = new_frame f leaves.function (lone width k) None Nothing alone in
      let first : State = record { memory = state.memory; frames = new ∷ state.frames } in
      let first' : State = record { memory = before.memory; frames = new' ∷ before.frames } in
      let joined : Joined p family k (length state.frames) first first' = record {
        frame = new;
        other = new';
        frames = state.frames;
        others = before.frames;
        is = refl;
        other_is = refl;
        memory = memory_alike k (length lanes) width state.memory before.memory in_gang in_width gang.scalars gang'.scalars arrays in_lane;
        lane = h;
        pair = new_pair p family k (length state.frames) closed f leaves.function leaves.is_function member None Nothing lanes (lone width k) h (lone_has width k in_width) (lone_only width k) arguments alone args.1 passed.arrays
            (λ j known. (omega (arith, in_gang, passed.scalars j (scalar j known)), omega (arith, in_width, passed'.scalars j (scalar j known)), args.0 j (scalar j known)));
        under = base refl frames_same;
      } in
      let stands : Stands p family k (length state.frames) (called_by f leaves.function lanes arguments state) (called_by f leaves.function (lone width k) alone before) = settle_joined p family k (length state.frames) closed first first' joined in
      let sized : StateSized (length lanes) (called_by f leaves.function lanes arguments state) =
      (record { call = refl; tasks = wide_sized (length lanes) _ (all_settled (λ l. length l ≡ length lanes) new.tasks (refl, tt)) }, frames_sized (length lanes) state.frames gang.frames) in
      let r : Reached p family k (length state.frames) closed (length lanes) in_gang n (called_by f leaves.function (lone width k) alone before) last =
      simulated p family k (length state.frames) closed (length lanes) in_gang (path_of p (length state.frames) leaves.leads leaves.is_first) sized (called_by f leaves.function (lone width k) alone before) stands in
      let ends : _ = left_frames p family k (length state.frames) closed (length lanes) in_gang last.frames r.end.frames r.stands.stacks leaves.is_left r.stands.settled_other in (
        r.count,
        r.end,
        r.few,
        record {
          function = leaves.function;
          is_function = leaves.is_function;
          leads = path_steps p (length state.frames) r.path;
          is_left = subst (λ b. IsLeft b r.end.frames) (sym frames_same) ends.0;
          is_first = λ m between less s l. path_first p (length state.frames) r.path m between less s (subst (λ b. IsLeft b between.frames) frames_same l);
        },
        in_lane_alike k last.memory r.end.memory r.stands.memory,
        ends.1,
      )
