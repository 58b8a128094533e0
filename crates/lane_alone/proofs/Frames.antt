-- Frames that are entered and left.
use Rattle.std.proofs.Common.{◌≡◌, refl, sym, ap, ◌∙◌, subst, ℕ, zero, suc, ◌<◌, ◌≤◌, Bool, true, false, List, [], ◌∷◌, length, Option, Some, None, arith}
use Rattle.std.specs.Prelude.{if◌then◌else◌, ◌==◌, slice_get, Ok, Err, IfOk}
use Rattle.gang_types.specs.declared.types.Rate.{Rate}
use Rattle.gang_types.specs.declared.types.Rate.TheVariants.{Uniform, Varying}
use Rattle.gang_types.specs.declared.types.IntType.{IntType}
use Rattle.gang_types.specs.declared.places.VarId.{VarId}
use Rattle.gang_types.specs.declared.places.VarId.TheVariants.{Local}
use Rattle.gang_types.specs.Values.{converted}
use Rattle.gang_types.specs.Lanes.{Lanes, has}
use Rattle.gang_model.specs.Types.Tree.{Program, Function, Call, Arg, ResultFor, Nothing, Declares, Assigns, Returns, StepNumber}
use Rattle.gang_model.specs.Running.Lanes.{Fault, at, each}
use Rattle.gang_model.specs.Running.State.{Store, Run, Frame, State, words_of, words_in, with_words_in, view_in, seen, declared_words, assigned_words}
use Rattle.gang_model.specs.Running.Step.{task, Passed, passed, no_result, new_frame, entered, run, deliver, left, leave, returned_on, result_rate, rate_of}
use Rattle.gang_model.proofs.LaneWords.{if_ok_bind, length-each}
use Rattle.gang_model.proofs.UniformValues.{at-each}
use Rattle.gang_model.specs.Running.SeparateInstances.{IsArrayId}
use Rattle.lane_alone.specs.Fits.{Only, Locals, FitsResult, declared_for, Family, Fits, IsClosed}
use Rattle.lane_alone.specs.OwnTasks.{own_settled}
use Rattle.lane_alone.specs.Alike.{AlikeAt, MemoryAlike, FrameAlike, Pair, Mid, Waits, Under, base, caller, Over, on_lane, on_away, Stacks, apart}
use Rattle.lane_alone.proofs.TaskLists.{not_both, own_here, own_away}
use Rattle.lane_alone.proofs.Words.{lane_lt, alike_merged, alike_away}
use Rattle.lane_alone.proofs.Follows.{Follows, follows_bind}
use Rattle.lane_alone.proofs.Effects.{Out, plain, assign_both, assign_one, declare_both, declare_one, return_both, return_one, at_one, uniform_varying}
use Rattle.lane_alone.proofs.Forms.{alike_each, seen_at, varied}
use Rattle.lane_alone.proofs.Calls.{PassedAlike, passed_same, passed_arrays}

at_no_result : (rate : Rate) (lanes : Lanes) (j : ℕ) → at (no_result rate lanes) j ≡ 0
at_no_result Uniform lanes j = at_one 0 j refl
at_no_result Varying [] j = refl
at_no_result Varying (b ∷ lanes) zero = refl
at_no_result Varying (b ∷ lanes) (suc j) = at_no_result Varying lanes j

length_no_result : (rate : Rate) (lanes : Lanes) → rate ≡ Varying → length (no_result rate lanes) ≡ length lanes
length_no_result Uniform lanes e = uniform_varying e
length_no_result Varying [] e = refl
length_no_result Varying (b ∷ lanes) e = ap suc (length_no_result Varying lanes e)

module _ (p : Program) (family : Family) (k below : ℕ) where
  pub under_long : {rate : Rate} {result_for : ResultFor} {lanes : Lanes} {frames others : List Frame} → Under p family k below rate result_for lanes frames others → (length frames ≡ length others) × (below ≤ length frames)
  under_long (base a b) = (a ∙ sym b, omega (arith, a))
  under_long (caller frame other h w u) = let more : _ = under_long u in (ap suc more.0, omega (arith, more.1))

  pub over_long : {rate : Rate} {result_for : ResultFor} {lanes : Lanes} {frames others : List Frame} → Over p family k below rate result_for lanes frames others → below < length frames
  over_long (on_lane frame other h w u) = omega (arith, (under_long u).1)
  over_long (on_away frame dummy h e w o) = omega (arith, over_long o)

  -- ---- entering

  module _ (closed : IsClosed p family) (n : ℕ) (g : Function) (is : slice_get p.functions n ≡ Some g) (member : family.member n) (number : Option StepNumber) (result_for : ResultFor) (lanes : Lanes) where
    rate_is : rate_of (slice_get p.functions n) ≡ g.result
    rate_is = ap rate_of is

    body_fits : Fits p family (rate_of (slice_get p.functions n)) (family.parameters n) g.body
    body_fits = subst (λ rate. Fits p family rate (family.parameters n) g.body) (sym rate_is) (closed n g member is)

    pub new_pair : (alone : Lanes) → has lanes k ≡ true → has alone k ≡ true → Only k alone → (a a' : Passed) → ((v : VarId) → view_in a.views v ≡ view_in a'.views v) → ((j : ℕ) → IsArrayId p (view_in a.views (Local j)).array)
        → ((j : ℕ) → family.parameters n j ≡ true → AlikeAt k (words_of a.vars (Local j)) (words_of a'.vars (Local j)))
        → Pair false p family k (new_frame n g lanes number result_for a) (new_frame n g alone number result_for a')
    new_pair alone h m only a a' views arrays vars = record {
      frames = record {
        same_function = refl;
        same_for = refl;
        among = h ∙ sym m;
        only = only;
        views = views;
        arrays = arrays;
        result = at_no_result g.result lanes k ∙ sym (at_no_result g.result alone k);
        room = λ v. let long : g.result ≡ Varying = sym rate_is ∙ v in (omega (arith, length_no_result g.result lanes long, lane_lt lanes k h), omega (arith, length_no_result g.result alone long, lane_lt alone k m));
        idle = λ u. at_no_result g.result lanes k;
      };
      tasks = record {
        same = ap own_settled (own_here k (task (Run g.body) lanes) [] h ∙ sym (own_here k (task (Run g.body) alone) [] m));
        nested = ((λ here. (refl, refl)), tt);
        nested_other = ((λ here. (refl, refl)), tt);
        only = (only, tt);
      };
      chain = (family.parameters n, (λ j known. refl), body_fits, (λ here. vars), tt);
    }

    abbrev dummy_of : Passed → Frame
    dummy_of a = record { function = n; lanes = []; call = number; result_for = result_for; views = a.views; vars = a.vars; result = no_result g.result lanes; tasks = [] }

    pub new_away : has lanes k ≡ false → k < length lanes → (a : Passed) → ((j : ℕ) → IsArrayId p (view_in a.views (Local j)).array) → Pair false p family k (new_frame n g lanes number result_for a) (dummy_of a)
    new_away h in_lanes a arrays = record {
      frames = record {
        same_function = refl;
        same_for = refl;
        among = h;
        only = λ j here. no_more j here;
        views = λ v. refl;
        arrays = arrays;
        result = refl;
        room = λ v. let long : g.result ≡ Varying = sym rate_is ∙ v in (omega (arith, length_no_result g.result lanes long, in_lanes), omega (arith, length_no_result g.result lanes long, in_lanes));
        idle = λ u. at_no_result g.result lanes k;
      };
      tasks = record {
        same = ap own_settled (own_away k (task (Run g.body) lanes) [] h);
        nested = ((λ here. (refl, refl)), tt);
        nested_other = tt;
        only = tt;
      };
      chain = (family.parameters n, (λ j known. refl), body_fits, (λ here. not_both here h), tt);
    }
      where
        no_more : (j : ℕ) → has [] j ≡ true → j ≡ k
        no_more j q = cc

  -- states whose first frames are a pair, not yet settled
  pub record Joined (s s' : State) : Type 0 where
    pub frame : Frame
    pub other : Frame
    pub frames : List Frame
    pub others : List Frame
    pub is : s.frames ≡ frame ∷ frames
    pub other_is : s'.frames ≡ other ∷ others
    pub memory : MemoryAlike p k s.memory s'.memory
    pub lane : has frame.lanes k ≡ true
    pub pair : Pair false p family k frame other
    pub under : Under p family k below (result_rate p frame) frame.result_for frame.lanes frames others

  module _ (closed : IsClosed p family) (memory memory' : Store) (frame other : Frame) (frames others : List Frame) (memories : MemoryAlike p k memory memory') (known : Locals) (lanes : Lanes) where
    abbrev st : State
    st = record { memory = memory; frames = frame ∷ frames }

    abbrev st' : State
    st' = record { memory = memory'; frames = other ∷ others }

    room_both : (b b' : Bool) (fault fault' : Fault) (s s' : State) → b ≡ b' → Joined s s' → Follows Joined (if b then Err fault else Ok s) (if b' then Err fault' else Ok s')
    room_both true b' fault fault' s s' e l = tt
    room_both false true fault fault' s s' e l = absurd (cc)
    room_both false false fault fault' s s' e l = (s', refl, l)

    room_one : (b : Bool) (fault : Fault) (s : State) (P : State → Type 0) → P s → IfOk (if b then Err fault else Ok s) P
    room_one true fault s P h = tt
    room_one false fault s P h = h

    -- a call that both runs make
    pub call_both : (alone : Lanes) → has lanes k ≡ true → has alone k ≡ true → Only k alone → has frame.lanes k ≡ true → Under p family k below (result_rate p frame) frame.result_for frame.lanes frames others
        → (number : StepNumber) (n : ℕ) (args : List Arg) (result_for : ResultFor) → Fits p family (result_rate p frame) known (Call number n args result_for) → Mid p family k known (declared_for result_for) lanes frame other
        → Follows Joined (run p (Call number n args result_for) lanes st) (run p (Call number n args result_for) alone st')
    call_both alone h m only in_frame under number n args result_for f mid =
        follows_bind (PassedAlike p family k args) Joined (passed args lanes st) (passed args alone st') _ _
        (passed_same p family k memory memory' frame other frames others memories known lanes alone h m only mid.frames (mid.alike h) args f.3)
        (λ a a' r. subst (λ o. Follows Joined (entered o n number result_for a lanes st) (entered o n number result_for a' alone st')) (sym f.1)
        (room_both (length (frame ∷ frames) == 64) (length (other ∷ others) == 64) _ _ _ _ (ap (λ i. suc i == 64) (under_long under).0)
        (record {
          frame = new_frame n f.0 lanes (Some number) result_for a;
          other = new_frame n f.0 alone (Some number) result_for a';
          frames = frame ∷ frames;
          others = other ∷ others;
          is = refl;
          other_is = refl;
          memory = memories;
          lane = h;
          pair = new_pair closed n f.0 f.1 f.2 (Some number) result_for lanes alone h m only a a' r.views r.arrays (λ j param. r.vars j (f.4 j param));
          under = caller frame other in_frame (waiting f.0 f.1 f.5) under;
        })))
      where
        waiting : (g : Function) → slice_get p.functions n ≡ Some g → FitsResult p (result_rate p frame) known g.result result_for → Waits p family k (rate_of (slice_get p.functions n)) result_for lanes frame other
        waiting g is fits = record { known = known; mid = mid; fits = subst (λ rate. FitsResult p (result_rate p frame) known rate result_for) (sym (ap rate_of is)) fits }

    abbrev Apart : List Frame → State → Type 0
    Apart stack s = MemoryAlike p k s.memory memory' × Stacks false p family k below s.frames stack

    -- a call that the other lanes make
    pub call_one : has lanes k ≡ false → k < length lanes → (number : StepNumber) (n : ℕ) (args : List Arg) (result_for : ResultFor) → Fits p family (result_rate p frame) known (Call number n args result_for)
        → Mid p family k known (declared_for result_for) lanes frame other → (stack : List Frame)
        → (Waits p family k (rate_of (slice_get p.functions n)) result_for lanes frame other → Over p family k below (rate_of (slice_get p.functions n)) result_for lanes (frame ∷ frames) stack)
        → IfOk (run p (Call number n args result_for) lanes st) (Apart stack)
    call_one h in_lanes number n args result_for f mid stack over =
        if_ok_bind (λ a. (j : ℕ) → IsArrayId p (view_in a.views (Local j)).array) (Apart stack) (passed args lanes st) _
        (passed_arrays p family k memory memory' frame other frames others memories known lanes mid.frames args f.3)
        (λ a arrays. subst (λ o. IfOk (entered o n number result_for a lanes st) (Apart stack)) (sym f.1)
        (room_one (length (frame ∷ frames) == 64) _ _ (Apart stack) (
          memories,
          apart (new_frame n f.0 lanes (Some number) result_for a) (dummy_of closed n f.0 f.1 f.2 (Some number) result_for lanes a) h refl (new_away closed n f.0 f.1 f.2 (Some number) result_for lanes h in_lanes a arrays)
              (over (record { known = known; mid = mid; fits = subst (λ rate. FitsResult p (result_rate p frame) known rate result_for) (sym (ap rate_of f.1)) f.5 })),
        )))

  -- ---- leaving

  module _ (memory memory' : Store) (frame other : Frame) (frames others : List Frame) (memories : MemoryAlike p k memory memory') (known : Locals) (lanes : Lanes) (rate : Rate) where
    abbrev at_first : State
    at_first = record { memory = memory; frames = frame ∷ frames }

    abbrev at_second : State
    at_second = record { memory = memory'; frames = other ∷ others }

    -- a function that there is not gives nothing
    pub give_nothing : (result_for : ResultFor) → rate ≡ Uniform → FitsResult p (result_rate p frame) known rate result_for → Mid p family k known (declared_for result_for) lanes frame other → Out p family k frame frames others at_first at_second
    give_nothing Nothing e f mid = plain p family k memory memory' frame other frames others memories known lanes mid
    give_nothing (Declares v) e f mid = uniform_varying (sym e ∙ f.0)
    give_nothing (Assigns v) e f mid = uniform_varying (sym e ∙ f.0)
    give_nothing Returns e f mid = uniform_varying (sym e ∙ f.0)

    module _ (alone : Lanes) (h : has lanes k ≡ true) (m : has alone k ≡ true) (type : IntType) (x x' : List ℕ) (same : rate ≡ Varying → at x k ≡ at x' k) where
      cast : (to : IntType) → rate ≡ Varying → at (each lanes (λ j. converted type to (at x j))) k ≡ at (each alone (λ j. converted type to (at x' j))) k
      cast to v = at-each lanes _ k h ∙ ap (converted type to) (same v) ∙ sym (at-each alone _ k m)

      -- both runs get the result
      pub deliver_both : (result_for : ResultFor) → FitsResult p (result_rate p frame) known rate result_for → Mid p family k known (declared_for result_for) lanes frame other
          → Out p family k frame frames others (deliver p type result_for lanes x at_first) (deliver p type result_for alone x' at_second)
      deliver_both Nothing f mid = plain p family k memory memory' frame other frames others memories known lanes mid
      deliver_both (Declares v) f mid =
          let new : List ℕ = each lanes (λ j. converted type v.type (at x j)) in
          let new' : List ℕ = each alone (λ j. converted type v.type (at x' j)) in
          subst (λ r. Out p family k frame frames others (with_words_in at_first v.id (declared_words r lanes new)) (with_words_in at_second v.id (declared_words r alone new'))) (sym f.1.0)
          (subst (λ id. Out p family k frame frames others (with_words_in at_first id (each lanes (λ j. at new j))) (with_words_in at_second id (each alone (λ j. at new' j)))) (sym f.1.2)
          (declare_both p family k memory memory' frame other frames others memories known lanes f.1.1 f.1.3 (subst (λ id. Mid p family k known (Some id) lanes frame other) f.1.2 mid) h (each lanes (λ j. at new j)) (each alone (λ j. at new' j))
          (alike_each p family k lanes alone (λ j. at new j) (λ j. at new' j) h m (cast v.type f.0))))
      deliver_both (Assigns v) f mid =
          let new : List ℕ = each lanes (λ j. converted type v.type (at x j)) in
          let new' : List ℕ = each alone (λ j. converted type v.type (at x' j)) in
          subst (λ r. Out p family k frame frames others (with_words_in at_first v.id (assigned_words r lanes new (words_in at_first v.id))) (with_words_in at_second v.id (assigned_words r alone new' (words_in at_second v.id)))) (sym f.1.0)
          (assign_both p family k memory memory' frame other frames others memories known lanes mid v.id f.1.1 _ _ (λ old. alike_merged k lanes alone new new' _ _ h m (length-each lanes _) (length-each alone _) (cast v.type f.0) old))
      deliver_both Returns f mid =
          let e : slice_get p.functions other.function ≡ slice_get p.functions frame.function = ap (slice_get p.functions) mid.frames.same_function in
          subst (λ o. Out p family k frame frames others (deliver p type Returns lanes x at_first) (record { memory = memory'; frames = returned_on o type alone x' other ∷ others })) (sym e)
          (go (slice_get p.functions frame.function) refl)
        where
          go : (o : Option Function) → slice_get p.functions frame.function ≡ o
              → Out p family k frame frames others (record { memory = memory; frames = returned_on o type lanes x frame ∷ frames }) (record { memory = memory'; frames = returned_on o type alone x' other ∷ others })
          go None e = uniform_varying (sym (ap rate_of e) ∙ f.1)
          go (Some g) e = return_both p family k memory memory' frame other frames others memories known lanes mid alone (each lanes (λ j. converted type g.result_type (at x j))) (each alone (λ j. converted type g.result_type (at x' j)))
              h m (length-each lanes _) (length-each alone _) (cast g.result_type f.0) (λ u. varied (sym f.1 ∙ u)) g.result (ap rate_of e) g.result refl

    module _ (h : has lanes k ≡ false) (in_lanes : k < length lanes) (type : IntType) (x : List ℕ) where
      -- the other lanes get the result
      pub deliver_one : (result_for : ResultFor) → FitsResult p (result_rate p frame) known rate result_for → Mid p family k known (declared_for result_for) lanes frame other
          → Out p family k frame frames others (deliver p type result_for lanes x at_first) at_second
      deliver_one Nothing f mid = plain p family k memory memory' frame other frames others memories known lanes mid
      deliver_one (Declares v) f mid =
          let new : List ℕ = each lanes (λ j. converted type v.type (at x j)) in
          subst (λ r. Out p family k frame frames others (with_words_in at_first v.id (declared_words r lanes new)) at_second) (sym f.1.0)
          (subst (λ id. Out p family k frame frames others (with_words_in at_first id (each lanes (λ j. at new j))) at_second) (sym f.1.2)
          (declare_one p family k memory memory' frame other frames others memories known lanes f.1.1 f.1.3 (subst (λ id. Mid p family k known (Some id) lanes frame other) f.1.2 mid) h (each lanes (λ j. at new j))))
      deliver_one (Assigns v) f mid =
          let new : List ℕ = each lanes (λ j. converted type v.type (at x j)) in
          subst (λ r. Out p family k frame frames others (with_words_in at_first v.id (assigned_words r lanes new (words_in at_first v.id))) at_second) (sym f.1.0)
          (assign_one p family k memory memory' frame other frames others memories known lanes mid v.id f.1.1 _ (λ old. alike_away k lanes new _ _ h in_lanes (length-each lanes _) old))
      deliver_one Returns f mid = go (slice_get p.functions frame.function) refl
        where
          go : (o : Option Function) → slice_get p.functions frame.function ≡ o → Out p family k frame frames others (record { memory = memory; frames = returned_on o type lanes x frame ∷ frames }) at_second
          go None e = uniform_varying (sym (ap rate_of e) ∙ f.1)
          go (Some g) e = return_one p family k memory memory' frame other frames others memories known lanes mid (each lanes (λ j. converted type g.result_type (at x j))) h in_lanes (length-each lanes _) (λ u. varied (sym f.1 ∙ u)) g.result (ap rate_of e)

  -- a frame that both runs leave
  pub leave_both : (memory memory' : Store) (frame other : Frame) (frames others : List Frame) (memories : MemoryAlike p k memory memory') (top top' : Frame) → FrameAlike p k top top' → has top.lanes k ≡ true
      → Waits p family k (result_rate p top) top.result_for top.lanes frame other
      → Out p family k frame frames others (leave p top (record { memory = memory; frames = frame ∷ frames })) (leave p top' (record { memory = memory'; frames = other ∷ others }))
  leave_both memory memory' frame other frames others memories top top' f h w = go (slice_get p.functions top.function) refl (slice_get p.functions top'.function) (ap (slice_get p.functions) f.same_function)
    where
      m : has top'.lanes k ≡ true
      m = sym f.among ∙ h

      go : (o : Option Function) → slice_get p.functions top.function ≡ o → (o' : Option Function) → o' ≡ slice_get p.functions top.function
          → Out p family k frame frames others (left p o top (record { memory = memory; frames = frame ∷ frames })) (left p o' top' (record { memory = memory'; frames = other ∷ others }))
      go None e o' e' = subst (λ q. Out p family k frame frames others (record { memory = memory; frames = frame ∷ frames }) (left p q top' (record { memory = memory'; frames = other ∷ others }))) (sym (e' ∙ e))
          (give_nothing memory memory' frame other frames others memories w.known top.lanes (result_rate p top) top.result_for (ap rate_of e) w.fits w.mid)
      go (Some g) e o' e' =
          subst (λ q. Out p family k frame frames others (left p (Some g) top (record { memory = memory; frames = frame ∷ frames })) (left p q top' (record { memory = memory'; frames = other ∷ others }))) (sym (e' ∙ e))
          (subst (λ r. Out p family k frame frames others (left p (Some g) top (record { memory = memory; frames = frame ∷ frames })) (deliver p g.result_type r top'.lanes (seen g.result top'.lanes top'.result) (record { memory = memory'; frames = other ∷ others }))) (sym f.same_for)
          (deliver_both memory memory' frame other frames others memories w.known top.lanes (result_rate p top) top'.lanes h m g.result_type (seen g.result top.lanes top.result) (seen g.result top'.lanes top'.result)
          (λ v. let long : g.result ≡ Varying = sym (ap rate_of e) ∙ v in seen_at k g.result top.lanes top.result long h ∙ f.result ∙ sym (seen_at k g.result top'.lanes top'.result long m)) top.result_for w.fits w.mid))

  -- a frame that lane k takes no part in is left
  pub leave_one : (memory memory' : Store) (frame other : Frame) (frames others : List Frame) (memories : MemoryAlike p k memory memory') (top : Frame) → has top.lanes k ≡ false → k < length top.lanes
      → Waits p family k (result_rate p top) top.result_for top.lanes frame other
      → Out p family k frame frames others (leave p top (record { memory = memory; frames = frame ∷ frames })) (record { memory = memory'; frames = other ∷ others })
  leave_one memory memory' frame other frames others memories top h in_lanes w = go (slice_get p.functions top.function) refl
    where
      go : (o : Option Function) → slice_get p.functions top.function ≡ o → Out p family k frame frames others (left p o top (record { memory = memory; frames = frame ∷ frames })) (record { memory = memory'; frames = other ∷ others })
      go None e = give_nothing memory memory' frame other frames others memories w.known top.lanes (result_rate p top) top.result_for (ap rate_of e) w.fits w.mid
      go (Some g) e = deliver_one memory memory' frame other frames others memories w.known top.lanes (result_rate p top) h in_lanes g.result_type (seen g.result top.lanes top.result) top.result_for w.fits w.mid
