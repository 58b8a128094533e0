-- A step of lane k among others is a step of lane k alone, or none.
use Rattle.std.proofs.Common.{◌≡◌, refl, sym, ap, ◌∙◌, subst, ℕ, suc, ◌<◌, true, false, List, [], ◌∷◌, length, arith}
use Rattle.std.specs.Prelude.{slice_get, Result, Ok, Err, IfOk}
use Rattle.gang_types.specs.declared.types.Rate.{Rate}
use Rattle.gang_types.specs.Lanes.{Lanes, has, no_lane, lowest}
use Rattle.gang_types.specs.LaneLaws.{lowest_has}
use Rattle.gang_model.specs.Types.Tree.{Program, Call, ResultFor}
use Rattle.gang_model.specs.Running.Lanes.{Fault}
use Rattle.gang_model.specs.Running.State.{Store, Doing, Run, Task, Frame, State, with_first}
use Rattle.gang_model.specs.Running.Step.{with_tasks, settled, settle, perform, Goes, Fails, stepped, step_task, step_frame, step, leave, result_rate, rate_of}
use Rattle.gang_model.specs.Running.LanePure.{IsLeft}
use Rattle.gang_model.proofs.StateLanes.{FrameSized, FramesSized, TasksSized, StateSized}
use Rattle.lane_alone.specs.Fits.{Only, Locals, Family, FitsDoing, IsClosed}
use Rattle.lane_alone.specs.OwnTasks.{own, own_settled, IsStep, IsSettled, AllLanes, Inside, Nested, declared_by, Head}
use Rattle.lane_alone.specs.Alike.{LocalAlike, MemoryAlike, TasksAlike, everything, Pair, Mid, Waits, Under, base, caller, Over, on_lane, on_away, Stacks, together, apart, SettledTop, Stands}
use Rattle.lane_alone.proofs.TaskLists.{by_bool, own_here, own_away, own_idle, settled_own, settled_begins, nested_settled, all_settled}
use Rattle.lane_alone.proofs.Chains.{settled_head}
use Rattle.lane_alone.proofs.Follows.{Follows}
use Rattle.lane_alone.proofs.Effects.{Out}
use Rattle.lane_alone.proofs.Forms.{both, one}
use Rattle.lane_alone.proofs.Frames.{under_long, Joined, call_both, call_one, leave_both, leave_one}

pub follows_map : {A B : Type 0} (Q R : A → B → Type 0) (r : Result A Fault) (s : Result B Fault) → ((x : A) (y : B) → Q x y → R x y) → Follows Q r s → Follows R r s
follows_map Q R (Ok x) s go f = (f.0, f.1, go x f.0 f.2)
follows_map Q R (Err fault) s go f = tt

if_ok_map : {A : Type 0} (P Q : A → Type 0) (r : Result A Fault) → ((x : A) → P x → Q x) → IfOk r P → IfOk r Q
if_ok_map P Q (Ok x) go h = go x h
if_ok_map P Q (Err fault) go h = tt

-- ---- the first task of lane k alone

no_first : {d : Doing} {ds : List Doing} → d ∷ ds ≡ [] → ⊥
no_first q = cc

head_same : {d e : Doing} {ds es : List Doing} → d ∷ ds ≡ e ∷ es → d ≡ e
head_same q = cc

tail_same : {d e : Doing} {ds es : List Doing} → d ∷ ds ≡ e ∷ es → ds ≡ es
tail_same q = cc

module _ (k : ℕ) where
  -- what begins with a step of the lane
  own_first : (t : Task) (ts : List Task) → has t.lanes k ≡ true → IsStep t.doing → own_settled (own k (t ∷ ts)) ≡ t.doing ∷ own k ts
  own_first t ts h is = ap own_settled (own_here k t ts h) ∙ own_idle (t.doing ∷ own k ts) is

  only_has : (lanes : Lanes) → Only k lanes → no_lane lanes ≡ false → has lanes k ≡ true
  only_has lanes only some = subst (λ j. has lanes j ≡ true) (only (lowest lanes) (lowest_has lanes some)) (lowest_has lanes some)

  -- lane k alone has nothing to do where it has nothing to do among others
  pub none_left : (us : List Task) → IsSettled us → AllLanes (Only k) us → [] ≡ own_settled (own k us) → us ≡ []
  none_left [] s o e = refl
  none_left (u ∷ us) s o e = absurd (no_first (sym (own_first u us (only_has u.lanes o.0 s.0) s.1) ∙ sym e))

  pub record FirstOther (t : Task) (ts us : List Task) : Type 0 where
    pub first : Task
    pub rest : List Task
    pub is : us ≡ first ∷ rest
    pub doing : first.doing ≡ t.doing
    pub lane : has first.lanes k ≡ true
    pub only : Only k first.lanes
    pub exact : own k ts ≡ own k rest

  pub first_other : (t : Task) (ts : List Task) → has t.lanes k ≡ true → IsStep t.doing → (us : List Task) → IsSettled us → AllLanes (Only k) us → own_settled (own k (t ∷ ts)) ≡ own_settled (own k us) → FirstOther t ts us
  first_other t ts h is [] s o e = absurd (no_first (sym (own_first t ts h is) ∙ e))
  first_other t ts h is (u ∷ us) s o e =
      let m : has u.lanes k ≡ true = only_has u.lanes o.0 s.0 in
      let same : t.doing ∷ own k ts ≡ u.doing ∷ own k us = sym (own_first t ts h is) ∙ e ∙ own_first u us m s.1 in
      record { first = u; rest = us; is = refl; doing = sym (head_same same); lane = m; only = o.0; exact = tail_same same }

goes_same : {s t : State} → Goes s ≡ Goes t → s ≡ t
goes_same q = cc

fails_goes : {P : Type 0} {fault : Fault} {t : State} → Fails fault ≡ Goes t → P
fails_goes q = absurd (cc)

frame_same : {f g : Frame} {fs gs : List Frame} → f ∷ fs ≡ g ∷ gs → f ≡ g
frame_same q = cc

no_task : {t : Task} {ts : List Task} → t ∷ ts ≡ [] → ⊥
no_task q = cc

pub stepped_ok : (r : Result State Fault) (next : State) → stepped r ≡ Goes next → (P : State → Type 0) → IfOk r (λ s. P (settle s)) → P next
stepped_ok (Ok s) next e P h = subst P (goes_same e) h
stepped_ok (Err fault) next e P h = fails_goes e

module _ (p : Program) (family : Family) (k below : ℕ) (closed : IsClosed p family) where
  -- ---- settling

  pair_both : (frame other : Frame) → Pair false p family k frame other → Pair true p family k (with_tasks settled frame) (with_tasks settled other)
  pair_both frame other q = record {
    frames = q.frames;
    tasks = record {
      same = settled_own k frame.tasks ∙ q.tasks.same ∙ sym (settled_own k other.tasks);
      nested = nested_settled k frame.tasks q.tasks.nested;
      nested_other = nested_settled k other.tasks q.tasks.nested_other;
      only = all_settled (Only k) other.tasks q.tasks.only;
    };
    chain = settled_head p family (result_rate p frame) k (LocalAlike k frame.vars other.vars) everything frame.tasks q.chain;
  }

  pair_one : (frame other : Frame) → Pair false p family k frame other → Pair true p family k (with_tasks settled frame) other
  pair_one frame other q = record {
    frames = q.frames;
    tasks = record { same = settled_own k frame.tasks ∙ q.tasks.same; nested = nested_settled k frame.tasks q.tasks.nested; nested_other = q.tasks.nested_other; only = q.tasks.only };
    chain = settled_head p family (result_rate p frame) k (LocalAlike k frame.vars other.vars) everything frame.tasks q.chain;
  }

  stacks_one : {fs stack : List Frame} → Stacks false p family k below fs stack → Stacks true p family k below (with_first (with_tasks settled) fs) stack
  stacks_one (together frame other h pair under) = together (with_tasks settled frame) other h (pair_one frame other pair) under
  stacks_one (apart frame dummy h e pair over) = apart (with_tasks settled frame) dummy h e (pair_one frame dummy pair) over

  top_settled : (fs : List Frame) → SettledTop (with_first (with_tasks settled) fs)
  top_settled [] = tt
  top_settled (frame ∷ fs) = settled_begins frame.tasks

  settle_one : (s : State) (memory' : Store) (stack : List Frame) → MemoryAlike p k s.memory memory' → Stacks false p family k below s.frames stack → SettledTop stack
      → Stands p family k below (settle s) (record { memory = memory'; frames = stack })
  settle_one s memory' stack m st top = record { memory = m; stacks = stacks_one st; settled = top_settled s.frames; settled_other = top }

  pub settle_joined : (s s' : State) → Joined p family k below s s' → Stands p family k below (settle s) (settle s')
  settle_joined s s' j = record {
    memory = j.memory;
    stacks =
        subst (λ fs. Stacks true p family k below (with_first (with_tasks settled) fs) (with_first (with_tasks settled) s'.frames)) (sym j.is)
        (subst (λ fs. Stacks true p family k below (with_first (with_tasks settled) (j.frame ∷ j.frames)) (with_first (with_tasks settled) fs)) (sym j.other_is)
        (together (with_tasks settled j.frame) (with_tasks settled j.other) j.lane (pair_both j.frame j.other j.pair) j.under));
    settled = top_settled s.frames;
    settled_other = top_settled s'.frames;
  }

  -- ---- what a step leads to, over the same frames

  module _ (new frame : Frame) (function : new.function ≡ frame.function) (for : new.result_for ≡ frame.result_for) (lanes : new.lanes ≡ frame.lanes) where
    rate_moved : result_rate p frame ≡ result_rate p new
    rate_moved = ap (λ n. rate_of (slice_get p.functions n)) (sym function)

    under_moved : (fs os : List Frame) → Under p family k below (result_rate p frame) frame.result_for frame.lanes fs os → Under p family k below (result_rate p new) new.result_for new.lanes fs os
    under_moved fs os u =
        subst (λ r. Under p family k below r new.result_for new.lanes fs os) rate_moved
        (subst (λ f. Under p family k below (result_rate p frame) f new.lanes fs os) (sym for) (subst (λ l. Under p family k below (result_rate p frame) frame.result_for l fs os) (sym lanes) u))

    over_moved : (fs os : List Frame) → Over p family k below (result_rate p frame) frame.result_for frame.lanes fs os → Over p family k below (result_rate p new) new.result_for new.lanes fs os
    over_moved fs os u =
        subst (λ r. Over p family k below r new.result_for new.lanes fs os) rate_moved
        (subst (λ f. Over p family k below (result_rate p frame) f new.lanes fs os) (sym for) (subst (λ l. Over p family k below (result_rate p frame) frame.result_for l fs os) (sym lanes) u))

  out_joined : (frame : Frame) (frames others : List Frame) (s s' : State) → Out p family k frame frames others s s' → has frame.lanes k ≡ true
      → Under p family k below (result_rate p frame) frame.result_for frame.lanes frames others → Joined p family k below s s'
  out_joined frame frames others s s' o h u = record {
    frame = o.new;
    other = o.other;
    frames = frames;
    others = others;
    is = o.is;
    other_is = o.other_is;
    memory = o.memory;
    lane = subst (λ l. has l k ≡ true) (sym o.lanes) h;
    pair = o.pair;
    under = under_moved o.new frame o.function o.for o.lanes frames others u;
  }

  out_together : (frame other : Frame) (frames others : List Frame) (s : State) (memory' : Store) → Out p family k frame frames others s (record { memory = memory'; frames = other ∷ others }) → has frame.lanes k ≡ true
      → Under p family k below (result_rate p frame) frame.result_for frame.lanes frames others → Stacks false p family k below s.frames (other ∷ others)
  out_together frame other frames others s memory' o h u =
      subst (λ fs. Stacks false p family k below fs (other ∷ others)) (sym o.is) (subst (λ fs. Stacks false p family k below (o.new ∷ frames) fs) (sym o.other_is)
      (together o.new o.other (subst (λ l. has l k ≡ true) (sym o.lanes) h) o.pair (under_moved o.new frame o.function o.for o.lanes frames others u)))

  out_apart : (frame dummy : Frame) (frames stack : List Frame) (s : State) (memory' : Store) → Out p family k frame frames [] s (record { memory = memory'; frames = dummy ∷ [] }) → has frame.lanes k ≡ false → dummy.tasks ≡ []
      → Over p family k below (result_rate p frame) frame.result_for frame.lanes frames stack → Stacks false p family k below s.frames stack
  out_apart frame dummy frames stack s memory' o h e u =
      subst (λ fs. Stacks false p family k below fs stack) (sym o.is)
      (apart o.new o.other (subst (λ l. has l k ≡ false) (sym o.lanes) h) (subst (λ f. f.tasks ≡ []) (frame_same o.other_is) e) o.pair (over_moved o.new frame o.function o.for o.lanes frames stack u))

  -- ---- a task

  task_both : (memory memory' : Store) (frame other : Frame) (frames others : List Frame) → MemoryAlike p k memory memory' → (known : Locals) (lanes alone : Lanes) → has lanes k ≡ true → has alone k ≡ true → Only k alone
      → has frame.lanes k ≡ true → Under p family k below (result_rate p frame) frame.result_for frame.lanes frames others
      → (d : Doing) → IsStep d → FitsDoing p family (result_rate p frame) known d → Mid p family k known (declared_by d) lanes frame other → own k frame.tasks ≡ own k other.tasks → Inside k frame.tasks → Inside k other.tasks
      → Follows (Joined p family k below) (perform p d lanes (record { memory = memory; frames = frame ∷ frames })) (perform p d alone (record { memory = memory'; frames = other ∷ others }))
  task_both memory memory' frame other frames others memories known lanes alone h m only in_frame under (Run (Call number n args result_for)) step f mid exact i i' =
      call_both p family k below closed memory memory' frame other frames others memories known lanes alone h m only in_frame under number n args result_for f mid
  task_both memory memory' frame other frames others memories known lanes alone h m only in_frame under d step f mid exact i i' =
      follows_map (Out p family k frame frames others) (Joined p family k below) (perform p d lanes (record { memory = memory; frames = frame ∷ frames })) (perform p d alone (record { memory = memory'; frames = other ∷ others }))
      (λ x y o. out_joined frame frames others x y o in_frame under)
      (both p family k memory memory' frame other frames others memories known lanes alone h m only d step tt f mid exact i i')

  abbrev Apart : Store → List Frame → State → Type 0
  Apart memory' stack s = MemoryAlike p k s.memory memory' × Stacks false p family k below s.frames stack

  task_one : (memory memory' : Store) (frame other : Frame) (frames others : List Frame) → MemoryAlike p k memory memory' → (known : Locals) (lanes : Lanes) → has lanes k ≡ false → k < length lanes → (stack : List Frame)
      → ((rate : Rate) (result_for : ResultFor) → Waits p family k rate result_for lanes frame other → Over p family k below rate result_for lanes (frame ∷ frames) stack)
      → ((s : State) → Out p family k frame frames others s (record { memory = memory'; frames = other ∷ others }) → Stacks false p family k below s.frames stack)
      → (d : Doing) → IsStep d → FitsDoing p family (result_rate p frame) known d → Mid p family k known (declared_by d) lanes frame other
      → IfOk (perform p d lanes (record { memory = memory; frames = frame ∷ frames })) (Apart memory' stack)
  task_one memory memory' frame other frames others memories known lanes h in_lanes stack over keep (Run (Call number n args result_for)) step f mid =
      call_one p family k below closed memory memory' frame other frames others memories known lanes h in_lanes number n args result_for f mid stack (over (rate_of (slice_get p.functions n)) result_for)
  task_one memory memory' frame other frames others memories known lanes h in_lanes stack over keep d step f mid =
      if_ok_map (λ s. Out p family k frame frames others s (record { memory = memory'; frames = other ∷ others })) (Apart memory' stack) (perform p d lanes (record { memory = memory; frames = frame ∷ frames }))
      (λ s o. (o.memory, keep s o)) (one p family k memory memory' frame other frames others memories known lanes h in_lanes d step tt f mid)

  -- ---- a step

  pub data Moves (next other : State) : Type 0 where
    waits : Stands p family k below next other → Moves next other
    goes : (after : State) → step p other ≡ Goes after → (IsLeft below other.frames → ⊥) → Stands p family k below next after → Moves next other

  stepped_both : (r r' : Result State Fault) (next : State) → stepped r ≡ Goes next → Follows (Joined p family k below) r r' → (after : State) × (stepped r' ≡ Goes after) × Stands p family k below next after
  stepped_both (Ok s) r' next e f = (settle f.0, ap stepped f.1, subst (λ n. Stands p family k below n (settle f.0)) (goes_same e) (settle_joined s f.0 f.2))
  stepped_both (Err fault) r' next e f = fails_goes e

  -- the frame under one that both have, if it is not below the call
  record UnderCaller (rate : Rate) (result_for : ResultFor) (lanes : Lanes) (frames others : List Frame) : Type 0 where
    frame : Frame
    other : Frame
    rest : List Frame
    rests : List Frame
    is : frames ≡ frame ∷ rest
    other_is : others ≡ other ∷ rests
    lane : has frame.lanes k ≡ true
    waiting : Waits p family k rate result_for lanes frame other
    under : Under p family k below (result_rate p frame) frame.result_for frame.lanes rest rests

  under_case : {rate : Rate} {result_for : ResultFor} {lanes : Lanes} {frames others : List Frame} {P : Type 0} → Under p family k below rate result_for lanes frames others → (length frames ≡ below → P) → (UnderCaller rate result_for lanes frames others → P) → P
  under_case (base a b) at_base at_caller = at_base a
  under_case (caller frame other {frames = frames} {others = others} h w u) at_base at_caller =
      at_caller (record { frame = frame; other = other; rest = frames; rests = others; is = refl; other_is = refl; lane = h; waiting = w; under = u })

  record OverAway (rate : Rate) (result_for : ResultFor) (lanes : Lanes) (frames stack : List Frame) : Type 0 where
    frame : Frame
    dummy : Frame
    rest : List Frame
    is : frames ≡ frame ∷ rest
    lane : has frame.lanes k ≡ false
    empty : dummy.tasks ≡ []
    waiting : Waits p family k rate result_for lanes frame dummy
    over : Over p family k below (result_rate p frame) frame.result_for frame.lanes rest stack

  over_case : {rate : Rate} {result_for : ResultFor} {lanes : Lanes} {frames stack : List Frame} {P : Type 0} → Over p family k below rate result_for lanes frames stack → (UnderCaller rate result_for lanes frames stack → P) → (OverAway rate result_for lanes frames stack → P) → P
  over_case (on_lane frame other {frames = frames} {others = others} h w u) on on_away' =
      on (record { frame = frame; other = other; rest = frames; rests = others; is = refl; other_is = refl; lane = h; waiting = w; under = u })
  over_case (on_away frame dummy {frames = frames} h e w o) on on_away' = on_away' (record { frame = frame; dummy = dummy; rest = frames; is = refl; lane = h; empty = e; waiting = w; over = o })

  module _ (w : ℕ) (in_gang : k < w) (memory memory' : Store) (memories : MemoryAlike p k memory memory') (next : State) where
    -- frames that both have
    module _ (frame other : Frame) (frames others : List Frame) (h : has frame.lanes k ≡ true) (pair : Pair true p family k frame other)
        (under : Under p family k below (result_rate p frame) frame.result_for frame.lanes frames others) (sized : FrameSized w frame) (settled_first : IsSettled frame.tasks) (settled_other : IsSettled other.tasks)
        (not_left : IsLeft below (frame ∷ frames) → ⊥) where
      abbrev alone_state : State
      alone_state = record { memory = memory'; frames = other ∷ others }

      leave_together : UnderCaller (result_rate p frame) frame.result_for frame.lanes frames others → other.tasks ≡ [] → Goes (settle (leave p frame (record { memory = memory; frames = frames }))) ≡ Goes next → Moves next alone_state
      leave_together c empty e =
          let j : Joined p family k below (leave p frame (record { memory = memory; frames = c.frame ∷ c.rest })) (leave p other (record { memory = memory'; frames = c.other ∷ c.rests })) =
          out_joined c.frame c.rest c.rests _ _ (leave_both p family k below memory memory' c.frame c.other c.rest c.rests memories frame other pair.frames h c.waiting) c.lane c.under in
          let j' : Joined p family k below (leave p frame (record { memory = memory; frames = frames })) (leave p other (record { memory = memory'; frames = others })) =
          subst (λ fs. Joined p family k below (leave p frame (record { memory = memory; frames = fs })) (leave p other (record { memory = memory'; frames = others }))) (sym c.is)
          (subst (λ fs. Joined p family k below (leave p frame (record { memory = memory; frames = c.frame ∷ c.rest })) (leave p other (record { memory = memory'; frames = fs }))) (sym c.other_is) j) in
          goes (settle (leave p other (record { memory = memory'; frames = others }))) (ap (step_task p memory' others other) empty)
          (λ l. let long : _ = under_long p family k below c.under in let more : length others ≡ suc (length c.rests) = ap length c.other_is in absurd (omega (arith, l.0, long.0, long.1, more)))
          (subst (λ n. Stands p family k below n (settle (leave p other (record { memory = memory'; frames = others })))) (goes_same e) (settle_joined _ _ j'))

      task_together : (t : Task) (ts : List Task) → TasksAlike k (t ∷ ts) other.tasks → Head p family (result_rate p frame) k (LocalAlike k frame.vars other.vars) everything (t ∷ ts) → IsStep t.doing → length t.lanes ≡ w
          → stepped (perform p t.doing t.lanes (record { memory = memory; frames = record frame { tasks = ts } ∷ frames })) ≡ Goes next → Moves next alone_state
      task_together t ts ta hd is_step long e = by_bool (has t.lanes k) with_lane without_lane
        where
          with_lane : has t.lanes k ≡ true → Moves next alone_state
          with_lane here =
              let fo : FirstOther k t ts other.tasks = first_other k t ts here is_step other.tasks settled_other ta.only ta.same in
              let nested' : Nested k (fo.first ∷ fo.rest) = subst (Nested k) fo.is ta.nested_other in
              let ta' : TasksAlike k ts fo.rest = record { same = ap own_settled fo.exact; nested = ta.nested.1; nested_other = nested'.1; only = (subst (AllLanes (Only k)) fo.is ta.only).1 } in
              let mid : Mid p family k hd.0 (declared_by t.doing) t.lanes (record frame { tasks = ts }) (record other { tasks = fo.rest }) = record { frames = pair.frames; tasks = ta'; behind = hd.4; alike = hd.3 } in
              let r : _ = stepped_both _ _ next e (task_both memory memory' (record frame { tasks = ts }) (record other { tasks = fo.rest }) frames others memories hd.0 t.lanes fo.first.lanes here fo.lane fo.only h under
              t.doing is_step hd.2 mid fo.exact (ta.nested.0 here) (nested'.0 fo.lane)) in
              goes r.0 (ap (step_task p memory' others other) fo.is ∙ ap (λ d. stepped (perform p d fo.first.lanes (record { memory = memory'; frames = record other { tasks = fo.rest } ∷ others }))) fo.doing ∙ r.1)
              (λ l. no_task (sym fo.is ∙ l.1)) r.2

          without_lane : has t.lanes k ≡ false → Moves next alone_state
          without_lane away =
              let ta' : TasksAlike k ts other.tasks = record { same = ap own_settled (sym (own_away k t ts away)) ∙ ta.same; nested = ta.nested.1; nested_other = ta.nested_other; only = ta.only } in
              let mid : Mid p family k hd.0 (declared_by t.doing) t.lanes (record frame { tasks = ts }) other = record { frames = pair.frames; tasks = ta'; behind = hd.4; alike = hd.3 } in
              waits (stepped_ok _ next e (λ n. Stands p family k below n alone_state)
              (if_ok_map (Apart memory' (other ∷ others)) (λ s. Stands p family k below (settle s) alone_state) (perform p t.doing t.lanes (record { memory = memory; frames = record frame { tasks = ts } ∷ frames }))
              (λ s x. settle_one s memory' (other ∷ others) x.0 x.1 settled_other)
              (task_one memory memory' (record frame { tasks = ts }) other frames others memories hd.0 t.lanes away (omega (arith, in_gang, long)) (other ∷ others)
              (λ rate result_for wts. on_lane (record frame { tasks = ts }) other h wts under) (λ s o. out_together (record frame { tasks = ts }) other frames others s memory' o h under) t.doing is_step hd.2 mid)))

      pub step_together : (ts : List Task) → frame.tasks ≡ ts → step_task p memory frames frame ts ≡ Goes next → Moves next alone_state
      step_together [] is e = under_case under
          (λ at_base. absurd (not_left (at_base, is)))
          (λ c. leave_together c (none_left k other.tasks settled_other pair.tasks.only (subst (λ xs. own_settled (own k xs) ≡ own_settled (own k other.tasks)) is pair.tasks.same)) e)
      step_together (t ∷ ts) is e = task_together t ts (subst (λ xs. TasksAlike k xs other.tasks) is pair.tasks)
          (subst (Head p family (result_rate p frame) k (LocalAlike k frame.vars other.vars) everything) is pair.chain) (subst IsSettled is settled_first).1 (subst (TasksSized w) is sized.tasks).0 e

    -- a frame that lane k takes no part in
    module _ (frame dummy : Frame) (frames stack : List Frame) (h : has frame.lanes k ≡ false) (empty : dummy.tasks ≡ []) (pair : Pair true p family k frame dummy)
        (over : Over p family k below (result_rate p frame) frame.result_for frame.lanes frames stack) (sized : FrameSized w frame) (settled_first : IsSettled frame.tasks) (settled_other : SettledTop stack) where
      abbrev other_state : State
      other_state = record { memory = memory'; frames = stack }

      in_call : k < length frame.lanes
      in_call = omega (arith, in_gang, sized.call)

      leave_apart : (fs : List Frame) → frames ≡ fs → (s : List Frame) → stack ≡ s → Stacks false p family k below (leave p frame (record { memory = memory; frames = fs })).frames s
          → MemoryAlike p k (leave p frame (record { memory = memory; frames = fs })).memory memory' → Goes (settle (leave p frame (record { memory = memory; frames = frames }))) ≡ Goes next → Moves next other_state
      leave_apart fs is s other_is st m e =
          waits (subst (λ n. Stands p family k below n other_state) (goes_same e)
          (settle_one (leave p frame (record { memory = memory; frames = frames })) memory' stack
          (subst (λ gs. MemoryAlike p k (leave p frame (record { memory = memory; frames = gs })).memory memory') (sym is) m)
          (subst (λ gs. Stacks false p family k below (leave p frame (record { memory = memory; frames = gs })).frames stack) (sym is) (subst (Stacks false p family k below (leave p frame (record { memory = memory; frames = fs })).frames) (sym other_is) st))
          settled_other))

      task_apart : (t : Task) (ts : List Task) → TasksAlike k (t ∷ ts) dummy.tasks → Head p family (result_rate p frame) k (LocalAlike k frame.vars dummy.vars) everything (t ∷ ts) → IsStep t.doing → length t.lanes ≡ w
          → stepped (perform p t.doing t.lanes (record { memory = memory; frames = record frame { tasks = ts } ∷ frames })) ≡ Goes next → Moves next other_state
      task_apart t ts ta hd is_step long e = by_bool (has t.lanes k)
          (λ here. absurd (no_first (sym (own_first k t ts here is_step) ∙ ta.same ∙ ap (λ xs. own_settled (own k xs)) empty)))
          (λ away.
          let ta' : TasksAlike k ts dummy.tasks = record { same = ap own_settled (sym (own_away k t ts away)) ∙ ta.same; nested = ta.nested.1; nested_other = ta.nested_other; only = ta.only } in
          let mid : Mid p family k hd.0 (declared_by t.doing) t.lanes (record frame { tasks = ts }) dummy = record { frames = pair.frames; tasks = ta'; behind = hd.4; alike = hd.3 } in
          waits (stepped_ok _ next e (λ n. Stands p family k below n other_state)
          (if_ok_map (Apart memory' stack) (λ s. Stands p family k below (settle s) other_state) (perform p t.doing t.lanes (record { memory = memory; frames = record frame { tasks = ts } ∷ frames }))
          (λ s x. settle_one s memory' stack x.0 x.1 settled_other)
          (task_one memory memory' (record frame { tasks = ts }) dummy frames [] memories hd.0 t.lanes away (omega (arith, in_gang, long)) stack
          (λ rate result_for wts. on_away (record frame { tasks = ts }) dummy h empty wts over) (λ s o. out_apart (record frame { tasks = ts }) dummy frames stack s memory' o h empty over) t.doing is_step hd.2 mid))))

      pub step_apart : (ts : List Task) → frame.tasks ≡ ts → step_task p memory frames frame ts ≡ Goes next → Moves next other_state
      step_apart [] is e = over_case over
          (λ c.
          let o : Out p family k c.frame c.rest c.rests (leave p frame (record { memory = memory; frames = c.frame ∷ c.rest })) (record { memory = memory'; frames = c.other ∷ c.rests }) =
          leave_one p family k below memory memory' c.frame c.other c.rest c.rests memories frame h in_call c.waiting in
          leave_apart (c.frame ∷ c.rest) c.is (c.other ∷ c.rests) c.other_is (out_together c.frame c.other c.rest c.rests _ memory' o c.lane c.under) o.memory e)
          (λ c.
          let o : Out p family k c.frame c.rest [] (leave p frame (record { memory = memory; frames = c.frame ∷ c.rest })) (record { memory = memory'; frames = c.dummy ∷ [] }) =
          leave_one p family k below memory memory' c.frame c.dummy c.rest [] memories frame h in_call c.waiting in
          leave_apart (c.frame ∷ c.rest) c.is stack refl (out_apart c.frame c.dummy c.rest stack _ memory' o c.lane c.empty c.over) o.memory e)
      step_apart (t ∷ ts) is e = task_apart t ts (subst (λ xs. TasksAlike k xs dummy.tasks) is pair.tasks)
          (subst (Head p family (result_rate p frame) k (LocalAlike k frame.vars dummy.vars) everything) is pair.chain) (subst IsSettled is settled_first).1 (subst (TasksSized w) is sized.tasks).0 e

    pub step_frames : (frames stack : List Frame) → Stacks true p family k below frames stack → FramesSized w frames → SettledTop frames → SettledTop stack → (IsLeft below frames → ⊥) → step_frame p memory frames ≡ Goes next
        → Moves next (record { memory = memory'; frames = stack })
    step_frames _ _ (together frame other {frames = frames} {others = others} h pair under) sized top top' not_left e = step_together frame other frames others h pair under sized.0 top top' not_left frame.tasks refl e
    step_frames _ _ (apart frame dummy {frames = frames} {others = stack} h empty pair over) sized top top' not_left e = step_apart frame dummy frames stack h empty pair over sized.0 top top' frame.tasks refl e

  -- a step is one of lane k alone, or none
  pub step_stands : (w : ℕ) → k < w → (state other next : State) → StateSized w state → Stands p family k below state other → step p state ≡ Goes next → (IsLeft below state.frames → ⊥) → Moves next other
  step_stands w in_gang state other next sized s e not_left = step_frames w in_gang state.memory other.memory s.memory next state.frames other.frames s.stacks sized s.settled s.settled_other not_left e
