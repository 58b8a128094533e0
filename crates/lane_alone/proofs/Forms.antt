-- A step of the first task, by lanes with lane k and without it; a call is taken by itself.
use Rattle.std.proofs.Common.{◌≡◌, refl, sym, ap, ◌∙◌, subst, ℕ, zero, suc, ◌<◌, Bool, true, false, List, [], ◌∷◌, ◌++◌, length, Option, Some, None, arith}
use Rattle.std.specs.Prelude.{if◌then◌else◌, not, ◌&&◌, ◌==◌, slice_get, Result, Ok, Err, IfOk}
use Rattle.std.proofs.lemmas.List.{append_assoc}
use Rattle.gang_types.specs.declared.types.Rate.{Rate}
use Rattle.gang_types.specs.declared.types.Rate.TheVariants.{Uniform, Varying}
use Rattle.gang_types.specs.Values.{binary_result, converted}
use Rattle.gang_types.specs.Lanes.{Lanes, has, lowest, lanes_where}
use Rattle.gang_types.specs.LaneLaws.{has-lanes_where}
use Rattle.gang_model.specs.Types.Tree.{Program, Expr, Stmt, Empty, Then, Declare, Assign, Change, If, Loop, BodyFirst, Break, Continue, Return, Switch, Segment, ForEach, Call, Check, PackedStore, PackedLoad, Scalar, ElementOf, StepNumber}
use Rattle.gang_model.specs.Running.Lanes.{Fault, at, each, words_from, try_each, holds}
use Rattle.gang_model.specs.Running.Value.{value}
use Rattle.gang_model.specs.Running.State.{Store, Doing, Run, LoopTest, LoopUpdate, Round, RoundEnd, SwitchEnd, Task, Frame, State, words_in, with_words_in, seen, declared_words, assigned_words, on_top}
use Rattle.gang_model.specs.Running.Step.{task, with_tasks, perform, initial, ends_break, ends_turn, broken, continued, segment_tasks, is_at_most, or_default, labelled, default_of, result_rate, rate_of}
use Rattle.gang_model.proofs.LaneWords.{if_ok_bind, if_ok_after, length-each, length-try_each, length-value, Fills}
use Rattle.gang_model.proofs.UniformValues.{at-each}
use Rattle.lane_alone.specs.Fits.{Only, Locals, FitsExpr, FitsOption, Family, Fits, FitsDoing}
use Rattle.lane_alone.specs.OwnTasks.{own, own_settled, after_first, from_first, IsStep, AllLanes, first_has, Inside, Nested, Chain, declared_by}
use Rattle.lane_alone.specs.Alike.{AlikeAt, LocalAlike, MemoryAlike, FrameAlike, everything, Mid}
use Rattle.lane_alone.proofs.TaskLists.{not_both, own_here, own_away}
use Rattle.lane_alone.proofs.Chains.{within_same, chain_wider, behind_none}
use Rattle.lane_alone.proofs.LeavingTasks.{broken_stays, continued_stays, broken_leaves, continued_leaves, shrinks_broken, shrinks_continued, chain_shrinks, nested_broken, nested_continued, all_broken, all_continued}
use Rattle.lane_alone.proofs.Words.{lane_lt, alike_merged, alike_away}
use Rattle.lane_alone.proofs.Follows.{Follows, follows_bind, AtLane, Part, where_has, follows_tried}
use Rattle.lane_alone.proofs.LaneValues.{SeesAlike, value_alone, initial_alone}
use Rattle.lane_alone.proofs.Effects.{smaller, Out, retasked, plain, assign_both, assign_one, declare_both, declare_one, return_both, return_one, sees}

-- no call
abbrev pub NoCall : Doing → Type 0
NoCall (Run (Call number f args result_for)) = ⊥
NoCall d = Unit {0}

-- ---- values with their lengths

pub record Both (k : ℕ) (lanes alone : Lanes) (x y : List ℕ) : Type 0 where
  pub same : AtLane k alone x y
  pub long : length x ≡ length lanes
  pub long_other : length y ≡ length alone

pub follows_long : (k : ℕ) (lanes alone : Lanes) (r s : Result (List ℕ) Fault) → Follows (AtLane k alone) r s → IfOk r (Fills lanes) → IfOk s (Fills alone) → Follows (Both k lanes alone) r s
follows_long k lanes alone (Ok x) s f l m = (f.0, f.1, record { same = f.2; long = l; long_other = subst (λ q. IfOk q (Fills alone)) f.1 m })
follows_long k lanes alone (Err fault) s f l m = tt

pub long_initial : (e : Option Expr) (lanes : Lanes) (state : State) → IfOk (initial e lanes state) (Fills lanes)
long_initial None lanes state = length-each lanes _
long_initial (Some e) lanes state = length-value e lanes state

pub at_zeros : (m : ℕ) (lanes : Lanes) (j : ℕ) → at (words_from m lanes (λ i. 0)) j ≡ 0
at_zeros m [] j = refl
at_zeros m (true ∷ lanes) zero = refl
at_zeros m (false ∷ lanes) zero = refl
at_zeros m (b ∷ lanes) (suc j) = at_zeros (suc m) lanes j

pub seen_at : (k : ℕ) (rate : Rate) (lanes : Lanes) (words : List ℕ) → rate ≡ Varying → has lanes k ≡ true → at (seen rate lanes words) k ≡ at words k
seen_at k rate lanes words e h = ap (λ r. at (seen r lanes words) k) e ∙ at-each lanes (λ j. at words j) k h

-- ---- tasks of the lanes that pass a test

module _ (k : ℕ) where
  own_where : (d : Doing) (lanes : Lanes) (test : ℕ → Bool) (ts : List Task) → has lanes k ≡ true → own k (task d (lanes_where lanes test) ∷ ts) ≡ (if test k then d ∷ own k ts else own k ts)
  own_where d lanes test ts h = ap (λ b. if b then d ∷ own k ts else own k ts) (has-lanes_where lanes test k ∙ ap (λ b. b && test k) h)

  own_both : (d : Doing) (lanes alone : Lanes) (test test' : ℕ → Bool) (ts us : List Task) → has lanes k ≡ true → has alone k ≡ true → test k ≡ test' k → own k ts ≡ own k us
      → own k (task d (lanes_where lanes test) ∷ ts) ≡ own k (task d (lanes_where alone test') ∷ us)
  own_both d lanes alone test test' ts us h m e same =
      own_where d lanes test ts h ∙ ap (λ ds. if test k then d ∷ ds else ds) same ∙ ap (λ b. if b then d ∷ own k us else own k us) e ∙ sym (own_where d alone test' us m)

  where_out : (lanes : Lanes) (test : ℕ → Bool) → has lanes k ≡ false → has (lanes_where lanes test) k ≡ false
  where_out lanes test h = has-lanes_where lanes test k ∙ ap (λ b. b && test k) h

  own_out : (d : Doing) (lanes : Lanes) (test : ℕ → Bool) (ts : List Task) → has lanes k ≡ false → own k (task d (lanes_where lanes test) ∷ ts) ≡ own k ts
  own_out d lanes test ts h = own_away k (task d (lanes_where lanes test)) ts (where_out lanes test h)

  -- segments
  segments_both : (s : Stmt) (i : ℕ) (lanes alone : Lanes) (entry entry' : ℕ → Option ℕ) (ts us : List Task) → has lanes k ≡ true → has alone k ≡ true → entry k ≡ entry' k → own k ts ≡ own k us
      → own k (segment_tasks i s lanes entry ++ ts) ≡ own k (segment_tasks i s alone entry' ++ us)
  segments_both (Segment label body rest) i lanes alone entry entry' ts us h m e same =
      own_both (Run body) lanes alone (λ j. is_at_most (entry j) i) (λ j. is_at_most (entry' j) i) (segment_tasks (suc i) rest lanes entry ++ ts) (segment_tasks (suc i) rest alone entry' ++ us) h m (ap (λ o. is_at_most o i) e) (segments_both rest (suc i) lanes alone entry entry' ts us h m e same)
  segments_both s i lanes alone entry entry' ts us h m e same = same

  segments_out : (s : Stmt) (i : ℕ) (lanes : Lanes) (entry : ℕ → Option ℕ) (ts : List Task) → has lanes k ≡ false → own k (segment_tasks i s lanes entry ++ ts) ≡ own k ts
  segments_out (Segment label body rest) i lanes entry ts h = own_out (Run body) lanes (λ j. is_at_most (entry j) i) (segment_tasks (suc i) rest lanes entry ++ ts) h ∙ segments_out rest (suc i) lanes entry ts h
  segments_out s i lanes entry ts h = refl

  first_segments_break : (s : Stmt) (i : ℕ) (lanes : Lanes) (entry : ℕ → Option ℕ) (ts : List Task) → first_has ends_break k (segment_tasks i s lanes entry ++ ts) ≡ first_has ends_break k ts
  first_segments_break (Segment label body rest) i lanes entry ts = first_segments_break rest (suc i) lanes entry ts
  first_segments_break s i lanes entry ts = refl

  first_segments_turn : (s : Stmt) (i : ℕ) (lanes : Lanes) (entry : ℕ → Option ℕ) (ts : List Task) → first_has ends_turn k (segment_tasks i s lanes entry ++ ts) ≡ first_has ends_turn k ts
  first_segments_turn (Segment label body rest) i lanes entry ts = first_segments_turn rest (suc i) lanes entry ts
  first_segments_turn s i lanes entry ts = refl

  nested_segments : (s : Stmt) (i : ℕ) (lanes : Lanes) (entry : ℕ → Option ℕ) (ts : List Task) → (has lanes k ≡ true → Inside k ts) → Nested k ts → Nested k (segment_tasks i s lanes entry ++ ts)
  nested_segments (Segment label body rest) i lanes entry ts inside n = (
    (λ h.
        let at_end : Inside k ts = inside (where_has lanes (λ j. is_at_most (entry j) i) k h) in
        (first_segments_break rest (suc i) lanes entry ts ∙ at_end.0, first_segments_turn rest (suc i) lanes entry ts ∙ at_end.1)),
    nested_segments rest (suc i) lanes entry ts inside n,
  )
  nested_segments s i lanes entry ts inside n = n

  only_where : (alone : Lanes) (test : ℕ → Bool) → Only k alone → Only k (lanes_where alone test)
  only_where alone test only j h = only j (where_has alone test j h)

  only_segments : (s : Stmt) (i : ℕ) (alone : Lanes) (entry : ℕ → Option ℕ) (us : List Task) → Only k alone → AllLanes (Only k) us → AllLanes (Only k) (segment_tasks i s alone entry ++ us)
  only_segments (Segment label body rest) i alone entry us only a = (only_where alone (λ j. is_at_most (entry j) i) only, only_segments rest (suc i) alone entry us only a)
  only_segments s i alone entry us only a = a

  -- the end of a switch
  module _ (lanes : Lanes) (ts : List Task) (inside : has lanes k ≡ true → Inside k ts) (n : Nested k ts) where
    nested_switch : (segments : Stmt) (entry : ℕ → Option ℕ) → Nested k (segment_tasks 0 segments lanes entry ++ (task SwitchEnd lanes ∷ ts))
    nested_switch segments entry = nested_segments segments 0 lanes entry (task SwitchEnd lanes ∷ ts) (λ h. (h, (inside h).1)) (inside, n)

    nested_if : (first second : Stmt) (test test' : ℕ → Bool) → Nested k (task (Run first) (lanes_where lanes test) ∷ task (Run second) (lanes_where lanes test') ∷ ts)
    nested_if first second test test' = ((λ h. inside (where_has lanes test k h)), ((λ h. inside (where_has lanes test' k h)), n))

    nested_loop : (number : StepNumber) (e : Expr) (update body : Stmt) (test : ℕ → Bool)
        → Nested k (task (Run body) (lanes_where lanes test) ∷ task (LoopUpdate update) (lanes_where lanes test) ∷ task (LoopTest number e update body) (lanes_where lanes test) ∷ ts)
    nested_loop number e update body test =
        ((λ h. (h, h)), ((λ h. (h, (inside (where_has lanes test k h)).1)), ((λ h. inside (where_has lanes test k h)), n)))

pub varied : {P : Type 0} → Varying ≡ Uniform → P
varied q = absurd (cc)

module _ (p : Program) (family : Family) (k : ℕ) where
  chain_segments : (own_rate : Rate) (alike : ℕ → Type 0) (known : Locals) (lanes : Lanes) (entry : ℕ → Option ℕ) (ts : List Task) → (has lanes k ≡ true → (n : ℕ) → known n ≡ true → alike n)
      → Chain p family own_rate k alike known ts → (s : Stmt) (i : ℕ) → Fits p family own_rate known s → Chain p family own_rate k alike known (segment_tasks i s lanes entry ++ ts)
  chain_segments own_rate alike known lanes entry ts a c (Segment label body rest) i f =
      (known, within_same known, f.0, (λ h. a (where_has lanes (λ j. is_at_most (entry j) i) k h)), chain_segments own_rate alike known lanes entry ts a c rest (suc i) f.1)
  chain_segments own_rate alike known lanes entry ts a c s i f = c

  pub alike_each : (lanes alone : Lanes) (f g : ℕ → ℕ) → has lanes k ≡ true → has alone k ≡ true → f k ≡ g k → AlikeAt k (each lanes f) (each alone g)
  alike_each lanes alone f g h m e =
      let in_lanes : k < length lanes = lane_lt lanes k h in
      let in_alone : k < length alone = lane_lt alone k m in
      (omega (arith, length-each lanes f, in_lanes), omega (arith, length-each alone g, in_alone), at-each lanes f k h ∙ e ∙ sym (at-each alone g k m))

  module _ (memory memory' : Store) (frame other : Frame) (frames others : List Frame) (memories : MemoryAlike p k memory memory') (known : Locals) (lanes : Lanes) where
    abbrev st : State
    st = record { memory = memory; frames = frame ∷ frames }

    abbrev st' : State
    st' = record { memory = memory'; frames = other ∷ others }

    abbrev alike : ℕ → Type 0
    alike = LocalAlike k frame.vars other.vars

    tasks_after : Mid p family k known None lanes frame other → Chain p family (result_rate p frame) k (LocalAlike k frame.vars other.vars) known frame.tasks
    tasks_after mid = behind_none p family (result_rate p frame) k _ known lanes frame.tasks mid.behind

    widely : (ts : List Task) → Chain p family (result_rate p frame) k (LocalAlike k frame.vars other.vars) known ts → Chain p family (result_rate p frame) k (LocalAlike k frame.vars other.vars) everything ts
    widely ts c = chain_wider p family (result_rate p frame) k _ known everything (λ n h. refl) ts c

    if_chain : Mid p family k known None lanes frame other → (first second : Stmt) (test test' : ℕ → Bool) → Fits p family (result_rate p frame) known first → Fits p family (result_rate p frame) known second
        → Chain p family (result_rate p frame) k (LocalAlike k frame.vars other.vars) everything (task (Run first) (lanes_where lanes test) ∷ task (Run second) (lanes_where lanes test') ∷ frame.tasks)
    if_chain mid first second test test' f g =
        (known, (λ n h. refl), f, (λ h. mid.alike (where_has lanes test k h)), (known, within_same known, g, (λ h. mid.alike (where_has lanes test' k h)), tasks_after mid))

    loop_chain : Mid p family k known None lanes frame other → (number : StepNumber) (e : Expr) (update body : Stmt) (test : ℕ → Bool) → FitsExpr p known e → Fits p family (result_rate p frame) known update
        → Fits p family (result_rate p frame) known body
        → Chain p family (result_rate p frame) k (LocalAlike k frame.vars other.vars) everything
        (task (Run body) (lanes_where lanes test) ∷ task (LoopUpdate update) (lanes_where lanes test) ∷ task (LoopTest number e update body) (lanes_where lanes test) ∷ frame.tasks)
    loop_chain mid number e update body test fe fu fb =
        let a : has (lanes_where lanes test) k ≡ true → (n : ℕ) → known n ≡ true → LocalAlike k frame.vars other.vars n = λ h. mid.alike (where_has lanes test k h) in
        (known, (λ n h. refl), fb, a, (known, within_same known, fu, a, (known, within_same known, (fe, fu, fb), a, tasks_after mid)))

    switch_chain : Mid p family k known None lanes frame other → (segments : Stmt) (entry : ℕ → Option ℕ) → Fits p family (result_rate p frame) known segments
        → Chain p family (result_rate p frame) k (LocalAlike k frame.vars other.vars) everything (segment_tasks 0 segments lanes entry ++ (task SwitchEnd lanes ∷ frame.tasks))
    switch_chain mid segments entry f =
        widely (segment_tasks 0 segments lanes entry ++ (task SwitchEnd lanes ∷ frame.tasks))
        (chain_segments (result_rate p frame) _ known lanes entry (task SwitchEnd lanes ∷ frame.tasks) mid.alike (known, within_same known, tt, mid.alike, tasks_after mid) segments 0 f)

    two : {A B C : Type 0} (f : A → B → C) {a c : A} {b d : B} → a ≡ c → b ≡ d → f a b ≡ f c d
    two f {a = a} {d = d} e h = ap (f a) h ∙ ap (λ z. f z d) e

    -- both runs do the step
    module _ (alone : Lanes) (h : has lanes k ≡ true) (m : has alone k ≡ true) (only : Only k alone) where
      part : Part k lanes alone
      part = record { only = only; among = λ here. h }

      sees_alike : FrameAlike p k frame other → ((n : ℕ) → known n ≡ true → LocalAlike k frame.vars other.vars n) → has alone k ≡ true → SeesAlike p known k st st'
      sees_alike f a here = sees p family k memory memory' frame other frames others memories f known a

      pub values : (e : Expr) → FitsExpr p known e → FrameAlike p k frame other → ((n : ℕ) → known n ≡ true → LocalAlike k frame.vars other.vars n)
          → Follows (Both k lanes alone) (value e lanes st) (value e alone st')
      values e fits f a = follows_long k lanes alone (value e lanes st) (value e alone st') (value_alone p known k st st' e fits lanes alone part (sees_alike f a)) (length-value e lanes st) (length-value e alone st')

      pub initials : (e : Option Expr) → FitsOption p known e → FrameAlike p k frame other → ((n : ℕ) → known n ≡ true → LocalAlike k frame.vars other.vars n)
          → Follows (Both k lanes alone) (initial e lanes st) (initial e alone st')
      initials e fits f a = follows_long k lanes alone (initial e lanes st) (initial e alone st') (initial_alone p known k st st' e fits lanes alone part (sees_alike f a)) (long_initial e lanes st) (long_initial e alone st')

      holds_same : (x x' : List ℕ) → Both k lanes alone x x' → holds x k ≡ holds x' k
      holds_same x x' b = ap (λ n. not (n == 0)) (b.same m)

      same_rate : FrameAlike p k frame other → result_rate p frame ≡ result_rate p other
      same_rate f = ap (λ n. rate_of (slice_get p.functions n)) (sym f.same_function)

      pub both : (d : Doing) → IsStep d → NoCall d → FitsDoing p family (result_rate p frame) known d → Mid p family k known (declared_by d) lanes frame other → own k frame.tasks ≡ own k other.tasks
          → Inside k frame.tasks → Inside k other.tasks → Follows (Out p family k frame frames others) (perform p d lanes st) (perform p d alone st')
      both (Run (Declare number v e)) step no_call f mid exact i i' =
          follows_bind (Both k lanes alone) (Out p family k frame frames others) (initial e lanes st) (initial e alone st') _ _ (initials e f.1 mid.frames (mid.alike h))
          (λ x x' b. (
            _,
            refl,
            subst (λ rate. Out p family k frame frames others (with_words_in st v.id (declared_words rate lanes x)) (with_words_in st' v.id (declared_words rate alone x'))) (sym f.0.0)
                (subst (λ id. Out p family k frame frames others (with_words_in st id (each lanes (λ j. at x j))) (with_words_in st' id (each alone (λ j. at x' j)))) (sym f.0.2)
                (declare_both p family k memory memory' frame other frames others memories known lanes f.0.1 f.0.3 (subst (λ id. Mid p family k known (Some id) lanes frame other) f.0.2 mid) h (each lanes (λ j. at x j)) (each alone (λ j. at x' j))
                (alike_each lanes alone (λ j. at x j) (λ j. at x' j) h m (b.same m)))),
          ))
      both (Run (Assign number (Scalar v) e)) step no_call f mid exact i i' =
          follows_bind (Both k lanes alone) (Out p family k frame frames others) (value e lanes st) (value e alone st') _ _ (values e f.1 mid.frames (mid.alike h))
          (λ x x' b. (
            _,
            refl,
            subst (λ rate. Out p family k frame frames others (with_words_in st v.id (assigned_words rate lanes x (words_in st v.id))) (with_words_in st' v.id (assigned_words rate alone x' (words_in st' v.id)))) (sym f.0.0)
                (assign_both p family k memory memory' frame other frames others memories known lanes mid v.id f.0.1 _ _ (λ old. alike_merged k lanes alone x x' _ _ h m b.long b.long_other (b.same m) old)),
          ))
      both (Run (Assign number (ElementOf array rate index) e)) step no_call f mid exact i i' = absurd f.0
      both (Run (Change number (Scalar v) type op in_type e)) step no_call f mid exact i i' =
          let f1 : List ℕ → ℕ → Result ℕ _ = λ y j. binary_result op in_type (converted type in_type (at (seen v.rate lanes (words_in st v.id)) j)) (at y j) in
          let f2 : List ℕ → ℕ → Result ℕ _ = λ y j. binary_result op in_type (converted type in_type (at (seen v.rate alone (words_in st' v.id)) j)) (at y j) in
          let sight : SeesAlike p known k st st' = sees_alike mid.frames (mid.alike h) m in
          follows_bind (Both k lanes alone) (Out p family k frame frames others) (value e lanes st) (value e alone st') _ _ (values e f.1 mid.frames (mid.alike h))
          (λ y y' b. follows_bind (Both k lanes alone) (Out p family k frame frames others) (try_each lanes (f1 y)) (try_each alone (f2 y')) _ _
          (follows_long k lanes alone (try_each lanes (f1 y)) (try_each alone (f2 y')) (follows_tried k lanes alone (f1 y) (f2 y') part
          (λ here. two (λ a c. binary_result op in_type (converted type in_type a) c) (seen_at k v.rate lanes (words_in st v.id) f.0.0 h ∙ sight.words v.id f.0.1 ∙ sym (seen_at k v.rate alone (words_in st' v.id) f.0.0 m)) (b.same m)))
          (length-try_each lanes (f1 y)) (length-try_each alone (f2 y')))
          (λ x x' c.
          let new : List ℕ = each lanes (λ j. converted in_type type (at x j)) in
          let new' : List ℕ = each alone (λ j. converted in_type type (at x' j)) in (
            _,
            refl,
            subst (λ rate. Out p family k frame frames others (with_words_in st v.id (assigned_words rate lanes new (words_in st v.id))) (with_words_in st' v.id (assigned_words rate alone new' (words_in st' v.id)))) (sym f.0.0)
                (assign_both p family k memory memory' frame other frames others memories known lanes mid v.id f.0.1 _ _ (λ old. alike_merged k lanes alone new new' _ _ h m (length-each lanes _) (length-each alone _)
                (at-each lanes (λ j. converted in_type type (at x j)) k h ∙ ap (converted in_type type) (c.same m) ∙ sym (at-each alone (λ j. converted in_type type (at x' j)) k m)) old)),
          )))
      both (Run (Change number (ElementOf array rate index) type op in_type e)) step no_call f mid exact i i' = absurd f.0
      both (Run (If number test first second)) step no_call f mid exact i i' =
          follows_bind (Both k lanes alone) (Out p family k frame frames others) (value test lanes st) (value test alone st') _ _ (values test f.0 mid.frames (mid.alike h))
          (λ c c' b.
          let hc : holds c k ≡ holds c' k = holds_same c c' b in (
            _,
            refl,
            retasked p family k memory memory' frame other frames others memories mid.frames
                (task (Run first) (lanes_where lanes (holds c)) ∷ task (Run second) (lanes_where lanes (λ j. not (holds c j))) ∷ frame.tasks)
                (task (Run first) (lanes_where alone (holds c')) ∷ task (Run second) (lanes_where alone (λ j. not (holds c' j))) ∷ other.tasks)
                (record {
                  same = ap own_settled (own_both k (Run first) lanes alone (holds c) (holds c') (task (Run second) (lanes_where lanes (λ j. not (holds c j))) ∷ frame.tasks) (task (Run second) (lanes_where alone (λ j. not (holds c' j))) ∷ other.tasks) h m hc
                      (own_both k (Run second) lanes alone (λ j. not (holds c j)) (λ j. not (holds c' j)) frame.tasks other.tasks h m (ap not hc) exact));
                  nested = nested_if k lanes frame.tasks (λ here. i) mid.tasks.nested first second (holds c) (λ j. not (holds c j));
                  nested_other = nested_if k alone other.tasks (λ here. i') mid.tasks.nested_other first second (holds c') (λ j. not (holds c' j));
                  only = (only_where k alone (holds c') only, (only_where k alone (λ j. not (holds c' j)) only, mid.tasks.only));
                })
                (if_chain mid first second (holds c) (λ j. not (holds c j)) f.1 f.2),
          ))
      both (Run (Switch number e segments)) step no_call f mid exact i i' =
          follows_bind (Both k lanes alone) (Out p family k frame frames others) (value e lanes st) (value e alone st') _ _ (values e f.0 mid.frames (mid.alike h))
          (λ x x' b.
          let entry : ℕ → Option ℕ = λ j. or_default (labelled 0 segments (at x j)) (default_of 0 segments) in
          let entry' : ℕ → Option ℕ = λ j. or_default (labelled 0 segments (at x' j)) (default_of 0 segments) in
          let ends : own k (task SwitchEnd lanes ∷ frame.tasks) ≡ own k (task SwitchEnd alone ∷ other.tasks) = own_here k (task SwitchEnd lanes) frame.tasks h ∙ ap (λ ds. SwitchEnd ∷ ds) exact ∙ sym (own_here k (task SwitchEnd alone) other.tasks m) in (
            _,
            refl,
            subst (λ ts. Out p family k frame frames others (record { memory = memory; frames = record frame { tasks = ts } ∷ frames }) (on_top (with_tasks (λ rest. (segment_tasks 0 segments alone entry' ++ task SwitchEnd alone ∷ []) ++ rest)) st'))
                (sym (append_assoc (segment_tasks 0 segments lanes entry) (task SwitchEnd lanes ∷ []) frame.tasks))
                (subst (λ us. Out p family k frame frames others (record { memory = memory; frames = record frame { tasks = segment_tasks 0 segments lanes entry ++ (task SwitchEnd lanes ∷ frame.tasks) } ∷ frames }) (record { memory = memory'; frames = record other { tasks = us } ∷ others }))
                (sym (append_assoc (segment_tasks 0 segments alone entry') (task SwitchEnd alone ∷ []) other.tasks))
                (retasked p family k memory memory' frame other frames others memories mid.frames (segment_tasks 0 segments lanes entry ++ (task SwitchEnd lanes ∷ frame.tasks)) (segment_tasks 0 segments alone entry' ++ (task SwitchEnd alone ∷ other.tasks))
                (record {
                  same = ap own_settled (segments_both k segments 0 lanes alone entry entry' (task SwitchEnd lanes ∷ frame.tasks) (task SwitchEnd alone ∷ other.tasks) h m (ap (λ n. or_default (labelled 0 segments n) (default_of 0 segments)) (b.same m)) ends);
                  nested = nested_switch k lanes frame.tasks (λ here. i) mid.tasks.nested segments entry;
                  nested_other = nested_switch k alone other.tasks (λ here. i') mid.tasks.nested_other segments entry';
                  only = only_segments k segments 0 alone entry' (task SwitchEnd alone ∷ other.tasks) only (only, mid.tasks.only);
                })
                (switch_chain mid segments entry f.1))),
          ))
      both (Run (Break number)) step no_call f mid exact i i' = (
        _,
        refl,
        retasked p family k memory memory' frame other frames others memories mid.frames (broken lanes frame.tasks) (broken alone other.tasks)
            (record {
              same = ap own_settled (broken_leaves k lanes h frame.tasks i.0 ∙ ap (after_first ends_break) exact ∙ sym (broken_leaves k alone m other.tasks i'.0));
              nested = nested_broken k lanes frame.tasks mid.tasks.nested;
              nested_other = nested_broken k alone other.tasks mid.tasks.nested_other;
              only = all_broken (Only k) (smaller k) alone other.tasks mid.tasks.only;
            })
            (chain_shrinks k lanes p family (result_rate p frame) (LocalAlike k frame.vars other.vars) everything frame.tasks (broken lanes frame.tasks) (shrinks_broken k lanes frame.tasks) (widely frame.tasks (tasks_after mid))),
      )
      both (Run (Continue number)) step no_call f mid exact i i' = (
        _,
        refl,
        retasked p family k memory memory' frame other frames others memories mid.frames (continued lanes frame.tasks) (continued alone other.tasks)
            (record {
              same = ap own_settled (continued_leaves k lanes h frame.tasks i.1 ∙ ap (from_first ends_turn) exact ∙ sym (continued_leaves k alone m other.tasks i'.1));
              nested = nested_continued k lanes frame.tasks mid.tasks.nested;
              nested_other = nested_continued k alone other.tasks mid.tasks.nested_other;
              only = all_continued (Only k) (smaller k) alone other.tasks mid.tasks.only;
            })
            (chain_shrinks k lanes p family (result_rate p frame) (LocalAlike k frame.vars other.vars) everything frame.tasks (continued lanes frame.tasks) (shrinks_continued k lanes frame.tasks) (widely frame.tasks (tasks_after mid))),
      )
      both (Run (Return number None)) step no_call f mid exact i i' = (
        _,
        refl,
        return_both p family k memory memory' frame other frames others memories known lanes mid alone (each lanes (λ j. 0)) (each alone (λ j. 0)) h m (length-each lanes _) (length-each alone _) (at-each lanes (λ j. 0) k h ∙ sym (at-each alone (λ j. 0) k m))
            (λ u. (at_zeros 0 lanes (lowest lanes), at_zeros 0 alone (lowest alone))) (result_rate p frame) refl (result_rate p other) (same_rate mid.frames),
      )
      both (Run (Return number (Some e))) step no_call f mid exact i i' =
          follows_bind (Both k lanes alone) (Out p family k frame frames others) (value e lanes st) (value e alone st') _ _ (values e f.1 mid.frames (mid.alike h))
          (λ x x' b. (_, refl, return_both p family k memory memory' frame other frames others memories known lanes mid alone x x' h m b.long b.long_other (b.same m) (λ u. varied (sym f.0 ∙ u)) (result_rate p frame) refl (result_rate p other) (same_rate mid.frames)))
      both (Run (Segment label body rest)) step no_call f mid exact i i' = (_, refl, plain p family k memory memory' frame other frames others memories known lanes mid)
      both (Run (Call number g args result_for)) step no_call f mid exact i i' = absurd no_call
      both (Run Empty) step no_call f mid exact i i' = absurd step
      both (Run (Then first second)) step no_call f mid exact i i' = absurd step
      both (Run (Loop number e update body)) step no_call f mid exact i i' = absurd step
      both (Run (BodyFirst number e body)) step no_call f mid exact i i' = absurd step
      both (Run (ForEach number form body)) step no_call f mid exact i i' = absurd f
      both (Run (Check number e)) step no_call f mid exact i i' = absurd f
      both (Run (PackedStore number array from e result_for)) step no_call f mid exact i i' = absurd f
      both (Run (PackedLoad number array from v result_for)) step no_call f mid exact i i' = absurd f
      both (LoopTest number test update body) step no_call f mid exact i i' =
          follows_bind (Both k lanes alone) (Out p family k frame frames others) (value test lanes st) (value test alone st') _ _ (values test f.0 mid.frames (mid.alike h))
          (λ c c' b.
          let hc : holds c k ≡ holds c' k = holds_same c c' b in
          let last : Doing = LoopTest number test update body in (
            _,
            refl,
            retasked p family k memory memory' frame other frames others memories mid.frames
                (task (Run body) (lanes_where lanes (holds c)) ∷ task (LoopUpdate update) (lanes_where lanes (holds c)) ∷ task last (lanes_where lanes (holds c)) ∷ frame.tasks)
                (task (Run body) (lanes_where alone (holds c')) ∷ task (LoopUpdate update) (lanes_where alone (holds c')) ∷ task last (lanes_where alone (holds c')) ∷ other.tasks)
                (record {
                  same = ap own_settled (own_both k (Run body) lanes alone (holds c) (holds c') (task (LoopUpdate update) (lanes_where lanes (holds c)) ∷ task last (lanes_where lanes (holds c)) ∷ frame.tasks) (task (LoopUpdate update) (lanes_where alone (holds c')) ∷ task last (lanes_where alone (holds c')) ∷ other.tasks) h m hc
                      (own_both k (LoopUpdate update) lanes alone (holds c) (holds c') (task last (lanes_where lanes (holds c)) ∷ frame.tasks) (task last (lanes_where alone (holds c')) ∷ other.tasks) h m hc
                      (own_both k last lanes alone (holds c) (holds c') frame.tasks other.tasks h m hc exact)));
                  nested = nested_loop k lanes frame.tasks (λ here. i) mid.tasks.nested number test update body (holds c);
                  nested_other = nested_loop k alone other.tasks (λ here. i') mid.tasks.nested_other number test update body (holds c');
                  only = let o : Only k (lanes_where alone (holds c')) = only_where k alone (holds c') only in (o, (o, (o, mid.tasks.only)));
                })
                (loop_chain mid number test update body (holds c) f.0 f.1 f.2),
          ))
      both (LoopUpdate s) step no_call f mid exact i i' = absurd step
      both (Round number indices body) step no_call f mid exact i i' = absurd f
      both RoundEnd step no_call f mid exact i i' = absurd step
      both SwitchEnd step no_call f mid exact i i' = absurd step

    -- the other lanes alone do the step
    module _ (h : has lanes k ≡ false) (in_lanes : k < length lanes) where
      abbrev After : State → Type 0
      After s = Out p family k frame frames others s st'

      none_here : {P : Type 0} → has lanes k ≡ true → P
      none_here here = not_both here h

      pub one : (d : Doing) → IsStep d → NoCall d → FitsDoing p family (result_rate p frame) known d → Mid p family k known (declared_by d) lanes frame other → IfOk (perform p d lanes st) After
      one (Run (Declare number v e)) step no_call f mid = if_ok_after After (initial e lanes st) _ (λ x.
          subst (λ rate. After (with_words_in st v.id (declared_words rate lanes x))) (sym f.0.0) (subst (λ id. After (with_words_in st id (each lanes (λ j. at x j)))) (sym f.0.2)
          (declare_one p family k memory memory' frame other frames others memories known lanes f.0.1 f.0.3 (subst (λ id. Mid p family k known (Some id) lanes frame other) f.0.2 mid) h (each lanes (λ j. at x j)))))
      one (Run (Assign number (Scalar v) e)) step no_call f mid = if_ok_bind (Fills lanes) After (value e lanes st) _ (length-value e lanes st) (λ x l.
          subst (λ rate. After (with_words_in st v.id (assigned_words rate lanes x (words_in st v.id)))) (sym f.0.0)
          (assign_one p family k memory memory' frame other frames others memories known lanes mid v.id f.0.1 _ (λ old. alike_away k lanes x _ _ h in_lanes l old)))
      one (Run (Assign number (ElementOf array rate index) e)) step no_call f mid = absurd f.0
      one (Run (Change number (Scalar v) type op in_type e)) step no_call f mid = if_ok_after After (value e lanes st) _ (λ y. if_ok_after After (try_each lanes _) _ (λ x.
          subst (λ rate. After (with_words_in st v.id (assigned_words rate lanes (each lanes (λ j. converted in_type type (at x j))) (words_in st v.id)))) (sym f.0.0)
          (assign_one p family k memory memory' frame other frames others memories known lanes mid v.id f.0.1 _ (λ old. alike_away k lanes (each lanes (λ j. converted in_type type (at x j))) _ _ h in_lanes (length-each lanes _) old))))
      one (Run (Change number (ElementOf array rate index) type op in_type e)) step no_call f mid = absurd f.0
      one (Run (If number test first second)) step no_call f mid = if_ok_after After (value test lanes st) _ (λ c. retasked p family k memory memory' frame other frames others memories mid.frames
          (task (Run first) (lanes_where lanes (holds c)) ∷ task (Run second) (lanes_where lanes (λ j. not (holds c j))) ∷ frame.tasks) other.tasks
          (record {
            same = ap own_settled (own_out k (Run first) lanes (holds c) (task (Run second) (lanes_where lanes (λ j. not (holds c j))) ∷ frame.tasks) h ∙ own_out k (Run second) lanes (λ j. not (holds c j)) frame.tasks h) ∙ mid.tasks.same;
            nested = nested_if k lanes frame.tasks none_here mid.tasks.nested first second (holds c) (λ j. not (holds c j));
            nested_other = mid.tasks.nested_other;
            only = mid.tasks.only;
          })
          (if_chain mid first second (holds c) (λ j. not (holds c j)) f.1 f.2))
      one (Run (Switch number e segments)) step no_call f mid = if_ok_after After (value e lanes st) _ (λ x.
          let entry : ℕ → Option ℕ = λ j. or_default (labelled 0 segments (at x j)) (default_of 0 segments) in
          subst (λ ts. After (record { memory = memory; frames = record frame { tasks = ts } ∷ frames })) (sym (append_assoc (segment_tasks 0 segments lanes entry) (task SwitchEnd lanes ∷ []) frame.tasks))
          (retasked p family k memory memory' frame other frames others memories mid.frames (segment_tasks 0 segments lanes entry ++ (task SwitchEnd lanes ∷ frame.tasks)) other.tasks
          (record {
            same = ap own_settled (segments_out k segments 0 lanes entry (task SwitchEnd lanes ∷ frame.tasks) h ∙ own_away k (task SwitchEnd lanes) frame.tasks h) ∙ mid.tasks.same;
            nested = nested_switch k lanes frame.tasks none_here mid.tasks.nested segments entry;
            nested_other = mid.tasks.nested_other;
            only = mid.tasks.only;
          })
          (switch_chain mid segments entry f.1)))
      one (Run (Break number)) step no_call f mid = retasked p family k memory memory' frame other frames others memories mid.frames (broken lanes frame.tasks) other.tasks
          (record {
            same = ap own_settled (broken_stays k lanes h frame.tasks) ∙ mid.tasks.same;
            nested = nested_broken k lanes frame.tasks mid.tasks.nested;
            nested_other = mid.tasks.nested_other;
            only = mid.tasks.only;
          })
          (chain_shrinks k lanes p family (result_rate p frame) (LocalAlike k frame.vars other.vars) everything frame.tasks (broken lanes frame.tasks) (shrinks_broken k lanes frame.tasks) (widely frame.tasks (tasks_after mid)))
      one (Run (Continue number)) step no_call f mid = retasked p family k memory memory' frame other frames others memories mid.frames (continued lanes frame.tasks) other.tasks
          (record {
            same = ap own_settled (continued_stays k lanes h frame.tasks) ∙ mid.tasks.same;
            nested = nested_continued k lanes frame.tasks mid.tasks.nested;
            nested_other = mid.tasks.nested_other;
            only = mid.tasks.only;
          })
          (chain_shrinks k lanes p family (result_rate p frame) (LocalAlike k frame.vars other.vars) everything frame.tasks (continued lanes frame.tasks) (shrinks_continued k lanes frame.tasks) (widely frame.tasks (tasks_after mid)))
      one (Run (Return number None)) step no_call f mid = return_one p family k memory memory' frame other frames others memories known lanes mid (each lanes (λ j. 0)) h in_lanes (length-each lanes _) (λ u. at_zeros 0 lanes (lowest lanes)) (result_rate p frame) refl
      one (Run (Return number (Some e))) step no_call f mid = if_ok_bind (Fills lanes) After (value e lanes st) _ (length-value e lanes st) (λ x l.
          return_one p family k memory memory' frame other frames others memories known lanes mid x h in_lanes l (λ u. varied (sym f.0 ∙ u)) (result_rate p frame) refl)
      one (Run (Segment label body rest)) step no_call f mid = plain p family k memory memory' frame other frames others memories known lanes mid
      one (Run (Call number g args result_for)) step no_call f mid = absurd no_call
      one (Run Empty) step no_call f mid = absurd step
      one (Run (Then first second)) step no_call f mid = absurd step
      one (Run (Loop number e update body)) step no_call f mid = absurd step
      one (Run (BodyFirst number e body)) step no_call f mid = absurd step
      one (Run (ForEach number form body)) step no_call f mid = absurd f
      one (Run (Check number e)) step no_call f mid = absurd f
      one (Run (PackedStore number array from e result_for)) step no_call f mid = absurd f
      one (Run (PackedLoad number array from v result_for)) step no_call f mid = absurd f
      one (LoopTest number test update body) step no_call f mid = if_ok_after After (value test lanes st) _ (λ c.
          let last : Doing = LoopTest number test update body in
          retasked p family k memory memory' frame other frames others memories mid.frames
          (task (Run body) (lanes_where lanes (holds c)) ∷ task (LoopUpdate update) (lanes_where lanes (holds c)) ∷ task last (lanes_where lanes (holds c)) ∷ frame.tasks) other.tasks
          (record {
            same = ap own_settled (own_out k (Run body) lanes (holds c) (task (LoopUpdate update) (lanes_where lanes (holds c)) ∷ task last (lanes_where lanes (holds c)) ∷ frame.tasks) h
                ∙ own_out k (LoopUpdate update) lanes (holds c) (task last (lanes_where lanes (holds c)) ∷ frame.tasks) h ∙ own_out k last lanes (holds c) frame.tasks h) ∙ mid.tasks.same;
            nested = nested_loop k lanes frame.tasks none_here mid.tasks.nested number test update body (holds c);
            nested_other = mid.tasks.nested_other;
            only = mid.tasks.only;
          })
          (loop_chain mid number test update body (holds c) f.0 f.1 f.2))
      one (LoopUpdate s) step no_call f mid = absurd step
      one (Round number indices body) step no_call f mid = absurd f
      one RoundEnd step no_call f mid = absurd step
      one SwitchEnd step no_call f mid = absurd step
