-- What a step writes keeps the two runs alike.
use Rattle.std.proofs.Common.{◌≡◌, ◌≢◌, refl, sym, ap, ◌∙◌, subst, ℕ, zero, suc, ◌+◌, ◌<◌, true, false, List, [], ◌∷◌, length, Some, None, inl, inr}
use Rattle.std.specs.Prelude.{if◌then◌else◌, not, map, ◌||◌, ◌⊎◌, slice_get, nat_lt, Ok, Err}
use Rattle.gang_types.specs.declared.faults.FaultName.TheVariants.{Index}
use Rattle.std.proofs.lemmas.Bool.{ne_eqb}
use Rattle.gang_types.specs.declared.types.Rate.{Rate}
use Rattle.gang_types.specs.declared.types.Rate.TheVariants.{Uniform, Varying}
use Rattle.gang_types.specs.declared.places.VarId.{VarId}
use Rattle.gang_types.specs.declared.places.VarId.TheVariants.{File, Local}
use Rattle.gang_types.specs.Lanes.{Lanes, has, lowest, without}
use Rattle.gang_types.specs.LaneLaws.{has-without}
use Rattle.gang_model.specs.Types.Tree.{Program, Global}
use Rattle.gang_model.specs.Running.Lanes.{at, merged}
use Rattle.gang_model.specs.Running.State.{Store, View, Task, Frame, State, words_of, with_words, words_in, with_words_in, with_var, view_in, view_of}
use Rattle.gang_model.specs.Running.Value.{element}
use Rattle.gang_model.specs.Running.Step.{leaves_task, returned, result_rate}
use Rattle.gang_model.specs.Running.SeparateInstances.{IsVaryingScalar, IsArrayId}
use Rattle.lane_alone.specs.Fits.{Only, Locals, with_local, Known, Family}
use Rattle.lane_alone.specs.OwnTasks.{own_settled, Chain, Behind}
use Rattle.lane_alone.specs.Alike.{AlikeAt, LocalAlike, MemoryAlike, FrameAlike, TasksAlike, everything, Pair, Mid}
use Rattle.lane_alone.proofs.TaskLists.{not_both}
use Rattle.lane_alone.proofs.Chains.{within_with, chain_wider, chain_but, chain_kept, behind_none}
use Rattle.lane_alone.proofs.LeavingTasks.{own_left, own_stays, nested_left, all_left, chain_shrinks, shrinks_left}
use Rattle.lane_alone.proofs.Words.{words_set, words_kept, same_or_not, local_apart, file_apart, alike_merged, alike_away}
use Rattle.lane_alone.proofs.Follows.{first_of}
use Rattle.lane_alone.proofs.LaneValues.{SeesAlike}

pub alike_is : (k : ℕ) {xs xs' ys ys' : List ℕ} → xs ≡ xs' → ys ≡ ys' → AlikeAt k xs ys → AlikeAt k xs' ys'
alike_is k {xs = xs} {ys' = ys'} e f a = subst (λ zs. AlikeAt k zs ys') e (subst (λ zs. AlikeAt k xs zs) f a)

pub smaller : (k : ℕ) (lanes out : Lanes) → Only k lanes → Only k (without lanes out)
smaller k lanes out only j h = only j (first_of (has lanes j) (not (has out j)) (sym (has-without lanes out j) ∙ h))

pub with_other : (m n : ℕ) (known : Locals) → n ≢ m → with_local m known n ≡ true → known n ≡ true
with_other m n known apart h = sym (ap (λ b. b || known n) (ne_eqb n m apart)) ∙ h

some_local : {m n : ℕ} → Some (Local m) ≡ Some (Local n) → m ≡ n
some_local q = cc

at_nothing : (k : ℕ) → at [] k ≡ 0
at_nothing k = refl

pub at_one : (x k : ℕ) → x ≡ 0 → at (x ∷ []) k ≡ 0
at_one x zero e = e
at_one x (suc k) e = at_nothing k

pub uniform_varying : {P : Type 0} → Uniform ≡ Varying → P
uniform_varying q = absurd (cc)

varying_uniform : {P : Type 0} → Varying ≡ Uniform → P
varying_uniform q = absurd (cc)

module _ (p : Program) (family : Family) (k : ℕ) where
  -- ---- memory

  scalar_array : (n : ℕ) → IsVaryingScalar p n → (v : VarId) → IsArrayId p v → v ≢ File n
  scalar_array n s (File i) a e = clash (sym s.1 ∙ subst (λ j. slice_get p.globals j ≡ Some a.0) (same e) a.1)
    where
      same : File i ≡ File n → i ≡ n
      same q = cc

      global_same : {g h : Global} → Some g ≡ Some h → g ≡ h
      global_same q = cc

      clash : Some s.0 ≡ Some a.0 → ⊥
      clash q = not_both (subst (λ g. g.variable.is_array ≡ true) (sym (global_same q)) a.2) s.2
  scalar_array n s (Local i) a e = cc

  module _ (memory other : Store) (alike : MemoryAlike p k memory other) (n : ℕ) (scalar : IsVaryingScalar p n) where
    pub memory_both : (words words' : List ℕ) → AlikeAt k words words' → MemoryAlike p k (with_words memory (File n) words) (with_words other (File n) words')
    memory_both words words' a = record {
      scalars = λ i s. by_place i s (same_or_not i n);
      arrays = λ v array. words_kept (File n) v words (scalar_array n scalar v array) memory ∙ alike.arrays v array ∙ sym (words_kept (File n) v words' (scalar_array n scalar v array) other);
    }
      where
        by_place : (i : ℕ) → IsVaryingScalar p i → (i ≡ n) ⊎ (i ≢ n) → AlikeAt k (words_of (with_words memory (File n) words) (File i)) (words_of (with_words other (File n) words') (File i))
        by_place i s (inl e) = subst (λ j. AlikeAt k (words_of (with_words memory (File n) words) (File j)) (words_of (with_words other (File n) words') (File j))) (sym e)
            (alike_is k (sym (words_set memory (File n) words)) (sym (words_set other (File n) words')) a)
        by_place i s (inr e) = alike_is k (sym (words_kept (File n) (File i) words (file_apart i n e) memory)) (sym (words_kept (File n) (File i) words' (file_apart i n e) other)) (alike.scalars i s)

    pub memory_one : (words : List ℕ) → AlikeAt k words (words_of other (File n)) → MemoryAlike p k (with_words memory (File n) words) other
    memory_one words a = record {
      scalars = λ i s. by_place i s (same_or_not i n);
      arrays = λ v array. words_kept (File n) v words (scalar_array n scalar v array) memory ∙ alike.arrays v array;
    }
      where
        by_place : (i : ℕ) → IsVaryingScalar p i → (i ≡ n) ⊎ (i ≢ n) → AlikeAt k (words_of (with_words memory (File n) words) (File i)) (words_of other (File i))
        by_place i s (inl e) = subst (λ j. AlikeAt k (words_of (with_words memory (File n) words) (File j)) (words_of other (File j))) (sym e)
            (alike_is k (sym (words_set memory (File n) words)) refl a)
        by_place i s (inr e) = alike_is k (sym (words_kept (File n) (File i) words (file_apart i n e) memory)) refl (alike.scalars i s)

  -- ---- local variables

  module _ (vars other : Store) (m : ℕ) (words words' : List ℕ) where
    new_both : AlikeAt k words words' → LocalAlike k (with_words vars (Local m) words) (with_words other (Local m) words') m
    new_both a = alike_is k (sym (words_set vars (Local m) words)) (sym (words_set other (Local m) words')) a

    old_both : (n : ℕ) → n ≢ m → LocalAlike k vars other n → LocalAlike k (with_words vars (Local m) words) (with_words other (Local m) words') n
    old_both n e a = alike_is k (sym (words_kept (Local m) (Local n) words (local_apart n m e) vars)) (sym (words_kept (Local m) (Local n) words' (local_apart n m e) other)) a

    local_both : ((LocalAlike k vars other m) → AlikeAt k words words') → (n : ℕ) → LocalAlike k vars other n → LocalAlike k (with_words vars (Local m) words) (with_words other (Local m) words') n
    local_both keeps n a = by_place (same_or_not n m)
      where
        by_place : (n ≡ m) ⊎ (n ≢ m) → LocalAlike k (with_words vars (Local m) words) (with_words other (Local m) words') n
        by_place (inl e) = subst (LocalAlike k (with_words vars (Local m) words) (with_words other (Local m) words')) (sym e) (new_both (keeps (subst (LocalAlike k vars other) e a)))
        by_place (inr e) = old_both n e a

    old_one : (n : ℕ) → n ≢ m → LocalAlike k vars other n → LocalAlike k (with_words vars (Local m) words) other n
    old_one n e a = alike_is k (sym (words_kept (Local m) (Local n) words (local_apart n m e) vars)) refl a

    local_one : ((LocalAlike k vars other m) → AlikeAt k words (words_of other (Local m))) → (n : ℕ) → LocalAlike k vars other n → LocalAlike k (with_words vars (Local m) words) other n
    local_one keeps n a = by_place (same_or_not n m)
      where
        by_place : (n ≡ m) ⊎ (n ≢ m) → LocalAlike k (with_words vars (Local m) words) other n
        by_place (inl e) = subst (LocalAlike k (with_words vars (Local m) words) other) (sym e) (alike_is k (sym (words_set vars (Local m) words)) refl (keeps (subst (LocalAlike k vars other) e a)))
        by_place (inr e) = old_one n e a

  -- ---- what a step leads to

  -- the first frames are a pair again, over the same frames
  pub record Out (frame : Frame) (frames others : List Frame) (state other_state : State) : Type 0 where
    pub new : Frame
    pub is : state.frames ≡ new ∷ frames
    pub other : Frame
    pub other_is : other_state.frames ≡ other ∷ others
    pub memory : MemoryAlike p k state.memory other_state.memory
    pub pair : Pair false p family k new other
    pub function : new.function ≡ frame.function
    pub for : new.result_for ≡ frame.result_for
    pub lanes : new.lanes ≡ frame.lanes

  module _ (memory memory' : Store) (frame other : Frame) (frames others : List Frame) (memories : MemoryAlike p k memory memory') where
    -- new tasks
    pub retasked : FrameAlike p k frame other → (ts us : List Task) → TasksAlike k ts us
        → Chain p family (result_rate p frame) k (LocalAlike k frame.vars other.vars) everything ts
        → Out frame frames others (record { memory = memory; frames = record frame { tasks = ts } ∷ frames }) (record { memory = memory'; frames = record other { tasks = us } ∷ others })
    retasked f ts us a c = record {
      new = record frame { tasks = ts };
      is = refl;
      other = record other { tasks = us };
      other_is = refl;
      memory = memories;
      pair = record { frames = f; tasks = a; chain = c };
      function = refl;
      for = refl;
      lanes = refl;
    }

    module _ (known : Locals) (lanes : Lanes) where
      -- nothing written
      pub plain : Mid p family k known None lanes frame other → Out frame frames others (record { memory = memory; frames = frame ∷ frames }) (record { memory = memory'; frames = other ∷ others })
      plain mid = retasked mid.frames frame.tasks other.tasks mid.tasks
          (chain_wider p family (result_rate p frame) k _ known everything (λ n h. refl) frame.tasks (behind_none p family (result_rate p frame) k _ known lanes frame.tasks mid.behind))

      -- a variable that both runs write
      pub assign_both : Mid p family k known None lanes frame other → (v : VarId) → Known p known v → (words words' : List ℕ)
          → (AlikeAt k (words_in (record { memory = memory; frames = frame ∷ frames }) v) (words_in (record { memory = memory'; frames = other ∷ others }) v) → AlikeAt k words words')
          → Out frame frames others (with_words_in (record { memory = memory; frames = frame ∷ frames }) v words) (with_words_in (record { memory = memory'; frames = other ∷ others }) v words')
      assign_both mid (File n) is words words' a =
          record {
            new = frame;
            is = refl;
            other = other;
            other_is = refl;
            memory = memory_both memory memory' memories n is words words' (a (memories.scalars n is));
            pair = record { frames = mid.frames; tasks = mid.tasks; chain = chain_wider p family (result_rate p frame) k _ known everything (λ n h. refl) frame.tasks (behind_none p family (result_rate p frame) k _ known lanes frame.tasks mid.behind) };
            function = refl;
            for = refl;
            lanes = refl;
          }
      assign_both mid (Local m) is words words' a = record {
        new = with_var (Local m) words frame;
        is = refl;
        other = with_var (Local m) words' other;
        other_is = refl;
        memory = memories;
        pair = record {
          frames = mid.frames;
          tasks = mid.tasks;
          chain = chain_wider p family (result_rate p frame) k _ known everything (λ n h. refl) frame.tasks
              (chain_kept p family (result_rate p frame) k (LocalAlike k frame.vars other.vars) _ (local_both frame.vars other.vars m words words' a) known frame.tasks
              (behind_none p family (result_rate p frame) k _ known lanes frame.tasks mid.behind));
        };
        function = refl;
        for = refl;
        lanes = refl;
      }

      -- a variable that the other lanes write
      pub assign_one : Mid p family k known None lanes frame other → (v : VarId) → Known p known v → (words : List ℕ)
          → (AlikeAt k (words_in (record { memory = memory; frames = frame ∷ frames }) v) (words_in (record { memory = memory'; frames = other ∷ others }) v)
          → AlikeAt k words (words_in (record { memory = memory'; frames = other ∷ others }) v))
          → Out frame frames others (with_words_in (record { memory = memory; frames = frame ∷ frames }) v words) (record { memory = memory'; frames = other ∷ others })
      assign_one mid (File n) is words a = record {
        new = frame;
        is = refl;
        other = other;
        other_is = refl;
        memory = memory_one memory memory' memories n is words (a (memories.scalars n is));
        pair = record { frames = mid.frames; tasks = mid.tasks; chain = chain_wider p family (result_rate p frame) k _ known everything (λ n h. refl) frame.tasks (behind_none p family (result_rate p frame) k _ known lanes frame.tasks mid.behind) };
        function = refl;
        for = refl;
        lanes = refl;
      }
      assign_one mid (Local m) is words a = record {
        new = with_var (Local m) words frame;
        is = refl;
        other = other;
        other_is = refl;
        memory = memories;
        pair = record {
          frames = mid.frames;
          tasks = mid.tasks;
          chain = chain_wider p family (result_rate p frame) k _ known everything (λ n h. refl) frame.tasks
              (chain_kept p family (result_rate p frame) k (LocalAlike k frame.vars other.vars) _ (local_one frame.vars other.vars m words words a) known frame.tasks
              (behind_none p family (result_rate p frame) k _ known lanes frame.tasks mid.behind));
        };
        function = refl;
        for = refl;
        lanes = refl;
      }

      -- a variable that both runs declare
      pub declare_both : (m : ℕ) → known m ≡ false → Mid p family k known (Some (Local m)) lanes frame other → has lanes k ≡ true → (words words' : List ℕ) → AlikeAt k words words'
          → Out frame frames others (with_words_in (record { memory = memory; frames = frame ∷ frames }) (Local m) words) (with_words_in (record { memory = memory'; frames = other ∷ others }) (Local m) words')
      declare_both m unknown mid h words words' a = record {
        new = with_var (Local m) words frame;
        is = refl;
        other = with_var (Local m) words' other;
        other_is = refl;
        memory = memories;
        pair = record { frames = mid.frames; tasks = mid.tasks; chain = go mid.behind };
        function = refl;
        for = refl;
        lanes = refl;
      }
        where
          Old : ℕ → Type 0
          Old = LocalAlike k frame.vars other.vars

          New : ℕ → Type 0
          New = LocalAlike k (with_words frame.vars (Local m) words) (with_words other.vars (Local m) words')

          keeps : (n : ℕ) → LocalAlike k frame.vars other.vars n → LocalAlike k (with_words frame.vars (Local m) words) (with_words other.vars (Local m) words') n
          keeps = local_both frame.vars other.vars m words words' (λ old. a)

          now : (i n : ℕ) → m ≡ i → with_local i known n ≡ true → (n ≡ m) ⊎ (n ≢ m) → LocalAlike k (with_words frame.vars (Local m) words) (with_words other.vars (Local m) words') n
          now i n e w (inl same) = subst (LocalAlike k (with_words frame.vars (Local m) words) (with_words other.vars (Local m) words')) (sym same) (new_both frame.vars other.vars m words words' a)
          now i n e w (inr apart) = keeps n (mid.alike h n (with_other i n known (subst (λ j. n ≢ j) e apart) w))

          go : Behind p family (result_rate p frame) k (LocalAlike k frame.vars other.vars) known (Some (Local m)) lanes frame.tasks
              → Chain p family (result_rate p frame) k (LocalAlike k (with_words frame.vars (Local m) words) (with_words other.vars (Local m) words')) everything frame.tasks
          go (inl c) = chain_wider p family (result_rate p frame) k _ known everything (λ n h. refl) frame.tasks (chain_kept p family (result_rate p frame) k (LocalAlike k frame.vars other.vars) _ keeps known frame.tasks c)
          go (inr d) =
              let e : m ≡ d.m = some_local d.what_is in
              subst (Chain p family (result_rate p frame) k (LocalAlike k (with_words frame.vars (Local m) words) (with_words other.vars (Local m) words')) everything) (sym d.tasks) (
                with_local d.m known,
                (λ n h. refl),
                d.fits,
                (λ has_it n w. now d.m n e w (same_or_not n m)),
                chain_wider p family (result_rate p frame) k _ known (with_local d.m known) (within_with d.m known) d.rest (chain_kept p family (result_rate p frame) k (LocalAlike k frame.vars other.vars) _ keeps known d.rest d.chain),
              )

      -- a variable that the other lanes declare
      pub declare_one : (m : ℕ) → known m ≡ false → Mid p family k known (Some (Local m)) lanes frame other → has lanes k ≡ false → (words : List ℕ)
          → Out frame frames others (with_words_in (record { memory = memory; frames = frame ∷ frames }) (Local m) words) (record { memory = memory'; frames = other ∷ others })
      declare_one m unknown mid h words = record {
        new = with_var (Local m) words frame;
        is = refl;
        other = other;
        other_is = refl;
        memory = memories;
        pair = record { frames = mid.frames; tasks = mid.tasks; chain = go mid.behind };
        function = refl;
        for = refl;
        lanes = refl;
      }
        where
          but : (ts : List Task) → Chain p family (result_rate p frame) k (LocalAlike k frame.vars other.vars) known ts
              → Chain p family (result_rate p frame) k (LocalAlike k (with_words frame.vars (Local m) words) other.vars) known ts
          but ts c = chain_but p family (result_rate p frame) k (LocalAlike k frame.vars other.vars) _ m (λ n apart old. old_one frame.vars other.vars m words words n apart old) known unknown ts c

          go : Behind p family (result_rate p frame) k (LocalAlike k frame.vars other.vars) known (Some (Local m)) lanes frame.tasks
              → Chain p family (result_rate p frame) k (LocalAlike k (with_words frame.vars (Local m) words) other.vars) everything frame.tasks
          go (inl c) = chain_wider p family (result_rate p frame) k _ known everything (λ n h. refl) frame.tasks (but frame.tasks c)
          go (inr d) =
              subst (Chain p family (result_rate p frame) k (LocalAlike k (with_words frame.vars (Local m) words) other.vars) everything) (sym d.tasks) (
                with_local d.m known,
                (λ n h. refl),
                d.fits,
                (λ has_it n w. not_both (d.among has_it) h),
                chain_wider p family (result_rate p frame) k _ known (with_local d.m known) (within_with d.m known) d.rest (but d.rest d.chain),
              )

      -- ---- results

      left_tasks : (lanes' : Lanes) → has lanes k ≡ true → has lanes' k ≡ true → TasksAlike k frame.tasks other.tasks → TasksAlike k (map (leaves_task lanes) frame.tasks) (map (leaves_task lanes') other.tasks)
      left_tasks lanes' h m t = record {
        same = ap own_settled (own_left k lanes h frame.tasks ∙ sym (own_left k lanes' m other.tasks));
        nested = nested_left k lanes frame.tasks t.nested;
        nested_other = nested_left k lanes' other.tasks t.nested_other;
        only = all_left (Only k) (smaller k) lanes' other.tasks t.only;
      }

      stay_tasks : has lanes k ≡ false → TasksAlike k frame.tasks other.tasks → TasksAlike k (map (leaves_task lanes) frame.tasks) other.tasks
      stay_tasks h t = record {
        same = ap own_settled (own_stays k lanes h frame.tasks) ∙ t.same;
        nested = nested_left k lanes frame.tasks t.nested;
        nested_other = t.nested_other;
        only = t.only;
      }

      left_chain : Mid p family k known None lanes frame other → Chain p family (result_rate p frame) k (LocalAlike k frame.vars other.vars) everything (map (leaves_task lanes) frame.tasks)
      left_chain mid = chain_shrinks k lanes p family (result_rate p frame) (LocalAlike k frame.vars other.vars) everything frame.tasks (map (leaves_task lanes) frame.tasks) (shrinks_left k lanes frame.tasks)
          (chain_wider p family (result_rate p frame) k _ known everything (λ n h. refl) frame.tasks (behind_none p family (result_rate p frame) k _ known lanes frame.tasks mid.behind))

      returned_frames : (alone : Lanes) (x x' : List ℕ) → has lanes k ≡ true → has alone k ≡ true → length x ≡ length lanes → length x' ≡ length alone → at x k ≡ at x' k
          → (result_rate p frame ≡ Uniform → (at x (lowest lanes) ≡ 0) × (at x' (lowest alone) ≡ 0)) → FrameAlike p k frame other → (rate : Rate) → result_rate p frame ≡ rate
          → FrameAlike p k (returned rate lanes x frame) (returned rate alone x' other)
      returned_frames alone x x' h m l l' e zeros f Varying is =
          let r : (k < length frame.result) × (k < length other.result) = f.room is in
          let a : AlikeAt k (merged lanes x frame.result) (merged alone x' other.result) = alike_merged k lanes alone x x' frame.result other.result h m l l' e (r.0, r.1, f.result) in
          record {
            same_function = f.same_function;
            same_for = f.same_for;
            among = f.among;
            only = f.only;
            views = f.views;
            arrays = f.arrays;
            result = a.2;
            room = λ v. (a.0, a.1);
            idle = λ u. varying_uniform (sym is ∙ u);
          }
      returned_frames alone x x' h m l l' e zeros f Uniform is =
          let z : (at x (lowest lanes) ≡ 0) × (at x' (lowest alone) ≡ 0) = zeros is in
          record {
            same_function = f.same_function;
            same_for = f.same_for;
            among = f.among;
            only = f.only;
            views = f.views;
            arrays = f.arrays;
            result = at_one (at x (lowest lanes)) k z.0 ∙ sym (at_one (at x' (lowest alone)) k z.1);
            room = λ v. uniform_varying (sym is ∙ v);
            idle = λ u. at_one (at x (lowest lanes)) k z.0;
          }

      -- a result that both runs write
      pub return_both : Mid p family k known None lanes frame other → (alone : Lanes) (x x' : List ℕ) → has lanes k ≡ true → has alone k ≡ true → length x ≡ length lanes → length x' ≡ length alone → at x k ≡ at x' k
          → (result_rate p frame ≡ Uniform → (at x (lowest lanes) ≡ 0) × (at x' (lowest alone) ≡ 0)) → (rate : Rate) → result_rate p frame ≡ rate → (rate' : Rate) → rate ≡ rate'
          → Out frame frames others (record { memory = memory; frames = returned rate lanes x frame ∷ frames }) (record { memory = memory'; frames = returned rate' alone x' other ∷ others })
      return_both mid alone x x' h m l l' e zeros rate is rate' is' =
          subst (λ r. Out frame frames others (record { memory = memory; frames = returned rate lanes x frame ∷ frames }) (record { memory = memory'; frames = returned r alone x' other ∷ others })) is'
          (record {
            new = returned rate lanes x frame;
            is = refl;
            other = returned rate alone x' other;
            other_is = refl;
            memory = memories;
            pair = record { frames = returned_frames alone x x' h m l l' e zeros mid.frames rate is; tasks = left_tasks alone h m mid.tasks; chain = left_chain mid };
            function = refl;
            for = refl;
            lanes = refl;
          })

      stay_frames : (x : List ℕ) → has lanes k ≡ false → k < length lanes → length x ≡ length lanes → (result_rate p frame ≡ Uniform → at x (lowest lanes) ≡ 0) → FrameAlike p k frame other → (rate : Rate) → result_rate p frame ≡ rate
          → FrameAlike p k (returned rate lanes x frame) other
      stay_frames x h in_lanes l zeros f Varying is =
          let r : (k < length frame.result) × (k < length other.result) = f.room is in
          let a : AlikeAt k (merged lanes x frame.result) other.result = alike_away k lanes x frame.result other.result h in_lanes l (r.0, r.1, f.result) in
          record {
            same_function = f.same_function;
            same_for = f.same_for;
            among = f.among;
            only = f.only;
            views = f.views;
            arrays = f.arrays;
            result = a.2;
            room = λ v. (a.0, a.1);
            idle = λ u. varying_uniform (sym is ∙ u);
          }
      stay_frames x h in_lanes l zeros f Uniform is = record {
        same_function = f.same_function;
        same_for = f.same_for;
        among = f.among;
        only = f.only;
        views = f.views;
        arrays = f.arrays;
        result = at_one (at x (lowest lanes)) k (zeros is) ∙ sym (f.idle is) ∙ f.result;
        room = λ v. uniform_varying (sym is ∙ v);
        idle = λ u. at_one (at x (lowest lanes)) k (zeros is);
      }

      -- a result that the other lanes write
      pub return_one : Mid p family k known None lanes frame other → (x : List ℕ) → has lanes k ≡ false → k < length lanes → length x ≡ length lanes → (result_rate p frame ≡ Uniform → at x (lowest lanes) ≡ 0)
          → (rate : Rate) → result_rate p frame ≡ rate
          → Out frame frames others (record { memory = memory; frames = returned rate lanes x frame ∷ frames }) (record { memory = memory'; frames = other ∷ others })
      return_one mid x h in_lanes l zeros rate is = record {
        new = returned rate lanes x frame;
        is = refl;
        other = other;
        other_is = refl;
        memory = memories;
        pair = record { frames = stay_frames x h in_lanes l zeros mid.frames rate is; tasks = stay_tasks h mid.tasks; chain = left_chain mid };
        function = refl;
        for = refl;
        lanes = refl;
      }

    -- what lane k sees
    pub sees : FrameAlike p k frame other → (known : Locals) → ((n : ℕ) → known n ≡ true → LocalAlike k frame.vars other.vars n)
        → SeesAlike p known k (record { memory = memory; frames = frame ∷ frames }) (record { memory = memory'; frames = other ∷ others })
    sees f known alike = record { words = seen_words; elements = seen_elements }
      where
        seen_words : (v : VarId) → Known p known v → at (words_in (record { memory = memory; frames = frame ∷ frames }) v) k ≡ at (words_in (record { memory = memory'; frames = other ∷ others }) v) k
        seen_words (File n) is = (memories.scalars n is).2
        seen_words (Local n) is = (alike n is).2

        seen_elements : (v : VarId) → IsArrayId p v → (i : ℕ)
            → element (record { memory = memory; frames = frame ∷ frames }) (view_of (record { memory = memory; frames = frame ∷ frames }) v) i
            ≡ element (record { memory = memory'; frames = other ∷ others }) (view_of (record { memory = memory'; frames = other ∷ others }) v) i
        seen_elements (File n) is i = ap (λ ws. if nat_lt i (length ws) then Ok (at ws (0 + i)) else Err Index) (memories.arrays (File n) is)
        seen_elements (Local n) is i =
            let view : View = view_in frame.views (Local n) in
            ap (λ ws. if nat_lt i view.len then Ok (at ws (view.first + i)) else Err Index) (memories.arrays view.array (f.arrays n))
            ∙ ap (λ w. if nat_lt i w.len then Ok (at (words_of memory' w.array) (w.first + i)) else Err Index) (f.views (Local n))
