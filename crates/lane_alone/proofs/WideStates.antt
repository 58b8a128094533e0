-- A step keeps a word for each lane of each varying scalar of the file: what is still to be done names it as a varying one.
use Rattle.std.proofs.Common.{◌≡◌, refl, sym, ap, ◌∙◌, subst, ℕ, suc, Bool, true, false, List, [], ◌∷◌, length, inl, inr}
use Rattle.std.specs.Prelude.{IfOk, map, Option, Some, None, if◌then◌else◌}
use Rattle.gang_types.specs.declared.types.Rate.{Rate}
use Rattle.gang_types.specs.declared.types.Rate.TheVariants.{Uniform, Varying}
use Rattle.gang_types.specs.declared.types.IntType.{IntType}
use Rattle.gang_types.specs.declared.places.VarId.{VarId}
use Rattle.gang_types.specs.declared.places.VarId.TheVariants.{File, Local}
use Rattle.gang_types.specs.Values.{converted}
use Rattle.gang_types.specs.Lanes.{Lanes, no_lane}
use Rattle.gang_model.specs.Running.Lanes.{each, at, try_each, members}
use Rattle.gang_model.specs.Types.Tree.{Var, Expr, Dimension, RoundsOf, Rows, Tiles, EachLane, EachValue, StepNumber, Stmt, Empty, Then, Loop, BodyFirst, Segment, Function, Program}
use Rattle.gang_model.specs.Source.Parsed.{ParsedSource}
use Rattle.gang_model.specs.Running.State.{Store, View, Doing, Run, LoopTest, LoopUpdate, Round, RoundEnd, SwitchEnd, Task, Frame, State, same_id, words_of, words_in, with_words, with_words_in, with_first, on_top, view_in, local_view, view_of, declared_words, assigned_words}
use Rattle.gang_model.specs.Running.Rounds.{Turn, Slots, turn, rounds, row_slots, tile_slots, bounds_of, index_words, distinct}
use Rattle.gang_model.specs.Running.Value.{value}
use Rattle.gang_model.specs.Running.Step.{opened_before, opened, opened_task, settled, with_tasks, first_do, leaves_task, ends_break, ends_turn, broken, continued, returned, returned_on, scattered_from, Written, ToVar, ToElements, write, part, with_store, round_tasks, segment_tasks}
use Rattle.gang_model.specs.Running.SeparateInstances.{IsVaryingScalar, IsArrayId}
use Rattle.gang_model.proofs.LaneWords.{if_ok_after, length-each, length-merged}
use Rattle.gang_model.proofs.RoundLanes.{each-map}
use Rattle.gang_model.proofs.StandingLaws.{Each, each_join}
use Rattle.lane_alone.specs.Indices.{IsLocal, AreDimensionsLocal, AreRoundsLocal}
use Rattle.lane_alone.proofs.FileVariables.{IsSound, IsResultSound}
use Rattle.lane_alone.proofs.Words.{words_set, words_kept, same_or_not, file_apart}

-- an index variable with its words
abbrev pub IsIndex : VarId × List ℕ → Type 0
IsIndex entry = IsLocal entry.0

module _ (source : ParsedSource) (p : Program) where
  -- what a task has to do names variables as they are declared
  abbrev pub IsDoingSound : Doing → Type 0
  IsDoingSound (Run s) = IsSound source s
  IsDoingSound (LoopTest number test update body) = IsSound source update × IsSound source body
  IsDoingSound (LoopUpdate s) = IsSound source s
  IsDoingSound (Round number indices body) = Each IsIndex indices × IsSound source body
  IsDoingSound RoundEnd = Unit {0}
  IsDoingSound SwitchEnd = Unit {0}

  abbrev pub IsTaskSound : Task → Type 0
  IsTaskSound t = IsDoingSound t.doing

  -- an array parameter stands for a part of an array
  abbrev pub IsPart : VarId × View → Type 0
  IsPart entry = IsArrayId p entry.1.array

  -- so do a frame's tasks and what its result is for; its array parameters stand for parts of arrays
  abbrev pub IsFrameSound : Frame → Type 0
  IsFrameSound frame = Each IsTaskSound frame.tasks × IsResultSound source frame.result_for × Each IsPart frame.views

  -- a varying scalar of the file has a word for each lane
  abbrev pub IsWide : ℕ → Store → Type 0
  IsWide w memory = (n : ℕ) → IsVaryingScalar p n → length (words_of memory (File n)) ≡ w

  -- what is kept from state to state
  abbrev pub IsStateWide : ℕ → State → Type 0
  IsStateWide w state = Each IsFrameSound state.frames × IsWide w state.memory

  -- ---- tasks

  sound_before : (xs next rest : List Task) → Each IsTaskSound xs → Each IsTaskSound next → Each IsTaskSound rest → Each IsTaskSound (opened_before xs next rest)
  sound_before [] next rest a n r = r
  sound_before (t ∷ xs) next rest a n r = each_join IsTaskSound (t ∷ xs) next a n

  sound_opened : (s : Stmt) (lanes : Lanes) → IsSound source s → Each IsTaskSound (opened s lanes)
  sound_opened Empty lanes h = tt
  sound_opened (Then a b) lanes (own, h, k) = sound_before (opened a lanes) _ _ (sound_opened a lanes (own, h.0, k.0)) ((own, h.1, k.1), tt) (sound_opened b lanes (own, h.1, k.1))
  sound_opened (Loop number test update body) lanes (own, h, k) = (((own, h.1, k.0), (own, h.2, k.1)), tt)
  sound_opened (BodyFirst number test body) lanes (own, h, k) =
      let none : IsSound source Empty = (own, tt, tt) in
      let loop : IsSound source Empty × IsSound source body = (none, (own, h.1, k)) in
      sound_before (opened body lanes) _ _ (sound_opened body lanes (own, h.1, k)) (none, (loop, tt)) (loop, tt)
  sound_opened s lanes h = (h, tt)

  sound_opened_task : (doing : Doing) (lanes : Lanes) → IsDoingSound doing → Each IsTaskSound (opened_task doing lanes)
  sound_opened_task (Run s) lanes h = sound_opened s lanes h
  sound_opened_task (LoopUpdate s) lanes h = sound_opened s lanes h
  sound_opened_task RoundEnd lanes h = tt
  sound_opened_task SwitchEnd lanes h = tt
  sound_opened_task (LoopTest number e u b) lanes h = (h, tt)
  sound_opened_task (Round number i b) lanes h = (h, tt)

  sound_if : (b : Bool) (xs ys : List Task) → Each IsTaskSound xs → Each IsTaskSound ys → Each IsTaskSound (if b then xs else ys)
  sound_if true xs ys a b = a
  sound_if false xs ys a b = b

  pub sound_settled : (ts : List Task) → Each IsTaskSound ts → Each IsTaskSound (settled ts)
  sound_settled [] h = tt
  sound_settled (t ∷ ts) h = sound_if (no_lane t.lanes) (settled ts) _ (sound_settled ts h.1)
      (sound_before (opened_task t.doing t.lanes) ts (settled ts) (sound_opened_task t.doing t.lanes h.0) h.1 (sound_settled ts h.1))

  sound_leaves : (lanes : Lanes) (ts : List Task) → Each IsTaskSound ts → Each IsTaskSound (map (leaves_task lanes) ts)
  sound_leaves lanes [] h = tt
  sound_leaves lanes (t ∷ ts) h = (h.0, sound_leaves lanes ts h.1)

  pub sound_broken : (lanes : Lanes) (ts : List Task) → Each IsTaskSound ts → Each IsTaskSound (broken lanes ts)
  sound_broken lanes [] h = tt
  sound_broken lanes (t ∷ ts) h = (h.0, sound_if (ends_break t.doing) ts _ h.1 (sound_broken lanes ts h.1))

  pub sound_continued : (lanes : Lanes) (ts : List Task) → Each IsTaskSound ts → Each IsTaskSound (continued lanes ts)
  sound_continued lanes [] h = tt
  sound_continued lanes (t ∷ ts) h = sound_if (ends_turn t.doing) (t ∷ ts) _ h (h.0, sound_continued lanes ts h.1)

  pub sound_segments : (i : ℕ) (s : Stmt) (lanes : Lanes) (entry : ℕ → Option ℕ) → IsSound source s → Each IsTaskSound (segment_tasks i s lanes entry)
  sound_segments i (Segment label body rest) lanes entry (own, h, k) = ((own, h.0, k.0), sound_segments (suc i) rest lanes entry (own, h.1, k.1))
  sound_segments i s lanes entry h = tt

  -- ---- the top frame

  pub first_frame : (change : Frame → Frame) (frames : List Frame) → ((frame : Frame) → IsFrameSound frame → IsFrameSound (change frame)) → Each IsFrameSound frames → Each IsFrameSound (with_first change frames)
  first_frame change [] keeps h = tt
  first_frame change (frame ∷ frames) keeps h = (keeps frame h.0, h.1)

  pub sound_returned : (rate : Rate) (lanes : Lanes) (values : List ℕ) (frame : Frame) → IsFrameSound frame → IsFrameSound (returned rate lanes values frame)
  sound_returned rate lanes values frame h = (sound_leaves lanes frame.tasks h.0, h.1, h.2)

  pub sound_returned_on : (f : Option Function) (type : IntType) (lanes : Lanes) (values : List ℕ) (frame : Frame) → IsFrameSound frame → IsFrameSound (returned_on f type lanes values frame)
  sound_returned_on None type lanes values frame h = h
  sound_returned_on (Some f) type lanes values frame h = sound_returned f.result lanes (each lanes (λ k. converted type f.result_type (at values k))) frame h

  -- ---- index variables

  indices_local : (j : ℕ) (dims : List Dimension) (slots : Slots) → AreDimensionsLocal dims → Each IsIndex (index_words j dims slots)
  indices_local j [] slots h = tt
  indices_local j (d ∷ dims) slots h = (h.0, indices_local (suc j) dims slots h.1)

  -- a round sets index variables alone
  abbrev pub IsTurnLocal : Turn → Type 0
  IsTurnLocal turn = Each IsIndex turn.indices

  pub turns_local : (form : RoundsOf) (lanes : Lanes) (state : State) → AreRoundsLocal form → IfOk (rounds form lanes state) (Each IsTurnLocal)
  turns_local (Rows dims) lanes state h =
      if_ok_after _ (bounds_of dims lanes state) _ (λ bounds. each-map IsTurnLocal (turn dims) (λ slots. indices_local 0 dims slots h) (row_slots (length lanes) bounds))
  turns_local (Tiles dims) lanes state h =
      if_ok_after _ (bounds_of dims lanes state) _ (λ bounds. each-map IsTurnLocal (turn dims) (λ slots. indices_local 0 dims slots h) (tile_slots (length lanes) bounds))
  turns_local (EachLane i) lanes state h = each-map IsTurnLocal _ (λ k. (h, tt)) (members lanes)
  turns_local (EachValue v e) lanes state h = if_ok_after _ (value e lanes state) _ (λ x. each-map IsTurnLocal _ (λ word. (h, tt)) (distinct [] (map (at x) (members lanes))))

  pub sound_rounds : (number : StepNumber) (body : Stmt) (turns : List Turn) → IsSound source body → Each IsTurnLocal turns → Each IsTaskSound (round_tasks number body turns)
  sound_rounds number body [] b h = tt
  sound_rounds number body (turn ∷ turns) b h = ((h.0, b), sound_rounds number body turns b h.1)

  -- ---- parts of arrays

  part_if : (b : Bool) (x y : View) → IsArrayId p x.array → IsArrayId p y.array → IsArrayId p (if b then x else y).array
  part_if true x y h k = h
  part_if false x y h k = k

  pub part_in : (views : List (VarId × View)) (v : VarId) → Each IsPart views → IsArrayId p v → IsArrayId p (view_in views v).array
  part_in [] v parts h = h
  part_in (entry ∷ views) v parts h = part_if (same_id entry.0 v) entry.1 (view_in views v) parts.0 (part_in views v parts.1 h)

  local_part : (frames : List Frame) (n : ℕ) → Each IsFrameSound frames → IsArrayId p (local_view frames (Local n)).array
  local_part [] n h = tt
  local_part (frame ∷ frames) n h = part_in frame.views (Local n) h.0.2 tt

  pub part_of : (state : State) (v : VarId) → Each IsFrameSound state.frames → IsArrayId p v → IsArrayId p (view_of state v).array
  part_of state (File n) frames h = h
  part_of state (Local n) frames h = local_part state.frames n frames

  pub part_kept : (from : Option Expr) (view : View) (lanes : Lanes) (state : State) → IfOk (part from view lanes state) (λ x. x.array ≡ view.array)
  part_kept None view lanes state = refl
  part_kept (Some from) view lanes state = if_ok_after _ (value from lanes state) _ (λ i. if_ok_after _ (try_each lanes _) _ (λ checked. refl))

  -- ---- words

  length-scattered : (i : ℕ) (lanes : Lanes) (indices values words : List ℕ) → length (scattered_from i lanes indices values words) ≡ length words
  length-scattered i lanes indices values [] = refl
  length-scattered i lanes indices values (old ∷ words) = ap suc (length-scattered (suc i) lanes indices values words)

  length-assigned : (w : ℕ) (rate : Rate) (lanes : Lanes) (values old : List ℕ) → rate ≡ Varying → length lanes ≡ w → length values ≡ length lanes → length old ≡ w → length (assigned_words rate lanes values old) ≡ w
  length-assigned w Uniform lanes values old e l v o = cc
  length-assigned w Varying lanes values old e l v o = length-merged lanes values old v (o ∙ sym l) ∙ l

  pub length-declared : (w : ℕ) (rate : Rate) (lanes : Lanes) (values : List ℕ) → rate ≡ Varying → length lanes ≡ w → length (declared_words rate lanes values) ≡ w
  length-declared w Uniform lanes values e l = cc
  length-declared w Varying lanes values e l = length-each lanes _ ∙ l

  -- a scalar is named as a varying one where it is a varying one of the file
  abbrev pub IsWritable : Var → Type 0
  IsWritable v = (n : ℕ) → v.id ≡ File n → IsVaryingScalar p n → v.rate ≡ Varying

  -- so is a scalar that is written
  abbrev pub IsWritten : Written → Type 0
  IsWritten (ToVar v) = IsWritable v
  IsWritten (ToElements view indices) = Unit {0}

  module _ (w : ℕ) where
    pub wide_words : (memory : Store) (v : VarId) (words : List ℕ) → IsWide w memory → ((n : ℕ) → v ≡ File n → IsVaryingScalar p n → length words ≡ w) → IsWide w (with_words memory v words)
    wide_words memory (Local m) words h g n varying = ap length (words_kept (Local m) (File n) words (λ e. file_local e) memory) ∙ h n varying
      where
        file_local : File n ≡ Local m → ⊥
        file_local e = cc
    wide_words memory (File m) words h g n varying = elim (same_or_not n m) [
      | inl same ↦ ap length (ap (λ k. words_of (with_words memory (File m) words) (File k)) same ∙ words_set memory (File m) words) ∙ g n (ap File (sym same)) varying
      | inr apart ↦ ap length (words_kept (File m) (File n) words (file_apart n m apart) memory) ∙ h n varying
    ]

    pub wide_with : (state : State) (v : VarId) (words : List ℕ) → IsStateWide w state → ((n : ℕ) → v ≡ File n → IsVaryingScalar p n → length words ≡ w) → IsStateWide w (with_words_in state v words)
    wide_with state (File m) words h g = (h.0, wide_words state.memory (File m) words h.1 g)
    wide_with state (Local m) words h g = (first_frame _ state.frames (λ frame f. f) h.0, h.1)

    pub old_words : (state : State) (v : VarId) (n : ℕ) → IsStateWide w state → v ≡ File n → IsVaryingScalar p n → length (words_in state v) ≡ w
    old_words state v n h named varying = ap (λ i. length (words_in state i)) named ∙ h.1 n varying

    pub wide_assigned : (v : Var) (lanes : Lanes) (values : List ℕ) (state : State) → length lanes ≡ w → length values ≡ length lanes → IsWritable v → IsStateWide w state
        → IsStateWide w (with_words_in state v.id (assigned_words v.rate lanes values (words_in state v.id)))
    wide_assigned v lanes values state l f writable h = wide_with state v.id _ h
        (λ n named varying. length-assigned w v.rate lanes values (words_in state v.id) (writable n named varying) l f (old_words state v.id n h named varying))

    pub wide_declared : (v : Var) (lanes : Lanes) (values : List ℕ) (state : State) → length lanes ≡ w → IsWritable v → IsStateWide w state
        → IsStateWide w (with_words_in state v.id (declared_words v.rate lanes values))
    wide_declared v lanes values state l writable h = wide_with state v.id _ h (λ n named varying. length-declared w v.rate lanes values (writable n named varying) l)

    pub wide_write : (written : Written) (lanes : Lanes) (values : List ℕ) (state : State) → length lanes ≡ w → length values ≡ length lanes → IsWritten written → IsStateWide w state
        → IsStateWide w (write written lanes values state)
    wide_write (ToVar v) lanes values state l f writable h = wide_assigned v lanes values state l f writable h
    wide_write (ToElements view indices) lanes values state l f writable h = (
      h.0,
      wide_words state.memory view.array _ h.1
          (λ n named varying. length-scattered 0 lanes _ values (words_of state.memory view.array) ∙ ap (λ i. length (words_of state.memory i)) named ∙ h.1 n varying),
    )

    pub wide_tasks : (change : List Task → List Task) → ((ts : List Task) → Each IsTaskSound ts → Each IsTaskSound (change ts)) → (state : State) → IsStateWide w state → IsStateWide w (on_top (with_tasks change) state)
    wide_tasks change keeps state h = (first_frame _ state.frames (λ frame f. (keeps frame.tasks f.0, f.1, f.2)) h.0, h.1)

    pub wide_first_do : (tasks : List Task) → Each IsTaskSound tasks → (state : State) → IsStateWide w state → IsStateWide w (first_do tasks state)
    wide_first_do tasks t state h = wide_tasks _ (λ rest r. each_join IsTaskSound tasks rest t r) state h

    pub wide_store : (store : Store) → Each IsIndex store → (state : State) → IsStateWide w state → IsStateWide w (with_store store state)
    wide_store [] indices state h = h
    wide_store (entry ∷ store) indices state h = wide_store store indices.1 _ (wide_with state entry.0 entry.1 h (λ n named varying. absurd (subst IsLocal named indices.0)))
