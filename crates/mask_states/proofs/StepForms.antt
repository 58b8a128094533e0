-- Each form of a first task: its point stands in the table, and the two steps end alike.
use Rattle.std.proofs.Common.{◌≡◌, refl, sym, ap, ◌∙◌, subst, ℕ, true, false, List, [], ◌∷◌, ◌++◌, Option, Some, None, length}
use Rattle.std.specs.Prelude.{Result, Ok, Err, IfOk, map, slice_get, unwrap_or, not}
use Rattle.std.proofs.lemmas.Result.{IfOk-weaker}
use Rattle.gang_types.specs.Lanes.{Lanes, has, no_lane, lowest, lanes_where}
use Rattle.gang_types.specs.LaneLaws.{lowest_has}
use Rattle.gang_model.specs.Types.Tree.{Var, Expr, StepNumber, Arg, ResultFor, Nothing, Declares, Assigns, Returns, Stmt, Empty, Then, Declare, Assign, Change, If, Loop, BodyFirst, Break, Continue, Return, Switch, Segment, ForEach, Call, Check, PackedStore, PackedLoad, Function, Program}
use Rattle.gang_model.specs.Running.Lanes.{Fault, at, holds}
use Rattle.gang_model.specs.Running.State.{Store, Doing, Run, LoopTest, LoopUpdate, Round, RoundEnd, SwitchEnd, Task, Frame, State}
use Rattle.gang_model.specs.Running.Step.{task, leaves_task, broken, continued, round_number, segment_tasks, or_default, labelled, default_of, run, perform}
use Rattle.gang_model.specs.Debugger.Positions.{number_of_task}
use Rattle.mask_states.specs.Points.{Point, Put, Go, Branch, Choose, Begin, entry_of, entries_of, points_in, closing_number}
use Rattle.mask_states.specs.Placed.{HasPoint}
use Rattle.mask_states.specs.Masked.{Level, sent_in}
use Rattle.mask_states.specs.MaskedStep.{untasked, act}
use Rattle.mask_states.specs.Stands.{own, waits, DoingFits, ways_before, IsStep, TasksStand, FramesStand}
use Rattle.mask_states.proofs.Replaced.{fits_first}
use Rattle.mask_states.proofs.UntaskedSteps.{PutsNothing, KeepsTasks, LeavesTasks, bones_run, bones_run_returns}
use Rattle.mask_states.proofs.Bones.{bones}
use Rattle.mask_states.proofs.Leaving.{broken_append, continued_append}
use Rattle.mask_states.proofs.LeavingHeads.{put_stands, leaves_stand, break_stands, continue_stands}
use Rattle.mask_states.proofs.BranchHeads.{if_stands, test_stands}
use Rattle.mask_states.proofs.SwitchHeads.{switch_stands}
use Rattle.mask_states.proofs.RoundHeads.{form_begins}
use Rattle.mask_states.proofs.Levels.{StandsBehind}
use Rattle.mask_states.proofs.GoesOn.{with_bone_tasks, Alike}
use Rattle.mask_states.proofs.HeadSteps.{with_top_tasks, put_alike, branch_alike, choose_alike, go_alike, begin_alike}

put_same : (s : Stmt) (a b : StepNumber) → Put s a ≡ Put s b → a ≡ b
put_same s a b e = cc

left_all : (lanes : Lanes) (more behind : List Task) → behind ≡ [] → map (leaves_task lanes) (more ++ behind) ≡ map (leaves_task lanes) more ++ behind
left_all lanes [] behind e = ap (map (leaves_task lanes)) e ∙ sym e
left_all lanes (t ∷ more) behind e = ap (λ ts. leaves_task lanes t ∷ ts) (left_all lanes more behind e)

-- lanes return out of a function's body alone
pub returns_behind : (f : Function) (w : ℕ) (level : Level) (below : List Level) (back : Option StepNumber) (behind : List Task) (n : StepNumber)
    → StandsBehind f w level below back behind → back ≡ Some n → (n ≡ level.end) × (below ≡ []) × (behind ≡ [])
returns_behind f w level [] back behind n (b, e, t, none) h = (same n (closing_number f) (sym h ∙ b) ∙ sym e, refl, none)
  where
    same : (a b : StepNumber) → Some a ≡ Some b → a ≡ b
    same a b e = cc
returns_behind f w level (next ∷ below) back behind n b h = absurd (some_none n (sym h ∙ b.0))
  where
    some_none : (n : StepNumber) → Some n ≡ None → ⊥
    some_none n e = cc

module _ (p : Program) (w : ℕ) (f : Function) (memory : Store) (frame : Frame) (frames : List Frame) (level : Level) (below : List Level) (rest : List (List Level))
    (back : Option StepNumber) (behind : List Task) (is : slice_get p.functions frame.function ≡ Some f) (stands_behind : StandsBehind f w level below back behind)
    (lower : FramesStand p w (Some frame) frames rest) (old : State) (S : Lanes) (more : List Task) (sized : length S ≡ w) (some : no_lane S ≡ false) where
  abbrev out : State
  out = with_top_tasks memory frame frames (more ++ behind)

  -- the task's point, and the two steps
  abbrev pub HeadAlike : Doing → Type 0
  HeadAlike doing =
      (point : Point) × HasPoint (points_in f) (number_of_task doing) point
      × Alike p w old (perform p doing S out) (act p (number_of_task doing) point S (untasked out) level below) rest

  abbrev Head : Doing → Type 0
  Head doing = TasksStand (points_in f) w back level (task doing S ∷ more)

  abbrev k : ℕ
  k = lowest S

  here : (doing : Doing) → Head doing → (j : ℕ) → has S j ≡ true → DoingFits (points_in f) doing (ways_before back level.end (own j more))
  here doing s j h = (fits_first (points_in f) w back level.end j (task doing S) more (s.fits j) h).0

  inside : has S k ≡ true
  inside = lowest_has S some

  -- a statement that puts no tasks and moves no lane
  kept : (s : Stmt) (number : StepNumber) → PutsNothing s → KeepsTasks s → ((j : ℕ) → has S j ≡ true → HasPoint (points_in f) number (Put s (waits level.end (own j more))))
      → Head (Run s) → (point : Point) × HasPoint (points_in f) number point × Alike p w old (run p s S out) (act p number point S (untasked out) level below) rest
  kept s number puts keeps points stand =
      let next = waits level.end (own k more) in
      let moved = put_stands (points_in f) w back level (task (Run s) S) more stand sized number (Put s) (put_same s) points k inside in (
        Put s next,
        moved.0,
        put_alike p w f memory frame frames level below rest back behind is stands_behind lower old S next number s puts more more (bones_run p s keeps S out) moved.1,
      )

  -- a statement with which its lanes return
  left : (s : Stmt) (number n : StepNumber) → PutsNothing s → LeavesTasks s → back ≡ Some n → HasPoint (points_in f) number (Put s n)
      → Head (Run s) → (point : Point) × HasPoint (points_in f) number point × Alike p w old (run p s S out) (act p number point S (untasked out) level below) rest
  left s number n puts leaves returns point stand =
      let at_end = returns_behind f w level below back behind n stands_behind returns in
      let new : List Task = map (leaves_task S) more in
      let moved = subst (λ m. TasksStand (points_in f) w back (sent_in S (λ j. m) level) new) (sym at_end.0) (leaves_stand (points_in f) w back level (task (Run s) S) more stand sized) in (
        Put s n,
        point,
        put_alike p w f memory frame frames level below rest back behind is stands_behind lower old S n number s puts more new
            (IfOk-weaker (run p s S out) _ _ (λ after b. b ∙ ap (λ ts. with_bone_tasks p w ts frame ∷ bones frames) (left_all S more behind at_end.2))
            (bones_run_returns p s leaves S out (record frame { tasks = more ++ behind }) frames f refl is)) moved,
      )

  packed_store : (number : StepNumber) (array : _) (from : Option Expr) (e : Expr) (result_for : ResultFor) → Head (Run (PackedStore number array from e result_for)) → HeadAlike (Run (PackedStore number array from e result_for))
  packed_store number array from e Nothing s = kept (PackedStore number array from e Nothing) number tt tt (λ j h. (here (Run (PackedStore number array from e Nothing)) s j h).1) s
  packed_store number array from e (Declares v) s = kept (PackedStore number array from e (Declares v)) number tt tt (λ j h. (here (Run (PackedStore number array from e (Declares v))) s j h).1) s
  packed_store number array from e (Assigns v) s = kept (PackedStore number array from e (Assigns v)) number tt tt (λ j h. (here (Run (PackedStore number array from e (Assigns v))) s j h).1) s
  packed_store number array from e Returns s = returned (here (Run (PackedStore number array from e Returns)) s k inside)
    where
      returned : DoingFits (points_in f) (Run (PackedStore number array from e Returns)) (ways_before back level.end (own k more)) → HeadAlike (Run (PackedStore number array from e Returns))
      returned d = left (PackedStore number array from e Returns) number d.0.0 tt tt d.0.1
          (subst (λ o. HasPoint (points_in f) number (Put (PackedStore number array from e Returns) (unwrap_or o (waits level.end (own k more))))) d.0.1 d.1) s

  packed_load : (number : StepNumber) (array : _) (from : Option Expr) (v : Var) (result_for : ResultFor) → Head (Run (PackedLoad number array from v result_for)) → HeadAlike (Run (PackedLoad number array from v result_for))
  packed_load number array from v Nothing s = kept (PackedLoad number array from v Nothing) number tt tt (λ j h. (here (Run (PackedLoad number array from v Nothing)) s j h).1) s
  packed_load number array from v (Declares u) s = kept (PackedLoad number array from v (Declares u)) number tt tt (λ j h. (here (Run (PackedLoad number array from v (Declares u))) s j h).1) s
  packed_load number array from v (Assigns u) s = kept (PackedLoad number array from v (Assigns u)) number tt tt (λ j h. (here (Run (PackedLoad number array from v (Assigns u))) s j h).1) s
  packed_load number array from v Returns s = returned (here (Run (PackedLoad number array from v Returns)) s k inside)
    where
      returned : DoingFits (points_in f) (Run (PackedLoad number array from v Returns)) (ways_before back level.end (own k more)) → HeadAlike (Run (PackedLoad number array from v Returns))
      returned d = left (PackedLoad number array from v Returns) number d.0.0 tt tt d.0.1
          (subst (λ o. HasPoint (points_in f) number (Put (PackedLoad number array from v Returns) (unwrap_or o (waits level.end (own k more))))) d.0.1 d.1) s

  -- ---- by forms; a call is a case of its own

  abbrev IsCall : Stmt → Type 0
  IsCall (Call number n args result_for) = Unit {0}
  IsCall s = ⊥

  pub statement_alike : (s : Stmt) → IsStep (Run s) → (IsCall s → HeadAlike (Run s)) → Head (Run s) → HeadAlike (Run s)
  statement_alike (Declare number v e) step call s = kept (Declare number v e) number tt tt (here (Run (Declare number v e)) s) s
  statement_alike (Assign number target e) step call s = kept (Assign number target e) number tt tt (here (Run (Assign number target e)) s) s
  statement_alike (Change number target type op in_type e) step call s =
      kept (Change number target type op in_type e) number tt tt (here (Run (Change number target type op in_type e)) s) s
  statement_alike (Check number e) step call s = kept (Check number e) number tt tt (here (Run (Check number e)) s) s
  statement_alike (PackedStore number array from e result_for) step call s = packed_store number array from e result_for s
  statement_alike (PackedLoad number array from v result_for) step call s = packed_load number array from v result_for s
  statement_alike (Return number e) step call s =
      let d = here (Run (Return number e)) s k inside in left (Return number e) number d.0 tt tt d.1 d.2 s
  statement_alike (If number test first other) step call s =
      let next = waits level.end (own k more) in
      let new : List ℕ → List Task = λ c. task (Run first) (lanes_where S (holds c)) ∷ task (Run other) (lanes_where S (λ j. not (holds c j))) ∷ [] in
      let stands = λ (c : List ℕ). if_stands (points_in f) w back level S more number test first other s sized k inside c in (
        Branch test (entry_of first next) (entry_of other next),
        (stands []).0,
        branch_alike p w f memory frame frames level below rest back behind is stands_behind lower old S number (entry_of first next) (entry_of other next) test more new (λ c. (stands c).1),
      )
  statement_alike (Switch number e segments) step call s =
      let next = waits level.end (own k more) in
      let new : List ℕ → List Task = λ x. segment_tasks 0 segments S (λ j. or_default (labelled 0 segments (at x j)) (default_of 0 segments)) ++ task SwitchEnd S ∷ [] in
      let stands = λ (x : List ℕ). switch_stands (points_in f) w back level S more number e segments s sized k inside x in (
        Choose e segments (entries_of segments next) next,
        (stands []).0,
        choose_alike p w f memory frame frames level below rest back behind is stands_behind lower old S number next e segments (entries_of segments next) more new (λ x. (stands x).1),
      )
  statement_alike (Break number) step call s =
      let stands = break_stands (points_in f) w back level number S more s sized k inside in (
        Go stands.0,
        stands.2,
        go_alike p w f memory frame frames level below rest back behind is stands_behind lower old S number stands.0 more (broken S more) (broken S)
            (broken_append level.end k S more behind stands.0 stands.1) stands.3,
      )
  statement_alike (Continue number) step call s =
      let stands = continue_stands (points_in f) w back level number S more s sized k inside in (
        Go stands.0,
        stands.2,
        go_alike p w f memory frame frames level below rest back behind is stands_behind lower old S number stands.0 more (continued S more) (continued S)
            (continued_append level.end k S more behind stands.0 stands.1) stands.3,
      )
  statement_alike (ForEach number form body) step call s =
      let stands = form_begins (points_in f) w back level S more number form body s sized k inside in (
        Begin form (round_number number body) (waits level.end (own k more)),
        stands.0,
        begin_alike p w f memory frame frames level below rest back behind is stands_behind lower old S number (waits level.end (own k more)) form number body more sized stands.1 stands.2,
      )
  statement_alike (Call number n args result_for) step call s = call tt
  statement_alike Empty step call s = absurd step
  statement_alike (Then first rest') step call s = absurd step
  statement_alike (Loop number test update body) step call s = absurd step
  statement_alike (BodyFirst number test body) step call s = absurd step
  statement_alike (Segment label body rest') step call s = absurd step

  pub head_alike : (doing : Doing) → IsStep doing → ((number : StepNumber) (n : ℕ) (args : List Arg) (result_for : ResultFor) → doing ≡ Run (Call number n args result_for) → HeadAlike doing) → Head doing → HeadAlike doing
  head_alike (Run s) step call h = statement_alike s step (by_call s call) h
    where
      by_call : (s : Stmt) → ((number : StepNumber) (n : ℕ) (args : List Arg) (result_for : ResultFor) → Run s ≡ Run (Call number n args result_for) → HeadAlike (Run s)) → IsCall s → HeadAlike (Run s)
      by_call (Call number n args result_for) call c = call number n args result_for refl
      by_call s call c = absurd c
  head_alike (LoopUpdate s) step call h = absurd step
  head_alike (LoopTest number test update body) step call s =
      let next = waits level.end (own k more) in
      let entry = entry_of body (entry_of update number) in
      let new : List ℕ → List Task = λ c.
      task (Run body) (lanes_where S (holds c)) ∷ task (LoopUpdate update) (lanes_where S (holds c)) ∷ task (LoopTest number test update body) (lanes_where S (holds c)) ∷ [] in
      let stands = λ (c : List ℕ). test_stands (points_in f) w back level S more number test update body s sized k inside c in (
        Branch test entry next,
        (stands []).0,
        branch_alike p w f memory frame frames level below rest back behind is stands_behind lower old S number entry next test more new (λ c. (stands c).1),
      )
  head_alike (Round number indices body) step call s = absurd (here (Round number indices body) s k inside)
  head_alike RoundEnd step call s = absurd step
  head_alike SwitchEnd step call s = absurd step
