-- A masked state that stands for a state shows the same: the least number of the top frame's innermost level is that of its first
-- task, or of the next round of a foreach form, or of the closing brace.
use Rattle.std.proofs.Common.{◌≡◌, refl, sym, ap, ◌∙◌, subst, ℕ, ◌≤◌, true, false, List, [], ◌∷◌, ◌++◌, length, Option, Some, None, eq-eqb, arith}
use Rattle.std.proofs.lemmas.Bool.{ne_eqb}
use Rattle.std.specs.Prelude.{◌==◌, ◌&&◌, not, map, slice_get, if◌then◌else◌}
use Rattle.gang_types.specs.Lanes.{no_lane}
use Rattle.gang_model.specs.Types.Tree.{StepNumber, Stmt, Function, Program}
use Rattle.gang_model.specs.Running.State.{Task, Frame, State}
use Rattle.gang_model.specs.Running.Rounds.{Turn}
use Rattle.gang_model.specs.Running.Step.{round_tasks}
use Rattle.gang_model.specs.Debugger.Positions.{number_of_task, next_number, next_lanes, frame_spot, spot_in, spot_now, lanes_now, call_spot, call_at}
use Rattle.gang_model.specs.Debugger.Positions as source
use Rattle.gang_model.proofs.StateLanes.{TasksSized, FramesSized, StateSized}
use Rattle.mask_states.specs.Points.{points_in, closing_number}
use Rattle.mask_states.specs.Masked.{Level, Masked, next_in, next_waiting, no_turn, is_over, closed, turns_taken, at_end, level_lanes, spot_of_levels, lanes_of_levels, top_spot, top_lanes, masked_spot, masked_lanes}
use Rattle.mask_states.specs.MaskedStep.{untasked_frame}
use Rattle.mask_states.specs.Stands.{BeginsWithStep, TasksStand, LevelsStand, FrameStands, FramesStand, Stands, IsLowerable, AreLowerable}
use Rattle.mask_states.specs.Shown.{ShowsAlike}
use Rattle.mask_states.proofs.OwnTasks.{by_bool}
use Rattle.mask_states.proofs.ActiveLanes.{next_is, next_below, waiting_is, next_is_end}
use Rattle.mask_states.proofs.Levels.{StandsBehind, Split, split_levels}
use Rattle.mask_states.proofs.UntaskedWrites.{untasked_length}

-- ---- levels without forms that are over

-- closing puts no level
closed_no_longer : (levels : List Level) → length (closed levels) ≤ length levels
closed_no_longer [] = omega arith
closed_no_longer (level ∷ []) = omega arith
closed_no_longer (level ∷ next ∷ below) = by_bool (is_over level)
    (λ h. omega (arith, ap (λ b. length (if b then closed (next ∷ below) else level ∷ next ∷ below)) h, closed_no_longer (next ∷ below)))
    (λ h. omega (arith, ap (λ b. length (if b then closed (next ∷ below) else level ∷ next ∷ below)) h))

-- so a form that stays is not over
open_level : (level next : Level) (below : List Level) → closed (level ∷ next ∷ below) ≡ level ∷ next ∷ below → is_over level ≡ true → ⊥
open_level level next below e h =
    let same : closed (level ∷ next ∷ below) ≡ closed (next ∷ below) = ap (λ b. if b then closed (next ∷ below) else level ∷ next ∷ below) h in
    let longer : length (closed (next ∷ below)) ≡ length (level ∷ next ∷ below) = ap length (sym same ∙ e) in
    omega (arith, longer, closed_no_longer (next ∷ below))

-- a form at its end whose rounds are all taken is over
over_at_end : (level : Level) → level.turns ≡ [] → next_in level ≡ level.end → is_over level ≡ true
over_at_end level none e = ap (λ turns. no_turn turns && (next_in level == level.end)) none ∙ eq-eqb (next_in level) level.end e

-- a round of some lane is the first one taken
round_taken : (turn : Turn) (turns : List Turn) → no_lane turn.lanes ≡ false → turns_taken (turn ∷ turns) ≡ turn ∷ turns_taken turns
round_taken turn turns h = ap (λ b. if not b then turn ∷ turns_taken turns else turns_taken turns) h

-- ---- the lanes of the innermost level

lanes_at_end : (frame : Frame) (level : Level) → next_in level ≡ level.end → level_lanes frame level ≡ at_end frame level.turns
lanes_at_end frame level e = ap (λ b. if b then at_end frame level.turns else next_waiting level) (eq-eqb (next_in level) level.end e)

lanes_inside : (frame : Frame) (level : Level) → (next_in level ≡ level.end → ⊥) → level_lanes frame level ≡ next_waiting level
lanes_inside frame level e = ap (λ b. if b then at_end frame level.turns else next_waiting level) (ne_eqb (next_in level) level.end e)

-- ---- a frame

-- the levels show the number and the lanes of the step that the tasks begin with
pub record LevelsShow (f : Function) (level : Level) (tasks : List Task) : Type 0 where
  pub number : next_number (Some f) tasks ≡ next_in level
  pub lanes : (frame : Frame) → next_lanes frame tasks ≡ level_lanes frame level

module _ (f : Function) (lowerable : IsLowerable f) (w : ℕ) (level : Level) where
  -- at the closing brace
  show_end : TasksStand (points_in f) w (Some (closing_number f)) level [] → level.end ≡ closing_number f → level.turns ≡ [] → LevelsShow f level []
  show_end s e none =
      let at : next_in level ≡ level.end = next_is_end (points_in f) w (Some (closing_number f)) level s in
      record {
        number = omega (arith, lowerable.standings, at, e);
        lanes = λ frame. sym (lanes_at_end frame level at ∙ ap (at_end frame) none);
      }

  -- at the next round of a form
  show_round : (body : Stmt) (turns : List Turn) (rest : List Task) (next : Level) (below : List Level) → next_in level ≡ level.end → turns_taken turns ≡ level.turns
      → closed (level ∷ next ∷ below) ≡ level ∷ next ∷ below → BeginsWithStep (round_tasks level.end body turns ++ rest) → LevelsShow f level (round_tasks level.end body turns ++ rest)
  show_round body [] rest next below at taken c b = absurd (open_level level next below c (over_at_end level (sym taken) at))
  show_round body (turn ∷ turns) rest next below at taken c b = record {
    number = sym at;
    lanes = λ frame. sym (lanes_at_end frame level at ∙ ap (at_end frame) (sym taken ∙ round_taken turn turns b.0));
  }

  -- no task of the innermost level is left
  show_behind : (below : List Level) (back : Option StepNumber) (behind : List Task) → TasksStand (points_in f) w back level [] → StandsBehind f w level below back behind
      → closed (level ∷ below) ≡ level ∷ below → BeginsWithStep behind → LevelsShow f level behind
  show_behind [] back behind s (is_back, e, none, idle) c b =
      subst (LevelsShow f level) (sym idle) (show_end (subst (λ o. TasksStand (points_in f) w o level []) is_back s) e none)
  show_behind (next ∷ below) back behind s (is_back, body, turns, rest, e, rounds, lower) c b =
      subst (LevelsShow f level) (sym e)
      (show_round body turns rest next below (next_is_end (points_in f) w back level s) rounds.taken c (subst BeginsWithStep e b))

  -- at a step of the innermost level's tasks
  show_step : (back : Option StepNumber) (t : Task) (ts behind : List Task) → TasksStand (points_in f) w back level (t ∷ ts) → length t.lanes ≡ w → BeginsWithStep (t ∷ ts)
      → LevelsShow f level (t ∷ (ts ++ behind))
  show_step back t ts behind s e b = record {
    number = sym (next_is (points_in f) w back level t ts s e b);
    lanes = λ frame. sym (lanes_inside frame level (λ q. omega (arith, q, next_below (points_in f) w back level t ts s e b)) ∙ waiting_is (points_in f) w back level t ts s e b);
  }

  show_now : (below : List Level) (back : Option StepNumber) (now behind : List Task) → TasksStand (points_in f) w back level now → StandsBehind f w level below back behind
      → closed (level ∷ below) ≡ level ∷ below → BeginsWithStep (now ++ behind) → TasksSized w (now ++ behind) → LevelsShow f level (now ++ behind)
  show_now below back [] behind s later c b sized = show_behind below back behind s later c b
  show_now below back (t ∷ ts) behind s later c b sized = show_step back t ts behind s sized.0 b

  -- levels that stand for tasks show what the tasks do
  pub levels_show : (below : List Level) (tasks : List Task) → LevelsStand f w (level ∷ below) tasks → closed (level ∷ below) ≡ level ∷ below → BeginsWithStep tasks → TasksSized w tasks
      → LevelsShow f level tasks
  levels_show below tasks s c b sized =
      let split : Split f w level below tasks = split_levels f w level below tasks s in
      subst (LevelsShow f level) (sym split.whole)
      (show_now below split.back split.now split.behind split.stand split.stand_behind c (subst BeginsWithStep split.whole b) (subst (TasksSized w) split.whole sized))

-- ---- the top frame

-- a frame's spot and lanes are those of its levels
pub record FrameShows (p : Program) (frame : Frame) (levels : List Level) : Type 0 where
  pub spot : Some (frame_spot p frame) ≡ spot_of_levels (untasked_frame frame) levels
  pub lanes : next_lanes frame frame.tasks ≡ lanes_of_levels (untasked_frame frame) levels

module _ (p : Program) (lowerable : AreLowerable p) (w : ℕ) where
  frame_shows_levels : (frame : Frame) (f : Function) → slice_get p.functions frame.function ≡ Some f → (levels : List Level) → LevelsStand f w levels frame.tasks → closed levels ≡ levels
      → BeginsWithStep frame.tasks → TasksSized w frame.tasks → FrameShows p frame levels
  frame_shows_levels frame f is [] s c b sized = absurd s
  frame_shows_levels frame f is (level ∷ below) s c b sized =
      let shows : LevelsShow f level frame.tasks = levels_show f (lowerable.functions frame.function f is) w level below frame.tasks s c b sized in
      record {
        spot = ap (λ o. Some (spot_in frame.function (next_number o frame.tasks))) is ∙ ap (λ n. Some (spot_in frame.function n)) shows.number;
        lanes = shows.lanes (untasked_frame frame);
      }

  pub frame_shows : (frame : Frame) (levels : List Level) → FrameStands p w None frame levels → TasksSized w frame.tasks → FrameShows p frame levels
  frame_shows frame levels s sized =
      frame_shows_levels frame s.function s.is_function levels
      (subst (LevelsStand s.function w levels) s.is_pending s.stands) s.is_closed (subst BeginsWithStep s.is_pending s.begins) sized

  frames_spot : (frames : List Frame) (levels : List (List Level)) → FramesStand p w None frames levels → FramesSized w frames
      → source.top_spot p frames ≡ top_spot (map untasked_frame frames) levels
  frames_spot [] levels s sized = refl
  frames_spot (frame ∷ frames) [] s sized = absurd s
  frames_spot (frame ∷ frames) (levels ∷ rest) s sized = (frame_shows frame levels s.0 sized.0.tasks).spot

  frames_lanes : (frames : List Frame) (levels : List (List Level)) → FramesStand p w None frames levels → FramesSized w frames
      → source.top_lanes frames ≡ top_lanes (map untasked_frame frames) levels
  frames_lanes [] levels s sized = refl
  frames_lanes (frame ∷ frames) [] s sized = absurd s
  frames_lanes (frame ∷ frames) (levels ∷ rest) s sized = (frame_shows frame levels s.0 sized.0.tasks).lanes

  -- ---- both states

  module _ (state : State) (masked : Masked) (s : Stands p w state masked) (sized : StateSized w state) where
    -- they stand at the same step
    pub spot_alike : spot_now p state ≡ masked_spot masked
    spot_alike = frames_spot state.frames masked.levels s.frames sized ∙ ap (λ u. top_spot u.frames masked.levels) s.words

    -- by the same lanes
    pub lanes_alike : lanes_now state ≡ masked_lanes masked
    lanes_alike = frames_lanes state.frames masked.levels s.frames sized ∙ ap (λ u. top_lanes u.frames masked.levels) s.words

-- ---- depth and calls, which do not hang on tasks

untasked_call : (depth : ℕ) (frames : List Frame) → call_at depth frames ≡ call_at depth (map untasked_frame frames)
untasked_call depth [] = refl
untasked_call depth (frame ∷ []) = refl
untasked_call depth (frame ∷ below ∷ frames) =
    ap (λ n. if n == depth then call_spot below.function frame.call else call_at depth (below ∷ frames)) (sym (untasked_length (frame ∷ below ∷ frames)))
    ∙ ap (λ spot. if length (map untasked_frame (frame ∷ below ∷ frames)) == depth then call_spot below.function frame.call else spot) (untasked_call depth (below ∷ frames))

module _ (p : Program) (w : ℕ) (state : State) (masked : Masked) (s : Stands p w state masked) where
  -- the masked state's frames are the state's without their tasks
  pub frames_alike : masked.state.frames ≡ map untasked_frame state.frames
  frames_alike = sym (ap (λ u. u.frames) s.words)

  pub depth_alike : length state.frames ≡ length masked.state.frames
  depth_alike = sym (untasked_length state.frames) ∙ ap length (sym frames_alike)

  pub calls_alike : (depth : ℕ) → call_at depth state.frames ≡ call_at depth masked.state.frames
  calls_alike depth = untasked_call depth state.frames ∙ ap (call_at depth) (sym frames_alike)

-- a masked state that stands for a state shows the same
pub shows_alike : (p : Program) → AreLowerable p → (w : ℕ) (state : State) (masked : Masked) → Stands p w state masked → StateSized w state → ShowsAlike p state masked
shows_alike p lowerable w state masked s sized = record {
  spot = spot_alike p lowerable w state masked s sized;
  lanes = lanes_alike p lowerable w state masked s sized;
  calls = calls_alike p w state masked s;
  words = s.words;
}
