-- What a lane waits for in a frame, as the code finds it in the levels' words.
use Rattle.std.proofs.Common.{◌≡◌, refl, sym, ap, ap₂, ◌∙◌, subst, ℕ, suc, ◌-◌, ◌<◌, ◌≢◌, Bool, true, false, inl, inr, List, [], ◌∷◌, length, min, Option, Some, None, arith}
use Rattle.std.specs.Prelude.{◌==◌, ◌&&◌, not, nat_le, slice_get, slice_index, if◌then◌else◌}
use Rattle.std.proofs.lemmas.Bool.{cases_lt, eq-eqb, ne_eqb}
use Rattle.std.proofs.lemmas.Bool.Decides.{nat_tests}
use Rattle.undo_log.specs.History.{History}
use Rattle.gang_model.specs.Debugger.Debugger.{Debugger, Setting, now}
use Rattle.gang_model.specs.Debugger.Events.{after, start}
use Rattle.gang_model.specs.Debugger.Positions.{spot_in}
use Rattle.gang_model.specs.Running.Lanes.{at}
use Rattle.gang_model.specs.Running.State.{Frame}
use Rattle.gang_model.specs.Types.Tree as t
use Rattle.gang_model.specs.Types.Tree.{Function, RoundsOf, StepNumber}
use Rattle.typed_tree.specs.declared.program.Program.{Program}
use Rattle.typed_tree.specs.Views.{program_view}
use Rattle.gang_memory.specs.declared.layout.Layout.{Layout}
use Rattle.mask_states.specs.Masked.{Level, Masked, no_turn}
use Rattle.mask_states.specs.Points.{Point, closing_number, points_in}
use Rattle.mask_states.specs.Stands.{AreLowerable}
use Rattle.mask_states.proofs.OwnTasks.{by_bool}
use Rattle.foreach_lowering.specs.Kept.{turns_left}
use Rattle.machine_states.specs.Levels.{AreForms, Forms, IsForm, LevelWords, LevelsWords, ShowsLevels, body_level, form_level, kept_in, levels_in}
use Rattle.machine_states.specs.Regions.{Depth, FunctionOf, OfHead, OpenOf, Regions}
use Rattle.machine_states.specs.Shows.{ShowsFrame, ShowsFrames, level_words}
use Rattle.machine_states.specs.Variables.{Variables}
use Rattle.machine_states.proofs.NextPoints.{same_function, same_word}
use Rattle.machine_states.proofs.TopLevels.{live_are, live_is, top_is}
use Rattle.machine_words.specs.declared.words.MachineWords.{MachineWords}
use Rattle.machine_words.specs.Words.{regions_in}
use Rattle.frame_steps.specs.declared.active.Active.{Active}
use Rattle.frame_steps.specs.declared.compiled.CompiledProgram.{CompiledProgram}
use Rattle.frame_steps.specs.Compiled.{program_of, variables_of}
use Rattle.frame_steps.specs.Standing.{IsActive, IsShown}
use Rattle.machine_shown.specs.Frames.{regions_up_to}
use Rattle.lane_places.specs.Levels.{is_past, masked_lane_spot, number_in, number_in_levels, spot_by_levels}
use Rattle.lane_places.specs.Places.{lane_spot_at}
use Rattle.lane_places.proofs.LanesAlike.{lanes_alike}
use Rattle.gang_machine.specs.LaneNumbers.{HasForms, number_unless_past}
use Rattle.gang_machine.specs.Standings.{SeenStands, view_of}
use Rattle.gang_machine.proofs.Agreeing.{masked_now}

-- ---- one form

module _ (lane : ℕ) (level : Level) where
  past_none : is_past lane level ≡ true → number_unless_past lane level ≡ None
  past_none h = ap (λ b. if b then None else Some (number_in lane level)) h

  waits_some : is_past lane level ≡ false → number_unless_past lane level ≡ Some (number_in lane level)
  waits_some h = ap (λ b. if b then None else Some (number_in lane level)) h

  -- what the answer says
  pub past_by : None ≡ number_unless_past lane level → is_past lane level ≡ true
  past_by is = by_bool (is_past lane level) (λ h. h) (λ h. absurd (none_some (number_in lane level) (is ∙ waits_some h)))
    where
      none_some : (n : StepNumber) → None ≡ Some n → ⊥
      none_some n e = cc

  pub waits_by : (number : StepNumber) → Some number ≡ number_unless_past lane level → (is_past lane level ≡ false) × (number ≡ number_in lane level)
  waits_by number is = by_bool (is_past lane level) (λ h. absurd (some_none (is ∙ past_none h))) (λ h. (h, same_number (number_in lane level) (is ∙ waits_some h)))
    where
      some_none : Some number ≡ None → ⊥
      some_none e = cc

      same_number : (n : StepNumber) → Some number ≡ Some n → number ≡ n
      same_number n e = cc

and_false : (a b : Bool) → b ≡ false → (a && b) ≡ false
and_false true b h = h
and_false false b h = refl

off : (b : Bool) → not b ≡ true → b ≡ false
off true h = sym h
off false h = refl

on : (b : Bool) → not b ≡ false → b ≡ true
on true h = refl
on false h = sym h

-- what the code reads of a form, with its end and the lane's number
module _ (w lane : ℕ) (form : RoundsOf) (words : LevelWords) (end number : StepNumber) (ended : end ≡ at words.end 0) (is : number ≡ number_in lane (body_level end words.numbers)) where
  abbrev here : Level
  here = form_level w form words

  number_here : number ≡ number_in lane here
  number_here = is ∙ ap (λ e. number_in lane (body_level e words.numbers)) ended

  -- the lane has a step to do in the round under way
  pub in_round : number ≢ end → Some number ≡ number_unless_past lane (form_level w form words)
  in_round busy =
      let inside : number_in lane here ≡ here.end → ⊥ = λ e. busy (number_here ∙ e ∙ sym ended) in
      ap Some number_here ∙ sym (waits_some lane here (and_false (no_turn here.turns) (number_in lane here == here.end) (ne_eqb (number_in lane here) here.end inside)))

  module _ (any : Bool) (says : any ≡ not (no_turn (turns_left form w (kept_in w form words)))) where
    -- a round is left
    pub round_left : any ≡ true → number ≡ end → Some end ≡ number_unless_past lane (form_level w form words)
    round_left some at_end =
        ap Some (sym at_end ∙ number_here) ∙ sym (waits_some lane here (ap (λ b. b && (number_in lane here == here.end)) (off (no_turn here.turns) (sym says ∙ some))))

    -- none is
    pub none_left : any ≡ false → number ≡ end → None ≡ number_unless_past lane (form_level w form words)
    none_left none at_end =
        let over : (number_in lane here == here.end) ≡ true = eq-eqb (number_in lane here) here.end (sym number_here ∙ at_end ∙ ended) in
        sym (past_none lane here (ap (λ b. b && (number_in lane here == here.end)) (on (no_turn here.turns) (sym says ∙ none)) ∙ over))

-- ---- the forms of a frame

-- a lane is past the innermost of these forms, but for so many
pub record ArePassed (points : List Point) (w : ℕ) (words : LevelsWords) (end : StepNumber) (lane : ℕ) (forms : Forms) (level : ℕ) : Type 0 where
  pub left : Forms
  pub long : length left ≡ level
  pub are : AreForms points w words left
  pub same : number_in_levels lane (levels_in w words end forms) ≡ number_in_levels lane (levels_in w words end left)

module _ (points : List Point) (w : ℕ) (words : LevelsWords) (end : StepNumber) (lane : ℕ) where
  pub passed_first : (forms : Forms) (level : ℕ) → length forms ≡ level → AreForms points w words forms → ArePassed points w words end lane forms level
  passed_first forms level long are = record { left = forms; long = long; are = are; same = refl }

  module _ (form : RoundsOf) where
    past_first : (left : Forms) → is_past lane (form_level w form (words (suc (length left)))) ≡ true
        → number_in_levels lane (levels_in w words end (form ∷ left)) ≡ number_in_levels lane (levels_in w words end left)
    past_first [] h = ap (λ b. if b then number_in_levels lane (levels_in w words end []) else number_in lane (form_level w form (words 1))) h
    past_first (next ∷ left) h =
        ap (λ b. if b then number_in_levels lane (levels_in w words end (next ∷ left)) else number_in lane (form_level w form (words (suc (length (next ∷ left)))))) h

    waits_first : (left : Forms) → is_past lane (form_level w form (words (suc (length left)))) ≡ false
        → number_in_levels lane (levels_in w words end (form ∷ left)) ≡ number_in lane (form_level w form (words (suc (length left))))
    waits_first [] h = ap (λ b. if b then number_in_levels lane (levels_in w words end []) else number_in lane (form_level w form (words 1))) h
    waits_first (next ∷ left) h =
        ap (λ b. if b then number_in_levels lane (levels_in w words end (next ∷ left)) else number_in lane (form_level w form (words (suc (length (next ∷ left)))))) h

  module _ (forms : Forms) (level : ℕ) (some : 0 < level) (passed : ArePassed points w words end lane forms level) where
    -- the form of the level
    pub next_form : (form : RoundsOf) × IsForm points w (words level) form
    next_form = by_left passed.left passed.long passed.are
      where
        by_left : (left : Forms) → length left ≡ level → AreForms points w words left → (form : RoundsOf) × IsForm points w (words level) form
        by_left [] long are = absurd (omega (arith, long, some))
        by_left (form ∷ left) long are = (form, subst (λ l. IsForm points w (words l) form) long are.0)

    -- and what the code answers of it
    module _ (answer : Option StepNumber) (says : (form : RoundsOf) → IsForm points w (words level) form → answer ≡ number_unless_past lane (form_level w form (words level))) where
      says_first : (form : RoundsOf) (left : Forms) → length (form ∷ left) ≡ level → AreForms points w words (form ∷ left) → answer ≡ number_unless_past lane (form_level w form (words (suc (length left))))
      says_first form left long are =
          says form (subst (λ l. IsForm points w (words l) form) long are.0) ∙ ap (λ l. number_unless_past lane (form_level w form (words l))) (sym long)

      -- the lane is past it too
      pub passed_next : answer ≡ None → ArePassed points w words end lane forms (level - 1)
      passed_next none = by_left passed.left passed.long passed.are passed.same
        where
          by_left : (left : Forms) → length left ≡ level → AreForms points w words left → number_in_levels lane (levels_in w words end forms) ≡ number_in_levels lane (levels_in w words end left)
              → ArePassed points w words end lane forms (level - 1)
          by_left [] long are same = absurd (omega (arith, long, some))
          by_left (form ∷ left) long are same =
              let past = past_by lane (form_level w form (words (suc (length left)))) (sym none ∙ says_first form left long are) in
              record { left = left; long = omega (arith, long); are = are.1; same = same ∙ past_first form left past }

      -- it waits there
      pub found_here : (number : StepNumber) → answer ≡ Some number → number ≡ number_in_levels lane (levels_in w words end forms)
      found_here number found = by_left passed.left passed.long passed.are passed.same
        where
          by_left : (left : Forms) → length left ≡ level → AreForms points w words left → number_in_levels lane (levels_in w words end forms) ≡ number_in_levels lane (levels_in w words end left)
              → number ≡ number_in_levels lane (levels_in w words end forms)
          by_left [] long are same = absurd (omega (arith, long, some))
          by_left (form ∷ left) long are same =
              let waits = waits_by lane (form_level w form (words (suc (length left)))) number (sym found ∙ says_first form left long are) in
              waits.1 ∙ sym (same ∙ waits_first form left waits.0)

  -- past all of them it waits in the function's body
  pub found_in_body : (forms : Forms) (level : ℕ) → level ≡ 0 → ArePassed points w words end lane forms level → (brace number : StepNumber) → brace ≡ end
      → number ≡ number_in lane (body_level brace (words 0).numbers) → number ≡ number_in_levels lane (levels_in w words end forms)
  found_in_body forms level none passed brace number ended is = by_left passed.left passed.long passed.same
    where
      by_left : (left : Forms) → length left ≡ level → number_in_levels lane (levels_in w words end forms) ≡ number_in_levels lane (levels_in w words end left)
          → number ≡ number_in_levels lane (levels_in w words end forms)
      by_left [] long same = is ∙ ap (λ e. number_in lane (body_level e (words 0).numbers)) ended ∙ sym same
      by_left (form ∷ left) long same = absurd (omega (arith, long, none))

-- ---- frames by their depths

-- the frame of a number is shown, and a lane's spot at a depth is by its levels
record SpotIsOf (p : t.Program) (variables : Variables) (w : ℕ) (regions : Regions) (deep lane index : ℕ) (frames : List Frame) (all : List (List Level)) : Type 0 where
  pub frame : Frame
  pub levels : List Level
  pub shows : ShowsFrame p variables w regions index frame levels
  pub spot : spot_by_levels deep lane frames all ≡ Some (spot_in frame.function (number_in_levels lane levels))

module _ (p : t.Program) (variables : Variables) (w : ℕ) (regions : Regions) (deep lane : ℕ) where
  module _ (frame : Frame) (frames : List Frame) (levels : List Level) (rest : List (List Level)) where
    spot_here : nat_le (length (frame ∷ frames)) deep ≡ true → spot_by_levels deep lane (frame ∷ frames) (levels ∷ rest) ≡ Some (spot_in frame.function (number_in_levels lane levels))
    spot_here h = ap (λ b. if b then Some (spot_in frame.function (number_in_levels lane levels)) else spot_by_levels deep lane frames rest) h

    spot_below : nat_le (length (frame ∷ frames)) deep ≡ false → spot_by_levels deep lane (frame ∷ frames) (levels ∷ rest) ≡ spot_by_levels deep lane frames rest
    spot_below h = ap (λ b. if b then Some (spot_in frame.function (number_in_levels lane levels)) else spot_by_levels deep lane frames rest) h

    of_below : (index : ℕ) → nat_le (length (frame ∷ frames)) deep ≡ false → SpotIsOf p variables w regions deep lane index frames rest
        → SpotIsOf p variables w regions deep lane index (frame ∷ frames) (levels ∷ rest)
    of_below index h lower = record { frame = lower.frame; levels = lower.levels; shows = lower.shows; spot = spot_below h ∙ lower.spot }

  spot_is_of : (frames : List Frame) (all : List (List Level)) (index : ℕ) → ShowsFrames p variables w regions frames all → min deep (length frames) ≡ suc index
      → SpotIsOf p variables w regions deep lane index frames all
  spot_is_of [] all index shown height = absurd (omega (arith, height))
  spot_is_of (frame ∷ frames) [] index shown height = absurd shown
  spot_is_of (frame ∷ frames) (levels ∷ rest) index shown height =
      elim (cases_lt deep (length (frame ∷ frames))) [
        | inl below ↦
            let deeper : nat_le (length (frame ∷ frames)) deep ≡ false = grind (arith, nat_tests, below) in
            of_below frame frames levels rest index deeper (spot_is_of frames rest index shown.2 (omega (arith, below, height)))
        | inr reached ↦
            let there : nat_le (length (frame ∷ frames)) deep ≡ true = grind (arith, nat_tests, reached) in
            let same : length frames ≡ index = omega (arith, reached, height) in
            record {
              frame = frame;
              levels = levels;
              shows = subst (λ i. ShowsFrame p variables w regions i frame levels) same shown.0;
              spot = spot_here frame frames levels rest there;
            }
      ]

  -- at depth 0 there is none, nor where no frame is left
  nowhere : (frames : List Frame) (all : List (List Level)) → min deep (length frames) ≡ 0 → spot_by_levels deep lane frames all ≡ None
  nowhere [] all none = refl
  nowhere (frame ∷ frames) [] none = refl
  nowhere (frame ∷ frames) (levels ∷ rest) none =
      let below : nat_le (length (frame ∷ frames)) deep ≡ false = grind (arith, nat_tests, none) in
      spot_below frame frames levels rest below ∙ nowhere frames rest (omega (arith, none))

module _ {T : Type 0} (history : T → History) (w : ℕ) (compiled : CompiledProgram) (words : MachineWords T) (masked : Masked) (shown : IsShown history w compiled words masked) (deep lane : ℕ) where
  abbrev regions : Regions
  regions = regions_in history w words

  pub none_at : regions_up_to deep (regions_in history w words) Depth ≡ 0 ∷ [] → masked_lane_spot deep lane masked ≡ None
  none_at none =
      nowhere (program_of compiled) (variables_of compiled) w regions deep lane masked.state.frames masked.levels
      (ap (λ (ws : List ℕ). min deep (slice_index ws 0)) (sym shown.shows.depth) ∙ ap (λ (ws : List ℕ). slice_index ws 0) none)

  module _ (active : Active) (f : Function) (is_active : IsActive w compiled (regions_up_to deep (regions_in history w words)) active f (slice_get (points_in f) active.step)) where
    height : min deep (length masked.state.frames) ≡ suc active.frame
    height = ap (λ (ws : List ℕ). min deep (slice_index ws 0)) (sym shown.shows.depth) ∙ ap (λ (ws : List ℕ). slice_index ws 0) is_active.next.depth

    pub frame_there : active.frame < 64
    frame_there = omega (arith, height, shown.shows.few)

    abbrev found : SpotIsOf (program_of compiled) (variables_of compiled) w (regions_in history w words) deep lane active.frame masked.state.frames masked.levels
    found = spot_is_of (program_of compiled) (variables_of compiled) w regions deep lane masked.state.frames masked.levels active.frame shown.shows.frames height

    runs : found.frame.function ≡ active.function
    runs = same_word (regions_in history w words (OfHead active.frame FunctionOf)) found.frame.function active.function found.shows.number is_active.next.function

    waits : ShowsLevels (points_in f) w (level_words (regions_in history w words) active.frame) (regions_in history w words (OfHead active.frame OpenOf)) (closing_number f) found.levels
    waits =
        let same : found.shows.function ≡ f =
        same_function found.shows.function f (slice_get (program_of compiled).functions active.function)
        (ap (slice_get (program_of compiled).functions) (sym runs) ∙ found.shows.is_function) is_active.next.is_function in
        subst (λ g. ShowsLevels (points_in g) w (level_words regions active.frame) (regions (OfHead active.frame OpenOf)) (closing_number g) found.levels) same found.shows.waits

    record HasLevels : Type 0 where
      pub has : HasForms w compiled (regions_in history w words) active.frame active.function active.level
      pub levels_are : found.levels ≡ levels_in w (level_words (regions_in history w words) active.frame) (closing_number has.f) has.forms

    has_levels : HasLevels
    has_levels =
        let (turns, below, levels_are, top) = top_is w regions active.frame f active.level found.levels waits is_active.next.innermost in
        record {
          has = record {
            f = f;
            is_function = is_active.next.is_function;
            forms = top.inner.live;
            long = top.height;
            are = live_are w regions active.frame f active.level turns below top;
            body_sized = waits.body_sized;
          };
          levels_are = levels_are ∙ live_is w regions active.frame f active.level turns below top;
        }

    -- the forms under way in the frame
    pub forms_there : HasForms w compiled (regions_in history w words) active.frame active.function active.level
    forms_there = has_levels.has

    pub lane_spot_by : (number : StepNumber)
        → ((has : HasForms w compiled (regions_in history w words) active.frame active.function active.level)
        → number ≡ number_in_levels lane (levels_in w (level_words (regions_in history w words) active.frame) (closing_number has.f) has.forms))
        → masked_lane_spot deep lane masked ≡ Some (spot_in active.function number)
    lane_spot_by number is =
        found.spot ∙ ap₂ (λ n k. Some (spot_in n k)) runs (ap (number_in_levels lane) has_levels.levels_are ∙ sym (is has_levels.has))

-- ---- where the machine stands

module _ (w entry : ℕ) (program : Program) (lines : List ℕ) (layout : Layout) (h : History) (lowerable : AreLowerable (program_view program)) (s : Setting) (d : Debugger)
    (stands : SeenStands (view_of w entry program lines layout h) s d) where
  abbrev p : t.Program
  p = program_view program

  now_is : now s d ≡ after p (start p entry stands.rows w) d.events
  now_is = ap₂ (λ q first. after q first d.events) stands.program stands.first

  pub lane_spot_is : (deep lane : ℕ) → lane_spot_at s.program deep lane (now s d) ≡ masked_lane_spot deep lane (masked_now w entry program lines layout h lowerable s d stands)
  lane_spot_is deep lane =
      ap₂ (λ q state. lane_spot_at q deep lane state) stands.program now_is
      ∙ lanes_alike p lowerable entry stands.rows w d.events deep lane
