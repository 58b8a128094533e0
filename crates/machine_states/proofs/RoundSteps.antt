-- The next round of a foreach form: what the words become, so that they show the masked state after the step.
use Rattle.std.proofs.Common.{◌≡◌, ◌≢◌, sym, ap, ◌∙◌, subst, ℕ, suc, ◌<◌, ◌≤◌, List, [], ◌∷◌, length, Some, arith}
use Rattle.std.specs.Prelude.{slice_get, Ok}
use Rattle.gang_model.specs.Types.Tree.{StepNumber, Var, RoundsOf, Function, Program}
use Rattle.gang_model.specs.Running.Lanes.{at}
use Rattle.gang_model.specs.Running.Rounds.{Turn}
use Rattle.gang_model.specs.Running.RunningOrder.{IsNumbered}
use Rattle.gang_model.specs.Running.Step.{with_store}
use Rattle.mask_states.specs.Points.{Turn as TakeTurn, points_in, closing_number}
use Rattle.mask_states.specs.Masked.{Level, Masked, closed, sent, at_end as lanes_at, masked_lanes}
use Rattle.mask_states.specs.MaskedStep.{acted, turn_taken}
use Rattle.mask_states.proofs.LaneNumbers.{length-sent}
use Rattle.foreach_lowering.specs.Forms.{round_forms}
use Rattle.foreach_lowering.specs.Kept.{Kept, Takes, turns_left}
use Rattle.foreach_lowering.specs.Law.{IsKept}
use Rattle.foreach_lowering.proofs.HeadForms.{have_forms}
use Rattle.machine_states.specs.Variables.{Variables}
use Rattle.machine_states.specs.Levels.{LevelWords, Forms, IsForm, AreForms, ShowsLevels, form_level, kept_in, levels_in}
use Rattle.machine_states.specs.Regions.{FunctionOf, OpenOf, NumbersOf, CountersOf, OfHead, OfLevel, Regions, with_region}
use Rattle.machine_states.specs.Rounds.{declared_store}
use Rattle.machine_states.specs.Shows.{AreSized, level_words, Shows}
use Rattle.machine_states.specs.Effects.{round_in, sent_on}
use Rattle.machine_states.specs.Steps.{IsNext, end_in, GoesTo}
use Rattle.machine_states.proofs.AllDeclared.{AreOwn, all_declared_shows}
use Rattle.machine_states.proofs.BeginLevels.{forms_same, kept_with}
use Rattle.machine_states.proofs.DeclaredLists.{same_some}
use Rattle.machine_states.proofs.InnermostLevels.{innermost_changed, same_levels}
use Rattle.machine_states.proofs.LevelFrames.{LevelsGo, levels_go}
use Rattle.machine_states.proofs.NextPoints.{same_function, same_word}
use Rattle.machine_states.proofs.RoundRegions.{round_away, round_here, round_only, round_open}
use Rattle.machine_states.proofs.TopFrame.{IsTopFrame, acts, lanes_at_end, top_frame, top_level}
use Rattle.machine_states.proofs.TopLevels.{IsTopForm, some_turn, top_form}

module _ (p : Program) (variables : Variables) (w : ℕ) (regions : Regions) (masked : Masked) (shows : Shows p variables w regions masked) (i level n : ℕ) (f : Function) (number body : StepNumber)
    (next : IsNext p w regions i (suc level) n f number (Some (TakeTurn body))) where
  abbrev pub top : IsTopFrame p variables w regions (suc level) n f masked.state.frames masked.levels i number
  top = top_frame p variables w regions masked shows i (suc level) n f number (Some (TakeTurn body)) next

  abbrev pub words : LevelWords
  words = level_words regions i (suc level)

  module _ (numbered : IsNumbered 0 f.body) (at_end : number ≡ end_in regions i f (suc level)) (form : RoundsOf) (is_form : slice_get (round_forms f) number ≡ Some (Some form)) where
    -- the level is that of the form whose rounds the point is
    pub form_of_level : IsTopForm w regions i f level top.turns top.below top.top.inner.live
    form_of_level = top_form w regions i f level top.turns top.below top.top

    pub same_form : form_of_level.form ≡ form
    same_form =
        let of_head = (have_forms f numbered).heads form_of_level.is.head form_of_level.form (at words.end 0) form_of_level.is.next form_of_level.is.begins in
        same_some form_of_level.form form (same_some (Some form_of_level.form) (Some form) (sym of_head ∙ ap (slice_get (round_forms f)) (sym at_end) ∙ is_form))

    -- so the rounds to come are those that it has left
    pub turns_of_form : top.turns ≡ turns_left form w (kept_in w form (level_words regions i (suc level)))
    turns_of_form = form_of_level.turns_are ∙ ap (λ form. turns_left form w (kept_in w form words)) same_form

    -- the next round is taken, and what is left behind it is counted
    module _ (turn : Turn) (after : Kept) (takes : Takes form w (kept_in w form (level_words regions i (suc level))) turn after) (long : length turn.lanes ≡ w)
        (counters : List ℕ) (counted : length counters ≡ 9) (kept_is : kept_in w form (record (level_words regions i (suc level)) { counters = counters }) ≡ after) (is_kept : IsKept form w after) where
      abbrev new : Regions
      new = sent_on i (suc level) turn.lanes (λ k. body) (with_region (OfLevel i (suc level) CountersOf) counters regions)

      abbrev numbers : List StepNumber
      numbers = sent turn.lanes (λ k. body) (regions (OfLevel i (suc level) NumbersOf))

      abbrev now_words : LevelWords
      now_words = record words { numbers = numbers; counters = counters }

      abbrev turned : Level
      turned = record { end = end_in regions i f (suc level); turns = turns_left form w after; numbers = numbers }

      kept_now : kept_in w form now_words ≡ after
      kept_now = kept_with w form (record words { counters = counters }) numbers ∙ kept_is

      form_now : IsForm (points_in f) w now_words form
      form_now =
          let was : IsForm (points_in f) w words form = subst (IsForm (points_in f) w words) same_form form_of_level.is in
          record {
            head = was.head;
            next = was.next;
            body = was.body;
            begins = was.begins;
            turns = was.turns;
            sized = length-sent turn.lanes (λ k. body) words.numbers (was.sized ∙ sym long) ∙ was.sized;
            counted = counted;
            valued = was.valued;
            kept = subst (IsKept form w) (sym kept_now) is_kept;
          }

      abbrev forms : Forms
      forms = form_of_level.forms

      live_now : top.top.inner.live ≡ form ∷ forms
      live_now = form_of_level.live_is ∙ ap (λ g. g ∷ forms) same_form

      away : (other : ℕ) → suc level ≢ other → level_words new i other ≡ level_words regions i other
      away other apart = round_away i (suc level) turn.lanes body counters regions other apart

      below_same : (other : ℕ) → other ≤ length forms → level_words new i other ≡ level_words regions i other
      below_same other within = away other (λ e. omega (arith, e, within, form_of_level.long))

      words_now : level_words new i (suc (length forms)) ≡ now_words
      words_now = ap (λ l. level_words new i (suc l)) form_of_level.long ∙ round_here i (suc level) turn.lanes body counters regions

      are_now : AreForms (points_in f) w (level_words new i) (form ∷ forms)
      are_now = (
        subst (λ ws. IsForm (points_in f) w ws form) (sym words_now) form_now,
        forms_same (points_in f) w (level_words regions i) (level_words new i) (closing_number f) numbers form_now.sized forms below_same form_of_level.are,
      )

      levels_now : levels_in w (level_words new i) (closing_number f) top.top.inner.live ≡ turned ∷ top.below
      levels_now =
          ap (levels_in w (level_words new i) (closing_number f)) live_now
          ∙ ap (λ ws. form_level w form ws ∷ levels_in w (level_words new i) (closing_number f) forms) words_now
          ∙ ap (λ kept. record { end = end_in regions i f (suc level); turns = turns_left form w kept; numbers = numbers } ∷ levels_in w (level_words new i) (closing_number f) forms) kept_now
          ∙ ap (λ levels. turned ∷ levels) (same_levels w (level_words regions i) (level_words new i) (closing_number f) forms below_same ∙ sym form_of_level.below_are)

      shown_now : ShowsLevels (points_in f) w (level_words new i) (new (OfHead i OpenOf)) (closing_number f) (closed (turned ∷ top.below))
      shown_now =
          let height : length top.top.inner.live ≡ suc level = top.top.height in
          subst (λ levels. ShowsLevels (points_in f) w (level_words new i) (new (OfHead i OpenOf)) (closing_number f) (closed levels)) levels_now
          (innermost_changed (points_in f) w (level_words regions i) (level_words new i) (regions (OfHead i OpenOf)) (new (OfHead i OpenOf)) (closing_number f) (top_level p variables w regions masked shows i (suc level) n f number (Some (TakeTurn body)) next ∷ top.below)
          top.top.shown top.top.inner (λ other more. away other (λ e. omega (arith, e, more, height)))
          (subst (AreForms (points_in f) w (level_words new i)) (sym live_now) are_now)
          (ap (λ ws. length ws.numbers) (away 0 (λ e. omega (arith, e))) ∙ top.top.shown.body_sized)
          (round_open i (suc level) turn.lanes body counters regions))

      go : LevelsGo p variables w i regions new (round_only i (suc level) turn.lanes body counters regions) (top_level p variables w regions masked shows i (suc level) n f number (Some (TakeTurn body)) next ∷ top.below) (closed (turned ∷ top.below))
      go frame shown =
          let runs : frame.function ≡ n = same_word (regions (OfHead i FunctionOf)) frame.function n shown.number next.function in
          let same : f ≡ shown.function = same_function f shown.function (slice_get p.functions frame.function) (ap (slice_get p.functions) runs ∙ next.is_function) shown.is_function in
          subst (λ g. ShowsLevels (points_in g) w (level_words new i) (new (OfHead i OpenOf)) (closing_number g) (closed (turned ∷ top.below))) same shown_now

      sized_now : AreSized variables w regions → AreSized variables w new
      sized_now sized = record { file = sized.file; own = sized.own }

      -- the round's lanes are sent on, and its index variables declared
      pub round_goes : 0 < w → AreSized variables w regions → (indices : List (Var × List ℕ)) → AreOwn variables n indices → turn.indices ≡ declared_store turn.lanes indices
          → GoesTo p variables w masked (round_in i (suc level) turn.lanes body counters indices regions)
      round_goes some sized indices own store_is =
          let only = round_only i (suc level) turn.lanes body counters regions in
          let start : Shows p variables w regions (record { state = masked.state; levels = (top_level p variables w regions masked shows i (suc level) n f number (Some (TakeTurn body)) next ∷ top.below) ∷ top.rest }) =
          subst (λ levels. Shows p variables w regions (record { state = masked.state; levels = levels })) top.levels_are shows in
          let moved = levels_go p variables w i regions new only _ (closed (turned ∷ top.below)) go masked.state top.rest start next.depth in (
            record { state = with_store turn.indices masked.state; levels = closed (turned ∷ top.below) ∷ top.rest },
            acts p variables w regions masked shows i (suc level) n f number (TakeTurn body) next
                ∙ ap (λ turns. acted (Ok (turn_taken body turns masked.state (top_level p variables w regions masked shows i (suc level) n f number (Some (TakeTurn body)) next) top.below)) top.rest) (turns_of_form ∙ takes),
            subst (λ store. Shows p variables w (round_in i (suc level) turn.lanes body counters indices regions) (record { state = with_store store masked.state; levels = closed (turned ∷ top.below) ∷ top.rest })) (sym store_is)
                (all_declared_shows p variables w i n turn.lanes long some (closed (turned ∷ top.below) ∷ top.rest) indices own new masked.state moved
                (only.depth ∙ next.depth) (only.function ∙ next.function) (sized_now sized)),
          )

    -- a round is to come, else the form would be over
    pub round_there : turns_left form w (kept_in w form (level_words regions i (suc level))) ≡ [] → ⊥
    round_there none =
        let some = some_turn w regions i f level top.turns top.below top.top (top.next_is ∙ at_end) in no_list some.0 some.1 (sym some.2 ∙ turns_of_form ∙ none)
      where
        no_list : (turn : Turn) (later : List Turn) → turn ∷ later ≡ [] → ⊥
        no_list turn later e = cc

    -- its lanes are those that a debugger shows
    pub round_lanes : (turn : Turn) (after : Kept) → Takes form w (kept_in w form (level_words regions i (suc level))) turn after → masked_lanes masked ≡ turn.lanes
    round_lanes turn after takes =
        lanes_at_end p variables w regions masked shows i (suc level) n f number (Some (TakeTurn body)) next at_end ∙ ap (lanes_at top.frame) (turns_of_form ∙ takes)
