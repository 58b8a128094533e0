-- A foreach form begins: what the words become, so that they show the masked state after the step.
use Rattle.std.proofs.Common.{◌≡◌, refl, sym, ap, ◌∙◌, subst, ℕ, suc, List, [], ◌∷◌, length, Some, arith}
use Rattle.std.specs.Prelude.{map, replicate, slice_get, Result, Ok, Err, IfOk}
use Rattle.std.proofs.lemmas.List.{length-replicate}
use Rattle.gang_types.specs.Lanes.{Lanes}
use Rattle.gang_model.specs.Types.Tree.{StepNumber, RoundsOf, Function, Program}
use Rattle.gang_model.specs.Running.Lanes.{Fault, ◌>>=◌}
use Rattle.gang_model.specs.Running.Rounds.{Turn, rounds as rounds_of}
use Rattle.gang_model.specs.Running.RunningOrder.{IsNumbered}
use Rattle.gang_model.specs.Running.State.{State}
use Rattle.mask_states.specs.Points.{Point, Begin, points_in, closing_number}
use Rattle.mask_states.specs.MaskedStep.{Goes, acted}
use Rattle.mask_states.specs.Masked.{Level, Masked, begun, closed, sent, sent_in, turns_taken}
use Rattle.mask_states.proofs.LaneNumbers.{length-sent, length-waiting_for}
use Rattle.foreach_lowering.specs.Kept.{Kept, turns_left}
use Rattle.foreach_lowering.specs.Law.{CountsRounds, HasDimensions, IsKept, first_kept}
use Rattle.machine_states.specs.Variables.{Variables}
use Rattle.machine_states.specs.Levels.{LevelWords, Forms, IsForm, ShowsLevels, form_level, kept_in}
use Rattle.machine_states.specs.Regions.{FunctionOf, NumbersOf, OpenOf, OfHead, OfLevel, Regions}
use Rattle.machine_states.specs.Shows.{level_words, Shows}
use Rattle.machine_states.specs.Effects.{begun_in, sent_on}
use Rattle.machine_states.specs.Steps.{IsNext, waiting_in, GoesTo, FailsWith}
use Rattle.machine_states.proofs.BeginLevels.{begun_shown, with_numbers, words_with}
use Rattle.machine_states.proofs.BeginRegions.{below_begun, outer_begun, level_begun, open_begun, begun_only}
use Rattle.machine_states.proofs.NestedPoints.{begins_turn}
use Rattle.machine_states.proofs.LevelFrames.{levels_go}
use Rattle.machine_states.proofs.NextPoints.{same_word, same_function}
use Rattle.machine_states.proofs.TopFrame.{acts, length-waiting, point_fails, top_frame}
use Rattle.machine_states.proofs.TopLevels.{level_of, numbers_long}

-- ---- what is kept

-- the rounds of a form that begins are those that what it keeps has left
rounds_kept : (form : RoundsOf) (width : ℕ) (r : Result (List Turn) Fault) (q : Result Kept Fault) (kept : Kept) → q ≡ Ok kept
    → (r >>= λ turns. Ok (turns_taken turns)) ≡ (q >>= λ k. Ok (turns_left form width k))
    → (turns : List Turn) × (r ≡ Ok turns) × (turns_taken turns ≡ turns_left form width kept)
rounds_kept form width (Ok turns) (Ok k) kept e h = (turns, refl, cc)
rounds_kept form width (Ok turns) (Err fault) kept e h = absurd cc
rounds_kept form width (Err fault) (Ok k) kept e h = absurd cc
rounds_kept form width (Err fault) (Err other) kept e h = absurd cc

rounds_fail : (form : RoundsOf) (width : ℕ) (r : Result (List Turn) Fault) (q : Result Kept Fault) (fault : Fault) → q ≡ Err fault
    → (r >>= λ turns. Ok (turns_taken turns)) ≡ (q >>= λ k. Ok (turns_left form width k)) → r ≡ Err fault
rounds_fail form width (Ok turns) (Ok k) fault e h = absurd cc
rounds_fail form width (Ok turns) (Err other) fault e h = absurd cc
rounds_fail form width (Err other) (Ok k) fault e h = absurd cc
rounds_fail form width (Err other) (Err third) fault e h = cc

-- the words of a level whose form begins
abbrev pub begun_words : (width : ℕ) → (rounds : StepNumber) → (counters values : List ℕ) → LevelWords
begun_words width rounds counters values = record { end = rounds ∷ []; numbers = replicate width rounds; counters = counters; values = values }

all_alike : (numbers : List StepNumber) (rounds : StepNumber) → replicate (length numbers) rounds ≡ map (λ n. rounds) numbers
all_alike [] rounds = refl
all_alike (n ∷ numbers) rounds = ap (λ ns. rounds ∷ ns) (all_alike numbers rounds)

module _ (p : Program) (variables : Variables) (w : ℕ) (regions : Regions) (i level n : ℕ) (f : Function) (number : StepNumber) (form : RoundsOf) (rounds target : StepNumber)
    (next : IsNext p w regions i level n f number (Some (Begin form rounds target))) (numbered : IsNumbered 0 f.body)
    (counters values : List ℕ) (counted : length counters ≡ 9) (valued : length values ≡ w) (kept_is : IsKept form w (kept_in w form (begun_words w rounds counters values))) where
  abbrev lanes : Lanes
  lanes = waiting_in regions i level number

  abbrev pub form_begun : Regions
  form_begun = begun_in i level rounds (replicate w rounds) counters values (sent_on i level lanes (λ k. target) regions)

  abbrev pub new_level : Level
  new_level = form_level w form (begun_words w rounds counters values)

  -- ---- the frame

  form_is : IsForm (points_in f) w (begun_words w rounds counters values) form
  form_is =
      let turn = begins_turn f numbered number form rounds target next.is_point in
      record {
        head = number;
        next = target;
        body = turn.0;
        begins = next.is_point;
        turns = turn.1;
        sized = length-replicate w rounds;
        counted = counted;
        valued = valued;
        kept = kept_is;
      }

  module _ (top : Level) (below : List Level) (numbers_are : top.numbers ≡ regions (OfLevel i level NumbersOf)) (sized : length (regions (OfLevel i level NumbersOf)) ≡ w) where
    abbrev after : List Level
    after = closed (new_level ∷ sent_in lanes (λ k. target) top ∷ below)

    levels_begun : ShowsLevels (points_in f) w (level_words regions i) (regions (OfHead i OpenOf)) (closing_number f) (top ∷ below)
        → ShowsLevels (points_in f) w (level_words form_begun i) (form_begun (OfHead i OpenOf)) (closing_number f) after
    levels_begun shown =
        let inner = next.innermost shown.forms shown.are shown.counted in
        let live : Forms = inner.0.live in
        let long : length live ≡ level = inner.1 in
        let numbers : List ℕ = sent lanes (λ k. target) (regions (OfLevel i level NumbersOf)) in
        let as_many : length (regions (OfLevel i level NumbersOf)) ≡ length lanes = sym (length-waiting_for number (regions (OfLevel i level NumbersOf))) in
        let words_are : level_words form_begun i (suc level) ≡ begun_words w rounds counters values =
        level_begun i level rounds (replicate w rounds) counters values (sent_on i level lanes (λ k. target) regions) in
        let words_here : level_words form_begun i (suc (length live)) ≡ begun_words w rounds counters values = ap (λ l. level_words form_begun i (suc l)) long ∙ words_are in
        subst (ShowsLevels (points_in f) w (level_words form_begun i) (form_begun (OfHead i OpenOf)) (closing_number f))
        (ap (λ words. closed (form_level w form words ∷ with_numbers numbers top ∷ below)) words_here
        ∙ ap (λ ns. closed (new_level ∷ with_numbers (sent lanes (λ k. target) ns) top ∷ below)) (sym numbers_are))
        (begun_shown (points_in f) w (level_words regions i) (level_words form_begun i) (closing_number f) numbers (length-sent lanes (λ k. target) (regions (OfLevel i level NumbersOf)) as_many ∙ sized)
        (regions (OfHead i OpenOf)) (form_begun (OfHead i OpenOf)) (top ∷ below) shown inner.0 (
          subst (λ l. level_words form_begun i l ≡ words_with numbers (level_words regions i l)) (sym long)
              (outer_begun i level lanes (λ k. target) rounds (replicate w rounds) counters values regions),
          λ other under. below_begun i level lanes (λ k. target) rounds (replicate w rounds) counters values regions other (omega (arith, under, long)),
        )
        form
        (subst (λ words. IsForm (points_in f) w words form) (sym words_here) form_is)
        (open_begun i level rounds (replicate w rounds) counters values (sent_on i level lanes (λ k. target) regions) ∙ ap (λ l. suc l ∷ []) (sym long)))

    -- ---- the state

    state_begun : (state : State) (rest : List (List Level)) → Shows p variables w regions (record { state = state; levels = (top ∷ below) ∷ rest })
        → Shows p variables w form_begun (record { state = state; levels = after ∷ rest })
    state_begun state rest shows =
        levels_go p variables w i regions form_begun (begun_only i level lanes (λ k. target) rounds (replicate w rounds) counters values regions) (top ∷ below) after
        (λ frame shown.
        let runs : frame.function ≡ n = same_word (regions (OfHead i FunctionOf)) frame.function n shown.number next.function in
        let same : f ≡ shown.function = same_function f shown.function (slice_get p.functions frame.function) (ap (slice_get p.functions) runs ∙ next.is_function) shown.is_function in
        subst (λ g. ShowsLevels (points_in g) w (level_words form_begun i) (form_begun (OfHead i OpenOf)) (closing_number g) after) same
        (levels_begun (subst (λ g. ShowsLevels (points_in g) w (level_words regions i) (regions (OfHead i OpenOf)) (closing_number g) (top ∷ below)) (sym same) shown.waits)))
        state rest shows next.depth

-- ---- the step

module _ (p : Program) (variables : Variables) (w : ℕ) (regions : Regions) (masked : Masked) (shows : Shows p variables w regions masked) (i level n : ℕ) (f : Function) (number : StepNumber)
    (form : RoundsOf) (rounds target : StepNumber) (next : IsNext p w regions i level n f number (Some (Begin form rounds target)))
    (counts : CountsRounds w) (few : HasDimensions form) where
  abbrev lanes_of_step : Lanes
  lanes_of_step = waiting_in regions i level number

  abbrev point : Point
  point = Begin form rounds target

  long : length lanes_of_step ≡ w
  long = length-waiting p variables w regions masked shows i level n f number (Some point) next

  -- its bounds or its value have a fault
  pub begin_fails : (fault : Fault) → first_kept form (waiting_in regions i level number) masked.state ≡ Err fault → FailsWith p masked fault
  begin_fails fault is =
      point_fails p variables w regions masked shows i level n f number point next fault
      (λ top below.
      ap (λ r. r >>= λ turns. Ok (record { state = masked.state; levels = closed (begun rounds turns top.numbers ∷ sent_in lanes_of_step (λ k. target) top ∷ below) ∷ [] }))
      (rounds_fail form w (rounds_of form lanes_of_step masked.state) (first_kept form lanes_of_step masked.state) fault is (counts.begins form few lanes_of_step long masked.state)))

  -- the form begins over the level of its head: these words keep what it keeps first
  pub form_begins : IsNumbered 0 f.body → (counters values : List ℕ) → length counters ≡ 9 → length values ≡ w
      → first_kept form (waiting_in regions i level number) masked.state ≡ Ok (kept_in w form (begun_words w rounds counters values))
      → GoesTo p variables w masked (begun_in i level rounds (replicate w rounds) counters values (sent_on i level (waiting_in regions i level number) (λ k. target) regions))
  form_begins numbered counters values counted valued is =
      let t = top_frame p variables w regions masked shows i level n f number (Some point) next in
      let top : Level = level_of regions i f level t.turns in
      let kept : Kept = kept_in w form (begun_words w rounds counters values) in
      let kept_is : IsKept form w kept = subst (λ r. IfOk r (IsKept form w)) is (counts.kept form lanes_of_step long masked.state) in
      let taken = rounds_kept form w (rounds_of form lanes_of_step masked.state) (first_kept form lanes_of_step masked.state) kept is (counts.begins form few lanes_of_step long masked.state) in
      let sized : length (regions (OfLevel i level NumbersOf)) ≡ w = numbers_long w regions i f level t.turns t.below t.top in
      let numbers_are : map (λ n. rounds) (regions (OfLevel i level NumbersOf)) ≡ replicate w rounds =
      sym (all_alike (regions (OfLevel i level NumbersOf)) rounds) ∙ ap (λ m. replicate m rounds) sized in
      let level_is : begun rounds taken.0 (regions (OfLevel i level NumbersOf)) ≡ form_level w form (begun_words w rounds counters values) =
      ap (λ turns. record { end = rounds; turns = turns; numbers = map (λ n. rounds) (regions (OfLevel i level NumbersOf)) }) taken.2
      ∙ ap (λ numbers. record { end = rounds; turns = turns_left form w kept; numbers = numbers }) numbers_are in (
        record {
          state = masked.state;
          levels = closed (form_level w form (begun_words w rounds counters values) ∷ sent_in lanes_of_step (λ k. target) top ∷ t.below) ∷ t.rest;
        },
        acts p variables w regions masked shows i level n f number point next
            ∙ ap (λ r. acted (r >>= λ turns. Ok (record { state = masked.state; levels = closed (begun rounds turns top.numbers ∷ sent_in lanes_of_step (λ k. target) top ∷ t.below) ∷ [] })) t.rest) taken.1
            ∙ ap (λ l. Goes (record { state = masked.state; levels = closed (l ∷ sent_in lanes_of_step (λ k. target) top ∷ t.below) ∷ t.rest })) level_is,
        state_begun p variables w regions i level n f number form rounds target next numbered counters values counted valued kept_is top t.below refl sized
            masked.state t.rest (subst (λ levels. Shows p variables w regions (record { state = masked.state; levels = levels })) t.levels_are shows),
      )
