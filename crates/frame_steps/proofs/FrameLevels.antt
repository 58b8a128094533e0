-- The levels of a frame as the code finds them: whether the form of a level is over, and the innermost one that is not.
use Rattle.std.proofs.Common.{ℕ, zero, suc, ◌-◌, ◌<◌, ◌≤◌, ◌≢◌, Bool, true, false, cond, ◌≡◌, refl, sym, ◌∙◌, ap, ap₂, subst, arith, List, [], ◌∷◌, ◌++◌, length, append_assoc, Some}
use Rattle.std.specs.Prelude.{◌&&◌, ◌==◌, nat_lt, not, slice_get, slice_index}
use Rattle.std.proofs.lemmas.Bool.{eq-eqb, ne_eqb}
use Rattle.gang_model.specs.Running.Lanes.{at}
use Rattle.gang_model.specs.Running.RunningOrder.{IsNumbered, IsNumberedProgram}
use Rattle.gang_model.specs.Running.State.{Frame}
use Rattle.gang_model.specs.Types.Tree.{Function, Program, RoundsOf}
use Rattle.undo_log.specs.History.{History}
use Rattle.mask_states.specs.Points.{Begin, Point, Turn, closing_number, function_ways, points_in}
use Rattle.mask_states.specs.Masked.{Level, is_over, least, no_turn}
use Rattle.mask_states.proofs.LaneNumbers.{least_at_most}
use Rattle.mask_states.proofs.PlacedPoints.{length-points_of}
use Rattle.foreach_lowering.specs.Forms.{round_forms}
use Rattle.foreach_lowering.specs.Kept.{turns_left}
use Rattle.foreach_lowering.specs.RoundViews.{SaysAnyLeft}
use Rattle.foreach_lowering.specs.declared.rounds.RoundsLeft.{RoundsLeft}
use Rattle.foreach_lowering.proofs.HeadForms.{have_forms}
use Rattle.machine_states.specs.Levels.{AreForms, AreOver, Forms, Innermost, IsForm, LevelWords, LevelsWords, ShowsLevels, form_level, kept_in}
use Rattle.machine_states.specs.Regions.{CountersOf, EndOf, LevelOf, NumbersOf, OfHead, OfLevel, OpenOf, Regions}
use Rattle.machine_states.specs.Shows.{ShowsFrame, level_words}
use Rattle.machine_states.specs.Steps.{IsInnermost, end_in, least_in}
use Rattle.machine_states.specs.Variables.{Variables}
use Rattle.machine_states.proofs.AwaitedLevels.{is_inside}
use Rattle.machine_states.proofs.DeclaredLists.{same_some}
use Rattle.machine_states.proofs.DeclaredPoints.{well_scoped_point}
use Rattle.machine_states.proofs.InnermostLevels.{closed_live, innermost}
use Rattle.machine_states.proofs.NextPoints.{same_word}
use Rattle.machine_states.proofs.NextRounds.{well_scoped_dimensions}
use Rattle.machine_states.proofs.TopLevels.{numbers_long, top_form, top_is}
use Rattle.machine_words.specs.Ranges.{head_size, levels_of}
use Rattle.machine_words.specs.declared.words.MachineWords.{MachineWords}
use Rattle.machine_words.specs.Words.{regions_in}
use Rattle.frame_steps.specs.declared.compiled.CompiledProgram.{CompiledProgram}
use Rattle.codegen.specs.Codes.{IndexesOf}
use Rattle.codegen.specs.declared.code.IndexCode.{IndexCode}
use Rattle.frame_steps.specs.Compiled.{IsCompiled, IsRounds, variables_of}
use Rattle.frame_steps.specs.Rounds.{AreRoundsOf, HasForm, HasLevel, KeepsRounds}
use Rattle.frame_steps.specs.Standing.{AreFor}
use Rattle.frame_steps.proofs.Standings.{head_sized}

-- ---- whether a form is over

module _ (w : ℕ) (form : RoundsOf) (words : LevelWords) where
  busy_by : (none : Bool) → least (at words.end 0) words.numbers ≢ at words.end 0 → false ≡ (none && (least (at words.end 0) words.numbers == at words.end 0))
  busy_by true busy = sym (ne_eqb (least (at words.end 0) words.numbers) (at words.end 0) busy)
  busy_by false busy = refl

  -- it is not while a lane waits for a step of its body
  pub not_over : least (at words.end 0) words.numbers ≢ at words.end 0 → false ≡ is_over (form_level w form words)
  not_over busy = busy_by (no_turn (form_level w form words).turns) busy

  over_by : (none any : Bool) → least (at words.end 0) words.numbers ≡ at words.end 0 → any ≡ not none → not any ≡ (none && (least (at words.end 0) words.numbers == at words.end 0))
  over_by true any at_end is = ap not is ∙ sym (eq-eqb (least (at words.end 0) words.numbers) (at words.end 0) at_end)
  over_by false any at_end is = ap not is

  -- nor while a round is left
  pub over_is : (any : Bool) → least (at words.end 0) words.numbers ≡ at words.end 0 → any ≡ not (no_turn (turns_left form w (kept_in w form words))) → not any ≡ is_over (form_level w form words)
  over_is any at_end is = over_by (no_turn (form_level w form words).turns) any at_end is

pub any_left : (w : ℕ) (regions : Regions) (frame level : ℕ) (form : RoundsOf) (left : RoundsLeft w) (any : Bool) → AreRoundsOf w regions frame level form left → SaysAnyLeft w left any
    → any ≡ not (no_turn (turns_left form w (kept_in w form (level_words regions frame level))))
any_left w regions frame level form left any are says = says form are.of_form ∙ ap (λ kept. not (no_turn (turns_left form w kept))) are.kept

-- ---- sizes

sized_end : (w levels level n : ℕ) → 0 < n → head_size w levels (LevelOf level CountersOf) ≡ n → head_size w levels (LevelOf level EndOf) ≡ 1
sized_end w levels zero n some e = absurd (omega (arith, some, e))
sized_end w levels (suc level) n some e = by_test (nat_lt level levels) e
  where
    by_test : (b : Bool) → cond b 9 0 ≡ n → ◌≡◌ {A = ℕ} (cond b 1 0) 1
    by_test true e = refl
    by_test false e = absurd (omega (arith, some, e))

module _ {T : Type 0} (history : T → History) (width : ℕ) (compiled : CompiledProgram) (words : MachineWords T) (lie : AreFor history width compiled words) (frame : ℕ) (there : frame < 64) where
  abbrev regions : Regions
  regions = regions_in history width words

  -- a level that has counters has an end
  pub end_there : (level : ℕ) → length (regions_in history width words (OfLevel frame level CountersOf)) ≡ 9 → length (regions_in history width words (OfLevel frame level EndOf)) ≡ 1
  end_there level counted =
      head_sized history width compiled words words lie refl lie.laid frame (LevelOf level EndOf) there
      ∙ sized_end width (levels_of words.layout) level 9 (omega arith) (sym (head_sized history width compiled words words lie refl lie.laid frame (LevelOf level CountersOf) there) ∙ counted)

-- ---- the innermost level

module _ (points : List Point) (w : ℕ) (words : LevelsWords) where
  form_at : (over : Forms) (form : RoundsOf) (live : Forms) → AreForms points w words (over ++ form ∷ live) → IsForm points w (words (suc (length live))) form
  form_at [] form live are = are.0
  form_at (other ∷ over) form live are = form_at over form live are.1

  one_more_over : (over : Forms) (form : RoundsOf) (live : Forms) → AreOver w words over (form ∷ live) → is_over (form_level w form (words (suc (length live)))) ≡ true
      → AreOver w words (over ++ form ∷ []) live
  one_more_over [] form live are is = (is, tt)
  one_more_over (other ∷ over) form live are is =
      (subst (λ fs. is_over (form_level w other (words (suc (length fs)))) ≡ true) (sym (append_assoc over (form ∷ []) live)) are.0, one_more_over over form live are.1 is)

-- these forms are over but for so many, at which the search has arrived
pub record AreOverDownTo (w : ℕ) (words : LevelsWords) (forms : Forms) (level : ℕ) : Type 0 where
  pub over : Forms
  pub live : Forms
  pub parts : forms ≡ over ++ live
  pub are_over : AreOver w words over live
  pub long : length live ≡ level

-- the same of all forms that words may be those of
abbrev pub IsDownTo : (width : ℕ) → Regions → (frame : ℕ) → Function → (level : ℕ) → Type 0
IsDownTo width regions frame f level =
    (forms : Forms) → AreForms (points_in f) width (level_words regions frame) forms → regions (OfHead frame OpenOf) ≡ length forms ∷ []
    → AreOverDownTo width (level_words regions frame) forms level

module _ (w : ℕ) (regions : Regions) (frame : ℕ) (f : Function) where
  pub down_first : (begun : ℕ) → begun ≡ slice_index (regions (OfHead frame OpenOf)) 0 → IsDownTo w regions frame f begun
  down_first begun is forms are counted = record { over = []; live = forms; parts = refl; are_over = tt; long = sym (is ∙ ap (λ ws. slice_index ws 0) counted) }

  -- the form of the level at which it has arrived
  pub at_level : (level : ℕ) → 0 < level → IsDownTo w regions frame f level → (forms : Forms) → AreForms (points_in f) w (level_words regions frame) forms
      → regions (OfHead frame OpenOf) ≡ length forms ∷ [] → (form : RoundsOf) × IsForm (points_in f) w (level_words regions frame level) form
  at_level level some down forms are counted =
      let d = down forms are counted in
      by_live d.over d.live d.long (subst (AreForms (points_in f) w (level_words regions frame)) d.parts are)
    where
      by_live : (over live : Forms) → length live ≡ level → AreForms (points_in f) w (level_words regions frame) (over ++ live) → (form : RoundsOf) × IsForm (points_in f) w (level_words regions frame level) form
      by_live over [] e are = absurd (omega (arith, e, some))
      by_live over (form ∷ live) e are = (form, subst (λ l. IsForm (points_in f) w (level_words regions frame l) form) e (form_at (points_in f) w (level_words regions frame) over form live are))

  pub down_next : (level : ℕ) → 0 < level → IsDownTo w regions frame f level
      → ((form : RoundsOf) → IsForm (points_in f) w (level_words regions frame level) form → is_over (form_level w form (level_words regions frame level)) ≡ true)
      → IsDownTo w regions frame f (level - 1)
  down_next level some down over forms are counted =
      let d = down forms are counted in
      by_live d.over d.live d.long d.parts d.are_over (subst (AreForms (points_in f) w (level_words regions frame)) d.parts are)
    where
      by_live : (before live : Forms) → length live ≡ level → forms ≡ before ++ live → AreOver w (level_words regions frame) before live → AreForms (points_in f) w (level_words regions frame) (before ++ live)
          → AreOverDownTo w (level_words regions frame) forms (level - 1)
      by_live before [] e parts are_over are = absurd (omega (arith, e, some))
      by_live before (form ∷ live) e parts are_over are =
          let words = level_words regions frame in
          let is = form_at (points_in f) w words before form live are in
          let now = subst (λ l. is_over (form_level w form (words l)) ≡ true) (sym e) (over form (subst (λ l. IsForm (points_in f) w (words l) form) e is)) in
          record {
            over = before ++ form ∷ [];
            live = live;
            parts = parts ∙ sym (append_assoc before (form ∷ []) live);
            are_over = one_more_over (points_in f) w words before form live are_over now;
            long = omega (arith, e);
          }

  -- it has arrived at the innermost one
  pub down_last : (level : ℕ) → IsDownTo w regions frame f level
      → (0 < level → (form : RoundsOf) → IsForm (points_in f) w (level_words regions frame level) form → is_over (form_level w form (level_words regions frame level)) ≡ false)
      → IsInnermost w regions frame f level
  down_last level down live forms are counted =
      let d = down forms are counted in
      by_live d.over d.live d.long d.parts d.are_over (subst (AreForms (points_in f) w (level_words regions frame)) d.parts are)
    where
      by_live : (before left : Forms) → length left ≡ level → forms ≡ before ++ left → AreOver w (level_words regions frame) before left → AreForms (points_in f) w (level_words regions frame) (before ++ left)
          → (i : Innermost w (level_words regions frame) (closing_number f) forms) × (length i.live ≡ level)
      by_live before [] e parts are_over are = (record { over = before; live = []; parts = parts; are_over = are_over; closed_is = refl }, e)
      by_live before (form ∷ left) e parts are_over are =
          let words = level_words regions frame in
          let is = form_at (points_in f) w words before form left are in
          let now = subst (λ l. is_over (form_level w form (words l)) ≡ false) (sym e) (live (omega (arith, e)) form (subst (λ l. IsForm (points_in f) w (words l) form) e is)) in
          (record { over = before; live = form ∷ left; parts = parts; are_over = are_over; closed_is = closed_live w words (closing_number f) form left now }, e)

-- ---- forms of a compiled program

module _ (width : ℕ) (compiled : CompiledProgram) (is : IsCompiled compiled) (regions : Regions) (frame level n : ℕ) (form : RoundsOf) (has : HasForm width compiled regions frame level n form) where
  -- the level's end is a step of rounds of the form
  pub rounds_here : (number : ℕ) → number ≡ at (regions (OfLevel frame level EndOf)) 0 → IsRounds compiled n number has.f form
  rounds_here number same = record {
    is_function = has.is_function;
    is_form = ap (slice_get (round_forms has.f)) same
        ∙ (have_forms has.f (is.runnable.lowerable.numbered n has.f has.is_function)).heads has.is_form.head form (at (regions (OfLevel frame level EndOf)) 0) has.is_form.next has.is_form.begins;
  }

  -- which the level keeps
  pub keeps_here : (code : IndexCode) → IndexesOf code form → KeepsRounds width regions frame level code form
  keeps_here code indexes = record {
    indexes = indexes;
    dimensions = well_scoped_dimensions (variables_of compiled) n form
        (well_scoped_point (variables_of compiled) n has.f (is.runnable.well_scoped.functions n has.f has.is_function).body has.is_form.head (Begin form (at (regions (OfLevel frame level EndOf)) 0) has.is_form.next) has.is_form.begins);
    counted = has.is_form.counted;
    valued = has.is_form.valued;
    kept = has.is_form.kept;
  }

-- ---- the words say which forms have begun

module _ (f : Function) (numbered : IsNumbered 0 f.body) (w : ℕ) (words : LevelsWords) where
  same_form : (level : LevelWords) (form other : RoundsOf) → IsForm (points_in f) w level form → IsForm (points_in f) w level other → form ≡ other
  same_form level form other is are =
      let heads = (have_forms f numbered).heads in
      same_some form other
      (same_some (Some form) (Some other)
      (sym (heads is.head form (at level.end 0) is.next is.begins) ∙ heads are.head other (at level.end 0) are.next are.begins))

  same_forms : (forms others : Forms) → length forms ≡ length others → AreForms (points_in f) w words forms → AreForms (points_in f) w words others → forms ≡ others
  same_forms [] [] e are others_are = refl
  same_forms [] (other ∷ others) e are others_are = absurd (omega (arith, e))
  same_forms (form ∷ forms) [] e are others_are = absurd (omega (arith, e))
  same_forms (form ∷ forms) (other ∷ others) e are others_are =
      let long : length forms ≡ length others = omega (arith, e) in
      let same = same_form (words (suc (length forms))) form other are.0 (subst (λ n. IsForm (points_in f) w (words (suc n)) other) (sym long) others_are.0) in
      ap₂ (λ a b. a ∷ b) same (same_forms forms others long are.1 others_are.1)

-- so a frame that is shown has an innermost level
pub innermost_there : (p : Program) (variables : Variables) (w : ℕ) (regions : Regions) (i : ℕ) (frame : Frame) (levels : List Level) → IsNumberedProgram p
    → (s : ShowsFrame p variables w regions i frame levels) → (level : ℕ) × IsInnermost w regions i s.function level
innermost_there p variables w regions i frame levels numbered s =
    let f = s.function in
    let words = level_words regions i in
    let found = innermost w words (closing_number f) s.waits.forms in (
      length found.live,
      λ forms are counted.
          let long : length s.waits.forms ≡ length forms = same_word (regions (OfHead i OpenOf)) (length s.waits.forms) (length forms) s.waits.counted counted in
          subst (λ fs. (n : Innermost w words (closing_number f) fs) × (length n.live ≡ length found.live))
          (same_forms f (numbered frame.function f s.is_function) w words s.waits.forms forms long s.waits.are are) (found, refl),
    )

-- the least number of the innermost level is that of a step, or of the closing brace
pub least_within : (w : ℕ) (regions : Regions) (i : ℕ) (f : Function) (level : ℕ) (levels : List Level) → IsInnermost w regions i f level
    → ShowsLevels (points_in f) w (level_words regions i) (regions (OfHead i OpenOf)) (closing_number f) levels → least_in regions i f level ≤ closing_number f
least_within w regions i f zero levels inner shown = least_at_most (closing_number f) (regions (OfLevel i 0 NumbersOf))
least_within w regions i f (suc level) levels inner shown =
    let t = top_is w regions i f (suc level) levels shown inner in
    let form = top_form w regions i f level t.0 t.1 t.3 in
    let inside = is_inside (points_in f) (end_in regions i f (suc level)) (Turn form.is.body) form.is.turns in
    omega (arith, inside, length-points_of f.body (function_ways f), least_at_most (end_in regions i f (suc level)) (regions (OfLevel i (suc level) NumbersOf)))

-- a level that is the innermost one has the words that are read of it
pub level_read : {T : Type 0} (history : T → History) (width : ℕ) (compiled : CompiledProgram) (words : MachineWords T) (lie : AreFor history width compiled words) (frame : ℕ) (there : frame < 64)
    (f : Function) (level : ℕ) (levels : List Level) → IsInnermost width (regions_in history width words) frame f level
    → ShowsLevels (points_in f) width (level_words (regions_in history width words) frame) (regions_in history width words (OfHead frame OpenOf)) (closing_number f) levels
    → HasLevel width (regions_in history width words) frame level
level_read history width compiled words lie frame there f level levels inner shown =
    let regions = regions_in history width words in
    let t = top_is width regions frame f level levels shown inner in
    record {
      numbered = numbers_long width regions frame f level t.0 t.1 t.3;
      ended = by_level level inner;
    }
  where
    by_level : (l : ℕ) → IsInnermost width (regions_in history width words) frame f l → 0 < l → length (regions_in history width words (OfLevel frame l EndOf)) ≡ 1
    by_level zero inner some = absurd (omega (arith, some))
    by_level (suc l) inner some =
        let regions = regions_in history width words in
        let t = top_is width regions frame f (suc l) levels shown inner in
        end_there history width compiled words lie frame there (suc l) (top_form width regions frame f l t.0 t.1 t.3).is.counted
