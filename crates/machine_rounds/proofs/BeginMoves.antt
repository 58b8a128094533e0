-- The head of a foreach form: what is asked of its parts, and what it leaves.
use Rattle.std.proofs.Common.{ℕ, zero, suc, inl, inr, lit<, ◌+◌, ◌*◌, ◌<◌, ◌≤◌, false, ◌≡◌, refl, sym, ◌∙◌, ap, subst, arith, [], length, Some}
use prog.Memory.{up}
use Rattle.std.specs.Prelude.{Result, Ok, Err, drop, replicate}
use Rattle.gang_types.specs.Lanes.{no_lane}
use Rattle.gang_types.specs.Masks.{IsGangWidth, lanes_of}
use Rattle.gang_model.specs.Types.Tree.{RoundsOf}
use Rattle.gang_model.specs.Running.RunningOrder.{IsNumbered}
use Rattle.undo_log.specs.History.{History}
use Rattle.undo_log.specs.declared.timeline.Undone.TheVariants as undone
use Rattle.debug_traits.specs.declared.machine.Fault.{Fault}
use Rattle.debug_traits.specs.Machines.{fault_view}
use Rattle.mask_states.specs.Points.{Point, Begin}
use Rattle.mask_states.specs.Masked.{Masked}
use Rattle.foreach_lowering.specs.Forms.{most_nested}
use Rattle.foreach_lowering.specs.Law.{first_kept}
use Rattle.foreach_lowering.proofs.Counted.{counts_rounds}
use Rattle.machine_states.specs.Effects.{begun_in, sent_on}
use Rattle.machine_states.specs.Levels.{LevelWords, kept_in}
use Rattle.machine_states.specs.Nesting.{most_levels}
use Rattle.machine_states.specs.Regions.{Regions}
use Rattle.machine_states.specs.Steps.{GoesTo, waiting_in}
use Rattle.machine_states.proofs.BeginSteps.{begin_fails, begun_words, form_begins}
use Rattle.machine_states.proofs.Cells.{greatest_enough}
use Rattle.machine_states.proofs.NextRounds.{well_scoped_dimensions}
use Rattle.machine_states.proofs.TopFrame.{form_level_there}
use Rattle.codegen.specs.declared.code.FormCode.{FormCode}
use Rattle.codegen.specs.declared.code.StepCode.TheVariants as code
use Rattle.machine_words.specs.declared.words.MachineWords.{MachineWords}
use Rattle.machine_words.specs.Ranges.{level_sizes, levels_of}
use Rattle.machine_words.specs.Words.{AreLaid, left_of, regions_in}
use Rattle.frame_steps.specs.declared.active.Active.{Active}
use Rattle.frame_steps.specs.declared.compiled.CompiledProgram.{CompiledProgram}
use Rattle.frame_steps.specs.Compiled.{program_of, variables_of}
use Rattle.frame_steps.specs.Standing.{AreSound, Begins, DoesNext, EndsAs, IsShown}
use Rattle.frame_steps.proofs.SentSteps.{ends_with_fault}
use Rattle.frame_steps.proofs.Standings.{IsUnderWay, begun, begun_laid, begun_regions, ends_well, frame_below, may_write, some_active, step_within}
use Rattle.frame_steps.proofs.StepValues.{active_well_scoped}
use Rattle.frame_steps.specs.Written.{Sets}
use Rattle.machine_rounds.specs.Beginning.{BeginsForm, opened_in}
use Rattle.machine_rounds.specs.declared.beginning.FirstWords.{FirstWords}
use Rattle.machine_rounds.proofs.BeginBounds.{kept_alike}
use Rattle.machine_rounds.proofs.BeginValues.{HeadAt, begins_form, head_of}

-- ---- how many levels there are

levels_same : (width a b : ℕ) → level_sizes width a ≡ level_sizes width b → a ≡ b
levels_same width zero zero e = refl
levels_same width zero (suc b) e = absurd (omega (arith, ap length e))
levels_same width (suc a) zero e = absurd (omega (arith, ap length e))
levels_same width (suc a) (suc b) e = ap suc (levels_same width a b (ap (drop 4) e))

-- what a form keeps first fits in memory
abbrev pub first_bytes : ℕ → ℕ
first_bytes w = up 8 (72 + w * 8)

pub first_small : (w : ℕ) → IsGangWidth w → first_bytes w < 9223372036854775808
first_small w (inl e) = subst (λ n. first_bytes n < 9223372036854775808) (sym e) (lit< tt)
first_small w (inr (inl e)) = subst (λ n. first_bytes n < 9223372036854775808) (sym e) (lit< tt)
first_small w (inr (inr e)) = subst (λ n. first_bytes n < 9223372036854775808) (sym e) (lit< tt)

-- some lane begins a form
pub some_lane_of : {T : Type 0} (history : T → History) (w : ℕ) (compiled : CompiledProgram) (old : MachineWords T) (sound : AreSound history w compiled old) (active : Active) (of_code : FormCode) (form : RoundsOf)
    → BeginsForm w compiled (regions_in history w old) active of_code form → no_lane (lanes_of w active.lanes) ≡ false
some_lane_of history w compiled old sound active of_code form begun = some_active history w compiled old sound active begun.f (Begin form begun.rounds begun.next) begun.is_active tt

module _ {T : Type 0} (history : T → History) (left : T → ℕ) (w : ℕ) (compiled : CompiledProgram) (old : MachineWords T) (sound : AreSound history w compiled old) (active : Active)
    (of_code : FormCode) (rounds next : ℕ) (does : DoesNext w compiled (regions_in history w old) active (code.Begin of_code rounds next)) where
  abbrev regions : Regions
  regions = regions_in history w old

  here : HeadAt w compiled (regions_in history w old) active of_code rounds next
  here = head_of w compiled regions active of_code rounds next does

  abbrev point : Point
  point = Begin here.form rounds next

  numbered : IsNumbered 0 here.f.body
  numbered = sound.lie.compiled_is.runnable.lowerable.numbered active.function here.f here.is_active.next.is_function

  -- the form that begins
  pub form : RoundsOf
  form = here.form

  pub begins_here : BeginsForm w compiled (regions_in history w old) active of_code form
  unfolding form here
  begins_here = begins_form w compiled regions active of_code rounds next here

  -- the layout has the level above
  level_there : active.level < levels_of old.layout
  level_there =
      let layout = levels_same w (levels_of old.layout) (most_levels (program_of compiled)) (ap (drop 6) (sym sound.lie.laid.planned.head ∙ sound.lie.layout.head)) in
      let nested = form_level_there (program_of compiled) (variables_of compiled) w regions sound.masked sound.shown.shows active.frame active.level active.function here.f active.step
      numbered here.form rounds next here.is_active.next sound.shown.declared in
      let most = greatest_enough most_nested (program_of compiled).functions active.function here.f here.is_active.next.is_function in
      omega (arith, layout, nested, most)

  -- what is asked where a level is opened
  module _ (mid : MachineWords T) (opens : Begins history left w undone.Step old mid) where
    pub may_open : IsGangWidth w × (AreLaid history w mid × ((active.frame < 64) × ((active.level < levels_of mid.layout) × ((no_lane (lanes_of w active.lanes) ≡ false) × (3 * w + 11 ≤ left_of history left mid)))))
    may_open = (
      sound.lie.gang,
      (
        begun_laid history left w compiled undone.Step old mid sound.lie opens,
        (
          frame_below history w compiled old sound active here.f (Some point) here.is_active,
          (
            subst (λ l. active.level < levels_of l) (sym opens.layout) level_there,
            (
              some_lane_of history w compiled old sound active of_code form begins_here,
              may_write history left w undone.Step regions 0 old mid (begun history left w compiled undone.Step old mid sound.lie opens) (3 * w + 11)
                  (omega (arith, step_within history w compiled old sound.lie active here.f point here.is_active)),
            ),
          ),
        ),
      ),
    )

    -- what is left then
    module _ (first : FirstWords w) (new : MachineWords T) (sets : Sets history left w (opened_in w active rounds next first (regions_in history w mid)) (3 * w + 11) mid new) where
      under_way : IsUnderWay history left w undone.Step (opened_in w active rounds next first regions) (3 * w + 11) old new
      under_way = record {
        regions_are = λ r. sets.regions_are r ∙ ap (λ rs. opened_in w active rounds next first rs r) (begun_regions history left w compiled undone.Step old mid sound.lie opens);
        layout = sets.layout ∙ opens.layout;
        laid = sets.laid;
        recorded = sets.rest ∙ opens.recorded;
        left_is = omega (arith, sets.few, opens.left_is);
      }

      pub form_opened : length first.counters ≡ 9 → length first.values ≡ w → (masked : Masked) → IsShown history w compiled old masked
          → first_kept form (lanes_of w active.lanes) masked.state ≡ Ok (kept_in w form (record { end = []; numbers = []; counters = first.counters; values = first.values }))
          → EndsAs history w compiled masked old (Ok tt) new
      unfolding form here
      form_opened counted valued masked shown is =
          let kept : LevelWords = record { end = []; numbers = []; counters = first.counters; values = first.values } in
          let same : first_kept form (waiting_in regions active.frame active.level active.step) masked.state ≡ Ok (kept_in w form (begun_words w rounds first.counters first.values)) =
          ap (λ lanes. first_kept form lanes masked.state) (sym here.is_active.lanes) ∙ is ∙ ap Ok (kept_alike w form kept (begun_words w rounds first.counters first.values) refl refl) in
          let goes : GoesTo (program_of compiled) (variables_of compiled) w masked
          (begun_in active.frame active.level rounds (replicate w rounds) first.counters first.values (sent_on active.frame active.level (waiting_in regions active.frame active.level active.step) (λ k. next) regions)) =
          form_begins (program_of compiled) (variables_of compiled) w regions masked shown.shows active.frame active.level active.function here.f active.step form rounds next here.is_active.next
          (counts_rounds w sound.lie.gang) (well_scoped_dimensions (variables_of compiled) active.function form (active_well_scoped w compiled sound.lie.compiled_is regions active here.f point here.is_active))
          numbered first.counters first.values counted valued same in
          ends_well history left w compiled masked (opened_in w active rounds next first regions) (3 * w + 11) old new under_way
          (subst (λ lanes. GoesTo (program_of compiled) (variables_of compiled) w masked
          (begun_in active.frame active.level rounds (replicate w rounds) first.counters first.values (sent_on active.frame active.level lanes (λ k. next) regions))) (sym here.is_active.lanes) goes)

  -- a fault of what the head computes is the step's
  pub head_faults : (result : Result (Unit {0}) Fault) (fault : Fault) → result ≡ Err fault → (masked : Masked) → IsShown history w compiled old masked
      → first_kept form (lanes_of w active.lanes) masked.state ≡ Err (fault_view fault) → EndsAs history w compiled masked old result old
  unfolding form here
  head_faults result fault is masked shown fails =
      ends_with_fault history w compiled masked old result fault is
      (begin_fails (program_of compiled) (variables_of compiled) w regions masked shown.shows active.frame active.level active.function here.f active.step form rounds next here.is_active.next
      (counts_rounds w sound.lie.gang) (well_scoped_dimensions (variables_of compiled) active.function form (active_well_scoped w compiled sound.lie.compiled_is regions active here.f point here.is_active))
      (fault_view fault) (ap (λ lanes. first_kept form lanes masked.state) (sym here.is_active.lanes) ∙ fails))
