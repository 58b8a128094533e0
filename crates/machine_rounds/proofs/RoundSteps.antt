-- The next round of a form: what is read of it, what may be written, and how the step ends.
use Rattle.std.proofs.Common.{ℕ, zero, suc, ◌+◌, ◌*◌, ◌≤◌, false, cond, ◌≡◌, refl, sym, ◌∙◌, ap, ap₂, subst, arith, List, [], ◌∷◌, length, map, Some, None}
use Rattle.std.specs.Prelude.{All, Ok}
use Rattle.std.proofs.lemmas.List.{length-map}
use Rattle.gang_types.specs.Lanes.{Lanes, no_lane}
use Rattle.gang_types.specs.Masks.{IsGangWidth, lanes_of}
use Rattle.gang_model.specs.Types.Tree.{StepNumber, Var as ModelVar, RoundsOf, Rows, Tiles, EachLane, EachValue, Function}
use Rattle.gang_model.proofs.StandingLaws.{Each}
use Rattle.undo_log.specs.History.{History}
use Rattle.undo_log.specs.declared.timeline.Undone.TheVariants as undone
use Rattle.typed_tree.specs.declared.expressions.Var.{Var}
use Rattle.typed_tree.specs.Views.{var_view}
use Rattle.mask_states.specs.Points.{Point, Turn, points_in}
use Rattle.mask_states.specs.Masked.{Masked}
use Rattle.foreach_lowering.specs.declared.rounds.Round.{Round}
use Rattle.foreach_lowering.specs.declared.rounds.RoundsLeft.{RoundsLeft}
use Rattle.foreach_lowering.specs.Law.{HasDimensions}
use Rattle.foreach_lowering.specs.RoundViews.{IsNextRound}
use Rattle.foreach_lowering.proofs.HeadForms.{have_forms}
use Rattle.machine_states.specs.Effects.{all_declared_in, declared_in, declared_region, region_of, round_in, sent_on}
use Rattle.machine_states.specs.Levels.{IsForm}
use Rattle.machine_states.specs.WellScoped.{FormWellScoped}
use Rattle.machine_states.specs.Regions.{CountersOf, OfLevel, Region, Regions, same_region, with_region}
use Rattle.machine_states.specs.Rounds.{counters_behind, indices_of, round_indices}
use Rattle.machine_states.specs.Shows.{level_words}
use Rattle.machine_states.specs.Steps.{GoesTo}
use Rattle.machine_states.proofs.AllDeclared.{own_long}
use Rattle.machine_states.proofs.DeclaredLists.{same_some}
use Rattle.machine_states.proofs.NextRounds.{IsOwnOne, form_well_scoped, indices_own, level_of_form, next_round_goes, one_is_left, well_scoped_dimensions, round_lane}
use Rattle.codegen.specs.Codes.{Does, IndexesOf}
use Rattle.codegen.specs.declared.code.IndexCode.{IndexCode}
use Rattle.codegen.specs.declared.code.IndexCode.TheVariants as index
use Rattle.codegen.specs.declared.code.StepCode.TheVariants as code
use Rattle.machine_words.specs.declared.words.MachineWords.{MachineWords}
use Rattle.machine_words.specs.Words.{AreLaid, Writes, left_of, regions_in}
use Rattle.frame_steps.specs.declared.active.Active.{Active}
use Rattle.frame_steps.specs.declared.compiled.CompiledProgram.{CompiledProgram}
use Rattle.frame_steps.specs.Compiled.{IsRounds, program_of, variables_of}
use Rattle.frame_steps.specs.Rounds.{AreRoundsOf, KeepsRounds}
use Rattle.frame_steps.specs.Standing.{AreSound, Begins, DoesNext, EndsAs, IsActive, IsShown, event_room}
use Rattle.frame_steps.proofs.FrameLevels.{keeps_here}
use Rattle.frame_steps.proofs.GangLanes.{gang_some}
use Rattle.frame_steps.specs.Written.{MaySend}
use Rattle.frame_steps.proofs.SentSteps.{Sends, sent_same}
use Rattle.frame_steps.proofs.Standings.{IsUnderWay, active_numbers, begun, ends_well, frame_below, may_write, set_more, sized, step_within, wrote}
use Rattle.machine_rounds.specs.Taking.{DeclaresAll, IsRoundAt, IsRoundNext, index_views}

-- ---- code

-- the code of rounds is that of a step of rounds
round_point : (width : ℕ) (compiled : CompiledProgram) (regions : Regions) (active : Active) (form : IndexCode) (body : ℕ) (f : Function) (point : Point) → Does (code.Round form body) point
    → IsActive width compiled regions active f (Some point) → IsRoundNext width compiled regions active body
round_point width compiled regions active form body f (Turn begin) does is = (f, subst (λ b. IsActive width compiled regions active f (Some (Turn b))) does is)
round_point width compiled regions active form body f point does is = absurd does

pub round_next : (width : ℕ) (compiled : CompiledProgram) (regions : Regions) (active : Active) (body : ℕ) → (form : IndexCode) × DoesNext width compiled regions active (code.Round form body)
    → IsRoundNext width compiled regions active body
round_next width compiled regions active body does = round_point width compiled regions active does.0 body does.1.0 does.1.1 does.1.2 does.1.3

-- index variables of the code are those of the form
indices_are : (code : IndexCode) (form : RoundsOf) → IndexesOf code form → index_views code ≡ indices_of form
indices_are (index.Domain order indices) (Rows ds) is = is.1
indices_are (index.Domain order indices) (Tiles ds) is = is.1
indices_are (index.Domain order indices) (EachLane x) is = absurd is
indices_are (index.Domain order indices) (EachValue x e) is = absurd is
indices_are (index.EachLane i) (EachLane x) is = ap (λ v. v ∷ []) (sym is)
indices_are (index.EachLane i) (Rows ds) is = absurd is
indices_are (index.EachLane i) (Tiles ds) is = absurd is
indices_are (index.EachLane i) (EachValue x e) is = absurd is
indices_are (index.EachValue i) (EachValue x e) is = ap (λ v. v ∷ []) (sym is)
indices_are (index.EachValue i) (Rows ds) is = absurd is
indices_are (index.EachValue i) (Tiles ds) is = absurd is
indices_are (index.EachValue i) (EachLane x) is = absurd is

few_indices : (form : RoundsOf) → HasDimensions form → length (indices_of form) ≤ 3
few_indices (Rows ds) dimensions = omega (arith, length-map ds (λ d. d.index), dimensions.1)
few_indices (Tiles ds) dimensions = omega (arith, length-map ds (λ d. d.index), dimensions.1)
few_indices (EachLane x) dimensions = omega arith
few_indices (EachValue x e) dimensions = omega arith

-- what holds of each view of variables holds of each variable
all_views : (P : ModelVar → Type 0) (variables : List Var) → Each P (map var_view variables) → All (λ x. P (var_view x)) variables
all_views P [] each k d within = absurd (omega (arith, within))
all_views P (x ∷ variables) each zero d within = each.0
all_views P (x ∷ variables) each (suc k) d within = all_views P variables each.1 k d (omega (arith, within))

each_long : (P Q : ModelVar → Type 0) → ((x : ModelVar) → P x → Q x) → (xs : List ModelVar) → Each P xs → Each Q xs
each_long P Q h [] each = tt
each_long P Q h (x ∷ xs) each = (h x each.0, each_long P Q h xs each.1)

-- variables that are declared in regions that are the same
declared_alike : (frame : ℕ) (lanes : Lanes) (given : List (ModelVar × List ℕ)) (old new : Regions) → ((r : Region) → new r ≡ old r) → (r : Region)
    → all_declared_in frame lanes given new r ≡ all_declared_in frame lanes given old r
declared_alike frame lanes [] old new same r = same r
declared_alike frame lanes (x ∷ given) old new same r =
    declared_alike frame lanes given (declared_in frame x.0.id x.0.rate lanes x.1 old) (declared_in frame x.0.id x.0.rate lanes x.1 new)
    (λ s. ap₂ (λ ws others. cond (same_region (region_of frame x.0.id) s) ws others) (ap (declared_region x.0.rate lanes x.1) (same (region_of frame x.0.id))) (same s)) r

-- ---- the next round

module _ {T : Type 0} (history : T → History) (width : ℕ) (compiled : CompiledProgram) (old : MachineWords T) (sound : AreSound history width compiled old) (active : Active) (body : StepNumber)
    (turn : IsRoundNext width compiled (regions_in history width old) active body) where
  abbrev regions : Regions
  regions = regions_in history width old

  abbrev f : Function
  f = turn.0

  -- the step is the rounds of a form
  pub rounds_at : (form : RoundsOf) × IsRounds compiled active.function active.step f form
  rounds_at =
      let told = (have_forms f (sound.lie.compiled_is.runnable.lowerable.numbered active.function f turn.1.next.is_function)).turns active.step body turn.1.next.is_point in
      (told.0, record { is_function = turn.1.next.is_function; is_form = told.1 })

  module _ (form : RoundsOf) (are : IsRounds compiled active.function active.step (turn.0) form) where
    -- which has begun in the level of the step
    pub form_at : IsForm (points_in (turn.0)) width (level_words (regions_in history width old) active.frame active.level) form
    form_at =
        level_of_form (variables_of compiled) sound.lie.compiled_is.runnable.most (program_of compiled) sound.lie.compiled_is.runnable.well_scoped sound.lie.compiled_is.runnable.lowerable.numbered
        width regions sound.masked sound.shown.shows sound.shown.declared active.frame active.function f active.step body form are.is_form active.level turn.1.next

    pub well_scoped_at : FormWellScoped (variables_of compiled) active.function form
    well_scoped_at =
        form_well_scoped (variables_of compiled) sound.lie.compiled_is.runnable.most (program_of compiled) sound.lie.compiled_is.runnable.well_scoped sound.lie.compiled_is.runnable.lowerable.numbered
        width regions sound.masked sound.shown.shows sound.shown.declared active.frame active.function f active.step body form are.is_form active.level turn.1.next

    pub keeps_at : (code : IndexCode) → IndexesOf code form → KeepsRounds width (regions_in history width old) active.frame active.level code form
    keeps_at code indexes =
        keeps_here width compiled sound.lie.compiled_is regions active.frame active.level active.function form (record { f = f; is_function = are.is_function; is_form = form_at }) code indexes

  -- one is left
  pub one_at : (form : RoundsOf) → IsRounds compiled active.function active.step (turn.0) form → (left : RoundsLeft width) → AreRoundsOf width (regions_in history width old) active.frame active.level form left
      → IsNextRound width left None → ⊥
  one_at form are left kept none =
      one_is_left (variables_of compiled) sound.lie.compiled_is.runnable.most (program_of compiled) sound.lie.compiled_is.runnable.well_scoped sound.lie.compiled_is.runnable.lowerable.numbered
      width regions sound.masked sound.shown.shows sound.shown.declared active.frame active.function f active.step body form are.is_form
      (gang_some width sound.lie.gang) left kept.of_form kept.are_left active.level turn.1.next kept.kept none

  -- ---- the step

  module _ (round : Round width) (round_is : IsRoundAt width compiled (regions_in history width old) active round) where
    abbrev form : RoundsOf
    form = round_is.form

    are_here : IsRounds compiled active.function active.step f form
    are_here =
        let same : round_is.f ≡ f = same_some round_is.f f (sym round_is.are_rounds.is_function ∙ turn.1.next.is_function) in
        subst (λ g. IsRounds compiled active.function active.step g form) same round_is.are_rounds

    abbrev lanes : Lanes
    lanes = lanes_of width round.lanes

    pub lane_here : no_lane (lanes_of width round.lanes) ≡ false
    lane_here =
        round_lane (variables_of compiled) sound.lie.compiled_is.runnable.most (program_of compiled) sound.lie.compiled_is.runnable.well_scoped sound.lie.compiled_is.runnable.lowerable.numbered
        width regions sound.masked sound.shown.shows sound.shown.declared active.frame active.function f active.step body form are_here.is_form
        (gang_some width sound.lie.gang) round_is.left round_is.are_left.of_form round_is.are_left.are_left round round_is.is_next

    abbrev counters_of : Region
    counters_of = OfLevel active.frame active.level CountersOf

    room : 4 * width + 3 ≤ event_room history old
    room = step_within history width compiled old sound.lie active f (Turn body) turn.1

    goes : (masked : Masked) → IsShown history width compiled old masked → GoesTo (program_of compiled) (variables_of compiled) width masked
        (round_in active.frame active.level lanes body (counters_behind width round.left (regions counters_of)) (round_indices width (indices_of form) round.indices) regions)
    goes masked shown =
        next_round_goes (variables_of compiled) sound.lie.compiled_is.runnable.most (program_of compiled) sound.lie.compiled_is.runnable.well_scoped sound.lie.compiled_is.runnable.lowerable.numbered
        width regions masked shown.shows shown.declared active.frame active.function f active.step body form are_here.is_form
        (gang_some width sound.lie.gang) round_is.left round_is.are_left.of_form round_is.are_left.are_left round round_is.is_next active.level turn.1.next round_is.are_left.kept
        (sized history width compiled old old sound.lie refl sound.lie.laid)

    module _ (left : T → ℕ) (opened : MachineWords T) (begins : Begins history left width undone.Step old opened) where
      is_opened : IsUnderWay history left width undone.Step regions 0 old opened
      is_opened = begun history left width compiled undone.Step old opened sound.lie begins

      -- what is left may be counted
      pub may_count : IsGangWidth width × (AreLaid history width opened × ((length (regions_in history width opened (OfLevel active.frame active.level CountersOf)) ≡ 9) × (3 ≤ left_of history left opened)))
      may_count = (
        sound.lie.gang,
        (
          is_opened.laid,
          (ap length (is_opened.regions_are counters_of) ∙ (form_at form are_here).counted, may_write history left width undone.Step regions 0 old opened is_opened 3 (omega (arith, room))),
        ),
      )

      module _ (counted : MachineWords T)
          (made : Writes history left width (OfLevel active.frame active.level CountersOf) (counters_behind width round.left (regions_in history width opened (OfLevel active.frame active.level CountersOf))) 3 opened counted) where
        abbrev counting : Regions
        counting = with_region counters_of (counters_behind width round.left (regions counters_of)) regions

        is_counted : IsUnderWay history left width undone.Step counting (0 + 3) old counted
        is_counted = wrote history left width undone.Step regions 0 old opened is_opened counted counters_of (counters_behind width round.left) 3 made

        -- its lanes may be sent on
        pub may_send_round : MaySend history left width active.frame active.level round.lanes counted
        may_send_round = record {
          gang = sound.lie.gang;
          laid = is_counted.laid;
          numbered = active_numbers history width compiled old sound active f (Some (Turn body)) turn.1 counted is_counted.layout is_counted.laid;
          some = lane_here;
          room = may_write history left width undone.Step counting (0 + 3) old counted is_counted width (omega (arith, room));
        }

        module _ (gone : MachineWords T) (sends : Sends history left width active.frame active.level round.lanes (λ k. body) counted gone) where
          abbrev sending : Regions
          sending = sent_on active.frame active.level lanes (λ k. body) counting

          is_gone : IsUnderWay history left width undone.Step sending (0 + 3 + width) old gone
          is_gone =
              set_more history left width undone.Step counting (0 + 3) old counted is_counted gone (sent_on active.frame active.level lanes (λ k. body) (regions_in history width counted)) sending
              (sent_same active.frame active.level lanes (λ k. body) (regions_in history width counted) counting is_counted.regions_are) width sends

          module _ (code : IndexCode) (indexes : (g : Function) (of : RoundsOf) → IsRounds compiled active.function active.step g of → IndexesOf code of) (variables : List Var) (views : map var_view variables ≡ index_views code) where
            views_are : map var_view variables ≡ indices_of form
            views_are = views ∙ indices_are code form (indexes f form are_here)

            few : length variables ≤ 3
            few =
                let dimensions = well_scoped_dimensions (variables_of compiled) active.function form (well_scoped_at form are_here) in
                omega (arith, sym (length-map variables var_view) ∙ ap length views_are, few_indices form dimensions)

            place_long : (x : ModelVar) → IsOwnOne (variables_of compiled) active.function x → length (regions_in history width gone (region_of active.frame x.id)) ≡ width
            place_long x own =
                own_long (variables_of compiled) width active.frame active.function (frame_below history width compiled old sound active f (Some (Turn body)) turn.1) own.0 x own.1
                (regions_in history width gone) (sized history width compiled old gone sound.lie is_gone.layout is_gone.laid)

            places : All (λ x. length (regions_in history width gone (region_of active.frame x.id)) ≡ width) variables
            places =
                all_views (λ x. length (regions_in history width gone (region_of active.frame x.id)) ≡ width) variables
                (subst (Each (λ x. length (regions_in history width gone (region_of active.frame x.id)) ≡ width)) (sym views_are)
                (each_long (IsOwnOne (variables_of compiled) active.function) (λ x. length (regions_in history width gone (region_of active.frame x.id)) ≡ width) place_long (indices_of form)
                (indices_own (variables_of compiled) active.function form (well_scoped_at form are_here))))

            -- its index variables may be declared
            pub may_declare_all : IsGangWidth width × (AreLaid history width gone × ((length variables ≤ 3) × (All (λ x. length (regions_in history width gone (region_of active.frame x.id)) ≡ width) variables
                × ((no_lane (lanes_of width round.lanes) ≡ false) × (3 * width ≤ left_of history left gone)))))
            may_declare_all = (
              sound.lie.gang,
              (
                is_gone.laid,
                (few, (places, (lane_here, may_write history left width undone.Step sending (0 + 3 + width) old gone is_gone (3 * width) (omega (arith, room))))),
              ),
            )

            -- the step has ended
            pub round_ends : (new : MachineWords T) → DeclaresAll history left width active.frame (lanes_of width round.lanes) (round_indices width (map var_view variables) round.indices) (3 * width) gone new
                → (masked : Masked) → IsShown history width compiled old masked → EndsAs history width compiled masked old (Ok tt) new
            round_ends new declared masked shown =
                ends_well history left width compiled masked
                (round_in active.frame active.level lanes body (counters_behind width round.left (regions counters_of)) (round_indices width (indices_of form) round.indices) regions) (0 + 3 + width + 3 * width) old new
                (record {
                  regions_are = λ r. declared.regions r
                      ∙ declared_alike active.frame lanes (round_indices width (map var_view variables) round.indices) sending (regions_in history width gone) is_gone.regions_are r
                      ∙ ap (λ vs. all_declared_in active.frame lanes (round_indices width vs round.indices) sending r) views_are;
                  layout = declared.layout ∙ is_gone.layout;
                  laid = declared.laid;
                  recorded = declared.rest ∙ is_gone.recorded;
                  left_is = omega (arith, declared.few, is_gone.left_is);
                })
                (goes masked shown)
