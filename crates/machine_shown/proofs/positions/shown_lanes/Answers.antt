use Rattle.std.proofs.Common.{◌≡◌, ◌∙◌, ℕ, true, ltb, sym, ap, subst, List, length, get_or, Some}
use Rattle.std.proofs.lemmas.Bool.{ltb-true}
use Rattle.std.proofs.lemmas.Option.{slice_get-get_or}
use Rattle.mask_states.specs.Points.{points_in}
use Rattle.machine_states.specs.Regions.{Regions}
use Rattle.codegen.specs.declared.code.StepCode.{StepCode}
use Rattle.codegen.specs.Codes.{DoAll}
use Rattle.machine_words.specs.Words.{regions_in}
use Rattle.frame_steps.specs.declared.active.Active.{Active}
use Rattle.frame_steps.specs.declared.compiled.CompiledProgram.{CompiledProgram}
use Rattle.frame_steps.specs.Standing.{DoesNext, IsNextOf}
use Rattle.frame_steps.proofs.NextCode.{does_next, is_closing}
use Rattle.machine_rounds.proofs.RoundSteps.{round_next}
use Rattle.machine_rounds.proofs.RoundWrites.{round_small}
use Rattle.machine_shown.proofs.StepPlaces.{lanes_at_brace, lanes_at_round, lanes_at_step, unturned}
use Rattle.machine_shown.proofs.positions.shown_lanes.Goals as goal

-- the next step does what the code at its number says
does_there : (w : ℕ) (compiled : CompiledProgram) (regions : Regions) (active : Active) (next : IsNextOf w compiled regions (Some active)) (steps : List StepCode) (code : StepCode)
    → DoAll steps (points_in next.0) → true ≡ ltb active.step (length steps) → code ≡ get_or steps active.step code → DoesNext w compiled regions active code
does_there w compiled regions active next steps code does within is =
    does_next w compiled regions active next steps does code (slice_get-get_or steps active.step code (ltb-true active.step (length steps) (sym within)) ∙ ap Some (sym is))

pub returns-in_default : goal.returns-in_default
returns-in_default g c masked shown =
    let regions = regions_in g.T.Timeline.history g.row.W c.args.words.now in
    let next = c.requires.next in
    let closing = is_closing g.row.W c.args.compiled.now regions c.args.active next c.steps.result.now (c.steps.ensures.does next.0 next.1.next.is_function) c.in_default.ensures.lookup.3 in
    lanes_at_brace g.row.W c.args.compiled.now regions c.args.active closing.0 masked shown.shows closing.1 c.call_lanes.result c.call_lanes.ensures

pub next_round-requires : goal.next_round-requires
next_round-requires g c =
    let sound = c.requires.sound in
    let regions = regions_in g.T.Timeline.history g.row.W c.args.words.now in
    let next = c.requires.next in
    let code = c.in-Some.code.now in
    let does = does_there g.row.W c.args.compiled.now regions c.args.active next c.steps.result.now code (c.steps.ensures.does next.0 next.1.next.is_function) c.in-Some.ensures.lookup.0 c.in-Some.ensures.lookup.1 in (
      round_small g.row.W sound.lie.gang,
      (
        sound,
        (
          c.in-Round.body,
          round_next g.row.W c.args.compiled.now regions c.args.active c.in-Round.body
              (c.in-Round.form, subst (λ step. DoesNext g.row.W c.args.compiled.now regions c.args.active step) c.in-Round.is does),
        ),
      ),
    )

pub returns-in-Round : goal.returns-in-Round
returns-in-Round g c masked shown =
    let sound = c.requires.sound in
    let regions = regions_in g.T.Timeline.history g.row.W c.args.words.now in
    let next = c.requires.next in
    let code = c.in-Some.code.now in
    let does = does_there g.row.W c.args.compiled.now regions c.args.active next c.steps.result.now code (c.steps.ensures.does next.0 next.1.next.is_function) c.in-Some.ensures.lookup.0 c.in-Some.ensures.lookup.1 in
    let turn = round_next g.row.W c.args.compiled.now regions c.args.active c.in-Round.body
    (c.in-Round.form, subst (λ step. DoesNext g.row.W c.args.compiled.now regions c.args.active step) c.in-Round.is does) in
    lanes_at_round g.row.W c.args.compiled.now regions c.args.active turn.0 masked shown.shows sound.lie.gang sound.lie.compiled_is shown.declared c.in-Round.body turn.1 c.next_round.result c.next_round.ensures

pub returns-in_default-code : goal.returns-in_default-code
returns-in_default-code g c masked shown =
    let regions = regions_in g.T.Timeline.history g.row.W c.args.words.now in
    let next = c.requires.next in
    let code = c.in-Some.code.now in
    let does = does_there g.row.W c.args.compiled.now regions c.args.active next c.steps.result.now code (c.steps.ensures.does next.0 next.1.next.is_function) c.in-Some.ensures.lookup.0 c.in-Some.ensures.lookup.1 in
    lanes_at_step g.row.W c.args.compiled.now regions c.args.active does.0 masked shown.shows does.1 does.3 (unturned code does.1 does.2 c.in_default-code.not-Round)
