use Rattle.std.proofs.Common.{◌≤◌, refl, sym, ◌∙◌, ap, subst, arith, length, Some}
use Rattle.std.proofs.lemmas.Bool.{ltb-true}
use Rattle.std.proofs.lemmas.Option.{slice_get-get_or}
use Rattle.gang_types.specs.MaskLaws.{gang_width-le}
use Rattle.machine_states.proofs.Endings.{over}
use Rattle.machine_words.specs.Words.{regions_in}
use Rattle.frame_steps.specs.Compiled.{program_of, variables_of}
use Rattle.frame_steps.specs.Standing.{AreSound}
use Rattle.frame_steps.proofs.NextCode.{does_next, is_closing}
use Rattle.machine_steps.proofs.StepEnds.{sound_behind, step_done}
use Rattle.machine_steps.proofs.stepping.step.Goals as goal

pub returns-in_default : goal.returns-in_default
returns-in_default g c =
    let compiled = c.args.compiled.now in
    let regions = regions_in g.T.Timeline.history g.row.W c.args.words.now in
    record {
      steps = λ masked shown. (over (program_of compiled) (variables_of compiled) g.row.W regions masked shown.shows c.in_default.ensures, refl);
      sound = c.requires.sound;
    }

pub leave-requires-clause-closing : goal.leave-requires-clause-closing
leave-requires-clause-closing g c =
    let regions = regions_in g.T.Timeline.history g.row.W c.args.words.now in
    let next = c.in-Some.ensures in
    let past : length c.steps.result.now ≤ c.in-Some.active.step = c.in_default-get.ensures.lookup.3 in
    is_closing g.row.W c.args.compiled.now regions c.in-Some.active next c.steps.result.now (c.steps.ensures.does next.0 next.1.next.is_function) past

pub returns-in_default-get-clause-steps : goal.returns-in_default-get-clause-steps
returns-in_default-get-clause-steps g c = step_done g.T.Timeline.history g.row.W c.args.compiled.now c.args.words.now c.leave.new.words c.requires.sound c.leave.ensures

pub returns-in_default-get-clause-sound : goal.returns-in_default-get-clause-sound
returns-in_default-get-clause-sound g c = sound_behind g.T.Timeline.history g.row.W c.args.compiled.now c.args.words.now c.leave.new.words c.requires.sound c.leave.ensures

pub perform-requires : goal.perform-requires
perform-requires g c =
    let regions = regions_in g.T.Timeline.history g.row.W c.args.words.now in
    let next = c.in-Some.ensures in
    let small = gang_width-le g.row.W c.requires.sound.lie.gang in
    let steps = c.steps.result.now in
    let step = c.in-Some.active.step in
    let code = c.in-Some-get.code.now in
    let look = c.in-Some-get.ensures.lookup in
    let found = slice_get-get_or steps step code (ltb-true step (length steps) (sym look.0)) ∙ ap Some (sym look.1) in (
      omega (arith, small),
      (
        c.requires.sound,
        does_next g.row.W c.args.compiled.now regions c.in-Some.active next steps (c.steps.ensures.does next.0 next.1.next.is_function) code found,
      ),
    )

pub returns-in-Ok-clause-steps : goal.returns-in-Ok-clause-steps
returns-in-Ok-clause-steps g c = step_done g.T.Timeline.history g.row.W c.args.compiled.now c.args.words.now c.perform.new.words c.requires.sound c.in-Ok.ensures

pub returns-in-Ok-clause-sound : goal.returns-in-Ok-clause-sound
returns-in-Ok-clause-sound g c = sound_behind g.T.Timeline.history g.row.W c.args.compiled.now c.args.words.now c.perform.new.words c.requires.sound c.in-Ok.ensures

pub returns-in-Err-clause-sound : goal.returns-in-Err-clause-sound
returns-in-Err-clause-sound g c =
    let sound = c.requires.sound in
    let same = (c.in-Err.ensures sound.masked sound.shown).1 in
    subst (λ words. AreSound g.T.Timeline.history g.row.W c.args.compiled.now words) (sym same) sound
