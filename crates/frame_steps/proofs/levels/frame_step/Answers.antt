use Rattle.std.proofs.Common.{◌∙◌, ap, ap₂, arith}
use Rattle.gang_types.specs.MaskLaws.{gang_width-le}
use Rattle.mask_states.specs.Masked.{least, waiting_for}
use Rattle.frame_steps.proofs.RunningFrames.{running_function, running_level}
use Rattle.frame_steps.proofs.levels.frame_step.Goals as goal

pub lanes-numbers-requires : goal.lanes-numbers-requires
lanes-numbers-requires g c =
    let sound = c.requires.sound in
    let (f, is) = running_function g.T.Timeline.history g.row.W c.args.compiled.now c.args.words.now sound c.args.frame c.args.function c.requires.runs in
    let level = running_level g.T.Timeline.history g.row.W c.args.compiled.now c.args.words.now sound c.args.frame c.args.function c.requires.runs f is c.innermost-level.result (c.innermost-level.ensures f is) in
    (omega (arith, gang_width-le g.row.W sound.lie.gang), (sound.lie.gang, (sound.lie.laid, level.numbered)))

pub level_end-end-requires-clause-function : goal.level_end-end-requires-clause-function
level_end-end-requires-clause-function g c = running_function g.T.Timeline.history g.row.W c.args.compiled.now c.args.words.now c.requires.sound c.args.frame c.args.function c.requires.runs

pub level_end-end-requires-clause-level : goal.level_end-end-requires-clause-level
level_end-end-requires-clause-level g c =
    let (f, is) = running_function g.T.Timeline.history g.row.W c.args.compiled.now c.args.words.now c.requires.sound c.args.frame c.args.function c.requires.runs in
    running_level g.T.Timeline.history g.row.W c.args.compiled.now c.args.words.now c.requires.sound c.args.frame c.args.function c.requires.runs f is c.innermost-level.result (c.innermost-level.ensures f is)

pub returns : goal.returns
returns g c f is = record {
  innermost = c.innermost-level.ensures f is;
  least_number = c.least_waiting-step.ensures.number ∙ ap₂ (λ end ns. least end ns) (c.level_end-end.ensures f is) c.lanes-numbers.ensures;
  lanes = c.least_waiting-step.ensures.lanes ∙ ap (λ ns. waiting_for c.least_waiting-step.result.0 ns) c.lanes-numbers.ensures;
}
