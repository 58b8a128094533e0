use Rattle.std.proofs.Common.{◌<◌, subst, arith, length, Some}
use Rattle.codegen.specs.Codes.{IsRoundOf}
use Rattle.frame_steps.proofs.FunctionCode.{round_code, round_is, round_within}
use Rattle.frame_steps.proofs.compiled.CompiledProgram.round_form.Goals as goal

pub offset_bounds-steps-step : goal.offset_bounds-steps-step
offset_bounds-steps-step c =
    let (f, form, is) = c.requires.round in
    let within : c.args.step < length c.steps.result.now = round_within c.args.self.now c.args.function c.args.step f form is c.steps.result.now (c.steps.ensures.rounds f is.is_function) in
    omega (arith, within, c.steps.type_inv)

pub bounds-steps-step : goal.bounds-steps-step
bounds-steps-step c =
    let (f, form, is) = c.requires.round in
    round_within c.args.self.now c.args.function c.args.step f form is c.steps.result.now (c.steps.ensures.rounds f is.is_function)

pub unreachable-requires : goal.unreachable-requires
unreachable-requires c =
    let (f, form, is) = c.requires.round in
    let found = round_is form c.index-steps-step.result
    (round_code c.args.self.now c.args.function c.args.step f form is c.steps.result.now (c.steps.ensures.rounds f is.is_function) c.index-steps-step.result c.index-steps-step.is) in
    c.in_default.not-Round found.0 found.1 found.2

pub returns : goal.returns
returns c f form is =
    subst (λ code. IsRoundOf code (Some form)) c.in-Round.is
    (round_code c.args.self.now c.args.function c.args.step f form is c.steps.result.now (c.steps.ensures.rounds f is.is_function) c.index-steps-step.result c.index-steps-step.is)
