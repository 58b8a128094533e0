use Rattle.std.proofs.Common.{◌∙◌, ap}
use Rattle.std.specs.Prelude.{Err}
use Rattle.std.proofs.lemmas.Result.{err_from_is_err_and}
use Rattle.gang_types.specs.Masks.{lanes_of}
use Rattle.debug_traits.specs.Machines.{fault_view}
use Rattle.frame_steps.proofs.GangLanes.{stacks_small}
use Rattle.machine_rounds.proofs.BeginValues.{answers_fault, first_faults, second_faults, third_faults, words_are}
use Rattle.machine_rounds.proofs.beginning.all_bounds.Goals as goal

pub bounds_at-requires : goal.bounds_at-requires
bounds_at-requires g c = (stacks_small g.row.W c.requires.sound.lie.gang, (c.requires.sound, (c.requires.lane, c.requires.are)))

pub returns-in_err-first : goal.returns-in_err-first
returns-in_err-first g c = λ masked ds shown are.
    let p = err_from_is_err_and c.from_residual.result c.from_residual.ensures.1 in
    let fault = c.in_err-first.field-0.0 in
    answers_fault c.from_residual.result fault _ (p.1 ∙ ap Err p.2)
    (first_faults ds (lanes_of g.row.W c.args.active.lanes) masked.state (fault_view fault) (c.in_err-first.ensures masked ds shown are))

pub bounds_at-requires-2 : goal.bounds_at-requires-2
bounds_at-requires-2 g c = (stacks_small g.row.W c.requires.sound.lie.gang, (c.requires.sound, (c.requires.lane, c.requires.are)))

pub returns-in_err-second : goal.returns-in_err-second
returns-in_err-second g c = λ masked ds shown are.
    let p = err_from_is_err_and c.from_residual-in_err-second.result c.from_residual-in_err-second.ensures.1 in
    let fault = c.in_err-second.field-0.0 in
    answers_fault c.from_residual-in_err-second.result fault _ (p.1 ∙ ap Err p.2)
    (second_faults ds (lanes_of g.row.W c.args.active.lanes) masked.state c.in_ok-first.first (c.in_ok-first.ensures masked ds shown are) (fault_view fault) (c.in_err-second.ensures masked ds shown are))

pub bounds_at-requires-3 : goal.bounds_at-requires-3
bounds_at-requires-3 g c = (stacks_small g.row.W c.requires.sound.lie.gang, (c.requires.sound, (c.requires.lane, c.requires.are)))

pub returns-in_err-third : goal.returns-in_err-third
returns-in_err-third g c = λ masked ds shown are.
    let p = err_from_is_err_and c.from_residual-in_err-third.result c.from_residual-in_err-third.ensures.1 in
    let fault = c.in_err-third.field-0.0 in
    answers_fault c.from_residual-in_err-third.result fault _ (p.1 ∙ ap Err p.2)
    (third_faults ds (lanes_of g.row.W c.args.active.lanes) masked.state c.in_ok-first.first (c.in_ok-first.ensures masked ds shown are) c.in_ok-second.second (c.in_ok-second.ensures masked ds shown are)
    (fault_view fault) (c.in_err-third.ensures masked ds shown are))

pub returns : goal.returns
returns g c = λ masked ds shown are.
    words_are ds (lanes_of g.row.W c.args.active.lanes) masked.state c.in_ok-first.first (c.in_ok-first.ensures masked ds shown are) c.in_ok-second.second (c.in_ok-second.ensures masked ds shown are)
    c.in_ok-third.third (c.in_ok-third.ensures masked ds shown are)
