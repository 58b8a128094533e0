use Rattle.std.proofs.Common.{refl, ap, ◌∙◌, subst}
use Rattle.std.specs.Prelude.{Err}
use Rattle.std.proofs.lemmas.Result.{err_from_is_err_and}
use Rattle.gang_types.specs.Masks.{lanes_of}
use Rattle.gang_model.specs.Running.Library.{rank}
use Rattle.cross_lane.specs.Calls.{answer_of}
use Rattle.debug_traits.specs.declared.machine.Fault.{Fault}
use Rattle.debug_traits.specs.Machines.{fault_view}
use Rattle.machine_states.specs.ArrayParts.{ReadsElements}
use Rattle.machine_words.specs.Views.{region_view, view_view}
use Rattle.machine_words.specs.Words.{regions_in}
use Rattle.frame_steps.proofs.GangLanes.{stacks_small}
use Rattle.frame_steps.proofs.PackedLoads.{has_point, index_expr, index_here, loaded_ends, loaded_may_give, loaded_may_send, may_load, part_faults, rank_faults}
use Rattle.frame_steps.proofs.SentSteps.{ends_with_fault}
use Rattle.frame_steps.proofs.packed.load_packed.Goals as goal

pub named_part-requires : goal.named_part-requires
named_part-requires g c =
    let history = g.T.Timeline.history in
    let left = g.T.Timeline.left in
    let w = g.row.W in
    let compiled = c.args.compiled.now in
    let old = c.args.words.now in
    (stacks_small w c.requires.sound.lie.gang, (c.requires.sound, (has_point history left w compiled old c.requires.sound c.args.active c.args.array c.args.from.now c.args.into c.args.result_for c.args.next c.requires.does, (index_expr history left w compiled old c.requires.sound c.args.active c.args.array c.args.from.now c.args.into c.args.result_for c.args.next c.requires.does, index_here history left w compiled old c.requires.sound c.args.active c.args.array c.args.from.now c.args.into c.args.result_for c.args.next c.requires.does))))

pub returns-in_err-view : goal.returns-in_err-view
returns-in_err-view g c = λ masked shown.
    let history = g.T.Timeline.history in
    let left = g.T.Timeline.left in
    let w = g.row.W in
    let compiled = c.args.compiled.now in
    let old = c.args.words.now in
    let i = index_expr history left w compiled old c.requires.sound c.args.active c.args.array c.args.from.now c.args.into c.args.result_for c.args.next c.requires.does in
    let i_at = index_here history left w compiled old c.requires.sound c.args.active c.args.array c.args.from.now c.args.into c.args.result_for c.args.next c.requires.does in
    let p = err_from_is_err_and c.from_residual.result c.from_residual.ensures.1 in
    let fault = c.in_err-view.field-0.0 in
    ends_with_fault history w compiled masked old c.from_residual.result fault (p.1 ∙ ap Err p.2)
    (part_faults history left w compiled old c.requires.sound c.args.active c.args.array c.args.from.now c.args.into c.args.result_for c.args.next c.requires.does masked shown (fault_view fault) (c.in_err-view.ensures.part masked i shown i_at))

pub returns-in-Err : goal.returns-in-Err
returns-in-Err g c = λ masked shown.
    let history = g.T.Timeline.history in
    let left = g.T.Timeline.left in
    let w = g.row.W in
    let compiled = c.args.compiled.now in
    let old = c.args.words.now in
    let i = index_expr history left w compiled old c.requires.sound c.args.active c.args.array c.args.from.now c.args.into c.args.result_for c.args.next c.requires.does in
    let i_at = index_here history left w compiled old c.requires.sound c.args.active c.args.array c.args.from.now c.args.into c.args.result_for c.args.next c.requires.does in
    let view = view_view c.in_ok-view.view in
    let fault : Fault = record { name = c.in-Err.name; lane = c.in-Err.lane } in
    let lanes = lanes_of w c.args.active.lanes in (
      rank_faults history left w compiled old c.requires.sound c.args.active c.args.array c.args.from.now c.args.into c.args.result_for c.args.next c.requires.does masked shown view (c.in_ok-view.ensures.part masked i shown i_at) (fault_view fault)
          (subst (λ r. ReadsElements (regions_in history w old) view lanes (rank lanes) (answer_of r)) c.in-Err.is c.packed_elements.ensures.read),
      refl,
    )

pub assign-requires : goal.assign-requires
assign-requires g c =
    let history = g.T.Timeline.history in
    let left = g.T.Timeline.left in
    let w = g.row.W in
    let compiled = c.args.compiled.now in
    let old = c.args.words.now in
    may_load history left w compiled old c.requires.sound c.args.active c.args.array c.args.from.now c.args.into c.args.result_for c.args.next c.requires.does
    c.begin.new.words c.begin.ensures (region_view c.region_of-region.result) c.region_of-region.ensures

pub give_count-requires : goal.give_count-requires
give_count-requires g c =
    let history = g.T.Timeline.history in
    let left = g.T.Timeline.left in
    let w = g.row.W in
    let compiled = c.args.compiled.now in
    let old = c.args.words.now in
    let may = loaded_may_give history left w compiled old c.requires.sound c.args.active c.args.array c.args.from.now c.args.into c.args.result_for c.args.next c.requires.does
    c.begin.new.words c.begin.ensures (region_view c.region_of-region.result) c.region_of-region.ensures c.in-Ok.values c.assign.new.self c.assign.ensures in
    record { width = c.requires.sound.lie.gang; laid = may.laid; sized = may.sized; there = may.there; takes = may.takes; lane = may.lane; left = may.room }

pub send_on-requires : goal.send_on-requires
send_on-requires g c =
    let history = g.T.Timeline.history in
    let left = g.T.Timeline.left in
    let w = g.row.W in
    let compiled = c.args.compiled.now in
    let old = c.args.words.now in
    loaded_may_send history left w compiled old c.requires.sound c.args.active c.args.array c.args.from.now c.args.into c.args.result_for c.args.next c.requires.does
    c.begin.new.words c.begin.ensures (region_view c.region_of-region.result) c.region_of-region.ensures c.in-Ok.values c.assign.new.self c.assign.ensures
    c.give_count.new.words c.give_count.ensures

pub returns : goal.returns
returns g c = λ masked shown.
    let history = g.T.Timeline.history in
    let left = g.T.Timeline.left in
    let w = g.row.W in
    let compiled = c.args.compiled.now in
    let old = c.args.words.now in
    let i = index_expr history left w compiled old c.requires.sound c.args.active c.args.array c.args.from.now c.args.into c.args.result_for c.args.next c.requires.does in
    let i_at = index_here history left w compiled old c.requires.sound c.args.active c.args.array c.args.from.now c.args.into c.args.result_for c.args.next c.requires.does in
    let view = view_view c.in_ok-view.view in
    let lanes = lanes_of w c.args.active.lanes in
    loaded_ends history left w compiled old c.requires.sound c.args.active c.args.array c.args.from.now c.args.into c.args.result_for c.args.next c.requires.does
    c.begin.new.words c.begin.ensures (region_view c.region_of-region.result) c.region_of-region.ensures c.in-Ok.values c.assign.new.self c.assign.ensures
    c.give_count.new.words c.give_count.ensures c.send_on.new.words c.send_on.ensures
    masked shown view (c.in_ok-view.ensures.part masked i shown i_at)
    (subst (λ r. ReadsElements (regions_in history w old) view lanes (rank lanes) (answer_of r)) c.in-Ok.is c.packed_elements.ensures.read)
