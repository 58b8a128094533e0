use Rattle.std.proofs.Common.{◌*◌, ◌<◌, refl, ap, ◌∙◌, subst, arith}
use Rattle.std.specs.Prelude.{Err, OnOk}
use Rattle.std.proofs.lemmas.Result.{err_from_is_err_and}
use Rattle.gang_types.specs.Masks.{lanes_of}
use Rattle.gang_types.specs.MaskLaws.{gang_width-le}
use Rattle.gang_model.specs.Running.Library.{rank}
use Rattle.cross_lane.specs.Calls.{answer_of}
use Rattle.debug_traits.specs.declared.machine.Fault.{Fault}
use Rattle.debug_traits.specs.Machines.{fault_view}
use Rattle.gang_memory.specs.Packed.{ranks_of}
use Rattle.gang_memory.specs.Parts.{AreWithin}
use Rattle.machine_states.specs.ArrayParts.{ReadsElements}
use Rattle.machine_words.specs.Views.{view_view}
use Rattle.machine_words.specs.Words.{regions_in}
use Rattle.frame_steps.proofs.GangLanes.{stacks_small}
use Rattle.frame_steps.proofs.PackedStores.{has_point, index_expr, index_here, inside_still, mid_laid, part_faults, rank_faults, room_here, some_here, stored_ends, stored_may_give, stored_may_send, value_expr, value_faults, value_here}
use Rattle.frame_steps.proofs.SentSteps.{ends_with_fault}
use Rattle.frame_steps.proofs.packed.store_packed.Goals as goal

pub named_part-requires : goal.named_part-requires
named_part-requires g c =
    let history = g.T.Timeline.history in
    let left = g.T.Timeline.left in
    let w = g.row.W in
    let compiled = c.args.compiled.now in
    let old = c.args.words.now in
    (stacks_small w c.requires.sound.lie.gang, (c.requires.sound, (has_point history left w compiled old c.requires.sound c.args.active c.args.array c.args.from.now c.args.value.now c.args.result_for c.args.next c.requires.does, (index_expr history left w compiled old c.requires.sound c.args.active c.args.array c.args.from.now c.args.value.now c.args.result_for c.args.next c.requires.does, index_here history left w compiled old c.requires.sound c.args.active c.args.array c.args.from.now c.args.value.now c.args.result_for c.args.next c.requires.does))))

pub returns-in_err-view : goal.returns-in_err-view
returns-in_err-view g c = λ masked shown.
    let history = g.T.Timeline.history in
    let left = g.T.Timeline.left in
    let w = g.row.W in
    let compiled = c.args.compiled.now in
    let old = c.args.words.now in
    let i = index_expr history left w compiled old c.requires.sound c.args.active c.args.array c.args.from.now c.args.value.now c.args.result_for c.args.next c.requires.does in
    let i_at = index_here history left w compiled old c.requires.sound c.args.active c.args.array c.args.from.now c.args.value.now c.args.result_for c.args.next c.requires.does in
    let p = err_from_is_err_and c.from_residual.result c.from_residual.ensures.1 in
    let fault = c.in_err-view.field-0.0 in
    ends_with_fault history w compiled masked old c.from_residual.result fault (p.1 ∙ ap Err p.2)
    (part_faults history left w compiled old c.requires.sound c.args.active c.args.array c.args.from.now c.args.value.now c.args.result_for c.args.next c.requires.does masked shown (fault_view fault) (c.in_err-view.ensures.part masked i shown i_at))

pub value_of-requires : goal.value_of-requires
value_of-requires g c =
    let history = g.T.Timeline.history in
    let left = g.T.Timeline.left in
    let w = g.row.W in
    let compiled = c.args.compiled.now in
    let old = c.args.words.now in
    let v = value_expr history left w compiled old c.requires.sound c.args.active c.args.array c.args.from.now c.args.value.now c.args.result_for c.args.next c.requires.does in
    let v_at = value_here history left w compiled old c.requires.sound c.args.active c.args.array c.args.from.now c.args.value.now c.args.result_for c.args.next c.requires.does c.deref.result.now c.deref.ensures.value in
    let small = gang_width-le w c.requires.sound.lie.gang in
    (stacks_small w c.requires.sound.lie.gang, (omega (arith, small), (c.requires.sound, (v, v_at))))

pub returns-in_err-values : goal.returns-in_err-values
returns-in_err-values g c = λ masked shown.
    let history = g.T.Timeline.history in
    let left = g.T.Timeline.left in
    let w = g.row.W in
    let compiled = c.args.compiled.now in
    let old = c.args.words.now in
    let i = index_expr history left w compiled old c.requires.sound c.args.active c.args.array c.args.from.now c.args.value.now c.args.result_for c.args.next c.requires.does in
    let i_at = index_here history left w compiled old c.requires.sound c.args.active c.args.array c.args.from.now c.args.value.now c.args.result_for c.args.next c.requires.does in
    let v = value_expr history left w compiled old c.requires.sound c.args.active c.args.array c.args.from.now c.args.value.now c.args.result_for c.args.next c.requires.does in
    let v_at = value_here history left w compiled old c.requires.sound c.args.active c.args.array c.args.from.now c.args.value.now c.args.result_for c.args.next c.requires.does c.deref.result.now c.deref.ensures.value in
    let view = view_view c.in_ok-view.view in
    let p = err_from_is_err_and c.from_residual-in_err-values.result c.from_residual-in_err-values.ensures.1 in
    let fault = c.in_err-values.field-0.0 in
    ends_with_fault history w compiled masked old c.from_residual-in_err-values.result fault (p.1 ∙ ap Err p.2)
    (value_faults history left w compiled old c.requires.sound c.args.active c.args.array c.args.from.now c.args.value.now c.args.result_for c.args.next c.requires.does masked shown view (c.in_ok-view.ensures.part masked i shown i_at) (fault_view fault) (c.in_err-values.ensures masked v shown v_at))

pub returns-in-Err : goal.returns-in-Err
returns-in-Err g c = λ masked shown.
    let history = g.T.Timeline.history in
    let left = g.T.Timeline.left in
    let w = g.row.W in
    let compiled = c.args.compiled.now in
    let old = c.args.words.now in
    let i = index_expr history left w compiled old c.requires.sound c.args.active c.args.array c.args.from.now c.args.value.now c.args.result_for c.args.next c.requires.does in
    let i_at = index_here history left w compiled old c.requires.sound c.args.active c.args.array c.args.from.now c.args.value.now c.args.result_for c.args.next c.requires.does in
    let v = value_expr history left w compiled old c.requires.sound c.args.active c.args.array c.args.from.now c.args.value.now c.args.result_for c.args.next c.requires.does in
    let v_at = value_here history left w compiled old c.requires.sound c.args.active c.args.array c.args.from.now c.args.value.now c.args.result_for c.args.next c.requires.does c.deref.result.now c.deref.ensures.value in
    let view = view_view c.in_ok-view.view in
    let fault : Fault = record { name = c.in-Err.name; lane = c.in-Err.lane } in
    let lanes = lanes_of w c.args.active.lanes in (
      rank_faults history left w compiled old c.requires.sound c.args.active c.args.array c.args.from.now c.args.value.now c.args.result_for c.args.next c.requires.does masked shown view (c.in_ok-view.ensures.part masked i shown i_at)
          c.in_ok-values.values (c.in_ok-values.ensures masked v shown v_at) (fault_view fault)
          (subst (λ r. ReadsElements (regions_in history w old) view lanes (rank lanes) (answer_of r)) c.in-Err.is c.packed_elements.ensures.read),
      refl,
    )

pub set_packed-requires : goal.set_packed-requires
set_packed-requires g c =
    let history = g.T.Timeline.history in
    let left = g.T.Timeline.left in
    let w = g.row.W in
    let compiled = c.args.compiled.now in
    let old = c.args.words.now in
    let view = view_view c.in_ok-view.view in
    let small = gang_width-le w c.requires.sound.lie.gang in
    let wide : w * 8 < 9223372036854775808 = omega (arith, small) in
    let lanes = lanes_of w c.args.active.lanes in
    let there = subst (λ r. OnOk r (AreWithin lanes (ranks_of lanes) view.len)) c.in_default.is c.packed_elements.ensures.there in
    let mid = c.begin.new.words in
    let begins = c.begin.ensures in (
      wide,
      (
        c.requires.sound.lie.gang,
        (
          mid_laid history left w compiled old c.requires.sound c.args.active c.args.array c.args.from.now c.args.value.now c.args.result_for c.args.next c.requires.does mid begins,
          (
            inside_still history left w compiled old c.requires.sound c.args.active c.args.array c.args.from.now c.args.value.now c.args.result_for c.args.next c.requires.does mid begins view c.in_ok-view.ensures.inside,
            (some_here history left w compiled old c.requires.sound c.args.active c.args.array c.args.from.now c.args.value.now c.args.result_for c.args.next c.requires.does, (there, room_here history left w compiled old c.requires.sound c.args.active c.args.array c.args.from.now c.args.value.now c.args.result_for c.args.next c.requires.does mid begins)),
          ),
        ),
      ),
    )

pub give_count-requires : goal.give_count-requires
give_count-requires g c =
    let history = g.T.Timeline.history in
    let left = g.T.Timeline.left in
    let w = g.row.W in
    let compiled = c.args.compiled.now in
    let old = c.args.words.now in
    let may = stored_may_give history left w compiled old c.requires.sound c.args.active c.args.array c.args.from.now c.args.value.now c.args.result_for c.args.next c.requires.does c.begin.new.words c.begin.ensures (view_view c.in_ok-view.view) c.in_ok-values.values c.set_packed.new.self c.set_packed.ensures in
    record { width = c.requires.sound.lie.gang; laid = may.laid; sized = may.sized; there = may.there; takes = may.takes; lane = may.lane; left = may.room }

pub send_on-requires : goal.send_on-requires
send_on-requires g c =
    let history = g.T.Timeline.history in
    let left = g.T.Timeline.left in
    let w = g.row.W in
    let compiled = c.args.compiled.now in
    let old = c.args.words.now in
    stored_may_send history left w compiled old c.requires.sound c.args.active c.args.array c.args.from.now c.args.value.now c.args.result_for c.args.next c.requires.does c.begin.new.words c.begin.ensures (view_view c.in_ok-view.view) c.in_ok-values.values c.set_packed.new.self c.set_packed.ensures
    c.give_count.new.words c.give_count.ensures

pub returns : goal.returns
returns g c = λ masked shown.
    let history = g.T.Timeline.history in
    let left = g.T.Timeline.left in
    let w = g.row.W in
    let compiled = c.args.compiled.now in
    let old = c.args.words.now in
    let i = index_expr history left w compiled old c.requires.sound c.args.active c.args.array c.args.from.now c.args.value.now c.args.result_for c.args.next c.requires.does in
    let i_at = index_here history left w compiled old c.requires.sound c.args.active c.args.array c.args.from.now c.args.value.now c.args.result_for c.args.next c.requires.does in
    let v = value_expr history left w compiled old c.requires.sound c.args.active c.args.array c.args.from.now c.args.value.now c.args.result_for c.args.next c.requires.does in
    let v_at = value_here history left w compiled old c.requires.sound c.args.active c.args.array c.args.from.now c.args.value.now c.args.result_for c.args.next c.requires.does c.deref.result.now c.deref.ensures.value in
    let view = view_view c.in_ok-view.view in
    let lanes = lanes_of w c.args.active.lanes in
    stored_ends history left w compiled old c.requires.sound c.args.active c.args.array c.args.from.now c.args.value.now c.args.result_for c.args.next c.requires.does c.begin.new.words c.begin.ensures (view_view c.in_ok-view.view) c.in_ok-values.values c.set_packed.new.self c.set_packed.ensures
    c.give_count.new.words c.give_count.ensures c.send_on.new.words c.send_on.ensures
    masked shown (c.in_ok-view.ensures.part masked i shown i_at) (c.in_ok-values.ensures masked v shown v_at) c.in_default.field-0
    (subst (λ r. ReadsElements (regions_in history w old) view lanes (rank lanes) (answer_of r)) c.in_default.is c.packed_elements.ensures.read)
