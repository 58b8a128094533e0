use Rattle.std.proofs.Common.{subst}
use Rattle.std.specs.Prelude.{Ok, Err}
use Rattle.gang_types.specs.Masks.{lanes_of}
use Rattle.gang_model.specs.Running.Lanes.{at}
use Rattle.cross_lane.specs.Calls.{answer_of}
use Rattle.debug_traits.specs.declared.machine.Fault.{Fault}
use Rattle.debug_traits.specs.Machines.{fault_view}
use Rattle.machine_states.specs.ArrayParts.{ReadsElements, view_at}
use Rattle.machine_words.specs.Views.{view_view}
use Rattle.machine_words.specs.Words.{regions_in}
use Rattle.frame_steps.proofs.ElementStores.{may_read, reached_elements, read_at}
use Rattle.frame_steps.proofs.elements.reach.Goals as goal

pub elements-requires : goal.elements-requires
elements-requires g c =
    may_read g.T.Timeline.history g.row.W c.args.compiled.now c.args.words.now c.requires.sound c.args.active.frame c.args.array (view_view c.view-view.result) c.view-view.ensures

pub returns-in-Ok-clause-answer : goal.returns-in-Ok-clause-answer
returns-in-Ok-clause-answer g c = λ masked i e shown i_at e_at.
    let regions = regions_in g.T.Timeline.history g.row.W c.args.words.now in
    let lanes = lanes_of g.row.W c.args.active.lanes in
    let x = c.in_ok-indices.indices in
    let view = view_view c.view-view.result in
    let reads = subst (λ r. ReadsElements regions view lanes (at x) (answer_of r)) c.in-Ok.is c.elements.ensures.read in
    reached_elements (view_at regions c.args.active.frame c.args.array) i e lanes masked.state x (c.in_ok-indices.ensures masked i shown i_at)
    c.in_ok-values.values (c.in_ok-values.ensures masked e shown e_at) (Ok c.in-Ok.elements)
    (read_at regions c.args.active.frame c.args.array view c.view-view.ensures lanes x (Ok c.in-Ok.elements) reads masked.state shown.shows.memory)

pub returns-in-Err-clause-answer : goal.returns-in-Err-clause-answer
returns-in-Err-clause-answer g c = λ masked i e shown i_at e_at.
    let regions = regions_in g.T.Timeline.history g.row.W c.args.words.now in
    let lanes = lanes_of g.row.W c.args.active.lanes in
    let x = c.in_ok-indices.indices in
    let view = view_view c.view-view.result in
    let fault : Fault = record { name = c.in-Err.name; lane = c.in-Err.lane } in
    let reads = subst (λ r. ReadsElements regions view lanes (at x) (answer_of r)) c.in-Err.is c.elements.ensures.read in
    reached_elements (view_at regions c.args.active.frame c.args.array) i e lanes masked.state x (c.in_ok-indices.ensures masked i shown i_at)
    c.in_ok-values.values (c.in_ok-values.ensures masked e shown e_at) (Err (fault_view fault))
    (read_at regions c.args.active.frame c.args.array view c.view-view.ensures lanes x (Err (fault_view fault)) reads masked.state shown.shows.memory)
