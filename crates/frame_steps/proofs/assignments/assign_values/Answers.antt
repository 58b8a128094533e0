use Rattle.std.proofs.Common.{◌+◌, ◌∙◌, sym, ap}
use Rattle.undo_log.specs.declared.timeline.Undone.TheVariants as undone
use Rattle.typed_tree.specs.Views.{var_view}
use Rattle.machine_states.specs.Effects.{assigned_in, assigned_region, sent_on}
use Rattle.machine_states.specs.Steps.{waiting_in}
use Rattle.machine_words.specs.Views.{region_view}
use Rattle.machine_words.specs.Words.{regions_in}
use Rattle.frame_steps.proofs.SentSteps.{may_put_first, may_send_then, sent_then}
use Rattle.frame_steps.proofs.Standings.{recorded_so_far}
use Rattle.frame_steps.proofs.assignments.assign_values.Goals as goal

pub assign-requires : goal.assign-requires
assign-requires g c =
    let step = c.requires.step in
    may_put_first g.T.Timeline.history g.T.Timeline.left g.row.W c.args.compiled.now c.args.words.now c.requires.sound c.args.active step.0 step.1 step.2 (var_view c.args.variable) c.requires.scalar step.3
    c.begin.new.words c.begin.ensures (region_view c.region_of-region.result) c.region_of-region.ensures step.4

pub send_on-requires : goal.send_on-requires
send_on-requires g c =
    let step = c.requires.step in
    may_send_then g.T.Timeline.history g.T.Timeline.left g.row.W c.args.compiled.now c.args.words.now c.requires.sound c.args.active step.0 step.1 step.2 (var_view c.args.variable) c.requires.scalar step.3
    c.begin.new.words c.begin.ensures (region_view c.region_of-region.result) c.region_of-region.ensures
    (λ l ws. assigned_region c.args.variable.rate l c.args.values ws) c.assign.new.self c.assign.ensures step.4

pub returns-clause-assigned : goal.returns-clause-assigned
returns-clause-assigned g c = λ region.
    let step = c.requires.step in
    let active = c.args.active in
    let variable = c.args.variable in
    let regions = regions_in g.T.Timeline.history g.row.W c.args.words.now in
    let sent = sent_then g.T.Timeline.history g.T.Timeline.left g.row.W c.args.compiled.now c.args.words.now c.requires.sound c.args.active step.0 step.1 step.2 (var_view c.args.variable) c.requires.scalar step.3
    c.begin.new.words c.begin.ensures (region_view c.region_of-region.result) c.region_of-region.ensures
    (λ l ws. assigned_region variable.rate l c.args.values ws) c.assign.new.self c.assign.ensures c.send_on.new.words c.args.next c.send_on.ensures in
    sent.regions_are region
    ∙ ap (λ l. sent_on active.frame active.level l (λ k. c.args.next) (assigned_in active.frame variable.id variable.rate l c.args.values regions) region) (sym step.2.lanes)

pub returns-clause-recorded : goal.returns-clause-recorded
returns-clause-recorded g c =
    let step = c.requires.step in
    let w = g.row.W in
    let active = c.args.active in
    let variable = c.args.variable in
    let regions = regions_in g.T.Timeline.history w c.args.words.now in
    let lanes = waiting_in regions active.frame active.level active.step in
    recorded_so_far g.T.Timeline.history g.T.Timeline.left w undone.Step
    (sent_on active.frame active.level lanes (λ k. c.args.next) (assigned_in active.frame variable.id variable.rate lanes c.args.values regions)) (0 + w + w) c.args.words.now c.send_on.new.words
    (sent_then g.T.Timeline.history g.T.Timeline.left g.row.W c.args.compiled.now c.args.words.now c.requires.sound c.args.active step.0 step.1 step.2 (var_view c.args.variable) c.requires.scalar step.3
    c.begin.new.words c.begin.ensures (region_view c.region_of-region.result) c.region_of-region.ensures
    (λ l ws. assigned_region variable.rate l c.args.values ws) c.assign.new.self c.assign.ensures c.send_on.new.words c.args.next c.send_on.ensures)
