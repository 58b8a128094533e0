use Rattle.machine_words.specs.Views.{view_view}
use Rattle.frame_steps.proofs.ElementStores.{may_store, stored_may_send, stored_records, stored_regions}
use Rattle.frame_steps.proofs.elements.store.Goals as goal

pub set_elements-requires : goal.set_elements-requires
set_elements-requires g c =
    let step = c.requires.step in
    may_store g.T.Timeline.history g.row.W c.args.compiled.now c.args.words.now c.requires.sound g.T.Timeline.left c.args.active step.0 step.1 step.2 step.3 step.4 c.requires.view.0 (view_view c.args.view)
    c.requires.view.1 c.begin.new.words c.begin.ensures c.args.indices c.requires.there

pub send_on-requires : goal.send_on-requires
send_on-requires g c =
    let step = c.requires.step in
    stored_may_send g.T.Timeline.history g.row.W c.args.compiled.now c.args.words.now c.requires.sound g.T.Timeline.left c.args.active step.0 step.1 step.2 step.3 step.4 c.requires.view.0 (view_view c.args.view)
    c.requires.view.1 c.begin.new.words c.begin.ensures c.args.indices c.args.values c.set_elements.new.self c.set_elements.ensures

pub returns-clause-stored : goal.returns-clause-stored
returns-clause-stored g c =
    let step = c.requires.step in
    let w = g.row.W in
    stored_regions g.T.Timeline.history w c.args.compiled.now c.args.words.now c.requires.sound g.T.Timeline.left c.args.active step.0 step.1 step.2 step.3 step.4 c.requires.view.0 (view_view c.args.view)
    c.requires.view.1 c.begin.new.words c.begin.ensures c.args.indices c.args.values c.set_elements.new.self c.set_elements.ensures
    c.args.next c.send_on.new.words c.send_on.ensures

pub returns-clause-recorded : goal.returns-clause-recorded
returns-clause-recorded g c =
    let step = c.requires.step in
    let w = g.row.W in
    stored_records g.T.Timeline.history w c.args.compiled.now c.args.words.now c.requires.sound g.T.Timeline.left c.args.active step.0 step.1 step.2 step.3 step.4 c.requires.view.0 (view_view c.args.view)
    c.requires.view.1 c.begin.new.words c.begin.ensures c.args.indices c.args.values c.set_elements.new.self c.set_elements.ensures
    c.args.next c.send_on.new.words c.send_on.ensures
