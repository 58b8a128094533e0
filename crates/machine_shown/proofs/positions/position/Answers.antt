use Rattle.machine_words.specs.Words.{regions_in}
use Rattle.machine_shown.proofs.CallPlaces.{standing_width}
use Rattle.machine_shown.proofs.StepPlaces.{position_shown}
use Rattle.machine_shown.proofs.positions.position.Goals as goal

pub returns-clause-place : goal.returns-clause-place
returns-clause-place g c masked shown =
    let active = c.in_ok-active.active in
    let f = c.in_ok-active.ensures.0 in
    let is = c.in_ok-active.ensures.1 in
    position_shown g.row.W c.args.compiled.now (regions_in g.T.Timeline.history g.row.W c.args.words.now) active f masked shown.shows is
    (c.requires.sound.lie.compiled_is.runnable.lowerable.functions active.function f is.next.is_function).standings
    c.shown_lanes-lanes.result (c.shown_lanes-lanes.ensures masked shown) c.stands_at.result (c.stands_at.ensures f is.next.is_function)

pub returns-clause-width : goal.returns-clause-width
returns-clause-width g c =
    let active = c.in_ok-active.active in
    let f = c.in_ok-active.ensures.0 in
    let is = c.in_ok-active.ensures.1 in
    standing_width g.row.W f active.step _ c.shown_lanes-lanes.result c.stands_at.result c.requires.sound.lie.gang (c.stands_at.ensures f is.next.is_function)
