use Rattle.std.proofs.Common.{arith}
use Rattle.mask_states.specs.Points.{closing_number, points_in}
use Rattle.machine_states.specs.Shows.{level_words}
use Rattle.machine_words.specs.Words.{regions_in}
use Rattle.gang_machine.proofs.LaneNumbers.{found_here, found_in_body, next_form, passed_first, passed_next}
use Rattle.gang_machine.proofs.lanes.lane_number.Goals as goal

pub loop-level-init : goal.loop-level-init
loop-level-init g c has =
    let regions = regions_in g.T.Timeline.history g.row.W c.args.words.now in
    passed_first (points_in has.f) g.row.W (level_words regions c.args.frame) (closing_number has.f) c.args.lane has.forms c.args.innermost has.long has.are

pub number_in_form-requires-clause-form : goal.number_in_form-requires-clause-form
number_in_form-requires-clause-form g c =
    let regions = regions_in g.T.Timeline.history g.row.W c.args.words.now in
    let has = c.requires.forms in
    let found = next_form (points_in has.f) g.row.W (level_words regions c.args.frame) (closing_number has.f) c.args.lane has.forms c.loop-level.level (omega arith) (c.loop-level.invariant has) in
    (found.0, record { f = has.f; is_function = has.is_function; is_form = found.1 })

pub loop-level-preserved : goal.loop-level-preserved
loop-level-preserved g c has =
    let regions = regions_in g.T.Timeline.history g.row.W c.args.words.now in
    passed_next (points_in has.f) g.row.W (level_words regions c.args.frame) (closing_number has.f) c.args.lane has.forms c.loop-level.level (omega arith) (c.loop-level.invariant has)
    c.number_in_form.result (λ form is. c.number_in_form.ensures form (record { f = has.f; is_function = has.is_function; is_form = is })) c.in-None.is

pub returns-in-Some : goal.returns-in-Some
returns-in-Some g c has =
    let regions = regions_in g.T.Timeline.history g.row.W c.args.words.now in
    found_here (points_in has.f) g.row.W (level_words regions c.args.frame) (closing_number has.f) c.args.lane has.forms c.loop-level.level (omega arith) (c.loop-level.invariant has)
    c.number_in_form.result (λ form is. c.number_in_form.ensures form (record { f = has.f; is_function = has.is_function; is_form = is })) c.in-Some.number c.in-Some.is

pub returns : goal.returns
returns g c has =
    let regions = regions_in g.T.Timeline.history g.row.W c.args.words.now in
    found_in_body (points_in has.f) g.row.W (level_words regions c.args.frame) (closing_number has.f) c.args.lane has.forms c.loop-level.level (omega arith) (c.loop-level.invariant has)
    c.closing.result c.number_at.result (c.closing.ensures has.f has.is_function) c.number_at.ensures
