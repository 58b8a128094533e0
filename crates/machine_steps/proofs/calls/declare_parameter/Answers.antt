use Rattle.std.proofs.Common.{◌≡◌, ◌∙◌, ap, subst, sym, length, arith}
use Rattle.gang_types.specs.Lanes.{no_lane}
use Rattle.gang_types.specs.Masks.{lanes_of}
use Rattle.gang_types.specs.MaskLaws.{gang_width-le}
use Rattle.machine_states.specs.Regions.{OfLocal}
use Rattle.machine_words.specs.Words.{Writes, regions_in}
use Rattle.frame_steps.proofs.GangLanes.{some_of_all, words_few}
use Rattle.machine_steps.specs.Calls.{parameter_region}
use Rattle.machine_steps.proofs.WrittenRegions.{all_words}
use Rattle.machine_steps.proofs.calls.declare_parameter.Goals as goal

pub declare-requires : goal.declare-requires
declare-requires g c =
    let w = g.row.W in
    let small = gang_width-le w c.requires.width in
    let few = words_few w c.requires.width c.in-Value.parameter.rate in (
      omega (arith, small),
      (c.requires.width, (c.requires.laid, (omega (arith, c.requires.whole, few), (omega (arith, c.requires.whole), (c.requires.lane, c.requires.left))))),
    )

pub returns-in-Value : goal.returns-in-Value
returns-in-Value g c =
    let history = g.T.Timeline.history in
    let w = g.row.W in
    let old = c.args.words.now in
    let region = OfLocal c.args.frame c.args.number in
    subst (λ made. Writes history g.T.Timeline.left w region (parameter_region made (lanes_of w c.args.lanes) c.args.values (regions_in history w old region)) w old c.declare.new.self)
    (sym c.in-Value.is) c.declare.ensures

pub set_lanes-requires : goal.set_lanes-requires
set_lanes-requires g c =
    let w = g.row.W in
    let small = gang_width-le w c.requires.width in (
      omega (arith, small),
      (c.requires.width, (c.requires.laid, (c.requires.whole, (ap no_lane c.all.ensures ∙ some_of_all w c.requires.width, c.requires.left)))),
    )

pub returns-in-Array : goal.returns-in-Array
returns-in-Array g c =
    let history = g.T.Timeline.history in
    let w = g.row.W in
    let old = c.args.words.now in
    let region = OfLocal c.args.frame c.args.number in
    let long : length c.args.values ≡ w = omega arith in
    subst (λ made. Writes history g.T.Timeline.left w region (parameter_region made (lanes_of w c.args.lanes) c.args.values (regions_in history w old region)) w old c.set_lanes.new.self)
    (sym c.in-Array.is)
    (all_words history g.T.Timeline.left w region old c.set_lanes.new.self (lanes_of w c.all.result) c.args.values c.all.ensures long c.requires.whole c.set_lanes.ensures)
