use Rattle.std.proofs.Common.{◌≡◌, refl, ap, ◌∙◌, length, arith}
use Rattle.gang_types.specs.Lanes.{no_lane}
use Rattle.gang_types.specs.Masks.{lanes_of}
use Rattle.gang_types.specs.MaskLaws.{gang_width-le}
use Rattle.machine_states.specs.Regions.{OfEntry, OfLocal}
use Rattle.machine_words.specs.Words.{regions_in}
use Rattle.frame_steps.proofs.GangLanes.{some_of_all}
use Rattle.machine_steps.proofs.RowWords.{all_left, array_given, words_left}
use Rattle.machine_steps.proofs.WrittenRegions.{written_away}
use Rattle.machine_steps.proofs.rows.give_array.Goals as goal

pub fill-requires : goal.fill-requires
fill-requires g c =
    record {
      width = c.requires.width;
      laid = c.requires.laid;
      fits = c.requires.fits.0;
      left = words_left g.T.Timeline.history g.T.Timeline.left g.row.W c.args.words.now c.requires.laid c.requires.fresh (OfEntry c.args.number) (length c.args.values.now) c.requires.fits.0;
    }

pub set_lanes-requires : goal.set_lanes-requires
set_lanes-requires g c =
    let history = g.T.Timeline.history in
    let w = g.row.W in
    let small = gang_width-le w c.requires.width in
    let mid = c.fill.new.self in
    let fresh = ap (λ h. h.past) c.fill.ensures.rest ∙ c.requires.fresh in
    let all = all_left history g.T.Timeline.left w mid fresh in
    let whole : length (regions_in history w mid (OfLocal 0 c.args.number)) ≡ w = ap length (written_away c.fill.ensures (OfLocal 0 c.args.number) refl) ∙ c.requires.fits.1 in (
      omega (arith, small),
      (
        c.requires.width,
        (c.fill.ensures.laid, (whole, (ap no_lane c.all.ensures ∙ some_of_all w c.requires.width, omega (arith, small, all)))),
      ),
    )

pub returns : goal.returns
returns g c =
    let history = g.T.Timeline.history in
    let w = g.row.W in
    let mid = c.fill.new.self in
    let long : length c.view_words.result ≡ w = omega arith in
    let whole : length (regions_in history w mid (OfLocal 0 c.args.number)) ≡ w = ap length (written_away c.fill.ensures (OfLocal 0 c.args.number) refl) ∙ c.requires.fits.1 in
    array_given history g.T.Timeline.left w c.args.words.now mid c.set_lanes.new.self c.args.number c.args.values.now c.view_words.result (length c.args.values.now) (lanes_of w c.all.result) c.all.ensures
    c.fill.ensures long whole c.view_words.ensures c.set_lanes.ensures
