use Rattle.std.proofs.Common.{◌∙◌, sym, ap, subst}
use Rattle.std.specs.Prelude.{replicate}
use Rattle.machine_states.specs.Effects.{assigned_region}
use Rattle.machine_words.specs.Views.{region_view}
use Rattle.machine_words.specs.Words.{Writes, regions_in}
use Rattle.frame_steps.proofs.GangLanes.{gang_some}
use Rattle.machine_shown.specs.ShownWords.{AreInRegion, OfScalar, part_set, region_shown, shown_view}
use Rattle.machine_shown.proofs.PokedWords.{assigned_poked}
use Rattle.machine_shown.proofs.shown.set_part.Goals as goal

pub returns-in-None-Scalar-clause-sets : goal.returns-in-None-Scalar-clause-sets
returns-in-None-Scalar-clause-sets g c has =
    let history = g.T.Timeline.history in
    let left = g.T.Timeline.left in
    let width = g.row.W in
    let old = c.args.words.now in
    let new = c.assign.new.self in
    let regions = regions_in history width old in
    let region = region_view c.in-None-Scalar.region in
    let rate = c.in-None-Scalar.rate in
    let word = c.args.word in
    let room : AreInRegion width regions (OfScalar region rate) = subst (λ s. AreInRegion width regions (shown_view s)) c.in-None-Scalar.is-1 c.requires.there in
    let made = ap (λ lanes. assigned_region rate lanes (replicate width word) (regions region)) c.all.ensures
    ∙ assigned_poked width (gang_some width c.requires.width) rate word (regions region) room.0 room.1 in
    subst (λ s. Writes history left width (region_shown (shown_view s)) (part_set (shown_view s) c.args.at word (regions (region_shown (shown_view s)))) width old new) (sym c.in-None-Scalar.is-1)
    (subst (λ at. Writes history left width region (part_set (OfScalar region rate) at word (regions region)) width old new) (sym c.in-None-Scalar.is-0)
    (subst (λ ws. Writes history left width region ws width old new) made c.assign.ensures))
