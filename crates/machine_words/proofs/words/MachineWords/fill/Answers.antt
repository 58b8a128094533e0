use Rattle.std.proofs.Common.{◌≡◌, ◌+◌, ◌<◌, ◌∙◌, ap, subst, arith, length, slice_index, take}
use Rattle.std.specs.Prelude.{slice_set}
use Rattle.gang_model.specs.Debugger.Events.{covered}
use Rattle.machine_words.specs.Views.{region_view}
use Rattle.machine_words.specs.Words.{Writes, regions_in}
use Rattle.machine_words.proofs.Covered.{covered_more, length-covered, length-taken}
use Rattle.machine_words.proofs.Writing.{region_written, unwritten, written_again}
use Rattle.machine_words.proofs.words.MachineWords.fill.Goals as goal

pub loop-index-preserved : goal.loop-index-preserved
loop-index-preserved g c =
    let history = g.T.Timeline.history in
    let left = g.T.Timeline.left in
    let w = g.row.W in
    let region = region_view c.args.region in
    let old = c.args.self.now in
    let mid = c.loop-index.self in
    let new = c.set.new.self in
    let i = c.loop-index.index in
    let words = c.args.words.now in
    let own = regions_in history w old region in
    let before = covered (take i words) own in
    let within : i < length words = omega (arith, c.loop-index-test.true) in
    let here : slice_set (regions_in history w mid region) i (slice_index words i) ≡ covered (take (i + 1) words) own =
    ap (λ ws. slice_set ws i (slice_index words i)) (region_written history left w region before i old mid c.loop-index.invariant)
    ∙ covered_more words own i within c.requires.fits in
    written_again history left w region before (covered (take (i + 1) words) own) i 1 old mid new c.loop-index.invariant
    (subst (λ after. Writes history left w region after 1 mid new) here c.set.ensures)

pub loop-index-init : goal.loop-index-init
loop-index-init g c = unwritten g.T.Timeline.history g.T.Timeline.left g.row.W c.args.self.now c.requires.laid (region_view c.args.region)

pub set-requires-clause-within : goal.set-requires-clause-within
set-requires-clause-within g c =
    let history = g.T.Timeline.history in
    let left = g.T.Timeline.left in
    let w = g.row.W in
    let region = region_view c.args.region in
    let i = c.loop-index.index in
    let own = regions_in history w c.args.self.now region in
    let before = covered (take i c.args.words.now) own in
    let long : length (regions_in history w c.loop-index.self region) ≡ length own =
    ap length (region_written history left w region before i c.args.self.now c.loop-index.self c.loop-index.invariant) ∙ length-covered (take i c.args.words.now) own (length-taken c.args.words.now i (length own) c.requires.fits) in
    omega (arith, c.loop-index-test.true, c.requires.fits, long)
