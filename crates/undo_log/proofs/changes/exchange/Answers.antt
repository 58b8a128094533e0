use Rattle.std.proofs.Common.{◌≡◌, ◌+◌, ◌<◌, ◌∙◌, ap, refl, sym, length, slice_index, slice_set, arith}
use Rattle.std.proofs.lemmas.List.{length-replicate, length-set, take_all}
use Rattle.undo_log.specs.DeltaRings.{run_changes}
use Rattle.undo_log.proofs.Runs.{change_more, exchanged_more, not_yet, nothing_put}
use Rattle.undo_log.proofs.changes.exchange.Goals as goal

pub loop-index-init : goal.loop-index-init
loop-index-init g c = record { words = sym (nothing_put c.args.first c.args.words.now); changes = refl; long = length-replicate g.row.W _ ∙ sym c.requires.width }

pub loop-index-preserved : goal.loop-index-preserved
loop-index-preserved g c =
    let l = c.loop-index in
    let word = slice_index c.args.values.now c.loop-index.index in
    let within : l.index < length l.changes = omega (arith, c.loop-index-test.true, l.invariant.long) in
    record {
      words = ap (λ ws. slice_set ws (c.args.first + l.index) word) l.invariant.words
          ∙ exchanged_more c.args.first l.index word c.args.values.now c.args.words.now c.loop-index-test.true c.requires.in_range refl;
      changes = change_more c.args.first l.index (slice_index l.words (c.args.first + l.index)) l.changes c.args.words.now within l.invariant.changes
          (ap (λ ws. slice_index ws (c.args.first + l.index)) l.invariant.words ∙ not_yet c.args.first l.index c.args.values.now c.args.words.now);
      long = length-set l.changes l.index _ ∙ l.invariant.long;
    }

pub returns-clause-changes : goal.returns-clause-changes
returns-clause-changes g c =
    let l = c.loop-index in
    let all : l.index ≡ length c.args.values.now = omega (arith, c.requires.width, c.loop-index-test.false, l.auto.index-end) in
    sym (take_all l.index l.changes (omega (arith, l.invariant.long, all)))
    ∙ (l.invariant.changes ∙ ap (λ n. run_changes c.args.first n c.args.words.now) all)
