use Rattle.std.proofs.Common.{◌+◌, ◌∙◌, ap, refl, sym, slice_index, slice_set}
use Rattle.undo_log.proofs.Runs.{exchanged_more, nothing_put}
use Rattle.gang_memory.proofs.store.VecU64WordStore.set_run.Goals as goal

pub loop-index-init : goal.loop-index-init
loop-index-init c = sym (nothing_put c.args.first c.args.self.now.items)

pub loop-index-preserved : goal.loop-index-preserved
loop-index-preserved c =
    let l = c.loop-index in
    let word = slice_index c.args.values.now c.loop-index.index in
    ap (λ ws. slice_set ws (c.args.first + l.index) word) l.invariant
    ∙ exchanged_more c.args.first l.index word c.args.values.now c.args.self.now.items c.loop-index-test.true c.requires.in_range refl
