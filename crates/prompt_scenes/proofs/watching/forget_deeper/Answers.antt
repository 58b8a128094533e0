use Rattle.std.proofs.Common.{◌+◌, sym, ap, ◌∙◌, drop}
use Rattle.std.proofs.lemmas.List.{at_drop_all, at_drop_more}
use Rattle.conditional_stops.specs.declared.watches.Watch.{Watch}
use Rattle.conditional_stops.specs.Views.{table_of}
use Rattle.prompt_scenes.specs.FrameWatches.{forgotten_deeper, forgotten_if}
use Rattle.prompt_scenes.proofs.watching.forget_deeper.Goals as goal

pub loop-watch-preserved : goal.loop-watch-preserved
loop-watch-preserved c =
    let watches = c.args.watches.now in
    let k = c.loop-watch.watch-index in
    let w = c.watch-item.result in
    let old = table_of c.loop-watch.conditions in
    ap (forgotten_deeper c.args.known (drop (k + 1) watches)) (c.forget_if.ensures ∙ ap (λ (x : Watch). forgotten_if c.args.known x old) c.watch-item.is)
    ∙ sym (at_drop_more (λ rest. forgotten_deeper c.args.known rest old) watches k w c.loop-watch-test.true) ∙ c.loop-watch.invariant

pub returns : goal.returns
returns c =
    sym (at_drop_all (λ rest. forgotten_deeper c.args.known rest (table_of c.loop-watch.conditions)) c.args.watches.now c.loop-watch.watch-index c.loop-watch-test.false) ∙ c.loop-watch.invariant
