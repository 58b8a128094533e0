use Rattle.std.proofs.Common.{◌≡◌, List, sym, ap, ◌∙◌, rules}
use Rattle.std.specs.Prelude.{◌==◌, filter, not, Some}
use Rattle.arrayvec.proofs.ArrayVecLemmas.{filter-from_retain}
use Rattle.conditional_stops.specs.declared.watches.Watch.{Watch}
use Rattle.conditional_stops.specs.Watches.{watch_number}
use Rattle.prompt_scenes.specs.FrameWatches.{without_frames}
use Rattle.prompt_scenes.specs.Holding.{Held, held}
use Rattle.prompt_scenes.proofs.holding.Holding.remove_frames.Goals as goal

pub returns-in-Some : goal.returns-in-Some
returns-in-Some c =
    let old = c.args.self.now in
    let n = c.in-Some.number in
    let left : List Watch → Held = λ frames. record (held old) { frames = frames } in
    let kept : c.retain.new.self.items ≡ filter (λ (w : Watch). not (watch_number w == n)) old.frames.items =
    filter-from_retain _ _ _ (λ x b f' y called. search rules) _ _ c.retain.ensures.filtered in
    ap left kept ∙ ap (λ deleted. without_frames (Some deleted) (held old)) (sym c.in-Some.is)
