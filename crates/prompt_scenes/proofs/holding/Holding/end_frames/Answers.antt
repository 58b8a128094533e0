use Rattle.std.proofs.Common.{◌≡◌, List, ap, ◌∙◌, rules}
use Rattle.std.specs.Prelude.{filter, nat_le}
use Rattle.arrayvec.proofs.ArrayVecLemmas.{filter-from_retain}
use Rattle.conditional_stops.specs.declared.watches.Watch.{Watch}
use Rattle.conditional_stops.specs.Tables.{Table}
use Rattle.conditional_stops.specs.Views.{table_of}
use Rattle.conditional_stops.specs.Watches.{watch_depth}
use Rattle.prompt_scenes.specs.FrameWatches.{forgotten_deeper}
use Rattle.prompt_scenes.specs.Holding.{Held, held}
use Rattle.prompt_scenes.proofs.holding.Holding.end_frames.Goals as goal

pub returns : goal.returns
returns c =
    let old = c.args.self.now in
    let left : List Watch → Table → Held = λ frames table. record (held old) { frames = frames; table = table } in
    let kept : c.retain.new.self.items ≡ filter (λ (w : Watch). nat_le (watch_depth w) c.args.known) old.frames.items =
    filter-from_retain _ _ _ (λ x b f' y called. search rules) _ _ c.retain.ensures.filtered in
    ap (λ frames. left frames (table_of c.forget_deeper.new.conditions)) kept ∙ ap (left (filter (λ (w : Watch). nat_le (watch_depth w) c.args.known) old.frames.items))
    (c.forget_deeper.ensures ∙ ap (λ watches. forgotten_deeper c.args.known watches (table_of old.conditions)) c.as_slice.ensures.value)
