use Rattle.std.proofs.Common.{◌≡◌, ◌+◌, ◌*◌, ◌<◌, ◌∙◌, refl, ap, sym, arith, get_or, length, take}
use Rattle.std.specs.Prelude.{Some, slice_get, sum}
use Rattle.std.proofs.lemmas.List.{length-map}
use Rattle.std.proofs.lemmas.Option.{slice_get_read}
use Rattle.gang_memory.specs.Layouts.{ranges_of_frames}
use Rattle.gang_memory.specs.Ranges.{range, sizes_of}
use Rattle.gang_memory.proofs.Orders.{head_range, part_is, part_within}
use Rattle.gang_memory.proofs.frames.Frames.head.Goals as goal

pub overflow_add-result : goal.overflow_add-result
overflow_add-result g c =
    let frames = c.args.self.now in
    let inside = c.index-inside.result.now in
    let within = part_within frames.head.items frames.laid c.args.part c.requires.part inside (slice_get_read frames.head.items (length frames.head.items) c.args.part inside refl c.requires.part c.index-inside.ensures) in
    omega (arith, within, frames.whole, c.begin.ensures.room, c.requires.small)

pub returns : goal.returns
returns g c =
    let frames = c.args.self.now in
    let inside = c.index-inside.result.now in
    let width = g.row.W in
    let head = sizes_of frames.head.items in
    let long = length-map frames.head.items (λ p. p.len) in
    let part_there : c.args.part < length head = omega (arith, long, c.requires.part) in
    let is = part_is frames.head.items frames.laid c.args.part c.requires.part inside (slice_get_read frames.head.items (length frames.head.items) c.args.part inside refl c.requires.part c.index-inside.ensures) in
    let begins : frames.first + c.args.depth * (sum head + frames.variables * width) ≡ c.begin.result =
    ap (λ n. frames.first + c.args.depth * (n + frames.variables * width)) (sym frames.whole) ∙ sym c.begin.ensures.value in
    ap (λ n. slice_get (ranges_of_frames width frames) (c.args.depth * (n + frames.variables) + c.args.part)) (sym long)
    ∙ head_range frames.first width head frames.variables frames.count c.args.depth c.requires.depth c.args.part part_there
    ∙ ap (λ n. Some (range (n + sum (take c.args.part head)) (get_or head c.args.part 0))) begins
    ∙ ap (λ q. Some (range (c.begin.result + q.first) q.len)) (sym is)
