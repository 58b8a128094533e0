use Rattle.std.proofs.Common.{◌≡◌, ◌+◌, ◌*◌, ◌∙◌, ap, sym}
use Rattle.std.specs.Prelude.{Some, slice_get, sum}
use Rattle.std.proofs.lemmas.List.{length-map}
use Rattle.gang_memory.specs.Layouts.{ranges_of_frames}
use Rattle.gang_memory.specs.Ranges.{range, sizes_of}
use Rattle.gang_memory.proofs.Orders.{variable_range}
use Rattle.gang_memory.proofs.frames.Frames.variable.Goals as goal

pub returns : goal.returns
returns g c =
    let frames = c.args.self.now in
    let width = g.row.W in
    let head = sizes_of frames.head.items in
    let long = length-map frames.head.items (λ p. p.len) in
    let begins : frames.first + c.args.depth * (sum head + frames.variables * width) + sum head + c.args.number * width ≡ c.begin.result + frames.head_words + c.args.number * width =
    ap (λ n. frames.first + c.args.depth * (n + frames.variables * width) + n + c.args.number * width) (sym frames.whole)
    ∙ ap (λ n. n + frames.head_words + c.args.number * width) (sym c.begin.ensures.value) in
    ap (λ n. slice_get (ranges_of_frames width frames) (c.args.depth * (n + frames.variables) + (n + c.args.number))) (sym long)
    ∙ variable_range frames.first width head frames.variables frames.count c.args.depth c.requires.depth c.args.number c.requires.number
    ∙ ap (λ n. Some (range n width)) begins
