use Rattle.std.proofs.Common.{◌≤◌, ◌∙◌, ◌++◌, sym, ap, length, map, take, arith}
use Rattle.std.proofs.lemmas.List.{append-nil, drop_all}
use Rattle.gang_types.specs.Masks.{lanes_of}
use Rattle.gang_types.specs.MaskLaws.{length-lanes_of_word}
use Rattle.gang_model.specs.Running.Lanes.{at, members_from}
use Rattle.element_touches.proofs.touches.touched_in.Goals as goal

pub returns : goal.returns
returns g c =
    let lanes = lanes_of g.row.W c.args.lanes in
    let lane = c.loop-lane.lane in
    let items = c.loop-lane.elements.items in
    let wide = length-lanes_of_word g.row.W c.args.lanes.word in
    let enough : length lanes ≤ lane = omega (arith, wide, c.loop-lane-test.false) in
    sym (append-nil items) ∙ ap (λ l. items ++ map (at (take g.row.W c.args.words.now)) (members_from lane l)) (sym (drop_all lane lanes enough)) ∙ c.loop-lane.invariant.added
