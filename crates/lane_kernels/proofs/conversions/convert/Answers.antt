use Rattle.std.proofs.Common.{rules, ◌≡◌, ◌<◌, ◌^◌, ℕ, length, arith, slice_index, ◌∙◌, sym, ap}
use Rattle.gang_types.specs.Laws.{narrow_word, convert_any}
use Rattle.lane_kernels.proofs.VectorLanes.{lane_map}
use Rattle.lane_kernels.proofs.conversions.convert.Goals as goal

pub returns : goal.returns
returns g c =
    let la : length c.args.a ≡ g.row.W = omega arith in
    let fa : (k : ℕ) → slice_index c.args.a k < 2 ^ 64 = λ k. search rules in
    λ i h. ap (λ l. slice_index l i) c.narrow_lanes.ensures
    ∙ lane_map (narrow_word c.args.to) c.args.a i (omega arith)
    ∙ sym (convert_any c.args.from c.args.to (slice_index c.args.a i) (fa i))
