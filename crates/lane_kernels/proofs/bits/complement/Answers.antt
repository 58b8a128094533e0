use Rattle.std.proofs.Common.{rules, ◌≡◌, ◌<◌, ◌+◌, ◌-◌, ◌%◌, ◌^◌, ℕ, length, arith, slice_index, ◌∙◌, ap, sym}
use Rattle.std.specs.Prelude.{replicate}
use Rattle.gang_types.specs.Laws.{narrow_word}
use Rattle.lane_kernels.proofs.VectorLanes.{lane_splat, length_splat, by_zip}
use Rattle.lane_kernels.proofs.Scalars.{complement_true, complement_narrowed}
use Rattle.lane_kernels.proofs.bits.complement.Goals as goal

pub returns-then-is_bool : goal.returns-then-is_bool
returns-then-is_bool g c =
    let fa : (k : ℕ) → slice_index c.args.a k < 2 ^ 64 = λ k. search rules in
    λ i h. lane_splat g.row.W i 1 h
    ∙ sym (complement_true c.args.ty (slice_index c.args.a i) (sym c.is_bool.ensures ∙ c.if-is_bool.true) (fa i))

pub returns-else-is_bool : goal.returns-else-is_bool
returns-else-is_bool g c =
    let la : length c.args.a ≡ g.row.W = omega arith in
    let fa : (k : ℕ) → slice_index c.args.a k < 2 ^ 64 = λ k. search rules in
    let f : ℕ → ℕ → ℕ = λ x y. (x + (2 ^ 64 - y)) % 2 ^ 64 in
    λ i h.
    let splat : length (replicate g.row.W (2 ^ 64 - 1)) ≡ g.row.W = length_splat g.row.W (2 ^ 64 - 1) in
    ap (λ l. slice_index l i) c.narrow_lanes.ensures
    ∙ by_zip g.row.W (narrow_word c.args.ty) f (replicate g.row.W (2 ^ 64 - 1)) c.args.a i h splat la
    ∙ ap (λ n. narrow_word c.args.ty ((n + (2 ^ 64 - slice_index c.args.a i)) % 2 ^ 64)) (lane_splat g.row.W i (2 ^ 64 - 1) h)
    ∙ sym (complement_narrowed c.args.ty (slice_index c.args.a i) (sym c.is_bool.ensures ∙ c.if-is_bool.false) (fa i))
