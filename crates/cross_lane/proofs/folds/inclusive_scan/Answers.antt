use Rattle.std.proofs.Common.{◌≡◌, ◌<◌, ◌≤◌, ◌+◌, ◌^◌, ℕ, arith, slice_index, ◌∙◌, ap, ◌⊎◌, inl, inr}
use Rattle.cross_lane.specs.Folds.{combined, neutral}
use Rattle.cross_lane.proofs.Spans.{span, span-whole, step, alone, joins, lane_fits}
use Rattle.cross_lane.proofs.folds.inclusive_scan.Goals.{then-this-gt4, else-this-gt4, then-this-gt8, else-this-gt8}
use Rattle.cross_lane.proofs.folds.inclusive_scan.Goals as goal
use Rattle.gang_types.specs.MaskLaws.{gang_width-le}

pub returns : goal.returns
returns g c =
    let fits : (k : ℕ) → slice_index c.args.words k < 2 ^ 64 = lane_fits c.args.words c.fits-words.1 in
    let one : (i : ℕ) → i < g.row.W → slice_index c.args.words i ≡ span (combined c.args.fold) (neutral c.args.fold) (slice_index c.args.words) (i + 1) 1 = λ i h. alone (combined c.args.fold) (neutral c.args.fold) (joins c.args.fold) (slice_index c.args.words) fits i in
    let two : (i : ℕ) → i < g.row.W → slice_index c.doubled.result i ≡ span (combined c.args.fold) (neutral c.args.fold) (slice_index c.args.words) (i + 1) 2 =
    step (combined c.args.fold) (neutral c.args.fold) (joins c.args.fold) (slice_index c.args.words) fits 1 g.row.W 1 c.args.words c.doubled.result one c.doubled.ensures (omega arith, omega arith) in
    let four : (i : ℕ) → i < g.row.W → slice_index c.doubled-folds.result i ≡ span (combined c.args.fold) (neutral c.args.fold) (slice_index c.args.words) (i + 1) 4 =
    step (combined c.args.fold) (neutral c.args.fold) (joins c.args.fold) (slice_index c.args.words) fits 1 g.row.W 2 c.doubled.result c.doubled-folds.result two c.doubled-folds.ensures (omega arith, omega arith) in
    let eight : ((i : ℕ) → i < g.row.W → slice_index c.if-this-gt4.folds i ≡ span (combined c.args.fold) (neutral c.args.fold) (slice_index c.args.words) (i + 1) 8)
    ⊎ ((g.row.W ≤ 4) × ((i : ℕ) → i < g.row.W → slice_index c.if-this-gt4.folds i ≡ span (combined c.args.fold) (neutral c.args.fold) (slice_index c.args.words) (i + 1) 4)) =
    elim c.if-this-gt4.branch [
      | then-this-gt4 w ↦ inl (λ i h. ap (λ l. slice_index l i) w.folds-is ∙ step (combined c.args.fold) (neutral c.args.fold) (joins c.args.fold) (slice_index c.args.words) fits 1 g.row.W 4 c.doubled-folds.result w.doubled-folds-then-this-gt4.result four w.doubled-folds-then-this-gt4.ensures (omega arith, omega arith) i h)
      | else-this-gt4 w ↦ inr (w.if-this-gt4.false, λ i h. ap (λ l. slice_index l i) w.folds-is ∙ four i h)
    ] in
    let whole : (n : ℕ) × (g.row.W ≤ n) × ((i : ℕ) → i < g.row.W → slice_index c.if-this-gt8.folds i ≡ span (combined c.args.fold) (neutral c.args.fold) (slice_index c.args.words) (i + 1) n) =
    elim c.if-this-gt8.branch [
      | then-this-gt8 w ↦
          elim eight [
            | inl f ↦ (16, gang_width-le g.row.W c.requires, λ i h. ap (λ l. slice_index l i) w.folds-is ∙ step (combined c.args.fold) (neutral c.args.fold) (joins c.args.fold) (slice_index c.args.words) fits 1 g.row.W 8 c.if-this-gt4.folds w.doubled-folds-then-this-gt8.result f w.doubled-folds-then-this-gt8.ensures (omega arith, omega arith) i h)
            | inr p ↦ absurd (omega arith)
          ]
      | else-this-gt8 w ↦
          elim eight [
            | inl f ↦ (8, w.if-this-gt8.false, λ i h. ap (λ l. slice_index l i) w.folds-is ∙ f i h)
            | inr p ↦ (4, p.0, λ i h. ap (λ l. slice_index l i) w.folds-is ∙ p.1 i h)
          ]
    ] in
    λ i h. whole.2 i h ∙ span-whole (combined c.args.fold) (neutral c.args.fold) (joins c.args.fold) (slice_index c.args.words) fits (i + 1) whole.0 (omega (arith, whole.1))
