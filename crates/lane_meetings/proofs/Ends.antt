-- Before the first step, and sums that words hold.
use Rattle.std.proofs.Common.{◌≡◌, sym, ap, subst, ℕ, suc, ◌*◌, ◌^◌, ◌<◌, ◌≤◌, Bool, true, false, List, [], ◌∷◌, length, Option, Some, arith}
use Rattle.std.specs.Prelude.{◌==◌, nat_lt, if◌then◌else◌}
use Rattle.std.proofs.lemmas.Nat.{mul-le, row_fits}
use Rattle.gang_types.specs.Lanes.{Lanes}
use Rattle.lane_counts.specs.Steps.{Stand, depth, next_in_frame, parts}
use Rattle.lane_meetings.specs.declared.meetings.Meetings.{Meetings}
use Rattle.lane_meetings.specs.Partings.{Measure, Times, Between, AreDistinct, Meeting, amount, frame_steps, given, has_all, later_by, meeting, parted, rows_give, weight}
use Rattle.lane_meetings.specs.Pending.{Fits, IsBegun, counted_with, pending}

pub begun_counts : (meetings : Meetings) → IsBegun meetings → (measure : Measure) (chosen : ℕ → Option ℕ → Bool) (stands : List Stand) → counted_with measure chosen meetings stands ≡ parted measure chosen stands
begun_counts meetings begun measure chosen stands =
    let rows : rows_give measure chosen meetings.rows.rows.items ≡ 0 = ap (rows_give measure chosen) begun.rows in
    let waiting : pending measure chosen meetings.waiting.items stands ≡ 0 = ap (λ w. pending measure chosen w stands) begun.waiting in
    omega (arith, rows, waiting)

pub begun_distinct : (meetings : Meetings) → IsBegun meetings → AreDistinct meetings.rows.rows.items
begun_distinct meetings begun = subst AreDistinct (sym begun.rows) (λ line meets_at. omega arith)

-- ---- how large the sums are

frame_few : (deep : ℕ) (later : List Stand) → length (frame_steps deep later) ≤ length later
frame_few deep [] = omega arith
frame_few deep (stand ∷ later) = go (nat_lt deep (depth stand)) (depth stand == deep) (frame_few deep later)
  where
    go : (above here : Bool) → length (frame_steps deep later) ≤ length later → length (if above then frame_steps deep later else (if here then stand ∷ frame_steps deep later else [])) ≤ suc (length later)
    go true here few = omega (arith, few)
    go false true few = omega (arith, few)
    go false false few = omega arith

meeting_few : (lanes : Lanes) (steps : List Stand) → (meeting lanes steps).between ≤ length steps
meeting_few lanes [] = omega arith
meeting_few lanes (stand ∷ later) = go (has_all lanes stand.lanes) (meeting_few lanes later)
  where
    go : (all : Bool) → (meeting lanes later).between ≤ length later → (if all then record { at = Some stand.line; between = 0 } else later_by 1 (meeting lanes later)).between ≤ suc (length later)
    go true few = omega arith
    go false few = omega (arith, few)

module _ (measure : Measure) (chosen : ℕ → Option ℕ → Bool) where
  weight_few : (line most : ℕ) (m : Meeting) → m.between ≤ most → weight measure chosen line m ≤ suc most
  weight_few line most m few = go measure (chosen line m.at)
    where
      go : (it : Measure) (b : Bool) → (if b then amount it 1 m.between else 0) ≤ suc most
      go it false = omega arith
      go Times true = omega arith
      go Between true = omega (arith, few)

  given_few : (stand : Stand) (later : List Stand) → given measure chosen stand later ≤ suc (length later)
  given_few stand later =
      let few : (meeting stand.lanes (frame_steps (depth stand) later)).between ≤ length later = omega (arith, meeting_few stand.lanes (frame_steps (depth stand) later), frame_few (depth stand) later) in
      go (parts stand.lanes (next_in_frame (depth stand) later)) (weight_few stand.line (length later) (meeting stand.lanes (frame_steps (depth stand) later)) few)
    where
      go : (b : Bool) → weight measure chosen stand.line (meeting stand.lanes (frame_steps (depth stand) later)) ≤ suc (length later)
          → (if b then weight measure chosen stand.line (meeting stand.lanes (frame_steps (depth stand) later)) else 0) ≤ suc (length later)
      go true few = few
      go false few = omega arith

  parted_few : (stands : List Stand) → parted measure chosen stands ≤ length stands * length stands
  parted_few [] = omega arith
  parted_few (stand ∷ later) =
      let n = length later in
      omega (arith, given_few stand later, parted_few later, mul-le n n n (suc n) (omega arith) (omega arith), row_fits n (suc n) (suc n) (suc n) (omega arith) (omega arith))

  pub fits_parted : (stands : List Stand) → length stands < 2 ^ 32 → Fits (parted measure chosen stands)
  fits_parted stands few =
      let n = length stands in
      let all : n * n ≤ 4294967295 * 4294967295 = mul-le n n 4294967295 4294967295 (omega (arith, few)) (omega (arith, few)) in
      omega (arith, parted_few stands, all)
