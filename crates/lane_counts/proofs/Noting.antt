-- What a step makes of counts.
use Rattle.std.proofs.Common.{◌≡◌, refl, sym, ap, ◌∙◌, ℕ, ◌+◌, ◌≤◌, Bool, true, false, List, ◌∷◌, length, Option, Some, None, arith}
use Rattle.std.specs.Prelude.{◌&&◌, ◌==◌, nat_lt, if◌then◌else◌}
use Rattle.std.specs.Option.{is_some}
use Rattle.gang_types.specs.LaneLaws.{length-lanes_from}
use Rattle.gang_types.specs.Masks.{lanes_of, lanes_of_word}
use Rattle.gang_types.specs.declared.masks.Mask.{Mask}
use Rattle.lane_counts.specs.declared.counts.Counts.{Counts}
use Rattle.lane_counts.specs.declared.frames.LastStep.{LastStep}
use Rattle.lane_counts.specs.Counted.{IsFew, hits, noted}
use Rattle.lane_counts.specs.Steps.{Stand, active, depth, next_in_frame, one_if, parts}
use Rattle.lane_counts.specs.Pending.{hit}
use Rattle.lane_counts.specs.Tallies.{unparted_with, with_later}

pub lanes_length : (w : ℕ) (mask : Mask) → length (lanes_of w mask) ≡ w
unfolding lanes_of_word
lanes_length w mask = length-lanes_from 0 w _

abbrev pub counts : (a b c d : ℕ) → Counts
counts a b c d = record { steps = a; lane_steps = b; short_steps = c; partings = d }

pub same_counts : (a b c d a' b' c' d' : ℕ) → a ≡ a' → b ≡ b' → c ≡ c' → d ≡ d' → counts a b c d ≡ counts a' b' c' d'
same_counts a b c d a' b' c' d' ea eb ec ed =
    ap (λ x. counts x b c d) ea ∙ ap (λ x. counts a' x c d) eb ∙ ap (λ x. counts a' b' x d) ec ∙ ap (λ x. counts a' b' c' x) ed

-- a step that was to come has been counted
pub with_noted : (chosen : Stand → Bool) (c new : Counts) (is_counted : Bool) (lanes width parted old_decided new_decided : ℕ) (stand : Stand) (later : List Stand)
    → new ≡ noted is_counted lanes width parted c → chosen stand ≡ is_counted → active stand.lanes ≡ lanes → length stand.lanes ≡ width
    → old_decided + one_if (is_counted && parts stand.lanes (next_in_frame (depth stand) later)) ≡ new_decided + parted
    → with_later c old_decided chosen (stand ∷ later) ≡ with_later new new_decided chosen later
with_noted chosen c new is_counted lanes width parted old_decided new_decided stand later is here does wide decides =
    let steps_here : one_if (chosen stand) ≡ one_if is_counted = ap one_if here in
    let lanes_here : (if chosen stand then active stand.lanes else 0) ≡ (if is_counted then lanes else 0) =
    ap (λ b. if b then active stand.lanes else 0) here ∙ ap (λ n. if is_counted then n else 0) does in
    let short_here : one_if (chosen stand && nat_lt (active stand.lanes) (length stand.lanes)) ≡ one_if (is_counted && nat_lt lanes width) =
    ap (λ b. one_if (b && nat_lt (active stand.lanes) (length stand.lanes))) here ∙ ap (λ n. one_if (is_counted && nat_lt n (length stand.lanes))) does
    ∙ ap (λ n. one_if (is_counted && nat_lt lanes n)) wide in
    let part_here : one_if (chosen stand && parts stand.lanes (next_in_frame (depth stand) later)) ≡ one_if (is_counted && parts stand.lanes (next_in_frame (depth stand) later)) =
    ap (λ b. one_if (b && parts stand.lanes (next_in_frame (depth stand) later))) here in
    same_counts _ _ _ _ _ _ _ _ (omega (arith, steps_here)) (omega (arith, lanes_here)) (omega (arith, short_here)) (omega (arith, part_here, decides))
    ∙ ap (λ n. with_later n new_decided chosen later) (sym is)

-- the same without partings
pub with_unparted : (chosen : Stand → Bool) (c new : Counts) (is_counted : Bool) (lanes width : ℕ) (stand : Stand) (later : List Stand)
    → new ≡ noted is_counted lanes width 0 c → chosen stand ≡ is_counted → active stand.lanes ≡ lanes → length stand.lanes ≡ width
    → unparted_with c chosen (stand ∷ later) ≡ unparted_with new chosen later
with_unparted chosen c new is_counted lanes width stand later is here does wide =
    let steps_here : one_if (chosen stand) ≡ one_if is_counted = ap one_if here in
    let lanes_here : (if chosen stand then active stand.lanes else 0) ≡ (if is_counted then lanes else 0) =
    ap (λ b. if b then active stand.lanes else 0) here ∙ ap (λ n. if is_counted then n else 0) does in
    let short_here : one_if (chosen stand && nat_lt (active stand.lanes) (length stand.lanes)) ≡ one_if (is_counted && nat_lt lanes width) =
    ap (λ b. one_if (b && nat_lt (active stand.lanes) (length stand.lanes))) here ∙ ap (λ n. one_if (is_counted && nat_lt n (length stand.lanes))) does
    ∙ ap (λ n. one_if (is_counted && nat_lt lanes n)) wide in
    same_counts _ _ _ _ _ _ _ _ (omega (arith, steps_here)) (omega (arith, lanes_here)) (omega (arith, short_here)) (omega arith)
    ∙ ap (λ n. unparted_with n chosen later) (sym is)

-- a step that is not counted changes nothing
pub not_noted : (c : Counts) (lanes width : ℕ) → c ≡ noted false lanes width 0 c
not_noted c lanes width =
    same_counts c.steps c.lane_steps c.short_steps c.partings (c.steps + 0) (c.lane_steps + 0) (c.short_steps + 0) (c.partings + 0) (omega arith) (omega arith) (omega arith) (omega arith)

-- the same of a call, if the step is the first one of its frame
pub with_called : (chosen : Stand → Bool) (c new : Counts) (is_call is_counted : Bool) (lanes width : ℕ) (stand : Stand) (later : List Stand)
    → new ≡ noted (is_call && is_counted) lanes width 0 c → chosen stand ≡ is_counted → active stand.lanes ≡ lanes → length stand.lanes ≡ width
    → unparted_with c chosen (if is_call then stand ∷ later else later) ≡ unparted_with new chosen later
with_called chosen c new true is_counted lanes width stand later is here does wide = with_unparted chosen c new is_counted lanes width stand later is here does wide
with_called chosen c new false is_counted lanes width stand later is here does wide =
    ap (λ x. unparted_with x chosen later) (not_noted c lanes width ∙ sym is)

pub one_few : (b : Bool) → one_if b ≤ 1
one_few true = omega arith
one_few false = omega arith

lanes_few : (b : Bool) (lanes : ℕ) → lanes ≤ 16 → (if b then lanes else 0) ≤ 16
lanes_few true lanes h = h
lanes_few false lanes h = omega arith

-- bounds grow by as much as a step has lanes
pub few_noted : (c new : Counts) (n m : ℕ) (is_counted : Bool) (lanes width parted : ℕ) → new ≡ noted is_counted lanes width parted c → lanes ≤ 16 → parted ≤ 1 → n + 16 ≤ m
    → IsFew n c → IsFew m new
few_noted c new n m is_counted lanes width parted is wide one more few =
    let a : new.steps ≡ c.steps + one_if is_counted = ap (λ (x : Counts). x.steps) is in
    let b : new.lane_steps ≡ c.lane_steps + (if is_counted then lanes else 0) = ap (λ (x : Counts). x.lane_steps) is in
    let s : new.short_steps ≡ c.short_steps + one_if (is_counted && nat_lt lanes width) = ap (λ (x : Counts). x.short_steps) is in
    let d : new.partings ≡ c.partings + parted = ap (λ (x : Counts). x.partings) is in
    record {
      steps = omega (arith, a, one_few is_counted, few.steps, more);
      lane_steps = omega (arith, b, lanes_few is_counted lanes wide, few.lane_steps, more);
      short_steps = omega (arith, s, one_few (is_counted && nat_lt lanes width), few.short_steps, more);
      partings = omega (arith, d, one, few.partings, more);
    }

pub few_more : (c : Counts) (n m : ℕ) → n ≤ m → IsFew n c → IsFew m c
few_more c n m more few = record {
  steps = omega (arith, more, few.steps);
  lane_steps = omega (arith, more, few.lane_steps);
  short_steps = omega (arith, more, few.short_steps);
  partings = omega (arith, more, few.partings);
}

pub hits_few : (parted : Option ℕ) (number : ℕ) → hits parted number ≤ 1
hits_few None number = omega arith
hits_few (Some given) number = one_few (given == number)

pub hit_some : (parted : Option LastStep) → hit (λ last. true) parted ≡ one_if (is_some parted)
hit_some None = refl
hit_some (Some last) = refl
