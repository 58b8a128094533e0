-- What a write to a region's range leaves.
use Rattle.std.proofs.Common.{ℕ, ◌+◌, ◌≤◌, Bool, true, false, ◌≡◌, refl, sym, ◌∙◌, ap, subst, arith, List, Some}
use Rattle.std.specs.Prelude.{if◌then◌else◌}
use Rattle.undo_log.specs.History.{History}
use Rattle.gang_memory.specs.declared.parts.Part.{Part}
use Rattle.gang_memory.specs.Recorded.{without_words}
use Rattle.gang_memory.specs.Writes.{IsKeptOutside}
use Rattle.machine_states.specs.Regions.{Region, same_region, with_region}
use Rattle.machine_states.proofs.ChangedRegions.{region_here}
use Rattle.machine_words.specs.declared.words.MachineWords.{MachineWords}
use Rattle.machine_words.specs.Ranges.{IsLaid, range_of, regions_of, words_at}
use Rattle.machine_words.specs.Words.{AreLaid, Writes, left_of, regions_in, words_of}
use Rattle.machine_words.proofs.Apart.{changes_only, same_range}
use Rattle.machine_words.proofs.RangeWords.{words_in}

pub written : {T : Type 0} (history : T → History) (left : T → ℕ) (width : ℕ) (old new : MachineWords T) → AreLaid history width old → (region : Region) (p : Part) → range_of width old.layout region ≡ Some p
    → (after : List ℕ) (writes : ℕ) → new.layout ≡ old.layout → IsKeptOutside p.first p.len (words_of history old) (words_of history new) → words_in p (words_of history new) ≡ after
    → without_words (history new.store.timeline) ≡ without_words (history old.store.timeline) → left_of history left old ≤ left_of history left new + writes → Writes history left width region after writes old new
written history left width old new laid region p is after writes layout kept here rest few = record {
  changes = changes_only width old.layout laid.planned (words_of history old) (words_of history new) laid.long region p is kept after here;
  layout = layout;
  laid = subst (λ l. IsLaid width l (words_of history new)) (sym layout) (record { planned = laid.planned; long = kept.long ∙ laid.long; small = laid.small });
  rest = rest;
  few = few;
}

-- nothing is written
pub unwritten : {T : Type 0} (history : T → History) (left : T → ℕ) (width : ℕ) (machine : MachineWords T) → AreLaid history width machine → (region : Region)
    → Writes history left width region (regions_in history width machine region) 0 machine machine
unwritten history left width machine laid region = record {
  changes = λ r. by_test r (same_region region r) refl;
  layout = refl;
  laid = laid;
  rest = refl;
  few = omega arith;
}
  where
    by_test : (r : Region) (b : Bool) → same_region region r ≡ b
        → regions_in history width machine r ≡ (if b then regions_in history width machine region else regions_in history width machine r)
    by_test r true e = ap (λ o. words_at o (words_of history machine)) (sym (same_range width machine.layout region r e))
    by_test r false e = refl

-- a region that was written has its words
pub region_written : {T : Type 0} (history : T → History) (left : T → ℕ) (width : ℕ) (region : Region) (after : List ℕ) (n : ℕ) (old new : MachineWords T)
    → Writes history left width region after n old new → regions_in history width new region ≡ after
region_written history left width region after n old new writes =
    subst (λ l. regions_of width l (words_of history new) region ≡ with_region region after (regions_in history width old) region)
    (sym writes.layout) (writes.changes region)
    ∙ region_here after (regions_in history width old) region

-- a region is written, and then again
pub written_again : {T : Type 0} (history : T → History) (left : T → ℕ) (width : ℕ) (region : Region) (first second : List ℕ) (m n : ℕ) (old mid new : MachineWords T)
    → Writes history left width region first m old mid → Writes history left width region second n mid new → Writes history left width region second (m + n) old new
written_again history left width region first second m n old mid new one two = record {
  changes = λ r.
      subst (λ l. regions_of width l (words_of history new) r ≡ with_region region second (regions_of width l (words_of history mid)) r) one.layout (two.changes r)
      ∙ by_test r (same_region region r) refl;
  layout = two.layout ∙ one.layout;
  laid = two.laid;
  rest = two.rest ∙ one.rest;
  few = omega (arith, one.few, two.few);
}
  where
    by_test : (r : Region) (b : Bool) → same_region region r ≡ b
        → (if b then second else regions_of width old.layout (words_of history mid) r) ≡ (if b then second else regions_of width old.layout (words_of history old) r)
    by_test r true e = refl
    by_test r false e = one.changes r ∙ ap (λ b. if b then first else regions_of width old.layout (words_of history old) r) e
