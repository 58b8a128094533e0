-- What a write leaves in each region, and how many words the regions have.
use Rattle.std.proofs.Common.{◌≡◌, refl, ◌∙◌, ap, subst, ℕ, ◌<◌, true, false, List, [], ◌∷◌, length, arith}
use Rattle.std.specs.Prelude.{replicate, slice_set}
use Rattle.gang_types.specs.Lanes.{Lanes}
use Rattle.gang_model.specs.Running.Lanes.{merged}
use Rattle.undo_log.specs.History.{History}
use Rattle.machine_states.specs.Regions.{Head, Depth, OfHead, Region, same_head, same_region, with_region}
use Rattle.machine_states.proofs.ChangedRegions.{part_away, region_away, region_here}
use Rattle.machine_words.specs.declared.words.MachineWords.{MachineWords}
use Rattle.machine_words.specs.Ranges.{regions_of, head_size, levels_of}
use Rattle.machine_words.specs.Words.{AreLaid, Writes, regions_in, words_of}
use Rattle.machine_words.proofs.AllLanes.{merged_all}
use Rattle.machine_words.proofs.Sizes.{depth_words, head_words}

pub written_regions : {T : Type 0} {history : T → History} {left : T → ℕ} {width : ℕ} {region : Region} {after : List ℕ} {writes : ℕ} {old new : MachineWords T}
    → Writes history left width region after writes old new → (r : Region) → regions_in history width new r ≡ with_region region after (regions_in history width old) r
written_regions {T} {history} {left} {width} {region} {after} {writes} {old} {new} w r =
    ap (λ layout. regions_of width layout (words_of history new) r) w.layout ∙ w.changes r

-- the region that is written, and another one
pub written_here : {T : Type 0} {history : T → History} {left : T → ℕ} {width : ℕ} {region : Region} {after : List ℕ} {writes : ℕ} {old new : MachineWords T}
    → Writes history left width region after writes old new → regions_in history width new region ≡ after
written_here {T} {history} {left} {width} {region} {after} {writes} {old} {new} w =
    written_regions w region ∙ region_here after (regions_in history width old) region

pub written_away : {T : Type 0} {history : T → History} {left : T → ℕ} {width : ℕ} {region : Region} {after : List ℕ} {writes : ℕ} {old new : MachineWords T}
    → Writes history left width region after writes old new → (r : Region) → same_region region r ≡ false → regions_in history width new r ≡ regions_in history width old r
written_away {T} {history} {left} {width} {region} {after} {writes} {old} {new} w r h =
    written_regions w r ∙ region_away after (regions_in history width old) region r h

-- another part of the same head
pub written_part : {T : Type 0} {history : T → History} {left : T → ℕ} {width i : ℕ} {part : Head} {after : List ℕ} {writes : ℕ} {old new : MachineWords T}
    → Writes history left width (OfHead i part) after writes old new → (other : Head) → same_head part other ≡ false
    → regions_in history width new (OfHead i other) ≡ regions_in history width old (OfHead i other)
written_part {T} {history} {left} {width} {i} {part} {after} {writes} {old} {new} w other h =
    written_regions w (OfHead i other) ∙ part_away after (regions_in history width old) i part other h

-- the only word of a region is set
pub one_word : (words : List ℕ) (value : ℕ) → length words ≡ 1 → slice_set words 0 value ≡ value ∷ []
one_word [] value long = absurd (omega (arith, long))
one_word (x ∷ []) value long = refl
one_word (x ∷ y ∷ words) value long = absurd (omega (arith, long))

module _ {T : Type 0} (history : T → History) (left : T → ℕ) (width : ℕ) (region : Region) (old new : MachineWords T) where
  pub only_word : (value meant : ℕ) → length (regions_in history width old region) ≡ 1 → value ≡ meant
      → Writes history left width region (slice_set (regions_in history width old region) 0 value) 1 old new → Writes history left width region (meant ∷ []) 1 old new
  only_word value meant long same w =
      subst (λ after. Writes history left width region after 1 old new) (one_word (regions_in history width old region) value long ∙ ap (λ n. n ∷ []) same) w

  -- the words of all lanes are set
  pub all_words : (all : Lanes) (values : List ℕ) → all ≡ replicate width true → length values ≡ width → length (regions_in history width old region) ≡ width
      → Writes history left width region (merged all values (regions_in history width old region)) width old new → Writes history left width region values width old new
  all_words all values is given long w =
      subst (λ after. Writes history left width region after width old new)
      (ap (λ lanes. merged lanes values (regions_in history width old region)) is ∙ merged_all width values (regions_in history width old region) given long) w

-- ---- sizes

module _ {T : Type 0} (history : T → History) (width : ℕ) (machine : MachineWords T) (laid : AreLaid history width machine) where
  pub head_long : (i : ℕ) (part : Head) → i < 64 → length (regions_in history width machine (OfHead i part)) ≡ head_size width (levels_of machine.layout) part
  head_long i part h = head_words width machine.layout (words_of history machine) laid i part (omega (arith, h, laid.planned.count))

  pub depth_long : length (regions_in history width machine Depth) ≡ 1
  depth_long = depth_words width machine.layout (words_of history machine) laid
