-- The region of a variable of the frame at a depth has neither the number of frames nor a word of a frame above.
use Rattle.std.proofs.Common.{◌≡◌, refl, sym, subst, ℕ, suc, ◌<◌, ◌≤◌, Bool, true, false, List, min, arith}
use Rattle.std.specs.Prelude.{slice_index, ◌==◌, if◌then◌else◌}
use Rattle.std.proofs.lemmas.Bool.{and_left, ne_eqb}
use Rattle.gang_types.specs.declared.types.Rate.{Rate}
use Rattle.gang_types.specs.declared.places.VarId.{VarId}
use Rattle.gang_types.specs.declared.places.VarId.TheVariants.{File, Local}
use Rattle.machine_states.specs.ArrayParts.{array_region, view_at}
use Rattle.machine_states.specs.Effects.{region_of}
use Rattle.machine_states.specs.Regions.{Depth, Head, OfEntry, OfFile, OfHead, OfLocal, Region, Regions, with_region}
use Rattle.machine_states.proofs.ChangedRegions.{region_away}
use Rattle.machine_states.proofs.NextPoints.{same_word}
use Rattle.frame_steps.specs.declared.compiled.CompiledProgram.{CompiledProgram}
use Rattle.machine_shown.specs.Frames.{regions_up_to}
use Rattle.machine_shown.specs.ShownWords.{HasWords, OfElements, OfScalar, WordsShown, region_shown}

-- a region of the file, of an array of the entry, or of a variable of one of so many frames, the lowest ones
abbrev pub IsOfLower : (height : ℕ) → Region → Type 0
IsOfLower height (OfFile k) = Unit {0}
IsOfLower height (OfEntry k) = Unit {0}
IsOfLower height Depth = ⊥
IsOfLower height (OfHead i part) = ⊥
IsOfLower height (OfLocal i k) = i < height

-- ---- what stays where it is set

module _ (height : ℕ) (words : List ℕ) (regions : Regions) where
  pub depth_stays : (region : Region) → IsOfLower height region → with_region region words regions Depth ≡ regions Depth
  depth_stays (OfFile k) lower = refl
  depth_stays (OfEntry k) lower = refl
  depth_stays Depth lower = absurd lower
  depth_stays (OfHead i part) lower = absurd lower
  depth_stays (OfLocal i k) lower = refl

  pub heads_stay : (region : Region) → IsOfLower height region → (j : ℕ) (part : Head) → with_region region words regions (OfHead j part) ≡ regions (OfHead j part)
  heads_stay (OfFile k) lower j part = refl
  heads_stay (OfEntry k) lower j part = refl
  heads_stay Depth lower j part = absurd lower
  heads_stay (OfHead i other) lower j part = absurd lower
  heads_stay (OfLocal i k) lower j part = refl

  pub locals_stay : (region : Region) → IsOfLower height region → (j m : ℕ) → height ≤ j → with_region region words regions (OfLocal j m) ≡ regions (OfLocal j m)
  locals_stay (OfFile k) lower j m above = refl
  locals_stay (OfEntry k) lower j m above = refl
  locals_stay Depth lower j m above = absurd lower
  locals_stay (OfHead i part) lower j m above = absurd lower
  locals_stay (OfLocal i k) lower j m above =
      let below : i < height = lower in region_away words regions (OfLocal i k) (OfLocal j m) (and_left (i == j) (k == m) (ne_eqb i j (λ e. omega (arith, e, below, above))))

-- ---- those of a variable

module _ (deep : ℕ) (regions : Regions) where
  -- as many frames as there are up to the depth
  abbrev height : ℕ
  height = min deep (slice_index (regions Depth) 0)

  pub same_lower : (region : Region) → IsOfLower (min deep (slice_index (regions Depth) 0)) region → regions_up_to deep regions region ≡ regions region
  same_lower (OfFile k) lower = refl
  same_lower (OfEntry k) lower = refl
  same_lower Depth lower = absurd lower
  same_lower (OfHead i part) lower = absurd lower
  same_lower (OfLocal i k) lower = refl

  array_lower : (array : VarId) → IsOfLower height (array_region array)
  array_lower (File k) = tt
  array_lower (Local k) = tt

  file_lower : (k : ℕ) (rate : Rate) (b : Bool) → IsOfLower height (region_shown (if b then OfElements (view_at (regions_up_to deep regions) 0 (File k)) else OfScalar (region_of 0 (File k)) rate))
  file_lower k rate true = tt
  file_lower k rate false = tt

  local_lower : (i k : ℕ) (rate : Rate) → i < height → (b : Bool)
      → IsOfLower height (region_shown (if b then OfElements (view_at (regions_up_to deep regions) i (Local k)) else OfScalar (region_of i (Local k)) rate))
  local_lower i k rate below true = array_lower (view_at (regions_up_to deep regions) i (Local k)).array
  local_lower i k rate below false = below

  pub words_lower : (width : ℕ) (compiled : CompiledProgram) (id : VarId) (shown : WordsShown) → HasWords width compiled (regions_up_to deep regions) id shown
      → IsOfLower (min deep (slice_index (regions Depth) 0)) (region_shown shown)
  words_lower width compiled (File k) shown (v, is, shown_is) = subst (λ x. IsOfLower height (region_shown x)) (sym shown_is) (file_lower k v.rate v.is_array)
  words_lower width compiled (Local k) shown has =
      let i = has.active.frame in
      let all : height ≡ suc i = same_word (regions_up_to deep regions Depth) height (suc i) refl has.active_is.next.depth in
      subst (λ x. IsOfLower height (region_shown x)) (sym has.shown_is) (local_lower i k has.variable.rate (omega (arith, all)) has.variable.is_array)
