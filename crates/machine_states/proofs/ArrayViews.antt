-- The parts of arrays that regions keep.
use Rattle.std.proofs.Common.{◌≡◌, refl, ap, ◌∙◌, ℕ, ◌+◌, ◌≤◌, Bool, true, false, List, [], ◌∷◌, length, arith}
use Rattle.std.specs.Prelude.{nat_le, if◌then◌else◌}
use Rattle.std.proofs.lemmas.Bool.Decides.{nat_tests}
use Rattle.gang_types.specs.declared.places.VarId.{VarId}
use Rattle.gang_types.specs.declared.places.VarId.TheVariants.{File, Local}
use Rattle.gang_model.specs.Running.State.{Store, View}
use Rattle.machine_states.specs.ArrayParts.{AreMemory, IsInside, array_region, no_view, view_at, view_kept, view_of_words}
use Rattle.machine_states.specs.Regions.{OfEntry, OfFile, Depth, OfHead, OfLocal, Region, Regions, with_region}
use Rattle.machine_states.proofs.ChangedRegions.{HaveSameLengths}

-- ---- each lies in its array

at_most : (a b : ℕ) → nat_le a b ≡ true → a ≤ b
at_most a b h = grind (arith, nat_tests)

module _ (regions : Regions) where
  either_inside : (v : VarId) (view : View) (b : Bool) → nat_le (view.first + view.len) (length (regions (array_region view.array))) ≡ b → IsInside regions (if b then view else no_view v)
  either_inside v view true e = at_most (view.first + view.len) (length (regions (array_region view.array))) e
  either_inside v view false e = omega arith

  kept_inside : (v : VarId) (words : List ℕ) → IsInside regions (view_kept regions v words)
  kept_inside v [] = omega arith
  kept_inside v (word ∷ words) =
      let view = view_of_words (word ∷ words) in
      either_inside v view (nat_le (view.first + view.len) (length (regions (array_region view.array)))) refl

  -- whatever the words are
  pub view_inside : (frame : ℕ) (v : VarId) → IsInside regions (view_at regions frame v)
  view_inside frame (File k) = omega arith
  view_inside frame (Local k) = kept_inside (Local k) (regions (OfLocal frame k))

-- ---- they are the same where arrays have as many words as before

kept_same : (old new : Regions) → HaveSameLengths old new → (v : VarId) (words : List ℕ) → view_kept new v words ≡ view_kept old v words
kept_same old new lengths v [] = refl
kept_same old new lengths v (word ∷ words) =
    let view = view_of_words (word ∷ words) in
    ap (λ n. if nat_le (view.first + view.len) n then view else no_view v) (lengths view.array)

pub view_same : (old new : Regions) → HaveSameLengths old new → (i k : ℕ) → new (OfLocal i k) ≡ old (OfLocal i k) → view_at new i (Local k) ≡ view_at old i (Local k)
view_same old new lengths i k same = ap (view_kept new (Local k)) same ∙ kept_same old new lengths (Local k) (old (OfLocal i k))

-- ---- arrays are the same where another region changes

abbrev pub IsNoArray : Region → Type 0
IsNoArray (OfFile k) = ⊥
IsNoArray (OfEntry k) = ⊥
IsNoArray region = Unit {0}

pub memory_kept : (region : Region) → IsNoArray region → (words : List ℕ) (old : Regions) (memory : Store) → AreMemory old memory → AreMemory (with_region region words old) memory
memory_kept (OfFile n) other words old memory all v = absurd other
memory_kept (OfEntry n) other words old memory all v = absurd other
memory_kept Depth other words old memory all (File k) = all (File k)
memory_kept Depth other words old memory all (Local k) = all (Local k)
memory_kept (OfHead i part) other words old memory all (File k) = all (File k)
memory_kept (OfHead i part) other words old memory all (Local k) = all (Local k)
memory_kept (OfLocal i n) other words old memory all (File k) = all (File k)
memory_kept (OfLocal i n) other words old memory all (Local k) = all (Local k)
