-- Elements of an array are stored to: the regions show the state after it.
use Rattle.std.proofs.Common.{◌≡◌, refl, sym, ap, ◌∙◌, subst, ℕ, suc, Bool, true, false, List, [], ◌∷◌, length, arith}
use Rattle.std.specs.Prelude.{if◌then◌else◌}
use Rattle.gang_types.specs.declared.places.VarId.{VarId}
use Rattle.gang_types.specs.declared.places.VarId.TheVariants.{File, Local}
use Rattle.gang_types.specs.Lanes.{Lanes}
use Rattle.gang_model.specs.Types.Tree.{Program}
use Rattle.gang_model.specs.Running.State.{Store, View, same_id, with_words, words_of}
use Rattle.gang_model.specs.Running.Step.{scattered_from, ToElements, write}
use Rattle.mask_states.specs.Masked.{Masked}
use Rattle.machine_states.specs.Variables.{Variables}
use Rattle.machine_states.specs.ArrayParts.{AreMemory, array_region}
use Rattle.machine_states.specs.Regions.{Regions, same_region, with_region}
use Rattle.machine_states.specs.Shows.{Shows}
use Rattle.machine_states.specs.Effects.{stored_in, stored_region}
use Rattle.machine_states.proofs.ChangedRegions.{MayHave, array_depth, frames_kept}
use Rattle.machine_states.proofs.FramesBelow.{frames_below}
use Rattle.machine_states.proofs.StoreWords.{itself, same_variable, words_kept, words_set}

-- as many words as before
pub length-stored : (k : ℕ) (lanes : Lanes) (slots values words : List ℕ) → length (scattered_from k lanes slots values words) ≡ length words
length-stored k lanes slots values [] = refl
length-stored k lanes slots values (old ∷ words) = ap suc (length-stored (suc k) lanes slots values words)

-- arrays that are the same have one region
same_array : (u v : VarId) → same_region (array_region u) (array_region v) ≡ same_id u v
same_array (File m) (File n) = refl
same_array (File m) (Local n) = refl
same_array (Local m) (File n) = refl
same_array (Local m) (Local n) = refl

may_have : (index : ℕ) (v : VarId) (words : List ℕ) (regions : Regions) → length words ≡ length (regions (array_region v)) → MayHave index (array_region v) words regions
may_have index (File k) words regions long = long
may_have index (Local k) words regions long = long

-- an array has these words
module _ (array : VarId) (words : List ℕ) (regions : Regions) where
  abbrev pub new : Regions
  new = with_region (array_region array) words regions

  by_test : (memory : Store) → AreMemory regions memory → (v : VarId) (b : Bool) → same_id array v ≡ b
      → words_of (with_words memory array words) v ≡ (if b then words else regions (array_region v))
  by_test memory all v true e = subst (λ u. words_of (with_words memory array words) u ≡ words) (same_variable array v e) (words_set memory array words)
  by_test memory all v false e = words_kept array v words (λ h. apart h) memory ∙ all v
    where
      apart : v ≡ array → ⊥
      apart h = let here = ap (λ u. same_id array u) h ∙ itself array in cc

  pub array_written : (memory : Store) → AreMemory regions memory → AreMemory (with_region (array_region array) words regions) (with_words memory array words)
  array_written memory all v =
      by_test memory all v (same_id array v) refl ∙ ap (λ b. if b then words else regions (array_region v)) (sym (same_array array v))

  -- as many as before: the regions show the state in which it has them
  pub array_shows : (p : Program) (variables : Variables) (w : ℕ) (masked : Masked) → Shows p variables w regions masked → length words ≡ length (regions (array_region array))
      → Shows p variables w (with_region (array_region array) words regions) (record masked { state = record masked.state { memory = with_words masked.state.memory array words } })
  array_shows p variables w masked shows long = record {
    memory = array_written masked.state.memory shows.memory;
    depth = array_depth words regions array ∙ shows.depth;
    few = shows.few;
    frames = frames_below p variables w regions new (length masked.state.frames)
        (frames_kept words regions (length masked.state.frames) (array_region array) (may_have (length masked.state.frames) array words regions long)) masked.state.frames masked.levels (omega arith) shows.frames;
  }

-- lanes have stored values to elements of a part of an array
module _ (p : Program) (variables : Variables) (w : ℕ) (regions : Regions) (masked : Masked) (shows : Shows p variables w regions masked)
    (view : View) (lanes : Lanes) (indices values : List ℕ) where
  pub stored_shows : Shows p variables w (stored_in view lanes indices values regions) (record masked { state = write (ToElements view indices) lanes values masked.state })
  stored_shows =
      let after : List ℕ = stored_region view lanes indices values (regions (array_region view.array)) in
      subst (λ ws. Shows p variables w (with_region (array_region view.array) after regions)
      (record masked { state = record masked.state { memory = with_words masked.state.memory view.array (stored_region view lanes indices values ws) } })) (sym (shows.memory view.array))
      (array_shows view.array after regions p variables w masked shows (length-stored 0 lanes _ values (regions (array_region view.array))))
