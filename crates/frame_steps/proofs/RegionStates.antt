-- A state whose variables and arrays have the words of a machine's regions: those of the file, the entry's arrays, and those of the frame of
-- one number.
use Rattle.std.proofs.Common.{◌≡◌, ◌≢◌, refl, sym, ap, ◌∙◌, ℕ, zero, suc, ◌<◌, ◌≤◌, Bool, true, false, cond, nat_lt, ◌==◌, ◌&&◌, List, [], ◌∷◌, length, slice_get, slice_index, None, arith}
use Rattle.std.proofs.Math.Bool.{and-false}
use Rattle.std.proofs.lemmas.Bool.{eqb-false, eqb-true, le-ltb}
use Rattle.gang_types.specs.declared.places.VarId.{VarId}
use Rattle.gang_types.specs.declared.places.VarId.TheVariants.{File, Local}
use Rattle.gang_model.specs.Types.Tree.{Nothing}
use Rattle.gang_model.specs.Running.Lanes.{at}
use Rattle.gang_model.specs.Running.State.{State, Store, View, view_in, view_of, words_in, words_of}
use Rattle.undo_log.specs.History.{History}
use Rattle.gang_memory.specs.Layouts.{ranges}
use Rattle.machine_states.specs.Effects.{region_of}
use Rattle.machine_states.specs.ArrayParts.{AreMemory, no_view, view_at, view_kept}
use Rattle.machine_states.specs.Regions.{OfEntry, OfFile, OfLocal, Region, Regions}
use Rattle.machine_words.specs.declared.words.MachineWords.{MachineWords}
use Rattle.machine_words.specs.Ranges.{is_there, number_of, words_at}
use Rattle.machine_words.specs.Words.{regions_in}
use Rattle.frame_steps.specs.Read.{HasRegions}

-- the first n variables, with these words, and then others
abbrev store_of : (named : ℕ → VarId) → (words : ℕ → List ℕ) → (n : ℕ) → Store → Store
store_of named words zero others = others
store_of named words (suc n) others = (named n, words n) ∷ store_of named words n others

by_test : (words : ℕ → List ℕ) (n k : ℕ) (b : Bool) (rest : List ℕ) → (n == k) ≡ b → (n ≢ k → rest ≡ words k) → cond b (words n) rest ≡ words k
by_test words n k true rest e h = ap words (eqb-true n k e)
by_test words n k false rest e h = h (eqb-false n k e)

own_words : (words : ℕ → List ℕ) (n k : ℕ) → (n ≤ k → words k ≡ []) → words_of (store_of Local words n []) (Local k) ≡ words k
own_words words zero k none = sym (none (omega arith))
own_words words (suc n) k none = by_test words n k (n == k) (words_of (store_of Local words n []) (Local k)) refl (λ d. own_words words n k (λ h. none (omega arith)))

no_file : (words : ℕ → List ℕ) (n k : ℕ) → words_of (store_of Local words n []) (File k) ≡ []
no_file words zero k = refl
no_file words (suc n) k = no_file words n k

module _ (words others : ℕ → List ℕ) (m k : ℕ) where
  file_words : (n : ℕ) → (n ≤ k → words k ≡ []) → words_of (store_of File words n (store_of Local others m [])) (File k) ≡ words k
  file_words zero none = no_file others m k ∙ sym (none (omega arith))
  file_words (suc n) none = by_test words n k (n == k) (words_of (store_of File words n (store_of Local others m [])) (File k)) refl (λ d. file_words n (λ h. none (omega arith)))

  entry_words : (n : ℕ) → (m ≤ k → others k ≡ []) → words_of (store_of File words n (store_of Local others m [])) (Local k) ≡ others k
  entry_words zero none = own_words others m k none
  entry_words (suc n) none = entry_words n none

-- the first n parameters, with these parts of arrays
abbrev views_of : (views : ℕ → View) → (n : ℕ) → List (VarId × View)
views_of views zero = []
views_of views (suc n) = (Local n, views n) ∷ views_of views n

view_by_test : (views : ℕ → View) (n k : ℕ) (b : Bool) (rest : View) → (n == k) ≡ b → (n ≢ k → rest ≡ views k) → cond b (views n) rest ≡ views k
view_by_test views n k true rest e h = ap views (eqb-true n k e)
view_by_test views n k false rest e h = h (eqb-false n k e)

own_view : (views : ℕ → View) (n k : ℕ) → (n ≤ k → views k ≡ no_view (Local k)) → view_in (views_of views n) (Local k) ≡ views k
own_view views zero k none = sym (none (omega arith))
own_view views (suc n) k none = view_by_test views n k (n == k) (view_in (views_of views n) (Local k)) refl (λ d. own_view views n k (λ h. none (omega arith)))

module _ {T : Type 0} (history : T → History) (width : ℕ) (words : MachineWords T) (frame : ℕ) where
  abbrev regions : Regions
  regions = regions_in history width words

  -- a region that is not there has no words
  pub no_words : (region : Region) → is_there words.layout region ≡ false → regions_in history width words region ≡ []
  no_words region e = ap (λ b. words_at (cond b (slice_get (ranges width words.layout) (number_of words.layout region)) None) (history words.store.timeline).words) e

  pub no_file_words : (k : ℕ) → length words.layout.file.items ≤ k → regions_in history width words (OfFile k) ≡ []
  no_file_words k h = no_words (OfFile k) (le-ltb k (length words.layout.file.items) h)

  pub no_entry_words : (k : ℕ) → length words.layout.entry.items ≤ k → regions_in history width words (OfEntry k) ≡ []
  no_entry_words k h = no_words (OfEntry k) (le-ltb k (length words.layout.entry.items) h)

  pub no_local_words : (k : ℕ) → words.layout.frames.variables ≤ k → regions_in history width words (OfLocal frame k) ≡ []
  no_local_words k h =
      no_words (OfLocal frame k)
      (ap (λ b. nat_lt frame words.layout.frames.count && b) (le-ltb k words.layout.frames.variables h) ∙ and-false (nat_lt frame words.layout.frames.count))

  abbrev pub region_state : State
  region_state = record {
    memory = store_of File (λ k. regions (OfFile k)) (length words.layout.file.items) (store_of Local (λ k. regions (OfEntry k)) (length words.layout.entry.items) []);
    frames = record {
      function = 0;
      lanes = [];
      call = None;
      result_for = Nothing;
      views = views_of (λ k. view_at regions frame (Local k)) words.layout.frames.variables;
      vars = store_of Local (λ k. regions (OfLocal frame k)) words.layout.frames.variables [];
      result = [];
      tasks = [];
    } ∷ [];
  }

  -- so has each array, and each name stands for the part of an array that the regions keep
  pub region_state_memory : AreMemory (regions_in history width words) region_state.memory
  region_state_memory (File k) =
      file_words (λ j. regions (OfFile j)) (λ j. regions (OfEntry j)) (length words.layout.entry.items) k (length words.layout.file.items) (no_file_words k)
  region_state_memory (Local k) =
      entry_words (λ j. regions (OfFile j)) (λ j. regions (OfEntry j)) (length words.layout.entry.items) k (length words.layout.file.items) (no_entry_words k)

  pub region_state_views : (v : VarId) → view_of region_state v ≡ view_at (regions_in history width words) frame v
  region_state_views (File k) = ap (λ ws. record { array = File k; first = 0; len = length ws }) (region_state_memory (File k))
  region_state_views (Local k) =
      own_view (λ j. view_at regions frame (Local j)) words.layout.frames.variables k (λ h. ap (view_kept regions (Local k)) (no_local_words k h))

  -- each variable has the words of its region
  pub region_state_has : (v : VarId) → words_in region_state v ≡ regions_in history width words (region_of frame v)
  region_state_has (File k) = region_state_memory (File k)
  region_state_has (Local k) = own_words (λ j. regions (OfLocal frame j)) words.layout.frames.variables k (no_local_words k)

  pub region_state_is : HasRegions (regions_in history width words) frame region_state
  region_state_is = record { words = region_state_has; memory = region_state_memory; views = region_state_views }

  -- what is read of each state that has those, is read of the regions
  pub read_regions : (found : List ℕ) (v : VarId) (place : ℕ → ℕ)
      → ((state : State) → HasRegions (regions_in history width words) frame state → (k : ℕ) → k < width → slice_index found k ≡ at (words_in state v) (place k))
      → (k : ℕ) → k < width → slice_index found k ≡ at (regions_in history width words (region_of frame v)) (place k)
  read_regions found v place of_each k h = of_each region_state region_state_is k h ∙ ap (λ ws. at ws (place k)) (region_state_has v)
