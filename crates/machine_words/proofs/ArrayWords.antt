-- The elements of arrays among the words of a machine.
use Rattle.std.proofs.Common.{ℕ, ◌+◌, ◌-◌, ◌<◌, ◌≤◌, ◌⊎◌, inl, inr, Bool, true, false, cond, ◌≡◌, refl, sym, ◌∙◌, ap, subst, arith, List, [], ◌∷◌, length, Some, None}
use Rattle.std.specs.Prelude.{Option, Result, Ok, Err, MatchResult, OnOk, get_or, nat_le, nat_lt, slice_get}
use Rattle.std.proofs.lemmas.Bool.Decides.{nat_tests}
use Rattle.std.proofs.lemmas.Bool.{eq-eqb, le-ltb, ltb-true}
use Rattle.std.proofs.lemmas.Option.{slice_get_cases}
use Rattle.gang_types.specs.declared.faults.FaultName.{FaultName}
use Rattle.gang_types.specs.declared.faults.FaultName.TheVariants.{Index}
use Rattle.gang_types.specs.declared.places.VarId.{VarId}
use Rattle.gang_types.specs.declared.places.VarId.TheVariants.{File, Local}
use Rattle.gang_types.specs.Lanes.{Lanes, has, lowest, no_lane}
use Rattle.gang_types.specs.LaneLaws.{lowest_has}
use Rattle.gang_model.specs.Running.Lanes.{◌>>=◌, at, each}
use Rattle.gang_model.specs.Running.Library.{rank}
use Rattle.gang_model.specs.Running.State.{State, View, same_id, words_of}
use Rattle.gang_model.specs.Running.Value.{element}
use Rattle.gang_model.proofs.LaneWords.{FaultsFrom, TriedFrom, tries}
use Rattle.cross_lane.specs.AttemptLaws.{attempts_same}
use Rattle.cross_lane.specs.Calls.{answer_of, fault_of}
use Rattle.cross_lane.specs.EachLaws.{lane_kept}
use Rattle.gang_memory.specs.declared.parts.Part.{Part}
use Rattle.gang_memory.specs.declared.layout.Layout.{Layout}
use Rattle.gang_memory.specs.Elements.{IsLoad, IsStore, Shows, StandsAt, StoresInArrays, stored}
use Rattle.gang_memory.specs.Packed.{ranks_of}
use Rattle.gang_memory.specs.Parts.{AreSlots, AreWithin}
use Rattle.gang_memory.specs.Writes.{IsKeptOutside}
use Rattle.gang_memory.proofs.Attempts.{all_there, shows_part}
use Rattle.gang_memory.proofs.Scatters.{length-scattered}
use Rattle.machine_states.specs.ArrayParts.{AreMemory, IsInside, array_region, view_at}
use Rattle.machine_states.specs.Regions.{OfEntry, OfFile, Regions}
use Rattle.machine_words.specs.Arrays.{LiesIn, array_range, or_nothing}
use Rattle.machine_words.specs.Ranges.{IsLaid, range_of, regions_of, words_at}
use Rattle.machine_words.proofs.Found.{entry_found, file_found}
use Rattle.machine_words.proofs.RangeWords.{length-words_in, stand_there, they_stand, words_in}
use Rattle.machine_words.proofs.RegionWords.{inside}

-- ---- ranges

no_range : (b : Bool) (o : Option Part) → b ≡ false → cond b o None ≡ None
no_range true o e = cc
no_range false o e = refl

pub file_range : (width : ℕ) (layout : Layout) (k : ℕ) → slice_get layout.file.items k ≡ range_of width layout (OfFile k)
file_range width layout k = by_cases (slice_get_cases layout.file.items k).1
  where
    by_cases : ((x : Part) × (k < length layout.file.items) × (slice_get layout.file.items k ≡ Some x) × (get_or layout.file.items k x ≡ x)) ⊎ ((length layout.file.items ≤ k) × (slice_get layout.file.items k ≡ None))
        → slice_get layout.file.items k ≡ range_of width layout (OfFile k)
    by_cases (inl here) = here.2 ∙ sym (file_found width layout here.0 k here.2)
    by_cases (inr past) = past.1 ∙ sym (no_range (nat_lt k (length layout.file.items)) _ (le-ltb k (length layout.file.items) past.0))

pub entry_range : (width : ℕ) (layout : Layout) (k : ℕ) → slice_get layout.entry.items k ≡ range_of width layout (OfEntry k)
entry_range width layout k = by_cases (slice_get_cases layout.entry.items k).1
  where
    by_cases : ((x : Part) × (k < length layout.entry.items) × (slice_get layout.entry.items k ≡ Some x) × (get_or layout.entry.items k x ≡ x)) ⊎ ((length layout.entry.items ≤ k) × (slice_get layout.entry.items k ≡ None))
        → slice_get layout.entry.items k ≡ range_of width layout (OfEntry k)
    by_cases (inl here) = here.2 ∙ sym (entry_found width layout here.0 k here.2)
    by_cases (inr past) = past.1 ∙ sym (no_range (nat_lt k (length layout.entry.items)) _ (le-ltb k (length layout.entry.items) past.0))

-- ---- the words of an array

module _ (width : ℕ) (layout : Layout) (words : List ℕ) (laid : IsLaid width layout words) (array : VarId) where
  abbrev own : Part
  own = array_range width layout array

  pub own_inside : own.first + own.len ≤ length words
  own_inside = by_range (range_of width layout (array_region array)) refl
    where
      by_range : (o : Option Part) → range_of width layout (array_region array) ≡ o → (or_nothing o).first + (or_nothing o).len ≤ length words
      by_range None e = omega arith
      by_range (Some p) e = inside width layout words laid (array_region array) p e

  pub own_words : regions_of width layout words (array_region array) ≡ words_in own words
  own_words = by_range (range_of width layout (array_region array))
    where
      by_range : (o : Option Part) → words_at o words ≡ words_in (or_nothing o) words
      by_range None = refl
      by_range (Some p) = refl

  pub own_long : length (regions_of width layout words (array_region array)) ≡ own.len
  own_long = ap length own_words ∙ length-words_in own words own_inside

  pub own_range : 0 < own.len → range_of width layout (array_region array) ≡ Some own
  own_range h = by_range (range_of width layout (array_region array)) h
    where
      by_range : (o : Option Part) → 0 < (or_nothing o).len → o ≡ Some (or_nothing o)
      by_range None h = absurd (omega arith)
      by_range (Some p) h = refl

  pub own_stands : StandsAt own.first (regions_of width layout words (array_region array)) words
  own_stands = subst (λ ws. StandsAt own.first ws words) (sym own_words) (they_stand own words own_inside)

-- ---- a part of an array

same_array : (v : VarId) → same_id v v ≡ true
same_array (File k) = eq-eqb k k refl
same_array (Local k) = eq-eqb k k refl

module _ (width : ℕ) (layout : Layout) (words : List ℕ) (laid : IsLaid width layout words) (view : View) (within : IsInside (regions_of width layout words) view) where
  pub part_inside : (array_range width layout view.array).first + (view.first + view.len) ≤ length words
  part_inside =
      let whole = own_inside width layout words laid view.array in
      let long = own_long width layout words laid view.array in
      omega (arith, whole, long, within)

  -- the array has a range where a lane names an element that is there
  pub some_range : (lanes : Lanes) (indices : List ℕ) → no_lane lanes ≡ false → AreWithin lanes indices view.len → range_of width layout (array_region view.array) ≡ Some (array_range width layout view.array)
  some_range lanes indices some there =
      let below : at indices (lowest lanes) < view.len = there (lowest lanes) (lowest_has lanes some) in
      let long = own_long width layout words laid view.array in
      own_range width layout words laid view.array (omega (arith, below, within, long))

  module _ (part : Part) (lies : LiesIn width layout view part) where
    -- it shows the elements of the definitions, of each state whose arrays these words are
    pub shows_elements : (state : State) → AreMemory (regions_of width layout words) state.memory → Shows words part state view
    shows_elements state memory =
        shows_part (array_range width layout view.array).first part state view words (lies.first, lies.len)
        (subst (λ ws. view.first + view.len ≤ length ws) (sym (memory view.array)) within)
        (subst (λ ws. StandsAt (array_range width layout view.array).first ws words) (sym (memory view.array)) (own_stands width layout words laid view.array))

    -- a state that has this array alone
    abbrev alone : State
    alone = record { memory = (view.array, regions_of width layout words (array_region view.array)) ∷ []; frames = [] }

    alone_has : words_of alone.memory view.array ≡ regions_of width layout words (array_region view.array)
    alone_has = ap (λ b. cond b (regions_of width layout words (array_region view.array)) []) (same_array view.array)

    shows_alone : Shows words part alone view
    shows_alone =
        shows_part (array_range width layout view.array).first part alone view words (lies.first, lies.len)
        (subst (λ ws. view.first + view.len ≤ length ws) (sym alone_has) within)
        (subst (λ ws. StandsAt (array_range width layout view.array).first ws words) (sym alone_has) (own_stands width layout words laid view.array))

    below : (i x : ℕ) (b : Bool) → nat_lt i view.len ≡ b → cond b (Ok (at (words_of alone.memory view.array) (view.first + i))) (Err Index) ≡ Ok x → i < view.len
    below i x true e h = ltb-true i view.len e
    below i x false e h = cc

    -- where elements are loaded, they are there
    pub loaded_there : (lanes : Lanes) (index : ℕ → ℕ) (values : List ℕ) → IsLoad words part lanes index (Ok values) → (k : ℕ) → has lanes k ≡ true → index k < view.len
    loaded_there lanes index values loads k e =
        let f : ℕ → Result ℕ FaultName = λ j. element alone view (index j) in
        let tried = subst (λ r. MatchResult r (TriedFrom 0 lanes f) (FaultsFrom 0 lanes f)) (sym (loads alone view shows_alone)) (tries 0 lanes f) in
        below (index k) (at values k) (nat_lt (index k) view.len) refl (subst (λ j. f j ≡ Ok (at values k)) (omega arith) (tried k e))

    pub loaded_ok : (lanes : Lanes) (indices : List ℕ) (r : Result (List ℕ) (ℕ × FaultName)) → IsLoad words part lanes (at indices) (answer_of r) → OnOk r (AreWithin lanes indices view.len)
    loaded_ok lanes indices (Ok values) loads = loaded_there lanes (at indices) values loads
    loaded_ok lanes indices (Err found) loads = tt

    -- where elements are loaded by the ranks of lanes, they are there
    pub ranked_there : (lanes : Lanes) (values : List ℕ) → IsLoad words part lanes (rank lanes) (Ok values) → AreWithin lanes (ranks_of lanes) view.len
    ranked_there lanes values loads k e = subst (λ n. n < view.len) (sym (lane_kept lanes (rank lanes) k e)) (loaded_there lanes (rank lanes) values loads k e)

    -- a store to elements that are there has no fault
    pub store_done : (A : Type 0) (lanes : Lanes) (index : ℕ → ℕ) (indices values new : List ℕ) (found : ℕ × FaultName) → ((k : ℕ) → has lanes k ≡ true → at indices k ≡ index k) → AreWithin lanes indices view.len
        → IsStore {A = A} part lanes index indices values words (Err found) new → ⊥
    store_done A lanes index indices values new found agree there is =
        let slots : List ℕ = each lanes (λ k. part.first + at indices k) in
        let are : AreSlots part lanes indices slots = record { there = subst (λ n. AreWithin lanes indices n) (sym lies.len) there; slots_are = refl } in
        let tried =
        attempts_same (length lanes) lanes (λ k. element alone view (index k)) (λ k. element alone view (at indices k)) refl (λ k h e. ap (element alone view) (sym (agree k e)))
        ∙ all_there words part alone view shows_alone (length lanes) lanes indices slots refl are in
        let done : Err (fault_of found) ≡ Ok (stored part.first lanes indices values words) =
        is alone view shows_alone ∙ ap (λ r. r >>= λ old. Ok (stored part.first lanes indices values words)) tried in
        cc

    -- what it leaves: the array with these elements stored, and all other words
    module _ (lanes : Lanes) (indices values new : List ℕ) (stores : StoresInArrays part lanes indices values words new) where
      abbrev after : List ℕ
      after = stored view.first lanes indices values (regions_of width layout words (array_region view.array))

      pub array_stands : words_in (array_range width layout view.array) new ≡ after
      array_stands =
          let own = regions_of width layout words (array_region view.array) in
          let long = own_long width layout words laid view.array in
          stand_there (array_range width layout view.array) new after
          (length-scattered 0 lanes (each lanes (λ k. view.first + at indices k)) values own ∙ long)
          (stores (array_range width layout view.array).first view.first own
          (record { begins = lies.first; inside = subst (λ n. view.first + n ≤ length own) (sym lies.len) within })
          (own_stands width layout words laid view.array))

    pub kept_beside : (new : List ℕ) → IsKeptOutside part.first part.len words new → IsKeptOutside (array_range width layout view.array).first (array_range width layout view.array).len words new
    kept_beside new kept = record {
      long = kept.long;
      same = λ i out. kept.same i (wider i out);
    }
      where
        wider : (i : ℕ) → (i < (array_range width layout view.array).first) ⊎ ((array_range width layout view.array).first + (array_range width layout view.array).len ≤ i) → (i < part.first) ⊎ (part.first + part.len ≤ i)
        wider i (inl before) = inl (omega (arith, before, lies.first))
        wider i (inr behind) = let long = own_long width layout words laid view.array in inr (omega (arith, behind, lies.first, lies.len, long, within))

-- ---- answers

-- a part lies in an array exactly where so many elements are left behind its first one
pub le_split : (first len all n : ℕ) → first ≤ all → n ≡ all → nat_le len (all - first) ≡ nat_le (first + len) n
le_split first len all n h e = grind (arith, nat_tests)

pub le_past : (first len all n : ℕ) → all < first → n ≡ all → nat_le first all ≡ nat_le (first + len) n
le_past first len all n h e = grind (arith, nat_tests)

-- an array of the file is the whole of it
pub file_view : (regions : Regions) (frame : ℕ) (v : VarId) (k n : ℕ) → v ≡ File k → n ≡ length (regions (array_region v)) → record { array = v; first = 0; len = n } ≡ view_at regions frame v
file_view regions frame v k n is long =
    subst (λ u. n ≡ length (regions (array_region u)) → ◌≡◌ {A = View} (record { array = u; first = 0; len = n }) (view_at regions frame u)) (sym is)
    (λ e. ap (λ m. record { array = File k; first = 0; len = m }) e) long
