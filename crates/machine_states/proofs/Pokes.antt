-- A poke of a scalar: the regions show the state after it.
use Rattle.std.proofs.Common.{◌≡◌, refl, sym, ap, ◌∙◌, subst, ℕ, zero, suc, ◌+◌, false, List, [], ◌∷◌, length, Option, Some, None, arith}
use Rattle.std.specs.Prelude.{map, take, slice_get, slice_set}
use Rattle.std.proofs.lemmas.List.{length-map, length-set, take-map}
use Rattle.gang_types.specs.declared.types.Rate.{Rate}
use Rattle.gang_types.specs.declared.types.Rate.TheVariants.{Uniform, Varying}
use Rattle.gang_types.specs.declared.places.VarId.{VarId}
use Rattle.gang_types.specs.declared.places.VarId.TheVariants.{File, Local}
use Rattle.gang_model.specs.Types.Tree.{Variable, Program}
use Rattle.gang_model.specs.Running.State.{State, View, view_of, with_words, words_in, with_words_in, words_for}
use Rattle.gang_model.specs.Debugger.Events.{Poked, WholeOf, LaneOf, ElementAt, poked, with_element}
use Rattle.mask_states.specs.Masked.{Masked}
use Rattle.machine_states.specs.Variables.{Variables, is_array_of, variable_of, rate_of}
use Rattle.machine_states.specs.ArrayParts.{array_region}
use Rattle.machine_states.specs.Regions.{FunctionOf, OfFile, Depth, OfHead, OfLocal, Regions, with_region}
use Rattle.machine_states.specs.Shows.{IsScalarIn, AreSized, Shows}
use Rattle.machine_states.specs.Effects.{region_of}
use Rattle.machine_states.specs.Steps.{poked_region}
use Rattle.machine_states.proofs.StoredElements.{array_shows}
use Rattle.machine_states.proofs.WrittenVariables.{StandsIn, HasVariable, file_shows, written_shows, variable_in}

-- a whole scalar is poked, or one lane of it
abbrev pub poked_at : VarId → Option ℕ → Poked
poked_at v None = WholeOf v
poked_at v (Some lane) = LaneOf v lane

-- a scalar's words after a poke
abbrev poked_words : Option ℕ → (word : ℕ) → List ℕ → List ℕ
poked_words None word words = map (λ old. word) words
poked_words (Some lane) word words = slice_set words lane word

poke_is : (v : VarId) (lane : Option ℕ) (word : ℕ) (state : State) → poked (poked_at v lane) word state ≡ with_words_in state v (poked_words lane word (words_in state v))
poke_is v None word state = refl
poke_is v (Some lane) word state = refl

-- ---- words

set_front : (n : ℕ) (words : List ℕ) (lane word : ℕ) → slice_set (take n words) lane word ≡ take n (slice_set words lane word)
set_front zero [] lane word = refl
set_front zero (x ∷ words) zero word = refl
set_front zero (x ∷ words) (suc lane) word = refl
set_front (suc n) [] lane word = refl
set_front (suc n) (x ∷ words) zero word = refl
set_front (suc n) (x ∷ words) (suc lane) word = ap (λ xs. x ∷ xs) (set_front n words lane word)

one_poked : (words region : List ℕ) (word : ℕ) → length words ≡ 1 → words ≡ take 1 region → map (λ old. word) words ≡ take 1 (slice_set region 0 word)
one_poked [] region word long is = absurd (omega (arith, long))
one_poked (x ∷ y ∷ words) region word long is = absurd (omega (arith, long))
one_poked (x ∷ []) [] word long is = absurd (omega (arith, ap length is))
one_poked (x ∷ []) (y ∷ region) word long is = refl

poked_stands : (w : ℕ) (rate : Rate) (lane : Option ℕ) (word : ℕ) (words region : List ℕ) → IsScalarIn w rate words region
    → IsScalarIn w rate (poked_words lane word words) (poked_region rate lane word region)
poked_stands w Uniform None word words region is = record { long = length-map words (λ old. word) ∙ is.long; stands = one_poked words region word is.long is.stands }
poked_stands w Varying None word words region is = record {
  long = length-map words (λ old. word) ∙ is.long;
  stands = ap (map (λ old. word)) is.stands ∙ sym (take-map (λ old. word) w region);
}
poked_stands w rate (Some lane) word words region is = record {
  long = length-set words lane word ∙ is.long;
  stands = ap (λ ws. slice_set ws lane word) is.stands ∙ set_front (words_for w rate) region lane word;
}

-- as many words as before
pub poked_long : (rate : Rate) (lane : Option ℕ) (word : ℕ) (region : List ℕ) → length (poked_region rate lane word region) ≡ length region
poked_long Uniform None word region = length-set region 0 word
poked_long Varying None word region = length-map region (λ x. word)
poked_long rate (Some lane) word region = length-set region lane word

-- a region that has only the scalar's words
poked_same : (w : ℕ) (rate : Rate) (lane : Option ℕ) (word : ℕ) (region : List ℕ) → length region ≡ words_for w rate → poked_words lane word region ≡ poked_region rate lane word region
poked_same w Uniform None word [] long = absurd (omega (arith, long))
poked_same w Uniform None word (x ∷ []) long = refl
poked_same w Uniform None word (x ∷ y ∷ region) long = absurd (omega (arith, long))
poked_same w Varying None word region long = refl
poked_same w rate (Some lane) word region long = refl

-- ---- the laws

module _ (p : Program) (variables : Variables) (w : ℕ) (regions : Regions) (masked : Masked) (shows : Shows p variables w regions masked) (sized : AreSized variables w regions)
    (lane : Option ℕ) (word : ℕ) where
  -- after a poke of this variable
  abbrev pub poked_masked : VarId → Masked
  poked_masked v = record masked { state = poked (poked_at v lane) word masked.state }

  file_stands : (k : ℕ) (v : Variable) → slice_get variables.file k ≡ Some v → v.is_array ≡ false
      → poked_words lane word (words_in masked.state (File k)) ≡ poked_region v.rate lane word (regions (OfFile k))
  file_stands k v is well_scoped = ap (poked_words lane word) (shows.memory (File k)) ∙ poked_same w v.rate lane word (regions (OfFile k)) (sized.file k v is well_scoped)

  -- a variable of the file, also once the program has ended
  pub pokes_file : (k : ℕ) (v : Variable) → slice_get variables.file k ≡ Some v → v.is_array ≡ false
      → Shows p variables w (with_region (OfFile k) (poked_region v.rate lane word (regions (OfFile k))) regions) (poked_masked (File k))
  pokes_file k v is well_scoped =
      let region : List ℕ = poked_region v.rate lane word (regions (OfFile k)) in
      subst (λ state. Shows p variables w (with_region (OfFile k) region regions) (record { state = state; levels = masked.levels })) (sym (poke_is (File k) lane word masked.state))
      (file_shows p variables w 0 0 regions k (poked_words lane word (words_in masked.state (File k))) region (file_stands k v is well_scoped) (poked_long v.rate lane word (regions (OfFile k))) masked shows)

  module _ (i n : ℕ) (depth : regions Depth ≡ suc i ∷ []) (function : regions (OfHead i FunctionOf) ≡ n ∷ []) where
    stands : (id : VarId) (v : Variable) → variable_of variables n id ≡ Some v → v.is_array ≡ false → HasVariable masked.state.frames id
        → StandsIn variables w n id (poked_words lane word (words_in masked.state id)) (poked_region v.rate lane word (regions (region_of i id))) (regions (region_of i id))
    stands (File k) v is well_scoped there = (file_stands k v is well_scoped, poked_long v.rate lane word (regions (OfFile k)))
    stands (Local k) v is well_scoped there = (
      subst (λ rate. IsScalarIn w rate (poked_words lane word (words_in masked.state (Local k))) (poked_region v.rate lane word (regions (OfLocal i k)))) (sym (ap rate_of is))
          (poked_stands w v.rate lane word (words_in masked.state (Local k)) (regions (OfLocal i k)) (variable_in p variables w i n regions masked shows depth function sized (Local k) v is well_scoped there)),
      ap is_array_of is ∙ well_scoped,
    )

    -- a variable of the file, or one that is declared in the top frame
    pub pokes : (id : VarId) (v : Variable) → variable_of variables n id ≡ Some v → v.is_array ≡ false → HasVariable masked.state.frames id
        → Shows p variables w (with_region (region_of i id) (poked_region v.rate lane word (regions (region_of i id))) regions) (poked_masked id)
    pokes id v is well_scoped there =
        let region : List ℕ = poked_region v.rate lane word (regions (region_of i id)) in
        subst (λ state. Shows p variables w (with_region (region_of i id) region regions) (record { state = state; levels = masked.levels })) (sym (poke_is id lane word masked.state))
        (written_shows p variables w i n regions masked shows depth function id (poked_words lane word (words_in masked.state id)) region (stands id v is well_scoped there))

-- ---- elements

module _ (p : Program) (variables : Variables) (w : ℕ) (regions : Regions) (masked : Masked) (shows : Shows p variables w regions masked) (id : VarId) (view : View) (view_is : view_of masked.state id ≡ view) (k word : ℕ) where
  -- an element of the part of an array that a name stands for
  pub pokes_element : Shows p variables w (with_region (array_region view.array) (slice_set (regions (array_region view.array)) (view.first + k) word) regions)
      (record masked { state = poked (ElementAt id k) word masked.state })
  pokes_element =
      let after : List ℕ = slice_set (regions (array_region view.array)) (view.first + k) word in
      subst (λ v. Shows p variables w (with_region (array_region view.array) after regions) (record masked { state = with_element v k word masked.state })) (sym view_is)
      (subst (λ ws. Shows p variables w (with_region (array_region view.array) after regions)
      (record masked { state = record masked.state { memory = with_words masked.state.memory view.array (slice_set ws (view.first + k) word) } })) (sym (shows.memory view.array))
      (array_shows view.array after regions p variables w masked shows (length-set (regions (array_region view.array)) (view.first + k) word)))
