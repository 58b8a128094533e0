-- A value that is set leaves as many words of each variable as there were.
use Rattle.std.proofs.Common.{◌≡◌, refl, sym, ap, subst, ◌∙◌, ℕ, zero, suc, ◌+◌, ◌-◌, Bool, true, false, List, [], ◌∷◌, ◌++◌, length, min}
use Rattle.std.specs.Prelude.{drop, map, slice_set, take, if◌then◌else◌}
use Rattle.std.proofs.lemmas.List.{length-drop, length-map, length-set, length-take}
use Rattle.gang_types.specs.declared.places.VarId.{VarId}
use Rattle.gang_types.specs.declared.places.VarId.TheVariants.{File, Local}
use Rattle.gang_model.specs.Types.Tree.{Variable}
use Rattle.gang_model.specs.Running.State.{Frame, State, Store, View, local_view, local_words, same_id, view_of, with_first, with_var, with_words, with_words_in, words_in, words_of}
use Rattle.gang_model.specs.Debugger.Debugger.{elements, shown_words}
use Rattle.gang_model.specs.Debugger.Events.{ElementAt, InFrame, LaneOf, Poked, WholeOf, poked}
use Rattle.gang_model.specs.Debugger.Frames.{state_at}
use Rattle.machine_states.proofs.StoreWords.{itself, same_variable, words_kept, words_set}

-- ---- stores and frames

module _ (store : Store) (v : VarId) (words : List ℕ) (long : length words ≡ length (words_of store v)) (u : VarId) where
  by_test : (b : Bool) → same_id v u ≡ b → length (words_of (with_words store v words) u) ≡ length (words_of store u)
  by_test true same =
      subst (λ x. length (words_of (with_words store v words) x) ≡ length (words_of store x)) (same_variable v u same) (ap length (words_set store v words) ∙ long)
  by_test false other = ap length (words_kept v u words apart store)
    where
      apart : u ≡ v → ⊥
      apart h = let here = ap (λ x. same_id v x) h ∙ itself v in cc

  set_long : length (words_of (with_words store v words) u) ≡ length (words_of store u)
  set_long = by_test (same_id v u) refl

locals_long : (frames : List Frame) (v : VarId) (words : List ℕ) → length words ≡ length (local_words frames v) → (u : VarId)
    → length (local_words (with_first (with_var v words) frames) u) ≡ length (local_words frames u)
locals_long [] v words long u = refl
locals_long (frame ∷ frames) v words long u = set_long frame.vars v words long u

views_same : (frames : List Frame) (v : VarId) (words : List ℕ) (u : VarId) → local_view (with_first (with_var v words) frames) u ≡ local_view frames u
views_same [] v words u = refl
views_same (frame ∷ frames) v words u = refl

-- frames above others hide them
locals_under : (n : ℕ) (frames below : List Frame) → ((u : VarId) → length (local_words below u) ≡ length (local_words (drop n frames) u)) → (u : VarId)
    → length (local_words (take n frames ++ below) u) ≡ length (local_words frames u)
locals_under zero frames below same u = same u
locals_under (suc n) [] below same u = same u
locals_under (suc n) (frame ∷ frames) below same u = refl

views_under : (n : ℕ) (frames below : List Frame) → ((u : VarId) → local_view below u ≡ local_view (drop n frames) u) → (u : VarId) → local_view (take n frames ++ below) u ≡ local_view frames u
views_under zero frames below same u = same u
views_under (suc n) [] below same u = same u
views_under (suc n) (frame ∷ frames) below same u = refl

-- ---- states

-- variables have as many words in both states, and parameters stand for the same parts of arrays
record HaveSameLengths (old new : State) : Type 0 where
  pub memory : (u : VarId) → length (words_of new.memory u) ≡ length (words_of old.memory u)
  pub locals : (u : VarId) → length (local_words new.frames u) ≡ length (local_words old.frames u)
  pub views : (u : VarId) → local_view new.frames u ≡ local_view old.frames u

written_lengths : (state : State) (v : VarId) (words : List ℕ) → length words ≡ length (words_in state v) → HaveSameLengths state (with_words_in state v words)
written_lengths state (File n) words long = record { memory = set_long state.memory (File n) words long; locals = λ u. refl; views = λ u. refl }
written_lengths state (Local n) words long = record {
  memory = λ u. refl;
  locals = locals_long state.frames (Local n) words long;
  views = views_same state.frames (Local n) words;
}

poked_lengths : (what : Poked) (word : ℕ) (state : State) → HaveSameLengths state (poked what word state)
poked_lengths (WholeOf v) word state = written_lengths state v (map (λ old. word) (words_in state v)) (length-map (words_in state v) (λ old. word))
poked_lengths (LaneOf v k) word state = written_lengths state v (slice_set (words_in state v) k word) (length-set (words_in state v) k word)
poked_lengths (ElementAt v k) word state =
    let view : View = view_of state v in
    let words : List ℕ = words_of state.memory view.array in
    record {
      memory = set_long state.memory view.array (slice_set words (view.first + k) word) (length-set words (view.first + k) word);
      locals = λ u. refl;
      views = λ u. refl;
    }
poked_lengths (InFrame deep what) word state =
    let n = length state.frames - deep in
    let below : State = poked what word (state_at deep state) in
    let same : HaveSameLengths (state_at deep state) below = poked_lengths what word (state_at deep state) in
    record {
      memory = same.memory;
      locals = locals_under n state.frames below.frames same.locals;
      views = views_under n state.frames below.frames same.views;
    }

-- ---- what is shown

part_long : (first len : ℕ) (words : List ℕ) → length (take len (drop first words)) ≡ min len (length words - first)
part_long first len words = length-take len (drop first words) ∙ ap (min len) (length-drop first words)

module _ (old new : State) (same : HaveSameLengths old new) where
  view_same : (u : VarId) → view_of new u ≡ view_of old u
  view_same (File n) = ap (λ len. record { array = File n; first = 0; len = len }) (same.memory (File n))
  view_same (Local n) = same.views (Local n)

  elements_long : (view : View) → length (elements view new) ≡ length (elements view old)
  elements_long view =
      part_long view.first view.len (words_of new.memory view.array)
      ∙ ap (λ n. min view.len (n - view.first)) (same.memory view.array)
      ∙ sym (part_long view.first view.len (words_of old.memory view.array))

  words_long : (u : VarId) → length (words_in new u) ≡ length (words_in old u)
  words_long (File n) = same.memory (File n)
  words_long (Local n) = same.locals (Local n)

  by_kind : (u : VarId) (b : Bool) → length (if b then elements (view_of new u) new else words_in new u) ≡ length (if b then elements (view_of old u) old else words_in old u)
  by_kind u true = ap (λ view. length (elements view new)) (view_same u) ∙ elements_long (view_of old u)
  by_kind u false = words_long u

-- as many words can be shown of each variable
pub poked_long : (what : Poked) (word : ℕ) (state : State) (v : Variable) → length (shown_words (poked what word state) v) ≡ length (shown_words state v)
poked_long what word state v = by_kind state (poked what word state) (poked_lengths what word state) v.id v.is_array
