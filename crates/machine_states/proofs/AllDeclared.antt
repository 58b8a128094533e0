-- Variables of the top frame's own are declared one after another: the regions show the state with all of them.
use Rattle.std.proofs.Common.{◌≡◌, refl, sym, ◌∙◌, ℕ, suc, ◌<◌, List, [], ◌∷◌, ◌++◌, length, arith}
use Rattle.std.specs.Prelude.{Some}
use Rattle.std.proofs.lemmas.List.{length-set}
use Rattle.gang_types.specs.declared.types.Rate.{Rate}
use Rattle.gang_types.specs.declared.types.Rate.TheVariants.{Uniform, Varying}
use Rattle.gang_types.specs.declared.places.VarId.{VarId}
use Rattle.gang_types.specs.declared.places.VarId.TheVariants.{File, Local}
use Rattle.gang_types.specs.Lanes.{Lanes, lowest}
use Rattle.gang_model.specs.Running.Lanes.{at}
use Rattle.gang_model.specs.Running.State.{State, declared_words, with_words_in}
use Rattle.gang_model.specs.Running.Step.{with_store}
use Rattle.gang_model.specs.Types.Tree.{Var, Variable, Program}
use Rattle.gang_model.proofs.LaneWords.{length-each}
use Rattle.gang_model.proofs.StandingLaws.{Each}
use Rattle.mask_states.specs.Masked.{Level}
use Rattle.machine_states.specs.Variables.{Variables, IsOwn, variable_of}
use Rattle.machine_states.specs.Regions.{FunctionOf, Head, Depth, OfHead, Regions}
use Rattle.machine_states.specs.Rounds.{declared_store}
use Rattle.machine_states.specs.Shows.{AreSized, Shows}
use Rattle.machine_states.specs.Effects.{all_declared_in, declared_in, declared_region, region_of}
use Rattle.machine_states.proofs.NextPoints.{same_word}
use Rattle.machine_states.proofs.PackedSteps.{sized_kept}
use Rattle.machine_states.proofs.WrittenVariables.{declared_shows}

-- each is one of the function's own
abbrev pub AreOwn : Variables → (function : ℕ) → List (Var × List ℕ) → Type 0
AreOwn variables n given = Each (λ x. (k : ℕ) × IsOwn variables n k x.0) given

module _ (w : ℕ) (lanes : Lanes) (long : length lanes ≡ w) where
  -- a variable's region has as many words as before
  pub declared_long : (rate : Rate) (values old : List ℕ) → length old ≡ w → length (declared_region rate lanes values old) ≡ length old
  declared_long Uniform values old size = length-set old 0 (at values (lowest lanes))
  declared_long Varying values old size = length-each lanes (λ k. at values k) ∙ long ∙ sym size

module _ (variables : Variables) (w i n : ℕ) (few : i < 64) where
  -- an own variable has a word for each lane
  pub own_long : (k : ℕ) (x : Var) → IsOwn variables n k x → (old : Regions) → AreSized variables w old → length (old (region_of i x.id)) ≡ w
  own_long k x own old sized = by_id x.id own.id own.scalar.0 own.scalar.1
    where
      by_id : (id : VarId) → id ≡ Local k → (v : Variable) → variable_of variables n id ≡ Some v → length (old (region_of i id)) ≡ w
      by_id (File j) e v is = absurd cc
      by_id (Local j) e v is = sized.own i n j v few is

  declared_sized : (lanes : Lanes) → length lanes ≡ w → (k : ℕ) (x : Var) → IsOwn variables n k x → (values : List ℕ) (old : Regions) → AreSized variables w old → AreSized variables w (declared_in i x.id x.rate lanes values old)
  declared_sized lanes long k x own values old sized =
      sized_kept variables w (region_of i x.id) (declared_region x.rate lanes values (old (region_of i x.id))) old (declared_long w lanes long x.rate values (old (region_of i x.id)) (own_long k x own old sized)) sized

-- no head is written
pub declared_head : (i : ℕ) (lanes : Lanes) (id : VarId) (rate : Rate) (values : List ℕ) (old : Regions) (j : ℕ) (part : Head) → declared_in i id rate lanes values old (OfHead j part) ≡ old (OfHead j part)
declared_head i lanes (File k) rate values old j part = refl
declared_head i lanes (Local k) rate values old j part = refl

declared_depth : (i : ℕ) (lanes : Lanes) (id : VarId) (rate : Rate) (values : List ℕ) (old : Regions) → declared_in i id rate lanes values old Depth ≡ old Depth
declared_depth i lanes (File k) rate values old = refl
declared_depth i lanes (Local k) rate values old = refl

module _ (p : Program) (variables : Variables) (w i n : ℕ) (lanes : Lanes) (long : length lanes ≡ w) (some : 0 < w) (levels : List (List Level)) where
  pub all_declared_shows : (given : List (Var × List ℕ)) → AreOwn variables n given → (old : Regions) (state : State) → Shows p variables w old (record { state = state; levels = levels })
      → old Depth ≡ suc i ∷ [] → old (OfHead i FunctionOf) ≡ n ∷ [] → AreSized variables w old
      → Shows p variables w (all_declared_in i lanes given old) (record { state = with_store (declared_store lanes given) state; levels = levels })
  all_declared_shows [] own old state shows depth function sized = shows
  all_declared_shows (x ∷ given) own old state shows depth function sized =
      let few : i < 64 = omega (arith, shows.few, same_word (old Depth) (length state.frames) (suc i) shows.depth depth) in
      all_declared_shows given own.1 (declared_in i x.0.id x.0.rate lanes x.1 old) (with_words_in state x.0.id (declared_words x.0.rate lanes x.1))
      (declared_shows p variables w i n old (record { state = state; levels = levels }) shows depth function sized lanes x.1 long some own.0.0 x.0 own.0.1)
      (declared_depth i lanes x.0.id x.0.rate x.1 old ∙ depth)
      (declared_head i lanes x.0.id x.0.rate x.1 old i FunctionOf ∙ function)
      (declared_sized variables w i n few lanes long own.0.0 x.0 own.0.1 x.1 old sized)

-- one more is declared
pub all_declared_then : (i : ℕ) (lanes : Lanes) (given : List (Var × List ℕ)) (x : Var × List ℕ) (old : Regions)
    → all_declared_in i lanes (given ++ x ∷ []) old ≡ declared_in i x.0.id x.0.rate lanes x.1 (all_declared_in i lanes given old)
all_declared_then i lanes [] x old = refl
all_declared_then i lanes (y ∷ given) x old = all_declared_then i lanes given x (declared_in i y.0.id y.0.rate lanes y.1 old)
