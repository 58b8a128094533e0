-- Which variables a store has after words were set.
use Rattle.std.proofs.Common.{◌≡◌, refl, sym, ap, ◌∙◌, subst, ℕ, zero, suc, ◌+◌, ◌<◌, ◌≤◌, Bool, true, false, true≢false, ◌||◌, List, [], ◌∷◌, ◌++◌, length, inl, inr, nat_eq, arith}
use Rattle.std.proofs.lemmas.Bool.Decides.{nat_tests}
use Rattle.std.proofs.lemmas.Bool.{eqb-true}
use Rattle.std.specs.Prelude.{IfOk, slice_get, if◌then◌else◌}
use Rattle.std.proofs.lemmas.Result.{IfOk-weaker}
use Rattle.gang_types.specs.declared.places.VarId.{VarId}
use Rattle.gang_types.specs.declared.places.VarId.TheVariants.{File, Local}
use Rattle.gang_types.specs.Lanes.{Lanes}
use Rattle.gang_model.specs.Running.State.{Store, State, same_id, view_of, with_words, declared_words}
use Rattle.gang_model.specs.Running.Value.{value}
use Rattle.gang_model.specs.Running.Step.{part, passed}
use Rattle.gang_model.specs.Types.Tree.{Arg, Value, Array, Variable}
use Rattle.gang_model.proofs.LaneWords.{if_ok_bind, if_ok_after}
use Rattle.mask_states.proofs.OwnTasks.{by_bool}
use Rattle.machine_states.specs.Variables.{Variables, is_array_of, own_of, parameters_of}
use Rattle.machine_states.specs.WellScoped.{ArgsWellScoped, CallWellScoped}
use Rattle.machine_states.specs.Declared.{IsAmong, own_number, scalars_below, scalar_parameters, has_entry, HasAll}
use Rattle.machine_states.proofs.DeclaredLists.{or_front, or_back, IsWithin}
use Rattle.machine_states.proofs.StoreWords.{itself, same_variable}

-- ---- stores

-- a store has all that another has
abbrev pub Keeps : Store → Store → Type 0
Keeps old new = (v : VarId) → has_entry old v ≡ true → has_entry new v ≡ true

pub keeps_itself : (store : Store) → Keeps store store
keeps_itself store v h = h

or_more : (b c d : Bool) → (b || c) ≡ true → (c ≡ true → d ≡ true) → (b || d) ≡ true
or_more true c d e h = refl
or_more false c d e h = h e

keeps_at : (b : Bool) (u v : VarId) (old words : List ℕ) (store : Store) → same_id u v ≡ b → Keeps store (with_words store v words)
    → Keeps ((u, old) ∷ store) (if b then (v, words) ∷ store else (u, old) ∷ with_words store v words)
keeps_at true u v old words store e more w h = subst (λ x. (same_id x w || has_entry store w) ≡ true) (same_variable u v e) h
keeps_at false u v old words store e more w h = or_more (same_id u w) (has_entry store w) (has_entry (with_words store v words) w) h (more w)

-- no variable goes when words are set
pub with_words_keeps : (store : Store) (v : VarId) (words : List ℕ) → Keeps store (with_words store v words)
with_words_keeps [] v words w h = absurd cc
with_words_keeps ((u, old) ∷ store) v words w h = keeps_at (same_id u v) u v old words store refl (with_words_keeps store v words) w h

has_at : (b : Bool) (u v : VarId) (old words : List ℕ) (store : Store) → has_entry (with_words store v words) v ≡ true
    → has_entry (if b then (v, words) ∷ store else (u, old) ∷ with_words store v words) v ≡ true
has_at true u v old words store more = or_front (same_id v v) (has_entry store v) (itself v)
has_at false u v old words store more = or_back (same_id u v) (has_entry (with_words store v words) v) more

-- the variable is there
pub with_words_has : (store : Store) (v : VarId) (words : List ℕ) → has_entry (with_words store v words) v ≡ true
with_words_has [] v words = or_front (same_id v v) false (itself v)
with_words_has ((u, old) ∷ store) v words = has_at (same_id u v) u v old words store (with_words_has store v words)

-- ---- all of some variables

pub has_all_kept : (d : List ℕ) (old new : Store) → Keeps old new → HasAll d old → HasAll d new
has_all_kept d old new keeps h k among = keeps (Local k) (h k among)

pub has_all_within : (d e : List ℕ) (store : Store) → IsWithin d e → HasAll e store → HasAll d store
has_all_within d e store within h k among = h k (within k among)

pub has_all_both : (d e : List ℕ) (store : Store) → HasAll d store → HasAll e store → HasAll (d ++ e) store
has_all_both [] e store f g k among = g k among
has_all_both (x ∷ d) e store f g k (inl same) = f k (inl same)
has_all_both (x ∷ d) e store f g k (inr among) = has_all_both d e store (λ j a. f j (inr a)) g k among

-- the variable whose words are set
pub has_own : (v : VarId) (store : Store) → has_entry store v ≡ true → HasAll (own_number v) store
has_own (File n) store h k among = absurd among
has_own (Local n) store h k (inl same) = subst (λ m. has_entry store (Local m) ≡ true) (sym same) h
has_own (Local n) store h k (inr among) = absurd among

-- ---- parameters

-- a number is that of one of the first n variables, which is no array
abbrev pub IsScalarBelow : List Variable → (n k : ℕ) → Type 0
IsScalarBelow own n k = (k < n) × (is_array_of (slice_get own k) ≡ false)

pub among_scalars : (own : List Variable) (n k : ℕ) → IsAmong k (scalars_below own n) → IsScalarBelow own n k
among_scalars own zero k among = absurd among
among_scalars own (suc n) k among = by_kind (is_array_of (slice_get own n)) refl (among_scalars own n k) among
  where
    below : IsScalarBelow own n k → IsScalarBelow own (suc n) k
    below (less, scalar) = (omega (arith, less), scalar)

    by_kind : (b : Bool) → is_array_of (slice_get own n) ≡ b → (IsAmong k (scalars_below own n) → IsScalarBelow own n k)
        → IsAmong k (if b then scalars_below own n else n ∷ scalars_below own n) → IsScalarBelow own (suc n) k
    by_kind true is lower among = below (lower among)
    by_kind false is lower (inl same) = (omega (arith, same), ap (λ m. is_array_of (slice_get own m)) same ∙ is)
    by_kind false is lower (inr among) = below (lower among)

module _ (variables : Variables) (n called : ℕ) (lanes : Lanes) (state : State) where
  abbrev HasFrom : ℕ → List Arg → Store → Type 0
  HasFrom k args store = (j : ℕ) → k ≤ j → j < k + length args → is_array_of (slice_get (own_of variables called) j) ≡ false → has_entry store (Local j) ≡ true

  value_passed : (k : ℕ) (args : List Arg) (v : VarId) (words : List ℕ) (store : Store) → v ≡ Local k → HasFrom (suc k) args store
      → (j : ℕ) → k ≤ j → j < suc k + length args → is_array_of (slice_get (own_of variables called) j) ≡ false → (same_id v (Local j) || has_entry store (Local j)) ≡ true
  value_passed k args v words store e more j low high scalar = by_bool (nat_eq k j)
      (λ same. or_front (same_id v (Local j)) (has_entry store (Local j)) (ap (λ u. same_id u (Local j)) e ∙ same))
      (λ other. or_back (same_id v (Local j)) (has_entry store (Local j)) (more j (let apart : suc k ≤ j = grind (arith, nat_tests) in apart) high scalar))

  array_passed : (k : ℕ) (args : List Arg) (store : Store) → is_array_of (slice_get (own_of variables called) k) ≡ true → HasFrom (suc k) args store
      → (j : ℕ) → k ≤ j → j < suc k + length args → is_array_of (slice_get (own_of variables called) j) ≡ false → has_entry store (Local j) ≡ true
  array_passed k args store array more j low high scalar = by_bool (nat_eq k j)
      (λ same. absurd (true≢false (sym array ∙ ap (λ m. is_array_of (slice_get (own_of variables called) m)) (eqb-true k j same) ∙ scalar)))
      (λ other. more j (let apart : suc k ≤ j = grind (arith, nat_tests) in apart) high scalar)

  -- each argument that is no array is there
  passed_has_from : (k : ℕ) (args : List Arg) → ArgsWellScoped variables n called k args → IfOk (passed args lanes state) (λ a. HasFrom k args a.vars)
  passed_has_from k [] p = λ j low high scalar. absurd (omega (arith, low, high))
  passed_has_from k (Array parameter array from ∷ args) p =
      if_ok_after (λ a. HasFrom k (Array parameter array from ∷ args) a.vars) (part from (view_of state array) lanes state) _ (λ view.
      if_ok_bind (λ a. HasFrom (suc k) args a.vars) (λ a. HasFrom k (Array parameter array from ∷ args) a.vars) (passed args lanes state) _ (passed_has_from (suc k) args p.3)
      (λ rest more j low high scalar. array_passed k args rest.vars p.0.array more j low (omega (arith, high)) scalar))
  passed_has_from k (Value x e ∷ args) p =
      if_ok_after (λ a. HasFrom k (Value x e ∷ args) a.vars) (value e lanes state) _ (λ y.
      if_ok_bind (λ a. HasFrom (suc k) args a.vars) (λ a. HasFrom k (Value x e ∷ args) a.vars) (passed args lanes state) _ (passed_has_from (suc k) args p.2)
      (λ rest more j low high scalar. value_passed k args x.id (declared_words x.rate lanes y) rest.vars p.0.id more j low (omega (arith, high)) scalar))

  -- so a call begins with its parameters
  pub passed_has : (args : List Arg) → CallWellScoped variables n called args → IfOk (passed args lanes state) (λ a. HasAll (scalar_parameters variables called) a.vars)
  passed_has args well_scoped =
      IfOk-weaker (passed args lanes state) (λ a. HasFrom 0 args a.vars) (λ a. HasAll (scalar_parameters variables called) a.vars)
      (λ a has k among.
      let scalar = among_scalars (own_of variables called) (parameters_of variables called) k among in
      has k (omega arith) (omega (arith, well_scoped.all, scalar.0)) scalar.1)
      (passed_has_from 0 args well_scoped.args_well_scoped)
