-- The words of variables in a store of which one was set.
use Rattle.std.proofs.Common.{◌≡◌, ◌≢◌, refl, sym, ap, ◌∙◌, ℕ, Bool, true, false, List, [], ◌∷◌}
use Rattle.std.specs.Prelude.{◌||◌, if◌then◌else◌}
use Rattle.std.proofs.lemmas.Bool.{eq-eqb, ne_eqb, eqb-true}
use Rattle.gang_types.specs.declared.places.VarId.{VarId}
use Rattle.gang_types.specs.declared.places.VarId.TheVariants.{File, Local}
use Rattle.gang_model.specs.Running.State.{Store, same_id, words_of, with_words}
use Rattle.machine_states.specs.Declared.{has_entry}

-- a variable is itself, and no other
pub itself : (v : VarId) → same_id v v ≡ true
itself (File k) = eq-eqb k k refl
itself (Local k) = eq-eqb k k refl

pub another : (u v : VarId) → u ≢ v → same_id u v ≡ false
another (File m) (File k) apart = ne_eqb m k (λ e. apart (ap File e))
another (File m) (Local k) apart = refl
another (Local m) (File k) apart = refl
another (Local m) (Local k) apart = ne_eqb m k (λ e. apart (ap Local e))

-- variables that are the same by the test
pub same_variable : (u v : VarId) → same_id u v ≡ true → u ≡ v
same_variable (File m) (File k) e = ap File (eqb-true m k e)
same_variable (File m) (Local k) e = cc
same_variable (Local m) (File k) e = cc
same_variable (Local m) (Local k) e = ap Local (eqb-true m k e)

-- ---- words

set_at : (b : Bool) (store : Store) (u v : VarId) (old words : List ℕ) → same_id u v ≡ b → words_of (with_words store v words) v ≡ words
    → words_of (if b then (v, words) ∷ store else (u, old) ∷ with_words store v words) v ≡ words
set_at true store u v old words is more = ap (λ b. if b then words else words_of store v) (itself v)
set_at false store u v old words is more = ap (λ b. if b then old else words_of (with_words store v words) v) is ∙ more

-- the words that were set
pub words_set : (store : Store) (v : VarId) (words : List ℕ) → words_of (with_words store v words) v ≡ words
words_set [] v words = ap (λ b. if b then words else []) (itself v)
words_set ((u, old) ∷ store) v words = set_at (same_id u v) store u v old words refl (words_set store v words)

module _ (v other : VarId) (words : List ℕ) (apart : other ≢ v) where
  new_away : same_id v other ≡ false
  new_away = another v other (λ e. apart (sym e))

  old_away : (u : VarId) → same_id u v ≡ true → same_id u other ≡ false
  old_away u is = another u other (λ e. apart (sym e ∙ same_variable u v is))

  kept_at : (b : Bool) (store : Store) (u : VarId) (old : List ℕ) → same_id u v ≡ b → words_of (with_words store v words) other ≡ words_of store other
      → words_of (if b then (v, words) ∷ store else (u, old) ∷ with_words store v words) other ≡ words_of ((u, old) ∷ store) other
  kept_at true store u old is more =
      ap (λ b. if b then words else words_of store other) new_away ∙ sym (ap (λ b. if b then old else words_of store other) (old_away u is))
  kept_at false store u old is more = ap (λ ws. if same_id u other then old else ws) more

  -- the words of another variable
  pub words_kept : (store : Store) → words_of (with_words store v words) other ≡ words_of store other
  words_kept [] = ap (λ b. if b then words else []) new_away
  words_kept ((u, old) ∷ store) = kept_at (same_id u v) store u old refl (words_kept store)

  entry_at : (b : Bool) (store : Store) (u : VarId) (old : List ℕ) → same_id u v ≡ b → has_entry (with_words store v words) other ≡ has_entry store other
      → has_entry (if b then (v, words) ∷ store else (u, old) ∷ with_words store v words) other ≡ has_entry ((u, old) ∷ store) other
  entry_at true store u old is more = ap (λ b. b || has_entry store other) (new_away ∙ sym (old_away u is))
  entry_at false store u old is more = ap (λ b. same_id u other || b) more

  -- whether another variable is there
  pub entry_kept : (store : Store) → has_entry (with_words store v words) other ≡ has_entry store other
  entry_kept [] = ap (λ b. b || false) new_away
  entry_kept ((u, old) ∷ store) = entry_at (same_id u v) store u old refl (entry_kept store)
