-- The words of variables of which one was set, and of sets of lanes.
use Rattle.std.proofs.Common.{◌≡◌, ◌≢◌, refl, sym, ap, ◌∙◌, ℕ, zero, suc, ◌<◌, Bool, true, false, List, [], ◌∷◌, length, inl, inr, arith}
use Rattle.std.specs.Prelude.{if◌then◌else◌, ◌⊎◌, ◌==◌}
use Rattle.std.proofs.lemmas.Bool.{eq-eqb, ne_eqb, eqb-true}
use Rattle.gang_types.specs.declared.places.VarId.{VarId}
use Rattle.gang_types.specs.declared.places.VarId.TheVariants.{File, Local}
use Rattle.gang_types.specs.Lanes.{Lanes, has}
use Rattle.gang_model.specs.Running.Lanes.{at, merged}
use Rattle.gang_model.specs.Running.State.{Store, same_id, words_of, with_words}
use Rattle.gang_model.proofs.LaneWords.{none_true}
use Rattle.lane_alone.specs.Alike.{AlikeAt}
use Rattle.lane_alone.proofs.TaskLists.{by_bool}

pub itself : (v : VarId) → same_id v v ≡ true
itself (File k) = eq-eqb k k refl
itself (Local k) = eq-eqb k k refl

pub another : (u v : VarId) → u ≢ v → same_id u v ≡ false
another (File m) (File k) apart = ne_eqb m k (λ e. apart (ap File e))
another (File m) (Local k) apart = refl
another (Local m) (File k) apart = refl
another (Local m) (Local k) apart = ne_eqb m k (λ e. apart (ap Local e))

same_variable : (u v : VarId) → same_id u v ≡ true → u ≡ v
same_variable (File m) (File k) e = ap File (eqb-true m k e)
same_variable (File m) (Local k) e = cc
same_variable (Local m) (File k) e = cc
same_variable (Local m) (Local k) e = ap Local (eqb-true m k e)

set_at : (b : Bool) (store : Store) (u v : VarId) (old words : List ℕ) → same_id u v ≡ b → words_of (with_words store v words) v ≡ words
    → words_of (if b then (v, words) ∷ store else (u, old) ∷ with_words store v words) v ≡ words
set_at true store u v old words is more = ap (λ b. if b then words else words_of store v) (itself v)
set_at false store u v old words is more = ap (λ b. if b then old else words_of (with_words store v words) v) is ∙ more

-- the words that were set
pub words_set : (store : Store) (v : VarId) (words : List ℕ) → words_of (with_words store v words) v ≡ words
words_set [] v words = ap (λ b. if b then words else []) (itself v)
words_set ((u, old) ∷ store) v words = set_at (same_id u v) store u v old words refl (words_set store v words)

module _ (v other : VarId) (words : List ℕ) (apart : other ≢ v) where
  new_away : same_id v other ≡ false
  new_away = another v other (λ e. apart (sym e))

  old_away : (u : VarId) → same_id u v ≡ true → same_id u other ≡ false
  old_away u is = another u other (λ e. apart (sym e ∙ same_variable u v is))

  kept_at : (b : Bool) (store : Store) (u : VarId) (old : List ℕ) → same_id u v ≡ b → words_of (with_words store v words) other ≡ words_of store other
      → words_of (if b then (v, words) ∷ store else (u, old) ∷ with_words store v words) other ≡ words_of ((u, old) ∷ store) other
  kept_at true store u old is more =
      ap (λ b. if b then words else words_of store other) new_away ∙ sym (ap (λ b. if b then old else words_of store other) (old_away u is))
  kept_at false store u old is more = ap (λ ws. if same_id u other then old else ws) more

  -- the words of another variable
  pub words_kept : (store : Store) → words_of (with_words store v words) other ≡ words_of store other
  words_kept [] = ap (λ b. if b then words else []) new_away
  words_kept ((u, old) ∷ store) = kept_at (same_id u v) store u old refl (words_kept store)

-- two numbers are the same or not
pub same_or_not : (m n : ℕ) → (m ≡ n) ⊎ (m ≢ n)
same_or_not m n = by_bool (m == n) (λ h. inl (eqb-true m n h)) (λ h. inr (λ e. absurd (differ (sym (eq-eqb m n e) ∙ h))))
  where
    differ : true ≡ false → ⊥
    differ q = cc

pub local_apart : (m n : ℕ) → m ≢ n → Local m ≢ Local n
local_apart m n h e = h (cc)

pub file_apart : (m n : ℕ) → m ≢ n → File m ≢ File n
file_apart m n h e = h (cc)

-- ---- new words in the lanes of a set

pub lane_lt : (lanes : Lanes) (k : ℕ) → has lanes k ≡ true → k < length lanes
lane_lt [] k h = absurd (none_true h)
lane_lt (b ∷ lanes) zero h = omega arith
lane_lt (b ∷ lanes) (suc k) h = omega (arith, lane_lt lanes k h)

pub merged_long : (lanes : Lanes) (new old : List ℕ) (k : ℕ) → k < length lanes → k < length new → k < length old → k < length (merged lanes new old)
merged_long [] new old k l n o = absurd (omega arith)
merged_long (b ∷ lanes) [] old k l n o = absurd (omega arith)
merged_long (b ∷ lanes) (x ∷ new) [] k l n o = absurd (omega arith)
merged_long (b ∷ lanes) (x ∷ new) (y ∷ old) zero l n o = omega arith
merged_long (b ∷ lanes) (x ∷ new) (y ∷ old) (suc k) l n o = let more : k < length (merged lanes new old) = merged_long lanes new old k (omega arith) (omega arith) (omega arith) in omega arith

pub merged_at : (lanes : Lanes) (new old : List ℕ) (k : ℕ) → k < length lanes → k < length new → k < length old → at (merged lanes new old) k ≡ (if has lanes k then at new k else at old k)
merged_at [] new old k l n o = absurd (omega arith)
merged_at (b ∷ lanes) [] old k l n o = absurd (omega arith)
merged_at (b ∷ lanes) (x ∷ new) [] k l n o = absurd (omega arith)
merged_at (b ∷ lanes) (x ∷ new) (y ∷ old) zero l n o = refl
merged_at (b ∷ lanes) (x ∷ new) (y ∷ old) (suc k) l n o = merged_at lanes new old k (omega arith) (omega arith) (omega arith)

-- lane k writes in both
pub alike_merged : (k : ℕ) (lanes alone : Lanes) (new new' old old' : List ℕ) → has lanes k ≡ true → has alone k ≡ true → length new ≡ length lanes → length new' ≡ length alone → at new k ≡ at new' k
    → AlikeAt k old old' → AlikeAt k (merged lanes new old) (merged alone new' old')
alike_merged k lanes alone new new' old old' h m l l' e a =
    let in_lanes : k < length lanes = lane_lt lanes k h in
    let in_alone : k < length alone = lane_lt alone k m in
    let in_new : k < length new = omega (arith, l, in_lanes) in
    let in_new' : k < length new' = omega (arith, l', in_alone) in (
      merged_long lanes new old k in_lanes in_new a.0,
      merged_long alone new' old' k in_alone in_new' a.1,
      merged_at lanes new old k in_lanes in_new a.0 ∙ ap (λ b. if b then at new k else at old k) h ∙ e
          ∙ sym (merged_at alone new' old' k in_alone in_new' a.1 ∙ ap (λ b. if b then at new' k else at old' k) m),
    )

-- lane k does not write
pub alike_away : (k : ℕ) (lanes : Lanes) (new old old' : List ℕ) → has lanes k ≡ false → k < length lanes → length new ≡ length lanes
    → AlikeAt k old old' → AlikeAt k (merged lanes new old) old'
alike_away k lanes new old old' h in_lanes l a =
    let in_new : k < length new = omega (arith, l, in_lanes) in (
      merged_long lanes new old k in_lanes in_new a.0,
      a.1,
      merged_at lanes new old k in_lanes in_new a.0 ∙ ap (λ b. if b then at new k else at old k) h ∙ a.2,
    )
