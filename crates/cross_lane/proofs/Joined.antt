-- The library's folds of the values of a set's lanes, by folds of all lanes.
use Rattle.std.proofs.Common.{ℕ, zero, suc, ◌+◌, ◌-◌, ◌%◌, ◌^◌, ◌<◌, ◌≤◌, Bool, true, false, cond, ◌≡◌, refl, sym, ◌∙◌, ap, subst, arith, List, [], ◌∷◌, length, take, map}
use Rattle.std.specs.Prelude.{ℤ, pos, negsuc, ◌+ℤ◌, int_lt, bit_and, bit_or, nat_eq, unsigned_abs}
use Rattle.std.proofs.lemmas.Nat.{and_mask, and_comm, and_assoc, mod_below}
use Rattle.std.proofs.Math.Seq.{take-length}
use Rattle.std.proofs.lemmas.Bool.Decides.{nat_tests}
use Rattle.gang_types.specs.declared.types.IntType.{IntType}
use Rattle.gang_types.specs.declared.types.IntType.TheVariants as t
use Rattle.gang_types.specs.Lanes.{Lanes, has, no_lane}
use Rattle.gang_types.specs.Values.{is_bool, is_signed, value_of, value_in, word_of, wrapped, converted}
use Rattle.gang_types.specs.Laws.{narrow_word, biased, bias, less_biased, word_of-add, word_of-pos, word_of-value_of, convert_any, wrapped_integer, wrapped_bool, word_of-lt, or_zero}
use Rattle.gang_model.specs.Running.Lanes.{words_from, each}
use Rattle.gang_model.specs.Running.Library.{sum_type, active, sum_of, least_from, least, scanned, before_lane}
use Rattle.gang_model.specs.Types.Tree.{ScanAdd, ScanAnd, ScanOr}
use Rattle.cross_lane.specs.declared.folds.Fold.{Fold}
use Rattle.cross_lane.specs.declared.folds.Fold.TheVariants.{Add, And, Or, Min, Max}
use Rattle.cross_lane.specs.Folds.{combined, neutral, fold_below}
use Rattle.cross_lane.proofs.Spans.{IsJoin, joins}

-- every word of the list is below 2 ^ 64
abbrev pub AllFit : List ℕ → Type 0
AllFit [] = Unit
AllFit (x ∷ xs) = (x < 2 ^ 64) × AllFit xs

pub active_fits : (k : ℕ) (lanes : Lanes) (m : ℕ → ℕ) → ((i : ℕ) → m i < 2 ^ 64) → AllFit (active lanes (words_from k lanes m))
active_fits k [] m fits = tt
active_fits k (false ∷ lanes) m fits = active_fits (suc k) lanes m fits
active_fits k (true ∷ lanes) m fits = (fits k, active_fits (suc k) lanes m fits)

pub active_take : (n k : ℕ) (lanes : Lanes) (m : ℕ → ℕ) → active (take n lanes) (words_from k lanes m) ≡ active (take n lanes) (words_from k (take n lanes) m)
active_take zero k lanes m = refl
active_take (suc n) k [] m = refl
active_take (suc n) k (false ∷ lanes) m = active_take n (suc k) lanes m
active_take (suc n) k (true ∷ lanes) m = ap (λ xs. m k ∷ xs) (active_take n (suc k) lanes m)

-- the words joined, the last with the word that changes none
abbrev pub joined : (ℕ → ℕ → ℕ) → ℕ → List ℕ → ℕ
joined f e [] = e
joined f e (x ∷ xs) = f x (joined f e xs)

fold_first : (f : ℕ → ℕ → ℕ) (a : ℕ) (m : ℕ → ℕ) (n : ℕ) → fold_below f a m (suc n) ≡ fold_below f (f a (m 0)) (λ j. m (suc j)) n
fold_first f a m zero = refl
fold_first f a m (suc n) = ap (λ x. f x (m (suc n))) (fold_first f a m n)

pub fold_same : (f : ℕ → ℕ → ℕ) (a : ℕ) (m p : ℕ → ℕ) (n : ℕ) → ((j : ℕ) → j < n → m j ≡ p j) → fold_below f a m n ≡ fold_below f a p n
fold_same f a m p zero h = refl
fold_same f a m p (suc n) h = ap (λ x. f x (m n)) (fold_same f a m p n (λ j l. h j (omega arith))) ∙ ap (f (fold_below f a p n)) (h n (omega arith))

module _ (f : ℕ → ℕ → ℕ) (e : ℕ) (join : IsJoin f e) where
  pub joined_fits : (xs : List ℕ) → AllFit xs → joined f e xs < 2 ^ 64
  joined_fits [] h = join.small
  joined_fits (x ∷ xs) h = join.closed x (joined f e xs) h.0 (joined_fits xs h.1)

  fold_from : (k : ℕ) (lanes : Lanes) (m : ℕ → ℕ) (n a : ℕ) → ((i : ℕ) → m i < 2 ^ 64) → a < 2 ^ 64 → n ≤ length lanes
      → fold_below f a (λ j. cond (has lanes j) (m (k + j)) e) n ≡ f a (joined f e (active (take n lanes) (words_from k (take n lanes) m)))
  fold_from k lanes m zero a fits h le = sym (join.right a h)
  fold_from k [] m (suc n) a fits h le = absurd (omega arith)
  fold_from k (b ∷ lanes) m (suc n) a fits h le =
      let at_first : cond b (m (k + 0)) e ≡ cond b (m k) e = ap (λ j. cond b (m j) e) (omega arith) in
      fold_first f a (λ j. cond (has (b ∷ lanes) j) (m (k + j)) e) n
      ∙ ap (λ x. fold_below f (f a x) (λ j. cond (has lanes j) (m (k + suc j)) e) n) at_first
      ∙ fold_same f (f a (cond b (m k) e)) (λ j. cond (has lanes j) (m (k + suc j)) e) (λ j. cond (has lanes j) (m (suc k + j)) e) n
      (λ j l. ap (λ i. cond (has lanes j) (m i) e) (omega arith))
      ∙ fold_from (suc k) lanes m n (f a (cond b (m k) e)) fits (join.closed a (cond b (m k) e) h (chosen_fits b)) (omega arith)
      ∙ by_lane b
    where
      rest : ℕ
      rest = joined f e (active (take n lanes) (words_from (suc k) (take n lanes) m))

      rest_fits : rest < 2 ^ 64
      rest_fits = joined_fits (active (take n lanes) (words_from (suc k) (take n lanes) m)) (active_fits (suc k) (take n lanes) m fits)

      chosen_fits : (b : Bool) → cond b (m k) e < 2 ^ 64
      chosen_fits true = fits k
      chosen_fits false = join.small

      by_lane : (b : Bool) → f (f a (cond b (m k) e)) rest ≡ f a (joined f e (active (b ∷ take n lanes) (words_from k (b ∷ take n lanes) m)))
      by_lane true = join.grouped a (m k) rest h (fits k) rest_fits
      by_lane false = ap (λ x. f x rest) (join.right a h)

  -- the fold of the lanes of the set below lane n
  pub fold_joined : (lanes : Lanes) (m : ℕ → ℕ) (n : ℕ) → ((i : ℕ) → m i < 2 ^ 64) → n ≤ length lanes
      → fold_below f e (λ j. cond (has lanes j) (m j) e) n ≡ joined f e (before_lane n lanes (each lanes m))
  fold_joined lanes m n fits le =
      fold_same f e (λ j. cond (has lanes j) (m j) e) (λ j. cond (has lanes j) (m (0 + j)) e) n (λ j l. ap (λ i. cond (has lanes j) (m i) e) (omega arith))
      ∙ fold_from 0 lanes m n e fits join.small le
      ∙ join.left (joined f e (active (take n lanes) (words_from 0 (take n lanes) m))) (joined_fits (active (take n lanes) (words_from 0 (take n lanes) m)) (active_fits 0 (take n lanes) m fits))
      ∙ ap (joined f e) (sym (active_take n 0 lanes m))

-- the fold of all lanes of the set
pub fold_all : (fold : Fold) (w : ℕ) (lanes : Lanes) (m : ℕ → ℕ) → length lanes ≡ w → ((i : ℕ) → m i < 2 ^ 64)
    → fold_below (combined fold) (neutral fold) (λ j. cond (has lanes j) (m j) (neutral fold)) w ≡ joined (combined fold) (neutral fold) (active lanes (each lanes m))
fold_all fold w lanes m long fits =
    let whole : take w lanes ≡ lanes = ap (λ n. take n lanes) (sym long) ∙ take-length lanes in
    fold_joined (combined fold) (neutral fold) (joins fold) lanes m w fits (omega arith)
    ∙ ap (λ t. joined (combined fold) (neutral fold) (active t (each lanes m))) whole

-- ---- sums
sum_word : (ty : IntType) (xs : List ℕ) → AllFit xs → word_of (sum_of ty xs) ≡ joined (combined Add) 0 xs
sum_word ty [] h = word_of-pos 0 (omega arith)
sum_word ty (x ∷ xs) h =
    word_of-add (value_of ty x) (sum_of ty xs)
    ∙ ap (λ y. (y + word_of (sum_of ty xs)) % 2 ^ 64) (word_of-value_of ty x h.0)
    ∙ ap (λ y. (x + y) % 2 ^ 64) (sum_word ty xs h.1)

pub sum_wrapped : (ty to : IntType) (xs : List ℕ) → is_bool to ≡ false → AllFit xs → wrapped to (sum_of ty xs) ≡ narrow_word to (joined (combined Add) 0 xs)
sum_wrapped ty to xs p h = wrapped_integer to (sum_of ty xs) (joined (combined Add) 0 xs) p (sum_word ty xs h)

pub sum_type-integer : (ty : IntType) → is_bool (sum_type ty) ≡ false
sum_type-integer t.Bool = refl
sum_type-integer t.Int8 = refl
sum_type-integer t.Int16 = refl
sum_type-integer t.Int32 = refl
sum_type-integer t.Int64 = refl
sum_type-integer t.Uint8 = refl
sum_type-integer t.Uint16 = refl
sum_type-integer t.Uint32 = refl
sum_type-integer t.Uint64 = refl

-- ---- bits
wrapped-lt : (ty : IntType) (z : ℤ) → wrapped ty z < 2 ^ 64
unfolding wrapped
wrapped-lt ty z = word_of-lt (value_in ty z)

pub all_bits : (ty : IntType) (xs : List ℕ) → wrapped ty (negsuc 0) < 2 ^ 64 → scanned ScanAnd ty xs ≡ bit_and (joined (combined And) (2 ^ 64 - 1) xs) (wrapped ty (negsuc 0))
all_bits ty [] h = sym (and_comm (2 ^ 64 - 1) (wrapped ty (negsuc 0)) ∙ and_mask (wrapped ty (negsuc 0)) 64 ∙ omega arith)
all_bits ty (x ∷ xs) h = ap (bit_and x) (all_bits ty xs h) ∙ sym (and_assoc (wrapped ty (negsuc 0)) x (joined (combined And) (2 ^ 64 - 1) xs))

pub any_bits : (ty : IntType) (xs : List ℕ) → scanned ScanOr ty xs ≡ joined (combined Or) 0 xs
any_bits ty [] = refl
any_bits ty (x ∷ xs) = ap (bit_or x) (any_bits ty xs)

-- ---- the least and the greatest value
mapped : (ty : IntType) (k : ℕ) (lanes : Lanes) (m : ℕ → ℕ) → active lanes (words_from k lanes (λ j. biased ty (m j))) ≡ map (biased ty) (active lanes (words_from k lanes m))
mapped ty k [] m = refl
mapped ty k (false ∷ lanes) m = mapped ty (suc k) lanes m
mapped ty k (true ∷ lanes) m = ap (λ xs. biased ty (m k) ∷ xs) (mapped ty (suc k) lanes m)

pub biased-lt : (ty : IntType) (a : ℕ) → biased ty a < 2 ^ 64
biased-lt ty a = mod_below (a + bias ty) (2 ^ 64) (omega arith)

unbiased : (ty : IntType) (a : ℕ) → a < 2 ^ 64 → (biased ty a + (2 ^ 64 - bias ty)) % 2 ^ 64 ≡ a
unbiased ty a h =
    elim (is_signed ty) as (λ b. ((a + cond b (2 ^ 63) 0) % 2 ^ 64 + (2 ^ 64 - cond b (2 ^ 63) 0)) % 2 ^ 64 ≡ a) [
      | true ↦ omega arith
      | false ↦ omega arith
    ]

-- the fold picks, of two biased words, that of the value which the order puts first
abbrev PicksBy : Fold → (ℤ → ℤ → Bool) → IntType → Type 0
PicksBy fold below ty =
    (x y : ℕ) → x < 2 ^ 64 → y < 2 ^ 64 → combined fold (biased ty x) (biased ty y) ≡ biased ty (cond (below (value_of ty y) (value_of ty x)) y x)

module _ (fold : Fold) (below : ℤ → ℤ → Bool) (ty : IntType) (picks : PicksBy fold below ty) where
  picked-lt : (x y : ℕ) → x < 2 ^ 64 → y < 2 ^ 64 → (b : Bool) → cond b y x < 2 ^ 64
  picked-lt x y h k true = k
  picked-lt x y h k false = h

  least-lt : (x : ℕ) (xs : List ℕ) → x < 2 ^ 64 → AllFit xs → least_from below ty x xs < 2 ^ 64
  least-lt x [] h k = h
  least-lt x (y ∷ xs) h k = least-lt (cond (below (value_of ty y) (value_of ty x)) y x) xs (picked-lt x y h k.0 (below (value_of ty y) (value_of ty x))) k.1

  all_biased : (xs : List ℕ) → AllFit (map (biased ty) xs)
  all_biased [] = tt
  all_biased (x ∷ xs) = (biased-lt ty x, all_biased xs)

  least_joined : (x : ℕ) (xs : List ℕ) → x < 2 ^ 64 → AllFit xs → combined fold (biased ty x) (joined (combined fold) (neutral fold) (map (biased ty) xs)) ≡ biased ty (least_from below ty x xs)
  least_joined x [] h k = let join = joins fold in join.right (biased ty x) (biased-lt ty x)
  least_joined x (y ∷ xs) h k =
      let join = joins fold in
      sym (join.grouped (biased ty x) (biased ty y) (joined (combined fold) (neutral fold) (map (biased ty) xs)) (biased-lt ty x) (biased-lt ty y)
      (joined_fits (combined fold) (neutral fold) join (map (biased ty) xs) (all_biased xs)))
      ∙ ap (λ z. combined fold z (joined (combined fold) (neutral fold) (map (biased ty) xs))) (picks x y h k.0)
      ∙ least_joined (cond (below (value_of ty y) (value_of ty x)) y x) xs (picked-lt x y h k.0 (below (value_of ty y) (value_of ty x))) k.1

  least_of_all : (k : ℕ) (lanes : Lanes) (m : ℕ → ℕ) → no_lane lanes ≡ false → ((i : ℕ) → m i < 2 ^ 64)
      → (joined (combined fold) (neutral fold) (map (biased ty) (active lanes (words_from k lanes m))) + (2 ^ 64 - bias ty)) % 2 ^ 64 ≡ least below ty (active lanes (words_from k lanes m))
  least_of_all k [] m some fits = cc
  least_of_all k (false ∷ lanes) m some fits = least_of_all (suc k) lanes m some fits
  least_of_all k (true ∷ lanes) m some fits =
      ap (λ z. (z + (2 ^ 64 - bias ty)) % 2 ^ 64) (least_joined (m k) (active lanes (words_from (suc k) lanes m)) (fits k) (active_fits (suc k) lanes m fits))
      ∙ unbiased ty (least_from below ty (m k) (active lanes (words_from (suc k) lanes m))) (least-lt (m k) (active lanes (words_from (suc k) lanes m)) (fits k) (active_fits (suc k) lanes m fits))

  pub extreme : (w : ℕ) (lanes : Lanes) (m : ℕ → ℕ) → length lanes ≡ w → no_lane lanes ≡ false → ((i : ℕ) → m i < 2 ^ 64)
      → (fold_below (combined fold) (neutral fold) (λ j. cond (has lanes j) (biased ty (m j)) (neutral fold)) w + (2 ^ 64 - bias ty)) % 2 ^ 64 ≡ least below ty (active lanes (each lanes m))
  extreme w lanes m long some fits =
      ap (λ z. (z + (2 ^ 64 - bias ty)) % 2 ^ 64)
      (fold_all fold w lanes (λ j. biased ty (m j)) long (λ i. biased-lt ty (m i)) ∙ ap (joined (combined fold) (neutral fold)) (mapped ty 0 lanes m))
      ∙ least_of_all 0 lanes m some fits

biased_choice : (ty : IntType) (x y : ℕ) (b : Bool) → cond b (biased ty y) (biased ty x) ≡ biased ty (cond b y x)
biased_choice ty x y true = refl
biased_choice ty x y false = refl

pub least_picks : (ty : IntType) → PicksBy Min int_lt ty
least_picks ty x y h k =
    ap (λ b. cond b (biased ty y) (biased ty x)) (sym (less_biased ty y x k h)) ∙ biased_choice ty x y (int_lt (value_of ty y) (value_of ty x))

pub greatest_picks : (ty : IntType) → PicksBy Max (λ a b. int_lt b a) ty
greatest_picks ty x y h k =
    ap (λ b. cond b (biased ty y) (biased ty x)) (sym (less_biased ty x y h k)) ∙ biased_choice ty x y (int_lt (value_of ty x) (value_of ty y))

-- ---- the sum, at its own type
pub sum_reduced : (ty to : IntType) (w : ℕ) (lanes : Lanes) (m : ℕ → ℕ) (sum : ℕ) → to ≡ sum_type ty → length lanes ≡ w → ((i : ℕ) → m i < 2 ^ 64)
    → sum ≡ fold_below (combined Add) 0 (λ j. cond (has lanes j) (m j) 0) w
    → converted ty to sum ≡ wrapped (sum_type ty) (sum_of ty (active lanes (each lanes m)))
sum_reduced ty to w lanes m sum et long fits e =
    let same : sum ≡ joined (combined Add) 0 (active lanes (each lanes m)) = e ∙ fold_all Add w lanes m long fits in
    let fit : AllFit (active lanes (each lanes m)) = active_fits 0 lanes m fits in
    ap (λ s. converted ty to s) same
    ∙ convert_any ty to (joined (combined Add) 0 (active lanes (each lanes m))) (joined_fits (combined Add) 0 (joins Add) (active lanes (each lanes m)) fit)
    ∙ ap (λ s. narrow_word s (joined (combined Add) 0 (active lanes (each lanes m)))) et
    ∙ sym (sum_wrapped ty (sum_type ty) (active lanes (each lanes m)) (sum_type-integer ty) fit)

-- ---- sums of bools
abbrev total : List ℕ → ℕ
total [] = 0
total (x ∷ xs) = x + total xs

bool_sum : (xs : List ℕ) → sum_of t.Bool xs ≡ pos (total xs)
unfolding value_of
bool_sum [] = refl
bool_sum (x ∷ xs) = ap (λ z. pos x +ℤ z) (bool_sum xs)

bool_zero : (xs : List ℕ) → nat_eq (total xs) 0 ≡ nat_eq (joined bit_or 0 xs) 0
bool_zero [] = refl
bool_zero (x ∷ xs) = both x (total xs) (joined bit_or 0 xs) (bool_zero xs) ∙ or_zero x (joined bit_or 0 xs)
  where
    both : (x s t : ℕ) → nat_eq s 0 ≡ nat_eq t 0 → nat_eq (x + s) 0 ≡ nat_eq (x + t) 0
    both x s t e = grind (arith, nat_tests)

-- the fold that a scan of sums joins words by: at bool the sum is 0 where all bits are
abbrev pub scan_fold : IntType → Fold
scan_fold ty = cond (is_bool ty) Or Add

scan_word : (ty : IntType) (xs : List ℕ) → AllFit xs → wrapped ty (sum_of ty xs) ≡ narrow_word ty (joined (combined (scan_fold ty)) (neutral (scan_fold ty)) xs)
scan_word t.Bool xs h = wrapped_bool (sum_of t.Bool xs) (joined bit_or 0 xs) (ap (λ z. nat_eq (unsigned_abs z) 0) (bool_sum xs) ∙ bool_zero xs)
scan_word t.Int8 xs h = sum_wrapped t.Int8 t.Int8 xs refl h
scan_word t.Int16 xs h = sum_wrapped t.Int16 t.Int16 xs refl h
scan_word t.Int32 xs h = sum_wrapped t.Int32 t.Int32 xs refl h
scan_word t.Int64 xs h = sum_wrapped t.Int64 t.Int64 xs refl h
scan_word t.Uint8 xs h = sum_wrapped t.Uint8 t.Uint8 xs refl h
scan_word t.Uint16 xs h = sum_wrapped t.Uint16 t.Uint16 xs refl h
scan_word t.Uint32 xs h = sum_wrapped t.Uint32 t.Uint32 xs refl h
scan_word t.Uint64 xs h = sum_wrapped t.Uint64 t.Uint64 xs refl h

before_fits : (k : ℕ) (lanes : Lanes) (m : ℕ → ℕ) → ((i : ℕ) → m i < 2 ^ 64) → AllFit (before_lane k lanes (each lanes m))
before_fits k lanes m fits = subst AllFit (sym (active_take k 0 lanes m)) (active_fits 0 (take k lanes) m fits)

-- a lane of a scan, from the fold of the lanes below it
pub sum_before : (ty : IntType) (fold : Fold) (lanes : Lanes) (m : ℕ → ℕ) (k sum : ℕ) → fold ≡ scan_fold ty → k ≤ length lanes → ((i : ℕ) → m i < 2 ^ 64)
    → sum ≡ fold_below (combined fold) (neutral fold) (λ j. cond (has lanes j) (m j) (neutral fold)) k
    → converted ty ty sum ≡ scanned ScanAdd ty (before_lane k lanes (each lanes m))
sum_before ty fold lanes m k sum ef le fits e =
    let fit : AllFit (before_lane k lanes (each lanes m)) = before_fits k lanes m fits in
    let same : sum ≡ joined (combined fold) (neutral fold) (before_lane k lanes (each lanes m)) =
    e ∙ fold_joined (combined fold) (neutral fold) (joins fold) lanes m k fits le in
    ap (λ s. converted ty ty s) same
    ∙ convert_any ty ty (joined (combined fold) (neutral fold) (before_lane k lanes (each lanes m))) (joined_fits (combined fold) (neutral fold) (joins fold) (before_lane k lanes (each lanes m)) fit)
    ∙ ap (λ o. narrow_word ty (joined (combined o) (neutral o) (before_lane k lanes (each lanes m)))) ef
    ∙ sym (scan_word ty (before_lane k lanes (each lanes m)) fit)

pub all_before : (ty : IntType) (lanes : Lanes) (m : ℕ → ℕ) (k bits ones : ℕ) → k ≤ length lanes → ((i : ℕ) → m i < 2 ^ 64) → ones ≡ wrapped ty (negsuc 0)
    → bits ≡ fold_below (combined And) (neutral And) (λ j. cond (has lanes j) (m j) (neutral And)) k
    → bit_and bits ones ≡ scanned ScanAnd ty (before_lane k lanes (each lanes m))
all_before ty lanes m k bits ones le fits eo e =
    ap (λ b. bit_and b ones) (e ∙ fold_joined (combined And) (neutral And) (joins And) lanes m k fits le)
    ∙ ap (bit_and (joined (combined And) (neutral And) (before_lane k lanes (each lanes m)))) eo
    ∙ sym (all_bits ty (before_lane k lanes (each lanes m)) (wrapped-lt ty (negsuc 0)))

pub any_before : (ty : IntType) (lanes : Lanes) (m : ℕ → ℕ) (k bits : ℕ) → k ≤ length lanes → ((i : ℕ) → m i < 2 ^ 64)
    → bits ≡ fold_below (combined Or) (neutral Or) (λ j. cond (has lanes j) (m j) (neutral Or)) k
    → bits ≡ scanned ScanOr ty (before_lane k lanes (each lanes m))
any_before ty lanes m k bits le fits e =
    e ∙ fold_joined (combined Or) (neutral Or) (joins Or) lanes m k fits le ∙ sym (any_bits ty (before_lane k lanes (each lanes m)))
