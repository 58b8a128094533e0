-- Lanes of vectors that operations made.
use Rattle.std.proofs.Common.{ℕ, ◌+◌, ◌-◌, ◌/◌, ◌%◌, ◌^◌, ◌<◌, Bool, true, false, cond, ◌≡◌, refl, sym, ◌∙◌, ap, subst, arith, List, [], ◌∷◌, length, map, slice_index, w64}
use Rattle.std.specs.Prelude.{int_lt, not, nat_eq, nat_lt, bit_and, min, replicate}
use lib.Lanes.{zip2, sel_l, top, Each2}
use Rattle.std.proofs.lemmas.List.{get_or-map, length-map, get_or-replicate, length-replicate}
use Rattle.std.proofs.lemmas.Simd.{get_or-zip2, get_or-sel_l, length-zip2, zip2_splat, map-map, tops_compared}
use Rattle.std.proofs.lemmas.Bool.Decides.{nat_tests}
use Rattle.gang_types.specs.declared.types.IntType.{IntType}
use Rattle.gang_types.specs.Values.{value_of, is_bool, half, width, amount}
use Rattle.gang_types.specs.Laws.{narrow_word, narrowed, truth_word, biased, bias, amount-le, shifted_right, less_biased}

pub lane_map : (f : ℕ → ℕ) (xs : List ℕ) (i : ℕ) → i < length xs → slice_index (map f xs) i ≡ f (slice_index xs i)
lane_map f xs i h = get_or-map f xs i 0 0 h

pub lane_zip2 : (f : ℕ → ℕ → ℕ) (xs ys : List ℕ) (i : ℕ) → i < length xs → i < length ys → slice_index (zip2 f xs ys) i ≡ f (slice_index xs i) (slice_index ys i)
lane_zip2 f xs ys i h k = get_or-zip2 f xs ys i 0 0 0 h k

pub map_same : (f g : ℕ → ℕ) → ((x : ℕ) → f x ≡ g x) → (xs : List ℕ) → map f xs ≡ map g xs
map_same f g e [] = refl
map_same f g e (x ∷ xs) = ap (λ y. y ∷ map f xs) (e x) ∙ ap (λ ys. g x ∷ ys) (map_same f g e xs)

choose_splat_here : (p : ℕ → Bool) (s t : ℕ) (xs : List ℕ) → sel_l (map p xs) (replicate (length xs) s) (replicate (length xs) t) ≡ map (λ x. cond (p x) s t) xs
choose_splat_here p s t [] = refl
choose_splat_here p s t (x ∷ xs) = ap (λ ys. cond (p x) s t ∷ ys) (choose_splat_here p s t xs)

-- a choice between two numbers, by a test of each lane
pub choose_splat : (p : ℕ → Bool) (s t : ℕ) (xs : List ℕ) (n : ℕ) → length xs ≡ n → sel_l (map p xs) (replicate n s) (replicate n t) ≡ map (λ x. cond (p x) s t) xs
choose_splat p s t xs n e = subst (λ m. sel_l (map p xs) (replicate m s) (replicate m t) ≡ map (λ x. cond (p x) s t) xs) e (choose_splat_here p s t xs)

flip_cond : (b : Bool) → ◌≡◌ {A = ℕ} (cond (not b) 1 0) (cond b 0 1)
flip_cond true = refl
flip_cond false = refl

pub narrow_bool : (ty : IntType) (xs : List ℕ) (n : ℕ) → is_bool ty ≡ true → length xs ≡ n
    → sel_l (map (top 63) (zip2 (λ a b. cond (not (nat_eq a b)) (2 ^ 64 - 1) 0) xs (replicate n 0))) (replicate n 1) (replicate n 0) ≡ map (narrow_word ty) xs
narrow_bool ty xs n p e =
    ap (λ ms. sel_l ms (replicate n 1) (replicate n 0)) (tops_compared w64 (λ a b. not (nat_eq a b)) xs (replicate n 0) ∙ zip2_splat (λ a b. not (nat_eq a b)) xs n 0 e)
    ∙ choose_splat (λ x. not (nat_eq x 0)) 1 0 xs n e
    ∙ map_same (λ x. cond (not (nat_eq x 0)) 1 0) (narrow_word ty) (λ x. flip_cond (nat_eq x 0) ∙ sym (ap (λ b. cond b (truth_word x) (narrowed ty x)) p)) xs

pub narrow_integer : (ty : IntType) (xs : List ℕ) (n h l : ℕ) → is_bool ty ≡ false → length xs ≡ n → h ≡ half ty → l ≡ 2 ^ width ty - 1
    → zip2 (λ a b. (a + (2 ^ 64 - b)) % 2 ^ 64) (zip2 bit_and (zip2 (λ a b. (a + b) % 2 ^ 64) xs (replicate n h)) (replicate n l)) (replicate n h) ≡ map (narrow_word ty) xs
narrow_integer ty xs n h l p e eh el =
    let first : zip2 (λ a b. (a + b) % 2 ^ 64) xs (replicate n h) ≡ map (λ x. (x + h) % 2 ^ 64) xs = zip2_splat (λ a b. (a + b) % 2 ^ 64) xs n h e in
    let second : zip2 bit_and (map (λ x. (x + h) % 2 ^ 64) xs) (replicate n l) ≡ map (λ x. bit_and ((x + h) % 2 ^ 64) l) xs =
    zip2_splat bit_and (map (λ x. (x + h) % 2 ^ 64) xs) n l (length-map xs (λ x. (x + h) % 2 ^ 64) ∙ e) ∙ map-map (λ x. bit_and x l) (λ x. (x + h) % 2 ^ 64) xs in
    let third : zip2 (λ a b. (a + (2 ^ 64 - b)) % 2 ^ 64) (map (λ x. bit_and ((x + h) % 2 ^ 64) l) xs) (replicate n h) ≡ map (λ x. (bit_and ((x + h) % 2 ^ 64) l + (2 ^ 64 - h)) % 2 ^ 64) xs =
    zip2_splat (λ a b. (a + (2 ^ 64 - b)) % 2 ^ 64) (map (λ x. bit_and ((x + h) % 2 ^ 64) l) xs) n h (length-map xs (λ x. bit_and ((x + h) % 2 ^ 64) l) ∙ e)
    ∙ map-map (λ x. (x + (2 ^ 64 - h)) % 2 ^ 64) (λ x. bit_and ((x + h) % 2 ^ 64) l) xs in
    ap (λ ys. zip2 (λ a b. (a + (2 ^ 64 - b)) % 2 ^ 64) (zip2 bit_and ys (replicate n l)) (replicate n h)) first
    ∙ ap (λ ys. zip2 (λ a b. (a + (2 ^ 64 - b)) % 2 ^ 64) ys (replicate n h)) second
    ∙ third
    ∙ map_same (λ x. (bit_and ((x + h) % 2 ^ 64) l + (2 ^ 64 - h)) % 2 ^ 64) (narrow_word ty)
    (λ x. ap (λ i. (bit_and ((x + i) % 2 ^ 64) l + (2 ^ 64 - i)) % 2 ^ 64) eh
    ∙ ap (λ j. (bit_and ((x + half ty) % 2 ^ 64) j + (2 ^ 64 - half ty)) % 2 ^ 64) el
    ∙ sym (ap (λ b. cond b (truth_word x) (narrowed ty x)) p)) xs

-- a lane of an operator on two vectors, narrowed
pub by_zip : (n : ℕ) (narrow : ℕ → ℕ) (f : ℕ → ℕ → ℕ) (a b : List ℕ) (i : ℕ) → i < n → length a ≡ n → length b ≡ n → slice_index (map narrow (zip2 f a b)) i ≡ narrow (f (slice_index a i) (slice_index b i))
by_zip n narrow f a b i h la lb =
    lane_map narrow (zip2 f a b) i (omega (arith, length-zip2 f a b (la ∙ sym lb))) ∙ ap narrow (lane_zip2 f a b i (omega arith) (omega arith))

-- each lane of r is `spec` of the lanes of a and b, where the words before the narrowing are f of them
pub by_lane : (n : ℕ) (narrow : ℕ → ℕ) (f spec : ℕ → ℕ → ℕ) (a b s r : List ℕ)
    → r ≡ map narrow s
    → length s ≡ n
    → ((i : ℕ) → i < n → slice_index s i ≡ f (slice_index a i) (slice_index b i))
    → ((k : ℕ) → slice_index a k < 2 ^ 64)
    → ((k : ℕ) → slice_index b k < 2 ^ 64)
    → ((x y : ℕ) → x < 2 ^ 64 → y < 2 ^ 64 → spec x y ≡ narrow (f x y))
    → (i : ℕ) → i < n → slice_index r i ≡ spec (slice_index a i) (slice_index b i)
by_lane n narrow f spec a b s r e long each fa fb same i h =
    ap (λ l. slice_index l i) e
    ∙ lane_map narrow s i (omega arith)
    ∙ ap narrow (each i h)
    ∙ sym (same (slice_index a i) (slice_index b i) (fa i) (fb i))

-- the same, of one operator on two vectors
pub by_lane_of : (n : ℕ) (narrow : ℕ → ℕ) (f spec : ℕ → ℕ → ℕ) (a b s r : List ℕ)
    → r ≡ map narrow s
    → s ≡ zip2 f a b
    → length a ≡ n
    → length b ≡ n
    → ((k : ℕ) → slice_index a k < 2 ^ 64)
    → ((k : ℕ) → slice_index b k < 2 ^ 64)
    → ((x y : ℕ) → x < 2 ^ 64 → y < 2 ^ 64 → spec x y ≡ narrow (f x y))
    → (i : ℕ) → i < n → slice_index r i ≡ spec (slice_index a i) (slice_index b i)
by_lane_of n narrow f spec a b s r e z la lb fa fb same =
    by_lane n narrow f spec a b s r e
    (ap length z ∙ length-zip2 f a b (la ∙ sym lb) ∙ la)
    (λ i h. ap (λ l. slice_index l i) z ∙ lane_zip2 f a b i (omega arith) (omega arith))
    fa fb same

pub amounts_fit : (ty : IntType) (xs ys : List ℕ) → Each2 (λ (x y : ℕ). y < 64) xs (map (amount ty) ys)
amounts_fit ty [] ys = tt
amounts_fit ty (x ∷ xs) [] = tt
amounts_fit ty (x ∷ xs) (y ∷ ys) = (omega (arith, amount-le ty y), amounts_fit ty xs ys)

-- a choice by a comparison of two vectors
pub lane_chosen : (n : ℕ) (t : ℕ → ℕ → Bool) (xs ys us vs : List ℕ) → length xs ≡ n → length ys ≡ n → length us ≡ n → length vs ≡ n
    → (i : ℕ) → i < n → slice_index (sel_l (map (top 63) (zip2 (λ a b. cond (t a b) (2 ^ 64 - 1) 0) xs ys)) us vs) i ≡ cond (t (slice_index xs i) (slice_index ys i)) (slice_index us i) (slice_index vs i)
lane_chosen n t xs ys us vs lx ly lu lv i h =
    let long : length (zip2 t xs ys) ≡ n = length-zip2 t xs ys (lx ∙ sym ly) ∙ lx in
    ap (λ ms. slice_index (sel_l ms us vs) i) (tops_compared w64 t xs ys)
    ∙ get_or-sel_l (zip2 t xs ys) us vs i 0 (omega arith) (omega arith) (omega arith)
    ∙ ap (λ b. cond b (slice_index us i) (slice_index vs i)) (get_or-zip2 t xs ys i 0 0 false (omega arith) (omega arith))

pub lane_splat : (n i k : ℕ) → i < n → slice_index (replicate n k) i ≡ k
lane_splat n i k h = get_or-replicate n i k 0 h

pub length_splat : (n k : ℕ) → length (replicate n k) ≡ n
length_splat n k = length-replicate n k

pub min_is : (x y : ℕ) → min x y ≡ cond (nat_lt x y) x y
min_is x y = grind (arith, nat_tests)

pub cond_not : (b : Bool) (x y : ℕ) → cond (not b) x y ≡ cond b y x
cond_not true x y = refl
cond_not false x y = refl

-- one of two numbers, by a comparison of two vectors
pub lane_picked : (n : ℕ) (t : ℕ → ℕ → Bool) (xs ys : List ℕ) (u v : ℕ) → length xs ≡ n → length ys ≡ n
    → (i : ℕ) → i < n → slice_index (sel_l (map (top 63) (zip2 (λ a b. cond (t a b) (2 ^ 64 - 1) 0) xs ys)) (replicate n u) (replicate n v)) i ≡ cond (t (slice_index xs i) (slice_index ys i)) u v
lane_picked n t xs ys u v lx ly i h =
    lane_chosen n t xs ys (replicate n u) (replicate n v) lx ly (length_splat n u) (length_splat n v) i h
    ∙ ap (λ x. cond (t (slice_index xs i) (slice_index ys i)) x (slice_index (replicate n v) i)) (lane_splat n i u h)
    ∙ ap (λ y. cond (t (slice_index xs i) (slice_index ys i)) u y) (lane_splat n i v h)

pub biased_lane : (ty : IntType) (a x : List ℕ) (i : ℕ) → x ≡ map (biased ty) a → i < length a → slice_index x i ≡ biased ty (slice_index a i)
biased_lane ty a x i e h = ap (λ l. slice_index l i) e ∙ lane_map (biased ty) a i h

-- a shift to the right in each lane, before the narrowing
pub shr_lane : (ty : IntType) (n k : ℕ) (a b xs ps : List ℕ) → xs ≡ map (biased ty) a → ps ≡ map (amount ty) b → k ≡ bias ty
    → length a ≡ n → length b ≡ n → length xs ≡ n → length ps ≡ n
    → (i : ℕ) → i < n
    → slice_index (zip2 (λ u v. (u + (2 ^ 64 - v)) % 2 ^ 64) (zip2 (λ u v. u / 2 ^ v) xs ps) (zip2 (λ u v. u / 2 ^ v) (replicate n k) ps)) i
    ≡ shifted_right ty (slice_index a i) (amount ty (slice_index b i))
shr_lane ty n k a b xs ps ex ep ek la lb lx lp i h =
    let x : slice_index xs i ≡ biased ty (slice_index a i) = ap (λ l. slice_index l i) ex ∙ lane_map (biased ty) a i (omega arith) in
    let p : slice_index ps i ≡ amount ty (slice_index b i) = ap (λ l. slice_index l i) ep ∙ lane_map (amount ty) b i (omega arith) in
    let f : ℕ → ℕ → ℕ = λ u v. u / 2 ^ v in
    let long : length (zip2 (λ u v. u / 2 ^ v) xs ps) ≡ n = length-zip2 (λ u v. u / 2 ^ v) xs ps (lx ∙ sym lp) ∙ lx in
    let splat : length (replicate n k) ≡ n = length_splat n k in
    let wide : length (zip2 (λ u v. u / 2 ^ v) (replicate n k) ps) ≡ n = length-zip2 (λ u v. u / 2 ^ v) (replicate n k) ps (splat ∙ sym lp) ∙ splat in
    lane_zip2 (λ u v. (u + (2 ^ 64 - v)) % 2 ^ 64) (zip2 (λ u v. u / 2 ^ v) xs ps) (zip2 (λ u v. u / 2 ^ v) (replicate n k) ps) i (omega arith) (omega arith)
    ∙ ap (λ u. (u + (2 ^ 64 - slice_index (zip2 (λ u v. u / 2 ^ v) (replicate n k) ps) i)) % 2 ^ 64) (lane_zip2 (λ u v. u / 2 ^ v) xs ps i (omega arith) (omega arith))
    ∙ ap (λ v. (slice_index xs i / 2 ^ slice_index ps i + (2 ^ 64 - v)) % 2 ^ 64) (lane_zip2 (λ u v. u / 2 ^ v) (replicate n k) ps i (omega arith) (omega arith))
    ∙ ap (λ u. (u / 2 ^ slice_index ps i + (2 ^ 64 - slice_index (replicate n k) i / 2 ^ slice_index ps i)) % 2 ^ 64) x
    ∙ ap (λ v. (biased ty (slice_index a i) / 2 ^ v + (2 ^ 64 - slice_index (replicate n k) i / 2 ^ v)) % 2 ^ 64) p
    ∙ ap (λ v. (biased ty (slice_index a i) / 2 ^ amount ty (slice_index b i) + (2 ^ 64 - v / 2 ^ amount ty (slice_index b i))) % 2 ^ 64) (lane_splat n i k h ∙ ek)

pub shr_length : (n k : ℕ) (xs ps : List ℕ) → length xs ≡ n → length ps ≡ n
    → length (zip2 (λ u v. (u + (2 ^ 64 - v)) % 2 ^ 64) (zip2 (λ u v. u / 2 ^ v) xs ps) (zip2 (λ u v. u / 2 ^ v) (replicate n k) ps)) ≡ n
shr_length n k xs ps lx lp =
    let long : length (zip2 (λ u v. u / 2 ^ v) xs ps) ≡ n = length-zip2 (λ u v. u / 2 ^ v) xs ps (lx ∙ sym lp) ∙ lx in
    let splat : length (replicate n k) ≡ n = length_splat n k in
    let wide : length (zip2 (λ u v. u / 2 ^ v) (replicate n k) ps) ≡ n = length-zip2 (λ u v. u / 2 ^ v) (replicate n k) ps (splat ∙ sym lp) ∙ splat in
    length-zip2 (λ u v. (u + (2 ^ 64 - v)) % 2 ^ 64) (zip2 (λ u v. u / 2 ^ v) xs ps) (zip2 (λ u v. u / 2 ^ v) (replicate n k) ps) (long ∙ sym wide) ∙ long

-- a choice by the words that order as the values do
pub chosen_by_value : (ty : IntType) (a b x y : List ℕ) (i u v : ℕ) → x ≡ map (biased ty) a → y ≡ map (biased ty) b → i < length a → i < length b
    → slice_index a i < 2 ^ 64 → slice_index b i < 2 ^ 64
    → cond (nat_lt (slice_index x i) (slice_index y i)) u v ≡ cond (int_lt (value_of ty (slice_index a i)) (value_of ty (slice_index b i))) u v
chosen_by_value ty a b x y i u v ex ey la lb fa fb =
    ap (λ n. cond (nat_lt n (slice_index y i)) u v) (biased_lane ty a x i ex la)
    ∙ ap (λ n. cond (nat_lt (biased ty (slice_index a i)) n) u v) (biased_lane ty b y i ey lb)
    ∙ ap (λ t. cond t u v) (sym (less_biased ty (slice_index a i) (slice_index b i) fa fb))
