-- The values of lanes, one after another, and the lowest lane that has one.
use Rattle.std.proofs.Common.{◌≡◌, refl, sym, ap, ◌∙◌, ℕ, zero, suc, ◌+◌, ◌<◌, true, false, List, [], ◌∷◌, ◌++◌, length, append_assoc, append-nil, add-one, arith}
use Rattle.std.specs.Prelude.{flat_map}
use Rattle.std.specs.List.{join_by, range_with_len}
use Rattle.gang_types.specs.Lanes.{Lanes, has, lowest, no_lane}
use Rattle.gang_model.specs.Texts.Text.{Bytes}
use Rattle.adapter_replies.specs.Expressions.{gap}

-- ---- the lowest lane

-- a lane of the set with none below it is the lowest one
pub lowest_at : (lanes : Lanes) (k : ℕ) → has lanes k ≡ true → ((i : ℕ) → i < k → has lanes i ≡ false) → (no_lane lanes ≡ false) × (lowest lanes ≡ k)
lowest_at [] k here below = absurd (cc)
lowest_at (true ∷ lanes) zero here below = (refl, refl)
lowest_at (false ∷ lanes) zero here below = absurd (cc)
lowest_at (true ∷ lanes) (suc k) here below = let no : true ≡ false = below 0 (omega arith) in absurd (cc no)
lowest_at (false ∷ lanes) (suc k) here below =
    let (some, is) = lowest_at lanes k here (λ i less. below (suc i) (omega (arith, less))) in
    (some, ap suc is)

-- where no lane is in the set it has none
pub none_in : (lanes : Lanes) → ((i : ℕ) → i < length lanes → has lanes i ≡ false) → no_lane lanes ≡ true
none_in [] none = refl
none_in (true ∷ lanes) none = let no : true ≡ false = none 0 (omega arith) in absurd (cc no)
none_in (false ∷ lanes) none = none_in lanes (λ i less. none (suc i) (omega (arith, less)))

-- ---- one value more

range_more : (a n : ℕ) → range_with_len a (suc n) ≡ range_with_len a n ++ (a + n) ∷ []
range_more a zero = let same : a ≡ a + 0 = omega arith in ap (λ x. x ∷ []) same
range_more a (suc n) =
    let same : a + 1 + n ≡ a + suc n = omega arith in
    ap (λ l. a ∷ l) (range_more (a + 1) n ∙ ap (λ x. range_with_len (a + 1) n ++ x ∷ []) same)

flat_last : {X : Type 0} (g : X → Bytes) (xs : List X) (x : X) → flat_map g (xs ++ x ∷ []) ≡ flat_map g xs ++ g x
flat_last g [] x = append-nil (g x)
flat_last g (y ∷ xs) x = ap (λ l. g y ++ l) (flat_last g xs x) ∙ sym (append_assoc (g y) (flat_map g xs) (g x))

join_more : (f : ℕ → Bytes) (n : ℕ) → join_by f (32 ∷ []) (range_with_len 0 (suc n)) ≡ (join_by f (32 ∷ []) (range_with_len 0 n) ++ gap n) ++ f n
join_more f zero = append-nil (f 0)
join_more f (suc n) =
    let g = λ (y : ℕ). (32 ∷ []) ++ f y in
    let front = flat_map g (range_with_len 1 n) in
    let same : 1 + n ≡ suc n = omega arith in
    ap (λ l. f 0 ++ flat_map g l) (range_more 1 n ∙ ap (λ x. range_with_len 1 n ++ x ∷ []) same)
    ∙ ap (λ l. f 0 ++ l) (flat_last g (range_with_len 1 n) (suc n) ∙ sym (append_assoc front (32 ∷ []) (f (suc n))))
    ∙ sym (append_assoc (f 0) (front ++ 32 ∷ []) (f (suc n)))
    ∙ ap (λ l. l ++ f (suc n)) (sym (append_assoc (f 0) front (32 ∷ [])))

-- the values of the lanes up to one and of that one
pub joined_more : (f : ℕ → Bytes) (n : ℕ) (old new : Bytes) → old ≡ join_by f (32 ∷ []) (range_with_len 0 n) → new ≡ (old ++ gap n) ++ f n → new ≡ join_by f (32 ∷ []) (range_with_len 0 (n + 1))
joined_more f n old new so more = more ∙ ap (λ l. (l ++ gap n) ++ f n) so ∙ sym (join_more f n) ∙ ap (λ k. join_by f (32 ∷ []) (range_with_len 0 k)) (sym (add-one n))
