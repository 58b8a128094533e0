-- The values of a line, one after another.
use Rattle.std.proofs.Common.{◌≡◌, ℕ, suc, ◌+◌, ◌-◌, ◌<◌, ◌≤◌, List, [], ◌∷◌, ◌++◌, length, map, Bool, true, false, min, refl, sym, ap, ◌∙◌, arith, length-append, append_assoc, Option, Some, None, Result, Ok, Err, inl, inr, true≢false}
use Rattle.std.specs.Prelude.{nat_lt, ◌&&◌, not, if◌then◌else◌, ℤ, pos, negsuc, neg_ℤ, ◌≤ℤ◌, ◌<ℤ◌, ◌==◌, option_map, ◌^◌}
use Rattle.std.proofs.lemmas.Bool.{cases_lt}
use Rattle.std.proofs.lemmas.Bool.Decides.{nat_tests}
use Rattle.std.proofs.lemmas.Int.{ints}
use Rattle.std.proofs.lemmas.List.{length-map, map-append}
use Rattle.std.proofs.Math.Nat.{min-eq_left, min_comm}
use Rattle.gang_types.specs.declared.types.IntType.{IntType}
use Rattle.gang_types.specs.declared.types.IntType.TheVariants.{Bool as BoolType, Int8, Int16, Int32, Int64, Uint8, Uint16, Uint32, Uint64}
use Rattle.gang_types.specs.Values.{value_of, wrapped}
use Rattle.gang_types.specs.Ranges.{InType, wrapped-InType}
use Rattle.gang_model.specs.Debugger.Debugger.{is_value, same_number}
use Rattle.gang_model.specs.Debugger.Events.{Row}
use Rattle.gang_model.specs.Texts.InputText.{BadLine, InputRefusal, Range, Receiver, TooLarge, are_values, and_value, most_values, row_with}
use Rattle.debug_inputs.specs.declared.values.Values.{Values}
use Rattle.debug_inputs.specs.Limited.{limited}
use Rattle.debug_inputs.specs.LineValues.{IsMost, ShowsValues}

-- ---- values that lie too far from 0

-- no type has a number from 2 ^ 64 on, or so far below 0
record Near (v : ℤ) : Type 0 where
  low : neg_ℤ (pos (2 ^ 63)) ≤ℤ v
  high : v <ℤ pos (2 ^ 64)

near_type : (type : IntType) (v : ℤ) → InType type v → Near v
near_type BoolType v i = record { low = omega (arith, ints, i.low, i.high); high = omega (arith, ints, i.low, i.high) }
near_type Int8 v i = record { low = omega (arith, ints, i.low, i.high); high = omega (arith, ints, i.low, i.high) }
near_type Int16 v i = record { low = omega (arith, ints, i.low, i.high); high = omega (arith, ints, i.low, i.high) }
near_type Int32 v i = record { low = omega (arith, ints, i.low, i.high); high = omega (arith, ints, i.low, i.high) }
near_type Int64 v i = record { low = omega (arith, ints, i.low, i.high); high = omega (arith, ints, i.low, i.high) }
near_type Uint8 v i = record { low = omega (arith, ints, i.low, i.high); high = omega (arith, ints, i.low, i.high) }
near_type Uint16 v i = record { low = omega (arith, ints, i.low, i.high); high = omega (arith, ints, i.low, i.high) }
near_type Uint32 v i = record { low = omega (arith, ints, i.low, i.high); high = omega (arith, ints, i.low, i.high) }
near_type Uint64 v i = record { low = omega (arith, ints, i.low, i.high); high = omega (arith, ints, i.low, i.high) }

near : (type : IntType) (z : ℤ) → Near (value_of type (wrapped type z))
near type z = near_type type (value_of type (wrapped type z)) (wrapped-InType type z)

not_far : (v : ℤ) (n : ℕ) → Near v → 2 ^ 64 ≤ n → same_number v (pos n) ≡ false
not_far (pos a) n h le = let lt : a < n = omega (arith, ints, h.high, le) in grind (arith, nat_tests, lt)
not_far (negsuc a) n h le = refl

not_below : (v : ℤ) (n : ℕ) → Near v → 2 ^ 64 ≤ suc n → same_number v (negsuc n) ≡ false
not_below (pos a) n h le = refl
not_below (negsuc a) n h le = let lt : a < n = omega (arith, ints, h.low, le) in grind (arith, nat_tests, lt)

-- a value of a type is told as it is
pub limited_kept : (type : IntType) (z : ℤ) → is_value type z ≡ true → limited z ≡ z
limited_kept type (pos n) is = elim (cases_lt n (2 ^ 64)) [
  | inl lt ↦ ap pos (min_comm (2 ^ 64) n ∙ min-eq_left (omega (arith, lt)))
  | inr le ↦ absurd (true≢false (sym is ∙ not_far (value_of type (wrapped type (pos n))) n (near type (pos n)) le))
]
limited_kept type (negsuc n) is = elim (cases_lt (suc n) (2 ^ 64)) [
  | inl lt ↦ ap (λ m. neg_ℤ (pos m)) (min_comm (2 ^ 64) (suc n) ∙ min-eq_left (omega (arith, lt)))
  | inr le ↦ absurd (true≢false (sym is ∙ not_below (value_of type (wrapped type (negsuc n))) n (near type (negsuc n)) le))
]

-- whether it is a value of a type is seen
pub limited_value : (type : IntType) (z : ℤ) → is_value type (limited z) ≡ is_value type z
limited_value type (pos n) = elim (cases_lt n (2 ^ 64)) [
  | inl lt ↦ ap (λ m. is_value type (pos m)) (min_comm (2 ^ 64) n ∙ min-eq_left (omega (arith, lt)))
  | inr le ↦
      let far : min (2 ^ 64) n ≡ 2 ^ 64 = min-eq_left le in
      ap (λ m. is_value type (pos m)) far
      ∙ (not_far (value_of type (wrapped type (pos (2 ^ 64)))) (2 ^ 64) (near type (pos (2 ^ 64))) (omega arith)
      ∙ sym (not_far (value_of type (wrapped type (pos n))) n (near type (pos n)) le))
]
limited_value type (negsuc n) = elim (cases_lt (suc n) (2 ^ 64)) [
  | inl lt ↦ ap (λ m. is_value type (neg_ℤ (pos m))) (min_comm (2 ^ 64) (suc n) ∙ min-eq_left (omega (arith, lt)))
  | inr le ↦
      let far : min (2 ^ 64) (suc n) ≡ 2 ^ 64 = min-eq_left le in
      ap (λ m. is_value type (neg_ℤ (pos m))) far
      ∙ (not_below (value_of type (wrapped type (negsuc (2 ^ 64 - 1)))) (2 ^ 64 - 1) (near type (negsuc (2 ^ 64 - 1))) (omega arith)
      ∙ sym (not_below (value_of type (wrapped type (negsuc n))) n (near type (negsuc n)) le))
]

-- ---- values of words

-- values before others
abbrev pub behind_values : List ℤ → Option (List ℤ) → Option (List ℤ)
behind_values zs None = None
behind_values zs (Some more) = Some (zs ++ more)

pub one_value : (zs : List ℤ) (z : ℤ) (more : Option (List ℤ)) → behind_values zs (and_value (Some z) more) ≡ behind_values (zs ++ z ∷ []) more
one_value zs z None = refl
one_value zs z (Some more) = ap Some (sym (append_assoc zs (z ∷ []) more))

-- ---- what is kept of values

pub are_more : (type : IntType) (zs : List ℤ) (z : ℤ) → are_values type (zs ++ z ∷ []) ≡ (if are_values type zs then is_value type z else false)
are_more type [] z = by (is_value type z)
  where
    by : (t : Bool) → (if t then true else false) ≡ t
    by true = refl
    by false = refl
are_more type (y ∷ zs) z = by (is_value type y) (are_more type zs z)
  where
    by : (t : Bool) → are_values type (zs ++ z ∷ []) ≡ (if are_values type zs then is_value type z else false)
        → (if t then are_values type (zs ++ z ∷ []) else false) ≡ (if (if t then are_values type zs else false) then is_value type z else false)
    by true later = later
    by false later = refl

-- words of limited values are words of the values, where each is one of the type
pub same_words : (type : IntType) (zs : List ℤ) → are_values type zs ≡ true → map (λ z. wrapped type (limited z)) zs ≡ map (wrapped type) zs
same_words type [] are = refl
same_words type (z ∷ zs) are = by (is_value type z) refl are (same_words type zs)
  where
    by : (t : Bool) → is_value type z ≡ t → (if t then are_values type zs else false) ≡ true → (are_values type zs ≡ true → map (λ z. wrapped type (limited z)) zs ≡ map (wrapped type) zs)
        → wrapped type (limited z) ∷ map (λ z. wrapped type (limited z)) zs ≡ wrapped type z ∷ map (wrapped type) zs
    by true is all later = ap (λ y. wrapped type y ∷ map (λ z. wrapped type (limited z)) zs) (limited_kept type z is) ∙ ap (λ ws. wrapped type z ∷ ws) (later all)
    by false is all later = absurd (true≢false (sym all))

lt_true : (a b : ℕ) → a < b → nat_lt a b ≡ true
lt_true a b lt = grind (arith, nat_tests)

lt_false : (a b : ℕ) → b ≤ a → nat_lt a b ≡ false
lt_false a b le = grind (arith, nat_tests)

not_lt : (a b : ℕ) → nat_lt a b ≡ false → b ≤ a
not_lt a b e = grind (arith, nat_tests)

below_min : (m n k : ℕ) → k ≡ min m n → k < m → n < m
below_min m n k is lt = elim (cases_lt n m) [
  | inl below ↦ below
  | inr le ↦ absurd (omega (arith, lt, is ∙ min-eq_left le))
]

one_longer : (zs : List ℤ) (z : ℤ) → length (zs ++ z ∷ []) ≡ length zs + 1
one_longer zs z = length-append zs (z ∷ [])

and_if : (a b : Bool) → (a && b) ≡ (if a then b else false)
and_if true b = refl
and_if false b = refl

both_of : (type : IntType) (zs : List ℤ) (z number : ℤ) (old new : Bool) → number ≡ limited z → old ≡ are_values type zs → new ≡ (old && is_value type number)
    → new ≡ are_values type (zs ++ z ∷ [])
both_of type zs z number old new is was now =
    now ∙ (and_if old (is_value type number) ∙ (ap (λ t. if t then is_value type number else false) was
    ∙ (ap (λ t. if are_values type zs then t else false) (ap (is_value type) is ∙ limited_value type z) ∙ sym (are_more type zs z))))

-- a value is kept
pub value_kept : (type : IntType) (most : ℕ) (zs : List ℤ) (z number : ℤ) (old new : Values) → number ≡ limited z → ShowsValues type most zs old → length old.words.items < most
    → new.words.items ≡ old.words.items ++ wrapped type number ∷ [] → new.are_too_many ≡ old.are_too_many → new.are_of_type ≡ (old.are_of_type && is_value type number)
    → ShowsValues type most (zs ++ z ∷ []) new
value_kept type most zs z number old new is shows room pushed many typed =
    let below : length zs < most = below_min most (length zs) (length old.words.items) shows.long room in
    let few : nat_lt most (length zs) ≡ false = lt_false most (length zs) (omega (arith, below)) in
    let so_far : old.words.items ≡ map (λ z. wrapped type (limited z)) zs = shows.words few in
    let grown : new.words.items ≡ map (λ z. wrapped type (limited z)) (zs ++ z ∷ []) =
    pushed ∙ (ap (λ ws. ws ++ wrapped type number ∷ []) so_far ∙ (ap (λ n. map (λ z. wrapped type (limited z)) zs ++ wrapped type n ∷ []) is
    ∙ sym (map-append (λ z. wrapped type (limited z)) zs (z ∷ [])))) in
    record {
      too_many = many ∙ (shows.too_many ∙ (few ∙ sym (lt_false most (length (zs ++ z ∷ [])) (omega (arith, below, one_longer zs z)))));
      of_type = both_of type zs z number old.are_of_type new.are_of_type is shows.of_type typed;
      long = ap length grown ∙ (length-map (zs ++ z ∷ []) (λ z. wrapped type (limited z)) ∙ sym (min_comm most (length (zs ++ z ∷ [])) ∙ min-eq_left (omega (arith, below, one_longer zs z))));
      words = λ few. grown;
    }

-- a value is one too many
pub value_dropped : (type : IntType) (most : ℕ) (zs : List ℤ) (z number : ℤ) (old new : Values) → number ≡ limited z → ShowsValues type most zs old → most ≤ length old.words.items
    → new.words.items ≡ old.words.items → new.are_too_many ≡ true → new.are_of_type ≡ (old.are_of_type && is_value type number) → ShowsValues type most (zs ++ z ∷ []) new
value_dropped type most zs z number old new is shows full same many typed =
    let enough : most ≤ length zs = elim (cases_lt (length zs) most) [
      | inl below ↦ absurd (omega (arith, full, below, shows.long ∙ (min_comm most (length zs) ∙ min-eq_left (omega (arith, below)))))
      | inr le ↦ le
    ] in
    let past : nat_lt most (length (zs ++ z ∷ [])) ≡ true = lt_true most (length (zs ++ z ∷ [])) (omega (arith, enough, one_longer zs z)) in
    record {
      too_many = many ∙ sym past;
      of_type = both_of type zs z number old.are_of_type new.are_of_type is shows.of_type typed;
      long = ap length same ∙ (shows.long ∙ (min-eq_left enough ∙ sym (min-eq_left (omega (arith, enough, one_longer zs z)))));
      words = λ few. absurd (true≢false (sym past ∙ few));
    }

-- the words of values that are not too many, and each of the type
words_are : (type : IntType) (most : ℕ) (zs : List ℤ) (values : Values) → ShowsValues type most zs values → values.are_too_many ≡ false → values.are_of_type ≡ true
    → map (wrapped type) zs ≡ values.words.items
words_are type most zs values shows few typed = sym (shows.words (sym shows.too_many ∙ few) ∙ same_words type zs (sym shows.of_type ∙ typed))

-- a row is made
pub row_made : (line : ℕ) (receiver : Receiver) (rows : List Row) (zs : List ℤ) (most : ℕ) (values : Values) → IsMost receiver rows most → ShowsValues receiver.variable.type most zs values
    → values.are_too_many ≡ false → values.are_of_type ≡ true → (receiver.variable.is_array ≡ false → length values.words.items ≡ 1)
    → row_with line receiver rows zs ≡ Ok (record { variable = receiver.variable; words = values.words.items })
row_made line receiver rows zs most values is_most shows few typed one = by receiver.variable.is_array refl is_most
  where
    made : Result Row InputRefusal
    made = if not (are_values receiver.variable.type zs) then Err (Range line) else Ok (record { variable = receiver.variable; words = map (wrapped receiver.variable.type) zs })

    ends : made ≡ Ok (record { variable = receiver.variable; words = values.words.items })
    ends = ap (λ t. if not t then Err (Range line) else Ok (record { variable = receiver.variable; words = map (wrapped receiver.variable.type) zs })) (sym shows.of_type ∙ typed)
        ∙ ap (λ ws. Ok (record { variable = receiver.variable; words = ws })) (words_are receiver.variable.type most zs values shows few typed)

    short : nat_lt most (length zs) ≡ false
    short = sym shows.too_many ∙ few

    single : receiver.variable.is_array ≡ false → most ≡ 1 → (length zs == 1) ≡ true
    single scalar bound =
        let n : length zs ≤ most = not_lt most (length zs) short in
        let long : length values.words.items ≡ length zs = shows.long ∙ (min_comm most (length zs) ∙ min-eq_left n) in
        let is : length zs ≡ 1 = sym long ∙ one scalar in
        ap (λ n. n == 1) is

    by : (t : Bool) → receiver.variable.is_array ≡ t → most ≡ (if t then most_values receiver rows else 1)
        → (if not t && not (length zs == 1) then Err (BadLine line) else (if t && nat_lt (most_values receiver rows) (length zs) then Err (TooLarge (Some line)) else made))
        ≡ Ok (record { variable = receiver.variable; words = values.words.items })
    by true e bound = ap (λ u. if u then Err (TooLarge (Some line)) else made) (ap (λ m. nat_lt m (length zs)) (sym bound) ∙ short) ∙ ends
    by false e bound = ap (λ u. if not u then Err (BadLine line) else made) (single e bound) ∙ ends

-- ---- values of words that are read

pub some_limited : (o : Option ℤ) (n : ℤ) → Some n ≡ option_map limited o → (z : ℤ) × (o ≡ Some z) × (n ≡ limited z)
some_limited None n e = absurd cc
some_limited (Some z) n e = (z, refl, cc)

pub none_limited : (o : Option ℤ) → None ≡ option_map limited o → o ≡ None
none_limited None e = refl
none_limited (Some z) e = absurd cc

pub is_one : (n : ℕ) → not (n == 1) ≡ false → n ≡ 1
is_one n e = grind (arith, nat_tests)
