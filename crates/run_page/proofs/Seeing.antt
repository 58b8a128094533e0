-- Rows, and the variables that are seen where a program stands.
use Rattle.std.proofs.Common.{inl, inr, ◌≡◌, refl, sym, ap, ◌∙◌, subst, ℕ, zero, suc, ◌<◌, ◌≤◌, Bool, true, false, List, [], ◌∷◌, length, take, Some, arith}
use Rattle.std.specs.Prelude.{slice_get, Contains, ◌⊎◌, filter, not, if◌then◌else◌}
use Rattle.std.specs.List.{AllZip}
use Rattle.std.proofs.lemmas.List.Elements.{Contains-append_cases, Contains-append_left, Contains-append_right}
use Rattle.gang_model.specs.Types.Tree.{Program, Variable}
use Rattle.gang_model.specs.Running.State.{State, view_of, words_in}
use Rattle.gang_model.specs.Debugger.Debugger.{elements}
use Rattle.debug_traits.specs.Frames.{scope_at}
use Rattle.run_page.specs.declared.views.Row.{Row}
use Rattle.run_page.specs.Rows.{AreConsistent, AreDistinct, AreRows, HasRow, IsRow, all_seen, at_depth, seen_at, seen_to}
use Rattle.run_page.specs.Sights.{IsSeen, Sees, Shows, Sight, seen_in, sight_of, variables_at, words_at}
use Rattle.run_page.proofs.Places.{at_place, place_of}

-- ---- lists

-- an element of one of two lists, with the one at its place in the other
zip_left : {A B : Type 0} (R : A → B → Type 0) (xs : List A) (ys : List B) (k : ℕ) (x : A) → AllZip R xs ys → slice_get xs k ≡ Some x → (y : B) × (slice_get ys k ≡ Some y) × R x y
zip_left R [] ys k x are is = absurd (cc (is))
zip_left R (a ∷ xs) [] k x are is = absurd are
zip_left R (a ∷ xs) (b ∷ ys) zero x are is = let same : a ≡ x = cc (is) in (b, refl, subst (λ z. R z b) same are.0)
zip_left R (a ∷ xs) (b ∷ ys) (suc k) x are is = zip_left R xs ys k x are.1 is

zip_right : {A B : Type 0} (R : A → B → Type 0) (xs : List A) (ys : List B) (k : ℕ) (y : B) → AllZip R xs ys → slice_get ys k ≡ Some y → (x : A) × (slice_get xs k ≡ Some x) × R x y
zip_right R xs [] k y are is = absurd (cc (is))
zip_right R [] (b ∷ ys) k y are is = absurd are
zip_right R (a ∷ xs) (b ∷ ys) zero y are is = let same : b ≡ y = cc (is) in (a, refl, subst (λ z. R a z) same are.0)
zip_right R (a ∷ xs) (b ∷ ys) (suc k) y are is = zip_right R xs ys k y are.1 is

-- what a filter has is in the list, and passes
filter_has : {X : Type 0} (p : X → Bool) (xs : List X) (k : ℕ) (x : X) → slice_get (filter p xs) k ≡ Some x → Contains xs x
filter_has {X = X} p xs k x is = let (j, there) = go xs k is in at_place xs x j there
  where
    go : (xs : List X) (k : ℕ) → slice_get (filter p xs) k ≡ Some x → (j : ℕ) × (slice_get xs j ≡ Some x)
    go [] k is = absurd (cc (is))
    go (y ∷ xs) k is = test (p y) (λ k is. go xs k is) k is
      where
        test : (b : Bool) → ((k : ℕ) → slice_get (filter p xs) k ≡ Some x → (j : ℕ) × (slice_get xs j ≡ Some x)) → (k : ℕ) → slice_get (if b then (y ∷ filter p xs) else filter p xs) k ≡ Some x
            → (j : ℕ) × (slice_get (y ∷ xs) j ≡ Some x)
        test true rest zero is = (0, is)
        test true rest (suc k) is = let (j, there) = rest k is in (suc j, there)
        test false rest k is = let (j, there) = rest k is in (suc j, there)

filter_keeps : {X : Type 0} (p : X → Bool) (xs : List X) (k : ℕ) (x : X) → slice_get xs k ≡ Some x → p x ≡ true → Contains (filter p xs) x
filter_keeps {X = X} p xs k x is passes = let (j, there) = go xs k is in at_place (filter p xs) x j there
  where
    go : (xs : List X) (k : ℕ) → slice_get xs k ≡ Some x → (j : ℕ) × (slice_get (filter p xs) j ≡ Some x)
    go [] k is = absurd (cc (is))
    go (y ∷ xs) zero is =
        let same : y ≡ x = cc (is) in
        (0, ap (λ b. slice_get (if b then (y ∷ filter p xs) else filter p xs) 0) (ap p same ∙ passes) ∙ ap Some same)
    go (y ∷ xs) (suc k) is = let (j, there) = go xs k is in test (p y) j there
      where
        test : (b : Bool) → (j : ℕ) → slice_get (filter p xs) j ≡ Some x → (i : ℕ) × (slice_get (if b then (y ∷ filter p xs) else filter p xs) i ≡ Some x)
        test true j there = (suc j, there)
        test false j there = (j, there)

-- an element of the first so many
pub get_taken : (most : ℕ) (xs : List ℕ) (k x : ℕ) → slice_get (take most xs) k ≡ Some x → (k < most) × (slice_get xs k ≡ Some x)
get_taken zero xs k x is = absurd (cc (is))
get_taken (suc most) [] k x is = absurd (cc (is))
get_taken (suc most) (y ∷ xs) zero x is = (omega arith, is)
get_taken (suc most) (y ∷ xs) (suc k) x is = let (less, there) = get_taken most xs k x is in (omega (arith, less), there)

pub taken_get : (most : ℕ) (xs : List ℕ) (k x : ℕ) → k < most → slice_get xs k ≡ Some x → slice_get (take most xs) k ≡ Some x
taken_get zero xs k x less is = absurd (omega (arith, less))
taken_get (suc most) [] k x less is = absurd (cc (is))
taken_get (suc most) (y ∷ xs) zero x less is = is
taken_get (suc most) (y ∷ xs) (suc k) x less is = taken_get most xs k x (omega (arith, less)) is

-- ---- all that is seen

-- a variable of one depth
at_depth_has : (deep : ℕ) (vs : List Variable) (x : ℕ × Variable) → Contains (at_depth deep vs) x → (x.0 ≡ deep) × Contains vs x.1
at_depth_has deep vs x there = let (k, is) = place_of (at_depth deep vs) x there in let (same, j, here) = go vs k is in (same, at_place vs x.1 j here)
  where
    go : (vs : List Variable) (k : ℕ) → slice_get (at_depth deep vs) k ≡ Some x → (x.0 ≡ deep) × (j : ℕ) × (slice_get vs j ≡ Some x.1)
    go [] k is = absurd (cc (is))
    go (v ∷ vs) zero is = let same : (deep, v) ≡ x = cc (is) in (sym (ap (λ x. x.0) same), 0, ap (λ x. Some x.1) same)
    go (v ∷ vs) (suc k) is = let (same, j, here) = go vs k is in (same, suc j, here)

has_at_depth : (deep : ℕ) (vs : List Variable) (v : Variable) → Contains vs v → Contains (at_depth deep vs) (deep, v)
has_at_depth deep vs v there = let (k, is) = place_of vs v there in at_place (at_depth deep vs) (deep, v) k (go vs k is)
  where
    go : (vs : List Variable) (k : ℕ) → slice_get vs k ≡ Some v → slice_get (at_depth deep vs) k ≡ Some (deep, v)
    go [] k is = absurd (cc (is))
    go (w ∷ vs) zero is = let same : w ≡ v = cc (is) in ap (λ v. Some (deep, v)) same
    go (w ∷ vs) (suc k) is = go vs k is

module _ (p : Program) (state : State) where
  -- a variable of a frame
  frame_has : (deep : ℕ) (x : ℕ × Variable) → Contains (seen_at p state deep) x → (x.0 ≡ deep) × Contains (scope_at p deep state) x.1
  frame_has deep x there = elim (Contains-append_cases (at_depth deep (filter (λ v. v.is_parameter) (scope_at p deep state))) (at_depth deep (filter (λ v. not v.is_parameter) (scope_at p deep state))) x there) [
    | inl here ↦
        let (same, has) = at_depth_has deep (filter (λ v. v.is_parameter) (scope_at p deep state)) x here in
        let (k, is) = place_of (filter (λ v. v.is_parameter) (scope_at p deep state)) x.1 has in
        (same, filter_has (λ v. v.is_parameter) (scope_at p deep state) k x.1 is)
    | inr here ↦
        let (same, has) = at_depth_has deep (filter (λ v. not v.is_parameter) (scope_at p deep state)) x here in
        let (k, is) = place_of (filter (λ v. not v.is_parameter) (scope_at p deep state)) x.1 has in
        (same, filter_has (λ v. not v.is_parameter) (scope_at p deep state) k x.1 is)
  ]

  has_frame : (deep : ℕ) (v : Variable) → Contains (scope_at p deep state) v → Contains (seen_at p state deep) (deep, v)
  has_frame deep v there = let (k, is) = place_of (scope_at p deep state) v there in go v.is_parameter refl k is
    where
      go : (b : Bool) → v.is_parameter ≡ b → (k : ℕ) → slice_get (scope_at p deep state) k ≡ Some v → Contains (seen_at p state deep) (deep, v)
      go true e k is = Contains-append_left (at_depth deep (filter (λ v. v.is_parameter) (scope_at p deep state))) (at_depth deep (filter (λ v. not v.is_parameter) (scope_at p deep state))) (deep, v)
          (has_at_depth deep (filter (λ v. v.is_parameter) (scope_at p deep state)) v (filter_keeps (λ v. v.is_parameter) (scope_at p deep state) k v is e))
      go false e k is = Contains-append_right (at_depth deep (filter (λ v. v.is_parameter) (scope_at p deep state))) (at_depth deep (filter (λ v. not v.is_parameter) (scope_at p deep state))) (deep, v)
          (has_at_depth deep (filter (λ v. not v.is_parameter) (scope_at p deep state)) v (filter_keeps (λ v. not v.is_parameter) (scope_at p deep state) k v is (ap not e)))

  -- a variable of the frames
  frames_have : (n : ℕ) (x : ℕ × Variable) → Contains (seen_to p state n) x → (x.0 ≤ n) × Contains (variables_at p x.0 state) x.1
  frames_have zero x (k, within, is) = absurd (omega (arith, within))
  frames_have (suc below) x there = elim (Contains-append_cases (seen_to p state below) (seen_at p state (suc below)) x there) [
    | inl here ↦ let (few, has) = frames_have below x here in (omega (arith, few), has)
    | inr here ↦ let (same, has) = frame_has (suc below) x here in (omega (arith, same), subst (λ deep. Contains (variables_at p deep state) x.1) (sym same) has)
  ]

  have_frames : (n below : ℕ) (v : Variable) → below < n → Contains (scope_at p (suc below) state) v → Contains (seen_to p state n) (suc below, v)
  have_frames zero below v less there = absurd (omega (arith, less))
  have_frames (suc n) below v less there = elim (cases below n less) [
    | inl before ↦ Contains-append_left (seen_to p state n) (seen_at p state (suc n)) (suc below, v) (have_frames n below v before there)
    | inr same ↦
        let here : Contains (seen_at p state (suc n)) (suc below, v) = subst (λ m. Contains (seen_at p state (suc m)) (suc below, v)) same (has_frame (suc below) v there) in
        Contains-append_right (seen_to p state n) (seen_at p state (suc n)) (suc below, v) here
  ]
    where
      cases : (a b : ℕ) → a < suc b → (a < b) ⊎ (a ≡ b)
      cases a b less = grind (arith, less)

  -- a variable that is among all
  pub among_all : (x : ℕ × Variable) → Contains (all_seen p state) x → Sees p state (sight_of x.0 state x.1) x.1
  among_all x there = elim (Contains-append_cases (at_depth 0 (variables_at p 0 state)) (seen_to p state (length state.frames)) x there) [
    | inl here ↦
        let (same, has) = at_depth_has 0 (variables_at p 0 state) x here in
        record { frame = omega (arith, same); there = subst (λ deep. Contains (variables_at p deep state) x.1) (sym same) has; same = refl }
    | inr here ↦ let (few, has) = frames_have (length state.frames) x here in record { frame = few; there = has; same = refl }
  ]

  pub all_among : (sight : Sight) (v : Variable) → Sees p state sight v → Contains (all_seen p state) (sight.depth, v)
  all_among sight v sees = go sight.depth sees.frame sees.there
    where
      go : (deep : ℕ) → deep ≤ length state.frames → Contains (variables_at p deep state) v → Contains (all_seen p state) (deep, v)
      go zero few there = Contains-append_left (at_depth 0 (variables_at p 0 state)) (seen_to p state (length state.frames)) (0, v) (has_at_depth 0 (variables_at p 0 state) v there)
      go (suc below) few there = Contains-append_right (at_depth 0 (variables_at p 0 state)) (seen_to p state (length state.frames)) (suc below, v) (have_frames (length state.frames) below v few there)

-- ---- rows

-- the words of a variable are those of how it is seen
abbrev words_of_sight : State → Sight → List ℕ
words_of_sight state sight = if sight.shown.is_array then elements (view_of (seen_in sight.depth state) sight.shown.id) (seen_in sight.depth state) else words_in (seen_in sight.depth state) sight.shown.id

module _ (sights : List Sight) (distinct : AreDistinct sights) (most : ℕ) (p : Program) (state : State) (rows : List Row) (are : AreRows sights most state rows (all_seen p state)) where
  row_is : (row : Row) → Contains rows row → (x : ℕ × Variable) × Contains (all_seen p state) x × IsRow sights most state row x
  row_is row there =
      let (k, is) = place_of rows row there in
      let (x, here, own) = zip_left (IsRow sights most state) rows (all_seen p state) k row are is in
      (x, at_place (all_seen p state) x k here, own)

  -- a row shows what is seen of its variable
  pub row_seen : (number : ℕ) (row : Row) → HasRow rows number row
      → (sight : Sight) × (slice_get sights number ≡ Some sight) × IsSeen p state sight × ((part word : ℕ) → slice_get row.words.items part ≡ Some word → Shows p most state sight part word)
  row_seen number row (there, same) =
      let (x, among, own) = row_is row there in
      let sees = among_all p state x among in (
        sight_of x.0 state x.1,
        ap (slice_get sights) (sym same) ∙ own.number,
        (x.1, sees),
        λ part word is. let (less, has) = get_taken most (words_at x.0 state x.1) part word (ap (λ xs. slice_get xs part) (sym own.words) ∙ is) in (x.1, sees, less, has),
      )

  -- a variable that is seen has a row
  pub seen_row : (sight : Sight) (v : Variable) → Sees p state sight v
      → (number : ℕ) × (row : Row) × HasRow rows number row × (slice_get sights number ≡ Some sight) × (row.words.items ≡ take most (words_at sight.depth state v))
  seen_row sight v sees =
      let (k, is) = place_of (all_seen p state) (sight.depth, v) (all_among p state sight v sees) in
      let (row, here, own) = zip_right (IsRow sights most state) rows (all_seen p state) k (sight.depth, v) are is in
      (row.variable, row, (at_place rows row k here, refl), own.number ∙ ap Some (sym sees.same), own.words)

  -- and so has one with its number
  pub numbered_row : (number : ℕ) (sight : Sight) (v : Variable) → slice_get sights number ≡ Some sight → Sees p state sight v → (row : Row) × HasRow rows number row × (row.words.items ≡ take most (words_at sight.depth state v))
  numbered_row number sight v numbered sees =
      let (other, row, has, its, words) = seen_row sight v sees in
      (row, (has.0, has.1 ∙ distinct other number sight its numbered), words)

  -- the rows of one variable have the same words
  pub consistent : AreConsistent rows
  consistent number a b (a_there, a_same) (b_there, b_same) =
      let (x, x_among, x_own) = row_is a a_there in
      let (y, y_among, y_own) = row_is b b_there in
      let same : sight_of x.0 state x.1 ≡ sight_of y.0 state y.1 = cc (x_own.number, y_own.number, ap (slice_get sights) a_same, ap (slice_get sights) b_same) in
      x_own.words ∙ ap (λ sight. take most (words_of_sight state sight)) same ∙ sym y_own.words

-- there are no rows
pub none_consistent : (rows : List Row) → rows ≡ [] → AreConsistent rows
none_consistent rows none number a b ((k, within, is), same) other = absurd (omega (arith, within, ap length none))
