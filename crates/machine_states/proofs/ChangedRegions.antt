-- What the regions hold once the words of one are changed: that one its new words, the others their old ones.
use Rattle.std.proofs.Common.{◌≡◌, ◌≢◌, refl, ap, ◌∙◌, ℕ, ◌<◌, ◌≤◌, Bool, true, false, List, length, arith}
use Rattle.std.specs.Prelude.{◌==◌, ◌&&◌, if◌then◌else◌}
use Rattle.std.proofs.lemmas.Bool.{eq-eqb, eqb-true, ne_eqb, and_left, and_right, and_from, and_parts}
use Rattle.gang_types.specs.declared.places.VarId.{VarId}
use Rattle.gang_types.specs.declared.places.VarId.TheVariants.{File, Local}
use Rattle.machine_states.specs.ArrayParts.{array_region}
use Rattle.machine_states.specs.Effects.{region_of}
use Rattle.machine_states.specs.Regions.{FunctionOf, LanesOf, ReturnedOf, ResultOf, OpenOf, LevelOf, Head, NumbersOf, EndOf, CountersOf, ValuesOf, LevelPart, OfFile, OfEntry, Depth, OfHead, OfLocal, Region, Regions, same_level_part, same_head, same_region, with_region}

level_part_itself : (part : LevelPart) → same_level_part part part ≡ true
level_part_itself NumbersOf = refl
level_part_itself EndOf = refl
level_part_itself CountersOf = refl
level_part_itself ValuesOf = refl

head_itself : (part : Head) → same_head part part ≡ true
head_itself FunctionOf = refl
head_itself LanesOf = refl
head_itself ReturnedOf = refl
head_itself ResultOf = refl
head_itself OpenOf = refl
head_itself (LevelOf l a) = and_from (l == l) (same_level_part a a) (eq-eqb l l refl) (level_part_itself a)

region_itself : (region : Region) → same_region region region ≡ true
region_itself (OfFile k) = eq-eqb k k refl
region_itself (OfEntry k) = eq-eqb k k refl
region_itself Depth = refl
region_itself (OfHead i part) = and_from (i == i) (same_head part part) (eq-eqb i i refl) (head_itself part)
region_itself (OfLocal i k) = and_from (i == i) (k == k) (eq-eqb i i refl) (eq-eqb k k refl)

module _ (words : List ℕ) (regions : Regions) where
  -- the region that is changed, and another one
  pub region_here : (region : Region) → with_region region words regions region ≡ words
  region_here region = ap (λ b. if b then words else regions region) (region_itself region)

  pub region_away : (region other : Region) → same_region region other ≡ false → with_region region words regions other ≡ regions other
  region_away region other h = ap (λ b. if b then words else regions other) h

  -- another part of the same head
  pub part_away : (i : ℕ) (part other : Head) → same_head part other ≡ false → with_region (OfHead i part) words regions (OfHead i other) ≡ regions (OfHead i other)
  part_away i part other h = region_away (OfHead i part) (OfHead i other) (and_right (i == i) (same_head part other) h)

  -- another variable of the same frame, or of the file
  pub local_away : (i k j : ℕ) → k ≢ j → with_region (OfLocal i k) words regions (OfLocal i j) ≡ regions (OfLocal i j)
  local_away i k j h = region_away (OfLocal i k) (OfLocal i j) (and_right (i == i) (k == j) (ne_eqb k j h))

  pub file_away : (k j : ℕ) → k ≢ j → with_region (OfFile k) words regions (OfFile j) ≡ regions (OfFile j)
  file_away k j h = region_away (OfFile k) (OfFile j) (ne_eqb k j h)

  -- a scalar has neither the number of frames nor a part of a head
  pub scalar_depth : (i : ℕ) (v : VarId) → with_region (region_of i v) words regions Depth ≡ regions Depth
  scalar_depth i (File k) = refl
  scalar_depth i (Local k) = refl

  pub scalar_head : (i : ℕ) (v : VarId) (j : ℕ) (part : Head) → with_region (region_of i v) words regions (OfHead j part) ≡ regions (OfHead j part)
  scalar_head i (File k) j part = refl
  scalar_head i (Local k) j part = refl

  -- nor has an array
  pub array_depth : (v : VarId) → with_region (array_region v) words regions Depth ≡ regions Depth
  array_depth (File k) = refl
  array_depth (Local k) = refl

  pub array_head : (v : VarId) (j : ℕ) (part : Head) → with_region (array_region v) words regions (OfHead j part) ≡ regions (OfHead j part)
  array_head (File k) j part = refl
  array_head (Local k) j part = refl

-- ---- how many words

level_part_equal : (a b : LevelPart) → same_level_part a b ≡ true → a ≡ b
level_part_equal NumbersOf NumbersOf e = refl
level_part_equal NumbersOf b e = cc
level_part_equal EndOf EndOf e = refl
level_part_equal EndOf b e = cc
level_part_equal CountersOf CountersOf e = refl
level_part_equal CountersOf b e = cc
level_part_equal ValuesOf ValuesOf e = refl
level_part_equal ValuesOf b e = cc

head_equal : (a b : Head) → same_head a b ≡ true → a ≡ b
head_equal FunctionOf FunctionOf e = refl
head_equal FunctionOf b e = cc
head_equal LanesOf LanesOf e = refl
head_equal LanesOf b e = cc
head_equal ReturnedOf ReturnedOf e = refl
head_equal ReturnedOf b e = cc
head_equal ResultOf ResultOf e = refl
head_equal ResultOf b e = cc
head_equal OpenOf OpenOf e = refl
head_equal OpenOf b e = cc
head_equal (LevelOf k a) (LevelOf l b) e =
    let both = and_parts (k == l) (same_level_part a b) e in ap (λ n. LevelOf n a) (eqb-true k l both.0) ∙ ap (LevelOf l) (level_part_equal a b both.1)
head_equal (LevelOf k a) b e = cc

pub region_equal : (r s : Region) → same_region r s ≡ true → r ≡ s
region_equal (OfFile m) (OfFile n) e = ap OfFile (eqb-true m n e)
region_equal (OfFile m) s e = cc
region_equal (OfEntry m) (OfEntry n) e = ap OfEntry (eqb-true m n e)
region_equal (OfEntry m) s e = cc
region_equal Depth Depth e = refl
region_equal Depth s e = cc
region_equal (OfHead i a) (OfHead j b) e =
    let both = and_parts (i == j) (same_head a b) e in ap (λ k. OfHead k a) (eqb-true i j both.0) ∙ ap (OfHead j) (head_equal a b both.1)
region_equal (OfHead i a) s e = cc
region_equal (OfLocal i m) (OfLocal j n) e =
    let both = and_parts (i == j) (m == n) e in ap (λ k. OfLocal k m) (eqb-true i j both.0) ∙ ap (OfLocal j) (eqb-true m n both.1)
region_equal (OfLocal i m) s e = cc

-- where a region has as many words as before, each has
pub lengths_all : (region : Region) (words : List ℕ) (old : Regions) → length words ≡ length (old region) → (r : Region) → length (with_region region words old r) ≡ length (old r)
lengths_all region words old same r = by_test (same_region region r) refl
  where
    by_test : (b : Bool) → same_region region r ≡ b → length (if b then words else old r) ≡ length (old r)
    by_test true e = same ∙ ap (λ s. length (old s)) (region_equal region r e)
    by_test false e = refl

-- a region may have these words without a change of the frames below an index: it is of none of them, and an array has as many words as
-- before
abbrev pub MayHave : (index : ℕ) → Region → (words : List ℕ) → Regions → Type 0
MayHave index (OfFile k) words regions = length words ≡ length (regions (OfFile k))
MayHave index (OfEntry k) words regions = length words ≡ length (regions (OfEntry k))
MayHave index Depth words regions = Unit {0}
MayHave index (OfHead i part) words regions = index ≤ i
MayHave index (OfLocal i k) words regions = index ≤ i

-- each array has as many words as before
abbrev pub HaveSameLengths : (old new : Regions) → Type 0
HaveSameLengths old new = (v : VarId) → length (new (array_region v)) ≡ length (old (array_region v))

-- the words of the frames below an index are the same, and each array has as many as before
pub record AreFramesSame (index : ℕ) (old new : Regions) : Type 0 where
  pub lengths : HaveSameLengths old new
  pub heads : (i : ℕ) (part : Head) → i < index → new (OfHead i part) ≡ old (OfHead i part)
  pub locals : (i k : ℕ) → i < index → new (OfLocal i k) ≡ old (OfLocal i k)

module _ (words : List ℕ) (regions : Regions) (index : ℕ) where
  below_away : (i j : ℕ) (rest : Bool) → index ≤ i → j < index → ((i == j) && rest) ≡ false
  below_away i j rest above below = and_left (i == j) rest (ne_eqb i j (λ e. omega (arith, e, above, below)))

  heads_away : (region : Region) → MayHave index region words regions → (j : ℕ) (part : Head) → j < index → same_region region (OfHead j part) ≡ false
  heads_away (OfFile k) above j part below = refl
  heads_away (OfEntry k) above j part below = refl
  heads_away Depth above j part below = refl
  heads_away (OfHead i other) above j part below = below_away i j (same_head other part) above below
  heads_away (OfLocal i k) above j part below = refl

  locals_away : (region : Region) → MayHave index region words regions → (j m : ℕ) → j < index → same_region region (OfLocal j m) ≡ false
  locals_away (OfFile k) above j m below = refl
  locals_away (OfEntry k) above j m below = refl
  locals_away Depth above j m below = refl
  locals_away (OfHead i other) above j m below = refl
  locals_away (OfLocal i k) above j m below = below_away i j (k == m) above below

  same_or_here : (b : Bool) (old : List ℕ) → (b ≡ true → length words ≡ length old) → length (if b then words else old) ≡ length old
  same_or_here true old h = h refl
  same_or_here false old h = refl

  pub lengths_kept : (region : Region) → MayHave index region words regions → HaveSameLengths regions (with_region region words regions)
  lengths_kept (OfFile k) may (File j) = same_or_here (k == j) (regions (OfFile j)) (λ e. may ∙ ap (λ m. length (regions (OfFile m))) (eqb-true k j e))
  lengths_kept (OfFile k) may (Local j) = refl
  lengths_kept (OfEntry k) may (File j) = refl
  lengths_kept (OfEntry k) may (Local j) = same_or_here (k == j) (regions (OfEntry j)) (λ e. may ∙ ap (λ m. length (regions (OfEntry m))) (eqb-true k j e))
  lengths_kept Depth may (File j) = refl
  lengths_kept Depth may (Local j) = refl
  lengths_kept (OfHead i part) may (File j) = refl
  lengths_kept (OfHead i part) may (Local j) = refl
  lengths_kept (OfLocal i k) may (File j) = refl
  lengths_kept (OfLocal i k) may (Local j) = refl

  pub frames_kept : (region : Region) → MayHave index region words regions → AreFramesSame index regions (with_region region words regions)
  frames_kept region may = record {
    lengths = lengths_kept region may;
    heads = λ j part below. region_away words regions region (OfHead j part) (heads_away region may j part below);
    locals = λ j m below. region_away words regions region (OfLocal j m) (locals_away region may j m below);
  }
