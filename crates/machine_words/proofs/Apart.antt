-- The ranges of two regions have no word in common, so a write to one leaves the words of the other.
use Rattle.std.proofs.Common.{ℕ, zero, suc, ◌+◌, ◌*◌, ◌<◌, ◌≤◌, Bool, true, false, cond, ◌≡◌, refl, sym, ◌∙◌, ap, arith, List, length, Some, None}
use Rattle.std.specs.Prelude.{Option, ◌==◌, ◌&&◌, nat_lt, slice_get}
use Rattle.std.proofs.lemmas.Bool.{and_from, and_parts, both_ways, eq-eqb, false≢true, ltb-true, true≢false}
use Rattle.std.proofs.lemmas.Nat.{same_from_place}
use Rattle.gang_memory.specs.declared.parts.Part.{Part}
use Rattle.gang_memory.specs.declared.layout.Layout.{Layout}
use Rattle.gang_memory.specs.Layouts.{frame_parts, ranges}
use Rattle.gang_memory.specs.Writes.{IsKeptOutside}
use Rattle.machine_states.specs.Regions.{LevelPart, NumbersOf, EndOf, CountersOf, ValuesOf, Head, FunctionOf, LanesOf, ReturnedOf, ResultOf, OpenOf, LevelOf, Region, OfFile, OfEntry, Depth, OfHead, OfLocal, same_level_part, same_head, same_region}
use Rattle.machine_states.proofs.ChangedRegions.{region_equal}
use Rattle.machine_words.specs.Ranges.{Changes, IsPlanned, frame_number, has_part, head_part, is_there, level_part, levels_of, number_of, range_of, words_at}
use Rattle.machine_words.proofs.Found.{there}
use Rattle.machine_words.proofs.InOrder.{AreApart, lies_between, ranges_apart}
use Rattle.machine_words.proofs.Plans.{Plan, plan_of}
use Rattle.machine_words.proofs.RangeWords.{kept_words, words_in}

-- ---- parts of a head

pub level_part_least : (a : LevelPart) → 2 ≤ level_part a
level_part_least NumbersOf = omega arith
level_part_least EndOf = omega arith
level_part_least CountersOf = omega arith
level_part_least ValuesOf = omega arith

level_part_most : (a : LevelPart) → level_part a ≤ 5
level_part_most NumbersOf = omega arith
level_part_most EndOf = omega arith
level_part_most CountersOf = omega arith
level_part_most ValuesOf = omega arith

-- a level's parts are behind those of the frame
level_behind : (levels level : ℕ) (a : LevelPart) → has_part levels (LevelOf level a) ≡ true → 5 ≤ head_part (LevelOf level a)
level_behind levels zero NumbersOf h = omega arith
level_behind levels zero EndOf h = absurd (false≢true h)
level_behind levels zero CountersOf h = absurd (false≢true h)
level_behind levels zero ValuesOf h = absurd (false≢true h)
level_behind levels (suc level) a h = omega (arith, level_part_least a)

pub part_below : (levels : ℕ) (a : Head) → has_part levels a ≡ true → head_part a < 6 + 4 * levels
part_below levels FunctionOf h = omega arith
part_below levels LanesOf h = omega arith
part_below levels ReturnedOf h = omega arith
part_below levels ResultOf h = omega arith
part_below levels OpenOf h = omega arith
part_below levels (LevelOf zero a) h = omega (arith, level_part_most a)
part_below levels (LevelOf (suc level) a) h = omega (arith, level_part_most a, ltb-true level levels h)

level_part_same : (a b : LevelPart) → level_part a ≡ level_part b → same_level_part a b ≡ true
level_part_same NumbersOf NumbersOf e = refl
level_part_same NumbersOf EndOf e = absurd (omega (arith, e))
level_part_same NumbersOf CountersOf e = absurd (omega (arith, e))
level_part_same NumbersOf ValuesOf e = absurd (omega (arith, e))
level_part_same EndOf NumbersOf e = absurd (omega (arith, e))
level_part_same EndOf EndOf e = refl
level_part_same EndOf CountersOf e = absurd (omega (arith, e))
level_part_same EndOf ValuesOf e = absurd (omega (arith, e))
level_part_same CountersOf NumbersOf e = absurd (omega (arith, e))
level_part_same CountersOf EndOf e = absurd (omega (arith, e))
level_part_same CountersOf CountersOf e = refl
level_part_same CountersOf ValuesOf e = absurd (omega (arith, e))
level_part_same ValuesOf NumbersOf e = absurd (omega (arith, e))
level_part_same ValuesOf EndOf e = absurd (omega (arith, e))
level_part_same ValuesOf CountersOf e = absurd (omega (arith, e))
level_part_same ValuesOf ValuesOf e = refl

-- parts that are there have numbers of their own
part_same : (levels : ℕ) (a b : Head) → has_part levels a ≡ true → has_part levels b ≡ true → head_part a ≡ head_part b → same_head a b ≡ true
part_same levels (LevelOf k a) (LevelOf l b) h m e =
    let levels_same : k ≡ l = omega (arith, e, level_part_least a, level_part_most a, level_part_least b, level_part_most b) in
    and_from (k == l) (same_level_part a b) (eq-eqb k l levels_same) (level_part_same a b (omega (arith, e, levels_same)))
part_same levels (LevelOf k a) FunctionOf h m e = absurd (omega (arith, e, level_behind levels k a h))
part_same levels (LevelOf k a) LanesOf h m e = absurd (omega (arith, e, level_behind levels k a h))
part_same levels (LevelOf k a) ReturnedOf h m e = absurd (omega (arith, e, level_behind levels k a h))
part_same levels (LevelOf k a) ResultOf h m e = absurd (omega (arith, e, level_behind levels k a h))
part_same levels (LevelOf k a) OpenOf h m e = absurd (omega (arith, e, level_behind levels k a h))
part_same levels FunctionOf (LevelOf l b) h m e = absurd (omega (arith, e, level_behind levels l b m))
part_same levels LanesOf (LevelOf l b) h m e = absurd (omega (arith, e, level_behind levels l b m))
part_same levels ReturnedOf (LevelOf l b) h m e = absurd (omega (arith, e, level_behind levels l b m))
part_same levels ResultOf (LevelOf l b) h m e = absurd (omega (arith, e, level_behind levels l b m))
part_same levels OpenOf (LevelOf l b) h m e = absurd (omega (arith, e, level_behind levels l b m))
part_same levels FunctionOf FunctionOf h m e = refl
part_same levels FunctionOf b h m e = absurd (omega (arith, e))
part_same levels LanesOf LanesOf h m e = refl
part_same levels LanesOf b h m e = absurd (omega (arith, e))
part_same levels ReturnedOf ReturnedOf h m e = refl
part_same levels ReturnedOf b h m e = absurd (omega (arith, e))
part_same levels ResultOf ResultOf h m e = refl
part_same levels ResultOf b h m e = absurd (omega (arith, e))
part_same levels OpenOf OpenOf h m e = refl
part_same levels OpenOf b h m e = absurd (omega (arith, e))

in_files : (k files rest : ℕ) → k < files → k ≡ files + rest → ⊥
in_files k files rest h e = omega arith

in_entries : (k files entry rest : ℕ) → k < entry → files + k ≡ files + (entry + rest) → ⊥
in_entries k files entry rest h e = omega arith

before_frames : (files entry own rest : ℕ) → own ≡ 1 → files + entry ≡ files + (entry + (own + rest)) → ⊥
before_frames files entry own rest h e = omega arith

in_frames : (files entry own x y : ℕ) → files + (entry + (own + x)) ≡ files + (entry + (own + y)) → x ≡ y
in_frames files entry own x y e = omega arith

module _ (width : ℕ) (layout : Layout) where
  -- a region that is the same has the same range
  pub same_range : (r s : Region) → same_region r s ≡ true → range_of width layout r ≡ range_of width layout s
  same_range r s h = ap (range_of width layout) (region_equal r s h)

  -- another region has another number
  module _ (plan : Plan width layout) where
    abbrev files : ℕ
    files = length layout.file.items

    abbrev entry : ℕ
    entry = length layout.entry.items

    abbrev own : ℕ
    own = length layout.machine.items

    abbrev parts : ℕ
    parts = length layout.frames.head.items

    abbrev all : ℕ
    all = frame_parts layout.frames

    abbrev levels : ℕ
    levels = levels_of layout

    part_there : (i : ℕ) (a : Head) → is_there layout (OfHead i a) ≡ true → has_part levels a ≡ true
    part_there i a h = (and_parts (has_part levels a) (nat_lt i layout.frames.count) h).0

    part_within : (a : Head) → has_part levels a ≡ true → head_part a < parts
    part_within a h = omega (arith, plan.head_long, part_below levels a h)

    local_below : (i k : ℕ) → is_there layout (OfLocal i k) ≡ true → parts + k < all
    local_below i k h =
        let within = ltb-true k layout.frames.variables (and_parts (nat_lt i layout.frames.count) (nat_lt k layout.frames.variables) h).1 in
        omega (arith, within)

    head_and_local : (i j k : ℕ) (a : Head) → is_there layout (OfHead i a) ≡ true → is_there layout (OfLocal j k) ≡ true → frame_number layout i (head_part a) ≡ frame_number layout j (parts + k) → ⊥
    head_and_local i j k a l h e =
        let below : head_part a < parts = part_within a (part_there i a l) in
        let same = same_from_place i (head_part a) j (parts + k) all (omega (arith, below)) (local_below j k h) (in_frames files entry own (i * all + head_part a) (j * all + (parts + k)) e) in
        omega (arith, same.1, below)

    numbers_apart : (r s : Region) → is_there layout r ≡ true → is_there layout s ≡ true → same_region r s ≡ false → number_of layout r ≡ number_of layout s → ⊥
    numbers_apart (OfFile m) (OfFile n) h l d e = both_ways (m == n) d (eq-eqb m n e)
    numbers_apart (OfFile m) (OfEntry n) h l d e = in_files m files n (ltb-true m files h) e
    numbers_apart (OfFile m) Depth h l d e = in_files m files entry (ltb-true m files h) e
    numbers_apart (OfFile m) (OfHead j b) h l d e = in_files m files (entry + (own + (j * all + head_part b))) (ltb-true m files h) e
    numbers_apart (OfFile m) (OfLocal j k) h l d e = in_files m files (entry + (own + (j * all + (parts + k)))) (ltb-true m files h) e
    numbers_apart (OfEntry m) (OfFile n) h l d e = in_files n files m (ltb-true n files l) (sym e)
    numbers_apart (OfEntry m) (OfEntry n) h l d e = both_ways (m == n) d (eq-eqb m n (omega (arith, e)))
    numbers_apart (OfEntry m) Depth h l d e = in_entries m files entry 0 (ltb-true m entry h) (e ∙ ap (λ n. files + n) (omega arith))
    numbers_apart (OfEntry m) (OfHead j b) h l d e = in_entries m files entry (own + (j * all + head_part b)) (ltb-true m entry h) e
    numbers_apart (OfEntry m) (OfLocal j k) h l d e = in_entries m files entry (own + (j * all + (parts + k))) (ltb-true m entry h) e
    numbers_apart Depth (OfEntry n) h l d e = in_entries n files entry 0 (ltb-true n entry l) (sym e ∙ ap (λ n. files + n) (omega arith))
    numbers_apart (OfHead i a) (OfEntry n) h l d e = in_entries n files entry (own + (i * all + head_part a)) (ltb-true n entry l) (sym e)
    numbers_apart (OfLocal i k) (OfEntry n) h l d e = in_entries n files entry (own + (i * all + (parts + k))) (ltb-true n entry l) (sym e)
    numbers_apart Depth (OfFile n) h l d e = in_files n files entry (ltb-true n files l) (sym e)
    numbers_apart Depth Depth h l d e = true≢false d
    numbers_apart Depth (OfHead j b) h l d e = before_frames files entry own (j * all + head_part b) plan.own_long e
    numbers_apart Depth (OfLocal j k) h l d e = before_frames files entry own (j * all + (parts + k)) plan.own_long e
    numbers_apart (OfHead i a) (OfFile n) h l d e = in_files n files (entry + (own + (i * all + head_part a))) (ltb-true n files l) (sym e)
    numbers_apart (OfHead i a) Depth h l d e = before_frames files entry own (i * all + head_part a) plan.own_long (sym e)
    numbers_apart (OfHead i a) (OfHead j b) h l d e =
        let one : has_part levels a ≡ true = part_there i a h in
        let other : has_part levels b ≡ true = part_there j b l in
        let same = same_from_place i (head_part a) j (head_part b) all (omega (arith, part_within a one)) (omega (arith, part_within b other)) (in_frames files entry own (i * all + head_part a) (j * all + head_part b) e) in
        both_ways ((i == j) && same_head a b) d (and_from (i == j) (same_head a b) (eq-eqb i j same.0) (part_same levels a b one other same.1))
    numbers_apart (OfHead i a) (OfLocal j k) h l d e = head_and_local i j k a h l e
    numbers_apart (OfLocal i k) (OfFile n) h l d e = in_files n files (entry + (own + (i * all + (parts + k)))) (ltb-true n files l) (sym e)
    numbers_apart (OfLocal i k) Depth h l d e = before_frames files entry own (i * all + (parts + k)) plan.own_long (sym e)
    numbers_apart (OfLocal i k) (OfHead j b) h l d e = head_and_local j i k b l h (sym e)
    numbers_apart (OfLocal i m) (OfLocal j n) h l d e =
        let same = same_from_place i (parts + m) j (parts + n) all (local_below i m h) (local_below j n l) (in_frames files entry own (i * all + (parts + m)) (j * all + (parts + n)) e) in
        both_ways ((i == j) && (m == n)) d (and_from (i == j) (m == n) (eq-eqb i j same.0) (eq-eqb m n (omega (arith, same.1))))

    regions_apart : (r s : Region) (p q : Part) → same_region r s ≡ false → range_of width layout r ≡ Some p → range_of width layout s ≡ Some q → AreApart p q
    regions_apart r s p q d e f =
        let first = there (is_there layout r) (slice_get (ranges width layout) (number_of layout r)) p e in
        let second = there (is_there layout s) (slice_get (ranges width layout) (number_of layout s)) q f in
        ranges_apart 0 layout.words (ranges width layout) (number_of layout r) (number_of layout s) p q plan.order first.1 second.1 (numbers_apart r s first.0 second.0 d)

-- A write that keeps all words but those of a region's range changes that region alone.
module _ (width : ℕ) (layout : Layout) (planned : IsPlanned width layout) (old new : List ℕ) (long : length old ≡ layout.words) (region : Region) (part : Part) (is : range_of width layout region ≡ Some part) where
  pub changes_only : IsKeptOutside part.first part.len old new → (after : List ℕ) → words_in part new ≡ after → Changes width layout region after old new
  changes_only kept after here r = by_test (same_region region r) refl
    where
      by_range : (o : Option Part) → range_of width layout r ≡ o → same_region region r ≡ false → words_at o new ≡ words_at o old
      by_range None e d = refl
      by_range (Some q) e d =
          let plan = plan_of width layout planned in
          let there_it_is = there (is_there layout r) (slice_get (ranges width layout) (number_of layout r)) q e in
          let between = lies_between 0 layout.words (ranges width layout) (number_of layout r) q plan.order there_it_is.1 in
          kept_words part q old new kept (omega (arith, between, long)) (regions_apart width layout plan region r part q d is e)

      by_test : (b : Bool) → same_region region r ≡ b → words_at (range_of width layout r) new ≡ cond b after (words_at (range_of width layout r) old)
      by_test true e = ap (λ o. words_at o new) (sym (same_range width layout region r e) ∙ is) ∙ here
      by_test false e = by_range (range_of width layout r) refl e
