-- How many words each region has.
use Rattle.std.proofs.Common.{ℕ, zero, suc, ◌+◌, ◌-◌, ◌*◌, ◌<◌, ◌≡◌, refl, sym, Bool, true, false, ◌∙◌, ap, arith, List, length, get_or, take, Some, None}
use Rattle.std.specs.Prelude.{◌&&◌, if◌then◌else◌, nat_lt, slice_get, sum}
use Rattle.std.proofs.lemmas.Bool.{false≢true, ltb-true, true≢false}
use Rattle.std.proofs.lemmas.List.{get_or-map, length-map}
use Rattle.std.proofs.lemmas.Option.{slice_get-get_or}
use Rattle.gang_memory.specs.declared.parts.Part.{Part}
use Rattle.gang_memory.specs.declared.layout.Layout.{Layout}
use Rattle.gang_memory.specs.Layouts.{ranges, ranges_of_frames}
use Rattle.gang_memory.specs.Ranges.{range, sizes_of}
use Rattle.gang_memory.proofs.Orders.{begin, head_range, variable_range}
use Rattle.machine_states.specs.Regions.{LevelPart, NumbersOf, EndOf, CountersOf, ValuesOf, Head, FunctionOf, LanesOf, ReturnedOf, ResultOf, OpenOf, LevelOf, OfFile, Depth, OfHead, OfLocal}
use Rattle.machine_words.specs.Ranges.{IsLaid, has_part, head_part, head_size, head_sizes, level_part, level_size, level_sizes, levels_of, number_of, regions_of, words_at}
use Rattle.machine_words.proofs.Apart.{level_part_least, part_below}
use Rattle.machine_words.proofs.Found.{depth_found, file_found, head_found, local_found}
use Rattle.machine_words.proofs.Plans.{Plan, plan_of}
use Rattle.machine_words.proofs.RegionWords.{region_long}

-- ---- parts of a head

no_size : (width levels : ℕ) (part : Head) → has_part levels part ≡ false → head_size width levels part ≡ 0
no_size width levels FunctionOf e = absurd (true≢false e)
no_size width levels LanesOf e = absurd (true≢false e)
no_size width levels ReturnedOf e = absurd (true≢false e)
no_size width levels ResultOf e = absurd (true≢false e)
no_size width levels OpenOf e = absurd (true≢false e)
no_size width levels (LevelOf zero NumbersOf) e = absurd (true≢false e)
no_size width levels (LevelOf zero EndOf) e = refl
no_size width levels (LevelOf zero CountersOf) e = refl
no_size width levels (LevelOf zero ValuesOf) e = refl
no_size width levels (LevelOf (suc level) part) e = ap (λ b. if b then level_size width part else 0) e

level_size_is : (width levels level : ℕ) (part : LevelPart) → level < levels → get_or (level_sizes width levels) (4 * level + (level_part part - 2)) 0 ≡ level_size width part
level_size_is width zero level part h = absurd (omega (arith, h))
level_size_is width (suc levels) zero EndOf h = refl
level_size_is width (suc levels) zero CountersOf h = refl
level_size_is width (suc levels) zero ValuesOf h = refl
level_size_is width (suc levels) zero NumbersOf h = refl
level_size_is width (suc levels) (suc level) part h =
    let next : 4 * suc level + (level_part part - 2) ≡ suc (suc (suc (suc (4 * level + (level_part part - 2))))) = omega arith in
    ap (λ k. get_or (level_sizes width (suc levels)) k 0) next ∙ level_size_is width levels level part (omega (arith, h))

size_is : (width levels : ℕ) (part : Head) → has_part levels part ≡ true → get_or (head_sizes width levels) (head_part part) 0 ≡ head_size width levels part
size_is width levels FunctionOf e = refl
size_is width levels LanesOf e = refl
size_is width levels ReturnedOf e = refl
size_is width levels ResultOf e = refl
size_is width levels OpenOf e = refl
size_is width levels (LevelOf zero NumbersOf) e = refl
size_is width levels (LevelOf zero EndOf) e = absurd (false≢true e)
size_is width levels (LevelOf zero CountersOf) e = absurd (false≢true e)
size_is width levels (LevelOf zero ValuesOf) e = absurd (false≢true e)
size_is width levels (LevelOf (suc level) part) e =
    let behind : 4 * suc level + level_part part ≡ suc (suc (suc (suc (suc (suc (4 * level + (level_part part - 2))))))) = omega (arith, level_part_least part) in
    ap (λ k. get_or (head_sizes width levels) k 0) behind ∙ level_size_is width levels level part (ltb-true level levels e) ∙ sym (ap (λ b. if b then level_size width part else 0) e)

module _ (width : ℕ) (layout : Layout) (words : List ℕ) (laid : IsLaid width layout words) where
  abbrev sizes : List ℕ
  sizes = sizes_of layout.frames.head.items

  sizes_long : length sizes ≡ length layout.frames.head.items
  sizes_long = length-map layout.frames.head.items (λ p. p.len)

  pub file_words : (k : ℕ) (p : Part) → slice_get layout.file.items k ≡ Some p → length (regions_of width layout words (OfFile k)) ≡ p.len
  file_words k p e = region_long width layout words laid (OfFile k) p (file_found width layout p k e)

  pub depth_words : length (regions_of width layout words Depth) ≡ 1
  depth_words =
      let plan = plan_of width layout laid.planned in
      let nothing : Part = range 0 0 in
      let p = get_or layout.machine.items 0 nothing in
      let within : 0 < length layout.machine.items = omega (arith, plan.own_long) in
      region_long width layout words laid Depth p (depth_found width layout p (slice_get-get_or layout.machine.items 0 nothing within))
      ∙ sym (get_or-map (λ (q : Part). q.len) layout.machine.items 0 nothing 0 within)
      ∙ ap (λ ns. get_or ns 0 0) plan.own

  -- a part that is not there has no words
  pub head_words : (i : ℕ) (part : Head) → i < layout.frames.count → length (regions_of width layout words (OfHead i part)) ≡ head_size width (levels_of layout) part
  head_words i part h = by_test (has_part (levels_of layout) part) refl
    where
      plan : Plan width layout
      plan = plan_of width layout laid.planned

      by_test : (b : Bool) → has_part (levels_of layout) part ≡ b → length (regions_of width layout words (OfHead i part)) ≡ head_size width (levels_of layout) part
      by_test false e =
          ap (λ b. length (words_at (if b && nat_lt i layout.frames.count then slice_get (ranges width layout) (number_of layout (OfHead i part)) else None) words)) e
          ∙ sym (no_size width (levels_of layout) part e)
      by_test true e =
          let frames = layout.frames in
          let k = head_part part in
          let p = range (begin frames.first width sizes frames.variables frames.count i h + sum (take k sizes)) (get_or sizes k 0) in
          let within : k < length sizes = omega (arith, sizes_long, plan.head_long, part_below (levels_of layout) part e) in
          region_long width layout words laid (OfHead i part) p
          (head_found width layout p i part e h
          (ap (λ n. slice_get (ranges_of_frames width frames) (i * (n + frames.variables) + k)) (sym sizes_long) ∙ head_range frames.first width sizes frames.variables frames.count i h k within))
          ∙ ap (λ ns. get_or ns k 0) plan.head ∙ size_is width (levels_of layout) part e

  pub local_words : (i k : ℕ) → i < layout.frames.count → k < layout.frames.variables → length (regions_of width layout words (OfLocal i k)) ≡ width
  local_words i k h l =
      let frames = layout.frames in
      let p = range (begin frames.first width sizes frames.variables frames.count i h + sum sizes + k * width) width in
      region_long width layout words laid (OfLocal i k) p
      (local_found width layout p i k h l
      (ap (λ n. slice_get (ranges_of_frames width frames) (i * (n + frames.variables) + (n + k))) (sym sizes_long) ∙ variable_range frames.first width sizes frames.variables frames.count i h k l))
