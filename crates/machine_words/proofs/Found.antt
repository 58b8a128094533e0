-- The range of each region among all ranges.
use Rattle.std.proofs.Common.{ℕ, ◌+◌, ◌*◌, ◌<◌, ◌≡◌, ◌∙◌, ap, arith, Bool, true, false, cond, refl, List, ◌++◌, length, Some, None}
use Rattle.std.specs.Prelude.{Option, ◌&&◌, nat_lt, slice_get}
use Rattle.std.proofs.lemmas.Bool.{and_from, lt-ltb}
use Rattle.std.proofs.lemmas.List.{get_or_append_left, get_or-append-add, length-append}
use Rattle.std.proofs.lemmas.Option.{get_or_from_slice_get, none-some, slice_get-get_or, slice_get_within}
use Rattle.gang_memory.specs.declared.parts.Part.{Part}
use Rattle.gang_memory.specs.declared.layout.Layout.{Layout}
use Rattle.gang_memory.specs.Layouts.{IsRangeOfFrame, frame_parts, ranges, ranges_of_frames}
use Rattle.machine_states.specs.Regions.{Head, OfFile, OfEntry, Depth, OfHead, OfLocal}
use Rattle.machine_words.specs.Ranges.{frame_number, has_part, head_part, levels_of, range_of}

-- ---- which of two lists has the range
among_first : (parts others : List Part) (i : ℕ) (p : Part) → slice_get parts i ≡ Some p → slice_get (parts ++ others) i ≡ Some p
among_first parts others i p e =
    let within = slice_get_within parts i p e in
    slice_get-get_or (parts ++ others) i p (omega (arith, within, length-append parts others))
    ∙ ap Some (get_or_append_left parts others p i within ∙ get_or_from_slice_get parts i p p e)

among_others : (parts others : List Part) (i : ℕ) (p : Part) → slice_get others i ≡ Some p → slice_get (parts ++ others) (length parts + i) ≡ Some p
among_others parts others i p e =
    let within = slice_get_within others i p e in
    slice_get-get_or (parts ++ others) (length parts + i) p (omega (arith, within, length-append parts others))
    ∙ ap Some (get_or-append-add parts others i p ∙ get_or_from_slice_get others i p p e)

-- a range that is found is that of a region that is there
pub there : (b : Bool) (o : Option Part) (p : Part) → cond b o None ≡ Some p → (b ≡ true) × (o ≡ Some p)
there true o p e = (refl, e)
there false o p e = absurd (none-some p e)

found : (b : Bool) (o : Option Part) (p : Part) → b ≡ true → o ≡ Some p → cond b o None ≡ Some p
found true o p h e = e
found false o p h e = cc

module _ (width : ℕ) (layout : Layout) (p : Part) where
  pub file_found : (k : ℕ) → slice_get layout.file.items k ≡ Some p → range_of width layout (OfFile k) ≡ Some p
  file_found k e =
      found (nat_lt k (length layout.file.items)) (slice_get (ranges width layout) k) p
      (lt-ltb k (length layout.file.items) (slice_get_within layout.file.items k p e))
      (among_first layout.file.items (layout.entry.items ++ (layout.machine.items ++ ranges_of_frames width layout.frames)) k p e)

  pub entry_found : (k : ℕ) → slice_get layout.entry.items k ≡ Some p → range_of width layout (OfEntry k) ≡ Some p
  entry_found k e =
      found (nat_lt k (length layout.entry.items)) (slice_get (ranges width layout) (length layout.file.items + k)) p
      (lt-ltb k (length layout.entry.items) (slice_get_within layout.entry.items k p e))
      (among_others layout.file.items (layout.entry.items ++ (layout.machine.items ++ ranges_of_frames width layout.frames)) k p
      (among_first layout.entry.items (layout.machine.items ++ ranges_of_frames width layout.frames) k p e))

  pub depth_found : slice_get layout.machine.items 0 ≡ Some p → range_of width layout Depth ≡ Some p
  depth_found e =
      let first : length layout.entry.items ≡ length layout.entry.items + 0 = omega arith in
      ap (λ n. slice_get (ranges width layout) (length layout.file.items + n)) first
      ∙ among_others layout.file.items (layout.entry.items ++ (layout.machine.items ++ ranges_of_frames width layout.frames)) (length layout.entry.items + 0) p
      (among_others layout.entry.items (layout.machine.items ++ ranges_of_frames width layout.frames) 0 p (among_first layout.machine.items (ranges_of_frames width layout.frames) 0 p e))

  frame_range : (i number : ℕ) → IsRangeOfFrame width layout.frames i number p → slice_get (ranges width layout) (frame_number layout i number) ≡ Some p
  frame_range i number e =
      let n = i * frame_parts layout.frames + number in
      among_others layout.file.items (layout.entry.items ++ (layout.machine.items ++ ranges_of_frames width layout.frames)) (length layout.entry.items + (length layout.machine.items + n)) p
      (among_others layout.entry.items (layout.machine.items ++ ranges_of_frames width layout.frames) (length layout.machine.items + n) p (among_others layout.machine.items (ranges_of_frames width layout.frames) n p e))

  pub head_found : (i : ℕ) (part : Head) → has_part (levels_of layout) part ≡ true → i < layout.frames.count → IsRangeOfFrame width layout.frames i (head_part part) p → range_of width layout (OfHead i part) ≡ Some p
  head_found i part there h e =
      found (has_part (levels_of layout) part && nat_lt i layout.frames.count) (slice_get (ranges width layout) (frame_number layout i (head_part part))) p
      (and_from (has_part (levels_of layout) part) (nat_lt i layout.frames.count) there (lt-ltb i layout.frames.count h)) (frame_range i (head_part part) e)

  pub local_found : (i k : ℕ) → i < layout.frames.count → k < layout.frames.variables → IsRangeOfFrame width layout.frames i (length layout.frames.head.items + k) p → range_of width layout (OfLocal i k) ≡ Some p
  local_found i k h l e =
      let number = length layout.frames.head.items + k in
      found (nat_lt i layout.frames.count && nat_lt k layout.frames.variables) (slice_get (ranges width layout) (frame_number layout i number)) p
      (and_from (nat_lt i layout.frames.count) (nat_lt k layout.frames.variables) (lt-ltb i layout.frames.count h) (lt-ltb k layout.frames.variables l))
      (frame_range i number e)
