-- Ranges that lie one behind the other.
use Rattle.std.proofs.Common.{ℕ, zero, suc, ◌+◌, ◌*◌, ◌<◌, ◌≤◌, ◌≡◌, refl, sym, ◌∙◌, ap, arith, subst, List, [], ◌∷◌, ◌++◌, length, get_or, take}
use Rattle.std.specs.Prelude.{Some, replicate, slice_get, sum, unwrap_or}
use Rattle.std.proofs.lemmas.List.{length-append, length-map, length-replicate, take_more, take-replicate, get_or-replicate}
use Rattle.std.proofs.lemmas.List.Folds.{sum_by-replicate}
use Rattle.std.proofs.lemmas.List.Sums.{sum_by-append, sum_by-cons, sum_by_more_le}
use Rattle.gang_memory.specs.declared.parts.Part.{Part}
use Rattle.gang_memory.specs.Ranges.{AreInOrder, range, ranges_from, sizes_of}
use Rattle.gang_memory.specs.Layouts.{frame_sizes, repeated}

sum-cons : (n : ℕ) (ns : List ℕ) → sum (n ∷ ns) ≡ n + sum ns
sum-cons n ns = sum_by-cons (λ m. m) n ns

pub sum-append : (ns ms : List ℕ) → sum (ns ++ ms) ≡ sum ns + sum ms
sum-append ns ms = sum_by-append (λ m. m) ns ms

-- the ranges of some sizes and of others behind them
pub ranges_append : (first : ℕ) (sizes others : List ℕ) → ranges_from first (sizes ++ others) ≡ ranges_from first sizes ++ ranges_from (first + sum sizes) others
ranges_append first [] others = ap (λ n. ranges_from n others) (omega arith)
ranges_append first (len ∷ sizes) others =
    let more = sum-cons len sizes in
    let sums : first + len + sum sizes ≡ first + sum (len ∷ sizes) = omega (arith, more) in
    ap (λ parts. range first len ∷ parts) (ranges_append (first + len) sizes others ∙ ap (λ n. ranges_from (first + len) sizes ++ ranges_from n others) sums)

-- ranges behind others are together the ranges of the sizes of both
pub joined : (first : ℕ) (sizes others : List ℕ) (parts behind : List Part) (between : ℕ) → parts ≡ ranges_from first sizes → between ≡ first + sum sizes → behind ≡ ranges_from between others → parts ++ behind ≡ ranges_from first (sizes ++ others)
joined first sizes others parts behind between are ends behind_are =
    ap (λ ps. ps ++ behind) are
    ∙ ap (λ ps. ranges_from first sizes ++ ps) (behind_are ∙ ap (λ n. ranges_from n others) ends)
    ∙ sym (ranges_append first sizes others)

pub joined_end : (first : ℕ) (sizes others : List ℕ) (between to : ℕ) → between ≡ first + sum sizes → to ≡ between + sum others → to ≡ first + sum (sizes ++ others)
joined_end first sizes others between to ends behind = let both = sum-append sizes others in omega (arith, ends, behind, both)

-- one range more
pub ranges_more : (first : ℕ) (sizes : List ℕ) (i : ℕ) → i < length sizes → ranges_from first (take (i + 1) sizes) ≡ ranges_from first (take i sizes) ++ (range (first + sum (take i sizes)) (get_or sizes i 0) ∷ [])
ranges_more first sizes i h = ap (ranges_from first) (take_more sizes i 0 h) ∙ ranges_append first (take i sizes) (get_or sizes i 0 ∷ [])

pub sizes_of_ranges : (first : ℕ) (sizes : List ℕ) → sizes_of (ranges_from first sizes) ≡ sizes
sizes_of_ranges first [] = refl
sizes_of_ranges first (len ∷ sizes) = ap (λ ns. len ∷ ns) (sizes_of_ranges (first + len) sizes)

-- no two of the ranges have a word in common, and they end where the sum of their sizes says
pub ranges_in_order : (first : ℕ) (sizes : List ℕ) → AreInOrder first (ranges_from first sizes) (first + sum sizes)
ranges_in_order first [] = omega arith
ranges_in_order first (len ∷ sizes) =
    let more = sum-cons len sizes in
    let sums : first + len + sum sizes ≡ first + sum (len ∷ sizes) = omega (arith, more) in
    (omega arith, subst (AreInOrder (first + len) (ranges_from (first + len) sizes)) sums (ranges_in_order (first + len) sizes))

length-ranges : (first : ℕ) (sizes : List ℕ) → length (ranges_from first sizes) ≡ length sizes
length-ranges first [] = refl
length-ranges first (len ∷ sizes) = ap suc (length-ranges (first + len) sizes)

-- the range at a place begins behind those before it
pub range_at : (first : ℕ) (sizes : List ℕ) (i : ℕ) → i < length sizes → slice_get (ranges_from first sizes) i ≡ Some (range (first + sum (take i sizes)) (get_or sizes i 0))
range_at first [] i h = absurd (omega arith)
range_at first (len ∷ sizes) zero h = ap (λ n. Some (range n len)) (omega arith)
range_at first (len ∷ sizes) (suc i) h =
    let more = sum-cons len (take i sizes) in
    let sums : first + len + sum (take i sizes) ≡ first + sum (len ∷ take i sizes) = omega (arith, more) in
    range_at (first + len) sizes i (omega arith) ∙ ap (λ n. Some (range n (get_or sizes i 0))) sums

-- ---- which of two lists has the range at a place
get_past : (parts others : List Part) (i : ℕ) → slice_get (parts ++ others) (length parts + i) ≡ slice_get others i
get_past [] others i = ap (slice_get others) (omega arith)
get_past (p ∷ parts) others i =
    let next : suc (length parts) + i ≡ suc (length parts + i) = omega arith in
    ap (slice_get (p ∷ (parts ++ others))) next ∙ get_past parts others i

get_before : (parts others : List Part) (i : ℕ) → i < length parts → slice_get (parts ++ others) i ≡ slice_get parts i
get_before [] others i h = absurd (omega arith)
get_before (p ∷ parts) others zero h = refl
get_before (p ∷ parts) others (suc i) h = get_before parts others i (omega arith)

among_first : (first : ℕ) (sizes others : List ℕ) (i : ℕ) → i < length sizes → slice_get (ranges_from first (sizes ++ others)) i ≡ slice_get (ranges_from first sizes) i
among_first first sizes others i h =
    ap (λ parts. slice_get parts i) (ranges_append first sizes others)
    ∙ get_before (ranges_from first sizes) (ranges_from (first + sum sizes) others) i (omega (arith, h, length-ranges first sizes))

among_others : (first : ℕ) (sizes others : List ℕ) (i : ℕ) → slice_get (ranges_from first (sizes ++ others)) (length sizes + i) ≡ slice_get (ranges_from (first + sum sizes) others) i
among_others first sizes others i =
    ap (λ parts. slice_get parts (length sizes + i)) (ranges_append first sizes others)
    ∙ ap (λ n. slice_get (ranges_from first sizes ++ ranges_from (first + sum sizes) others) (n + i)) (sym (length-ranges first sizes))
    ∙ get_past (ranges_from first sizes) (ranges_from (first + sum sizes) others) i

-- ---- frames
pub sum-repeated : (n : ℕ) (sizes : List ℕ) → sum (repeated n sizes) ≡ n * sum sizes
sum-repeated zero sizes = omega arith
sum-repeated (suc n) sizes =
    let product : sum sizes + n * sum sizes ≡ suc n * sum sizes = omega arith in
    sum-append sizes (repeated n sizes) ∙ ap (λ m. sum sizes + m) (sum-repeated n sizes) ∙ product

pub sum-frame : (width : ℕ) (head : List ℕ) (variables : ℕ) → sum (frame_sizes width head variables) ≡ sum head + variables * width
sum-frame width head variables = sum-append head (replicate variables width) ∙ ap (λ m. sum head + m) (sum_by-replicate (λ m. m) variables width)

-- the ranges of the frame at a depth
frame_at : (first : ℕ) (frame : List ℕ) (n d i : ℕ) → d < n → i < length frame
    → slice_get (ranges_from first (repeated n frame)) (d * length frame + i) ≡ slice_get (ranges_from (first + d * sum frame) frame) i
frame_at first frame zero d i h within = absurd (omega arith)
frame_at first frame (suc n) zero i h within =
    let index : 0 * length frame + i ≡ i = omega arith in
    let begin : first ≡ first + 0 * sum frame = omega arith in
    ap (slice_get (ranges_from first (frame ++ repeated n frame))) index
    ∙ among_first first frame (repeated n frame) i within
    ∙ ap (λ m. slice_get (ranges_from m frame) i) begin
frame_at first frame (suc n) (suc d) i h within =
    let index : suc d * length frame + i ≡ length frame + (d * length frame + i) = omega arith in
    let begin : first + sum frame + d * sum frame ≡ first + suc d * sum frame = omega arith in
    ap (slice_get (ranges_from first (frame ++ repeated n frame))) index
    ∙ among_others first frame (repeated n frame) (d * length frame + i)
    ∙ frame_at (first + sum frame) frame n d i (omega arith) within
    ∙ ap (λ m. slice_get (ranges_from m frame) i) begin

module _ (first width : ℕ) (head : List ℕ) (variables count d : ℕ) (h : d < count) where
  abbrev pub frame : List ℕ
  frame = frame_sizes width head variables

  abbrev pub begin : ℕ
  begin = first + d * (sum head + variables * width)

  ranges_long : length frame ≡ length head + variables
  ranges_long = length-append head (replicate variables width) ∙ ap (λ m. length head + m) (length-replicate variables width)

  this_frame : (i : ℕ) → i < length head + variables → slice_get (ranges_from first (repeated count frame)) (d * (length head + variables) + i) ≡ slice_get (ranges_from begin frame) i
  this_frame i within =
      ap (λ m. slice_get (ranges_from first (repeated count frame)) (d * m + i)) (sym ranges_long)
      ∙ frame_at first frame count d i h (omega (arith, within, ranges_long))
      ∙ ap (λ m. slice_get (ranges_from (first + d * m) frame) i) (sum-frame width head variables)

  pub head_range : (i : ℕ) → i < length head → slice_get (ranges_from first (repeated count frame)) (d * (length head + variables) + i) ≡ Some (range (begin + sum (take i head)) (get_or head i 0))
  head_range i within = this_frame i (omega (arith, within)) ∙ among_first begin head (replicate variables width) i within ∙ range_at begin head i within

  pub variable_range : (k : ℕ) → k < variables → slice_get (ranges_from first (repeated count frame)) (d * (length head + variables) + (length head + k)) ≡ Some (range (begin + sum head + k * width) width)
  variable_range k within =
      this_frame (length head + k) (omega (arith, within))
      ∙ among_others begin head (replicate variables width) k
      ∙ range_at (begin + sum head) (replicate variables width) k (omega (arith, within, length-replicate variables width))
      ∙ ap (λ ns. Some (range (begin + sum head + sum ns) (get_or (replicate variables width) k 0))) (take-replicate k variables width (omega (arith, within)))
      ∙ ap (λ m. Some (range (begin + sum head + m) (get_or (replicate variables width) k 0))) (sum_by-replicate (λ m. m) k width)
      ∙ ap (λ m. Some (range (begin + sum head + k * width) m)) (get_or-replicate variables k width 0 within)

-- ---- a part among those of a head
module _ (parts : List Part) (laid : parts ≡ ranges_from 0 (sizes_of parts)) (i : ℕ) (h : i < length parts) (p : Part) (is : slice_get parts i ≡ Some p) where
  pub part_is : p ≡ range (sum (take i (sizes_of parts))) (get_or (sizes_of parts) i 0)
  part_is =
      ap (λ o. unwrap_or o p)
      (sym is ∙ ap (λ ps. slice_get ps i) laid ∙ range_at 0 (sizes_of parts) i (omega (arith, h, length-map parts (λ q. q.len))))
      ∙ ap (λ n. range n (get_or (sizes_of parts) i 0)) (omega arith)

  pub part_within : p.first + p.len ≤ sum (sizes_of parts)
  part_within =
      let first : p.first ≡ sum (take i (sizes_of parts)) = ap (λ q. q.first) part_is in
      let len : p.len ≡ get_or (sizes_of parts) i 0 = ap (λ q. q.len) part_is in
      let room = sum_by_more_le (λ n. n) (sizes_of parts) i 0 (omega (arith, h, length-map parts (λ q. q.len))) in
      omega (arith, first, len, room)
