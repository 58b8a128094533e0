-- The search among the segments of a switch finds the one at which a lane enters.
use Rattle.std.proofs.Common.{ℕ, suc, ◌<◌, ◌≤◌, ◌≡◌, refl, sym, ◌∙◌, ap, ap₂, subst, Bool, true, false, List, [], ◌∷◌, ◌++◌, append_assoc, length, length-append, Option, Some, None, unwrap_or, drop, drop-cons, get_or, arith}
use Rattle.std.specs.Prelude.{◌==◌, slice_index_or, if◌then◌else◌}
use Rattle.std.proofs.Math.ListN.{drop_of_length-le}
use Rattle.std.proofs.Math.Seq.{get_or-append_seam}
use Rattle.std.proofs.lemmas.Bool.{eq-eqb}
use Rattle.gang_model.specs.Types.Tree.{StepNumber, Stmt, Empty, Segment}
use Rattle.gang_model.specs.Running.Step.{or_default, labelled, default_of}
use Rattle.mask_states.specs.MaskedStep.{chosen, segment_of}
use Rattle.codegen.specs.declared.code.SegmentCode.{SegmentCode}
use Rattle.codegen.specs.Codes.{AreSegments}

-- a segment with this label is the one; else the search goes on, with the first `default` that was met
abbrev pub found_at : (label : Option ℕ) → (entry : StepNumber) → (value : ℕ) → (default : Option ℕ) → (rest : Option ℕ → StepNumber) → StepNumber
found_at (Some label) entry value default rest = if label == value then entry else rest default
found_at None entry value default rest = rest (or_default default (Some entry))

abbrev pub found_among : List SegmentCode → (value : ℕ) → (default : Option ℕ) → (next : StepNumber) → StepNumber
found_among [] value default next = unwrap_or default next
found_among (s ∷ ss) value default next = found_at s.label s.entry value default (λ met. found_among ss value met next)

-- the entry of a segment, by its number
abbrev entry_at : List StepNumber → (next : StepNumber) → Option ℕ → Option ℕ
entry_at entries next None = None
entry_at entries next (Some i) = Some (slice_index_or entries i next)

-- one segment, and those behind it
module _ (value : ℕ) (next : StepNumber) (all : List StepNumber) (ss : List SegmentCode) (n : ℕ) (entry : StepNumber) (body rest : Stmt) (here : slice_index_or all n next ≡ entry)
    (later : (met : Option ℕ) → found_among ss value (entry_at all next met) next ≡ chosen all next (or_default (labelled (suc n) rest value) (or_default met (default_of (suc n) rest)))) where
  by_word : (met : Option ℕ) (b : Bool) → (if b then entry else found_among ss value (entry_at all next met) next)
      ≡ chosen all next (or_default (if b then Some n else labelled (suc n) rest value) (or_default met (default_of (suc n) rest)))
  by_word met true = sym here
  by_word met false = later met

  found_one : (label met : Option ℕ) → found_at label entry value (entry_at all next met) (λ d. found_among ss value d next)
      ≡ chosen all next (or_default (labelled n (Segment label body rest) value) (or_default met (default_of n (Segment label body rest))))
  found_one None None = ap (λ e. found_among ss value (Some e) next) (sym here) ∙ later (Some n)
  found_one None (Some j) = later (Some j)
  found_one (Some word) met = by_word met (word == value)

module _ (value : ℕ) (next : StepNumber) where
  -- the segments behind others
  found_behind : (ss : List SegmentCode) (s : Stmt) (front entries : List StepNumber) (default : Option ℕ) → AreSegments ss s entries
      → found_among ss value (entry_at (front ++ entries) next default) next
      ≡ chosen (front ++ entries) next (or_default (labelled (length front) s value) (or_default default (default_of (length front) s)))
  found_behind [] Empty front [] None are = refl
  found_behind [] Empty front [] (Some i) are = refl
  found_behind (c ∷ ss) (Segment label body rest) front (entry ∷ entries) default are =
      let all = front ++ entry ∷ entries in
      let n : length (front ++ entry ∷ []) ≡ suc (length front) = omega (arith, length-append front (entry ∷ [])) in
      let later = λ (met : Option ℕ).
      subst (λ m. found_among ss value (entry_at all next met) next ≡ chosen all next (or_default (labelled m rest value) (or_default met (default_of m rest)))) n
      (subst (λ es. found_among ss value (entry_at es next met) next ≡ chosen es next (or_default (labelled (length (front ++ entry ∷ [])) rest value) (or_default met (default_of (length (front ++ entry ∷ [])) rest))))
      (append_assoc front (entry ∷ []) entries) (found_behind ss rest (front ++ entry ∷ []) entries met are.2)) in
      ap₂ (λ l e. found_at l e value (entry_at all next default) (λ met. found_among ss value met next)) (sym are.0) (sym are.1)
      ∙ found_one value next all ss (length front) entry body rest (get_or-append_seam front entry entries next) later label default
  found_behind ss s front entries default are = absurd are

  pub found_is : (ss : List SegmentCode) (s : Stmt) (entries : List StepNumber) → AreSegments ss s entries → found_among ss value None next ≡ chosen entries next (segment_of s value)
  found_is ss s entries are = found_behind ss s [] entries None are

-- a segment whose label it is
pub found_here : (segments : List SegmentCode) (k : ℕ) (other : SegmentCode) (value : ℕ) (default : Option ℕ) (next : StepNumber) (word : ℕ) → k < length segments
    → (get_or segments k other).label ≡ Some word → word ≡ value → found_among (drop k segments) value default next ≡ (get_or segments k other).entry
found_here segments k other value default next word within is same =
    let s : SegmentCode = get_or segments k other in
    let ss = drop (suc k) segments in
    ap (λ zs. found_among zs value default next) (drop-cons segments k other within)
    ∙ ap (λ l. found_at l s.entry value default (λ met. found_among ss value met next)) is
    ∙ ap (λ b. if b then s.entry else found_among ss value default next) (eq-eqb word value same)

-- behind the last one
pub found_past : (segments : List SegmentCode) (k value : ℕ) (default : Option ℕ) (next : StepNumber) → length segments ≤ k → found_among (drop k segments) value default next ≡ unwrap_or default next
found_past segments k value default next past = ap (λ zs. found_among zs value default next) (drop_of_length-le segments past)
