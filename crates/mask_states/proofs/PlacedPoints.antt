-- The points of a function stand in its list where its steps ask for them.
use Rattle.std.proofs.Common.{◌≡◌, refl, sym, ap, ◌∙◌, subst, ℕ, ◌+◌, ◌<◌, ◌≤◌, true, List, [], ◌∷◌, ◌++◌, append_assoc, length, length-append, Option, Some, None, arith}
use Rattle.std.specs.Prelude.{get_or, slice_get, unwrap_or}
use Rattle.std.proofs.Math.Seq.{get_or-append_seam}
use Rattle.std.proofs.lemmas.Option.{slice_get-get_or, slice_get_past}
use Rattle.gang_model.specs.Types.Tree.{StepNumber, ResultFor, Nothing, Declares, Assigns, Returns, RoundsOf, Rows, Tiles, EachLane, EachValue, Stmt, Empty, Then, Declare, Assign, Change, If, Loop, BodyFirst, Break, Continue, Return, Switch, Segment, ForEach, Call, Check, PackedStore, PackedLoad, Function}
use Rattle.gang_model.specs.Running.Step.{steps_of, round_number}
use Rattle.gang_model.specs.Running.RunningOrder.{IsNumbered}
use Rattle.gang_model.specs.Names.NameFaults.{Allowed, in_loop, in_switch, in_function}
use Rattle.gang_model.specs.Types.WellPlaced.{ResultPlaced, inside_rounds, StmtPlaced}
use Rattle.mask_states.specs.Points.{Point, Put, Go, Branch, Turn, Ways, before_step, entry_of, body_ways, update_ways, round_ways, points_of, closing_number, function_ways, points_in}
use Rattle.mask_states.specs.Placed.{HasPoint, Leads, MayReturn, IsPlaced, AreSegmentsPlaced}
use Rattle.mask_states.specs.Stands.{IsWhole, AreWholeSegments, IsLowerable}
use Rattle.mask_states.proofs.OwnTasks.{none_true}

-- a point for each step
pub length-points_of : (s : Stmt) (ways : Ways) → length (points_of s ways) ≡ steps_of s
length-points_of Empty ways = refl
length-points_of (Then first rest) ways =
    let here = before_step (entry_of rest ways.next) ways in
    omega (arith, length-append (points_of first here) (points_of rest ways), length-points_of first here, length-points_of rest ways)
length-points_of (Declare number v e) ways = omega arith
length-points_of (Assign number target e) ways = omega arith
length-points_of (Change number target type op in_type e) ways = omega arith
length-points_of (If number test first other) ways =
    omega (arith, length-append (points_of first ways) (points_of other ways), length-points_of first ways, length-points_of other ways)
length-points_of (Loop number test update body) ways =
    let inside = body_ways (entry_of update number) ways in
    let last = Branch test (entry_of body (entry_of update number)) ways.next ∷ [] in
    omega (arith, length-append (points_of body inside) (points_of update (update_ways number ways) ++ last), length-append (points_of update (update_ways number ways)) last, length-points_of body inside, length-points_of update (update_ways number ways))
length-points_of (BodyFirst number test body) ways =
    let inside = body_ways number ways in
    omega (arith, length-append (points_of body inside) (Branch test (entry_of body number) ways.next ∷ []), length-points_of body inside)
length-points_of (Break number) ways = omega arith
length-points_of (Continue number) ways = omega arith
length-points_of (Return number e) ways = omega arith
length-points_of (Switch number e segments) ways = omega (arith, length-points_of segments (record ways { on_break = Some ways.next }))
length-points_of (Segment label body rest) ways =
    let here = before_step (entry_of rest ways.next) ways in
    omega (arith, length-append (points_of body here) (points_of rest ways), length-points_of body here, length-points_of rest ways)
length-points_of (ForEach number form body) ways =
    let inside = round_ways (round_number number body) in
    omega (arith, length-append (points_of body inside) (Turn (entry_of body (round_number number body)) ∷ []), length-points_of body inside)
length-points_of (Call number function args result_for) ways = omega arith
length-points_of (Check number e) ways = omega arith
length-points_of (PackedStore number array from e result_for) ways = omega arith
length-points_of (PackedLoad number array from v result_for) ways = omega arith

-- ---- points that stand in a list from a number on

abbrev pub HasAt : List Point → ℕ → List Point → Type 0
HasAt points n [] = Unit {0}
HasAt points n (p ∷ ps) = HasPoint points n p × HasAt points (n + 1) ps

pub has_front : (points : List Point) (n : ℕ) (ps qs : List Point) → HasAt points n (ps ++ qs) → HasAt points n ps
has_front points n [] qs h = tt
has_front points n (p ∷ ps) qs h = (h.0, has_front points (n + 1) ps qs h.1)

pub has_back : (points : List Point) (n : ℕ) (ps qs : List Point) → HasAt points n (ps ++ qs) → HasAt points (n + length ps) qs
has_back points n [] qs h = let e : n ≡ n + 0 = omega arith in subst (λ m. HasAt points m qs) e h
has_back points n (p ∷ ps) qs h =
    let e : n + 1 + length ps ≡ n + length (p ∷ ps) = omega arith in
    subst (λ m. HasAt points m qs) e (has_back points (n + 1) ps qs h.1)

-- a list stands behind another
pub has_behind : (ps before : List Point) → HasAt (before ++ ps) (length before) ps
has_behind [] before = tt
has_behind (p ∷ ps) before =
    let within : length before < length (before ++ p ∷ ps) = omega (arith, length-append before (p ∷ ps)) in
    let here = slice_get-get_or (before ++ p ∷ ps) (length before) p within ∙ ap Some (get_or-append_seam before p ps p) in
    let n : length (before ++ p ∷ []) ≡ length before + 1 = omega (arith, length-append before (p ∷ [])) in
    let rest = has_behind ps (before ++ p ∷ []) in
    let rest' = subst (λ l. HasAt l (length (before ++ p ∷ [])) ps) (append_assoc before (p ∷ []) ps) rest in
    (here, subst (λ m. HasAt (before ++ p ∷ ps) m ps) n rest')

-- a list stands in itself
pub has_all : (points : List Point) → HasAt points 0 points
has_all points = has_behind points []

-- the points behind those of a statement
pub has_after : (points : List Point) (n : ℕ) (s : Stmt) (ways : Ways) (ps : List Point) → HasAt points n (points_of s ways ++ ps) → HasAt points (n + steps_of s) ps
has_after points n s ways ps h = subst (λ m. HasAt points (n + m) ps) (length-points_of s ways) (has_back points n (points_of s ways) ps h)

-- ---- a statement's points are placed

-- no `break` and no `return` leads out of a round; a result is returned where there is somewhere to return to
no_breaks : (form : RoundsOf) (may : Allowed) → (inside_rounds form may).breaks ≡ true → ⊥
no_breaks (Rows dims) may h = none_true h
no_breaks (Tiles dims) may h = none_true h
no_breaks (EachLane v) may h = none_true h
no_breaks (EachValue v e) may h = none_true h

no_returns : (form : RoundsOf) (may : Allowed) → (inside_rounds form may).returns ≡ true → ⊥
no_returns (Rows dims) may h = none_true h
no_returns (Tiles dims) may h = none_true h
no_returns (EachLane v) may h = none_true h
no_returns (EachValue v e) may h = none_true h

may_return : (may : Allowed) (result_for : ResultFor) (ways : Ways) → ResultPlaced may result_for → (may.returns ≡ true → (m : StepNumber) × (ways.on_return ≡ Some m)) → MayReturn result_for ways
may_return may Nothing ways p r = tt
may_return may (Declares v) ways p r = tt
may_return may (Assigns v) ways p r = tt
may_return may Returns ways p r = r p

-- a way as its number
way_is : (way : Option StepNumber) (next m : StepNumber) → way ≡ Some m → unwrap_or way next ≡ m
way_is way next m e = ap (λ o. unwrap_or o next) e

-- each control statement has somewhere to go that stands where it may
pub record HasWays (may : Allowed) (ways : Ways) : Type 0 where
  pub breaks : may.breaks ≡ true → (m : StepNumber) × (ways.on_break ≡ Some m)
  pub continues : may.continues ≡ true → (m : StepNumber) × (ways.on_continue ≡ Some m)
  pub returns : may.returns ≡ true → (m : StepNumber) × (ways.on_return ≡ Some m)

module _ (points : List Point) where
  -- a point at a number that is the same, and one that leads where its way leads
  here : (number n : StepNumber) (p : Point) → number ≡ n → HasPoint points n p → HasPoint points number p
  here number n p e h = subst (λ m. HasPoint points m p) (sym e) h

  leads : (number n : StepNumber) (p : StepNumber → Point) (way : Option StepNumber) (next : StepNumber) → number ≡ n
      → (m : StepNumber) × (way ≡ Some m) → HasPoint points n (p (unwrap_or way next)) → Leads points number way p
  leads number n p way next e w h = (w.0, w.1, subst (λ m. HasPoint points number (p m)) (way_is way next w.0 w.1) (here number n (p (unwrap_or way next)) e h))

  mutual
    -- a statement
    placed : (s : Stmt) (ways : Ways) (n : ℕ) (may : Allowed) → IsNumbered n s → IsWhole s → StmtPlaced may s → HasWays may ways
        → HasAt points n (points_of s ways) → IsPlaced points s ways
    placed Empty ways n may e whole p w h = tt
    placed (Then first rest) ways n may e whole p w h =
        let there = before_step (entry_of rest ways.next) ways in (
          placed first there n may e.0 whole.0 p.0 (record { breaks = w.breaks; continues = w.continues; returns = w.returns }) (has_front points n (points_of first there) (points_of rest ways) h),
          placed rest ways (n + steps_of first) may e.1 whole.1 p.1 w (has_after points n first there (points_of rest ways) h),
        )
    placed (Declare number v x) ways n may e whole p w h = here number n _ e h.0
    placed (Assign number target x) ways n may e whole p w h = here number n _ e h.0
    placed (Change number target type op in_type x) ways n may e whole p w h = here number n _ e h.0
    placed (If number test first other) ways n may e whole p w h = (
      here number n _ e.0 h.0,
      placed first ways (n + 1) may e.1 whole.0 p.0 w (has_front points (n + 1) (points_of first ways) (points_of other ways) h.1),
      placed other ways (n + 1 + steps_of first) may e.2 whole.1 p.1 w (has_after points (n + 1) first ways (points_of other ways) h.1),
    )
    placed (Loop number test update body) ways n may e whole p w h =
        let inside = body_ways (entry_of update number) ways in
        let again = update_ways number ways in
        let last = Branch test (entry_of body (entry_of update number)) ways.next ∷ [] in
        let behind = has_after points n body inside (points_of update again ++ last) h in (
          placed body inside n (in_loop may) e.1 whole.1 p.1 (record { breaks = λ _. (ways.next, refl); continues = λ _. (entry_of update number, refl); returns = w.returns })
              (has_front points n (points_of body inside) (points_of update again ++ last) h),
          placed update again (n + steps_of body) may e.2 whole.0 p.0 (record { breaks = λ _. (ways.next, refl); continues = w.continues; returns = w.returns })
              (has_front points (n + steps_of body) (points_of update again) last behind),
          here number (n + steps_of body + steps_of update) _ e.0 (has_after points (n + steps_of body) update again last behind).0,
        )
    placed (BodyFirst number test body) ways n may e whole p w h =
        let inside = body_ways number ways in
        let last = Branch test (entry_of body number) ways.next ∷ [] in (
          placed body inside n (in_loop may) e.1 whole p (record { breaks = λ _. (ways.next, refl); continues = λ _. (number, refl); returns = w.returns })
              (has_front points n (points_of body inside) last h),
          here number (n + steps_of body) _ e.0 (has_after points n body inside last h).0,
        )
    placed (Break number) ways n may e whole p w h = leads number n Go ways.on_break ways.next e (w.breaks p) h.0
    placed (Continue number) ways n may e whole p w h = leads number n Go ways.on_continue ways.next e (w.continues p) h.0
    placed (Return number x) ways n may e whole p w h = leads number n (Put (Return number x)) ways.on_return ways.next e (w.returns p) h.0
    placed (Switch number x segments) ways n may e whole p w h = (
      here number n _ e.0 h.0,
      segments_placed segments (record ways { on_break = Some ways.next }) (n + 1) (in_switch may) e.1 whole p
          (record { breaks = λ _. (ways.next, refl); continues = w.continues; returns = w.returns }) h.1,
    )
    placed (Segment label body rest) ways n may e whole p w h = absurd whole
    placed (ForEach number form body) ways n may e whole p w h =
        let end = round_number number body in
        let inside = round_ways end in
        let last = Turn (entry_of body end) ∷ [] in (
          here number n _ e.0 h.0,
          placed body inside (n + 1) (inside_rounds form may) e.1 whole p.1
              (record { breaks = λ b. absurd (no_breaks form may b); continues = λ _. (end, refl); returns = λ b. absurd (no_returns form may b) })
              (has_front points (n + 1) (points_of body inside) last h.1),
          here end (n + 1 + steps_of body) _ (ap (λ m. m + 1 + steps_of body) e.0) (has_after points (n + 1) body inside last h.1).0,
        )
    placed (Call number function args result_for) ways n may e whole p w h = (may_return may result_for ways p w.returns, here number n _ e h.0)
    placed (Check number x) ways n may e whole p w h = here number n _ e h.0
    placed (PackedStore number array from x result_for) ways n may e whole p w h = (may_return may result_for ways p w.returns, here number n _ e h.0)
    placed (PackedLoad number array from v result_for) ways n may e whole p w h = (may_return may result_for ways p w.returns, here number n _ e h.0)

    -- the segments of a switch
    segments_placed : (s : Stmt) (ways : Ways) (n : ℕ) (may : Allowed) → IsNumbered n s → AreWholeSegments s → StmtPlaced may s → HasWays may ways
        → HasAt points n (points_of s ways) → AreSegmentsPlaced points s ways
    segments_placed (Segment label body rest) ways n may e whole p w h =
        let there = before_step (entry_of rest ways.next) ways in (
          placed body there n may e.0 whole.0 p.0 (record { breaks = w.breaks; continues = w.continues; returns = w.returns }) (has_front points n (points_of body there) (points_of rest ways) h),
          segments_placed rest ways (n + steps_of body) may e.1 whole.1 p.1 w (has_after points n body there (points_of rest ways) h),
        )
    segments_placed s ways n may e whole p w h = whole

  -- the points of a statement, and of a switch's segments, which stand in the list from its first number on
  pub placed_of : (s : Stmt) (ways : Ways) (n : ℕ) (may : Allowed) → IsNumbered n s → IsWhole s → StmtPlaced may s
      → (may.breaks ≡ true → (m : StepNumber) × (ways.on_break ≡ Some m)) → (may.continues ≡ true → (m : StepNumber) × (ways.on_continue ≡ Some m))
      → (may.returns ≡ true → (m : StepNumber) × (ways.on_return ≡ Some m)) → HasAt points n (points_of s ways) → IsPlaced points s ways
  placed_of s ways n may e whole p b c r h = placed s ways n may e whole p (record { breaks = b; continues = c; returns = r }) h

  pub segments_placed_of : (s : Stmt) (ways : Ways) (n : ℕ) (may : Allowed) → IsNumbered n s → AreWholeSegments s → StmtPlaced may s
      → (may.breaks ≡ true → (m : StepNumber) × (ways.on_break ≡ Some m)) → (may.continues ≡ true → (m : StepNumber) × (ways.on_continue ≡ Some m))
      → (may.returns ≡ true → (m : StepNumber) × (ways.on_return ≡ Some m)) → HasAt points n (points_of s ways) → AreSegmentsPlaced points s ways
  segments_placed_of s ways n may e whole p b c r h = segments_placed s ways n may e whole p (record { breaks = b; continues = c; returns = r }) h

-- ---- a function's points

pub function_placed : (f : Function) → IsLowerable f → IsNumbered 0 f.body → IsPlaced (points_in f) f.body (function_ways f)
function_placed f lowerable e =
    placed_of (points_in f) f.body (function_ways f) 0 (in_function lowerable.names) e lowerable.whole lowerable.placed
    (λ b. absurd (none_true b)) (λ b. absurd (none_true b)) (λ b. (closing_number f, refl)) (has_all (points_in f))

-- the closing brace has none, each number below it has one
pub no_point_at_end : (f : Function) → slice_get (points_in f) (closing_number f) ≡ None
no_point_at_end f =
    let past : length (points_in f) ≤ closing_number f = omega (arith, length-points_of f.body (function_ways f)) in
    slice_get_past (points_in f) (closing_number f) past

pub point_below_end : (f : Function) (n : StepNumber) → n < closing_number f → (point : Point) × HasPoint (points_in f) n point
point_below_end f n below =
    let within : n < length (points_in f) = omega (arith, length-points_of f.body (function_ways f)) in
    (get_or (points_in f) n (Go 0), slice_get-get_or (points_in f) n (Go 0) within)
