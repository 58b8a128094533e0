-- Points lead to steps before which no more is declared than before them and by them.
use Rattle.std.proofs.Common.{◌≡◌, refl, sym, ap, ◌∙◌, subst, ℕ, zero, suc, ◌+◌, Bool, true, false, ◌||◌, List, [], ◌∷◌, ◌++◌, length, Option, Some, None, unwrap_or, arith}
use Rattle.std.specs.Prelude.{if◌then◌else◌}
use Rattle.gang_model.specs.Types.Tree.{StepNumber, Nothing, Declares, Assigns, Returns, Stmt, Empty, Then, Declare, Assign, Change, If, Loop, BodyFirst, Break, Continue, Return, Switch, Segment, ForEach, Call, Check, PackedStore, PackedLoad, Function}
use Rattle.gang_model.specs.Running.Step.{steps_of, round_number}
use Rattle.gang_model.specs.Running.RunningOrder.{IsNumbered}
use Rattle.mask_states.specs.Points.{Point, Put, Go, Branch, Choose, Begin, Turn, Enter, Ways, before_step, entry_of, entries_of, body_ways, update_ways, round_ways, points_of, closing_number, function_ways, points_in}
use Rattle.mask_states.specs.Placed.{HasPoint}
use Rattle.mask_states.proofs.PlacedPoints.{length-points_of}
use Rattle.machine_states.specs.Variables.{Variables}
use Rattle.machine_states.specs.WellScoped.{IsWellScopedExpr, CallWellScoped, ResultWellScoped, FormWellScoped, IsWellScoped}
use Rattle.machine_states.specs.RoundNumbers.{NumberedForm, numbered_form, numbered_round, numbered_about}
use Rattle.machine_states.specs.Declared.{own_number, declared_by_result, declared_by_form, declared_by, may_return, declared_before_return, declared_at, scalar_parameters, declared_at_end, declared_before}
use Rattle.machine_states.proofs.DeclaredLists.{same_some, or_front, or_back, IsWithin, within_itself, within_front, within_back, within_both, within_then, within_grouped, AreBefore, before_front, before_after, before_steps, before_behind, before_end, before_return_within, about_after}

-- ---- what holds of each point

abbrev pub AllPoints : (StepNumber → Point → Type 0) → ℕ → List Point → Type 0
AllPoints P n [] = Unit {0}
AllPoints P n (point ∷ points) = P n point × AllPoints P (n + 1) points

module _ (P : StepNumber → Point → Type 0) where
  all_append : (n : ℕ) (xs ys : List Point) → AllPoints P n xs → AllPoints P (n + length xs) ys → AllPoints P n (xs ++ ys)
  all_append n [] ys a b = let e : n + 0 ≡ n = omega arith in subst (λ m. AllPoints P m ys) e b
  all_append n (x ∷ xs) ys a b =
      let e : n + length (x ∷ xs) ≡ n + 1 + length xs = omega arith in
      (a.0, all_append (n + 1) xs ys a.1 (subst (λ m. AllPoints P m ys) e b))

  -- of a statement's points and of those behind them
  pub all_behind : (n : ℕ) (s : Stmt) (ways : Ways) (ys : List Point) → AllPoints P n (points_of s ways) → AllPoints P (n + steps_of s) ys → AllPoints P n (points_of s ways ++ ys)
  all_behind n s ways ys a b =
      all_append n (points_of s ways) ys a (subst (λ m. AllPoints P (n + m) ys) (sym (length-points_of s ways)) b)

  all_at_from : (n : ℕ) (points : List Point) (k : ℕ) (point : Point) → AllPoints P n points → HasPoint points k point → P (n + k) point
  all_at_from n [] k point a h = absurd cc
  all_at_from n (x ∷ points) zero point a h =
      let e : n ≡ n + 0 = omega arith in
      let same : x ≡ point = cc in
      subst (λ m. P m point) e (subst (P n) same a.0)
  all_at_from n (x ∷ points) (suc k) point a h =
      let e : n + 1 + k ≡ n + suc k = omega arith in
      subst (λ m. P m point) e (all_at_from (n + 1) points k point a.1 h)

  pub all_at : (points : List Point) (number : StepNumber) (point : Point) → AllPoints P 0 points → HasPoint points number point → P number point
  all_at points number point a h =
      let e : 0 + number ≡ number = omega arith in subst (λ m. P m point) e (all_at_from 0 points number point a h)

-- ---- well-scoped points

-- a statement that moves no lane
abbrev pub IsWellScopedPut : Variables → (function : ℕ) → Stmt → Type 0
IsWellScopedPut variables m (Declare number x e) = IsWellScoped variables m (Declare number x e)
IsWellScopedPut variables m (Assign number target e) = IsWellScoped variables m (Assign number target e)
IsWellScopedPut variables m (Change number target type op in_type e) = IsWellScoped variables m (Change number target type op in_type e)
IsWellScopedPut variables m (Return number e) = IsWellScoped variables m (Return number e)
IsWellScopedPut variables m (Check number e) = IsWellScoped variables m (Check number e)
IsWellScopedPut variables m (PackedStore number array from e result_for) = IsWellScoped variables m (PackedStore number array from e result_for)
IsWellScopedPut variables m (PackedLoad number array from x result_for) = IsWellScoped variables m (PackedLoad number array from x result_for)
IsWellScopedPut variables m s = ⊥

abbrev pub IsWellScopedPoint : Variables → (function : ℕ) → StepNumber → Point → Type 0
IsWellScopedPoint variables m number (Put s next) = IsWellScopedPut variables m s
IsWellScopedPoint variables m number (Go next) = Unit {0}
IsWellScopedPoint variables m number (Branch test yes' no') = IsWellScopedExpr variables m test
IsWellScopedPoint variables m number (Choose e segments entries next) = IsWellScopedExpr variables m e
IsWellScopedPoint variables m number (Begin form rounds next) = FormWellScoped variables m form
IsWellScopedPoint variables m number (Turn body) = Unit {0}
IsWellScopedPoint variables m number (Enter n args result_for next) = CallWellScoped variables m n args × ResultWellScoped variables m result_for

module _ (variables : Variables) (m : ℕ) where
  well_scoped_points : (s : Stmt) (ways : Ways) (n : ℕ) → IsWellScoped variables m s → AllPoints (IsWellScopedPoint variables m) n (points_of s ways)
  well_scoped_points Empty ways n p = tt
  well_scoped_points (Then first rest) ways n p =
      let here = before_step (entry_of rest ways.next) ways in
      all_behind (IsWellScopedPoint variables m) n first here (points_of rest ways) (well_scoped_points first here n p.0) (well_scoped_points rest ways (n + steps_of first) p.1)
  well_scoped_points (Declare number x e) ways n p = (p, tt)
  well_scoped_points (Assign number target e) ways n p = (p, tt)
  well_scoped_points (Change number target type op in_type e) ways n p = (p, tt)
  well_scoped_points (If number test first other) ways n p =
      (p.0, all_behind (IsWellScopedPoint variables m) (n + 1) first ways (points_of other ways) (well_scoped_points first ways (n + 1) p.1) (well_scoped_points other ways (n + 1 + steps_of first) p.2))
  well_scoped_points (Loop number test update body) ways n p =
      let inside = body_ways (entry_of update number) ways in
      let again = update_ways number ways in
      let last = Branch test (entry_of body (entry_of update number)) ways.next ∷ [] in
      all_behind (IsWellScopedPoint variables m) n body inside (points_of update again ++ last) (well_scoped_points body inside n p.2)
      (all_behind (IsWellScopedPoint variables m) (n + steps_of body) update again last (well_scoped_points update again (n + steps_of body) p.1) (p.0, tt))
  well_scoped_points (BodyFirst number test body) ways n p =
      let inside = body_ways number ways in
      all_behind (IsWellScopedPoint variables m) n body inside (Branch test (entry_of body number) ways.next ∷ []) (well_scoped_points body inside n p.1) (p.0, tt)
  well_scoped_points (Break number) ways n p = (tt, tt)
  well_scoped_points (Continue number) ways n p = (tt, tt)
  well_scoped_points (Return number e) ways n p = (p, tt)
  well_scoped_points (Switch number e segments) ways n p = (p.0, well_scoped_points segments (record ways { on_break = Some ways.next }) (n + 1) p.1)
  well_scoped_points (Segment label body rest) ways n p =
      let there = before_step (entry_of rest ways.next) ways in
      all_behind (IsWellScopedPoint variables m) n body there (points_of rest ways) (well_scoped_points body there n p.0) (well_scoped_points rest ways (n + steps_of body) p.1)
  well_scoped_points (ForEach number form body) ways n p =
      let rounds = round_number number body in
      (p.0, all_behind (IsWellScopedPoint variables m) (n + 1) body (round_ways rounds) (Turn (entry_of body rounds) ∷ []) (well_scoped_points body (round_ways rounds) (n + 1) p.1) (tt, tt))
  well_scoped_points (Call number function args result_for) ways n p = ((p.0, p.1), tt)
  well_scoped_points (Check number e) ways n p = (p, tt)
  well_scoped_points (PackedStore number array from e result_for) ways n p = (p, tt)
  well_scoped_points (PackedLoad number array from v result_for) ways n p = (p, tt)

  -- a well-scoped function's points are well-scoped
  pub well_scoped_point : (f : Function) → IsWellScoped variables m f.body → (number : StepNumber) (point : Point) → HasPoint (points_in f) number point → IsWellScopedPoint variables m number point
  well_scoped_point f p number point h =
      all_at (IsWellScopedPoint variables m) (points_in f) number point (well_scoped_points f.body (function_ways f) 0 p) h

-- ---- where points lead

-- no more is declared before any of these steps
abbrev pub AreLed : (before : StepNumber → List ℕ) → (d : List ℕ) → List StepNumber → Type 0
AreLed before d [] = Unit {0}
AreLed before d (number ∷ numbers) = IsWithin (before number) d × AreLed before d numbers

-- No more is declared where a point leads than before it and by it. Rounds declare the index variables of the innermost form round them.
abbrev pub LeadsDeclared : (before : StepNumber → List ℕ) → (about : StepNumber → List NumberedForm) → StepNumber → Point → Type 0
LeadsDeclared before about number (Put s next) = IsWithin (before next) (declared_by s ++ before number)
LeadsDeclared before about number (Go next) = IsWithin (before next) (before number)
LeadsDeclared before about number (Branch test yes' no') = IsWithin (before yes') (before number) × IsWithin (before no') (before number)
LeadsDeclared before about number (Choose e segments entries next) = AreLed before (before number) entries × IsWithin (before next) (before number)
LeadsDeclared before about number (Begin form rounds next) = IsWithin (before rounds) (before number) × IsWithin (before next) (before number)
LeadsDeclared before about number (Turn body) =
    (innermost : NumberedForm) (outer : List NumberedForm) → about number ≡ innermost ∷ outer → IsWithin (before body) (declared_by_form innermost.form ++ before number)
LeadsDeclared before about number (Enter n args result_for next) = IsWithin (before next) (declared_by_result result_for ++ before number)

-- no more is declared where the ways of a statement lead than before it and, behind it, by it
pub record AreGoodWays (before : StepNumber → List ℕ) (d : List ℕ) (s : Stmt) (ways : Ways) : Type 0 where
  pub next : IsWithin (before ways.next) (declared_by s ++ d)
  pub on_break : (way : StepNumber) → ways.on_break ≡ Some way → IsWithin (before way) d
  pub on_continue : (way : StepNumber) → ways.on_continue ≡ Some way → IsWithin (before way) d
  pub on_return : (way : StepNumber) → ways.on_return ≡ Some way → may_return s ≡ true → IsWithin (before way) (declared_before_return s ++ d)

-- what is declared before a part that may return, and what is declared before one behind another
none_before : (b : Bool) (ws xs d : List ℕ) → b ≡ true → IsWithin ws ((if b then [] else xs) ++ d) → IsWithin ws d
none_before true ws xs d e h = h
none_before false ws xs d e h = absurd cc

some_before : (b : Bool) (ws xs ys d : List ℕ) → IsWithin ws ((if b then [] else xs ++ ys) ++ d) → IsWithin ws (xs ++ (ys ++ d))
some_before true ws xs ys d h = within_then ws d (xs ++ (ys ++ d)) h (within_then d (ys ++ d) (xs ++ (ys ++ d)) (within_back ys d) (within_back xs (ys ++ d)))
some_before false ws xs ys d h = within_grouped ws xs ys d h

-- what holds where a way leads
pub of_way : (P : StepNumber → Type 0) (way : Option StepNumber) (next : StepNumber) → P next → ((n : StepNumber) → way ≡ Some n → P n) → P (unwrap_or way next)
of_way P None next a b = a
of_way P (Some n) next a b = b n refl

first_form : (first other : NumberedForm) (firsts others : List NumberedForm) → first ∷ firsts ≡ other ∷ others → first.form ≡ other.form
first_form first other firsts others e = let same : first ≡ other = cc in ap (λ numbered. numbered.form) same

module _ (before : StepNumber → List ℕ) where
  at_number : (number n : ℕ) (d : List ℕ) → number ≡ n → before n ≡ d → IsWithin (before number) d
  at_number number n d e h = let same : before number ≡ d = ap before e ∙ h in subst (λ xs. IsWithin (before number) xs) same (within_itself (before number))

  -- no more is declared before a statement's first step than before the statement
  pub entry_declared : (s : Stmt) (n next : ℕ) (d : List ℕ) → IsNumbered n s → AreBefore before n (declared_at d s) → IsWithin (before next) (declared_by s ++ d) → IsWithin (before (entry_of s next)) d
  entry_declared Empty n next d e h g = g
  entry_declared (Then first rest) n next d e h g =
      let behind = declared_by first ++ d in
      let there : IsWithin (before (entry_of rest next)) behind =
      entry_declared rest (n + steps_of first) next behind e.1 (before_after before n first d (declared_at behind rest) h)
      (within_grouped (before next) (declared_by rest) (declared_by first) d g) in
      entry_declared first n (entry_of rest next) d e.0 (before_front before n (declared_at d first) (declared_at behind rest) h) there
  entry_declared (Declare number x v) n next d e h g = at_number number n d e h.0
  entry_declared (Assign number target v) n next d e h g = at_number number n d e h.0
  entry_declared (Change number target type op in_type v) n next d e h g = at_number number n d e h.0
  entry_declared (If number test first other) n next d e h g = at_number number n d e.0 h.0
  entry_declared (Loop number test update body) n next d e h g =
      let behind = before_after before n body d (declared_at d update ++ d ∷ []) h in
      at_number number (n + steps_of body + steps_of update) d e.0 (before_after before (n + steps_of body) update d (d ∷ []) behind).0
  entry_declared (BodyFirst number test body) n next d e h g =
      let test_declared = at_number number (n + steps_of body) d e.0 (before_after before n body d (d ∷ []) h).0 in
      entry_declared body n number d e.1 (before_front before n (declared_at d body) (d ∷ []) h)
      (within_then (before number) d (declared_by body ++ d) test_declared (within_back (declared_by body) d))
  entry_declared (Break number) n next d e h g = at_number number n d e h.0
  entry_declared (Continue number) n next d e h g = at_number number n d e h.0
  entry_declared (Return number v) n next d e h g = at_number number n d e h.0
  entry_declared (Switch number v segments) n next d e h g = at_number number n d e.0 h.0
  entry_declared (Segment label body rest) n next d e h g =
      let there : IsWithin (before (entry_of rest next)) d =
      entry_declared rest (n + steps_of body) next d e.1 (before_after before n body d (declared_at d rest) h)
      (within_then (before next) d (declared_by rest ++ d) g (within_back (declared_by rest) d)) in
      entry_declared body n (entry_of rest next) d e.0 (before_front before n (declared_at d body) (declared_at d rest) h)
      (within_then (before (entry_of rest next)) d (declared_by body ++ d) there (within_back (declared_by body) d))
  entry_declared (ForEach number form body) n next d e h g = at_number number n d e.0 h.0
  entry_declared (Call number function args result_for) n next d e h g = at_number number n d e h.0
  entry_declared (Check number v) n next d e h g = at_number number n d e h.0
  entry_declared (PackedStore number array from v result_for) n next d e h g = at_number number n d e h.0
  entry_declared (PackedLoad number array from v result_for) n next d e h g = at_number number n d e h.0

  -- nor before the first step of any segment of a switch
  entries_declared : (s : Stmt) (n next : ℕ) (d : List ℕ) → IsNumbered n s → AreBefore before n (declared_at d s) → IsWithin (before next) d → AreLed before d (entries_of s next)
  entries_declared (Segment label body rest) n next d e h g =
      (entry_declared (Segment label body rest) n next d e h g, entries_declared rest (n + steps_of body) next d e.1 (before_after before n body d (declared_at d rest) h) g)
  entries_declared s n next d e h g = tt

  -- the ways of a part of a statement, before which the same is declared
  inside_good : (d : List ℕ) (s : Stmt) (ways : Ways) → IsWithin (before ways.next) d
      → ((way : StepNumber) → ways.on_break ≡ Some way → IsWithin (before way) d)
      → ((way : StepNumber) → ways.on_continue ≡ Some way → IsWithin (before way) d)
      → ((way : StepNumber) → ways.on_return ≡ Some way → may_return s ≡ true → IsWithin (before way) d) → AreGoodWays before d s ways
  inside_good d s ways a b c r = record {
    next = within_then (before ways.next) d (declared_by s ++ d) a (within_back (declared_by s) d);
    on_break = b;
    on_continue = c;
    on_return = λ way e may. within_then (before way) d (declared_before_return s ++ d) (r way e may) (within_back (declared_before_return s) d);
  }

  first_good : (d : List ℕ) (first rest : Stmt) (ways : Ways) → AreGoodWays before d (Then first rest) ways → IsWithin (before (entry_of rest ways.next)) (declared_by first ++ d)
      → AreGoodWays before d first (before_step (entry_of rest ways.next) ways)
  first_good d first rest ways g there = record {
    next = there;
    on_break = g.on_break;
    on_continue = g.on_continue;
    on_return = λ way e may.
        within_then (before way) d (declared_before_return first ++ d)
        (none_before (may_return first) (before way) (declared_before_return rest ++ declared_by first) d may (g.on_return way e (or_front (may_return first) (may_return rest) may)))
        (within_back (declared_before_return first) d);
  }

  rest_good : (d : List ℕ) (first rest : Stmt) (ways : Ways) → AreGoodWays before d (Then first rest) ways → AreGoodWays before (declared_by first ++ d) rest ways
  rest_good d first rest ways g = record {
    next = within_grouped (before ways.next) (declared_by rest) (declared_by first) d g.next;
    on_break = λ way e. within_then (before way) d (declared_by first ++ d) (g.on_break way e) (within_back (declared_by first) d);
    on_continue = λ way e. within_then (before way) d (declared_by first ++ d) (g.on_continue way e) (within_back (declared_by first) d);
    on_return = λ way e may. some_before (may_return first) (before way) (declared_before_return rest) (declared_by first) d (g.on_return way e (or_back (may_return first) (may_return rest) may));
  }

  here : (n : ℕ) (xs ys d : List ℕ) → before n ≡ d → IsWithin xs (ys ++ d) → IsWithin xs (ys ++ before n)
  here n xs ys d e h = subst (λ zs. IsWithin xs (ys ++ zs)) (sym e) h

  leads_points : (about : StepNumber → List NumberedForm) (s : Stmt) (ways : Ways) (n : ℕ) (d : List ℕ) (outer : List NumberedForm) → IsNumbered n s
      → AreBefore before n (declared_at d s) → AreBefore about n (numbered_round outer s) → AreGoodWays before d s ways → AllPoints (LeadsDeclared before about) n (points_of s ways)
  leads_points about Empty ways n d outer e h a g = tt
  leads_points about (Then first rest) ways n d outer e h a g =
      let behind = declared_by first ++ d in
      let after = before_after before n first d (declared_at behind rest) h in
      let good = rest_good d first rest ways g in
      let there = entry_declared rest (n + steps_of first) ways.next behind e.1 after good.next in
      all_behind (LeadsDeclared before about) n first (before_step (entry_of rest ways.next) ways) (points_of rest ways)
      (leads_points about first (before_step (entry_of rest ways.next) ways) n d outer e.0 (before_front before n (declared_at d first) (declared_at behind rest) h)
      (before_front about n (numbered_round outer first) (numbered_round outer rest) a) (first_good d first rest ways g there))
      (leads_points about rest ways (n + steps_of first) behind outer e.1 after (about_after about n first outer (numbered_round outer rest) a) good)
  leads_points about (Declare number x v) ways n d outer e h a g = (here n (before ways.next) (own_number x.id) d h.0 g.next, tt)
  leads_points about (Assign number target v) ways n d outer e h a g = (here n (before ways.next) [] d h.0 g.next, tt)
  leads_points about (Change number target type op in_type v) ways n d outer e h a g = (here n (before ways.next) [] d h.0 g.next, tt)
  leads_points about (If number test first other) ways n d outer e h a g =
      let returns = λ (way : StepNumber) (is : ways.on_return ≡ Some way) (may : (may_return first || may_return other) ≡ true).
      none_before (may_return first || may_return other) (before way) [] d may (g.on_return way is may) in
      let first_ways = inside_good d first ways g.next g.on_break g.on_continue (λ way is may. returns way is (or_front (may_return first) (may_return other) may)) in
      let other_ways = inside_good d other ways g.next g.on_break g.on_continue (λ way is may. returns way is (or_back (may_return first) (may_return other) may)) in
      let first_before = before_front before (n + 1) (declared_at d first) (declared_at d other) h.1 in
      let other_before = before_after before (n + 1) first d (declared_at d other) h.1 in (
        (
          here n (before (entry_of first ways.next)) [] d h.0 (entry_declared first (n + 1) ways.next d e.1 first_before first_ways.next),
          here n (before (entry_of other ways.next)) [] d h.0 (entry_declared other (n + 1 + steps_of first) ways.next d e.2 other_before other_ways.next),
        ),
        all_behind (LeadsDeclared before about) (n + 1) first ways (points_of other ways)
            (leads_points about first ways (n + 1) d outer e.1 first_before (before_front about (n + 1) (numbered_round outer first) (numbered_round outer other) a.1) first_ways)
            (leads_points about other ways (n + 1 + steps_of first) d outer e.2 other_before (about_after about (n + 1) first outer (numbered_round outer other) a.1) other_ways),
      )
  leads_points about (Loop number test update body) ways n d outer e h a g =
      let inside = body_ways (entry_of update number) ways in
      let again = update_ways number ways in
      let last = Branch test (entry_of body (entry_of update number)) ways.next ∷ [] in
      let test_number = n + steps_of body + steps_of update in
      let returns = λ (way : StepNumber) (is : ways.on_return ≡ Some way) (may : (may_return update || may_return body) ≡ true).
      none_before (may_return update || may_return body) (before way) [] d may (g.on_return way is may) in
      let out = λ (way : StepNumber) (is : Some ways.next ≡ Some way). subst (λ k. IsWithin (before k) d) (same_some ways.next way is) g.next in
      let body_before = before_front before n (declared_at d body) (declared_at d update ++ d ∷ []) h in
      let behind = before_after before n body d (declared_at d update ++ d ∷ []) h in
      let update_before = before_front before (n + steps_of body) (declared_at d update) (d ∷ []) behind in
      let test_before : before test_number ≡ d = (before_after before (n + steps_of body) update d (d ∷ []) behind).0 in
      let test_declared : IsWithin (before number) d = at_number number test_number d e.0 test_before in
      let update_good = inside_good d update again test_declared out g.on_continue (λ way is may. returns way is (or_front (may_return update) (may_return body) may)) in
      let update_declared : IsWithin (before (entry_of update number)) d = entry_declared update (n + steps_of body) number d e.2 update_before update_good.next in
      let body_good = inside_good d body inside update_declared out
      (λ way is. subst (λ k. IsWithin (before k) d) (same_some (entry_of update number) way is) update_declared)
      (λ way is may. returns way is (or_back (may_return update) (may_return body) may)) in
      let body_declared = entry_declared body n (entry_of update number) d e.1 body_before body_good.next in
      all_behind (LeadsDeclared before about) n body inside (points_of update again ++ last)
      (leads_points about body inside n d outer e.1 body_before (before_front about n (numbered_round outer body) (numbered_round outer update ++ outer ∷ []) a) body_good)
      (all_behind (LeadsDeclared before about) (n + steps_of body) update again last
      (leads_points about update again (n + steps_of body) d outer e.2 update_before
      (before_front about (n + steps_of body) (numbered_round outer update) (outer ∷ []) (about_after about n body outer (numbered_round outer update ++ outer ∷ []) a)) update_good) (
        (
          here test_number (before (entry_of body (entry_of update number))) [] d test_before body_declared,
          here test_number (before ways.next) [] d test_before g.next,
        ),
        tt,
      ))
  leads_points about (BodyFirst number test body) ways n d outer e h a g =
      let inside = body_ways number ways in
      let test_number = n + steps_of body in
      let body_before = before_front before n (declared_at d body) (d ∷ []) h in
      let test_before : before test_number ≡ d = (before_after before n body d (d ∷ []) h).0 in
      let test_declared : IsWithin (before number) d = at_number number test_number d e.0 test_before in
      let body_good = inside_good d body inside test_declared
      (λ way is. subst (λ k. IsWithin (before k) d) (same_some ways.next way is) g.next)
      (λ way is. subst (λ k. IsWithin (before k) d) (same_some number way is) test_declared)
      (λ way is may. none_before (may_return body) (before way) [] d may (g.on_return way is may)) in
      all_behind (LeadsDeclared before about) n body inside (Branch test (entry_of body number) ways.next ∷ [])
      (leads_points about body inside n d outer e.1 body_before (before_front about n (numbered_round outer body) (outer ∷ []) a) body_good) (
        (
          here test_number (before (entry_of body number)) [] d test_before (entry_declared body n number d e.1 body_before body_good.next),
          here test_number (before ways.next) [] d test_before g.next,
        ),
        tt,
      )
  leads_points about (Break number) ways n d outer e h a g =
      (here n (before (unwrap_or ways.on_break ways.next)) [] d h.0 (of_way (λ k. IsWithin (before k) d) ways.on_break ways.next g.next g.on_break), tt)
  leads_points about (Continue number) ways n d outer e h a g =
      (here n (before (unwrap_or ways.on_continue ways.next)) [] d h.0 (of_way (λ k. IsWithin (before k) d) ways.on_continue ways.next g.next g.on_continue), tt)
  leads_points about (Return number v) ways n d outer e h a g =
      (here n (before (unwrap_or ways.on_return ways.next)) [] d h.0 (of_way (λ k. IsWithin (before k) d) ways.on_return ways.next g.next (λ way is. g.on_return way is refl)), tt)
  leads_points about (Switch number v segments) ways n d outer e h a g =
      let inside : Ways = record ways { on_break = Some ways.next } in
      let good = inside_good d segments inside g.next
      (λ way is. subst (λ k. IsWithin (before k) d) (same_some ways.next way is) g.next)
      g.on_continue
      (λ way is may. none_before (may_return segments) (before way) [] d may (g.on_return way is may)) in (
        (
          subst (λ xs. AreLed before xs (entries_of segments ways.next)) (sym h.0) (entries_declared segments (n + 1) ways.next d e.1 h.1 g.next),
          here n (before ways.next) [] d h.0 g.next,
        ),
        leads_points about segments inside (n + 1) d outer e.1 h.1 a.1 good,
      )
  leads_points about (Segment label body rest) ways n d outer e h a g =
      let there : Ways = before_step (entry_of rest ways.next) ways in
      let returns = λ (way : StepNumber) (is : ways.on_return ≡ Some way) (may : (may_return body || may_return rest) ≡ true).
      none_before (may_return body || may_return rest) (before way) [] d may (g.on_return way is may) in
      let after = before_after before n body d (declared_at d rest) h in
      let rest_good = inside_good d rest ways g.next g.on_break g.on_continue (λ way is may. returns way is (or_back (may_return body) (may_return rest) may)) in
      let body_good = inside_good d body there (entry_declared rest (n + steps_of body) ways.next d e.1 after rest_good.next) g.on_break g.on_continue
      (λ way is may. returns way is (or_front (may_return body) (may_return rest) may)) in
      all_behind (LeadsDeclared before about) n body there (points_of rest ways)
      (leads_points about body there n d outer e.0 (before_front before n (declared_at d body) (declared_at d rest) h)
      (before_front about n (numbered_round outer body) (numbered_round outer rest) a) body_good)
      (leads_points about rest ways (n + steps_of body) d outer e.1 after (about_after about n body outer (numbered_round outer rest) a) rest_good)
  leads_points about (ForEach number form body) ways n d outer e h a g =
      let rounds = round_number number body in
      let turn_number = n + 1 + steps_of body in
      let within = declared_by_form form ++ d in
      let inner : List NumberedForm = numbered_form rounds form ∷ outer in
      let body_before = before_front before (n + 1) (declared_at within body) (d ∷ []) h.1 in
      let turn_before : before turn_number ≡ d = (before_after before (n + 1) body within (d ∷ []) h.1).0 in
      let turn_about : about turn_number ≡ inner = (about_after about (n + 1) body inner (inner ∷ []) a.1).0 in
      let rounds_declared : IsWithin (before rounds) d = at_number rounds turn_number d (ap (λ m. m + 1 + steps_of body) e.0) turn_before in
      let rounds_within : IsWithin (before rounds) within = within_then (before rounds) d within rounds_declared (within_back (declared_by_form form) d) in
      let good : AreGoodWays before within body (round_ways rounds) = record {
        next = within_then (before rounds) within (declared_by body ++ within) rounds_within (within_back (declared_by body) within);
        on_break = λ way is. absurd cc;
        on_continue = λ way is. subst (λ k. IsWithin (before k) within) (same_some rounds way is) rounds_within;
        on_return = λ way is may. absurd cc;
      } in
      let body_declared : IsWithin (before (entry_of body rounds)) within = entry_declared body (n + 1) rounds within e.1 body_before good.next in (
        (here n (before rounds) [] d h.0 rounds_declared, here n (before ways.next) [] d h.0 g.next),
        all_behind (LeadsDeclared before about) (n + 1) body (round_ways rounds) (Turn (entry_of body rounds) ∷ [])
            (leads_points about body (round_ways rounds) (n + 1) within inner e.1 body_before (before_front about (n + 1) (numbered_round inner body) (inner ∷ []) a.1) good) (
              λ innermost others is.
                  subst (λ f. IsWithin (before (entry_of body rounds)) (declared_by_form f ++ before turn_number)) (first_form (numbered_form rounds form) innermost outer others (sym turn_about ∙ is))
                  (here turn_number (before (entry_of body rounds)) (declared_by_form form) d turn_before body_declared),
              tt,
            ),
      )
  leads_points about (Call number function args Nothing) ways n d outer e h a g = (here n (before ways.next) [] d h.0 g.next, tt)
  leads_points about (Call number function args (Declares x)) ways n d outer e h a g = (here n (before ways.next) (own_number x.id) d h.0 g.next, tt)
  leads_points about (Call number function args (Assigns x)) ways n d outer e h a g = (here n (before ways.next) [] d h.0 g.next, tt)
  leads_points about (Call number function args Returns) ways n d outer e h a g =
      (here n (before (unwrap_or ways.on_return ways.next)) [] d h.0 (of_way (λ k. IsWithin (before k) d) ways.on_return ways.next g.next (λ way is. g.on_return way is refl)), tt)
  leads_points about (Check number v) ways n d outer e h a g = (here n (before ways.next) [] d h.0 g.next, tt)
  leads_points about (PackedStore number array from v Nothing) ways n d outer e h a g = (here n (before ways.next) [] d h.0 g.next, tt)
  leads_points about (PackedStore number array from v (Declares x)) ways n d outer e h a g = (here n (before ways.next) (own_number x.id) d h.0 g.next, tt)
  leads_points about (PackedStore number array from v (Assigns x)) ways n d outer e h a g = (here n (before ways.next) [] d h.0 g.next, tt)
  leads_points about (PackedStore number array from v Returns) ways n d outer e h a g =
      (here n (before (unwrap_or ways.on_return ways.next)) [] d h.0 (of_way (λ k. IsWithin (before k) d) ways.on_return ways.next g.next (λ way is. g.on_return way is refl)), tt)
  leads_points about (PackedLoad number array from v Nothing) ways n d outer e h a g = (here n (before ways.next) [] d h.0 g.next, tt)
  leads_points about (PackedLoad number array from v (Declares x)) ways n d outer e h a g = (here n (before ways.next) (own_number x.id) d h.0 g.next, tt)
  leads_points about (PackedLoad number array from v (Assigns x)) ways n d outer e h a g = (here n (before ways.next) [] d h.0 g.next, tt)
  leads_points about (PackedLoad number array from v Returns) ways n d outer e h a g =
      (here n (before (unwrap_or ways.on_return ways.next)) [] d h.0 (of_way (λ k. IsWithin (before k) d) ways.on_return ways.next g.next (λ way is. g.on_return way is refl)), tt)

-- ---- functions

module _ (variables : Variables) (m : ℕ) (f : Function) (numbered : IsNumbered 0 f.body) where
  -- no more is declared at the closing brace than behind the body
  end_declared : IsWithin (declared_before variables m f (closing_number f)) (declared_by f.body ++ scalar_parameters variables m)
  end_declared =
      let d = scalar_parameters variables m in
      let behind : IsWithin (declared_at_end variables m f) (declared_by f.body ++ d) =
      within_both (declared_before_return f.body) d (declared_by f.body ++ d)
      (within_then (declared_before_return f.body) (declared_by f.body) (declared_by f.body ++ d) (before_return_within f.body) (within_front (declared_by f.body) d))
      (within_back (declared_by f.body) d) in
      subst (λ xs. IsWithin xs (declared_by f.body ++ d)) (sym (before_end variables m f (closing_number f) (omega arith))) behind

  -- a call begins with the parameters
  pub first_declared : IsWithin (declared_before variables m f (entry_of f.body (closing_number f))) (scalar_parameters variables m)
  first_declared = entry_declared (declared_before variables m f) f.body 0 (closing_number f) (scalar_parameters variables m) numbered (before_steps variables m f) end_declared

  function_good : AreGoodWays (declared_before variables m f) (scalar_parameters variables m) f.body (function_ways f)
  function_good = record {
    next = end_declared;
    on_break = λ way is. absurd cc;
    on_continue = λ way is. absurd cc;
    on_return = λ way is may.
        let same : declared_before variables m f way ≡ declared_at_end variables m f =
        ap (declared_before variables m f) (sym (same_some (closing_number f) way is)) ∙ before_end variables m f (closing_number f) (omega arith) in
        subst (λ xs. IsWithin xs (declared_at_end variables m f)) (sym same) (within_itself (declared_at_end variables m f));
  }

  pub point_leads : (number : StepNumber) (point : Point) → HasPoint (points_in f) number point → LeadsDeclared (declared_before variables m f) (numbered_about f) number point
  point_leads number point h =
      all_at (LeadsDeclared (declared_before variables m f) (numbered_about f)) (points_in f) number point
      (leads_points (declared_before variables m f) (numbered_about f) f.body (function_ways f) 0 (scalar_parameters variables m) [] numbered (before_steps variables m f)
      (before_behind (numbered_round [] f.body) [] []) function_good) h
