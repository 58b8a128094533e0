-- The points of a function name what is declared before them.
use Rattle.std.proofs.Common.{sym, subst, ℕ, ◌+◌, List, [], ◌∷◌, ◌++◌, Some}
use Rattle.gang_model.specs.Types.Tree.{StepNumber, Stmt, Empty, Then, Declare, Assign, Change, If, Loop, BodyFirst, Break, Continue, Return, Switch, Segment, ForEach, Call, Check, PackedStore, PackedLoad, Function}
use Rattle.gang_model.specs.Running.Step.{steps_of, round_number}
use Rattle.gang_model.specs.Running.RunningOrder.{IsNumbered}
use Rattle.mask_states.specs.Points.{Point, Put, Go, Branch, Choose, Begin, Turn, Enter, Ways, before_step, entry_of, body_ways, update_ways, round_ways, points_of, function_ways, points_in}
use Rattle.mask_states.specs.Placed.{HasPoint}
use Rattle.machine_states.specs.Variables.{Variables}
use Rattle.machine_states.specs.Declared.{NamesDeclared, ArgsDeclared, ResultDeclared, FormDeclared, declared_by_form, declared_by, DeclaresFirst, declared_at, scalar_parameters, declared_before, IsDeclaredFirst}
use Rattle.machine_states.proofs.DeclaredLists.{AreBefore, before_front, before_after, before_steps}
use Rattle.machine_states.proofs.DeclaredPoints.{AllPoints, all_behind, all_at}

-- what a point names is declared before it
abbrev pub NamesBefore : (before : StepNumber → List ℕ) → StepNumber → Point → Type 0
NamesBefore before number (Put s next) = DeclaresFirst (before number) s
NamesBefore before number (Go next) = Unit {0}
NamesBefore before number (Branch test yes' no') = NamesDeclared (before number) test
NamesBefore before number (Choose e segments entries next) = NamesDeclared (before number) e
NamesBefore before number (Begin form rounds next) = FormDeclared (before number) form
NamesBefore before number (Turn body) = Unit {0}
NamesBefore before number (Enter n args result_for next) = ArgsDeclared (before number) args × ResultDeclared (before number) result_for

module _ (before : StepNumber → List ℕ) where
  names_points : (s : Stmt) (ways : Ways) (n : ℕ) (d : List ℕ) → IsNumbered n s → AreBefore before n (declared_at d s) → DeclaresFirst d s
      → AllPoints (NamesBefore before) n (points_of s ways)
  names_points Empty ways n d e h f = tt
  names_points (Then first rest) ways n d e h f =
      let behind = declared_by first ++ d in
      let there = before_step (entry_of rest ways.next) ways in
      all_behind (NamesBefore before) n first there (points_of rest ways)
      (names_points first there n d e.0 (before_front before n (declared_at d first) (declared_at behind rest) h) f.0)
      (names_points rest ways (n + steps_of first) behind e.1 (before_after before n first d (declared_at behind rest) h) f.1)
  names_points (Declare number x v) ways n d e h f = (subst (λ ds. DeclaresFirst ds (Declare number x v)) (sym h.0) f, tt)
  names_points (Assign number target v) ways n d e h f = (subst (λ ds. DeclaresFirst ds (Assign number target v)) (sym h.0) f, tt)
  names_points (Change number target type op in_type v) ways n d e h f = (subst (λ ds. DeclaresFirst ds (Change number target type op in_type v)) (sym h.0) f, tt)
  names_points (If number test first other) ways n d e h f = (
    subst (λ ds. NamesDeclared ds test) (sym h.0) f.0,
    all_behind (NamesBefore before) (n + 1) first ways (points_of other ways)
        (names_points first ways (n + 1) d e.1 (before_front before (n + 1) (declared_at d first) (declared_at d other) h.1) f.1)
        (names_points other ways (n + 1 + steps_of first) d e.2 (before_after before (n + 1) first d (declared_at d other) h.1) f.2),
  )
  names_points (Loop number test update body) ways n d e h f =
      let inside = body_ways (entry_of update number) ways in
      let again = update_ways number ways in
      let last = Branch test (entry_of body (entry_of update number)) ways.next ∷ [] in
      let behind = before_after before n body d (declared_at d update ++ d ∷ []) h in
      let test_before = (before_after before (n + steps_of body) update d (d ∷ []) behind).0 in
      all_behind (NamesBefore before) n body inside (points_of update again ++ last)
      (names_points body inside n d e.1 (before_front before n (declared_at d body) (declared_at d update ++ d ∷ []) h) f.2)
      (all_behind (NamesBefore before) (n + steps_of body) update again last
      (names_points update again (n + steps_of body) d e.2 (before_front before (n + steps_of body) (declared_at d update) (d ∷ []) behind) f.1)
      (subst (λ ds. NamesDeclared ds test) (sym test_before) f.0, tt))
  names_points (BodyFirst number test body) ways n d e h f =
      let inside = body_ways number ways in
      all_behind (NamesBefore before) n body inside (Branch test (entry_of body number) ways.next ∷ [])
      (names_points body inside n d e.1 (before_front before n (declared_at d body) (d ∷ []) h) f.1)
      (subst (λ ds. NamesDeclared ds test) (sym (before_after before n body d (d ∷ []) h).0) f.0, tt)
  names_points (Break number) ways n d e h f = (tt, tt)
  names_points (Continue number) ways n d e h f = (tt, tt)
  names_points (Return number v) ways n d e h f = (subst (λ ds. DeclaresFirst ds (Return number v)) (sym h.0) f, tt)
  names_points (Switch number v segments) ways n d e h f =
      (subst (λ ds. NamesDeclared ds v) (sym h.0) f.0, names_points segments (record ways { on_break = Some ways.next }) (n + 1) d e.1 h.1 f.1)
  names_points (Segment label body rest) ways n d e h f =
      let there = before_step (entry_of rest ways.next) ways in
      all_behind (NamesBefore before) n body there (points_of rest ways)
      (names_points body there n d e.0 (before_front before n (declared_at d body) (declared_at d rest) h) f.0)
      (names_points rest ways (n + steps_of body) d e.1 (before_after before n body d (declared_at d rest) h) f.1)
  names_points (ForEach number form body) ways n d e h f =
      let rounds = round_number number body in
      let within = declared_by_form form ++ d in (
        subst (λ ds. FormDeclared ds form) (sym h.0) f.0,
        all_behind (NamesBefore before) (n + 1) body (round_ways rounds) (Turn (entry_of body rounds) ∷ [])
            (names_points body (round_ways rounds) (n + 1) within e.1 (before_front before (n + 1) (declared_at within body) (d ∷ []) h.1) f.1) (tt, tt),
      )
  names_points (Call number function args result_for) ways n d e h f =
      let same = sym h.0 in ((subst (λ ds. ArgsDeclared ds args) same f.0, subst (λ ds. ResultDeclared ds result_for) same f.1), tt)
  names_points (Check number v) ways n d e h f = (subst (λ ds. DeclaresFirst ds (Check number v)) (sym h.0) f, tt)
  names_points (PackedStore number array from v result_for) ways n d e h f = (subst (λ ds. DeclaresFirst ds (PackedStore number array from v result_for)) (sym h.0) f, tt)
  names_points (PackedLoad number array from v result_for) ways n d e h f = (subst (λ ds. DeclaresFirst ds (PackedLoad number array from v result_for)) (sym h.0) f, tt)

pub point_names : (variables : Variables) (m : ℕ) (f : Function) → IsNumbered 0 f.body → IsDeclaredFirst variables m f
    → (number : StepNumber) (point : Point) → HasPoint (points_in f) number point → NamesBefore (declared_before variables m f) number point
point_names variables m f numbered first number point h =
    all_at (NamesBefore (declared_before variables m f)) (points_in f) number point
    (names_points (declared_before variables m f) f.body (function_ways f) 0 (scalar_parameters variables m) numbered (before_steps variables m f) first.body) h
