-- Each point that enters a function names one that there is.
use Rattle.std.proofs.Common.{◌≡◌, subst, ℕ, zero, suc, List, [], ◌∷◌, ◌++◌, Some}
use Rattle.std.specs.Prelude.{slice_get}
use Rattle.gang_model.specs.Types.Tree.{Stmt, Empty, Then, Declare, Assign, Change, If, Loop, BodyFirst, Break, Continue, Return, Switch, Segment, ForEach, Call, Check, PackedStore, PackedLoad, Function, Program, Arg, ResultFor, StepNumber}
use Rattle.gang_model.specs.Running.Step.{round_number}
use Rattle.mask_states.specs.Points.{Point, Put, Go, Branch, Choose, Begin, Turn, Enter, Ways, before_step, entry_of, body_ways, update_ways, round_ways, points_of, points_in, function_ways}
use Rattle.mask_states.specs.Placed.{HasPoint}
use Rattle.mask_states.specs.Stands.{CallsFound, AreLowerable}

-- a point enters one of the functions, or none
abbrev EnterFound : List Function → Point → Type 0
EnterFound functions (Enter n args result_for next) = (f : Function) × (slice_get functions n ≡ Some f)
EnterFound functions (Put s next) = Unit {0}
EnterFound functions (Go next) = Unit {0}
EnterFound functions (Branch test y n) = Unit {0}
EnterFound functions (Choose e segments entries next) = Unit {0}
EnterFound functions (Begin form rounds next) = Unit {0}
EnterFound functions (Turn body) = Unit {0}

abbrev EntersFound : List Function → List Point → Type 0
EntersFound functions [] = Unit {0}
EntersFound functions (p ∷ ps) = EnterFound functions p × EntersFound functions ps

module _ (functions : List Function) where
  both : (xs ys : List Point) → EntersFound functions xs → EntersFound functions ys → EntersFound functions (xs ++ ys)
  both [] ys a b = b
  both (p ∷ xs) ys a b = (a.0, both xs ys a.1 b)

  found_in : (s : Stmt) (ways : Ways) → CallsFound functions s → EntersFound functions (points_of s ways)
  found_in Empty ways c = tt
  found_in (Then a b) ways c = both (points_of a (before_step (entry_of b ways.next) ways)) (points_of b ways) (found_in a (before_step (entry_of b ways.next) ways) c.0) (found_in b ways c.1)
  found_in (If number e a b) ways c = (tt, both (points_of a ways) (points_of b ways) (found_in a ways c.0) (found_in b ways c.1))
  found_in (Loop number e u b) ways c =
      both (points_of b (body_ways (entry_of u number) ways)) _ (found_in b (body_ways (entry_of u number) ways) c.1)
      (both (points_of u (update_ways number ways)) _ (found_in u (update_ways number ways) c.0) (tt, tt))
  found_in (BodyFirst number e b) ways c = both (points_of b (body_ways number ways)) _ (found_in b (body_ways number ways) c) (tt, tt)
  found_in (Switch number e segments) ways c = (tt, found_in segments (record ways { on_break = Some ways.next }) c)
  found_in (Segment label a b) ways c = both (points_of a (before_step (entry_of b ways.next) ways)) (points_of b ways) (found_in a (before_step (entry_of b ways.next) ways) c.0) (found_in b ways c.1)
  found_in (ForEach number form b) ways c =
      (tt, both (points_of b (round_ways (round_number number b))) _ (found_in b (round_ways (round_number number b)) c) (tt, tt))
  found_in (Call number n args result_for) ways c = (c, tt)
  found_in (Declare number v e) ways c = (tt, tt)
  found_in (Assign number target e) ways c = (tt, tt)
  found_in (Change number target type op in_type e) ways c = (tt, tt)
  found_in (Break number) ways c = (tt, tt)
  found_in (Continue number) ways c = (tt, tt)
  found_in (Return number e) ways c = (tt, tt)
  found_in (Check number e) ways c = (tt, tt)
  found_in (PackedStore number array from e result_for) ways c = (tt, tt)
  found_in (PackedLoad number array from v result_for) ways c = (tt, tt)

  same_point : {A : Type 0} (x y : A) → Some x ≡ Some y → x ≡ y
  same_point x y e = cc

  found_at : (ps : List Point) (number : ℕ) (point : Point) → EntersFound functions ps → HasPoint ps number point → EnterFound functions point
  found_at [] number point a h = absurd cc
  found_at (p ∷ ps) zero point a h = subst (EnterFound functions) (same_point p point h) a.0
  found_at (p ∷ ps) (suc number) point a h = found_at ps number point a.1 h

-- a call's point names a function of the program
pub entered_function : (p : Program) → AreLowerable p → (m : ℕ) (f : Function) → slice_get p.functions m ≡ Some f → (number : StepNumber) (n : ℕ) (args : List Arg) (result_for : ResultFor) (next : StepNumber)
    → HasPoint (points_in f) number (Enter n args result_for next) → (g : Function) × (slice_get p.functions n ≡ Some g)
entered_function p lowerable m f is number n args result_for next h =
    found_at p.functions (points_in f) number (Enter n args result_for next) (found_in p.functions f.body (function_ways f) (lowerable.calls m f is)) h
