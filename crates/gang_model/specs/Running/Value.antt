-- The value of an expression for the lanes that evaluate it, or its first fault: operands from left to right, then the operation;
-- arms and right sides for the lanes that need them alone. A uniform expression has its value in each of these lanes.
-- (ISPC User's Guide, "Expressions"; the order of evaluation and the faults are a choice of this project.)
use Rattle.std.specs.Prelude.{ℕ, ◌+◌, not, ◌&&◌, ◌||◌, ◌==◌, nat_lt, List, ◌++◌, length, pos, ◌+ℤ◌, Result, Ok, Err, if◌then◌else◌}
use Rattle.gang_types.specs.declared.types.IntType.TheVariants as t
use Rattle.gang_types.specs.declared.faults.FaultName.{FaultName}
use Rattle.gang_types.specs.declared.faults.FaultName.TheVariants.{Index}
use Rattle.gang_types.specs.Values.{value_of, unary_of, binary_result, converted}
use Rattle.gang_types.specs.Lanes.{Lanes, lanes_where}
use Rattle.gang_model.specs.Running.Lanes.{Fault, ◌>>=◌, each, try_each, at, holds, truth_word}
use Rattle.gang_model.specs.Running.Library.{reduced, lane_value, turned, value_at, bits_from, scanned, before_lane, of_one, of_two}
use Rattle.gang_model.specs.Types.Tree.{Expr, Number, ProgramIndex, ProgramCount, LaneMask, Read, Element, Unary, Binary, Convert, And, Or, Choice, Reduce, Scan, OfOne, OfTwo, Extract, Insert, Rotate, Shift, Shuffle, ShuffleTwo, Select}
use Rattle.gang_model.specs.Running.State.{State, View, view_of, words_in, words_of, seen}

-- the element at an index of a part of an array; a fault outside 0 to its length less 1 (a word of a negative index is too large)
abbrev pub element : State → View → ℕ → Result ℕ FaultName
element state view i = if nat_lt i view.len then Ok (at (words_of state.memory view.array) (view.first + i)) else Err Index

-- the words of an expression in the lanes that evaluate it, 0 in the others, or its first fault
abbrev pub value : Expr → Lanes → State → Result (List ℕ) Fault
value (Number n) lanes state = Ok (each lanes (λ k. n))
value ProgramIndex lanes state = Ok (each lanes (λ k. k))
value ProgramCount lanes state = Ok (each lanes (λ k. length lanes))
value LaneMask lanes state = Ok (each lanes (λ k. bits_from 0 (each lanes (λ j. 1))))
value (Read v) lanes state = Ok (seen v.rate lanes (words_in state v.id))
value (Element array index) lanes state = do
  i ← value index lanes state
  try_each lanes (λ k. element state (view_of state array) (at i k))
value (Unary op type a) lanes state = do
  x ← value a lanes state
  Ok (each lanes (λ k. unary_of op type (at x k)))
value (Binary op type a b) lanes state = do
  x ← value a lanes state
  y ← value b lanes state
  try_each lanes (λ k. binary_result op type (at x k) (at y k))
value (Convert from to a) lanes state = do
  x ← value a lanes state
  Ok (each lanes (λ k. converted from to (at x k)))
value (And a b) lanes state = do
  x ← value a lanes state
  y ← value b (lanes_where lanes (holds x)) state
  Ok (each lanes (λ k. truth_word (holds x k && holds y k)))
value (Or a b) lanes state = do
  x ← value a lanes state
  y ← value b (lanes_where lanes (λ k. not (holds x k))) state
  Ok (each lanes (λ k. truth_word (holds x k || holds y k)))
value (Choice test a b) lanes state = do
  c ← value test lanes state
  x ← value a (lanes_where lanes (holds c)) state
  y ← value b (lanes_where lanes (λ k. not (holds c k))) state
  Ok (each lanes (λ k. if holds c k then at x k else at y k))
value (Select test a b) lanes state = do
  c ← value test lanes state
  x ← value a lanes state
  y ← value b lanes state
  Ok (each lanes (λ k. if holds c k then at x k else at y k))
value (Reduce f type a) lanes state = do
  x ← value a lanes state
  Ok (each lanes (λ k. reduced f type lanes x))
value (Scan f type a) lanes state = do
  x ← value a lanes state
  Ok (each lanes (λ k. scanned f type (before_lane k lanes x)))
value (OfOne f type a) lanes state = do
  x ← value a lanes state
  Ok (each lanes (λ k. of_one f type (at x k)))
value (OfTwo f type a b) lanes state = do
  x ← value a lanes state
  y ← value b lanes state
  Ok (each lanes (λ k. of_two f type (at x k) (at y k)))
value (Extract a index) lanes state = do
  x ← value a lanes state
  i ← value index lanes state
  try_each lanes (λ k. lane_value x (at i k))
value (Insert a index new) lanes state = do
  x ← value a lanes state
  i ← value index lanes state
  y ← value new lanes state
  checked ← try_each lanes (λ k. lane_value x (at i k))
  Ok (each lanes (λ k. if k == at i k then at y k else at x k))
value (Rotate a by) lanes state = do
  x ← value a lanes state
  n ← value by lanes state
  Ok (each lanes (λ k. at x (turned lanes (value_of t.Int32 (at n k)) k)))
value (Shift a by) lanes state = do
  x ← value a lanes state
  n ← value by lanes state
  Ok (each lanes (λ k. value_at x (pos k +ℤ value_of t.Int32 (at n k))))
value (Shuffle a places) lanes state = do
  x ← value a lanes state
  p ← value places lanes state
  try_each lanes (λ k. lane_value x (at p k))
value (ShuffleTwo a b places) lanes state = do
  x ← value a lanes state
  y ← value b lanes state
  p ← value places lanes state
  try_each lanes (λ k. lane_value (x ++ y) (at p k))
