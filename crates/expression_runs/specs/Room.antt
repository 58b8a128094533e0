-- The vectors and the masks that the code of an expression keeps at one time.
use Rattle.std.specs.Prelude.{◌≤◌, ℕ, suc, max}
use Rattle.gang_model.specs.Types.Tree.{Expr, Element, Unary, Binary, Convert, And, Or, Choice, Reduce, Scan, OfOne, OfTwo, Extract, Insert, Rotate, Shift, Shuffle, ShuffleTwo, Select}

-- vectors
abbrev pub depth : Expr → ℕ
depth (Element array i) = depth i
depth (Unary op type a) = depth a
depth (Binary op type a b) = max (depth a) (suc (depth b))
depth (Convert from to a) = depth a
depth (And a b) = max (depth a) (suc (depth b))
depth (Or a b) = max (depth a) (suc (depth b))
depth (Choice c a b) = max (depth c) (max (suc (depth a)) (suc (suc (depth b))))
depth (Reduce f type a) = depth a
depth (Scan f type a) = depth a
depth (OfOne f type a) = depth a
depth (OfTwo f type a b) = max (depth a) (suc (depth b))
depth (Extract a i) = max (depth a) (suc (depth i))
depth (Insert a i x) = max (depth a) (max (suc (depth i)) (suc (suc (depth x))))
depth (Rotate a n) = max (depth a) (suc (depth n))
depth (Shift a n) = max (depth a) (suc (depth n))
depth (Shuffle a i) = max (depth a) (suc (depth i))
depth (ShuffleTwo a b i) = max (depth a) (max (suc (depth b)) (suc (suc (depth i))))
depth (Select c a b) = max (depth c) (max (suc (depth a)) (suc (suc (depth b))))
depth _ = 1

-- masks, above the one that the expression is run with
abbrev pub nesting : Expr → ℕ
nesting (Element array i) = nesting i
nesting (Unary op type a) = nesting a
nesting (Binary op type a b) = max (nesting a) (nesting b)
nesting (Convert from to a) = nesting a
nesting (And a b) = max (nesting a) (suc (nesting b))
nesting (Or a b) = max (nesting a) (suc (nesting b))
nesting (Choice c a b) = max (nesting c) (suc (max (nesting a) (nesting b)))
nesting (Reduce f type a) = nesting a
nesting (Scan f type a) = nesting a
nesting (OfOne f type a) = nesting a
nesting (OfTwo f type a b) = max (nesting a) (nesting b)
nesting (Extract a i) = max (nesting a) (nesting i)
nesting (Insert a i x) = max (nesting a) (max (nesting i) (nesting x))
nesting (Rotate a n) = max (nesting a) (nesting n)
nesting (Shift a n) = max (nesting a) (nesting n)
nesting (Shuffle a i) = max (nesting a) (nesting i)
nesting (ShuffleTwo a b i) = max (nesting a) (max (nesting b) (nesting i))
nesting (Select c a b) = max (nesting c) (max (nesting a) (nesting b))
nesting _ = 0

-- there is room for 513 vectors, and for 257 masks with the one that the code is run with
pub record HasRoom (e : Expr) : Type 0 where
  pub few_vectors : depth e ≤ 513
  pub few_masks : nesting e ≤ 256
