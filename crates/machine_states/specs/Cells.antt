-- How many words a step sets at most, and a program's steps.
use Rattle.std.specs.Prelude.{ℕ, ◌+◌, ◌*◌, List, [], ◌∷◌, length, max}
use Rattle.gang_model.specs.Types.Tree.{Return, Check, PackedStore, PackedLoad, Program}
use Rattle.mask_states.specs.Points.{Point, Put, Go, Branch, Choose, Begin, Turn, Enter, points_in}

-- A scalar, the numbers of the steps that lanes wait for, and each parameter of a call have at most a word for each lane. A `return`
-- also sets which lanes have returned, and a call the function, its lanes, those of them that have returned, that no form is under way,
-- and the number of frames.
-- The foreach forms, of at most three dimensions, also set their counters.
abbrev pub words_set : (width : ℕ) → Point → ℕ
words_set width (Put (Return number e) next) = 2 * width + 1
words_set width (Put (Check number e) next) = width
words_set width (Put (PackedStore number array from e result_for) next) = 3 * width + 1
words_set width (Put (PackedLoad number array from x result_for) next) = 3 * width + 1
words_set width (Put s next) = 2 * width
words_set width (Go next) = width
words_set width (Branch test yes' no') = width
words_set width (Choose selector segments entries next) = width
words_set width (Begin form rounds next) = 3 * width + 11
words_set width (Turn body) = 4 * width + 3
words_set width (Enter function args result_for next) = length args * width + width + 5

-- leaving a frame: its result in a variable or in the frame below, with which lanes have returned; the numbers of the lanes of the call;
-- and the number of frames
abbrev pub words_left : (width : ℕ) → ℕ
words_left width = 2 * width + 2

-- the greatest of a number for each item
abbrev pub greatest : {A : Type 0} → (A → ℕ) → List A → ℕ
greatest number [] = 0
greatest number (x ∷ xs) = max (number x) (greatest number xs)

-- the most words that one event of a program sets, a poke among them
abbrev pub cells_of : (width : ℕ) → Program → ℕ
cells_of width p = max (words_left width) (greatest (λ f. greatest (words_set width) (points_in f)) p.functions)
