-- The instructions of an expression.
use Rattle.std.specs.Prelude.{◌≡◌, Bool, true, false, List, [], ◌∷◌, ◌++◌, length}
use Rattle.typed_tree.specs.declared.expressions.Expr.{Expr, Number, ProgramIndex, ProgramCount, LaneMask, Read, Element', Unary', Binary', Convert', AndAlso', OrElse', Choice', Reduce', ScanLanes', OfOne', OfTwo', Extract', Insert', Rotate', Shift', Shuffle', ShuffleTwo', Select'}
use Rattle.expression_instructions.specs.declared.code.Leaf.TheVariants as leaf
use Rattle.expression_instructions.specs.declared.code.OneOperand.TheVariants as one
use Rattle.expression_instructions.specs.declared.code.Move.TheVariants as move
use Rattle.expression_instructions.specs.declared.code.TwoOperands.TheVariants as two
use Rattle.expression_instructions.specs.declared.code.ThreeOperands.TheVariants as three
use Rattle.expression_instructions.specs.declared.code.Gate.{Gate}
use Rattle.expression_instructions.specs.declared.code.Gate.TheVariants.{WhereTrue, WhereFalse, Otherwise}
use Rattle.expression_instructions.specs.declared.code.Joining.TheVariants.{Both, Either, Choice}
use Rattle.expression_instructions.specs.declared.code.Instruction.{Instruction}
use Rattle.expression_instructions.specs.declared.code.Instruction.TheVariants.{Push, Element, One, Two, Three, Enter, Join}

-- a part behind its gate
abbrev pub arm_code : Gate → List Instruction → List Instruction
arm_code gate part = Enter gate (length part) ∷ part

abbrev pub code_of : Expr → List Instruction
code_of (Number n) = Push (leaf.Number n) ∷ []
code_of ProgramIndex = Push leaf.ProgramIndex ∷ []
code_of ProgramCount = Push leaf.ProgramCount ∷ []
code_of LaneMask = Push leaf.LaneMask ∷ []
code_of (Read v) = Push (leaf.Read v) ∷ []
code_of (Element' array p i) = code_of i ++ Element array ∷ []
code_of (Unary' op ty p a) = code_of a ++ One (one.Unary op ty) ∷ []
code_of (Binary' op ty p a q b) = code_of a ++ (code_of b ++ Two (two.Binary op ty) ∷ [])
code_of (Convert' from to p a) = code_of a ++ One (one.Convert from to) ∷ []
code_of (AndAlso' p a q b) = code_of a ++ (arm_code WhereTrue (code_of b) ++ Join Both ∷ [])
code_of (OrElse' p a q b) = code_of a ++ (arm_code WhereFalse (code_of b) ++ Join Either ∷ [])
code_of (Choice' p c q a r b) = code_of c ++ (arm_code WhereTrue (code_of a) ++ (arm_code Otherwise (code_of b) ++ Join Choice ∷ []))
code_of (Reduce' f ty p a) = code_of a ++ One (one.Reduce f ty) ∷ []
code_of (ScanLanes' f ty p a) = code_of a ++ One (one.ScanLanes f ty) ∷ []
code_of (OfOne' f ty p a) = code_of a ++ One (one.OfOne f ty) ∷ []
code_of (OfTwo' f ty p a q b) = code_of a ++ (code_of b ++ Two (two.OfTwo f ty) ∷ [])
code_of (Extract' p a q i) = code_of a ++ (code_of i ++ Two two.Pick ∷ [])
code_of (Insert' p a q i r x) = code_of a ++ (code_of i ++ (code_of x ++ Three three.Insert ∷ []))
code_of (Rotate' p a q n) = code_of a ++ (code_of n ++ Two (two.Move move.Rotate) ∷ [])
code_of (Shift' p a q n) = code_of a ++ (code_of n ++ Two (two.Move move.Shift) ∷ [])
code_of (Shuffle' p a q i) = code_of a ++ (code_of i ++ Two two.Pick ∷ [])
code_of (ShuffleTwo' p a q b r i) = code_of a ++ (code_of b ++ (code_of i ++ Three three.PickOfTwo ∷ []))
code_of (Select' p c q a r b) = code_of c ++ (code_of a ++ (code_of b ++ Three three.Select ∷ []))

-- ---- which operations take their operands whole

abbrev pub takes_one : Expr → Bool
takes_one (Unary' op ty p a) = true
takes_one (Convert' from to p a) = true
takes_one (Reduce' f ty p a) = true
takes_one (ScanLanes' f ty p a) = true
takes_one (OfOne' f ty p a) = true
takes_one _ = false

abbrev pub takes_two : Expr → Bool
takes_two (Binary' op ty p a q b) = true
takes_two (OfTwo' f ty p a q b) = true
takes_two (Extract' p a q i) = true
takes_two (Rotate' p a q n) = true
takes_two (Shift' p a q n) = true
takes_two (Shuffle' p a q i) = true
takes_two _ = false

abbrev pub takes_three : Expr → Bool
takes_three (Insert' p a q i r x) = true
takes_three (ShuffleTwo' p a q b r i) = true
takes_three (Select' p c q a r b) = true
takes_three _ = false

-- no such operation
pub record IsOther (e : Expr) : Type 0 where
  pub not_one : takes_one e ≡ false
  pub not_two : takes_two e ≡ false
  pub not_three : takes_three e ≡ false
