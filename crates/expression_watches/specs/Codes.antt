-- The codes of a watched text that are kept, by the numbers of the steps of the function where it was set.
use Rattle.std.specs.Prelude.{◌≡◌, ⊤, ℕ, Bool, true, false, List, Option, Some, None, slice_index_or, Vec}
use Rattle.std.specs.Global.{Global}
use Rattle.gang_types.specs.declared.places.Spot.{Spot}
use Rattle.gang_model.specs.Types.Tree.{Expr, Program}
use Rattle.expression_instructions.specs.declared.code.Instruction.{Instruction}
use Rattle.expression_watches.specs.declared.codes.KeptCode.{KeptCode}
use Rattle.expression_watches.specs.declared.codes.KeptCode.TheVariants as kept
use Rattle.expression_watches.specs.declared.codes.KeptCodes.{KeptCodes}
use Rattle.expression_watches.specs.declared.sights.ExpressionWatch.{ExpressionWatch}
use Rattle.expression_watches.specs.Meanings.{IsCode, meaning_at}

-- what is kept for a step, by its number
abbrev pub kept_at : List KeptCode → (number : ℕ) → KeptCode
kept_at codes number = slice_index_or codes number kept.Unread

-- whether the text has been read for it
abbrev pub is_read : KeptCode → Bool
is_read kept.Unread = false
is_read (kept.Read code) = true

-- the code that is kept, if there is one
abbrev pub code_of : KeptCode → Option (List Instruction)
code_of kept.Unread = None
code_of (kept.Read None) = None
code_of (kept.Read (Some code)) = Some code.items

-- what is kept of a text that is read
abbrev pub read : Option (Vec Instruction Global) → KeptCode
read code = kept.Read code

-- the same is kept for each step
abbrev pub IsSame : (old new : List KeptCode) → Type 0
IsSame old new = (number : ℕ) → kept_at new number ≡ kept_at old number

-- this is kept for a step, and for the others what was kept
pub record IsKeptAt (old : List KeptCode) (number : ℕ) (code : KeptCode) (new : List KeptCode) : Type 0 where
  pub here : kept_at new number ≡ code
  pub others : (other : ℕ) → (other ≡ number → ⊥) → kept_at new other ≡ kept_at old other

-- the step of a number, in the function of another one
abbrev pub step_beside : Spot → (number : ℕ) → Spot
step_beside spot number = record spot { number = number }

-- what is kept for a step is the code of what is meant there, if the text has been read
abbrev pub IsKept : Program → Spot → (meant : Option Expr) → KeptCode → Type 0
IsKept p spot meant kept.Unread = ⊤
IsKept p spot meant (kept.Read code) = IsCode p spot meant code

-- each code that is kept is that of the text at its step of the function where it was set
abbrev pub AreCodes : Program → (set_at : Spot) → (text : List ℕ) → List KeptCode → Type 0
AreCodes p set_at text codes = (number : ℕ) → IsKept p (step_beside set_at number) (meaning_at p set_at (step_beside set_at number) text) (kept_at codes number)

-- the same of the text of a watch
abbrev pub AreCodesOf : Program → ExpressionWatch → KeptCodes → Type 0
AreCodesOf p w kept = AreCodes p w.set_at w.text.items kept.codes.items
