-- What was printed of a target, and what was printed of an expression, is written as the definition has it.
use Rattle.std.proofs.Common.{List, ℕ, Option, None, Some, inl, inr}
use Rattle.gang_model.specs.Debugger.Debugger.{Target}
use Rattle.gang_model.specs.Texts.Text.{target_text}
use Rattle.value_digits.specs.declared.digits.Digits.{Digits}
use Rattle.prompt_values.specs.declared.numbered.Printed.{Printed}
use Rattle.prompt_values.specs.FormsPrinted.{IsWrittenOf}
use Rattle.prompt_values.specs.Printed.{IsWritten, line_or_none}

module _ (puts : List ℕ → Type 0) (typed : List ℕ) (digits : Digits) where
  pub of_target : (target : Target) (value : Option Printed) → puts (line_or_none (target_text target) digits value) → IsWrittenOf puts (Some target) typed digits value
  of_target target None line = tt
  of_target target (Some value) line = inl line

  pub of_expression : (target : Target) (value : Option Printed) → IsWritten puts typed digits value → IsWrittenOf puts (Some target) typed digits value
  of_expression target None line = tt
  of_expression target (Some value) line = inr line

  pub of_text : (value : Option Printed) → IsWritten puts typed digits value → IsWrittenOf puts None typed digits value
  of_text None line = tt
  of_text (Some value) line = line
