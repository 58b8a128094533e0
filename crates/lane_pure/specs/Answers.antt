-- Which functions of a source are lane-pure, as answers in the order of its functions.
use Rattle.std.specs.Prelude.{◌≡◌, ◌↔◌, ℕ, Bool, true, IsTrue, List, length, Some, slice_get}
use Rattle.gang_model.specs.Source.Parsed.{ParsedSource, functions_in}
use Rattle.gang_model.specs.Types.Tree.{Program}
use Rattle.gang_model.specs.Running.LanePure.{IsLanePure}
use Rattle.gang_model.specs.Running.SeparateInstances.{HasSeparateLanes}

-- an answer for each function of a source: yes exactly for those that are lane-pure, whose lanes are instances of their own
pub record AreAnswers (source : ParsedSource) (p : Program) (answers : List Bool) : Type 0 where
  pub all : length answers ≡ length (functions_in source)
  pub exact : (n : ℕ) (is : Bool) → slice_get answers n ≡ Some is → (IsTrue is ↔ IsLanePure source p n)
  pub separate : (n : ℕ) → slice_get answers n ≡ Some true → HasSeparateLanes source n
