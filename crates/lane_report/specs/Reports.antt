-- The report of a source: for each function, in order, a line that says whether it is lane-pure (the text is a choice of this
-- project).
use Rattle.std.specs.Prelude.{◌≡◌, ℕ, ◌<◌, Bool, true, false, List, [], ◌∷◌, ◌++◌, length, take, Option, Some, codes}
use Rattle.std.specs.Io.KnownBytes.{Appends}
use Rattle.gang_model.specs.Source.Parsed.{ParsedFunction, ParsedSource, functions_in}
use Rattle.gang_model.specs.Source.Sources.{ReadsAs}
use Rattle.gang_model.specs.Types.Tree.{Program}
use Rattle.gang_model.specs.Types.Resolved.{program_of}
use Rattle.gang_model.specs.Types.SourceRefusals.{IsAccepted}
use Rattle.gang_model.specs.Texts.Text.{Bytes, line, line_and_column}
use Rattle.lane_pure.specs.Answers.{AreAnswers}
use Rattle.transcript.specs.declared.answering.Ending.{Ending}
use Rattle.transcript.specs.declared.answering.Ending.TheVariants.{EndOfCommands, WriteFault}

-- ---- lines

abbrev pub answer_text : Bool → Bytes
answer_text true = codes "yes"
answer_text false = codes "no"

-- lane-pure LINE:COL NAME: yes, or no
abbrev pub function_line : ParsedFunction → (is_pure : Bool) → Bytes
function_line f is_pure = line (codes "lane-pure " ++ line_and_column f.at ++ codes " " ++ f.name ++ codes ": " ++ answer_text is_pure)

-- a line for each function with its answer
abbrev pub function_lines : List ParsedFunction → List Bool → Bytes
function_lines (f ∷ functions) (is_pure ∷ answers) = function_line f is_pure ++ function_lines functions answers
function_lines functions answers = []

-- ---- the report

-- the report of a text without faults of names and types
pub record IsReport (text out : Bytes) : Type 0 where
  pub source : ParsedSource
  pub reads : ReadsAs text source
  pub accepted : IsAccepted source
  pub program : Program
  pub program_is : program_of source ≡ Some program
  pub answers : List Bool
  pub are_answers : AreAnswers source program answers
  pub lines : out ≡ function_lines (functions_in source) answers

-- the whole report was written; or a front of it, and then the writer failed
abbrev pub Tells : (out : Bytes) → Ending → (old new : Option Bytes) → (failed : Bool) → Type 0
Tells out EndOfCommands old new failed = Appends old new out × (failed ≡ false)
Tells out WriteFault old new failed = (k : ℕ) × (k < length out) × Appends old new (take k out) × (failed ≡ true)
Tells out ending old new failed = ⊥
