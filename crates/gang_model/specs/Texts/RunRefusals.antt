-- Why a run is refused, and the text that says so (choices of this project).
use Rattle.std.specs.Prelude.{◌++◌, Some, None, codes, decimal}
use Rattle.gang_model.specs.declared.refusals.SourceRefusal.{SourceRefusal}
use Rattle.gang_model.specs.declared.refusals.RefusalNumber.{RefusalNumber}
use Rattle.gang_model.specs.declared.refusals.RefusalNumber.TheVariants.{S1, S2, S3, S4, S5, S6, S7, S8, S9, S10, S11, S12, S13}
use Rattle.gang_model.specs.Texts.InputText.{InputRefusal, BadLine, Missing, Range, TooLarge}
use Rattle.gang_model.specs.Texts.Text.{Bytes, line, line_and_column}

-- why a run is refused; NoScript where the source and the commands are read as one text and no line parts them
pub data RunRefusal : Type 0 where
  FromSource : SourceRefusal → RunRefusal
  NoEntry NoScript : RunRefusal
  FromInput : InputRefusal → RunRefusal
  Memory : RunRefusal

-- a source refusal's number and name
abbrev pub source_text : RefusalNumber → Bytes
source_text S1 = codes "S1 BadByte"
source_text S2 = codes "S2 BadNumber"
source_text S3 = codes "S3 Unexpected"
source_text S4 = codes "S4 TooDeep"
source_text S5 = codes "S5 UnknownName"
source_text S6 = codes "S6 Duplicate"
source_text S7 = codes "S7 Rate"
source_text S8 = codes "S8 Type"
source_text S9 = codes "S9 NoOverload"
source_text S10 = codes "S10 Ambiguous"
source_text S11 = codes "S11 BadControl"
source_text S12 = codes "S12 NestedCall"
source_text S13 = codes "S13 Limit"

-- an input refusal, with its line if it has one
abbrev pub input_text : InputRefusal → Bytes
input_text (BadLine n) = codes "input " ++ decimal n ++ codes ": I1 BadLine"
input_text (Missing name) = codes "input: I2 Missing " ++ name
input_text (Range n) = codes "input " ++ decimal n ++ codes ": I3 Range"
input_text (TooLarge (Some n)) = codes "input " ++ decimal n ++ codes ": I4 TooLarge"
input_text (TooLarge None) = codes "input: I4 TooLarge"

-- the line that says why a run is refused
abbrev pub run_refusal_text : RunRefusal → Bytes
run_refusal_text (FromSource refusal) = line (line_and_column refusal.place ++ codes ": " ++ source_text refusal.number)
run_refusal_text NoEntry = line (codes "entry: E1 NoEntry")
run_refusal_text NoScript = line (codes "script: E2 NoScript")
run_refusal_text (FromInput refusal) = line (input_text refusal)
run_refusal_text Memory = line (codes "memory")
