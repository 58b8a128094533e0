-- Rows and refusals of an input, as the definitions have them.
use Rattle.std.specs.Prelude.{◌≡◌, List, Result, Ok, Err, Vec}
use Rattle.std.specs.Global.{Global}
use Rattle.gang_model.specs.Debugger.Events.{Row}
use Rattle.gang_model.specs.Types.Tree.{Variable}
use Rattle.gang_model.specs.Texts.InputText as text
use Rattle.input_rows.specs.declared.row.InputRow.{InputRow}
use Rattle.input_rows.specs.Rows.{AreRows}
use Rattle.debug_inputs.specs.declared.fault.InputFault.{InputFault}
use Rattle.debug_inputs.specs.declared.fault.InputFault.TheVariants.{BadLine, Missing, Range, TooLarge, Memory}

-- the refusal is this one; out of memory says nothing
abbrev pub IsRefusedBy : {A : Type 0} → InputFault → Result A text.InputRefusal → Type 0
IsRefusedBy (BadLine line) answer = answer ≡ Err (text.BadLine line)
IsRefusedBy (Missing name) answer = answer ≡ Err (text.Missing name.items)
IsRefusedBy (Range line) answer = answer ≡ Err (text.Range line)
IsRefusedBy (TooLarge line) answer = answer ≡ Err (text.TooLarge line)
IsRefusedBy Memory answer = Unit {0}

-- the rows are those of the definition, or the refusal is its first one
abbrev pub AnswersInput : Result (List Row) text.InputRefusal → Result (Vec InputRow Global) InputFault → Type 0
AnswersInput answer (Ok inputs) = (rows : List Row) × (answer ≡ Ok rows) × AreRows rows inputs.items
AnswersInput answer (Err fault) = IsRefusedBy fault answer

-- a variable's row of the definition, which has this number and these words, or its refusal
abbrev pub AnswersRow : Variable → Result Row text.InputRefusal → Result InputRow InputFault → Type 0
AnswersRow v answer (Ok input) = (v.id ≡ input.var) × (answer ≡ Ok (record { variable = v; words = input.values.items }))
AnswersRow v answer (Err fault) = IsRefusedBy fault answer
