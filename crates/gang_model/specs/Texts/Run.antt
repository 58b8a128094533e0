-- What a run of a source comes to: why it is refused, or what it writes. The source is tested first, then the entry, then the
-- input (a choice of this project). What it writes is the one transcript without an answer C12.
use Rattle.std.specs.Prelude.{ℕ, List, Option, Some, None, Result, Ok, Err}
use Rattle.gang_model.specs.declared.refusals.SourceRefusal.{SourceRefusal}
use Rattle.gang_model.specs.Source.Parsed.{Name, ParsedSource}
use Rattle.gang_model.specs.Types.Tree.{Program}
use Rattle.gang_model.specs.Types.Resolved.{program_of}
use Rattle.gang_model.specs.Types.SourceRefusals.{first_refusal, refusal_of}
use Rattle.gang_model.specs.Source.Limits.{limit_refusal}
use Rattle.gang_model.specs.Running.Entry.{entry_of}
use Rattle.gang_model.specs.Debugger.Events.{Row}
use Rattle.gang_model.specs.Texts.InputText.{InputRefusal, rows_of}
use Rattle.gang_model.specs.Texts.RunRefusals.{RunRefusal, FromSource, NoEntry, FromInput}
use Rattle.gang_model.specs.Texts.Transcript.{Options, lines_of, transcript}
use Rattle.gang_model.specs.Texts.Text.{Bytes}

-- the refusal of a source by its names, its types, or its variables and array words, in this order
abbrev pub source_refusal : ParsedSource → Option SourceRefusal
source_refusal source = first_refusal (refusal_of source) (limit_refusal source)

-- what a run writes once it has the rows of the input, or the input's refusal
abbrev pub run_with_rows : Program → (entry : ℕ) → Result (List Row) InputRefusal → Options → (commands : Bytes) → Result Bytes RunRefusal
run_with_rows p entry (Err refusal) options commands = Err (FromInput refusal)
run_with_rows p entry (Ok rows) options commands = Ok (transcript p entry rows options (lines_of commands))

-- what a run comes to once it has a program and an entry; a source without a refusal has a program
abbrev pub run_with_entry : Option Program → Option ℕ → (input : Bytes) → Options → (commands : Bytes) → Result Bytes RunRefusal
run_with_entry (Some p) (Some entry) input options commands = run_with_rows p entry (rows_of p entry input) options commands
run_with_entry program entry input options commands = Err NoEntry

-- what a run comes to, unless the source is refused
abbrev pub run_unless : Option SourceRefusal → ParsedSource → Option Name → (input : Bytes) → Options → (commands : Bytes) → Result Bytes RunRefusal
run_unless (Some refusal) source asked input options commands = Err (FromSource refusal)
run_unless None source asked input options commands = run_with_entry (program_of source) (entry_of source asked) input options commands

-- what a run of a source comes to, by the name of the entry if one is asked for, the input, the options and the commands
abbrev pub run_of : ParsedSource → Option Name → (input : Bytes) → Options → (commands : Bytes) → Result Bytes RunRefusal
run_of source asked input options commands = run_unless (source_refusal source) source asked input options commands
