-- Lines as they are read, as the definitions have them.
use Rattle.std.specs.Prelude.{ℕ, List, Option, Some, None}
use Rattle.std.specs.Borrow.{Bor}
use Rattle.debug_commands.specs.LineWords.{texts}
use Rattle.prompt_lines.specs.declared.line.PromptLine.{PromptLine}
use Rattle.prompt_lines.specs.declared.fronts.FullWord as fronts
use Rattle.prompt_lines.specs.declared.table.Row as declared
use Rattle.prompt_lines.specs.Fronts.{FullWord}
use Rattle.prompt_lines.specs.Words.{Row, Spelled}

-- a line as it is read
abbrev pub spelled : PromptLine → Spelled
spelled line = record { kind = line.kind; text = line.text.items }

-- a row of the table
abbrev pub row_view : declared.Row → Row
row_view row = record { words = texts row.0.now; kind = row.1; own = row.2.now }

-- a word with its fronts
abbrev pub full_view : fronts.FullWord → FullWord
full_view full = record { word = full.0.now; kind = full.1; own = full.2.now }

-- the bytes of a text that may be there
abbrev pub bytes_option : Option (Bor (List ℕ)) → Option (List ℕ)
bytes_option None = None
bytes_option (Some text) = Some text.now

-- a line that may be found
abbrev pub spelled_option : Option PromptLine → Option Spelled
spelled_option None = None
spelled_option (Some line) = Some (spelled line)
