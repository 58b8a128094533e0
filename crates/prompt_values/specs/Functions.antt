-- The functions of a program, as they are listed.
use Rattle.std.specs.Prelude.{ℕ, ◌++◌, codes, flat_map, List, [], Option, Some, None, pos, if◌then◌else◌}
use Rattle.std.specs.Fmt.{signed_decimal}
use Rattle.std.specs.List.{list_any}
use Rattle.gang_model.specs.Texts.Text.{Bytes}
use Rattle.gang_model.specs.Types.Tree.{Program}
use Rattle.prompt_lines.specs.Heads.{Head, function_head, has_part}
use Rattle.prompt_texts.specs.Shown.{masked}

-- a line: the number of a head's line, and the head
abbrev pub head_line : Option Head → Bytes
head_line None = []
head_line (Some head) = signed_decimal (pos head.line) ++ codes ": " ++ masked head.text ++ codes "\n"

-- a line for a function, where a part stands in its name
abbrev pub function_line : (part source : List ℕ) → (name : List ℕ) → Bytes
function_line part source name = if has_part part name then head_line (function_head source name) else []

-- a line for each function of a program whose name has a part, in the order of the source
abbrev pub functions_lines : (part source : List ℕ) → Program → Bytes
functions_lines part source p = flat_map (λ f. function_line part source f.name) p.functions

-- the same, or that there is no such function
abbrev pub functions_text : (part source : List ℕ) → Program → Bytes
functions_text part source p = if list_any (λ f. has_part part f.name) p.functions then functions_lines part source p else codes "no function\n"
