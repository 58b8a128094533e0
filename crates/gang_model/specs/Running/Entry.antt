-- The function that a run begins with (ISPC User's Guide, "Functions and Function Calls"; which one is a choice of this project).
use Rattle.std.specs.Prelude.{ℕ, suc, Bool, true, ◌&&◌, List, [], ◌∷◌, Option, Some, None, if◌then◌else◌}
use Rattle.gang_model.specs.Source.Names.{same_text}
use Rattle.gang_model.specs.Source.Parsed.{Name, ParsedSource, ParsedFunction, functions_in}

-- whether a function has the name that is asked for, if one is
abbrev pub is_asked : Option Name → ParsedFunction → Bool
is_asked None f = true
is_asked (Some name) f = same_text f.name name

-- the number of the first function that is exported and asked for, from the n-th on
abbrev pub entry_from : ℕ → Option Name → List ParsedFunction → Option ℕ
entry_from n name [] = None
entry_from n name (f ∷ fs) = if f.spec.is_exported && is_asked name f then Some n else entry_from (suc n) name fs

-- the entry of a source: its first exported function, of the name if one is given
abbrev pub entry_of : ParsedSource → Option Name → Option ℕ
entry_of source name = entry_from 0 name (functions_in source)
