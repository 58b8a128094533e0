-- The words before a name, where they fit what is declared there.
use Rattle.std.specs.Prelude.{Bool, not, ◌||◌, ◌&&◌, Some, None, if◌then◌else◌}
use Rattle.gang_model.specs.declared.forms.Spec.{Spec}
use Rattle.ispc_lexer.specs.Options.{◌>>=◌}
use Rattle.ispc_parser_words.specs.Words.{spec_at}
use Rattle.ispc_parser_shared.specs.Front.{Reader}

abbrev pub is_local : Spec → Bool
is_local s = not (s.is_exported || s.is_static || s.is_inline)

-- the words before the name of a variable of a function
unfoldable pub local_spec_of : Reader Spec
local_spec_of ts = spec_at ts >>= λ s. if is_local s.0 then Some s else None

-- no function and no variable has both `const` and `export` or `inline`
abbrev pub is_outer : Spec → Bool
is_outer s = not (s.is_constant && (s.is_exported || s.is_inline))

-- the words before the name of a function or a file-scope variable
unfoldable pub outer_spec_of : Reader Spec
outer_spec_of ts = spec_at ts >>= λ s. if is_outer s.0 then Some s else None
