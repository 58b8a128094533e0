-- The innermost declaration of a name.
use Rattle.std.specs.Prelude.{[], ◌∷◌, length, Option, Some, None, if◌then◌else◌}
use Rattle.gang_model.specs.Source.Names.{same_text}
use Rattle.gang_model.specs.Source.Parsed.{Name}
use Rattle.gang_model.specs.Names.Scope.{Environment}
use Rattle.ispc_names_scopes.specs.declared.bindings.Innermost.{Innermost}

-- with how many declarations stand outside it
abbrev pub innermost_of : Environment → Name → Option Innermost
innermost_of [] name = None
innermost_of (b ∷ environment) name =
    if same_text b.name name then Some (record { id = b.id; outside = length environment }) else innermost_of environment name
