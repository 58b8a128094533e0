-- What the bindings of names declare, by a table of declarations.
use Rattle.std.specs.Prelude.{List, [], ◌∷◌}
use Rattle.gang_model.specs.Names.Scope.{Environment}
use Rattle.gang_model.specs.Types.Typing as typing
use Rattle.type_check_scopes.specs.declared.entries.Declared.{Declared}
use Rattle.type_check_scopes.specs.Entries.{declared_view}

-- each binding with its declaration, both the innermost first
abbrev pub entries_of : Environment → List Declared → List typing.Entry
entries_of [] ds = []
entries_of (b ∷ environment) [] = []
entries_of (b ∷ environment) (d ∷ ds) = declared_view b.name d ∷ entries_of environment ds
