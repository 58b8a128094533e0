-- What may stand at a place, with the functions whose calls may stand there.
use Rattle.std.specs.Prelude.{List}
use Rattle.gang_model.specs.Source.Parsed.{Name}
use Rattle.gang_model.specs.Names.NameFaults.{Allowed}
use Rattle.ispc_names_expressions.specs.declared.allowed.Allowed.{Allowed as May}

-- in a source with functions of these names
abbrev pub allowed_view : List Name → May → Allowed
allowed_view functions may =
    record { functions = functions; breaks = may.breaks; continues = may.continues; returns = may.returns; domains = may.domains }
