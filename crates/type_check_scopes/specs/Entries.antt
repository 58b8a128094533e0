-- What names declare, without where it lies in memory.
use Rattle.std.specs.Prelude.{List, Option, Some, None}
use Rattle.gang_types.specs.declared.types.Rate.{Rate}
use Rattle.gang_model.specs.Source.Parsed.{Name}
use Rattle.gang_model.specs.Types.Tree as tree
use Rattle.gang_model.specs.Types.Typing as typing
use Rattle.typed_tree.specs.Views.{expr_view}
use Rattle.type_check_scopes.specs.declared.entries.BuiltIn.{BuiltIn}
use Rattle.type_check_scopes.specs.declared.entries.Declared.{Declared}
use Rattle.type_check_scopes.specs.declared.entries.Entry.{Entry}

-- a name with what it declares
abbrev pub declared_view : Name → Declared → typing.Entry
declared_view name d = record {
  variable = record { name = name; id = d.id; type = d.value_type; rate = d.rate; is_array = d.is_array; is_parameter = d.is_parameter; is_constant = d.is_constant };
  is_void = d.is_void;
}

abbrev pub entry_view : Entry → typing.Entry
entry_view e = declared_view e.name.now e.declared

-- the expression and the rate of a built-in name
abbrev pub built_in_view : Option BuiltIn → Option (tree.Expr × Rate)
built_in_view None = None
built_in_view (Some e) = Some (expr_view e.expr, e.rate)

-- what is in scope, the innermost declaration first, and the variables of the function by their numbers
pub record Typing : Type 0 where
  pub entries : List typing.Entry
  pub locals : List tree.Variable
