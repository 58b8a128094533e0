-- What is declared, under its name.
use Rattle.std.proofs.Common.{◌≡◌, [], ap}
use Rattle.std.specs.Prelude.{Bool}
use Rattle.gang_types.specs.declared.types.IntType.{IntType}
use Rattle.gang_types.specs.declared.types.Rate.{Rate}
use Rattle.gang_types.specs.declared.places.VarId.{VarId}
use Rattle.gang_model.specs.declared.forms.Spec.{Spec}
use Rattle.gang_model.specs.Source.Parsed.{Name}
use Rattle.gang_model.specs.Types.Typing.{Entry, declared, index_entry}
use Rattle.type_check_scopes.specs.declared.entries.Declared.{Declared}
use Rattle.type_check_scopes.specs.Entries.{declared_view}

abbrev renamed : Name → Entry → Entry
renamed name n = record {
  variable = record { name = name; id = n.variable.id; type = n.variable.type; rate = n.variable.rate; is_array = n.variable.is_array; is_parameter = n.variable.is_parameter; is_constant = n.variable.is_constant };
  is_void = n.is_void;
}

pub index-named : (name : Name) (d : Declared) (id : VarId) (type : IntType) (rate : Rate) → declared_view [] d ≡ index_entry [] id type rate → declared_view name d ≡ index_entry name id type rate
index-named name d id type rate e = ap (renamed name) e

pub index-id : (d : Declared) (id : VarId) (type : IntType) (rate : Rate) → declared_view [] d ≡ index_entry [] id type rate → d.id ≡ id
index-id d id type rate e = ap (λ (n : Entry). n.variable.id) e

pub declared-named : (name : Name) (d : Declared) (id : VarId) (spec : Spec) (is_array is_parameter : Bool) → declared_view [] d ≡ declared [] id spec is_array is_parameter
    → declared_view name d ≡ declared name id spec is_array is_parameter
declared-named name d id spec is_array is_parameter e = ap (renamed name) e

pub declared-id : (d : Declared) (id : VarId) (spec : Spec) (is_array is_parameter : Bool) → declared_view [] d ≡ declared [] id spec is_array is_parameter → d.id ≡ id
declared-id d id spec is_array is_parameter e = ap (λ (n : Entry). n.variable.id) e
