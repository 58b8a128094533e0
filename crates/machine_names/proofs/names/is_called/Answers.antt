use Rattle.std.proofs.Common.{refl, ap, ◌∙◌, sym, length}
use Rattle.std.proofs.lemmas.Option.{slice_get_read}
use Rattle.gang_model.specs.Source.Names.{same_text}
use Rattle.typed_tree.specs.Views.{variable_view}
use Rattle.machine_names.proofs.FirstNamed.{get_mapped, local_variable, same_name}
use Rattle.machine_names.proofs.names.is_called.Goals as goal

pub returns-in-Some : goal.returns-in-Some
returns-in-Some c =
    let l = c.in-Some.ensures.lookup in
    let v = c.in-Some.variable.now in
    let get = get_mapped variable_view c.args.variables.now c.args.number v (slice_get_read c.args.variables.now (length c.args.variables.now) c.args.number v refl l.3.0 l.1) in
    same_name v.name.items c.as_slice.result.now c.args.name.now c.eq.result c.as_slice.ensures.value c.eq.ensures
    ∙ sym (ap (λ u. same_text u.name c.args.name.now) (local_variable _ c.args.number (variable_view v) get))
