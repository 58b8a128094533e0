use Rattle.std.proofs.Common.{◌<◌, length, refl, true, false, arith}
use Rattle.std.proofs.lemmas.Option.{slice_get_read}
use Rattle.std.specs.Prelude.{map}
use Rattle.typed_tree.specs.Views.{global_view}
use Rattle.machine_names.specs.Found.{file_variables}
use Rattle.machine_names.proofs.FirstNamed.{get_mapped, named_first, named_later, same_name}
use Rattle.machine_names.proofs.names.file_number.Goals as goal

pub returns-then-eq : goal.returns-then-eq
returns-then-eq c =
    let gs = c.args.globals.now in
    let i = c.loop-number.number in
    let x = c.index-globals-number.result in
    let below : i < length gs = omega arith in
    let get = get_mapped (λ g. g.variable) (map global_view gs) i (global_view x) (get_mapped global_view gs i x (slice_get_read gs (length gs) i x refl below c.index-globals-number.is)) in
    let same = same_name x.variable.name.items c.as_slice.result.now c.args.name.now true c.as_slice.ensures.value c.if-eq.ensures in
    ((global_view x).variable, named_first c.args.name.now (file_variables gs) i (global_view x).variable get same c.loop-number.invariant, get)

pub loop-number-preserved : goal.loop-number-preserved
loop-number-preserved c =
    let gs = c.args.globals.now in
    let i = c.loop-number.number in
    let x = c.index-globals-number.result in
    let below : i < length gs = omega arith in
    let get = get_mapped (λ g. g.variable) (map global_view gs) i (global_view x) (get_mapped global_view gs i x (slice_get_read gs (length gs) i x refl below c.index-globals-number.is)) in
    let other = same_name x.variable.name.items c.as_slice.result.now c.args.name.now false c.as_slice.ensures.value c.if-eq.ensures in
    named_later c.args.name.now (file_variables gs) i (global_view x).variable get other c.loop-number.invariant
