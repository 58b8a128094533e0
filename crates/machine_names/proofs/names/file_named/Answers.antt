use Rattle.std.proofs.Common.{◌≡◌, ◌<◌, ◌∙◌, length, refl, sym, subst, Some, arith}
use Rattle.std.proofs.lemmas.List.{length-map}
use Rattle.std.proofs.lemmas.Option.{slice_get_read, slice_get_within}
use Rattle.std.specs.Prelude.{map}
use Rattle.typed_tree.specs.declared.program.Global.{Global}
use Rattle.typed_tree.specs.Views.{global_view}
use Rattle.machine_names.specs.Found.{IsSeen, SeesFound, file_variables}
use Rattle.machine_names.proofs.FirstNamed.{get_mapped}
use Rattle.machine_names.proofs.names.file_named.Goals as goal

pub bounds-globals-number : goal.bounds-globals-number
bounds-globals-number g c =
    let gs = c.args.globals.now in
    let (v, is, get) = c.in_ok-number.ensures in
    let below = slice_get_within (file_variables gs) c.in_ok-number.number v get in
    let long = length-map (map global_view gs) (λ g. g.variable) ∙ length-map gs global_view in
    omega (arith, below, long)

pub returns : goal.returns
returns g c =
    let gs = c.args.globals.now in
    let n = c.in_ok-number.number in
    let x = c.index-globals-number.result in
    let (v, is, get) = c.in_ok-number.ensures in
    let below : n < length gs = (let inside = slice_get_within (file_variables gs) n v get in let long = length-map (map global_view gs) (λ g. g.variable) ∙ length-map gs global_view in omega (arith, inside, long)) in
    let here = get_mapped (λ g. g.variable) (map global_view gs) n (global_view x) (get_mapped global_view gs n x (slice_get_read gs (length gs) n x refl below c.index-globals-number.is)) in
    let same : Some (global_view x).variable ≡ Some v = sym here ∙ get in
    subst (λ o. SeesFound g.row.W o (Some c.shown.result)) (same ∙ sym is)
    (subst (λ (y : Global). IsSeen g.row.W (global_view y).variable c.shown.result) (sym c.index-globals-number.is) c.shown.ensures)
