use Rattle.std.proofs.Common.{◌+◌, ◌-◌, refl, sym, ap, ◌∙◌, subst, arith}
use Rattle.std.specs.Prelude.{IfSome, Ok}
use Rattle.gang_types.specs.Lanes.{lowest}
use Rattle.gang_types.specs.LaneLaws.{lowest_has}
use Rattle.gang_types.specs.Masks.{lanes_of}
use Rattle.gang_model.specs.Running.Lanes.{at}
use Rattle.machine_words.specs.Arrays.{IsFirstPast}
use Rattle.machine_words.specs.Views.{view_view}
use Rattle.machine_words.proofs.ViewParts.{none_of, part_missing, part_there}
use Rattle.machine_words.proofs.views.part_from.Goals as goal

pub returns-in-Some-clause-part : goal.returns-in-Some-clause-part
returns-in-Some-clause-part g c = λ from state is.
    let lanes = lanes_of g.row.W c.args.mask in
    let first = subst (λ o. IfSome o (IsFirstPast c.args.view.len lanes c.args.indices.now)) c.in-Some.is c.first_past.ensures.found in
    sym (part_missing lanes (view_view c.args.view) from state c.args.indices.now is c.in-Some.lane first)

pub overflow_add-result : goal.overflow_add-result
overflow_add-result g c =
    let lanes = lanes_of g.row.W c.args.mask in
    let few = c.first_past.ensures.none (none_of c.first_past.result c.in_default.not-Some) (lowest lanes) (lowest_has lanes c.requires.lane) in
    let same = ap (λ k. at c.args.indices.now k) c.lowest.ensures.value in
    omega (arith, few, same, c.requires.small)

pub overflow_sub-result : goal.overflow_sub-result
overflow_sub-result g c =
    let lanes = lanes_of g.row.W c.args.mask in
    let few = c.first_past.ensures.none (none_of c.first_past.result c.in_default.not-Some) (lowest lanes) (lowest_has lanes c.requires.lane) in
    let same = ap (λ k. at c.args.indices.now k) c.lowest.ensures.value in
    omega (arith, few, same)

pub returns-clause-part : goal.returns-clause-part
returns-clause-part g c = λ from state is.
    let lanes = lanes_of g.row.W c.args.mask in
    let view = view_view c.args.view in
    let same = ap (λ k. at c.args.indices.now k) c.lowest.ensures.value in
    ap (λ n. Ok (record view { first = view.first + n; len = view.len - n })) same
    ∙ sym (part_there lanes view from state c.args.indices.now is (c.first_past.ensures.none (none_of c.first_past.result c.in_default.not-Some)))

pub returns-clause-inside : goal.returns-clause-inside
returns-clause-inside g c =
    let lanes = lanes_of g.row.W c.args.mask in
    let few = c.first_past.ensures.none (none_of c.first_past.result c.in_default.not-Some) (lowest lanes) (lowest_has lanes c.requires.lane) in
    let same = ap (λ k. at c.args.indices.now k) c.lowest.ensures.value in
    (refl, omega (arith, few, same))
