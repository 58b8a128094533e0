use Rattle.std.proofs.Common.{◌≡◌, ◌+◌, ◌-◌, ◌<◌, ◌≤◌, sym, ◌∙◌, ap, arith}
use Rattle.std.specs.Prelude.{Ok, Err}
use Rattle.gang_types.specs.declared.faults.FaultName.TheVariants.{Index}
use Rattle.gang_types.specs.Masks.{lanes_of}
use Rattle.cross_lane.specs.AttemptLaws.{fault_at}
use Rattle.gang_memory.proofs.PartViews.{part_there, part_missing}
use Rattle.gang_memory.proofs.parts.part_from.Goals as goal

pub returns-then-index-whole : goal.returns-then-index-whole
returns-then-index-whole g c base view from state lies is =
    let lanes = lanes_of g.row.W c.args.mask in
    let outside : view.len < c.args.index = omega (arith, lies.1, c.if-index-whole.true) in
    ap (λ k. Err (fault_at k Index)) c.lowest.ensures.value ∙ sym (part_missing lanes c.requires.lane view from state c.args.index is outside)

pub returns : goal.returns
returns g c base view from state lies is =
    let lanes = lanes_of g.row.W c.args.mask in
    let inside : c.args.index ≤ view.len = omega (arith, lies.1, c.if-index-whole.false) in
    let first : c.args.whole.first + c.args.index - base ≡ view.first + c.args.index = omega (arith, lies.0) in
    let long : c.args.whole.len - c.args.index ≡ view.len - c.args.index = ap (λ n. n - c.args.index) lies.1 in
    ap (λ n. Ok (record view { first = n; len = c.args.whole.len - c.args.index })) first
    ∙ ap (λ n. Ok (record view { first = view.first + c.args.index; len = n })) long
    ∙ sym (part_there lanes c.requires.lane view from state c.args.index is inside)
