use Rattle.std.proofs.Common.{◌≡◌, ◌<◌, ◌-◌, suc, length, ap, sym, ◌∙◌, arith}
use Rattle.prompt_lines.specs.Heads.{stands_at}
use Rattle.prompt_lines.specs.Sources.{first_place}
use Rattle.prompt_lines.proofs.Places.{passed}
use Rattle.prompt_lines.proofs.heads.has_part.Goals as goal

pub loop-place-init : goal.loop-place-init
loop-place-init c =
    let all : suc (length c.args.name.now) ≡ suc (length c.args.name.now) - 0 = omega arith in
    ap (λ n. first_place (stands_at c.args.part.now c.args.name.now) n 0) all

pub loop-place-preserved : goal.loop-place-preserved
loop-place-preserved c =
    let test = stands_at c.args.part.now c.args.name.now in
    let l = c.loop-place in
    let inside : l.place < suc (length c.args.name.now) = omega (arith, c.loop-place-test.true) in
    l.invariant ∙ passed test (suc (length c.args.name.now)) l.place inside (sym c.stands_at.ensures ∙ c.if-stands_at.false)
