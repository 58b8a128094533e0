use Rattle.std.proofs.Common.{rules, ◌≡◌, ◌+◌, length, drop, refl, ap, ◌∙◌, arith, min, sym}
use Rattle.std.proofs.lemmas.List.{take_rest, drop_min}
use Rattle.std.proofs.Math.Nat.{min_comm}
use Rattle.ispc_script.specs.Marks.{IsFirstMark}
use Rattle.ispc_script.proofs.script.split_script.Goals as goal

pub returns-then-is_mark : goal.returns-then-is_mark
returns-then-is_mark c =
    let text = c.args.text.now in
    let i = c.loop-i.i in
    let first : IsFirstMark text i = record { here = sym c.is_mark.ensures ∙ c.if-is_mark.true; first = c.loop-i.invariant } in
    let end : c.min-end.result ≡ min (i + 3) (length text) = search (rules, min_comm) in
    (omega arith, (i, first, refl, take_rest text c.min-end.result ∙ ap (λ m. drop m text) end ∙ drop_min (i + 3) text))
