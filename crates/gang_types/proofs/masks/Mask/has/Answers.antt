use Rattle.std.proofs.Common.{◌∙◌, sym, arith, false, ◌≡◌, nat_lt}
use Rattle.std.proofs.lemmas.Bool.Decides.{nat_tests}
use Rattle.gang_types.specs.MaskLaws.{has-lanes_of_word, has-lanes_of_word_past}
use Rattle.gang_types.proofs.masks.Mask.has.Goals as goal

pub returns-then-lane : goal.returns-then-lane
returns-then-lane g c = sym (has-lanes_of_word g.row.W c.args.self.word c.args.lane c.if-lane.true)

pub returns-else-lane : goal.returns-else-lane
returns-else-lane g c =
    let past : nat_lt c.args.lane g.row.W ≡ false = grind (arith, nat_tests) in
    past ∙ sym (has-lanes_of_word_past g.row.W c.args.self.word c.args.lane c.if-lane.false)
