use Rattle.gang_machine.proofs.Finding.{finds}
use Rattle.gang_machine.proofs.machine.Machine.named_in.Goals as goal

pub returns : goal.returns
returns g c s d stands =
    finds g.row.W s d c.args.depth c.args.name.now c.in_ok-shown.shown c.counted.result (c.in_ok-shown.ensures s d stands)
    (λ v there seen. c.counted.ensures.shown s d v stands there seen)
