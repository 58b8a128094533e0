use Rattle.std.proofs.Common.{◌≤◌, arith, length}
use Rattle.gang_model.specs.Debugger.Debugger.{now}
use Rattle.gang_machine.proofs.TopDepth.{finds_top}
use Rattle.gang_machine.proofs.machine.MachineRecordedMachine.find.Goals as goal

pub returns : goal.returns
returns g c s d stands =
    let few : length (now s d).frames ≤ c.top.result = omega (arith, c.top.ensures s d stands) in
    finds_top s d c.top.result few c.args.name.now c.named_in.result (c.named_in.ensures s d stands)
