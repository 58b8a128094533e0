use Rattle.std.proofs.Common.{◌≤◌, arith, length}
use Rattle.gang_model.specs.Debugger.Debugger.{now}
use Rattle.machine_names.specs.declared.listing.ListedKind.TheVariants.{Parameters}
use Rattle.gang_machine.proofs.TopDepth.{listed_top, next_listed_top}
use Rattle.gang_machine.proofs.machine.MachineRecordedMachine.next_parameter.Goals as goal

pub returns-clause-all : goal.returns-clause-all
returns-clause-all g c s d stands =
    let few : length (now s d).frames ≤ c.top.result = omega (arith, c.top.ensures s d stands) in
    listed_top s d c.top.result few Parameters c.args.self.now.seen.program.functions.items (c.next_in.ensures.all s d stands)

pub returns-clause-next : goal.returns-clause-next
returns-clause-next g c s d stands =
    let few : length (now s d).frames ≤ c.top.result = omega (arith, c.top.ensures s d stands) in
    next_listed_top s d c.top.result few Parameters c.args.self.now.seen.program.functions.items c.args.from c.next_in.result (c.next_in.ensures.next s d stands)
