use Rattle.std.proofs.Common.{subst, sym}
use Rattle.input_rows.specs.Rows.{AreRows}
use Rattle.ispc_debugger.proofs.Inputs.{may_begin}
use Rattle.calls_alone.proofs.programs.machine.Goals as goal

-- the program may begin with the rows that are read
pub machine_with_rows-requires-clause-begins : goal.machine_with_rows-requires-clause-begins
machine_with_rows-requires-clause-begins c =
    let (source, asked, is) = c.requires in
    let (given, read, are) = c.in-Ok.ensures in
    let (f, may) = may_begin source asked c.args.made is c.args.input.now given c.deref.result.now read (subst (AreRows given) (sym c.deref.ensures.value) are) in
    (f, given, may)
