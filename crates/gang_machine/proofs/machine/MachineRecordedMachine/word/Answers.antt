use Rattle.std.proofs.Common.{◌≡◌, ◌≤◌, arith, length, slice_index, subst}
use Rattle.gang_model.specs.Debugger.Debugger.{now, shown_words}
use Rattle.gang_machine.proofs.TopDepth.{shown_in, state_top}
use Rattle.gang_machine.proofs.machine.MachineRecordedMachine.word.Goals as goal

pub returns : goal.returns
returns g c s d v stands is below =
    let few : length (now s d).frames ≤ c.top.result = omega (arith, c.top.ensures s d stands) in
    subst (λ state. c.word_in.result ≡ slice_index (shown_words state v) c.args.index) (state_top s d c.top.result few)
    (c.word_in.ensures s d v stands (shown_in s d c.top.result few v c.args.shown is) below)
