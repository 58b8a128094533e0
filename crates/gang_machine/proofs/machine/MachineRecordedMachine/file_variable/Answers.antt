use Rattle.std.proofs.Common.{◌≤◌, arith, inr, length, sym, subst}
use Rattle.std.specs.Prelude.{map}
use Rattle.gang_model.specs.Debugger.Debugger.{now}
use Rattle.typed_tree.specs.Views.{global_view}
use Rattle.machine_shown.proofs.Viewed.{read_at}
use Rattle.machine_names.specs.Found.{file_variables}
use Rattle.machine_names.proofs.FirstNamed.{get_mapped}
use Rattle.gang_machine.specs.Standings.{Stands}
use Rattle.gang_machine.proofs.Finding.{shows_file}
use Rattle.gang_machine.proofs.Seeing.{file_here}
use Rattle.gang_machine.proofs.TopDepth.{named_top}
use Rattle.gang_machine.proofs.machine.MachineRecordedMachine.file_variable.Goals as goal

pub returns-clause-shown : goal.returns-clause-shown
returns-clause-shown g c s d stands =
    let m = c.self.inside in
    let gs = m.compiled.program.globals.items in
    let n = c.args.number in
    let x = c.in_ok-global.global.now in
    let here = subst (λ m. Stands m s d) (sym c.self.view_is) stands in
    let l = c.in_ok-global.ensures.lookup in
    let get = get_mapped (λ g. g.variable) (map global_view gs) n (global_view x) (get_mapped global_view gs n x (read_at gs c.deref.result.now n x c.deref.ensures.value l.3.0 l.1)) in
    let few : length (now s d).frames ≤ c.top.result = omega (arith, c.top.ensures s d stands) in
    shows_file s d (file_variables gs) (file_here g.T.Timeline.history g.row.W m.entry m.compiled m.lines.items m.words c.self.invariant s d here) n (global_view x).variable c.counted_by_name.result get
    (λ there. named_top s d c.top.result few (global_view x).variable c.counted_by_name.result (c.counted_by_name.ensures.shown s d (global_view x).variable stands (inr there) c.named.ensures))

pub returns-clause-few : goal.returns-clause-few
returns-clause-few g c scalar = c.counted_by_name.ensures.few (global_view c.in_ok-global.global.now).variable c.named.ensures scalar
