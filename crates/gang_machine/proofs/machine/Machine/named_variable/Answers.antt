use Rattle.std.proofs.Common.{sym, subst, None}
use Rattle.gang_model.specs.Source.Names.{named}
use Rattle.machine_names.specs.Found.{SeesFound, file_variables}
use Rattle.gang_machine.specs.Nexts.{Sees}
use Rattle.gang_machine.proofs.Finding.{SeesLocal, sees_file, sees_local, sees_scope}
use Rattle.gang_machine.proofs.machine.Machine.named_variable.Goals as goal
use Rattle.gang_machine.proofs.machine.Machine.named_variable.Goals.{in-Some, in-None}

pub returns-in-Some-local : goal.returns-in-Some-local
returns-in-Some-local g c s d stands =
    let name = c.args.name.now in
    let there : SeesLocal g.row.W (file_variables c.args.self.now.seen.program.globals.items) s d c.args.depth name c.match-place.local =
    elim c.match-place.branch [
      | in-Some w ↦ sees_local g.row.W _ _ s d c.args.depth name _ c.match-place.local (w.in-Some.ensures.step s d stands).sees w.local_named-local.ensures w.local-is
      | in-None w ↦ sees_local g.row.W _ _ s d c.args.depth name None c.match-place.local (c.place.ensures.none w.in-None.is s d stands).sees tt w.local-is
    ] in
    sees_scope g.row.W there.0 _ s d c.args.depth there.1 name c.in-Some-local.shown (subst (SeesFound g.row.W (named name there.0)) c.in-Some-local.is there.2)

pub returns-in-None-local : goal.returns-in-None-local
returns-in-None-local g c s d stands =
    let name = c.args.name.now in
    let there : SeesLocal g.row.W (file_variables c.args.self.now.seen.program.globals.items) s d c.args.depth name c.match-place.local =
    elim c.match-place.branch [
      | in-Some w ↦ sees_local g.row.W _ _ s d c.args.depth name _ c.match-place.local (w.in-Some.ensures.step s d stands).sees w.local_named-local.ensures w.local-is
      | in-None w ↦ sees_local g.row.W _ _ s d c.args.depth name None c.match-place.local (c.place.ensures.none w.in-None.is s d stands).sees tt w.local-is
    ] in
    let sees = subst (λ m. Sees there.0 (file_variables m.seen.program.globals.items) s d c.args.depth) (sym c.self.view_is) there.1 in
    sees_file g.row.W there.0 _ s d c.args.depth sees name c.file_named.result (subst (SeesFound g.row.W (named name there.0)) c.in-None-local.is there.2)
    (subst (λ gs. SeesFound g.row.W (named name (file_variables gs)) c.file_named.result) c.deref.ensures.value c.file_named.ensures)
