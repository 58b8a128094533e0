use Rattle.std.proofs.Common.{rules, ◌<◌, refl, sym, subst, length}
use Rattle.typed_tree.specs.Views.{function_view}
use Rattle.machine_shown.proofs.Viewed.{read_at, viewed_within}
use Rattle.gang_machine.specs.Nexts.{HasNoFrame, IsPlace}
use Rattle.gang_machine.specs.Standings.{Stands}
use Rattle.gang_machine.proofs.Seeing.{has_no_frame, is_place, shown_here}
use Rattle.gang_machine.proofs.machine.Machine.place.Goals as goal

pub returns-in_err-active-clause-none : goal.returns-in_err-active-clause-none
returns-in_err-active-clause-none g c none s d stands =
    let m = c.self.inside in
    let history = g.T.Timeline.history in
    let here = subst (λ m. Stands m s d) (sym c.self.view_is) stands in
    let shown = shown_here history g.row.W m.entry m.compiled m.lines.items m.words c.self.invariant s d here in
    subst (λ m. HasNoFrame m.seen s d c.args.depth) c.self.view_is
    (has_no_frame history g.row.W m.entry m.compiled m.lines.items m.words c.self.invariant s d here c.args.depth (c.in_err-active.ensures.place _ shown))

pub index-requires : goal.index-requires
index-requires g c =
    let functions = c.self.inside.compiled.program.functions.items in
    let found = c.in_ok-active.ensures.step in
    let within : c.in_ok-active.active.function < length functions = viewed_within function_view functions c.in_ok-active.active.function found.0 found.1.next.is_function in
    search (rules, within)

pub returns-clause-step : goal.returns-clause-step
returns-clause-step g c s d stands =
    let m = c.self.inside in
    let history = g.T.Timeline.history in
    let functions = m.compiled.program.functions.items in
    let active = c.in_ok-active.active in
    let found = c.in_ok-active.ensures.step in
    let here = subst (λ m. Stands m s d) (sym c.self.view_is) stands in
    let shown = shown_here history g.row.W m.entry m.compiled m.lines.items m.words c.self.invariant s d here in
    let within : active.function < length functions = viewed_within function_view functions active.function found.0 found.1.next.is_function in
    let item = read_at functions functions active.function c.index.result.now refl within c.index.ensures in
    subst (λ m. IsPlace m.seen s d c.args.depth c.index.result.now active.step) c.self.view_is
    (is_place history g.row.W m.entry m.compiled m.lines.items m.words c.self.invariant s d here c.args.depth active.function active.step c.index.result.now item (c.in_ok-active.ensures.place _ shown))
