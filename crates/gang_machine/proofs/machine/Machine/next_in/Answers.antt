use Rattle.std.proofs.Common.{subst, sym}
use Rattle.debug_traits.specs.Frames.{ShowsNextAt}
use Rattle.gang_machine.specs.Nexts.{listed_in_frame}
use Rattle.gang_machine.proofs.Finding.{all_listed, none_behind, none_left, none_listed, shows_left}
use Rattle.gang_machine.proofs.machine.Machine.next_in.Goals as goal

pub returns-in_err-function-clause-all : goal.returns-in_err-function-clause-all
returns-in_err-function-clause-all g c s d stands =
    none_listed g.row.W c.args.kind _ s d c.args.depth (c.place.ensures.none c.in_err-function.was s d stands)

pub returns-in_err-function-clause-next : goal.returns-in_err-function-clause-next
returns-in_err-function-clause-next g c s d stands =
    subst (λ r. ShowsNextAt s d c.args.depth (listed_in_frame c.args.kind c.args.self.now.seen s d c.args.depth) c.args.from r) (sym c.from_residual.ensures)
    (none_left g.row.W c.args.kind _ s d c.args.depth c.args.from (c.place.ensures.none c.in_err-function.was s d stands))

pub returns-in_err-listed-clause-all : goal.returns-in_err-listed-clause-all
returns-in_err-listed-clause-all g c s d stands =
    all_listed g.row.W c.args.kind _ s d c.args.depth _ _ (c.in_ok-function.ensures.step s d stands)

pub returns-in_err-listed-clause-next : goal.returns-in_err-listed-clause-next
returns-in_err-listed-clause-next g c s d stands =
    subst (λ r. ShowsNextAt s d c.args.depth (listed_in_frame c.args.kind c.args.self.now.seen s d c.args.depth) c.args.from r) (sym c.from_residual-in_err-listed.ensures)
    (none_behind g.row.W c.args.kind _ s d c.args.depth _ _ c.args.from (c.in_ok-function.ensures.step s d stands) c.in_err-listed.ensures.next)

pub returns-clause-all : goal.returns-clause-all
returns-clause-all g c s d stands =
    all_listed g.row.W c.args.kind _ s d c.args.depth _ _ (c.in_ok-function.ensures.step s d stands)

pub returns-clause-next : goal.returns-clause-next
returns-clause-next g c s d stands =
    shows_left g.row.W c.args.kind _ s d c.args.depth _ _ c.args.from c.in_ok-listed.listed c.counted_by_name.result (c.in_ok-function.ensures.step s d stands) c.in_ok-listed.ensures.next
    (λ v there named. c.counted_by_name.ensures.shown s d v stands there named)
