use Rattle.std.proofs.Common.{refl, subst, sym, ◌∙◌}
use Rattle.debug_session.specs.Sessions.{bare}
use Rattle.conditional_stops.specs.Views.{table_of}
use Rattle.log_points.specs.Points.{log_of, written_of}
use Rattle.log_points.specs.Writing.{WritesIf}
use Rattle.log_points.proofs.writing.write_one.Goals as goal

pub returns-then-is_here : goal.returns-then-is_here
returns-then-is_here g c s d st =
    let machine = subst (λ m. g.M.RecordedMachine.stands m s (bare d)) (sym c.machine.ensures) st.there in
    subst (λ b. WritesIf b s d (log_of c.args.point.now) (table_of c.args.terms.now) (written_of c.args.written.now) (table_of c.write_counted.new.terms) (written_of c.write_counted.new.written))
    (sym c.if-is_here.true ∙ c.is_here.ensures s d st) (c.write_counted.ensures s d machine)

pub returns-else-is_here : goal.returns-else-is_here
returns-else-is_here g c s d st =
    subst (λ b. WritesIf b s d (log_of c.args.point.now) (table_of c.args.terms.now) (written_of c.args.written.now) (table_of c.args.terms.now) (written_of c.args.written.now))
    (sym c.if-is_here.false ∙ c.is_here.ensures s d st) (refl, refl)
