use Rattle.std.proofs.Common.{refl, subst, sym}
use Rattle.log_points.specs.Points.{log_of, written_of}
use Rattle.log_points.specs.Texts.{Adds}
use Rattle.log_points.specs.Writing.{WritesBy}
use Rattle.log_points.proofs.writing.write_counted.Goals as goal

pub returns-then-counts : goal.returns-then-counts
returns-then-counts g c s d st = (
  c.counts.result,
  c.counts.ensures s d st,
  subst (λ b. WritesBy b s d (log_of c.args.point.now) (written_of c.args.written.now) (written_of c.add.new.written)) (sym c.if-counts.true)
      (subst (λ message. Adds s d message (written_of c.args.written.now) (written_of c.add.new.written)) c.as_str.ensures.value (c.add.ensures s d st)),
)

pub returns-else-counts : goal.returns-else-counts
returns-else-counts g c s d st =
    (c.counts.result, c.counts.ensures s d st, subst (λ b. WritesBy b s d (log_of c.args.point.now) (written_of c.args.written.now) (written_of c.args.written.now)) (sym c.if-counts.false) refl)
