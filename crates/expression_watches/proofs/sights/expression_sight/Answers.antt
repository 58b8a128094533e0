use Rattle.expression_watches.proofs.sights.expression_sight.Goals as goal

pub returns : goal.returns
returns g c s d stands = c.kept_sight.ensures.sight s d stands (c.new-kept.ensures s.program c.args.watch.now)
