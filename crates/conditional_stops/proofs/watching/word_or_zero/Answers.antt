use Rattle.debug_session.proofs.Bare.{to_bare}
use Rattle.conditional_stops.proofs.watching.word_or_zero.Goals as goal

pub returns-then-index-shown : goal.returns-then-index-shown
returns-then-index-shown g c s d v st shown = c.word.ensures s _ v st (to_bare s d v c.args.shown shown) c.if-index-shown.true
