use Rattle.std.proofs.Common.{◌∷◌, [], ap}
use Rattle.debug_session.specs.Sessions.{bare}
use Rattle.conditional_stops.proofs.sights.word_or_zero.Goals as goal

pub returns-then-index-shown : goal.returns-then-index-shown
returns-then-index-shown g c s d v st shown = ap (λ word. word ∷ []) (c.word_at.ensures s (bare d) v st shown c.if-index-shown.true)
