-- no lane before this one is active, and nothing was written
use Rattle.std.proofs.Common.{◌≡◌, ℕ, ◌<◌, [], false}
use Rattle.gang_types.specs.Lanes.{has}
use Rattle.gang_types.specs.Masks.{IsGangWidth, lanes_of}
use Rattle.prompt_texts.specs.Shown.{Puts}
use Rattle.prompt_texts.proofs.expressions.put_one.Given as goal

abbrev pub invariant-loop-lane : goal.invariant-loop-lane
invariant-loop-lane g l =
    Puts [] l.initial.page.has_failed l.page.has_failed (g.O.AnswerWriter.written l.initial.page.writer) (g.O.AnswerWriter.written l.page.writer)
    × (IsGangWidth l.lanes.width → (k : ℕ) → k < l.lane → has (lanes_of l.lanes.width l.lanes.lanes) k ≡ false)
