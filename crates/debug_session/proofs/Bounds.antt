-- Moves that take events back.
use Rattle.std.proofs.Common.{◌≡◌, ℕ, ◌<◌, List, ◌∷◌, subst, ◌∙◌, ap}
use Rattle.undo_log.specs.declared.timeline.Undone.{Undone}
use Rattle.undo_log.specs.declared.timeline.Undone.TheVariants.{Poke}
use Rattle.undo_log.specs.History.{Moment, moment, steps_in}

-- where the newest event is a poke, a step is kept before it
pub step_behind : (kind : Undone) (words : List ℕ) (past rest : List Moment) → past ≡ moment kind words ∷ rest → kind ≡ Poke → 0 < steps_in past → 0 < steps_in rest
step_behind kind words past rest is poke some = subst (λ past. 0 < steps_in past) (is ∙ ap (λ kind. moment kind words ∷ rest) poke) some
