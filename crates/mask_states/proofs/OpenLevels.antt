-- No form that is over stands among closed levels.
use Rattle.std.proofs.Common.{◌≡◌, sym, ap, ◌∙◌, ◌≤◌, Bool, true, false, List, [], ◌∷◌, length, eq-eqb, arith}
use Rattle.std.specs.Prelude.{◌==◌, ◌&&◌, if◌then◌else◌}
use Rattle.mask_states.specs.Masked.{Level, next_in, no_turn, is_over, closed}
use Rattle.mask_states.proofs.OwnTasks.{by_bool}

-- a form that is over is closed, another one stays
pub over_form : (level next : Level) (below : List Level) → is_over level ≡ true → closed (level ∷ next ∷ below) ≡ closed (next ∷ below)
over_form level next below h = ap (λ b. if b then closed (next ∷ below) else level ∷ next ∷ below) h

pub open_form : (level next : Level) (below : List Level) → is_over level ≡ false → closed (level ∷ next ∷ below) ≡ level ∷ next ∷ below
open_form level next below h = ap (λ b. if b then closed (next ∷ below) else level ∷ next ∷ below) h

-- closing puts no level
pub length-closed : (levels : List Level) → length (closed levels) ≤ length levels
length-closed [] = omega arith
length-closed (level ∷ []) = omega arith
length-closed (level ∷ next ∷ below) = by_bool (is_over level)
    (λ h. omega (arith, ap length (over_form level next below h), length-closed (next ∷ below)))
    (λ h. omega (arith, ap length (open_form level next below h)))

both : (a b : Bool) → a ≡ true → b ≡ true → (a && b) ≡ true
both a b h k = ap (λ x. x && b) h ∙ k

-- a form without a round or a lane's step to come is over
pub nothing_to_come : (level : Level) → level.turns ≡ [] → next_in level ≡ level.end → is_over level ≡ true
nothing_to_come level h e = both (no_turn level.turns) (next_in level == level.end) (ap no_turn h) (eq-eqb (next_in level) level.end e)

-- a form that has levels below it has a round or a lane's step to come
pub not_over : (level next : Level) (below : List Level) → closed (level ∷ next ∷ below) ≡ level ∷ next ∷ below → level.turns ≡ [] → next_in level ≡ level.end → ⊥
not_over level next below h none e =
    absurd (omega (arith, ap length (sym h ∙ over_form level next below (nothing_to_come level none e)), length-closed (next ∷ below)))
