-- Going over breakpoints and watches one by one.
use Rattle.std.proofs.Common.{◌≡◌, refl, subst, ap, ◌∙◌, ℕ, ◌+◌, ◌<◌, ◌≤◌, Bool, false, List, [], ◌∷◌, length, get_or, drop, Some, None}
use Rattle.std.specs.Prelude.{if◌then◌else◌}
use Rattle.std.proofs.lemmas.List.{at_drop_more, at_drop_all}
use Rattle.gang_model.specs.Debugger.Debugger as model
use Rattle.gang_model.specs.Debugger.Debugger.{Setting, first_stop, on_line}
use Rattle.debug_answers.specs.declared.stops.NumberedStop.{NumberedStop}
use Rattle.debug_answers.specs.Meanings.{AreStops, IsStop}

-- the first breakpoint or watch means the first one of the definitions
pub record Turn (s : Setting) (x : NumberedStop) (stops : List NumberedStop) (meant : List (ℕ × model.Stop)) : Type 0 where
  pub entry : ℕ × model.Stop
  pub rest : List (ℕ × model.Stop)
  pub is : meant ≡ entry ∷ rest
  pub number : x.number ≡ entry.0
  pub stop : IsStop s x.stop entry.1
  pub others : AreStops s stops rest

first_turn : (s : Setting) (x : NumberedStop) (stops : List NumberedStop) (meant : List (ℕ × model.Stop)) → AreStops s (x ∷ stops) meant → Turn s x stops meant
first_turn s x stops [] h = absurd h
first_turn s x stops (entry ∷ rest) h = record { entry = entry; rest = rest; is = refl; number = h.0; stop = h.1; others = h.2 }

pub turn : (s : Setting) (stops : List NumberedStop) (k : ℕ) (x : NumberedStop) (meant : List (ℕ × model.Stop)) → k < length stops → AreStops s (drop k stops) meant → Turn s (get_or stops k x) (drop (k + 1) stops) meant
turn s stops k x meant inside h =
    first_turn s (get_or stops k x) (drop (k + 1) stops) meant (subst (λ xs. AreStops s xs meant) (at_drop_more (λ xs. xs) stops k x inside) h)

none_left : (s : Setting) (meant : List (ℕ × model.Stop)) → AreStops s [] meant → meant ≡ []
none_left s [] h = refl
none_left s (entry ∷ rest) h = absurd h

-- nothing is left at the end
pub turns_end : (s : Setting) (stops : List NumberedStop) (k : ℕ) (meant : List (ℕ × model.Stop)) → length stops ≤ k → AreStops s (drop k stops) meant → meant ≡ []
turns_end s stops k meant past h = none_left s meant (subst (λ xs. AreStops s xs meant) (at_drop_all (λ xs. xs) stops k past) h)

-- a test on the first one
pub first_stop_at : (test : model.Stop → Bool) (meant : List (ℕ × model.Stop)) (entry : ℕ × model.Stop) (rest : List (ℕ × model.Stop)) (b : Bool) → meant ≡ entry ∷ rest → test entry.1 ≡ b → first_stop test meant ≡ (if b then Some entry.0 else first_stop test rest)
first_stop_at test meant entry rest b is e = ap (first_stop test) is ∙ ap (λ b. if b then Some entry.0 else first_stop test rest) e

no_line : (stop : model.Stop) → on_line None stop ≡ false
no_line (model.Line l) = refl
no_line (model.Watch target v) = refl

-- no breakpoint is where there is no line
pub first_nowhere : (meant : List (ℕ × model.Stop)) → first_stop (on_line None) meant ≡ None
first_nowhere [] = refl
first_nowhere (entry ∷ rest) = first_stop_at (on_line None) (entry ∷ rest) entry rest false refl (no_line entry.1) ∙ first_nowhere rest
