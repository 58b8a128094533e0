-- Breakpoints as they are given are those of the definitions.
use Rattle.std.proofs.Common.{◌≡◌, refl, ap, ◌∙◌, ℕ, Bool, true, false, List, [], ◌∷◌, None, Some}
use Rattle.std.specs.Prelude.{◌==◌, ◌&&◌, ◌||◌}
use Rattle.std.specs.List.{list_any}
use Rattle.gang_model.specs.Debugger.Debugger as model
use Rattle.gang_model.specs.Debugger.Debugger.{Setting, on_line}
use Rattle.debug_answers.specs.declared.stops.NumberedStop.{NumberedStop}
use Rattle.debug_answers.specs.declared.stops.Stop.{Stop}
use Rattle.debug_answers.specs.declared.stops.Stop.TheVariants as stop
use Rattle.debug_answers.specs.Meanings.{AreStops, IsStop}
use Rattle.log_points.specs.Writing.{is_among, is_line}

line_is : (s : Setting) (line : ℕ) (given : Stop) (meant : model.Stop) → IsStop s given meant → is_line line given ≡ on_line (Some line) meant
line_is s line (stop.Line own) (model.Line l) h = ap (λ n. line == n) h
line_is s line (stop.Line own) (model.Watch target v) h = absurd h
line_is s line (stop.Watch variable at) (model.Line l) h = absurd h
line_is s line (stop.Watch variable at) (model.Watch target v) h = refl

-- one of them is the breakpoint of a number on a line
pub among_is : (s : Setting) (number line : ℕ) (given : List NumberedStop) (meant : List (ℕ × model.Stop)) → AreStops s given meant
    → is_among number line given ≡ list_any (λ entry. (entry.0 == number) && on_line (Some line) entry.1) meant
among_is s number line [] [] h = refl
among_is s number line [] (m ∷ ms) h = absurd h
among_is s number line (x ∷ xs) [] h = absurd h
among_is s number line (x ∷ xs) (m ∷ ms) (same, is, others) =
    ap (λ n. ((n == number) && is_line line x.stop) || is_among number line xs) same
    ∙ ap (λ b. ((m.0 == number) && b) || is_among number line xs) (line_is s line x.stop m.1 is)
    ∙ ap (λ r. ((m.0 == number) && on_line (Some line) m.1) || r) (among_is s number line xs ms others)

no_line : (b : Bool) (stop : model.Stop) → (b && on_line None stop) ≡ false
no_line true (model.Line l) = refl
no_line true (model.Watch target v) = refl
no_line false stop = refl

-- none is where there is no line
pub nowhere : (number : ℕ) (stops : List (ℕ × model.Stop)) → list_any (λ entry. (entry.0 == number) && on_line None entry.1) stops ≡ false
nowhere number [] = refl
nowhere number (m ∷ ms) = ap (λ b. b || list_any (λ entry. (entry.0 == number) && on_line None entry.1) ms) (no_line (m.0 == number) m.1) ∙ nowhere number ms
