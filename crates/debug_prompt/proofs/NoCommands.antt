-- A command line that spells no command: nothing is done.
use Rattle.std.proofs.Common.{◌≡◌, refl, sym, subst}
use Rattle.std.specs.Prelude.{◌==◌, Bool, true, false, length, Option, None, if◌then◌else◌}
use Rattle.gang_model.specs.Debugger.Debugger.{Command, Debugger, Setting}
use Rattle.conditional_stops.specs.declared.going.Direction.{Direction}
use Rattle.conditional_stops.specs.Tables.{is_nothing}
use Rattle.debug_session.specs.declared.session.Session.{Session}
use Rattle.debug_session.specs.Sessions.{StandsFor}
use Rattle.prompt_scenes.specs.Holding.{Held}
use Rattle.prompt_going.specs.GoingOn.{DoesOwn, DoesTyped, walks_by}

-- it goes neither way
neither : (b : Bool) (none : Option Direction) → (if b then none else none) ≡ none
neither true none = refl
neither false none = refl

-- nothing is done for it
pub no_command : {M : Type 0} (stands : M → Setting → Debugger → Type 0) (s : Setting) (d : Debugger) (h : Held) (session : Session M) (command : Option Command)
    → command ≡ None → StandsFor stands session s d → DoesTyped stands s d h command (walks_by h command) session h
no_command stands s d h session command is st =
    subst (λ (c : Option Command). DoesTyped stands s d h c (walks_by h c) session h) (sym is)
    (subst (λ (way : Option Direction). DoesTyped stands s d h None way session h) (sym (neither (length h.frames == 0) None))
    (subst (λ (way : Option Direction). DoesOwn stands s d h None way session h) (sym (neither (is_nothing h.table) None))
    (record { after = d; leads = refl; there = st }, refl)))
