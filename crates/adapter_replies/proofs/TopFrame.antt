-- What the frame at the depth of the program shows is what the program shows.
use Rattle.std.proofs.Common.{◌≡◌, sym, subst, ap, ◌∙◌, ℕ, suc, ◌-◌, false, length, drop, Option, Some, None, arith}
use Rattle.std.specs.Prelude.{◌⊎◌, nat_lt, max, if◌then◌else◌}
use Rattle.std.proofs.lemmas.Bool.Decides.{nat_tests}
use Rattle.gang_model.specs.Types.Tree.{Program, Variable}
use Rattle.gang_model.specs.Running.State.{State}
use Rattle.gang_model.specs.Debugger.Positions.{call_at, scope_now, scope_of, spot_now, standing_of}
use Rattle.gang_model.specs.Debugger.Debugger.{Debugger, Setting, depth, now, shown_words}
use Rattle.debug_traits.specs.declared.machine.NamedVariable.{NamedVariable}
use Rattle.debug_traits.specs.declared.machine.Shown.{Shown}
use Rattle.debug_traits.specs.Frames.{IsShownAt, scope_at, state_at}
use Rattle.debug_traits.specs.Machines.{IsOneOf, IsShown, ShowsNamed, file_variables}
use Rattle.adapter_replies.specs.Variables.{ShowsOptionAt}

pub top_state : (state : State) → state_at (depth state) state ≡ state
top_state state =
    let none : length state.frames - max 1 (length state.frames) ≡ 0 = omega arith in
    ap (λ n. record state { frames = drop n state.frames }) none

not_below : (n : ℕ) → nat_lt (max 1 n) n ≡ false
not_below n = grind (arith, nat_tests)

top_scope : (p : Program) (state : State) → scope_at p (depth state) state ≡ scope_now p state
top_scope p state = ap (λ b. scope_of (standing_of p (if b then call_at (suc (depth state)) state.frames else spot_now p state))) (not_below (length state.frames))

pub top_shown : (s : Setting) (d : Debugger) (v : Variable) (shown : Shown) → IsShown s d v shown → IsShownAt s d (depth (now s d)) v shown
top_shown s d v shown is = record {
  there = subst (λ scope. IsOneOf scope v ⊎ IsOneOf (file_variables s) v) (sym (top_scope s.program (now s d))) is.there;
  id = is.id;
  type = is.type;
  rate = is.rate;
  is_array = is.is_array;
  is_constant = is.is_constant;
  count = ap (λ state. length (shown_words state v)) (top_state (now s d)) ∙ is.count;
}

pub shows_top : (s : Setting) (d : Debugger) (top : ℕ) (v : Option Variable) (given : Option NamedVariable) → top ≡ depth (now s d) → ShowsNamed s d v given → ShowsOptionAt s d top v given
shows_top s d top None None is shows = tt
shows_top s d top None (Some given) is shows = absurd shows
shows_top s d top (Some v) None is shows = absurd shows
shows_top s d top (Some v) (Some given) is (named, shown) = (named, subst (λ deep. IsShownAt s d deep v given.shown) (sym is) (top_shown s d v given.shown shown))
