-- The lines of local variables.
use Rattle.std.proofs.Common.{◌≡◌, refl, ap, ◌∙◌, List, [], ◌∷◌, ◌++◌, Option, Some, None}
use Rattle.std.specs.Prelude.{codes, flat_map}
use Rattle.gang_model.specs.Types.Tree.{Variable}
use Rattle.gang_model.specs.Debugger.Debugger.{Debugger, Setting, now}
use Rattle.gang_model.specs.Texts.Text.{Bytes, line, or_none, shown_line, whole}
use Rattle.debug_traits.specs.declared.machine.NamedVariable.{NamedVariable}
use Rattle.debug_traits.specs.Machines.{IsShown, ShowsNamed}
use Rattle.debug_texts.proofs.Stops.{or_none_line}

-- a line for each variable
abbrev pub lines_of_all : Setting → Debugger → List Variable → Bytes
lines_of_all s d variables = flat_map (λ v. shown_line (now s d) (whole v) v) variables

module _ (s : Setting) (d : Debugger) where
  pub named_none : (v : Option Variable) → ShowsNamed s d v None → v ≡ None
  named_none None named = refl
  named_none (Some v) named = absurd named

  pub named_some : (v : Option Variable) (given : NamedVariable) → ShowsNamed s d v (Some given)
      → (w : Variable) × (v ≡ Some w) × (given.name.now ≡ w.name) × IsShown s d w given.shown
  named_some None given named = absurd named
  named_some (Some v) given named = (v, refl, named.0, named.1)

  -- the lines of one and of the others
  pub lines_at : (variables : List Variable) (v : Variable) (others : List Variable) → variables ≡ v ∷ others → lines_of_all s d variables ≡ shown_line (now s d) (whole v) v ++ lines_of_all s d others
  lines_at variables v others e = ap (lines_of_all s d) e

  pub no_locals : (variables : List Variable) → variables ≡ [] → or_none (lines_of_all s d variables) ≡ line (codes "none")
  no_locals variables e = ap (λ vs. or_none (lines_of_all s d vs)) e

  pub some_locals : (variables : List Variable) (v : Variable) (others : List Variable) → variables ≡ v ∷ others
      → or_none (lines_of_all s d variables) ≡ shown_line (now s d) (whole v) v ++ lines_of_all s d others
  some_locals variables v others e = ap (λ vs. or_none (lines_of_all s d vs)) e ∙ or_none_line _ (lines_of_all s d others)
