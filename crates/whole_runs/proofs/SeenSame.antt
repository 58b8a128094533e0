-- What is told of variables after the same events.
use Rattle.std.proofs.Common.{◌≡◌, subst, ℕ, List, Option, Some, None}
use Rattle.gang_model.specs.Types.Tree.{Variable}
use Rattle.gang_model.specs.Debugger.Debugger.{Debugger, Setting}
use Rattle.debug_traits.specs.declared.machine.NamedVariable.{NamedVariable}
use Rattle.debug_traits.specs.declared.machine.NextLocal.{NextLocal}
use Rattle.debug_traits.specs.declared.machine.Shown.{Shown}
use Rattle.debug_traits.specs.Beginnings.{with_events}
use Rattle.debug_traits.specs.Frames.{IsShownAt, ShowsNextAt}
use Rattle.debug_traits.specs.Machines.{ShowsNamed, ShowsNext}
use Rattle.whole_runs.specs.Pokes.{IsShownIn}
use Rattle.whole_runs.proofs.TakenBack.{shown_same}

module _ (s : Setting) (d e : Debugger) (same : d.events ≡ e.events) where
  pub named_same : (o : Option Variable) (given : Option NamedVariable) → ShowsNamed s d o given → ShowsNamed s e o given
  named_same None None shows = tt
  named_same None (Some given) shows = absurd shows
  named_same (Some v) None shows = absurd shows
  named_same (Some v) (Some given) shows = (shows.0, shown_same s d e v given.shown same shows.1)

  pub next_same : (from : ℕ → List Variable) (place : ℕ) (given : Option NextLocal) → ShowsNext s d from place given → ShowsNext s e from place given
  next_same from place None shows = shows
  next_same from place (Some local) shows = (shows.0, shows.1, named_same (Some shows.0) (Some local.variable) shows.2)

  pub shown_at_same : (deep : ℕ) (v : Variable) (shown : Shown) → IsShownAt s d deep v shown → IsShownAt s e deep v shown
  shown_at_same deep v shown i =
      let at : IsShownAt s (with_events d.events 0 0 d) deep v shown = record { there = i.there; id = i.id; type = i.type; rate = i.rate; is_array = i.is_array; is_constant = i.is_constant; count = i.count } in
      let j = subst (λ events. IsShownAt s (with_events events 0 0 d) deep v shown) same at in
      record { there = j.there; id = j.id; type = j.type; rate = j.rate; is_array = j.is_array; is_constant = j.is_constant; count = j.count }

  pub shown_in_same : (depth : Option ℕ) (v : Variable) (shown : Shown) → IsShownIn depth s d v shown → IsShownIn depth s e v shown
  shown_in_same None v shown is = shown_same s d e v shown same is
  shown_in_same (Some deep) v shown is = shown_at_same deep v shown is

  pub next_at_same : (deep : ℕ) (from : ℕ → List Variable) (place : ℕ) (given : Option NextLocal) → ShowsNextAt s d deep from place given → ShowsNextAt s e deep from place given
  next_at_same deep from place None shows = shows
  next_at_same deep from place (Some local) shows = (shows.0, shows.1, (shows.2.0, shown_at_same deep shows.0 local.variable.shown shows.2.1))
