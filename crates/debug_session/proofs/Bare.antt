-- What can be shown of a variable does not depend on breakpoints and watches.
use Rattle.gang_model.specs.Types.Tree.{Variable}
use Rattle.gang_model.specs.Debugger.Debugger.{Debugger, Setting}
use Rattle.debug_traits.specs.declared.machine.Shown.{Shown}
use Rattle.debug_traits.specs.Machines.{IsShown}
use Rattle.debug_session.specs.Sessions.{bare}

pub to_bare : (s : Setting) (d : Debugger) (v : Variable) (shown : Shown) → IsShown s d v shown → IsShown s (bare d) v shown
to_bare s d v shown h = record { there = h.there; id = h.id; type = h.type; rate = h.rate; is_array = h.is_array; is_constant = h.is_constant; count = h.count }

pub of_bare : (s : Setting) (d : Debugger) (v : Variable) (shown : Shown) → IsShown s (bare d) v shown → IsShown s d v shown
of_bare s d v shown h = record { there = h.there; id = h.id; type = h.type; rate = h.rate; is_array = h.is_array; is_constant = h.is_constant; count = h.count }
