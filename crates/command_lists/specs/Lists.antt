-- Commands that are done one after another.
use Rattle.std.specs.Prelude.{◌≡◌, List, [], ◌∷◌}
use Rattle.gang_model.specs.Debugger.Debugger.{Command, Debugger, Reply, Setting}
use Rattle.debug_session.specs.declared.session.Session.{Session}
use Rattle.debug_session.specs.Sessions.{MayReply, StandsFor}

-- where commands lead, one after another: each is replied to, and the next one is done from there; one that sets a value may find no memory
abbrev pub Leads : Setting → List Command → Debugger → Debugger → Type 0
Leads s [] d e = e ≡ d
Leads s (c ∷ cs) d e = (r : Reply) × MayReply s c d r × Leads s cs r.next e

-- a session that stood for a debugger has done these commands and nothing else
pub record HasDone {M : Type 0} (stands : M → Setting → Debugger → Type 0) (s : Setting) (cs : List Command) (d : Debugger) (session : Session M) : Type 0 where
  pub after : Debugger
  pub leads : Leads s cs d after
  pub there : StandsFor stands session s after
