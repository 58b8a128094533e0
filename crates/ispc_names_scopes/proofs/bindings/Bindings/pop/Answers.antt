use Rattle.std.proofs.Common.{◌∙◌}
use Rattle.ispc_names_scopes.proofs.Indexed.{after_pop, environment-pop}
use Rattle.ispc_names_scopes.proofs.bindings.Bindings.pop.Goals as goal
use Rattle.ispc_names_scopes.proofs.bindings.Bindings.pop.Goals.{in-Err-1, in-Ok-1}

pub invariant_of-self : goal.invariant_of-self
invariant_of-self c = after_pop _ _ c.in-Some.last _ _ c.insert.result c.in-Some.ensures.items c.self.invariant c.insert.ensures.entries c.insert.ensures.absent

pub invariant_of-self-in-Some-2 : goal.invariant_of-self-in-Some-2
invariant_of-self-in-Some-2 c = after_pop _ _ c.in-Some.last _ _ c.insert.result c.in-Some.ensures.items c.self.invariant c.insert.ensures.entries c.insert.ensures.absent

pub returns-in-Some : goal.returns-in-Some
returns-in-Some c =
    elim c.match-insert.branch [
      | in-Err-1 w ↦ w.self-is ∙ environment-pop _ _ c.in-Some.last _ c.in-Some.ensures.items c.self.view_is
      | in-Ok-1 w ↦ w.self-is ∙ environment-pop _ _ c.in-Some.last _ c.in-Some.ensures.items c.self.view_is
    ]
