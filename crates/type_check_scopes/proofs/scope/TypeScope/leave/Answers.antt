use Rattle.std.proofs.Common.{◌∙◌, ◌≤◌, ◌-◌, ap, sym, subst, length, reverse, drop}
use Rattle.type_check_scopes.specs.Tables.{entries_of}
use Rattle.type_check_scopes.proofs.Tables.{count-entries, length-left, entries_of-left}
use Rattle.type_check_scopes.proofs.scope.TypeScope.leave.Goals as goal

pub leave-requires-clause-declared : goal.leave-requires-clause-declared
leave-requires-clause-declared c =
    let count = count-entries c.self.inside.scopes.environment c.self.inside.declared.items c.self.invariant in
    subst (λ n. c.args.mark.declared ≤ n) (ap (λ s. length s.entries) (sym c.self.view_is) ∙ (count ∙ sym c.self.invariant)) c.requires

pub invariant_of-self : goal.invariant_of-self
invariant_of-self c =
    let env = c.self.inside.scopes.environment in
    ap length c.leave.ensures.environment ∙ (length-left c.args.mark.declared env c.self.inside.declared.items c.self.invariant ∙ sym (ap length c.truncate.ensures.items))

pub returns-clause-entries : goal.returns-clause-entries
returns-clause-entries c =
    let env = c.self.inside.scopes.environment in
    let left = c.args.mark.declared in
    ap (λ e. entries_of e (reverse c.truncate.new.self.items)) c.leave.ensures.environment
    ∙ (ap (λ ds. entries_of (drop (length env - left) env) (reverse ds)) c.truncate.ensures.items
    ∙ (entries_of-left left env c.self.inside.declared.items c.self.invariant
    ∙ ap (λ s. drop (length s.entries - left) s.entries) c.self.view_is))
