use Rattle.std.proofs.Common.{◌∷◌, ◌++◌, [], List, sym, subst}
use Rattle.gang_model.specs.Names.Scope.{NameStanding, Site, standing}
use Rattle.ispc_names_steps.specs.Sites.{Lists, Stands}
use Rattle.ispc_names_steps.proofs.Growth.{lists-append}
use Rattle.ispc_names_steps.proofs.Passing.{on_ok}
use Rattle.ispc_names_steps.proofs.declared.steps_after_body.Goals as goal

pub returns : goal.returns
returns c =
    let d = c.args.declared.now in
    let ds = d.declarations.items in
    let old = c.args.standings.now.items in
    record {
      stands = on_ok _ _ ((site : Site) (steps last : List NameStanding) → Stands d old site steps → Lists ds c.args.updates.now last
          → Stands d c.step.new.standings.items site ((steps ++ last) ++ standing c.args.place site ∷ [])) c.step.ensures.stands
          (λ f site steps last h more.
          let lists = subst (λ xs. Lists ds xs (steps ++ last)) (sym c.in_ok-extend_from_slice.ensures.items) (lists-append ds old c.args.updates.now steps last h.lists more) in
          f site (steps ++ last) (record { reaches = h.reaches; numbers = h.numbers; lists = lists }));
    }
