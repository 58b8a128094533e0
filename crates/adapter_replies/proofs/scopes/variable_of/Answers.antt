use Rattle.std.proofs.Common.{◌≡◌, ◌∙◌, sym, ap, subst, Some, None, [], drop, add-one, arith}
use Rattle.std.specs.Prelude.{slice_get}
use Rattle.adapter_replies.specs.Variables.{ShowsOptionAt, of_scope, scope_list}
use Rattle.adapter_replies.proofs.Numbered.{behind, front_at, none_from}
use Rattle.adapter_replies.proofs.scopes.variable_of.Goals as goal

pub returns-in-None : goal.returns-in-None
returns-in-None g c s d st =
    let deep = c.args.depth in
    let list = scope_list s d c.args.scope deep in
    let number = c.loop.counter in
    let none : drop number list ≡ [] = ap (drop number) (sym (c.in-None.ensures.all s d st)) ∙ c.loop.invariant s d st ∙ c.in-None.ensures.next s d st in
    subst (λ v. ShowsOptionAt s d deep v None) (sym (none_from list number c.args.number none (omega (arith, c.loop-test.true)))) tt

pub loop-preserved : goal.loop-preserved
loop-preserved g c s d st =
    let from = of_scope c.args.scope (g.M.FramedMachine.locals_at c.args.machine.now s d c.args.depth) (g.M.FramedMachine.parameters_at c.args.machine.now s d c.args.depth) in
    let (v, is, shows) = c.in-Some.ensures.next s d st in
    ap (λ n. drop n (from 0)) (add-one c.loop.counter)
    ∙ behind (from 0) c.loop.counter v _ (c.loop.invariant s d st ∙ is)
    ∙ ap from (sym c.place_after-from.ensures)

pub returns-in-None-next_of : goal.returns-in-None-next_of
returns-in-None-next_of g c s d st =
    let deep = c.args.depth in
    let list = scope_list s d c.args.scope deep in
    let number = c.loop.counter in
    let none : drop number list ≡ [] = ap (drop number) (sym (c.in-None-next_of.ensures.all s d st)) ∙ c.loop.invariant s d st ∙ c.in-None-next_of.ensures.next s d st in
    subst (λ v. ShowsOptionAt s d deep v None) (sym (none_from list number c.args.number none (omega (arith, c.loop.auto.counter-end)))) tt

pub returns-in-Some-next_of : goal.returns-in-Some-next_of
returns-in-Some-next_of g c s d st =
    let deep = c.args.depth in
    let list = scope_list s d c.args.scope deep in
    let number = c.loop.counter in
    let (v, is, shows) = c.in-Some-next_of.ensures.next s d st in
    let end : number ≡ c.args.number = omega (arith, c.loop-test.false, c.loop.auto.counter-end) in
    let front = ap (drop number) (sym (c.in-Some-next_of.ensures.all s d st)) ∙ c.loop.invariant s d st ∙ is in
    let found : slice_get list c.args.number ≡ Some v = ap (slice_get list) (sym end) ∙ front_at list number v _ front in
    subst (λ given. ShowsOptionAt s d deep given (Some c.variable_here.result)) (sym found) (subst (λ named. ShowsOptionAt s d deep (Some v) (Some named)) (sym c.variable_here.ensures) shows)
