use Rattle.std.proofs.Common.{◌≡◌, refl, arith, length}
use Rattle.ispc_names_steps.proofs.Passing.{stands_declared}
use Rattle.ispc_names_steps.proofs.declared.declare.Goals as goal

pub returns-clause-stands : goal.returns-clause-stands
returns-clause-stands c = λ site standings steps h.
    let ds = c.args.declared.now.declarations.items in
    let i = c.args.declared.now.innermost in
    let number : c.len-number.result ≡ length ds = omega (arith, c.len-number.ensures) in
    stands_declared ds c.push.new.self.items (record { name = c.in_ok-name.name; outside = i }) i c.len-number.result c.args.name.now standings site.environment site.next steps
    c.in_ok-push.ensures.items refl number c.in_ok-name.ensures.items h
