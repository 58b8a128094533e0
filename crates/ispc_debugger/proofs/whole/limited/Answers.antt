use Rattle.std.proofs.Common.{◌≡◌, ◌<◌, ℕ, true, sym, subst, ap, ap₂, rules, arith}
use Rattle.std.specs.Prelude.{min, nat_lt, ◌^◌, if◌then◌else◌}
use Rattle.std.proofs.lemmas.Bool.Decides.{nat_tests}
use Rattle.gang_model.specs.Debugger.Debugger.{fresh, limited}
use Rattle.gang_machine.specs.Again.{Copies}
use Rattle.gang_machine.specs.Standings.{Stands}
use Rattle.whole_runs.specs.Runs.{StandsWhole}
use Rattle.ispc_debugger.specs.Whole.{whole_history}
use Rattle.ispc_debugger.proofs.whole.limited.Goals as goal

-- a limit of the options below the largest is that of the run
limited_is : (big n : ℕ) → n < 65536 → limited n (fresh big) ≡ fresh (whole_history n)
limited_is big n below =
    let none : min 0 n ≡ 0 = search rules in
    let tested : nat_lt n 65536 ≡ true = grind (arith, nat_tests) in
    let same : n ≡ whole_history n = sym (ap (λ b. if b then n else 2 ^ 62) tested) in
    ap₂ (λ kept history. record (fresh 0) { kept = kept; history = history }) none same

pub returns-in-Ok-clause-stands : goal.returns-in-Ok-clause-stands
returns-in-Ok-clause-stands g c s stands =
    let n = c.args.history in
    let below : n < 65536 = omega (arith, c.requires, c.if-history-eq-NO_LIMIT.false) in
    subst (StandsWhole Stands Copies c.set_limit.new.self s) (limited_is (2 ^ 62) n below) (c.in-Ok.ensures.limit s (fresh (2 ^ 62)) stands)
