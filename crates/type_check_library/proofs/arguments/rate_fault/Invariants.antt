use Rattle.gang_model.specs.Source.Judged.{merged}
use Rattle.std.proofs.Common.{◌≡◌, length, drop}
use Rattle.type_check_library.proofs.GivenValues.{rates_fault}
use Rattle.type_check_library.proofs.arguments.rate_fault.Given as goal

-- what is found so far and what is left decide
abbrev pub invariant-loop-rate : goal.invariant-loop-rate
invariant-loop-rate l =
    rates_fault l.asked l.values ≡ merged l.first (rates_fault (drop (length l.yielded) l.asked) (drop (length l.yielded) l.values))
