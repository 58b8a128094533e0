use Rattle.std.proofs.Common.{refl, ap}
use Rattle.debug_traits.specs.Machines.{position_text}
use Rattle.run_page.proofs.calls.stand_of.Goals as goal

pub returns-in_ok-function_number-in-Some-clause-stands : goal.returns-in_ok-function_number-in-Some-clause-stands
returns-in_ok-function_number-in-Some-clause-stands c = (c.in-Some.position.function.now, c.in-Some.position.width, ap position_text c.in-Some.is)

pub returns-in_ok-function_number-in-Some-clause-named : goal.returns-in_ok-function_number-in-Some-clause-named
returns-in_ok-function_number-in-Some-clause-named c =
    (c.in-Some.position, ap position_text c.in-Some.is, record { place = refl; name = c.in_ok-function_number-in-Some.ensures.number; depth = refl; lanes = refl })
