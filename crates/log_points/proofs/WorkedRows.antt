-- Rows that the check computes from the definitions: breakpoint 7 writes a text and has two stops to be passed.
use Rattle.std.proofs.Common.{◌≡◌, refl, inl, inr, true, false, List, [], ◌∷◌, ◌++◌, Some, None}
use Rattle.std.specs.Prelude.{codes, replicate}
use Rattle.conditional_stops.specs.declared.going.MoveEnd.TheVariants as end
use Rattle.conditional_stops.specs.declared.reasons.CountedStop.{CountedStop}
use Rattle.conditional_stops.specs.Tables.{Table, is_disabled}
use Rattle.log_points.specs.Going.{stops_of}
use Rattle.log_points.specs.Points.{Log, message_of, silenced, with_log}
use Rattle.log_points.specs.Texts.{IsPart, IsWhole}
use Rattle.log_points.specs.Writing.{is_reached, one_passed}

abbrev seven : List Log
seven = record { number = 7; message = codes "i is {i}" } ∷ []

abbrev some : Table
some = record { conditions = (7, codes "a") ∷ []; counts = (7, 2) ∷ []; disabled = [] }

-- ---- those that write a text

one_more : with_log 9 (codes "x") seven ≡ seven ++ record { number = 9; message = codes "x" } ∷ []
one_more = refl

too_long : with_log 9 (replicate 257 65) seven ≡ seven
too_long = refl

no_room : (log : Log) → with_log 9 (codes "x") (replicate 64 log) ≡ replicate 64 log
no_room log = refl

its_message : message_of 7 seven ≡ Some (codes "i is {i}")
its_message = refl

no_message : message_of 9 seven ≡ None
no_message = refl

-- ---- messages

an_expression : IsPart (codes "i is {i}, so") (codes "i is ") (codes "i") (codes ", so")
an_expression = record { is = refl; first = refl; inside = refl }

an_empty_one : IsPart (codes "{}") [] [] []
an_empty_one = record { is = refl; first = refl; inside = refl }

no_expression : IsWhole (codes "there }")
no_expression = inl refl

not_closed : IsWhole (codes "a { b")
not_closed = inr (codes "a ", codes " b", refl, refl, refl)

-- ---- what is passed

silent : silenced seven some ≡ record some { disabled = 7 ∷ [] }
silent = refl

the_others_stop : is_disabled 3 (silenced seven some) ≡ false
the_others_stop = refl

not_yet : is_reached 7 some ≡ false
not_yet = refl

one_fewer : one_passed 7 some ≡ record some { counts = (7, 1) ∷ [] }
one_fewer = refl

reached_then : is_reached 7 (one_passed 7 (one_passed 7 some)) ≡ true
reached_then = refl

-- three stops were passed, and a fourth counts, or none
a_fourth : (counted : CountedStop) → stops_of 3 (end.Stopped counted) ≡ 4
a_fourth counted = refl

and_no_more : stops_of 3 end.MostPassed ≡ 3
and_no_more = refl
