use Rattle.port_tokens.specs.Places.{IsColumn}
use Rattle.port_tokens.proofs.places.place_of.Given as goal

abbrev pub invariant-loop-i : goal.invariant-loop-i
invariant-loop-i l = IsColumn l.text l.i l.column
