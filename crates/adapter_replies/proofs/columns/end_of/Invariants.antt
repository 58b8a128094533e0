-- the characters before this place fit, and so many units are left for those behind it
use Rattle.std.proofs.Common.{◌≡◌, ◌++◌, drop, take}
use Rattle.adapter_replies.specs.Columns.{first_units}
use Rattle.adapter_replies.proofs.columns.end_of.Given as goal

abbrev pub invariant-loop-place : goal.invariant-loop-place
invariant-loop-place l = first_units l.units l.text ≡ take l.place l.text ++ first_units l.left (drop l.place l.text)
