-- the digits that are written stand behind those that are left
use Rattle.std.proofs.Common.{◌≡◌, ◌≤◌, false, drop, length}
use Rattle.std.specs.Fmt.{digits, digits_onto}
use Rattle.prompt_texts.proofs.forms.spell.Given as goal

abbrev pub invariant-loop-first : goal.invariant-loop-first
invariant-loop-first l = (l.first ≤ 64) × (length l.text ≡ 64) × (digits_onto l.first l.base false l.rest (drop l.first l.text) ≡ digits l.base false l.number)

abbrev pub decreases-loop-first : goal.decreases-loop-first
decreases-loop-first l = l.first
