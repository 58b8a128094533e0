use Rattle.std.proofs.Common.{◌≡◌, ◌∙◌, true, false, sym}
use Rattle.element_accesses.proofs.accesses.Access.note_at.Goals as goal

pub returns-then-stands_at : goal.returns-then-stands_at
returns-then-stands_at g c = record {
  others = c.note.ensures.others;
  elsewhere = λ e. let contradiction : true ≡ false = sym c.if-stands_at.true ∙ c.stands_at.ensures ∙ e in cc contradiction;
  few = c.note.ensures.few;
  here = λ yes s d written type rate there at means few. c.note.ensures.tried s d c.args.spot written type rate there at means few;
}
