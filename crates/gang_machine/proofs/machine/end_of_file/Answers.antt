use Rattle.std.proofs.Common.{◌≡◌, ◌-◌, ◌∙◌, Some, ap, arith, length, slice_get, sym}
use Rattle.std.specs.Option.{option_copied}
use Rattle.gang_machine.proofs.FileWords.{last_within, lie_before}
use Rattle.gang_machine.proofs.machine.end_of_file.Goals as goal

last_is : (g : _) (c : goal.In-Some g) → slice_get c.args.layout.now.file.items (length c.args.layout.now.file.items - 1) ≡ Some c.in-Some.part.now
last_is g c = ap (λ parts. slice_get parts (length parts - 1)) (sym c.deref.ensures.value) ∙ sym c.last.ensures.value ∙ ap option_copied c.in-Some.is

pub returns-in-Some : goal.returns-in-Some
returns-in-Some g c = lie_before g.row.W c.args.layout.now c.requires.planned c.in-Some.part.now (last_is g c)

pub overflow_add-result : goal.overflow_add-result
overflow_add-result g c = omega (arith, last_within g.row.W c.args.layout.now c.requires.planned c.in-Some.part.now (last_is g c), c.requires.small)
