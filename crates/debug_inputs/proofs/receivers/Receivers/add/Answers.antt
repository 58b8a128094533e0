use Rattle.std.proofs.Common.{◌∙◌, ap, sym, is_some}
use Rattle.debug_inputs.specs.Remaining.{found_in}
use Rattle.debug_inputs.proofs.NameIndex.{added, left_out}
use Rattle.debug_inputs.proofs.receivers.Receivers.add.Goals as goal

pub returns-in_ok-insert : goal.returns-in_ok-insert
returns-in_ok-insert c =
    let es = c.args.self.now.index.entries in
    let none = ap (λ n. is_some (found_in es n)) (sym c.deref.ensures.value) ∙ (ap is_some (sym c.find.ensures) ∙ c.if-is_none.ensures) in
    λ name. added es _ c.in_ok-to_vec.field-0 c.args.receiver name none c.in_ok-insert.ensures.entries
    (c.in_ok-to_vec.ensures.items_if_clones_equal (λ x y h. h) ∙ c.deref-then-is_none.ensures.value)

pub returns-else-is_none : goal.returns-else-is_none
returns-else-is_none c =
    let es = c.args.self.now.index.entries in
    λ name. left_out es c.args.receiver name (ap (λ n. is_some (found_in es n)) (sym c.deref.ensures.value) ∙ (ap is_some (sym c.find.ensures) ∙ c.if-is_none.ensures))
