use Rattle.std.proofs.Common.{◌≡◌, ◌∙◌, sym, ap, false, length, true≢false}
use Rattle.debug_inputs.proofs.KeptValues.{is_one, row_made}
use Rattle.debug_inputs.proofs.values.Values.row.Goals as goal
use Rattle.debug_inputs.proofs.values.Values.row.Goals.{else-not-variable-via-then-not-variable+else-self, then-len-ne1, else-len-ne1, else-not-variable-via-else-not-variable}

pub returns : goal.returns
returns c = λ receiver rows zs most same is_most shows.
    let single : receiver.variable.is_array ≡ false → length c.args.self.words.items ≡ 1 = λ scalar. elim c.else-not-variable.branch [
      | else-not-variable-via-then-not-variable+else-self w ↦ elim w.if-len-ne1.branch [
        | then-len-ne1 w' ↦ sym c.args.self.words.ok.0 ∙ (sym w.len.ensures ∙ is_one w.len.result (sym w'.value-is ∙ w.if-self.false))
        | else-len-ne1 w' ↦ sym c.args.self.words.ok.0 ∙ (sym w.len.ensures ∙ w'.if-len-ne1.false)
      ]
      | else-not-variable-via-else-not-variable w ↦ absurd (true≢false (sym w.if-not-variable.false ∙ (sym (ap (λ v. v.is_array) same) ∙ scalar)))
    ] in
    (ap (λ v. v.id) same, row_made c.args.line receiver rows zs most c.args.self is_most shows c.if-self-2.false c.if-not-self.false single)
