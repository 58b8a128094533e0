use Rattle.std.proofs.Common.{◌≡◌, ◌∙◌, ◌∷◌, [], ◌++◌, ap, ap₂, refl, codes, decimal, subst, append_assoc, append-nil, ℕ, List}
use Rattle.std.specs.List.{concat}
use Rattle.debug_traits.specs.Devices.{Writes}
use Rattle.debug_texts.proofs.change_texts.write_breaks_at.Goals as goal

regroup : (a n b l e : List ℕ) → concat (a ∷ n ∷ b ∷ l ∷ e ∷ []) ≡ (((a ++ n) ++ b) ++ l) ++ e
regroup a n b l e = simp (append_assoc, append-nil) refl

pub returns-clause-said : goal.returns-clause-said
returns-clause-said g c s d =
    let number = c.as_bytes.ensures.value ∙ c.format.ensures.text in
    let place = c.as_bytes-2.ensures.value ∙ c.format-2.ensures.text in
    let same = ap (λ w. concat (w ∷ c.as_bytes.result.now ∷ codes " at line " ∷ c.as_bytes-2.result.now ∷ codes "\n" ∷ [])) c.as_slice.ensures
    ∙ ap₂ (λ n l. concat (codes "breakpoint " ∷ n ∷ codes " at line " ∷ l ∷ codes "\n" ∷ [])) number place
    ∙ regroup (codes "breakpoint ") (decimal c.args.number) (codes " at line ") (decimal c.args.line) (codes "\n") in
    subst (λ t. Writes t (g.O.AnswerWriter.written c.args.writer.now) (g.O.AnswerWriter.written c.write_pieces.new.writer) (g.O.AnswerWriter.has_failed c.write_pieces.new.writer) c.write_pieces.result) same c.write_pieces.ensures
