use Rattle.std.proofs.Common.{◌≡◌, ◌∙◌, ◌∷◌, [], ◌++◌, ap, refl, codes, decimal, subst, append_assoc, append-nil, ℕ, List}
use Rattle.std.specs.List.{concat}
use Rattle.debug_traits.specs.Devices.{Writes}
use Rattle.debug_texts.proofs.change_texts.write_history.Goals as goal

regroup : (a n e : List ℕ) → concat (a ∷ n ∷ e ∷ []) ≡ (a ++ n) ++ e
regroup a n e = simp (append_assoc, append-nil) refl

pub returns-clause-said : goal.returns-clause-said
returns-clause-said g c s d =
    let limit = c.as_bytes.ensures.value ∙ c.format.ensures.text in
    let same = ap (λ n. concat (codes "history " ∷ n ∷ codes "\n" ∷ [])) limit ∙ regroup (codes "history ") (decimal c.args.limit) (codes "\n") in
    subst (λ t. Writes t (g.O.AnswerWriter.written c.args.writer.now) (g.O.AnswerWriter.written c.write_pieces.new.writer) (g.O.AnswerWriter.has_failed c.write_pieces.new.writer) c.write_pieces.result) same c.write_pieces.ensures
