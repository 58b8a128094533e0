use Rattle.std.proofs.Common.{◌≡◌, ◌∙◌, ◌∷◌, [], ◌++◌, ap, refl, sym, codes, decimal, subst, append_assoc, append-nil, ℕ, List}
use Rattle.std.specs.List.{concat}
use Rattle.gang_model.specs.Debugger.Debugger as model
use Rattle.gang_model.specs.Texts.Text.{text}
use Rattle.debug_traits.specs.Devices.{Writes}
use Rattle.debug_texts.proofs.change_texts.write_deleted.Goals as goal

regroup : (a n e : List ℕ) → concat (a ∷ n ∷ e ∷ []) ≡ (a ++ n) ++ e
regroup a n e = simp (append_assoc, append-nil) refl

pub returns-in-Some-clause-said : goal.returns-in-Some-clause-said
returns-in-Some-clause-said g c s d =
    let number = c.as_bytes.ensures.value ∙ c.format.ensures.text in
    let same = ap (λ n. concat (codes "deleted " ∷ n ∷ codes "\n" ∷ [])) number
    ∙ regroup (codes "deleted ") (decimal c.in-Some.number) (codes "\n") ∙ ap (λ n. text s (model.Deleted n) d) (sym c.in-Some.is) in
    subst (λ t. Writes t (g.O.AnswerWriter.written c.args.writer.now) (g.O.AnswerWriter.written c.write_pieces.new.writer) (g.O.AnswerWriter.has_failed c.write_pieces.new.writer) c.write_pieces.result) same c.write_pieces.ensures
