use Rattle.std.proofs.Common.{◌≡◌, ◌∷◌, [], ◌∙◌, ℕ, Option, Some, refl, ap, sym, append-nil, append_assoc, codes, decimal}
use Rattle.std.specs.List.{concat}
use Rattle.gang_types.specs.Masks.{lanes_of, word_of_lanes}
use Rattle.gang_model.specs.Texts.Text.{Bytes}
use Rattle.json_texts.proofs.Listing.{ok_text}
use Rattle.run_page.specs.declared.moments.Stand.{Stand}
use Rattle.run_page.specs.RecordText.{stand_text}
use Rattle.run_page.proofs.writing.write_stand.Goals as goal

abbrev whole : (a b c d e : Bytes) → Bytes
whole a b c d e = concat (codes "\n[" ∷ a ∷ codes "," ∷ b ∷ codes "," ∷ c ∷ codes "," ∷ d ∷ codes "," ∷ e ∷ codes "," ∷ [])

parts : (a b c d e : Bytes) → whole a b c d e ≡ concat (codes "\n[" ∷ concat (a ∷ codes "," ∷ b ∷ codes "," ∷ c ∷ codes "," ∷ d ∷ codes "," ∷ e ∷ []) ∷ codes "," ∷ [])
parts a b c d e = simp (append_assoc, append-nil) refl

same : (given : Option Stand) (stand : Stand) (lanes : ℕ) → given ≡ Some stand → lanes ≡ word_of_lanes (lanes_of 16 stand.lanes)
    → whole (decimal stand.place.line) (decimal stand.place.col) (decimal stand.function) (decimal stand.depth) (decimal lanes) ≡ concat (codes "\n[" ∷ stand_text given ∷ codes "," ∷ [])
same given stand lanes is e =
    ap (λ n. whole (decimal stand.place.line) (decimal stand.place.col) (decimal stand.function) (decimal stand.depth) (decimal n)) e
    ∙ parts (decimal stand.place.line) (decimal stand.place.col) (decimal stand.function) (decimal stand.depth) (decimal (word_of_lanes (lanes_of 16 stand.lanes)))
    ∙ ap (λ s. concat (codes "\n[" ∷ stand_text s ∷ codes "," ∷ [])) (sym is)

pub returns-clause-written : goal.returns-clause-written
returns-clause-written g c = ok_text _ _ _ _ c.write_parts.result (same c.args.stand c.in-Some.stand c.word.result c.in-Some.is c.word.ensures) c.write_parts.ensures.written
