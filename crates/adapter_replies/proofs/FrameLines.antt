-- The lines of the local variables of a frame, one after another.
use Rattle.std.proofs.Common.{◌≡◌, sym, ap, ◌∙◌, List, [], ◌∷◌, ◌++◌, append_assoc, append-nil}
use Rattle.std.specs.Prelude.{flat_map}
use Rattle.gang_model.specs.Texts.Text.{Bytes}

-- the parts of a line behind what was there
pub line_behind : (old name equals values end : Bytes) → (((old ++ name) ++ equals) ++ values) ++ end ≡ old ++ ((((name ++ []) ++ equals) ++ values) ++ end)
line_behind old name equals values end =
    ap (λ front. (front ++ values) ++ end) (append_assoc old name equals)
    ∙ ap (λ front. front ++ end) (append_assoc old (name ++ equals) values)
    ∙ append_assoc old ((name ++ equals) ++ values) end
    ∙ ap (λ n. old ++ (((n ++ equals) ++ values) ++ end)) (sym (append-nil name))

module _ {A : Type 0} (line : A → Bytes) where
  -- one line more, of those that are left
  pub lines_next : (all old new : Bytes) (here rest : List A) (v : A) → all ≡ old ++ flat_map line here → here ≡ v ∷ rest → new ≡ old ++ line v → all ≡ new ++ flat_map line rest
  lines_next all old new here rest v so is more =
      so ∙ ap (λ vs. old ++ flat_map line vs) is ∙ sym (append_assoc old (line v) (flat_map line rest)) ∙ ap (λ t. t ++ flat_map line rest) (sym more)

  -- none is left
  pub lines_end : (all told : Bytes) (here : List A) → all ≡ told ++ flat_map line here → here ≡ [] → told ≡ all
  lines_end all told here so none = sym (so ∙ ap (λ vs. told ++ flat_map line vs) none ∙ append-nil told)
