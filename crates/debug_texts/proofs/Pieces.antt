-- Texts in pieces.
use Rattle.std.proofs.Common.{◌≡◌, ℕ, ◌+◌, ◌<◌, List, [], ◌∷◌, ◌++◌, length, map, take, drop, get_or, take-append-drop, Some, decimal, refl, sym, ap, ◌∙◌, append-nil, append_assoc, codes}
use Rattle.std.proofs.lemmas.List.{drop_more, map_more}
use Rattle.std.proofs.lemmas.List.Folds.{concat-append}
use Rattle.std.specs.Prelude.{flat_map}
use Rattle.std.specs.List.{concat}
use Rattle.gang_types.specs.Masks.{lanes_of}
use Rattle.gang_model.specs.Texts.Text.{Bytes, bits, line}
use Rattle.debug_traits.specs.declared.machine.Position.{Position}
use Rattle.debug_traits.specs.Machines.{position_text}
use Rattle.debug_texts.specs.Wording.{place_front}

module _ {X : Type 0} (f : X → List ℕ) where
  -- the pieces up to and with one
  pub pieces_more : (xs : List X) (i : ℕ) (d : X) → i < length xs → concat (map f (take (i + 1) xs)) ≡ concat (map f (take i xs)) ++ f (get_or xs i d)
  pieces_more xs i d h =
      ap concat (map_more f xs i d h) ∙ concat-append (map f (take i xs)) (f (get_or xs i d) ∷ []) ∙ ap (λ t. concat (map f (take i xs)) ++ t) (append-nil (f (get_or xs i d)))

  map-append : (xs ys : List X) → map f (xs ++ ys) ≡ map f xs ++ map f ys
  map-append [] ys = refl
  map-append (x ∷ xs) ys = ap (λ l. f x ∷ l) (map-append xs ys)

  -- all pieces, at one of them
  pub pieces_at : (xs : List X) (i : ℕ) (d : X) → i < length xs → concat (map f xs) ≡ concat (map f (take i xs)) ++ (f (get_or xs i d) ++ concat (map f (drop (i + 1) xs)))
  pieces_at xs i d h =
      ap (λ l. concat (map f l)) (sym (take-append-drop i xs)) ∙ ap concat (map-append (take i xs) (drop i xs)) ∙ concat-append (map f (take i xs)) (map f (drop i xs))
      ∙ ap (λ l. concat (map f (take i xs)) ++ concat (map f l)) (drop_more xs i d h)

  pub pieces_flat : (xs : List X) → flat_map f xs ≡ concat (map f xs)
  pieces_flat [] = refl
  pieces_flat (x ∷ xs) = ap (λ l. f x ++ l) (pieces_flat xs)

  -- the same of a text by `flat_map`
  pub flat_more : (xs : List X) (i : ℕ) (d : X) → i < length xs → flat_map f (take (i + 1) xs) ≡ flat_map f (take i xs) ++ f (get_or xs i d)
  flat_more xs i d h = pieces_flat (take (i + 1) xs) ∙ pieces_more xs i d h ∙ ap (λ l. l ++ f (get_or xs i d)) (sym (pieces_flat (take i xs)))

  pub flat_at : (xs : List X) (i : ℕ) (d : X) → i < length xs → flat_map f xs ≡ flat_map f (take i xs) ++ (f (get_or xs i d) ++ flat_map f (drop (i + 1) xs))
  flat_at xs i d h =
      pieces_flat xs ∙ pieces_at xs i d h ∙ ap (λ l. l ++ (f (get_or xs i d) ++ concat (map f (drop (i + 1) xs)))) (sym (pieces_flat (take i xs)))
      ∙ ap (λ l. flat_map f (take i xs) ++ (f (get_or xs i d) ++ l)) (sym (pieces_flat (drop (i + 1) xs)))

-- a line in three parts
pub line_parts : (front rest : Bytes) → line (front ++ rest) ≡ front ++ (rest ++ codes "\n")
line_parts front rest = append_assoc front rest (10 ∷ [])

-- a line in four pieces
pub line_pieces : (a b c : Bytes) → concat (a ∷ b ∷ c ∷ codes "\n" ∷ []) ≡ line (a ++ (b ++ c))
line_pieces a b c = simp (append_assoc, append-nil) refl

grouped : (a l b c d f e n h bits : Bytes) → a ++ (l ++ b ++ c) ++ d ++ f ++ e ++ n ++ h ++ bits ≡ concat (a ∷ l ∷ b ∷ c ∷ d ∷ f ∷ e ∷ n ∷ h ∷ []) ++ bits
grouped a l b c d f e n h bits = simp (append_assoc, append-nil) refl

-- a position's text in two parts
pub place_parts : (p : Position) → position_text (Some p) ≡ place_front p ++ bits (lanes_of p.width p.lanes)
place_parts p =
    grouped (codes "at ") (decimal p.place.line) (codes ":") (decimal p.place.col) (codes " ") p.function.now (codes " depth ") (decimal p.depth) (codes " lanes ") (bits (lanes_of p.width p.lanes))
