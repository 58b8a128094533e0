-- Words as slices of a line.
use Rattle.std.specs.Prelude.{ℕ, List, map, Option, Some, None}
use Rattle.std.specs.Borrow.{Bor}
use Rattle.gang_model.specs.Texts.Spellings.{Word}

-- the bytes of words
abbrev pub texts : List (Bor (List ℕ)) → List Word
texts words = map (λ w. w.now) words

-- the bytes of words that may be there
abbrev pub texts_option : Option (Bor (List (Bor (List ℕ)))) → Option (List Word)
texts_option None = None
texts_option (Some words) = Some (texts words.now)
