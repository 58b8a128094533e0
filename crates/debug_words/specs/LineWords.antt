-- Words as slices of a line.
use Rattle.std.specs.Prelude.{ℕ, Bool, not, ◌&&◌, List, [], ◌∷◌, Option, Some, None}
use Rattle.std.specs.Borrow.{Bor}
use Rattle.gang_model.specs.Texts.Spellings.{Word, is_blank, words_of_line}
use Rattle.gang_model.specs.Texts.CommandText.{is_mark}
use Rattle.gang_model.specs.Texts.InputText.{is_equals}
use Rattle.debug_words.specs.declared.splitting.Marks.{Marks}
use Rattle.debug_words.specs.declared.splitting.Marks.TheVariants.{OfCommands, OfInputs}

-- whether a byte is a word by itself
abbrev pub is_mark_of : Marks → ℕ → Bool
is_mark_of OfCommands = is_mark
is_mark_of OfInputs = is_equals

-- neither a blank nor a mark
abbrev pub is_plain : Marks → ℕ → Bool
is_plain marks byte = not (is_blank byte) && not (is_mark_of marks byte)

-- a first word, with the words of what follows it
abbrev pub words_from : Marks → Option (Bor (List ℕ) × Bor (List ℕ)) → List Word
words_from marks None = []
words_from marks (Some (word, rest)) = word.now ∷ words_of_line (is_mark_of marks) rest.now
