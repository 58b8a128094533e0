-- Parts of the texts of answers.
use Rattle.std.specs.Prelude.{ℕ, zero, suc, List, [], ◌∷◌, ◌++◌, codes, decimal, flat_map}
use Rattle.std.specs.List.{concat}
use Rattle.gang_types.specs.declared.types.IntType.{IntType}
use Rattle.gang_model.specs.Types.Tree.{Program}
use Rattle.gang_model.specs.Running.State.{Frame}
use Rattle.gang_model.specs.Texts.Text.{Bytes, word_text}
use Rattle.debug_traits.specs.Machines.{call_text}
use Rattle.debug_traits.specs.declared.machine.Position.{Position}

-- the text of a position up to its lanes
abbrev pub place_front : Position → Bytes
place_front p = concat (codes "at " ∷ decimal p.place.line ∷ codes ":" ∷ decimal p.place.col ∷ codes " " ∷ p.function.now ∷ codes " depth " ∷ decimal p.depth ∷ codes " lanes " ∷ [])

-- a blank and the value of a word
abbrev pub value_text : IntType → ℕ → Bytes
value_text type word = codes " " ++ word_text type word

-- a blank and the value, for each word
abbrev pub values_text : IntType → List ℕ → Bytes
values_text type words = flat_map (λ word. value_text type word) words

-- a line for the call of each frame from this depth down to the outermost one
abbrev pub calls_text : Program → List Frame → (depth : ℕ) → Bytes
calls_text p frames zero = []
calls_text p frames (suc n) = call_text p (suc n) frames ++ calls_text p frames n
