-- A record of old words as a store of words.
use Rattle.std.specs.Prelude.{ℕ, ◌-◌, ◌^◌, List, [], ◌∷◌}
use Rattle.undo_log.specs.History.{History, Moment}

-- how many words may still be set: any number where no event is kept, so many otherwise
abbrev pub left_in : List Moment → ℕ → ℕ
left_in [] left = 2 ^ 64 - 1
left_in (m ∷ past) left = left

-- what a record has besides its words
abbrev pub without_words : History → History
without_words h = record h { words = [] }
