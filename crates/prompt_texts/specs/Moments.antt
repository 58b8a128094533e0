-- What is told of moments of a run.
use Rattle.std.specs.Prelude.{ℕ, ◌++◌, codes, decimal}
use Rattle.gang_model.specs.Texts.Text.{Bytes}

-- a moment that is noted: its number, and how many steps lead to it
abbrev pub checkpoint_text : (number step : ℕ) → Bytes
checkpoint_text number step = decimal number ++ codes "  step " ++ decimal step ++ codes "\n"
