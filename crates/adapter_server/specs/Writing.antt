-- The texts that breakpoints write, as an editor's console shows them.
use Rattle.std.specs.Prelude.{Bool, true, false, List, [], ◌∷◌, ◌++◌, codes, map}
use Rattle.gang_model.specs.Texts.Text.{Bytes}
use Rattle.log_points.specs.Points.{Written}

-- a text, and an end of line
abbrev pub console_line : Bytes → Bytes
console_line text = text ++ 10 ∷ []

-- behind others, that texts are left out, where some are
abbrev pub with_left_out : (is_cut : Bool) → List Bytes → List Bytes
with_left_out true lines = lines ++ console_line (codes "texts of log points are left out") ∷ []
with_left_out false lines = lines

-- the lines of what was written, each of which is an event
abbrev pub console_lines : Written → List Bytes
console_lines written = with_left_out written.is_cut (map console_line written.texts)
