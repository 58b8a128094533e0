-- A step without where its name lies in memory.
use Rattle.std.specs.Prelude.{option_map}
use Rattle.ispc_lexer.specs.declared.pieces.Step.{Step}
use Rattle.ispc_lexer.specs.Pieces.{Shape}
use Rattle.ispc_lexer.specs.Views.{sort_of}

abbrev pub step_view : Step → Shape
step_view s = record { sort = option_map sort_of s.kind; len = s.len }
