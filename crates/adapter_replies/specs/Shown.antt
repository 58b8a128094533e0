-- Texts as an editor shows them.
use Rattle.std.specs.Prelude.{◌-◌, length, take}
use Rattle.std.specs.Str.Lossy.{utf8_lossy}
use Rattle.gang_model.specs.Texts.Text.{Bytes}

-- all but the last byte
abbrev pub without_end : Bytes → Bytes
without_end bytes = take (length bytes - 1) bytes

-- the lines of an answer without the end of the last one
abbrev pub shown_text : Bytes → Bytes
shown_text lines = utf8_lossy (without_end lines)
