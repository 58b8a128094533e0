-- What a text names that stands where an expression does.
use Rattle.std.specs.Prelude.{◌++◌, Option, Some, None, codes}
use Rattle.gang_model.specs.Debugger.Debugger.{Command, DoPrint, DoSet, Target}
use Rattle.gang_model.specs.Texts.CommandText.{command_of}
use Rattle.gang_model.specs.Texts.Text.{Bytes}

-- the target of a command that prints
abbrev pub printed : Option Command → Option Target
printed (Some (DoPrint target)) = Some target
printed other = None

-- what `print` takes a text for: a name, or a lane or an element of what is named; none where it is neither
abbrev pub target_in : (text : Bytes) → Option Target
target_in text = printed (command_of (codes "print " ++ text))

-- the target of a command that sets a value
abbrev pub set_by : Option Command → Option Target
set_by (Some (DoSet target z)) = Some target
set_by other = None
