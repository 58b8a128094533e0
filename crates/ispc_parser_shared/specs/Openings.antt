-- What the first mark of a statement says.
use Rattle.std.specs.Prelude.{true, false, Option, Some, None}
use Rattle.gang_model.specs.declared.marks.Mark.{Mark}
use Rattle.gang_model.specs.declared.marks.Mark.TheVariants as mark
use Rattle.ispc_parser_shared.specs.declared.words.Loop.TheVariants as loop
use Rattle.ispc_parser_shared.specs.declared.words.Plain.TheVariants as plain
use Rattle.ispc_parser_shared.specs.declared.words.Opening.{Opening}
use Rattle.ispc_parser_shared.specs.declared.words.Opening.TheVariants as opening

-- what a statement is that begins with this mark
abbrev pub opening_of : Mark → Option Opening
opening_of mark.Semicolon = Some (opening.Plain plain.Empty)
opening_of mark.Break = Some (opening.Plain plain.Break)
opening_of mark.Continue = Some (opening.Plain plain.Continue)
opening_of mark.Return = Some (opening.Plain plain.Return)
opening_of mark.PlusPlus = Some (opening.Plain plain.Simple)
opening_of mark.MinusMinus = Some (opening.Plain plain.Simple)
opening_of mark.LeftBrace = Some opening.Block
opening_of mark.If = Some opening.If
opening_of mark.Cif = Some opening.If
opening_of mark.Switch = Some opening.Switch
opening_of mark.Do = Some opening.Do
opening_of mark.Cdo = Some opening.Do
opening_of mark.While = Some (opening.Loop loop.While)
opening_of mark.Cwhile = Some (opening.Loop loop.While)
opening_of mark.For = Some (opening.Loop loop.For)
opening_of mark.Cfor = Some (opening.Loop loop.For)
opening_of mark.Foreach = Some (opening.Loop (loop.ForEach false))
opening_of mark.ForeachTiled = Some (opening.Loop (loop.ForEach true))
opening_of mark.ForeachActive = Some (opening.Loop loop.ForEachActive)
opening_of mark.ForeachUnique = Some (opening.Loop loop.ForEachUnique)
opening_of _ = None
