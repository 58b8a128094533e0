-- How the answering of command lines ended.
use Rattle.gang_model.specs.Texts.Endings.{Ending as ModelEnding, AtQuit, AtEnd, AtReadFault, AtWriteFault}
use Rattle.transcript.specs.declared.debugger.Turn.{Turn}
use Rattle.transcript.specs.declared.debugger.Turn.TheVariants.{Goes, Quits, Fails}
use Rattle.transcript.specs.declared.answering.Ending.{Ending}
use Rattle.transcript.specs.declared.answering.Ending.TheVariants.{Quit, EndOfCommands, ReadFault, WriteFault}

-- the ending of the definitions
abbrev pub ending_of : Ending → ModelEnding
ending_of Quit = AtQuit
ending_of EndOfCommands = AtEnd
ending_of ReadFault = AtReadFault
ending_of WriteFault = AtWriteFault

-- the end that the turn of the last line leads to
abbrev pub end_of : Turn → Ending
end_of Goes = EndOfCommands
end_of Quits = Quit
end_of Fails = WriteFault
