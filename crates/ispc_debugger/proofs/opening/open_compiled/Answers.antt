use Rattle.std.proofs.Common.{arith, subst, sym}
use Rattle.gang_model.specs.Debugger.Debugger.{fresh}
use Rattle.gang_model.specs.Texts.InputText.{rows_of}
use Rattle.gang_model.specs.Texts.Transcript.{setting}
use Rattle.typed_tree.specs.Views.{program_view}
use Rattle.gang_machine.specs.Standings.{Stands}
use Rattle.input_rows.specs.Rows.{AreRows}
use Rattle.ispc_debugger.specs.Runs.{IsRightForInput}
use Rattle.ispc_debugger.proofs.Inputs.{gang_width, may_begin, told_right}
use Rattle.ispc_debugger.proofs.opening.open_compiled.Goals as goal

-- a fault of the input is told rightly
pub returns-in-Err-clause-refused : goal.returns-in-Err-clause-refused
returns-in-Err-clause-refused g c =
    let answer = rows_of (program_view c.args.compiled.program) c.args.compiled.entry.0 c.args.input.now in
    subst (IsRightForInput answer) (sym c.refused_input.ensures) (told_right answer c.in-Err.fault c.in-Err.ensures)

-- the machine may begin with the rows that are read
pub begun-requires : goal.begun-requires
begun-requires g c =
    let (source, asked, is) = c.requires.compiled in
    let (given, read, are) = c.in-Ok.ensures in
    let (f, may) = may_begin source asked c.args.compiled is c.args.input.now given c.deref.result.now read (subst (AreRows given) (sym c.deref.ensures.value) are) in
    (omega arith, (gang_width c.args.options.now.width g.row.W c.requires.width, (is.2.runnable, ((f, given, may), (c.requires.range, c.requires.fits)))))

-- and stands for the debugger that begins with them, at the width of the options
pub returns-clause-opened : goal.returns-clause-opened
returns-clause-opened g c =
    let options = c.args.options.now in
    let (source, asked, is) = c.requires.compiled in
    let (given, read, are) = c.in-Ok.ensures in
    let (f, may) = may_begin source asked c.args.compiled is c.args.input.now given c.deref.result.now read (subst (AreRows given) (sym c.deref.ensures.value) are) in (
      given,
      read,
      subst (λ width. Stands c.in-Ok-begun.machine (setting (program_view c.args.compiled.program) c.args.compiled.entry.0 given (record { width = width; history = options.history; steps = options.steps })) (fresh options.history))
          c.requires.width
          (c.in-Ok-begun.ensures f given may),
    )
