-- The table of commands, as the definitions have it.
use Rattle.std.specs.Prelude.{ℕ}
use Rattle.gang_model.specs.Debugger.Debugger as d
use Rattle.gang_model.specs.Texts.CommandText as text
use Rattle.debug_commands.specs.declared.table.Motion.{Motion}
use Rattle.debug_commands.specs.declared.table.Motion.TheVariants as motion
use Rattle.debug_commands.specs.declared.table.Form.{Form}
use Rattle.debug_commands.specs.declared.table.Form.TheVariants as form
use Rattle.debug_commands.specs.declared.table.Entry.{Entry}
use Rattle.debug_commands.specs.LineWords.{texts}
use Rattle.debug_commands.specs.Views.{command_view}

-- the command that a movement is, from how often it is made
abbrev pub motion_view : Motion → ℕ → d.Command
motion_view motion.Step = d.DoStep
motion_view motion.Next = d.DoNext
motion_view motion.ReverseStep = d.DoReverseStep
motion_view motion.ReverseNext = d.DoReverseNext

-- what may follow a command's words
abbrev pub form_view : Form → text.Form
form_view (form.Alone command) = text.Alone (command_view command)
form_view (form.Counted motion) = text.Counted (motion_view motion)
form_view form.Break = text.Numbered d.DoBreak
form_view form.Delete = text.MaybeNumbered d.DoDelete
form_view form.Print = text.Targeted d.DoPrint
form_view form.Watch = text.Targeted d.DoWatch
form_view form.Set = text.Assigned
form_view form.History = text.Numbered d.DoSetHistory

-- a command's words, with the form of what follows
abbrev pub entry_view : Entry → text.Entry
entry_view entry = (texts entry.0.now, form_view entry.1)
