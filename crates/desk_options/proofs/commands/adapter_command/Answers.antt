use Rattle.desk_options.proofs.Building.{some_are, some_widths}
use Rattle.desk_options.proofs.commands.adapter_command.Goals as goal

pub returns : goal.returns
returns c = (some_widths, some_are, c.named.ensures)
