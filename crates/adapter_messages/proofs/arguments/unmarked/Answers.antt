use Rattle.adapter_messages.proofs.Marks.{no_mark}
use Rattle.adapter_messages.proofs.arguments.unmarked.Goals as goal

pub returns-in-None : goal.returns-in-None
returns-in-None c = no_mark c.args.text.now c.in-None.ensures.cases
