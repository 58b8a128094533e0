use Rattle.run_page.proofs.NewWords.{all_new, ok_more}
use Rattle.run_page.proofs.comparing.note_changes.Goals as goal

pub returns : goal.returns
returns c consistent = ok_more c.note_new.result (all_new c.args.before.now c.args.now.now c.args.changes.now.items c.note_gone.new.changes.items c.note_new.new.changes.items c.in_ok-note_gone.ensures) (c.note_new.ensures consistent)
