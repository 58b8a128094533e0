use Rattle.whole_runs.proofs.DoneAgain.{pokes_at}
use Rattle.whole_runs.proofs.redoing.redo_poke.Goals as goal

pub returns-clause-redone : goal.returns-clause-redone
returns-clause-redone g c s d older there can =
    pokes_at g.M.RecordedMachine.stands s d _ c.poke_in.new.machine older c.args.note.now c.poke_in.result (λ e. g.met.M.PokesSurely.pokes_surely (c.poke_in.ensures.memory e)) can there c.poke_in.ensures.poke

pub returns-clause-copies : goal.returns-clause-copies
returns-clause-copies g c = (
  λ words h. g.met.M.BeginsAgain.can_have_so _ _ words c.poke_in.ensures.run h,
  λ words s d h. g.met.M.BeginsAgain.copies_so _ _ words s d c.poke_in.ensures.run h,
)

pub returns-clause-cost : goal.returns-clause-cost
returns-clause-cost g c = c.poke_in.ensures.moves
