use Rattle.std.proofs.Common.{subst}
use Rattle.debug_traits.specs.Machines.{PokesWords}
use Rattle.whole_runs.specs.Histories.{history_of}
use Rattle.whole_runs.proofs.framed.WholeRunFramedMachine.poke_at.Goals as goal

pub returns-clause-poke : goal.returns-clause-poke
returns-clause-poke g c s d v whole is part = c.set_noted.ensures.poke s d v (c.make_ready.ensures.whole s d whole) is part

pub returns-clause-words : goal.returns-clause-words
returns-clause-words g c = subst (λ h. PokesWords h c.set_noted.result (history_of c.set_noted.new.self)) c.make_ready.ensures.history c.set_noted.ensures.words
