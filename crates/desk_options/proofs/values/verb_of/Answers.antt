use Rattle.std.proofs.Common.{rules}
use Rattle.desk_options.proofs.values.verb_of.Goals as goal
use Rattle.desk_options.proofs.values.verb_of.Goals.{in-Debug, in-Picture, in-Page, in-Profile, in-Adapter, in-Explain+in_ok-explained_of-in-Explain, in-Port}

pub returns-clause-ranges : goal.returns-clause-ranges
returns-clause-ranges c =
    elim c.match-verb.branch [
      | in-Debug w ↦ search rules
      | in-Picture w ↦ search rules
      | in-Page w ↦ search rules
      | in-Profile w ↦ search rules
      | in-Adapter w ↦ search rules
      | in-Explain+in_ok-explained_of-in-Explain w ↦ search rules
      | in-Port w ↦ search rules
    ]
