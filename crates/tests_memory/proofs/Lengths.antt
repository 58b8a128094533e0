-- How many words a record has.
use Rattle.std.proofs.Common.{◌≡◌, length, ap, Result, Ok, Err}
use Rattle.undo_log.specs.declared.timeline.Back.{Back}
use Rattle.undo_log.specs.declared.timeline.NoHistory.{NoHistory}
use Rattle.undo_log.specs.History.{History, TakenBack}

-- taking back changes no number of words
pub length_back : (old new : History) (answer : Result Back NoHistory) → TakenBack old answer new → length new.words ≡ length old.words
length_back old new (Ok back) h = h.1
length_back old new (Err none) h = ap (λ h. length h.words) h.1
