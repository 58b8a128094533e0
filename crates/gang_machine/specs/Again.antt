-- What of a machine lasts all through its run, and what a copy of its words is.
use Rattle.std.specs.Prelude.{◌≡◌, ℕ, List, [], length}
use Rattle.std.proofs.Common.{subst, sym}
use Rattle.undo_log.specs.History.{History}
use Rattle.gang_model.specs.Debugger.Debugger.{Debugger, Setting}
use Rattle.mask_states.specs.Masked.{Masked}
use Rattle.machine_words.specs.Ranges.{IsLaid}
use Rattle.frame_steps.specs.Standing.{HaveLanes}
use Rattle.gang_machine.specs.Standings.{Counted, SeenStands, ShowsWords, View}

-- these words, and no event that is kept
abbrev pub only_words : List ℕ → History
only_words words = record { words = words; past = []; limit = 0; room = 0 }

abbrev pub with_only : List ℕ → View → View
with_only words m = record m { history = only_words words }

-- the program, the entry, the lines and the layout are the same
abbrev pub SameRun : Counted → Counted → Type 0
SameRun old new = with_only [] new.seen ≡ with_only [] old.seen

-- words that lie as the layout says, and show some masked state, of which each frame has a lane
pub record AreWords (m : View) (words : List ℕ) : Type 0 where
  pub laid : IsLaid m.width m.layout words
  pub masked : Masked
  pub shown : ShowsWords m.width m.program m.layout words masked
  pub called : HaveLanes masked.state.frames

abbrev pub CanHave : Counted → List ℕ → Type 0
CanHave m words = AreWords (with_only [] m.seen) words

-- how many words it has
abbrev pub word_count : Counted → ℕ
word_count m = m.seen.layout.words

-- a machine with these words stands there, where no event is kept
abbrev pub Copies : Counted → List ℕ → Setting → Debugger → Type 0
Copies m words s d = SeenStands (with_only words m.seen) s d

-- what it can have, and what a copy is, lasts
pub can_have_so : (old new : Counted) (words : List ℕ) → SameRun old new → CanHave old words → CanHave new words
can_have_so old new words same has = subst (λ m. AreWords m words) (sym same) has

pub copies_so : (old new : Counted) (words : List ℕ) (s : Setting) (d : Debugger) → SameRun old new → Copies old words s d → Copies new words s d
copies_so old new words s d same copy = subst (λ m. SeenStands (with_only words m) s d) (sym same) copy

-- words that it can have are as many
pub are_as_many : (m : Counted) (words : List ℕ) → CanHave m words → length words ≡ word_count m
are_as_many m words has = has.laid.long
