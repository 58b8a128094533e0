-- What a watch of a variable of a frame shows, and whether it changed.
use Rattle.std.specs.Prelude.{ℕ, Bool, false, not, nat_lt, List, take, Option, Some, None, if◌then◌else◌}
use Rattle.gang_model.specs.Source.Names.{same_text}
use Rattle.gang_model.specs.Types.Tree.{Variable}
use Rattle.gang_model.specs.Running.State.{State, same_id}
use Rattle.gang_model.specs.Debugger.Debugger.{Debugger, Setting, depth, now, part_shown, shown_words}
use Rattle.debug_traits.specs.Frames.{found_at, state_at}
use Rattle.conditional_stops.specs.declared.sights.FrameWatch.{FrameWatch}

-- whether the frame of a watch is not there, where there are so many: it has been left, or is not yet entered
abbrev pub is_gone : (depth : ℕ) → FrameWatch → Bool
is_gone deep w = nat_lt deep w.depth

-- the words of a part of a variable, in all lanes, whether they are active or not; a gang has at most 16
abbrev pub part_words : State → (at : Option ℕ) → Variable → List ℕ
part_words state at v = take 16 (part_shown at (shown_words state v))

-- the words that a watch shows of what its name stands for, if that is its variable
abbrev pub words_of_found : State → FrameWatch → Option Variable → Option (List ℕ)
words_of_found state w None = None
words_of_found state w (Some v) = if same_id v.id w.id then Some (part_words state w.at v) else None

-- the words that a watch shows, where its frame is there and its variable in scope
abbrev pub sight : Setting → Debugger → FrameWatch → Option (List ℕ)
sight s d w =
    if is_gone (depth (now s d)) w then None
    else words_of_found (state_at w.depth (now s d)) w (found_at s.program w.depth (now s d) w.name.items)

-- whether a watch showed other words before; where it showed none, or shows none, nothing changed
abbrev pub differ : (before now : Option (List ℕ)) → Bool
differ (Some old) (Some new) = not (same_text old new)
differ (Some old) None = false
differ None new = false
