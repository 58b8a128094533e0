-- What the fields of a SnapshotRing mean.
use Rattle.std.specs.Prelude.{◌≡◌, ℕ, ◌-◌, ◌^◌, ◌≤◌, List, [], ◌∷◌, length, map, All, count_by}
use Rattle.undo_log.specs.declared.timeline.Undone.{Undone}
use Rattle.undo_log.specs.declared.snapshot_ring.SnapshotRing.TheInside.{Inside}
use Rattle.undo_log.specs.History.{Moment, moment, History, is_step}

-- each event with the words before it
abbrev pub moments : List Undone → List (List ℕ) → List Moment
moments [] lists = []
moments (event ∷ events) [] = []
moments (event ∷ events) (list ∷ lists) = moment event list ∷ moments events lists

abbrev pub snapshots_seen : Inside → History
snapshots_seen a = record { words = a.words.items; past = moments a.events.items (map (λ v. v.items) a.lists.items); limit = a.limit; room = 2 ^ 64 - 1 }

-- There is a list for each event that may be kept, and each is as long as the words. The steps are counted.
pub record AreSnapshots (a : Inside) : Type 0 where
  pub some : (1 ≤ a.limit) × (a.limit ≤ 65536)
  pub full : (length a.lists.items ≤ a.lists.capacity) × (a.limit ≤ length a.lists.items)
  pub events : (a.limit ≤ a.events.capacity) × (length a.events.items ≤ a.limit)
  pub long : All (λ v. length v.items ≡ length a.words.items) a.lists.items
  pub steps : a.steps ≡ count_by is_step a.events.items
