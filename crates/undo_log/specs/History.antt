-- What a record of old words is, however it is kept.
use Rattle.std.specs.Prelude.{◌≡◌, ℕ, ◌<◌, ◌≤◌, Bool, true, false, List, [], ◌∷◌, length, take, slice_index, slice_set, count_by, map, replicate, Result, Ok, Err}
use Rattle.std.specs.Simd.Lanes.{put_chunk}
use Rattle.undo_log.specs.declared.timeline.Undone.{Undone}
use Rattle.undo_log.specs.declared.timeline.Undone.TheVariants.{Step, Poke}
use Rattle.undo_log.specs.declared.timeline.Back.{Back}
use Rattle.undo_log.specs.declared.timeline.NoHistory.{NoHistory}

-- an event, and the words before it
pub record Moment : Type 0 where
  pub event : Undone
  pub before : List ℕ

-- the words now, the kept events from the newest to the oldest, the most events that are kept, and the most words that may be set after a mark
pub record History : Type 0 where
  pub words : List ℕ
  pub past : List Moment
  pub limit : ℕ
  pub room : ℕ

abbrev pub moment : Undone → List ℕ → Moment
moment event before = record { event = event; before = before }

-- a word is set
abbrev pub with_word : ℕ → ℕ → History → History
with_word index value h = record h { words = slice_set h.words index value }

-- words are set, from one on
abbrev pub with_run : ℕ → List ℕ → History → History
with_run first values h = record h { words = put_chunk first h.words values }

-- an event is opened: it is the newest, and past the limit the oldest goes
abbrev pub marked : Undone → History → History
marked event h = record h { past = take h.limit (moment event h.words ∷ h.past) }

-- the limit is another: past it the oldest events go
abbrev pub limited : ℕ → History → History
limited limit h = record h { past = take limit h.past; limit = limit }

-- Taking back from old answers so, and leaves new. An event: the newest kept one, and all words are those before it. NoHistory: no event is kept, and nothing changes.
abbrev pub TakenBack : History → Result Back NoHistory → History → Type 0
TakenBack old (Ok back) new = (old.past ≡ moment back.event new.words ∷ new.past) × (length new.words ≡ length old.words) × (new.limit ≡ old.limit) × (new.room ≡ old.room)
TakenBack old (Err none) new = (old.past ≡ []) × (new ≡ old)

-- whether an event is a step
abbrev pub is_step : Undone → Bool
is_step Step = true
is_step Poke = false

-- each word of an index from the first on and before the end is the same in both lists
abbrev pub SameBetween : (first end : ℕ) → (old new : List ℕ) → Type 0
SameBetween first end old new = (i : ℕ) → first ≤ i → i < end → slice_index new i ≡ slice_index old i

-- the words of these indices are those before the newest kept event; of a record that keeps none it is not said
abbrev pub AreKeptBetween : (first end : ℕ) → (words : List ℕ) → List Moment → Type 0
AreKeptBetween first end words [] = ⊥
AreKeptBetween first end words (newest ∷ past) = SameBetween first end newest.before words

-- the newest kept event has set no word of these indices to another value
abbrev pub HasSetNone : (first end : ℕ) → History → Type 0
HasSetNone first end h = AreKeptBetween first end h.words h.past

-- how many of the kept events are steps
abbrev pub steps_in : List Moment → ℕ
steps_in past = count_by is_step (map (λ m. m.event) past)

-- a new record: so many words, all 0, and no event is kept
abbrev pub new_history : ℕ → ℕ → ℕ → History
new_history words limit room = record { words = replicate words 0; past = []; limit = limit; room = room }

-- all words are these, and no event is kept
abbrev pub put_words : List ℕ → History → History
put_words words h = record { words = words; past = []; limit = h.limit; room = h.room }
