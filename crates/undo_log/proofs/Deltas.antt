-- Moments of old words, through the edits of the two rings.
use Rattle.std.proofs.Common.{◌≡◌, ℕ, zero, suc, ◌+◌, ◌-◌, ◌*◌, ◌<◌, ◌≤◌, List, [], ◌∷◌, length, take, drop, set, get_or, slice_get, Some, None, refl, sym, ap, ◌∙◌, map, All, arith, add-one}
use Rattle.std.specs.Prelude.{Bool, false, ◌&&◌, nat_le, nat_lt}
use Rattle.std.proofs.lemmas.List.{take-take, drop-take, get_or-set_other, length-set, set-set, set-get_or}
use Rattle.std.proofs.lemmas.Bool.{and_from, false≢true, le-leb, lt-ltb, or_parts}
use Rattle.std.specs.List.{list_any}
use Rattle.std.proofs.Math.Logic.{◌≢◌}
use Rattle.std.proofs.lemmas.List.Elements.{All-head, All-tail, All-cons}
use Rattle.std.proofs.Math.Nat.{mul-le-mul_right}
use Rattle.circular_buffer.specs.Buffer.{last_item}
use Rattle.undo_log.specs.declared.timeline.Undone.{Undone}
use Rattle.undo_log.specs.declared.changes.Change.{Change}
use Rattle.undo_log.specs.declared.events.Mark.{Mark}
use Rattle.undo_log.specs.History.{Moment, moment, History, SameBetween, AreKeptBetween}
use Rattle.undo_log.specs.Deltas.{left_of, one_more}
use Rattle.undo_log.specs.DeltaRings.{moments, taken_back, total}

abbrev pub event_of : Mark → Undone
event_of m = m.event

abbrev pub count_of : Mark → ℕ
count_of m = m.count

abbrev pub change : ℕ → ℕ → Change
change i old = record { index = i; old = old }

abbrev pub mark : Undone → ℕ → Mark
mark e n = record { event = e; count = n }

pub length-moments : (ms : List Mark) (cs : List Change) (ws : List ℕ) → length (moments ms cs ws) ≡ length ms
length-moments [] cs ws = refl
length-moments (m ∷ ms) cs ws = ap suc (length-moments ms (drop m.count cs) (taken_back (take m.count cs) ws))

pub map-moments : (ms : List Mark) (cs : List Change) (ws : List ℕ) → map (λ (m : Moment). m.event) (moments ms cs ws) ≡ map event_of ms
map-moments [] cs ws = refl
map-moments (m ∷ ms) cs ws = ap (λ es. m.event ∷ es) (map-moments ms (drop m.count cs) (taken_back (take m.count cs) ws))

pub length-taken_back : (cs : List Change) (ws : List ℕ) → length (taken_back cs ws) ≡ length ws
length-taken_back [] ws = refl
length-taken_back (c ∷ cs) ws = length-taken_back cs (set ws c.index c.old) ∙ length-set ws c.index c.old

-- a word is set: the newest event has one change more
abbrev pub counted_once : Mark → Mark
counted_once m = mark m.event (m.count + 1)

pub moments_set : (i v old : ℕ) (m : Mark) (ms : List Mark) (cs : List Change) (ws : List ℕ) → old ≡ get_or ws i 0 → Some m ≡ slice_get ms 0 → moments (set ms 0 (counted_once m)) (change i old ∷ cs) (set ws i v) ≡ moments ms cs ws
moments_set i v old m [] cs ws o e = cc
moments_set i v old m (x ∷ ms) cs ws o e =
    let same : x ≡ m = cc in
    let back : set (set ws i v) i (get_or ws i 0) ≡ ws = set-set ws i v (get_or ws i 0) ∙ set-get_or ws i 0 in
    rw (same, add-one, o) (ap (λ w. moment m.event (taken_back (take m.count cs) w) ∷ moments ms (drop m.count cs) (taken_back (take m.count cs) w)) back)

-- a word of which none of the changes is, is as it was
abbrev pub is_between : (first end : ℕ) → Change → Bool
is_between first end c = nat_le first c.index && nat_lt c.index end

other_word : (first end i : ℕ) (c : Change) → is_between first end c ≡ false → first ≤ i → i < end → i ≢ c.index
other_word first end i c h from before same = false≢true (sym h ∙ and_from (nat_le first c.index) (nat_lt c.index end) (le-leb first c.index (omega (arith, from, same))) (lt-ltb c.index end (omega (arith, before, same))))

pub taken_back_other : (first end : ℕ) (cs : List Change) (ws : List ℕ) → list_any (is_between first end) cs ≡ false → SameBetween first end (taken_back cs ws) ws
taken_back_other first end [] ws h i from before = refl
taken_back_other first end (c ∷ cs) ws h i from before =
    let (here, others) = or_parts (is_between first end c) (list_any (is_between first end) cs) h in
    sym (get_or-set_other ws c.index i c.old 0 (other_word first end i c here from before)) ∙ taken_back_other first end cs (set ws c.index c.old) others i from before

pub kept_between : (first end : ℕ) (m : Mark) (ms : List Mark) (cs : List Change) (ws : List ℕ) → Some m ≡ slice_get ms 0 → list_any (is_between first end) (take m.count cs) ≡ false
    → AreKeptBetween first end ws (moments ms cs ws)
kept_between first end m [] cs ws e h = cc
kept_between first end m (x ∷ ms) cs ws e h = let same : x ≡ m = cc in rw same (taken_back_other first end (take m.count cs) ws h)

-- the newest event is taken back
pub moments_back : (m : Mark) (ms : List Mark) (cs : List Change) (ws : List ℕ) → Some m ≡ slice_get ms 0 → moments ms cs ws ≡ moment m.event (taken_back (take m.count cs) ws) ∷ moments (drop 1 ms) (drop m.count cs) (taken_back (take m.count cs) ws)
moments_back m [] cs ws e = cc
moments_back m (x ∷ ms) cs ws e = let same : x ≡ m = cc in rw same

-- the oldest events go
pub moments_forget : (k : ℕ) (ms : List Mark) (cs : List Change) (ws : List ℕ) → moments (take k ms) (take (total (take k ms)) cs) ws ≡ take k (moments ms cs ws)
moments_forget zero ms cs ws = refl
moments_forget (suc k) [] cs ws = refl
moments_forget (suc k) (m ∷ ms) cs ws =
    let t = total (take k ms) in
    rw (take-take m.count (m.count + t) cs (omega arith), drop-take m.count t cs)
    (ap (λ rest. moment m.event (taken_back (take m.count cs) ws) ∷ rest) (moments_forget k ms (drop m.count cs) (taken_back (take m.count cs) ws)))

-- the changes of the oldest event
total_at : (m : Mark) (n : ℕ) (ms : List Mark) → length ms ≡ suc n → Some m ≡ slice_get ms n → total ms ≡ total (take n ms) + m.count
total_at m n [] h e = cc
total_at m zero (x ∷ []) h e = let same : x ≡ m = cc in rw same (omega arith)
total_at m zero (x ∷ y ∷ ms) h e = absurd (omega arith)
total_at m (suc n) (x ∷ ms) h e = omega (arith, total_at m n ms (omega arith) e)

pub total_last : (m : Mark) (ms : List Mark) → Some m ≡ last_item ms → total ms ≡ total (take (length ms - 1) ms) + m.count
total_last m [] e = cc
total_last m (x ∷ ms) e = total_at m (length (x ∷ ms) - 1) (x ∷ ms) (omega arith) e

-- the changes of the newest event
pub total_first : (m : Mark) (ms : List Mark) → Some m ≡ slice_get ms 0 → total ms ≡ m.count + total (drop 1 ms)
total_first m [] e = cc
total_first m (x ∷ ms) e = let same : x ≡ m = cc in rw same refl

-- each event has at most so many changes
pub total_le : (cells : ℕ) (ms : List Mark) → All (λ m. m.count ≤ cells) ms → total ms ≤ length ms * cells
total_le cells [] h = omega arith
total_le cells (m ∷ ms) h =
    let first : m.count ≤ cells = All-head (λ m. m.count ≤ cells) m ms h in
    let rest : total ms ≤ length ms * cells = total_le cells ms (All-tail (λ m. m.count ≤ cells) m ms h) in
    omega arith

-- there is room for one more
pub total_lt : (cells limit : ℕ) (m : Mark) (ms : List Mark) → Some m ≡ slice_get ms 0 → All (λ m. m.count ≤ cells) ms → length ms ≤ limit → m.count < cells → total ms < limit * cells
total_lt cells limit m [] e h l k = cc
total_lt cells limit m (x ∷ ms) e h l k =
    let same : x ≡ m = cc in
    let at : x.count ≡ m.count = ap count_of same in
    let rest : total ms ≤ length ms * cells = total_le cells ms (All-tail (λ m. m.count ≤ cells) x ms h) in
    let all : suc (length ms) * cells ≤ limit * cells = mul-le-mul_right cells l in
    omega arith

pub left_head : (cells : ℕ) (m : Mark) (ms : List Mark) → Some m ≡ slice_get ms 0 → 0 < left_of cells (map count_of ms) → m.count < cells
left_head cells m [] e h = cc
left_head cells m (x ∷ ms) e h =
    let same : x ≡ m = cc in
    let at : x.count ≡ m.count = ap count_of same in
    omega arith

pub some_first : {X : Type 0} (x : X) (xs : List X) → Some x ≡ slice_get xs 0 → 0 < length xs
some_first x [] e = cc
some_first x (y ∷ xs) e = omega arith

abbrev pub seen : List ℕ → ℕ → ℕ → List Moment → History
seen words limit room past = record { words = words; past = past; limit = limit; room = room }

-- the invariant, by its parts
pub small_set : (cells : ℕ) (m : Mark) (ms : List Mark) → Some m ≡ slice_get ms 0 → All (λ m. m.count ≤ cells) ms → m.count < cells → All (λ m. m.count ≤ cells) (set ms 0 (counted_once m))
small_set cells m [] e h l = cc
small_set cells m (x ∷ ms) e h l = All-cons (λ m. m.count ≤ cells) (counted_once m) ms (omega arith) (All-tail (λ m. m.count ≤ cells) x ms h)

pub total_set : (m : Mark) (ms : List Mark) → Some m ≡ slice_get ms 0 → total (set ms 0 (counted_once m)) ≡ suc (total ms)
total_set m [] e = cc
total_set m (x ∷ ms) e =
    let same : x ≡ m = cc in
    let at : x.count ≡ m.count = ap count_of same in
    omega arith

pub counts_set : (m : Mark) (ms : List Mark) → Some m ≡ slice_get ms 0 → map count_of (set ms 0 (counted_once m)) ≡ one_more (map count_of ms)
counts_set m [] e = cc
counts_set m (x ∷ ms) e = let same : x ≡ m = cc in rw same refl

pub left_one_more : (cells : ℕ) (counts : List ℕ) → left_of cells counts ≤ left_of cells (one_more counts) + 1
left_one_more cells [] = omega arith
left_one_more cells (n ∷ ns) = omega arith

pub none_first : {X : Type 0} (xs : List X) → None ≡ slice_get xs 0 → xs ≡ []
none_first [] e = refl
none_first (x ∷ xs) e = cc

-- a mark past the limit
pub take_short : {X : Type 0} (x : X) (n m : ℕ) (xs : List X) → n ≤ m + 1 → take n (x ∷ take m xs) ≡ take n (x ∷ xs)
take_short x zero m xs h = refl
take_short x (suc n) m xs h = rw (take-take n m xs (omega arith))

pub total_fits : (cells limit : ℕ) (ms : List Mark) → All (λ m. m.count ≤ cells) ms → length ms ≤ limit → total ms ≤ limit * cells
total_fits cells limit ms h l =
    let few : total ms ≤ length ms * cells = total_le cells ms h in
    let more : length ms * cells ≤ limit * cells = mul-le-mul_right cells l in
    omega arith
