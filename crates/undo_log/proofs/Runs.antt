-- Words that are set one after another, and what they were before.
use Rattle.std.proofs.Common.{◌≡◌, refl, sym, ap, ap₂, ◌∙◌, subst, ℕ, zero, suc, ◌+◌, ◌<◌, ◌≤◌, List, [], ◌∷◌, ◌++◌, length, take, set, slice_index, slice_set, slice_get, Some, map, All, add-one, arith}
use Rattle.std.specs.Prelude.{reverse, count_by}
use Rattle.std.specs.Simd.Lanes.{put_chunk}
use Rattle.std.proofs.lemmas.List.{append_assoc, append-nil, length-take, length_push, set-set, take_more_set}
use Rattle.std.proofs.lemmas.List.Elements.{All-cons, All-head, All-push, All-tail}
use Rattle.std.proofs.lemmas.Simd.{get_or-put_chunk_above}
use Rattle.undo_log.specs.declared.changes.Change.{Change}
use Rattle.undo_log.specs.declared.events.Mark.{Mark}
use Rattle.undo_log.specs.Deltas.{left_of}
use Rattle.undo_log.specs.DeltaRings.{moments, run_changes, total}
use Rattle.undo_log.specs.History.{History, with_word, with_run}
use Rattle.undo_log.proofs.Deltas.{change, count_of, counted_once, mark, moments_set}
use Rattle.undo_log.proofs.Newest.{one_newer}
use Rattle.undo_log.proofs.Steps.{count_cons, count_first, is_step_mark}

none_put : (ws : List ℕ) → put_chunk 0 ws [] ≡ ws
none_put [] = refl
none_put (w ∷ ws) = refl

pub nothing_put : (first : ℕ) (ws : List ℕ) → put_chunk first ws [] ≡ ws
nothing_put zero ws = none_put ws
nothing_put (suc first) [] = refl
nothing_put (suc first) (w ∷ ws) = ap (λ xs. w ∷ xs) (nothing_put first ws)

one_more_put : (first k n : ℕ) (ws vs : List ℕ) → n ≡ first + k → k < length vs → first + length vs ≤ length ws
    → slice_set (put_chunk first ws (take k vs)) n (slice_index vs k) ≡ put_chunk first ws (take (suc k) vs)
one_more_put first k n [] vs e h l = absurd (omega (arith, h, l))
one_more_put first k n (w ∷ ws) [] e h l = absurd (omega (arith, h))
one_more_put zero zero zero (w ∷ ws) (v ∷ vs) e h l = ap (λ xs. v ∷ xs) (sym (none_put ws))
one_more_put zero zero (suc n) (w ∷ ws) (v ∷ vs) e h l = absurd (omega (arith, e))
one_more_put zero (suc k) zero (w ∷ ws) (v ∷ vs) e h l = absurd (omega (arith, e))
one_more_put zero (suc k) (suc n) (w ∷ ws) (v ∷ vs) e h l = ap (λ xs. v ∷ xs) (one_more_put zero k n ws vs (omega (arith, e)) (omega (arith, h)) (omega (arith, l)))
one_more_put (suc first) k zero (w ∷ ws) (v ∷ vs) e h l = absurd (omega (arith, e))
one_more_put (suc first) k (suc n) (w ∷ ws) (v ∷ vs) e h l = ap (λ xs. w ∷ xs) (one_more_put first k n ws (v ∷ vs) (omega (arith, e)) h (omega (arith, l)))

-- one word more of a run
pub exchanged_more : (first k word : ℕ) (vs ws : List ℕ) → k < length vs → first + length vs ≤ length ws → word ≡ slice_index vs k
    → slice_set (put_chunk first ws (take k vs)) (first + k) word ≡ put_chunk first ws (take (k + 1) vs)
exchanged_more first k word vs ws within room is =
    ap (slice_set (put_chunk first ws (take k vs)) (first + k)) is
    ∙ (one_more_put first k (first + k) ws vs refl within room ∙ ap (λ n. put_chunk first ws (take n vs)) (sym (add-one k)))

pub run_more : (first k word : ℕ) (vs : List ℕ) (h : History) → k < length vs → first + length vs ≤ length h.words → word ≡ slice_index vs k
    → with_word (first + k) word (with_run first (take k vs) h) ≡ with_run first (take (k + 1) vs) h
run_more first k word vs h within room is = ap (λ ws. record h { words = ws }) (exchanged_more first k word vs h.words within room is)

pub no_run : (first : ℕ) (h : History) (vs : List ℕ) → h ≡ with_run first (take 0 vs) h
no_run first h vs = ap (λ ws. record h { words = ws }) (sym (nothing_put first h.words))

-- the next word is not set yet
pub not_yet : (first k : ℕ) (vs ws : List ℕ) → slice_index (put_chunk first ws (take k vs)) (first + k) ≡ slice_index ws (first + k)
not_yet first k vs ws = get_or-put_chunk_above first ws (take k vs) (first + k) 0 (omega (arith, length-take k vs))

-- ---- what the words were before

pub length-run : (first n : ℕ) (ws : List ℕ) → length (run_changes first n ws) ≡ n
length-run first zero ws = refl
length-run first (suc n) ws = length_push (run_changes first n ws) (change (first + n) (slice_index ws (first + n))) ∙ omega (arith, length-run first n ws)

-- one change more
pub change_more : (first k old : ℕ) (xs : List Change) (ws : List ℕ) → k < length xs → take k xs ≡ run_changes first k ws → old ≡ slice_index ws (first + k)
    → take (k + 1) (set xs k (change (first + k) old)) ≡ run_changes first (k + 1) ws
change_more first k old xs ws within so_far is =
    take_more_set xs k (change (first + k) old) within
    ∙ (ap₂ (λ cs word. cs ++ change (first + k) word ∷ []) so_far is ∙ ap (λ n. run_changes first n ws) (sym (add-one k)))

-- those of a run, the newest first, and others behind them
abbrev newer : (first count : ℕ) → List ℕ → List Change → List Change
newer first zero ws cs = cs
newer first (suc n) ws cs = change (first + n) (slice_index ws (first + n)) ∷ newer first n ws cs

run_newer : (first n : ℕ) (ws : List ℕ) (cs : List Change) → reverse (cs ++ run_changes first n ws) ≡ newer first n ws (reverse cs)
run_newer first zero ws cs = ap reverse (append-nil cs)
run_newer first (suc n) ws cs =
    ap reverse (sym (append_assoc cs (run_changes first n ws) (change (first + n) (slice_index ws (first + n)) ∷ [])))
    ∙ (one_newer (cs ++ run_changes first n ws) (change (first + n) (slice_index ws (first + n)))
    ∙ ap (λ xs. change (first + n) (slice_index ws (first + n)) ∷ xs) (run_newer first n ws cs))

pub run_in_range : (first n len : ℕ) (ws : List ℕ) (cs : List Change) → first + n ≤ len → All (λ c. c.index < len) cs → All (λ c. c.index < len) (cs ++ run_changes first n ws)
run_in_range first zero len ws cs h all = subst (All (λ c. c.index < len)) (sym (append-nil cs)) all
run_in_range first (suc n) len ws cs h all =
    subst (All (λ c. c.index < len)) (append_assoc cs (run_changes first n ws) (change (first + n) (slice_index ws (first + n)) ∷ []))
    (All-push (λ c. c.index < len) (cs ++ run_changes first n ws) (change (first + n) (slice_index ws (first + n))) (run_in_range first n len ws cs (omega (arith, h)) all) (omega (arith, h)))

-- ---- the newest event, with so many changes more

abbrev pub counted_by : ℕ → Mark → Mark
counted_by n m = mark m.event (m.count + n)

none_counted : (m : Mark) (ms : List Mark) → Some m ≡ slice_get ms 0 → set ms 0 (counted_by 0 m) ≡ ms
none_counted m [] e = refl
none_counted m (x ∷ ms) e =
    let same : m ≡ x = cc in
    let still : m.count + 0 ≡ m.count = omega arith in
    ap (λ n. mark m.event n ∷ ms) still ∙ ap (λ y. y ∷ ms) same

first_set : (m b : Mark) (ms : List Mark) → Some m ≡ slice_get ms 0 → Some b ≡ slice_get (set ms 0 b) 0
first_set m b [] e = cc
first_set m b (x ∷ ms) e = refl

moments_so_far : (first n : ℕ) (vs : List ℕ) (m : Mark) (ms : List Mark) (cs : List Change) (ws : List ℕ) → n ≤ length vs → first + length vs ≤ length ws → Some m ≡ slice_get ms 0
    → moments (set ms 0 (counted_by n m)) (newer first n ws cs) (put_chunk first ws (take n vs)) ≡ moments ms cs ws
moments_so_far first zero vs m ms cs ws h l e = ap₂ (λ marks words. moments marks cs words) (none_counted m ms e) (nothing_put first ws)
moments_so_far first (suc n) vs m ms cs ws h l e =
    let before : moments (set ms 0 (counted_by n m)) (newer first n ws cs) (put_chunk first ws (take n vs)) ≡ moments ms cs ws = moments_so_far first n vs m ms cs ws (omega (arith, h)) l e in
    let one_more : m.count + suc n ≡ (m.count + n) + 1 = omega arith in
    let marks : set ms 0 (counted_by (suc n) m) ≡ set (set ms 0 (counted_by n m)) 0 (counted_once (counted_by n m)) =
    ap (λ k. set ms 0 (mark m.event k)) one_more ∙ sym (set-set ms 0 (counted_by n m) (counted_once (counted_by n m))) in
    let words : put_chunk first ws (take (suc n) vs) ≡ set (put_chunk first ws (take n vs)) (first + n) (slice_index vs n) = sym (one_more_put first n (first + n) ws vs refl (omega (arith, h)) l) in
    ap₂ (λ marks words. moments marks (newer first (suc n) ws cs) words) marks words
    ∙ (moments_set (first + n) (slice_index vs n) (slice_index ws (first + n)) (counted_by n m) (set ms 0 (counted_by n m)) (newer first n ws cs) (put_chunk first ws (take n vs))
    (sym (not_yet first n vs ws)) (first_set m (counted_by n m) ms e) ∙ before)

pub moments_run : (first : ℕ) (vs : List ℕ) (m : Mark) (ms : List Mark) (cs : List Change) (ws : List ℕ) → first + length vs ≤ length ws → Some m ≡ slice_get ms 0
    → moments (set ms 0 (counted_by (length vs) m)) (reverse (cs ++ run_changes first (length vs) ws)) (put_chunk first ws vs) ≡ moments ms (reverse cs) ws
moments_run first vs m ms cs ws l e =
    ap₂ (λ cs words. moments (set ms 0 (counted_by (length vs) m)) cs words) (run_newer first (length vs) ws cs) (ap (put_chunk first ws) (sym (take_all_of vs)))
    ∙ moments_so_far first (length vs) vs m ms (reverse cs) ws (omega arith) l e
  where
    take_all_of : (xs : List ℕ) → take (length xs) xs ≡ xs
    take_all_of [] = refl
    take_all_of (x ∷ xs) = ap (λ ys. x ∷ ys) (take_all_of xs)

pub total_run : (n : ℕ) (m : Mark) (ms : List Mark) → Some m ≡ slice_get ms 0 → total (set ms 0 (counted_by n m)) ≡ total ms + n
total_run n m [] e = cc
total_run n m (x ∷ ms) e =
    let same : x ≡ m = cc in
    let at : x.count ≡ m.count = ap count_of same in
    omega (arith, at)

pub room_run : (cells n : ℕ) (m : Mark) (ms : List Mark) → Some m ≡ slice_get ms 0 → All (λ m. m.count ≤ cells) ms → n ≤ left_of cells (map count_of ms) → m.count + n ≤ cells
room_run cells n m [] e h l = cc
room_run cells n m (x ∷ ms) e h l =
    let same : x ≡ m = cc in
    let at : x.count ≡ m.count = ap count_of same in
    let small : x.count ≤ cells = All-head (λ m. m.count ≤ cells) x ms h in
    omega (arith, at, small, l)

pub small_run : (cells n : ℕ) (m : Mark) (ms : List Mark) → Some m ≡ slice_get ms 0 → All (λ m. m.count ≤ cells) ms → m.count + n ≤ cells → All (λ m. m.count ≤ cells) (set ms 0 (counted_by n m))
small_run cells n m [] e h l = cc
small_run cells n m (x ∷ ms) e h l = All-cons (λ m. m.count ≤ cells) (counted_by n m) ms l (All-tail (λ m. m.count ≤ cells) x ms h)

pub left_run : (cells n : ℕ) (m : Mark) (ms : List Mark) → Some m ≡ slice_get ms 0 → left_of cells (map count_of ms) ≤ left_of cells (map count_of (set ms 0 (counted_by n m))) + n
left_run cells n m [] e = cc
left_run cells n m (x ∷ ms) e =
    let same : x ≡ m = cc in
    let at : x.count ≡ m.count = ap count_of same in
    omega (arith, at)

pub steps_run : (n : ℕ) (m : Mark) (ms : List Mark) → Some m ≡ slice_get ms 0 → count_by is_step_mark (set ms 0 (counted_by n m)) ≡ count_by is_step_mark ms
steps_run n m [] e = cc
steps_run n m (x ∷ ms) e = count_cons is_step_mark (counted_by n m) ms ∙ sym (count_first is_step_mark m (x ∷ ms) e)
