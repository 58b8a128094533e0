-- How many events notes have, and how many of the newest are steps.
use Rattle.std.proofs.Common.{◌≡◌, refl, sym, ap, ◌∙◌, arith, ℕ, zero, suc, ◌+◌, ◌-◌, ◌<◌, ◌≤◌, List, [], ◌∷◌, ◌++◌, length, take, get_or, append_assoc, subst}
use Rattle.std.specs.Prelude.{filter}
use Rattle.std.proofs.lemmas.List.{take_more, take_all}
use Rattle.gang_model.specs.Debugger.Events.{Event, Step, Poke, Poked}
use Rattle.gang_model.specs.Debugger.Debugger.{is_step}
use Rattle.whole_runs.specs.declared.notes.NotedPoke.{NotedPoke}
use Rattle.whole_runs.proofs.TakenBack.{noted_last}
use Rattle.whole_runs.specs.Notes.{events_of, noted, poke_of, poked_at, steps_on}
use Rattle.whole_runs.specs.Pokes.{poked_in}

-- how many of the newest events are steps
abbrev pub steps_among : ℕ → List Event → ℕ
steps_among n events = length (filter is_step (take n events))

pub many_steps : (n : ℕ) (older : List Event) → length (steps_on n older) ≡ n + length older
many_steps zero older = omega arith
many_steps (suc n) older = let e = many_steps n older in omega (arith, e)

-- ---- notes over older events

pub steps_over : (n : ℕ) (older more : List Event) → steps_on n older ++ more ≡ steps_on n (older ++ more)
steps_over zero older more = refl
steps_over (suc n) older more = ap (λ events. Step ∷ events) (steps_over n older more)

pub noted_over : (older : List Event) (notes : List NotedPoke) → noted older notes ≡ noted [] notes ++ older
noted_over older [] = refl
noted_over older (note ∷ notes) =
    let event = poke_of note in
    noted_over (event ∷ steps_on note.steps older) notes
    ∙ ap (λ events. noted [] notes ++ event ∷ events) (sym (steps_over note.steps [] older))
    ∙ sym (append_assoc (noted [] notes) (event ∷ steps_on note.steps []) older)
    ∙ ap (λ events. events ++ older) (sym (noted_over (event ∷ steps_on note.steps []) notes))

pub all_over : (n : ℕ) (older : List Event) (notes : List NotedPoke) → steps_on n (noted older notes) ≡ events_of notes n ++ older
all_over n older notes = ap (steps_on n) (noted_over older notes) ∙ sym (steps_over n (noted [] notes) older)

-- ---- notes with one poke less

-- notes without their last poke
pub one_fewer : (old new : List NotedPoke) (note : NotedPoke) → old ≡ new ++ note ∷ [] → length (noted [] old) ≡ suc (length (events_of new note.steps))
one_fewer old new note more = ap (λ notes. length (noted [] notes)) more ∙ ap length (noted_last [] new note)

-- ---- steps among the newest events

pub among_steps : (m n : ℕ) (older : List Event) → m ≤ n → steps_among m (steps_on n older) ≡ m
among_steps zero n older less = refl
among_steps (suc m) zero older less = absurd (none m less)
  where
    none : (m : ℕ) → suc m ≤ 0 → ⊥
    none m less = omega arith
among_steps (suc m) (suc n) older less = ap suc (among_steps m n older (fewer m n less))
  where
    fewer : (m n : ℕ) → suc m ≤ suc n → m ≤ n
    fewer m n less = omega arith

pub past_poke : (n l m : ℕ) (what : Poked) (word : ℕ) (older : List Event) → m ≡ n + suc l → steps_among m (steps_on n (Poke what word ∷ older)) ≡ n + steps_among l older
past_poke zero l m what word older is =
    let e : m ≡ suc l = omega (arith, is) in
    let none : steps_among l older ≡ 0 + steps_among l older = omega arith in
    ap (λ m. steps_among m (Poke what word ∷ older)) e ∙ none
past_poke (suc n) l zero what word older is = absurd (none n l is)
  where
    none : (n l : ℕ) → 0 ≡ suc n + suc l → ⊥
    none n l is = omega arith
past_poke (suc n) l (suc m) what word older is =
    let fewer : m ≡ n + suc l = omega (arith, is) in
    let more : suc (n + steps_among l older) ≡ suc n + steps_among l older = omega arith in
    ap suc (past_poke n l m what word older fewer) ∙ more

-- what is left of the events where so many of the last pokes are passed
abbrev pub left_events : List NotedPoke → (passed steps : ℕ) → List Event
left_events pokes passed steps = events_of (take (length pokes - passed) pokes) steps

pub next_left : (pokes : List NotedPoke) (passed steps : ℕ) (any : NotedPoke) → passed < length pokes
    → left_events pokes passed steps
    ≡ steps_on steps (poke_of (get_or pokes (length pokes - 1 - passed) any) ∷ left_events pokes (passed + 1) (get_or pokes (length pokes - 1 - passed) any).steps)
next_left pokes passed steps any inside =
    let i = length pokes - 1 - passed in
    let here : i < length pokes = omega arith in
    let one : length pokes - passed ≡ i + 1 = omega arith in
    let rest : i ≡ length pokes - (passed + 1) = omega arith in
    let note = get_or pokes i any in
    ap (λ n. events_of (take n pokes) steps) one ∙ ap (λ notes. events_of notes steps) (take_more pokes i any here)
    ∙ ap (steps_on steps) (noted_last [] (take i pokes) note)
    ∙ ap (λ n. steps_on steps (poke_of note ∷ steps_on note.steps (noted [] (take n pokes)))) rest

-- so many of the last pokes and the steps after them are passed, and so many events are left of those that can be taken back
pub record HavePassed (pokes : List NotedPoke) (all kept passed left steps : ℕ) : Type 0 where
  pub inside : left ≤ length (left_events pokes passed steps)
  pub count : steps_among kept (events_of pokes all) + left + passed ≡ steps_among left (left_events pokes passed steps) + kept

pub none_passed : (pokes : List NotedPoke) (all kept : ℕ) → kept ≤ length (events_of pokes all) → HavePassed pokes all kept 0 kept all
none_passed pokes all kept inside =
    let same : pokes ≡ take (length pokes - 0) pokes = all_taken pokes in
    record {
      inside = subst (λ notes. kept ≤ length (events_of notes all)) same inside;
      count = let e = ap (λ notes. steps_among kept (events_of notes all)) same in omega (arith, e);
    }
  where
    all_taken : (pokes : List NotedPoke) → pokes ≡ take (length pokes - 0) pokes
    all_taken pokes = sym (take_all (length pokes - 0) pokes (omega arith))

pub one_passed : (pokes : List NotedPoke) (all kept passed left steps : ℕ) (any : NotedPoke) → passed < length pokes → steps < left → HavePassed pokes all kept passed left steps
    → HavePassed pokes all kept (passed + 1) (left - (steps + 1)) (get_or pokes (length pokes - 1 - passed) any).steps
one_passed pokes all kept passed left steps any inside more h =
    let note = get_or pokes (length pokes - 1 - passed) any in
    let rest = left_events pokes (passed + 1) note.steps in
    let is = next_left pokes passed steps any inside in
    let l = left - (steps + 1) in
    let split : left ≡ steps + suc l = omega arith in
    let counted = ap (steps_among left) is ∙ past_poke steps l left (poked_in note.depth (poked_at note.shown note.at)) note.word rest split in
    let long = ap length is ∙ many_steps steps (poke_of note ∷ rest) in
    record {
      inside = let i = h.inside in omega (arith, i, long, split);
      count = let c = h.count in omega (arith, c, counted, split);
    }

-- only steps are left
pub only_steps : (pokes : List NotedPoke) (all kept passed left steps : ℕ) → HavePassed pokes all kept passed left steps → left ≤ steps
    → steps_among kept (events_of pokes all) + passed ≡ kept
only_steps pokes all kept passed left steps h less =
    let e = among_steps left steps (noted [] (take (length pokes - passed) pokes)) less in
    let c = h.count in
    omega (arith, e, c)

pub all_passed : (pokes : List NotedPoke) (all kept passed left steps : ℕ) → HavePassed pokes all kept passed left steps → length pokes ≤ passed → passed ≤ length pokes
    → steps_among kept (events_of pokes all) + length pokes ≡ kept
all_passed pokes all kept passed left steps h past within =
    let none : length pokes - passed ≡ 0 = omega arith in
    let many = ap (λ n. length (events_of (take n pokes) steps)) none ∙ many_steps steps [] in
    let i = h.inside in
    let less : left ≤ steps = omega (arith, many, i) in
    let e = only_steps pokes all kept passed left steps h less in
    omega (arith, e)
