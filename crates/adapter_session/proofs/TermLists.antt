-- Conditions and counts that breakpoints and watches get, one after another.
use Rattle.std.proofs.Common.{◌≡◌, refl, ap, sym, ◌∙◌, ℕ, ◌+◌, ◌<◌, ◌≤◌, List, [], ◌∷◌, length, drop, get_or, map}
use Rattle.std.proofs.lemmas.List.{at_drop_more, at_drop_all, drop-map, drop_all}
use Rattle.gang_model.specs.Debugger.Debugger as model
use Rattle.gang_model.specs.Debugger.Debugger.{Setting}
use Rattle.debug_answers.specs.declared.stops.NumberedStop.{NumberedStop}
use Rattle.debug_answers.specs.Meanings.{AreStops}
use Rattle.conditional_stops.specs.Tables.{Table, condition_of, passes_of}
use Rattle.adapter_session.specs.declared.changes.Asked.{Asked}
use Rattle.adapter_session.specs.Changes.{asked_view}
use Rattle.adapter_session.specs.Given.{all_numbers}
use Rattle.adapter_session.specs.Restored.{numbers}
use Rattle.adapter_session.specs.Terms.{carried, first_given, numbered}

-- the numbers of the stops behind so many, and of none
pub those_behind : (many : ℕ) (stops : List NumberedStop) → all_numbers (drop many stops) ≡ drop many (all_numbers stops)
those_behind many stops = sym (drop-map (λ (entry : NumberedStop). entry.number) many stops)

pub none_behind : (many : ℕ) (stops : List NumberedStop) → length stops ≤ many → [] ≡ drop many (all_numbers stops)
none_behind many stops past = sym (ap all_numbers (drop_all many stops past)) ∙ those_behind many stops

-- one more is given
pub gives_more : (asked : List Asked) (i : ℕ) (x : Asked) (before after : List ℕ) (old new total : Table) → i < length asked
    → new ≡ first_given before (asked_view (get_or asked i x)).condition (asked_view (get_or asked i x)).passes old → after ≡ drop 1 before
    → numbered (map asked_view (drop i asked)) before old ≡ total → numbered (map asked_view (drop (i + 1) asked)) after new ≡ total
gives_more asked i x before after old new total within given behind so =
    let others = map asked_view (drop (i + 1) asked) in
    ap (λ left. numbered others left new) behind
    ∙ ap (λ t. numbered others (drop 1 before) t) given
    ∙ sym (ap (λ list. numbered list before old) (at_drop_more (map asked_view) asked i x within))
    ∙ so

pub gives_end : (asked : List Asked) (i : ℕ) (left : List ℕ) (table total : Table) → length asked ≤ i → numbered (map asked_view (drop i asked)) left table ≡ total → table ≡ total
gives_end asked i left table total past so = sym (ap (λ list. numbered list left table) (at_drop_all (map asked_view) asked i past)) ∙ so

-- ---- made anew

-- one more is carried
pub carries_more : (asked : Table) (old : List NumberedStop) (i : ℕ) (x : NumberedStop) (before after : List ℕ) (table new total : Table) → i < length old
    → new ≡ first_given before (condition_of (get_or old i x).number asked) (passes_of (get_or old i x).number asked) table → after ≡ drop 1 before
    → carried asked (all_numbers (drop i old)) before table ≡ total → carried asked (all_numbers (drop (i + 1) old)) after new ≡ total
carries_more asked old i x before after table new total within given behind so =
    let others = all_numbers (drop (i + 1) old) in
    ap (λ left. carried asked others left new) behind
    ∙ ap (λ t. carried asked others (drop 1 before) t) given
    ∙ sym (ap (λ olds. carried asked olds before table) (at_drop_more all_numbers old i x within))
    ∙ so

pub carries_end : (asked : Table) (old : List NumberedStop) (i : ℕ) (left : List ℕ) (table total : Table) → length old ≤ i → carried asked (all_numbers (drop i old)) left table ≡ total → table ≡ total
carries_end asked old i left table total past so = sym (ap (λ olds. carried asked olds left table) (at_drop_all all_numbers old i past)) ∙ so

-- the numbers are those of the definitions
pub numbers_same : (s : Setting) (given : List NumberedStop) (meant : List (ℕ × model.Stop)) → AreStops s given meant → all_numbers given ≡ numbers meant
numbers_same s [] [] are = refl
numbers_same s [] (m ∷ ms) are = absurd are
numbers_same s (x ∷ xs) [] are = absurd are
numbers_same s (x ∷ xs) (m ∷ ms) (number, is, others) = ap (λ n. n ∷ all_numbers xs) number ∙ ap (λ ns. m.0 ∷ ns) (numbers_same s xs ms others)
