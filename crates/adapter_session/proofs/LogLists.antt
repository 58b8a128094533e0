-- Messages that breakpoints get, one after another.
use Rattle.std.proofs.Common.{◌≡◌, ap, sym, ◌∙◌, ℕ, ◌+◌, ◌<◌, ◌≤◌, List, Option, None, length, drop, get_or, map}
use Rattle.std.proofs.lemmas.List.{at_drop_more, at_drop_all}
use Rattle.debug_answers.specs.declared.stops.NumberedStop.{NumberedStop}
use Rattle.conditional_stops.specs.Tables.{Table}
use Rattle.log_points.specs.Points.{Log, message_of, silenced}
use Rattle.adapter_session.specs.declared.changes.Asked.{Asked}
use Rattle.adapter_session.specs.Changes.{asked_view}
use Rattle.adapter_session.specs.Given.{all_numbers}
use Rattle.adapter_session.specs.Terms.{FunctionStop, Terms, anew, carried_logs, first_logged, logged}

-- one more gets its message
pub logs_more : (asked : List Asked) (i : ℕ) (x : Asked) (before after : List ℕ) (old new total : List Log) → i < length asked
    → new ≡ first_logged before (asked_view (get_or asked i x)).log old → after ≡ drop 1 before
    → logged (map asked_view (drop i asked)) before old ≡ total → logged (map asked_view (drop (i + 1) asked)) after new ≡ total
logs_more asked i x before after old new total within given behind so =
    let others = map asked_view (drop (i + 1) asked) in
    ap (λ left. logged others left new) behind
    ∙ ap (λ l. logged others (drop 1 before) l) given
    ∙ sym (ap (λ list. logged list before old) (at_drop_more (map asked_view) asked i x within))
    ∙ so

pub logs_end : (asked : List Asked) (i : ℕ) (left : List ℕ) (logs total : List Log) → length asked ≤ i → logged (map asked_view (drop i asked)) left logs ≡ total → logs ≡ total
logs_end asked i left logs total past so = sym (ap (λ list. logged list left logs) (at_drop_all (map asked_view) asked i past)) ∙ so

-- ---- made anew

-- one more is carried
pub carries_log : (asked : List Log) (old : List NumberedStop) (i : ℕ) (x : NumberedStop) (before after : List ℕ) (logs new total : List Log) → i < length old
    → new ≡ first_logged before (message_of (get_or old i x).number asked) logs → after ≡ drop 1 before
    → carried_logs asked (all_numbers (drop i old)) before logs ≡ total → carried_logs asked (all_numbers (drop (i + 1) old)) after new ≡ total
carries_log asked old i x before after logs new total within given behind so =
    let others = all_numbers (drop (i + 1) old) in
    ap (λ left. carried_logs asked others left new) behind
    ∙ ap (λ l. carried_logs asked others (drop 1 before) l) given
    ∙ sym (ap (λ olds. carried_logs asked olds before logs) (at_drop_more all_numbers old i x within))
    ∙ so

pub carried_end : (asked : List Log) (old : List NumberedStop) (i : ℕ) (left : List ℕ) (logs total : List Log) → length old ≤ i → carried_logs asked (all_numbers (drop i old)) left logs ≡ total → logs ≡ total
carried_end asked old i left logs total past so = sym (ap (λ olds. carried_logs asked olds left logs) (at_drop_all all_numbers old i past)) ∙ so

-- ---- terms of which no stop was passed yet

abbrev pub terms : (asked left : Table) → List Log → (kept : Table) → (functions : List FunctionStop) → (entry : Option ℕ) → Terms
terms asked left logs kept functions entry = record { asked = asked; left = left; logs = logs; log_left = kept; functions = functions; entry = entry }

pub made_anew : (table asked before left kept : Table) (logs : List Log) (functions : List FunctionStop) → asked ≡ table → before ≡ table → left ≡ silenced logs before → kept ≡ table → terms asked left logs kept functions None ≡ anew table logs functions
made_anew table asked before left kept logs functions asked_is before_is left_is kept_is =
    ap (λ a. terms a left logs kept functions None) asked_is
    ∙ ap (λ l. terms table l logs kept functions None) (left_is ∙ ap (silenced logs) before_is)
    ∙ ap (λ k. terms table (silenced logs table) logs k functions None) kept_is

-- and those of stops of which some came in place of others
pub made_so : (asked left kept asked_is left_is kept_is : Table) (logs logs_are : List Log) (functions functions_are : List FunctionStop) (entry : Option ℕ) → asked ≡ asked_is → left ≡ left_is → logs ≡ logs_are → kept ≡ kept_is → functions ≡ functions_are
    → terms asked left logs kept functions entry ≡ terms asked_is left_is logs_are kept_is functions_are entry
made_so asked left kept asked_is left_is kept_is logs logs_are functions functions_are entry a l g k f =
    ap (λ a. terms a left logs kept functions entry) a
    ∙ ap (λ l. terms asked_is l logs kept functions entry) l
    ∙ ap (λ g. terms asked_is left_is g kept functions entry) g
    ∙ ap (λ k. terms asked_is left_is logs_are k functions entry) k
    ∙ ap (λ f. terms asked_is left_is logs_are kept_is f entry) f
