-- The calls of a name in a table.
use Rattle.std.proofs.Common.{◌≡◌, ℕ, zero, suc, ◌+◌, ◌<◌, ◌≤◌, Bool, true, false, ◌&&◌, List, [], ◌∷◌, length, drop, get_or, refl, sym, ap, ◌∙◌, map}
use Rattle.std.specs.Prelude.{◌==◌, Option, Some, None, if◌then◌else◌}
use Rattle.std.specs.Borrow.{Bor}
use Rattle.std.proofs.lemmas.List.{drop_more}
use Rattle.std.proofs.lemmas.Bool.Decides.{nat_tests}
use Rattle.std.proofs.Common.{arith}
use Rattle.gang_model.specs.Types.LibraryTable as table
use Rattle.gang_model.specs.Source.Names.{same_text}
use Rattle.gang_model.specs.Source.Parsed.{Name}
use Rattle.type_check_library.specs.declared.calls.LibraryCall.{LibraryCall}
use Rattle.type_check_library.specs.Calls.{call_view, entry_view}

abbrev pub Entry : Type 0
Entry = Bor (List ℕ) × LibraryCall

-- the first call of this name and so many arguments
abbrev pub found_in : Name → ℕ → List Entry → Option table.LibraryCall
found_in name count entries = table.library_call_of name count (map entry_view entries)

-- whether an entry has this name and takes so many arguments
abbrev pub is_asked : Name → ℕ → Entry → Bool
is_asked name count e = same_text e.0.now name && (length (table.asked_by (call_view e.1)) == count)

-- an entry that is asked is found, where it is the next one
pub found_here : (name : Name) (count : ℕ) (entries : List Entry) (i : ℕ) (d : Entry)
    → i < length entries → is_asked name count (get_or entries i d) ≡ true → found_in name count (drop i entries) ≡ found_in name count entries
    → Some (call_view (get_or entries i d).1) ≡ found_in name count entries
found_here name count entries i d h asked so_far =
    sym (ap (λ t. if t then Some (call_view (get_or entries i d).1) else found_in name count (drop (i + 1) entries)) asked)
    ∙ (sym (ap (found_in name count) (drop_more entries i d h)) ∙ so_far)

-- what is found does not change at an entry that is not asked
pub found_later : (name : Name) (count : ℕ) (entries : List Entry) (i : ℕ) (d : Entry)
    → i < length entries → is_asked name count (get_or entries i d) ≡ false → found_in name count (drop i entries) ≡ found_in name count entries
    → found_in name count (drop (i + 1) entries) ≡ found_in name count entries
found_later name count entries i d h not_asked so_far =
    sym (ap (λ t. if t then Some (call_view (get_or entries i d).1) else found_in name count (drop (i + 1) entries)) not_asked)
    ∙ (sym (ap (found_in name count) (drop_more entries i d h)) ∙ so_far)

none_beyond : (name : Name) (count : ℕ) (entries : List Entry) (i : ℕ) → length entries ≤ i → None ≡ found_in name count (drop i entries)
none_beyond name count [] zero h = refl
none_beyond name count [] (suc i) h = refl
none_beyond name count (e ∷ entries) zero h = absurd (omega arith)
none_beyond name count (e ∷ entries) (suc i) h = none_beyond name count entries i (omega arith)

-- nothing is found where nothing is left
pub not_found : (name : Name) (count : ℕ) (entries : List Entry) (i : ℕ) → length entries ≤ i
    → found_in name count (drop i entries) ≡ found_in name count entries → None ≡ found_in name count entries
not_found name count entries i h so_far = none_beyond name count entries i h ∙ so_far

count_of_test : (named : Bool) (n count : ℕ) → (named && (n == count)) ≡ true → n ≡ count
count_of_test named n count h = grind (arith, nat_tests)

-- the call that is found takes so many arguments
pub count_of_found : (name : Name) (count : ℕ) (entries : List (Name × table.LibraryCall)) (call : table.LibraryCall)
    → table.library_call_of name count entries ≡ Some call → length (table.asked_by call) ≡ count
count_of_found name count [] call h = cc
count_of_found name count (e ∷ entries) call h =
    by (same_text e.0 name && (length (table.asked_by e.1) == count)) refl h (λ k. count_of_found name count entries call k)
  where
    by : (t : Bool) → (same_text e.0 name && (length (table.asked_by e.1) == count)) ≡ t
        → (if t then Some e.1 else table.library_call_of name count entries) ≡ Some call
        → (table.library_call_of name count entries ≡ Some call → length (table.asked_by call) ≡ count) → length (table.asked_by call) ≡ count
    by true asked found later =
        let same : e.1 ≡ call = cc in
        ap (λ f. length (table.asked_by f)) (sym same) ∙ count_of_test (same_text e.0 name) (length (table.asked_by e.1)) count asked
    by false asked found later = later found
