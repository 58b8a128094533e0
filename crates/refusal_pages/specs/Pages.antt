-- The names of all pages, and what writes them.
use Rattle.std.specs.Prelude.{ℕ, List, [], ◌∷◌, ◌++◌, Bool, ◌||◌, codes}
use Rattle.std.specs.Str.{str_eq_ignore_ascii_case}
use Rattle.refusal_pages.specs.declared.page.Page.{Page}
use Rattle.refusal_pages.specs.declared.topics.Heading.{Heading as Entry}

-- the number and the name of a refusal or a fault
abbrev pub Heading : Type 0
Heading = List ℕ × List ℕ

-- the refusals and faults that have a page
abbrev pub headings : List Heading
headings =
    (codes "S1", codes "BadByte") ∷
    (codes "S2", codes "BadNumber") ∷
    (codes "S3", codes "Unexpected") ∷
    (codes "S4", codes "TooDeep") ∷
    (codes "S5", codes "UnknownName") ∷
    (codes "S6", codes "Duplicate") ∷
    (codes "S7", codes "Rate") ∷
    (codes "S8", codes "Type") ∷
    (codes "S9", codes "NoOverload") ∷
    (codes "S10", codes "Ambiguous") ∷
    (codes "S11", codes "BadControl") ∷
    (codes "S12", codes "NestedCall") ∷
    (codes "S13", codes "Limit") ∷
    (codes "E1", codes "NoEntry") ∷
    (codes "E2", codes "NoScript") ∷
    (codes "I1", codes "BadLine") ∷
    (codes "I2", codes "Missing") ∷
    (codes "I3", codes "Range") ∷
    (codes "I4", codes "TooLarge") ∷
    (codes "F1", codes "DivideByZero") ∷
    (codes "F2", codes "Index") ∷
    (codes "F3", codes "LaneIndex") ∷
    (codes "F4", codes "Assert") ∷
    (codes "F5", codes "CallDepth") ∷
    (codes "C1", codes "BadCommand") ∷
    (codes "C2", codes "NoSuchName") ∷
    (codes "C3", codes "NoHistory") ∷
    (codes "C4", codes "Ended") ∷
    (codes "C6", codes "Outermost") ∷
    (codes "C7", codes "NoLine") ∷
    (codes "C8", codes "OutOfRange") ∷
    (codes "C9", codes "Constant") ∷
    (codes "C10", codes "NoSuchNumber") ∷
    (codes "C11", codes "TableFull") ∷
    (codes "C12", codes "Memory") ∷ []

-- whether this is the number or the name of a heading, in letters of either case
abbrev pub is_named : List ℕ → Heading → Bool
is_named name heading = str_eq_ignore_ascii_case name heading.0 || str_eq_ignore_ascii_case name heading.1

-- the heading of an entry of the list
abbrev pub heading_view : Entry → Heading
heading_view entry = (entry.number.now, entry.name.now)

-- the heading of a page
abbrev pub heading_of : Page → Heading
heading_of page = (page.number.now, page.name.now)

-- what is written of a page: its heading, a line without anything, its text
abbrev pub page_text : Page → List ℕ
page_text page = page.number.now ++ codes " " ++ page.name.now ++ codes "\n\n" ++ page.text.now
