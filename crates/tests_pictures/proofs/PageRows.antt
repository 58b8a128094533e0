-- Names and the headings of their pages, computed from the list.
use Rattle.std.specs.Prelude.{◌≡◌, refl, Some, None, codes, find, length}
use Rattle.refusal_pages.specs.Pages.{headings, is_named}

by_number : find (is_named (codes "S7")) headings ≡ Some (codes "S7", codes "Rate")
by_number = refl

in_other_case : find (is_named (codes "rATE")) headings ≡ Some (codes "S7", codes "Rate")
in_other_case = refl

last_one : find (is_named (codes "c12")) headings ≡ Some (codes "C12", codes "Memory")
last_one = refl

-- a number that no refusal has, one that goes on, and nothing
no_number : find (is_named (codes "C5")) headings ≡ None
no_number = refl

longer : find (is_named (codes "S77")) headings ≡ None
longer = refl

nothing : find (is_named (codes "")) headings ≡ None
nothing = refl

as_many : length headings ≡ 35
as_many = refl
