-- Which of many children an editor asks for.
use Rattle.std.specs.Prelude.{ℕ, zero, suc, Bool, ◌||◌, List, [], drop, is_some, min, take, Option, Some, None, unwrap_or}
use Rattle.adapter_requests.specs.declared.request.Filter.{Filter}
use Rattle.adapter_requests.specs.declared.request.Filter.TheVariants as filter
use Rattle.adapter_requests.specs.declared.request.Page.{Page}

-- so many from the front, all where no number or 0 is given
abbrev pub limited : {A : Type 0} → (count : Option ℕ) → List A → List A
limited None xs = xs
limited (Some zero) xs = xs
limited (Some (suc n)) xs = take (suc n) xs

-- how many of so many that are
abbrev pub page_count : (count : Option ℕ) → (left : ℕ) → ℕ
page_count None left = left
page_count (Some zero) left = left
page_count (Some (suc n)) left = min (suc n) left

-- those of a list for which a page asks: from its start on, as many as it counts
abbrev pub paged : {A : Type 0} → Page → List A → List A
paged page xs = limited page.count (drop (unwrap_or page.start 0) xs)

-- whether a page asks for children by their places
abbrev pub asks_places : Page → Bool
asks_places page = is_some page.start || is_some page.count

-- children that have names, unless a page asks for the others alone
abbrev pub named_children : {A : Type 0} → Filter → List A → List A
named_children filter.Indexed xs = []
named_children other xs = xs

-- lanes and elements, unless a page asks for the others alone
abbrev pub indexed_children : {A : Type 0} → Filter → List A → List A
indexed_children filter.Named xs = []
indexed_children other xs = xs
