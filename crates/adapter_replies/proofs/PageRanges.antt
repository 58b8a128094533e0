-- Numbers one after another, as a page asks for them.
use Rattle.std.proofs.Common.{◌≡◌, refl, ap, ap₂, ◌∙◌, sym, ℕ, zero, suc, ◌+◌, ◌-◌, ◌≤◌, List, [], ◌∷◌, drop, map, take, Option, Some, None, arith}
use Rattle.std.specs.Prelude.{min, unwrap_or}
use Rattle.std.specs.List.{range_with_len}
use Rattle.adapter_requests.specs.declared.request.Filter.{Filter}
use Rattle.adapter_requests.specs.declared.request.Filter.TheVariants as filter
use Rattle.adapter_requests.specs.declared.request.Page.{Page}
use Rattle.adapter_replies.specs.Pages.{limited, named_children, page_count, paged}

-- behind the first k
range_behind : (first count k : ℕ) → drop k (range_with_len first count) ≡ range_with_len (first + min k count) (count - min k count)
range_behind first zero zero = refl
range_behind first zero (suc k) = let none : 0 - min (suc k) 0 ≡ 0 = omega arith in rw none refl
range_behind first (suc n) zero =
    let a : first ≡ first + min 0 (suc n) = omega arith in
    let b : suc n ≡ suc n - min 0 (suc n) = omega arith in
    ap₂ range_with_len a b
range_behind first (suc n) (suc k) =
    let a : first + 1 + min k n ≡ first + min (suc k) (suc n) = omega arith in
    let b : n - min k n ≡ suc n - min (suc k) (suc n) = omega arith in
    range_behind (first + 1) n k ∙ ap₂ range_with_len a b

-- the first k
range_front : (first count k : ℕ) → take k (range_with_len first count) ≡ range_with_len first (min k count)
range_front first zero zero = refl
range_front first zero (suc k) = let none : min (suc k) 0 ≡ 0 = omega arith in rw none refl
range_front first (suc n) zero = let none : min 0 (suc n) ≡ 0 = omega arith in rw none refl
range_front first (suc n) (suc k) =
    let same : min (suc k) (suc n) ≡ suc (min k n) = omega arith in
    ap (λ l. first ∷ l) (range_front (first + 1) n k) ∙ ap (range_with_len first) (sym same)

limited_range : (count : Option ℕ) (first left : ℕ) → limited count (range_with_len first left) ≡ range_with_len first (page_count count left)
limited_range None first left = refl
limited_range (Some zero) first left = refl
limited_range (Some (suc n)) first left = range_front first left (suc n)

pub page_within : (count : Option ℕ) (left : ℕ) → page_count count left ≤ left
page_within None left = omega arith
page_within (Some zero) left = omega arith
page_within (Some (suc n)) left = omega arith

-- the numbers for which a page asks
pub paged_range : (page : Page) (first count : ℕ) → let skipped = min (unwrap_or page.start 0) count in
    paged page (range_with_len first count) ≡ range_with_len (first + skipped) (page_count page.count (count - skipped))
paged_range page first count =
    let start = unwrap_or page.start 0 in
    let skipped = min start count in
    ap (limited page.count) (range_behind first count start) ∙ limited_range page.count (first + skipped) (count - skipped)

-- ---- what is shown of those for which a page asks

map_front : {A B : Type 0} (f : A → B) (n : ℕ) (xs : List A) → map f (take n xs) ≡ take n (map f xs)
map_front f zero [] = refl
map_front f zero (x ∷ xs) = refl
map_front f (suc n) [] = refl
map_front f (suc n) (x ∷ xs) = ap (λ l. f x ∷ l) (map_front f n xs)

map_behind : {A B : Type 0} (f : A → B) (n : ℕ) (xs : List A) → map f (drop n xs) ≡ drop n (map f xs)
map_behind f zero [] = refl
map_behind f zero (x ∷ xs) = refl
map_behind f (suc n) [] = refl
map_behind f (suc n) (x ∷ xs) = map_behind f n xs

map_limited : {A B : Type 0} (f : A → B) (count : Option ℕ) (xs : List A) → map f (limited count xs) ≡ limited count (map f xs)
map_limited f None xs = refl
map_limited f (Some zero) xs = refl
map_limited f (Some (suc n)) xs = map_front f (suc n) xs

pub map_paged : {A B : Type 0} (f : A → B) (page : Page) (xs : List A) → map f (paged page xs) ≡ paged page (map f xs)
map_paged f page xs =
    let start = unwrap_or page.start 0 in
    map_limited f page.count (drop start xs) ∙ ap (limited page.count) (map_behind f start xs)

map_filtered : {A B : Type 0} (f : A → B) (kind : Filter) (xs : List A) → map f (named_children kind xs) ≡ named_children kind (map f xs)
map_filtered f filter.All xs = refl
map_filtered f filter.Named xs = refl
map_filtered f filter.Indexed xs = refl

-- the variables of a scope
pub map_named : {A B : Type 0} (f : A → B) (page : Page) (xs : List A) → map f (named_children page.filter (paged page xs)) ≡ named_children page.filter (paged page (map f xs))
map_named f page xs = map_filtered f page.filter (paged page xs) ∙ ap (named_children page.filter) (map_paged f page xs)
