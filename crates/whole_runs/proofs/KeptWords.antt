-- How many words the start of a run and copies of other moments have together, and rows of how many copies there can be.
use Rattle.std.proofs.Common.{◌≡◌, refl, sym, ◌∙◌, arith, ℕ, suc, ◌*◌, List, [], ◌∷◌, length}
use Rattle.std.specs.Prelude.{All, slice_index_or, sum_by}
use Rattle.std.proofs.lemmas.List.Elements.{All-head, All-tail}
use Rattle.std.proofs.lemmas.List.Sums.{sum_by-cons}
use Rattle.whole_runs.specs.declared.copies.CopiedMoment.{CopiedMoment}
use Rattle.whole_runs.specs.Copies.{KeptMoments, kept_words, most_copies}
use Rattle.whole_runs.specs.Runs.{CanHaveAll}

-- copies that are equally long
equally_long : (n : ℕ) (copies : List CopiedMoment) → All (λ c. length c.words.items ≡ n) copies → sum_by (λ c. length c.words.items) copies ≡ length copies * n
equally_long n [] all = omega arith
equally_long n (c ∷ copies) all =
    let one = All-head (λ c. length c.words.items ≡ n) c copies all in
    let rest = equally_long n copies (All-tail (λ c. length c.words.items ≡ n) c copies all) in
    sum_by-cons (λ c. length c.words.items) c copies ∙ omega (arith, one, rest)

-- all that a machine can have is as long as the start
pub words_of_all : {M : Type 0} (can_have : M → List ℕ → Type 0) (count : M → ℕ) → ((m : M) (words : List ℕ) → can_have m words → length words ≡ count m)
    → (inner : M) (kept : KeptMoments) → CanHaveAll can_have inner kept.start kept.copies → kept_words kept ≡ suc (length kept.copies) * length kept.start
words_of_all can_have count as_many inner kept (first, rest) =
    let start = as_many inner kept.start first in
    let others = equally_long (length kept.start) kept.copies (λ k e inside. as_many inner (slice_index_or kept.copies k e).words.items (rest k e inside) ∙ sym start) in
    omega (arith, others)

-- ---- rows

small_machines_have_many : most_copies 2000 ≡ 1024
small_machines_have_many = refl

large_machines_have_fewer : most_copies 100000 ≡ 83
large_machines_have_fewer = refl

the_largest_have_eight : most_copies 100000000 ≡ 8
the_largest_have_eight = refl

no_words_count_as_one : most_copies 0 ≡ 1024
no_words_count_as_one = refl
