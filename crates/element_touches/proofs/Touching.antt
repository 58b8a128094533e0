-- Counts with one touch after another.
use Rattle.std.proofs.Common.{◌≡◌, ap, ◌∙◌, ℕ, List, [], ◌∷◌, arith}
use Rattle.element_touches.specs.declared.counts.AccessCounts.{AccessCounts}
use Rattle.element_touches.specs.Counted.{counts_of, none, with_touch, with_touches}

abbrev counts : (a b c d e f : ℕ) → AccessCounts
counts a b c d e f = record { times = a; lanes = b; elements = c; consecutive = d; equal = e; scattered = f }

pub same_counts : (a b c d e f a' b' c' d' e' f' : ℕ) → a ≡ a' → b ≡ b' → c ≡ c' → d ≡ d' → e ≡ e' → f ≡ f' → counts a b c d e f ≡ counts a' b' c' d' e' f'
same_counts a b c d e f a' b' c' d' e' f' ea eb ec ed ee ef =
    ap (λ x. counts x b c d e f) ea ∙ ap (λ x. counts a' x c d e f) eb ∙ ap (λ x. counts a' b' x d e f) ec ∙ ap (λ x. counts a' b' c' x e f) ed
    ∙ ap (λ x. counts a' b' c' d' x f) ee ∙ ap (λ x. counts a' b' c' d' e' x) ef

-- a touch that was to come has been counted
pub touch_more : (c : AccessCounts) (touch : List ℕ) (touches : List (List ℕ)) → with_touches (with_touch c touch) touches ≡ with_touches c (touch ∷ touches)
touch_more c touch touches = same_counts _ _ _ _ _ _ _ _ _ _ _ _ (omega arith) (omega arith) (omega arith) (omega arith) (omega arith) (omega arith)

-- where none is to come, the counts are those that are there
pub none_more : (c : AccessCounts) → with_touches c [] ≡ c
none_more c = same_counts _ _ _ _ _ _ _ _ _ _ _ _ (omega arith) (omega arith) (omega arith) (omega arith) (omega arith) (omega arith)

-- and where none was, they are those to come
pub from_none : (touches : List (List ℕ)) → with_touches none touches ≡ counts_of touches
from_none touches = same_counts _ _ _ _ _ _ _ _ _ _ _ _ (omega arith) (omega arith) (omega arith) (omega arith) (omega arith) (omega arith)
