-- Where a comment ends.
use Rattle.std.proofs.Common.{◌≡◌, inl, inr, ℕ, suc, ◌+◌, ◌<◌, ◌≤◌, List, [], ◌∷◌, ◌++◌, length, drop, Option, Some, None, Bool, true, false, cond, refl, sym, ap, ◌∙◌, arith, add-one, get_or, drop-cons}
use Rattle.std.specs.Prelude.{nat_eq}
use Rattle.std.specs.List.{starts_with}
use Rattle.gang_model.specs.Source.Lexes.{NoClose}
use Rattle.ispc_lexer.specs.Pieces.{closed_at, one_more, begins_close}
use Rattle.ispc_lexer.proofs.Runs.{which, starts_sound, starts_again, starts_not, drop_past}
use Rattle.std.proofs.lemmas.Option.{same_Some}

-- the count so far, and what the rest has
abbrev pub more_by : ℕ → Option ℕ → Option ℕ
more_by n None = None
more_by n (Some m) = Some (m + n)

more_by-one : (n : ℕ) (o : Option ℕ) → more_by n (one_more o) ≡ more_by (n + 1) o
more_by-one n None = refl
more_by-one n (Some m) = ap (λ (k : ℕ). Some k) (omega arith)

more_by-zero : (o : Option ℕ) → more_by 0 o ≡ o
more_by-zero None = refl
more_by-zero (Some m) = ap (λ (k : ℕ). Some k) (omega arith)

pub close_start : (bs : List ℕ) → more_by 0 (closed_at (drop 0 bs)) ≡ closed_at bs
close_start [] = more_by-zero _
close_start (b ∷ bs) = more_by-zero _

closed_here : (xs : List ℕ) (b : ℕ) (bs : List ℕ) → xs ≡ b ∷ bs → begins_close xs ≡ true → closed_at xs ≡ Some 2
unfolding closed_at
closed_here xs b bs is e = let e2 : begins_close (b ∷ bs) ≡ true = ap begins_close (sym is) ∙ e in rw (is, e2) refl

closed_later : (xs : List ℕ) (b : ℕ) (bs : List ℕ) → xs ≡ b ∷ bs → begins_close xs ≡ false → closed_at xs ≡ one_more (closed_at bs)
unfolding closed_at
closed_later xs b bs is e = let e2 : begins_close (b ∷ bs) ≡ false = ap begins_close (sym is) ∙ e in rw (is, e2) refl

pub close_found : (bs : List ℕ) (i : ℕ) (total : Option ℕ) → i < length bs → begins_close (drop i bs) ≡ true → more_by i (closed_at (drop i bs)) ≡ total → Some (i + 2) ≡ total
close_found bs i total lt e so_far =
    let here : more_by i (closed_at (drop i bs)) ≡ Some (i + 2) = rw (closed_here (drop i bs) (get_or bs i 0) (drop (suc i) bs) (drop-cons bs i 0 lt) e) (ap (λ (k : ℕ). Some k) (omega arith)) in
    sym here ∙ so_far

pub close_next : (bs : List ℕ) (i : ℕ) (total : Option ℕ) → i < length bs → begins_close (drop i bs) ≡ false → more_by i (closed_at (drop i bs)) ≡ total → more_by (i + 1) (closed_at (drop (i + 1) bs)) ≡ total
close_next bs i total lt e so_far =
    let here : closed_at (drop i bs) ≡ one_more (closed_at (drop (i + 1) bs)) = closed_later (drop i bs) (get_or bs i 0) (drop (suc i) bs) (drop-cons bs i 0 lt) e ∙ rw add-one refl in
    sym (more_by-one i (closed_at (drop (i + 1) bs))) ∙ ap (more_by i) (sym here) ∙ so_far

pub close_end : (bs : List ℕ) (i : ℕ) (total : Option ℕ) → length bs ≤ i → more_by i (closed_at (drop i bs)) ≡ total → None ≡ total
unfolding closed_at
close_end bs i total le so_far =
    let none_left : drop i bs ≡ [] = drop_past bs i le in
    let here : more_by i (closed_at (drop i bs)) ≡ None = rw none_left refl in
    sym here ∙ so_far

-- ---- the bytes of the comment

pub closes : (bs : List ℕ) (n : ℕ) → closed_at bs ≡ Some n → (body : List ℕ) × (mid : List ℕ) × (bs ≡ body ++ (42 ∷ 47 ∷ mid)) × (n ≡ length body + 2) × NoClose body
unfolding closed_at begins_close
closes [] n e = absurd cc
closes (b ∷ bs) n e =
    elim (which (starts_with nat_eq (b ∷ bs) (42 ∷ 47 ∷ [])) _ _ (Some n) e) [
      | inl q ↦ ([], drop 2 (b ∷ bs), starts_sound (b ∷ bs) (42 ∷ 47 ∷ []) q.0, sym (same_Some 2 n q.1), tt)
      | inr q ↦ later (closed_at bs) refl (closes bs) q.0 q.1
    ]
  where
    later : (o : Option ℕ) → closed_at bs ≡ o → ((m : ℕ) → closed_at bs ≡ Some m → (body : List ℕ) × (mid : List ℕ) × (bs ≡ body ++ (42 ∷ 47 ∷ mid)) × (m ≡ length body + 2) × NoClose body) → starts_with nat_eq (b ∷ bs) (42 ∷ 47 ∷ []) ≡ false → one_more o ≡ Some n → (body : List ℕ) × (mid : List ℕ) × (b ∷ bs ≡ body ++ (42 ∷ 47 ∷ mid)) × (n ≡ length body + 2) × NoClose body
    later None h inner other k = absurd cc
    later (Some m) h inner other k =
        let r = inner m h in
        let same : m + 1 ≡ n = same_Some (m + 1) n k in (
          b ∷ r.0,
          r.1,
          ap (λ (xs : List ℕ). b ∷ xs) r.2,
          omega (arith, r.3),
          (
            λ more is. let first : b ∷ bs ≡ 42 ∷ 47 ∷ (more ++ (42 ∷ 47 ∷ r.1)) = ap (λ (xs : List ℕ). b ∷ xs) r.2 ∙ ap (λ (xs : List ℕ). xs ++ (42 ∷ 47 ∷ r.1)) is in
                let yes = starts_again (b ∷ bs) (42 ∷ 47 ∷ []) (more ++ (42 ∷ 47 ∷ r.1)) first in absurd cc,
            r.4,
          ),
        )

two_more : (b : ℕ) (body mid more : List ℕ) → b ∷ (body ++ (42 ∷ 47 ∷ mid)) ≡ 42 ∷ 47 ∷ more → ((x : List ℕ) → b ∷ body ≡ 42 ∷ 47 ∷ x → ⊥) → ⊥
two_more b [] mid more e h =
    let same : ◌≡◌ {A = ℕ} 42 47 = ap (λ (xs : List ℕ). get_or xs 1 0) e in omega arith
two_more b (c ∷ body) mid more e h =
    let first : b ≡ 42 = cc in
    let second : c ≡ 47 = cc in
    h body (rw (first, second) refl)

pub closes_again : (body mid : List ℕ) → NoClose body → closed_at (body ++ (42 ∷ 47 ∷ mid)) ≡ Some (length body + 2)
unfolding closed_at begins_close
closes_again [] mid h = refl
closes_again (b ∷ body) mid h =
    go (starts_with nat_eq (b ∷ (body ++ (42 ∷ 47 ∷ mid))) (42 ∷ 47 ∷ [])) (starts_not (b ∷ (body ++ (42 ∷ 47 ∷ mid))) (42 ∷ 47 ∷ []) (λ more e. two_more b body mid more e h.0)) (closes_again body mid h.1)
  where
    go : (v : Bool) → v ≡ false → closed_at (body ++ (42 ∷ 47 ∷ mid)) ≡ Some (length body + 2) → cond v (Some 2) (one_more (closed_at (body ++ (42 ∷ 47 ∷ mid)))) ≡ Some (length (b ∷ body) + 2)
    go true e later = absurd cc
    go false e later = rw later (ap (λ (k : ℕ). Some k) (omega arith))
