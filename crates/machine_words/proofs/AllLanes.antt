-- Values of all lanes of a gang.
use Rattle.std.proofs.Common.{ℕ, zero, suc, true, false, cond, ◌≡◌, refl, sym, ap, arith, List, [], ◌∷◌, length, slice_index}
use Rattle.std.specs.Prelude.{replicate}
use Rattle.std.proofs.lemmas.List.{get_or-replicate, length-replicate}
use Rattle.gang_model.specs.Running.Lanes.{at, each, merged}
use Rattle.cross_lane.specs.EachLaws.{each_is}

pub each_all : (w : ℕ) (values : List ℕ) → length values ≡ w → each (replicate w true) (λ k. at values k) ≡ values
each_all w values long =
    sym (each_is w (replicate w true) (λ k. at values k) values (length-replicate w true) long
    (λ i h. sym (ap (λ b. cond b (slice_index values i) 0) (get_or-replicate w i true false h))))

pub merged_all : (w : ℕ) (new old : List ℕ) → length new ≡ w → length old ≡ w → merged (replicate w true) new old ≡ new
merged_all zero [] old e f = refl
merged_all zero (x ∷ new) old e f = absurd (omega arith)
merged_all (suc w) [] old e f = absurd (omega arith)
merged_all (suc w) (x ∷ new) [] e f = absurd (omega arith)
merged_all (suc w) (x ∷ new) (y ∷ old) e f = ap (λ xs. x ∷ xs) (merged_all w new old (omega arith) (omega arith))
