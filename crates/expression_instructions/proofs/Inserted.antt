-- A value inserted in the lane that an index names, by comparing indices with the lanes' own numbers.
use Rattle.std.proofs.Common.{◌≡◌, refl, sym, ap, ◌∙◌, ℕ, Bool, true, false, cond, List, length}
use Rattle.std.specs.Prelude.{Result, Ok, Err, not, nat_eq, ◌==◌, if◌then◌else◌}
use Rattle.gang_types.specs.declared.faults.FaultName.{FaultName}
use Rattle.gang_types.specs.declared.operators.BinaryOp.TheVariants.{Equal}
use Rattle.gang_types.specs.declared.types.IntType.TheVariants.{Uint64}
use Rattle.gang_types.specs.Values.{binary_of, binary_result}
use Rattle.gang_types.specs.Laws.{equal_any}
use Rattle.gang_types.specs.Lanes.{Lanes, has}
use Rattle.gang_model.specs.Running.Lanes.{Fault, each, try_each, at, holds}
use Rattle.cross_lane.specs.Calls.{values_in, answer_of}
use Rattle.cross_lane.specs.AttemptLaws.{all_ok}
use Rattle.cross_lane.specs.EachLaws.{each_same, lane_kept}

-- a comparison has no fault
compared : (lanes : Lanes) (numbers indices : List ℕ) → try_each lanes (λ k. binary_result Equal Uint64 (at numbers k) (at indices k)) ≡ Ok (each lanes (λ k. binary_of Equal Uint64 (at numbers k) (at indices k)))
compared lanes numbers indices = all_ok (length lanes) lanes (λ k. binary_result Equal Uint64 (at numbers k) (at indices k)) (λ k. binary_of Equal Uint64 (at numbers k) (at indices k)) refl (λ i h e. refl)

pub no_fault : (lanes : Lanes) (numbers indices : List ℕ) (r : Result (List ℕ) (ℕ × FaultName)) (found : ℕ × FaultName) → r ≡ Err found → answer_of r ≡ try_each lanes (λ k. binary_result Equal Uint64 (at numbers k) (at indices k)) → ⊥
no_fault lanes numbers indices r found e h = cc (ap answer_of (sym e) ∙ h ∙ compared lanes numbers indices)

value_or : List ℕ → Result (List ℕ) Fault → List ℕ
value_or none (Ok xs) = xs
value_or none (Err f) = none

same_value : (xs ys : List ℕ) (r : Result (List ℕ) Fault) → Ok xs ≡ r → r ≡ Ok ys → xs ≡ ys
unfolding value_or
same_value xs ys r e f = ap (value_or xs) (e ∙ f)

-- the word of a truth value holds where it is true
by_truth : (b : Bool) (x y : ℕ) → (if not (cond b 1 0 == 0) then x else y) ≡ (if b then x else y)
by_truth true x y = refl
by_truth false x y = refl

pub inserted_words : (lanes : Lanes) (numbers own indices news words : List ℕ) (r : Result (List ℕ) (ℕ × FaultName))
    → numbers ≡ each lanes (λ k. k) → r ≡ Ok own → answer_of r ≡ try_each lanes (λ k. binary_result Equal Uint64 (at numbers k) (at indices k))
    → each lanes (λ k. if holds own k then at news k else at words k) ≡ each lanes (λ k. if k == at indices k then at news k else at (values_in lanes words) k)
inserted_words lanes numbers own indices news words r n e h =
    each_same (length lanes) lanes (λ k. if holds own k then at news k else at words k) (λ k. if k == at indices k then at news k else at (values_in lanes words) k) refl
    (λ i l m.
    ap (λ x. if not (x == 0) then at news i else at words i) (test i m)
    ∙ by_truth (nat_eq i (at indices i)) (at news i) (at words i)
    ∙ ap (λ x. if i == at indices i then at news i else x) (sym (lane_kept lanes (at words) i m)))
  where
    own_is : own ≡ each lanes (λ k. binary_of Equal Uint64 (at numbers k) (at indices k))
    own_is = same_value own _ _ (sym (ap answer_of e) ∙ h) (compared lanes numbers indices)

    test : (i : ℕ) → has lanes i ≡ true → at own i ≡ cond (nat_eq i (at indices i)) 1 0
    test i m =
        ap (λ xs. at xs i) own_is
        ∙ lane_kept lanes (λ k. binary_of Equal Uint64 (at numbers k) (at indices k)) i m
        ∙ equal_any Uint64 (at numbers i) (at indices i)
        ∙ ap (λ k. cond (nat_eq k (at indices i)) 1 0) (ap (λ xs. at xs i) n ∙ lane_kept lanes (λ k. k) i m)
