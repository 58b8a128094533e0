-- Sets of lanes that pass tests, and the truth values of their lanes.
use Rattle.std.proofs.Common.{ℕ, Bool, true, false, cond, ◌≡◌, refl, sym, ◌∙◌, ap, length}
use Rattle.std.specs.Prelude.{not, ◌&&◌, ◌||◌}
use Rattle.gang_types.specs.Lanes.{Lanes, has, without, lanes_where}
use Rattle.gang_types.specs.LaneLaws.{same_lanes, length-lanes_where, has-lanes_where, length-without, has-without}
use Rattle.gang_model.specs.Running.Lanes.{each, truth_word}
use Rattle.cross_lane.specs.EachLaws.{each_is, lane_each, length-each}

left_out : (b t : Bool) → (b && not (b && t)) ≡ (b && not t)
left_out true t = refl
left_out false t = refl

-- the lanes that fail a test
pub without_where : (lanes : Lanes) (test : ℕ → Bool) → without lanes (lanes_where lanes test) ≡ lanes_where lanes (λ k. not (test k))
without_where lanes test =
    same_lanes (without lanes (lanes_where lanes test)) (lanes_where lanes (λ k. not (test k)))
    (length-without lanes (lanes_where lanes test) ∙ sym (length-lanes_where lanes (λ k. not (test k))))
    (λ k.
    has-without lanes (lanes_where lanes test) k
    ∙ ap (λ b. has lanes k && not b) (has-lanes_where lanes test k)
    ∙ left_out (has lanes k) (test k)
    ∙ sym (has-lanes_where lanes (λ k. not (test k)) k))

truth_in : (b t : Bool) → cond (b && t) 1 0 ≡ cond b (truth_word t) 0
truth_in true t = refl
truth_in false t = refl

-- 1 in the lanes of a part of a set is the truth of being in it
truths : (lanes part : Lanes) (test : ℕ → Bool) → length part ≡ length lanes → ((k : ℕ) → has part k ≡ (has lanes k && test k)) → each part (λ k. 1) ≡ each lanes (λ k. truth_word (test k))
truths lanes part test long same =
    each_is (length lanes) lanes (λ k. truth_word (test k)) (each part (λ k. 1)) refl (length-each part (λ k. 1) ∙ long)
    (λ i h. lane_each part (λ k. 1) i ∙ ap (λ b. cond b 1 0) (same i) ∙ truth_in (has lanes i) (test i))

both_in : (b p q : Bool) → ((b && p) && q) ≡ (b && (p && q))
both_in true p q = refl
both_in false p q = refl

pub truths_of_both : (lanes : Lanes) (p q : ℕ → Bool) → each (lanes_where (lanes_where lanes p) q) (λ k. 1) ≡ each lanes (λ k. truth_word (p k && q k))
truths_of_both lanes p q =
    truths lanes (lanes_where (lanes_where lanes p) q) (λ k. p k && q k)
    (length-lanes_where (lanes_where lanes p) q ∙ length-lanes_where lanes p)
    (λ k. has-lanes_where (lanes_where lanes p) q k ∙ ap (λ b. b && q k) (has-lanes_where lanes p k) ∙ both_in (has lanes k) (p k) (q k))

either_in : (b p q : Bool) → (b && not ((b && not p) && not q)) ≡ (b && (p || q))
either_in true true q = refl
either_in true false true = refl
either_in true false false = refl
either_in false p q = refl

-- the lanes that fail both tests, left out
pub truths_of_either : (lanes : Lanes) (p q : ℕ → Bool) → each (without lanes (lanes_where (lanes_where lanes (λ k. not (p k))) (λ k. not (q k)))) (λ k. 1) ≡ each lanes (λ k. truth_word (p k || q k))
truths_of_either lanes p q =
    let first : Lanes = lanes_where lanes (λ k. not (p k)) in
    let neither : Lanes = lanes_where first (λ k. not (q k)) in
    truths lanes (without lanes neither) (λ k. p k || q k) (length-without lanes neither)
    (λ k.
    has-without lanes neither k
    ∙ ap (λ b. has lanes k && not b) (has-lanes_where first (λ k. not (q k)) k ∙ ap (λ b. b && not (q k)) (has-lanes_where lanes (λ k. not (p k)) k))
    ∙ either_in (has lanes k) (p k) (q k))
