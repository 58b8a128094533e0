use Rattle.std.proofs.Common.{◌≡◌, ◌≢◌, ◌∙◌, sym, ap, ℕ, ◌+◌, ◌<◌, ◌≤◌, List, length, slice_index, slice_set, arith, below_more}
use Rattle.std.proofs.lemmas.List.{get_or-set_other, get_or-set_same, get_or_past, length-set}
use Rattle.machine_words.specs.Views.{region_view}
use Rattle.machine_words.specs.Words.{regions_in}
use Rattle.frame_steps.proofs.reading.first_words.Goals as goal
use Rattle.frame_steps.proofs.reading.first_words.Goals.{then-lane-len, else-lane-len}

-- the words of a region were found below a lane
module _ (region found next : List ℕ) (lane : ℕ) (read : (k : ℕ) → k < lane → slice_index found k ≡ slice_index region k) where
  -- the next one is set
  module _ (word : ℕ) (e : next ≡ slice_set found lane word) where
    same_long : length next ≡ length found
    same_long = ap length e ∙ length-set found lane word

    same_elsewhere : (k : ℕ) → k ≢ lane → slice_index next k ≡ slice_index found k
    same_elsewhere k d = ap (λ ws. slice_index ws k) e ∙ get_or-set_other found lane k word 0 d

    read_more : lane < length found → word ≡ slice_index region lane → (k : ℕ) → k < lane + 1 → slice_index next k ≡ slice_index region k
    read_more within is =
        below_more (λ k. slice_index next k ≡ slice_index region k) lane (λ k h. same_elsewhere k (omega (arith, h)) ∙ read k h)
        (ap (λ ws. slice_index ws lane) e ∙ get_or-set_same found lane word 0 within ∙ is)

  -- the region has no more
  read_all : next ≡ found → slice_index found lane ≡ 0 → length region ≤ lane → (k : ℕ) → k < lane + 1 → slice_index next k ≡ slice_index region k
  read_all e zero behind =
      below_more (λ k. slice_index next k ≡ slice_index region k) lane (λ k h. ap (λ ws. slice_index ws k) e ∙ read k h)
      (ap (λ ws. slice_index ws lane) e ∙ zero ∙ sym (get_or_past region lane 0 behind))

pub loop-lane-preserved : goal.loop-lane-preserved
loop-lane-preserved g c =
    let region = regions_in g.T.Timeline.history g.row.W c.args.words.now (region_view c.args.region) in
    let found = c.loop-lane.found in
    let next = c.if-lane-len.found in
    let lane = c.loop-lane.lane in
    let so_far = c.loop-lane.invariant in
    elim c.if-lane-len.branch [
      | then-lane-len w ↦
          let word = w.word.result in
          let within : lane < length found = omega arith in
          record {
            long = same_long region found next lane so_far.read word w.found-is ∙ so_far.long;
            read = read_more region found next lane so_far.read word w.found-is within w.word.ensures;
            rest = λ k above h. same_elsewhere region found next lane so_far.read word w.found-is k (omega arith) ∙ so_far.rest k (omega arith) h;
          }
      | else-lane-len w ↦
          let behind : length region ≤ lane = omega (arith, c.requires.long, w.if-lane-len.false) in
          record {
            long = ap length w.found-is ∙ so_far.long;
            read = read_all region found next lane so_far.read w.found-is (so_far.rest lane (omega arith) c.loop-lane-test.true) behind;
            rest = λ k above h. ap (λ ws. slice_index ws k) w.found-is ∙ so_far.rest k (omega arith) h;
          }
    ]
