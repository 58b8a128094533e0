use Rattle.std.proofs.Common.{◌≡◌, ◌∙◌, ap, sym, subst, arith, suc, ◌+◌, ◌*◌, ◌≤◌, true, Bool, ◌∷◌, ◌++◌, drop, length, Some, refl}
use Rattle.std.specs.Prelude.{◌==◌, ◌&&◌, if◌then◌else◌, nat_lt, slice_get}
use Rattle.lane_counts.specs.declared.counts.Counts.{Counts}
use Rattle.lane_counts.specs.declared.frames.LastStep.{LastStep}
use Rattle.lane_counts.specs.Counted.{counts_at, hits}
use Rattle.lane_counts.specs.Pending.{has_function, pending, width_of}
use Rattle.lane_counts.specs.declared.forms.Part.TheVariants as part
use Rattle.lane_counts.specs.Formed.{has_part, is_inside, is_round}
use Rattle.lane_counts.specs.Naming.{name_at}
use Rattle.lane_counts.specs.Steps.{active, at_line, begins_frame, called, depth, each, in_frame, in_function, is_first, next_in_frame, one_if, parts}
use Rattle.lane_counts.specs.Tallies.{AreFrames, unparted_with}
use Rattle.lane_counts.proofs.Numbered.{part_of}
use Rattle.lane_counts.proofs.Standing.{above, counted_whole, enough, stepped}
use Rattle.lane_counts.proofs.Named.{numbered, some_same}
use Rattle.lane_counts.proofs.Noting.{few_noted, hit_some, hits_few, lanes_length, one_few, with_called, with_noted, with_unparted}
use Rattle.lane_counts.proofs.tally.Tally.note.Goals as goal

pub returns-clause-lines : goal.returns-clause-lines
returns-clause-lines c line stand later at =
    let mine : LastStep → Bool = λ last. last.line == line in
    let deeper = above c.args.at.depth c.saturating_sub-below.result stand.functions at.function.0 at.deep at.function.1 c.saturating_sub-below.ensures in
    let put = c.in_ok-before.ensures.parting mine stand later deeper in
    let parted = c.parted_from-parted.ensures mine stand later (suc c.saturating_sub-below.result) deeper at.lanes in
    let next = ap (λ lanes. one_if ((c.args.at.line == line) && parts lanes (next_in_frame (suc c.saturating_sub-below.result) later))) at.lanes in
    let deep = ap (λ n. one_if ((c.args.at.line == line) && parts stand.lanes (next_in_frame n later))) deeper in
    with_noted (at_line line) _ _ (c.args.at.line == line) c.count-lanes.result c.width-width.result (hits c.line_of.result line)
    (pending mine 1 c.args.self.now.frames.lasts.items (stand ∷ later)) (pending mine 1 c.put.new.self.lasts.items later) stand later
    (c.in_ok-add.ensures line) (ap (λ n. n == line) at.line) (ap active at.lanes ∙ sym c.count-lanes.ensures.value)
    (ap length at.lanes ∙ lanes_length (width_of c.args.at.gang) c.args.at.lanes ∙ sym c.width-width.ensures.value)
    (omega (arith, put, parted, next, deep, c.line_of.ensures line))

pub returns-clause-own : goal.returns-clause-own
returns-clause-own c final number name extends distinct is stand later at =
    let given = c.in_ok-function.function in
    let first = c.args.at.function.now in
    let mine : LastStep → Bool = λ last. last.function == number in
    let deeper = above c.args.at.depth c.saturating_sub-below.result stand.functions at.function.0 at.deep at.function.1 c.saturating_sub-below.ensures in
    let put = c.in_ok-before.ensures.parting mine stand later deeper in
    let parted = c.parted_from-parted.ensures mine stand later (suc c.saturating_sub-below.result) deeper at.lanes in
    let next = ap (λ lanes. one_if ((given == number) && parts lanes (next_in_frame (suc c.saturating_sub-below.result) later))) at.lanes in
    let deep = ap (λ n. one_if ((given == number) && parts stand.lanes (next_in_frame n later))) deeper in
    let has = extends given first c.in_ok-function.ensures.named in
    let back : first ≡ name → given ≡ number = λ e. distinct given number name (has ∙ ap Some e) is in
    let same : given ≡ number → first ≡ name = λ e. some_same first name (sym has ∙ ap (name_at final) e ∙ is) in
    with_noted (in_function name) _ _ (given == number) c.count-lanes.result c.width-width.result (hits c.function_of.result number)
    (pending mine 1 c.args.self.now.frames.lasts.items (stand ∷ later)) (pending mine 1 c.put.new.self.lasts.items later) stand later
    (c.in_ok-add-2.ensures number) (ap (is_first name) at.function.1 ∙ numbered given number first name same back) (ap active at.lanes ∙ sym c.count-lanes.ensures.value)
    (ap length at.lanes ∙ lanes_length (width_of c.args.at.gang) c.args.at.lanes ∙ sym c.width-width.ensures.value)
    (omega (arith, put, parted, next, deep, c.function_of.ensures number))

pub returns-clause-all : goal.returns-clause-all
returns-clause-all c stand later at =
    let mine : LastStep → Bool = λ last. true in
    let deeper = above c.args.at.depth c.saturating_sub-below.result stand.functions at.function.0 at.deep at.function.1 c.saturating_sub-below.ensures in
    let put = c.in_ok-before.ensures.parting mine stand later deeper in
    let parted = c.parted_from-parted.ensures mine stand later (suc c.saturating_sub-below.result) deeper at.lanes in
    let next = ap (λ lanes. one_if (parts lanes (next_in_frame (suc c.saturating_sub-below.result) later))) at.lanes in
    let deep = ap (λ n. one_if (parts stand.lanes (next_in_frame n later))) deeper in
    with_noted each _ _ true c.count-lanes.result c.width-width.result (one_if c.is_some.result)
    (pending mine 1 c.args.self.now.frames.lasts.items (stand ∷ later)) (pending mine 1 c.put.new.self.lasts.items later) stand later
    c.noted-self.ensures refl (ap active at.lanes ∙ sym c.count-lanes.ensures.value)
    (ap length at.lanes ∙ lanes_length (width_of c.args.at.gang) c.args.at.lanes ∙ sym c.width-width.ensures.value)
    (omega (arith, put, parted, next, deep, ap one_if c.is_some.ensures, hit_some c.parted_from-parted.result))

pub returns-clause-frames : goal.returns-clause-frames
returns-clause-frames c stand at follows =
    let deeper = above c.args.at.depth c.saturating_sub-below.result stand.functions at.function.0 at.deep at.function.1 c.saturating_sub-below.ensures in
    let old = c.args.self.now in
    let is_below : drop 1 stand.functions ≡ at.function.0 = ap (drop 1) at.function.1 in
    let stood : AreFrames old.names old.frames.lasts.items (follows.0 ++ at.function.0) = subst (λ names. AreFrames old.names old.frames.lasts.items (follows.0 ++ names)) is_below follows.1 in
    let count : c.saturating_sub-below.result ≡ length at.function.0 = omega (arith, deeper, ap length at.function.1) in
    let put = c.in_ok-before.ensures.frames (enough old.names old.frames.lasts.items follows.0 at.function.0 c.saturating_sub-below.result count stood) in
    subst (AreFrames c.number_of.new.self c.put.new.self.lasts.items) (sym at.function.1)
    (subst (λ lasts. AreFrames c.number_of.new.self lasts (c.args.at.function.now ∷ at.function.0)) (sym put)
    (stepped old.names c.number_of.new.self c.in_ok-function.ensures.kept old.frames.lasts.items follows.0 at.function.0 c.args.at.function.now _ c.saturating_sub-below.result count c.in_ok-function.ensures.named stood))

pub returns-clause-whole : goal.returns-clause-whole
returns-clause-whole c final number name extends distinct is stand later at follows =
    with_unparted (in_frame name) _ _ (nat_lt number c.count.result && has_function number c.put.new.self.lasts.items) c.count-lanes.result c.width-width.result stand later
    (c.in_ok-add_each.ensures number) (subst (λ n. in_frame name stand ≡ (nat_lt number n && has_function number c.put.new.self.lasts.items)) (sym c.count.ensures)
    (counted_whole c.number_of.new.self final number name extends distinct is c.put.new.self.lasts.items stand.functions (returns-clause-frames c stand at follows)))
    (ap active at.lanes ∙ sym c.count-lanes.ensures.value)
    (ap length at.lanes ∙ lanes_length (width_of c.args.at.gang) c.args.at.lanes ∙ sym c.width-width.ensures.value)

pub returns-clause-calls : goal.returns-clause-calls
returns-clause-calls c final number name extends distinct is stand later at =
    let given = c.in_ok-function.function in
    let first = c.args.at.function.now in
    let before = c.args.self.now.last_depth in
    let has = extends given first c.in_ok-function.ensures.named in
    let back : first ≡ name → given ≡ number = λ e. distinct given number name (has ∙ ap Some e) is in
    let same : given ≡ number → first ≡ name = λ e. some_same first name (sym has ∙ ap (name_at final) e ∙ is) in
    let old = counts_at c.args.self.now.calls.rows.items number in
    let new = counts_at c.add_if.new.self.rows.items number in
    let rest = called (Some (depth stand)) later in
    let is_call : begins_frame before stand ≡ c.begins_frame-is_call.result = sym (c.begins_frame-is_call.ensures stand at.deep) in
    ap (λ b. unparted_with old (in_function name) (if b then stand ∷ rest else rest)) is_call
    ∙ with_called (in_function name) old new c.begins_frame-is_call.result (given == number) c.count-lanes.result c.width-width.result stand rest
    (c.in_ok-add_if.ensures number) (ap (is_first name) at.function.1 ∙ numbered given number first name same back) (ap active at.lanes ∙ sym c.count-lanes.ensures.value)
    (ap length at.lanes ∙ lanes_length (width_of c.args.at.gang) c.args.at.lanes ∙ sym c.width-width.ensures.value)
    ∙ ap (λ n. unparted_with new (in_function name) (called (Some n) later)) at.deep

pub returns-clause-rounds : goal.returns-clause-rounds
returns-clause-rounds c k form there stand later at =
    with_unparted (λ stand. is_round form stand.spot) _ _ (nat_lt k (length c.args.self.now.forms.forms.items) && has_part part.Rounds (slice_get c.args.self.now.forms.forms.items k) c.args.at.spot)
    c.count-lanes.result c.width-width.result stand later (c.in_ok-note.ensures.rounds k)
    (ap (is_round form) at.spot ∙ sym (part_of part.Rounds c.args.self.now.forms.forms.items k form c.args.at.spot there)) (ap active at.lanes ∙ sym c.count-lanes.ensures.value)
    (ap length at.lanes ∙ lanes_length (width_of c.args.at.gang) c.args.at.lanes ∙ sym c.width-width.ensures.value)

pub returns-clause-inside : goal.returns-clause-inside
returns-clause-inside c k form there stand later at =
    with_unparted (λ stand. is_inside form stand.spot) _ _ (nat_lt k (length c.args.self.now.forms.forms.items) && has_part part.Inside (slice_get c.args.self.now.forms.forms.items k) c.args.at.spot)
    c.count-lanes.result c.width-width.result stand later (c.in_ok-note.ensures.inside k)
    (ap (is_inside form) at.spot ∙ sym (part_of part.Inside c.args.self.now.forms.forms.items k form c.args.at.spot there)) (ap active at.lanes ∙ sym c.count-lanes.ensures.value)
    (ap length at.lanes ∙ lanes_length (width_of c.args.at.gang) c.args.at.lanes ∙ sym c.width-width.ensures.value)

pub returns-clause-named : goal.returns-clause-named
returns-clause-named c = (c.in_ok-function.function, c.in_ok-function.ensures.named)

pub returns-clause-sound : goal.returns-clause-sound
returns-clause-sound c =
    let old = 16 * c.args.self.now.all.steps in
    let new = 16 * c.noted-self.result.steps in
    let more : old + 16 ≤ new = omega (arith, ap (λ (x : Counts). x.steps) c.noted-self.ensures) in
    record {
      all = few_noted c.args.self.now.all c.noted-self.result old new true c.count-lanes.result c.width-width.result _ c.noted-self.ensures c.count-lanes.ensures.within (one_few c.is_some.result) more c.requires.sound.all;
      lines = λ k. few_noted (counts_at c.args.self.now.lines.rows.items k) (counts_at c.add.new.self.rows.items k) old new (c.args.at.line == k) c.count-lanes.result c.width-width.result _
          (c.in_ok-add.ensures k) c.count-lanes.ensures.within (hits_few c.line_of.result k) more (c.requires.sound.lines k);
      own = λ k. few_noted (counts_at c.args.self.now.own.rows.items k) (counts_at c.add-2.new.self.rows.items k) old new (c.in_ok-function.function == k) c.count-lanes.result c.width-width.result _
          (c.in_ok-add-2.ensures k) c.count-lanes.ensures.within (hits_few c.function_of.result k) more (c.requires.sound.own k);
      names = c.in_ok-function.ensures.distinct;
      rounds = λ k. few_noted (counts_at c.args.self.now.forms.rounds.rows.items k) (counts_at c.note.new.self.rounds.rows.items k) old new
          (nat_lt k (length c.args.self.now.forms.forms.items) && has_part part.Rounds (slice_get c.args.self.now.forms.forms.items k) c.args.at.spot) c.count-lanes.result
          c.width-width.result 0 (c.in_ok-note.ensures.rounds k) c.count-lanes.ensures.within (omega arith) more (c.requires.sound.rounds k);
      inside = λ k. few_noted (counts_at c.args.self.now.forms.inside.rows.items k) (counts_at c.note.new.self.inside.rows.items k) old new
          (nat_lt k (length c.args.self.now.forms.forms.items) && has_part part.Inside (slice_get c.args.self.now.forms.forms.items k) c.args.at.spot) c.count-lanes.result
          c.width-width.result 0 (c.in_ok-note.ensures.inside k) c.count-lanes.ensures.within (omega arith) more (c.requires.sound.inside k);
      calls = λ k. few_noted (counts_at c.args.self.now.calls.rows.items k) (counts_at c.add_if.new.self.rows.items k) old new (c.begins_frame-is_call.result && (c.in_ok-function.function == k)) c.count-lanes.result
          c.width-width.result 0 (c.in_ok-add_if.ensures k) c.count-lanes.ensures.within (omega arith) more (c.requires.sound.calls k);
      whole = λ k. few_noted (counts_at c.args.self.now.whole.rows.items k) (counts_at c.add_each.new.self.rows.items k) old new (nat_lt k c.count.result && has_function k c.put.new.self.lasts.items) c.count-lanes.result
          c.width-width.result 0 (c.in_ok-add_each.ensures k) c.count-lanes.ensures.within (omega arith) more (c.requires.sound.whole k);
    }
