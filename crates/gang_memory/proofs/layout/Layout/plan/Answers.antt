use Rattle.std.proofs.Common.{◌++◌, ◌+◌, ◌*◌, ◌≤◌, ◌≡◌, refl, sym, ap, arith, ◌∙◌, subst, map, length, List}
use Rattle.std.specs.Prelude.{ℕ, All, sum}
use Rattle.gang_memory.specs.declared.parts.Part.{Part}
use Rattle.gang_memory.specs.Layouts.{frame_sizes, global_words, most_variables, repeated}
use Rattle.gang_memory.specs.Ranges.{AreInOrder, ranges_from, sizes_of}
use Rattle.gang_memory.proofs.Orders.{joined, joined_end, ranges_in_order, sizes_of_ranges, sum-frame, sum-repeated}
use Rattle.gang_memory.proofs.layout.Layout.plan.Goals as goal

pub invariant_of-frames : goal.invariant_of-frames
invariant_of-frames g c =
    let head = c.in_ok-head.head in
    let sizes : sizes_of head.parts.items ≡ c.args.head.now = ap sizes_of c.in_ok-head.ensures.ranges ∙ sizes_of_ranges 0 c.args.head.now in
    let sums : 0 + sum c.args.head.now ≡ sum (sizes_of head.parts.items) = omega arith ∙ ap sum (sym sizes) in
    record {
      laid = c.in_ok-head.ensures.ranges ∙ ap (ranges_from 0) (sym sizes);
      whole = c.in_ok-head.ensures.end ∙ sums;
    }

pub returns : goal.returns
returns g c =
    let width : ℕ = g.row.W in
    let functions = c.args.program.now.functions.items in
    let globals : List ℕ = map (global_words width) c.args.program.now.globals.items in
    let lengths : List ℕ = c.args.lengths.now in
    let machine : List ℕ = c.args.machine.now in
    let head : List ℕ = c.args.head.now in
    let most : ℕ = most_variables functions in
    let frames : List ℕ = repeated 64 (frame_sizes width head most) in
    let sizes : List ℕ = globals ++ (lengths ++ (machine ++ frames)) in
    let file = c.in_ok-file.file in
    let entry = c.in_ok-entry.entry in
    let own = c.in_ok-own.own in
    let heads = c.in_ok-head.head in
    let sizes_are : c.deref-2.result.now ≡ globals = c.deref-2.ensures.value ∙ c.in_ok-sizes.ensures ∙ ap (map (global_words width)) c.deref.ensures.value in
    let file_is : file.parts.items ≡ ranges_from 0 globals = c.in_ok-file.ensures.ranges ∙ ap (ranges_from 0) sizes_are in
    let file_ends : file.end ≡ 0 + sum globals = c.in_ok-file.ensures.end ∙ ap (λ ns. 0 + sum ns) sizes_are in
    let head_is : sizes_of heads.parts.items ≡ head = ap sizes_of c.in_ok-head.ensures.ranges ∙ sizes_of_ranges 0 head in
    let most_is : c.most_variables.result ≡ most = c.most_variables.ensures.most ∙ ap most_variables c.deref-3.ensures.value in
    let frames_are : repeated 64 (frame_sizes width (sizes_of heads.parts.items) c.most_variables.result) ≡ frames =
    ap (λ ns. repeated 64 (frame_sizes width ns c.most_variables.result)) head_is ∙ ap (λ n. repeated 64 (frame_sizes width head n)) most_is in
    let last : List Part = ranges_from own.end (repeated 64 (frame_sizes width (sizes_of heads.parts.items) c.most_variables.result)) in
    let all : file.parts.items ++ (entry.parts.items ++ (own.parts.items ++ last)) ≡ ranges_from 0 sizes =
    joined 0 globals (lengths ++ (machine ++ frames)) file.parts.items (entry.parts.items ++ (own.parts.items ++ last)) file.end file_is file_ends
    (joined file.end lengths (machine ++ frames) entry.parts.items (own.parts.items ++ last) entry.end c.in_ok-entry.ensures.ranges c.in_ok-entry.ensures.end
    (joined entry.end machine frames own.parts.items last own.end c.in_ok-own.ensures.ranges c.in_ok-own.ensures.end (ap (ranges_from own.end) frames_are))) in
    let frame_words : sum frames ≡ 64 * (sum head + most * width) = sum-repeated 64 (frame_sizes width head most) ∙ ap (λ n. 64 * n) (sum-frame width head most) in
    let ends : c.in-Some.words ≡ own.end + sum frames =
    c.in-Some.ensures
    ∙ ap (λ n. own.end + 64 * (n + c.most_variables.result * width)) c.in_ok-head.ensures.end
    ∙ ap (λ n. own.end + 64 * (0 + sum head + n * width)) most_is
    ∙ ap (λ n. own.end + 64 * (n + most * width)) (omega arith)
    ∙ ap (λ n. own.end + n) (sym frame_words) in
    let words : c.in-Some.words ≡ 0 + sum sizes =
    joined_end 0 globals (lengths ++ (machine ++ frames)) file.end c.in-Some.words file_ends
    (joined_end file.end lengths (machine ++ frames) entry.end c.in-Some.words c.in_ok-entry.ensures.end
    (joined_end entry.end machine frames own.end c.in-Some.words c.in_ok-own.ensures.end ends)) in
    record {
      file = ap sizes_of file_is ∙ sizes_of_ranges 0 globals;
      entry = ap sizes_of c.in_ok-entry.ensures.ranges ∙ sizes_of_ranges file.end lengths;
      machine = ap sizes_of c.in_ok-own.ensures.ranges ∙ sizes_of_ranges entry.end machine;
      head = head_is;
      frames = refl;
      most = most_is;
      variables = subst (All (λ f. length f.variables.items ≤ c.most_variables.result)) c.deref-3.ensures.value c.most_variables.ensures.enough;
      ranges_are = all;
      words = words ∙ omega arith;
      end = c.in-Some.ensures;
      in_order = subst (λ ps. AreInOrder 0 ps c.in-Some.words) (sym all) (subst (AreInOrder 0 (ranges_from 0 sizes)) (sym words) (ranges_in_order 0 sizes));
    }
