-- What the layout of a program has for a machine.
use Rattle.std.proofs.Common.{ℕ, zero, suc, ◌+◌, ◌*◌, ◌≡◌, refl, sym, ◌∙◌, ap, arith, List, length}
use Rattle.std.proofs.lemmas.List.{length-map}
use Rattle.typed_tree.specs.declared.program.Program.{Program}
use Rattle.gang_memory.specs.declared.layout.Layout.{Layout}
use Rattle.gang_memory.specs.Layouts.{IsLayoutOf, end_of_frames, ranges}
use Rattle.gang_memory.specs.Ranges.{AreInOrder, sizes_of}
use Rattle.machine_words.specs.Ranges.{IsPlanned, head_sizes, level_sizes, levels_of, machine_sizes}

pub record Plan (width : ℕ) (layout : Layout) : Type 0 where
  pub own : sizes_of layout.machine.items ≡ machine_sizes
  pub own_long : length layout.machine.items ≡ 1
  pub head : sizes_of layout.frames.head.items ≡ head_sizes width (levels_of layout)
  pub head_long : length layout.frames.head.items ≡ 6 + 4 * levels_of layout
  pub count : layout.frames.count ≡ 64
  pub order : AreInOrder 0 (ranges width layout) layout.words
  pub end : layout.words ≡ end_of_frames width layout.frames

length-level_sizes : (width levels : ℕ) → length (level_sizes width levels) ≡ 4 * levels
length-level_sizes width zero = refl
length-level_sizes width (suc levels) = omega (arith, length-level_sizes width levels)

length-head_sizes : (width levels : ℕ) → length (head_sizes width levels) ≡ 6 + 4 * levels
length-head_sizes width levels = omega (arith, length-level_sizes width levels)

pub plan_of : (width : ℕ) (layout : Layout) → IsPlanned width layout → Plan width layout
plan_of width layout is = record {
  own = is.own;
  own_long = sym (length-map layout.machine.items (λ p. p.len)) ∙ ap length is.own;
  head = is.head;
  head_long = sym (length-map layout.frames.head.items (λ p. p.len)) ∙ ap length is.head ∙ length-head_sizes width (levels_of layout);
  count = is.count;
  order = is.order;
  end = is.end;
}

-- the layout that was planned for a program
pub planned_for : (width levels : ℕ) (layout : Layout) (program : Program) (lengths : List ℕ) → IsLayoutOf width program lengths machine_sizes (head_sizes width levels) layout → IsPlanned width layout
planned_for width levels layout program lengths is =
    record { own = is.machine; head = is.head ∙ ap (head_sizes width) (sym found); count = is.frames; order = is.in_order; end = is.end }
  where
    found : levels_of layout ≡ levels
    found = omega (arith, length-map layout.frames.head.items (λ p. p.len), ap length is.head, length-head_sizes width levels)
