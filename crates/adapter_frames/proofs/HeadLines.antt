-- Lines of heads: bytes begin with one head at most, and where its lines stand.
use Rattle.std.proofs.Common.{◌≡◌, ℕ, zero, suc, ◌+◌, ◌<◌, ◌≤◌, true, false, ◌&&◌, List, [], ◌∷◌, ◌++◌, All, nat_eq, length, take, drop, refl, sym, ap, ap₂, ◌∙◌, subst, arith, append_assoc, length-append, length-drop, length-take-le, take-append-drop, drop-drop, drop_at, eqb-true}
use Rattle.std.specs.List.{starts_with}
use Rattle.std.proofs.lemmas.Bool.{and_parts, and_right, both_ways, or_from, or_parts, or_right}
use Rattle.std.proofs.lemmas.List.{flat_map_more}
use Rattle.std.proofs.lemmas.List.Elements.{All-head, All-nil, All-push, All-tail}
use Rattle.adapter_frames.specs.Heads.{Bytes, IsLine, ended, has_line_end, line_end}
use Rattle.adapter_frames.specs.Places.{EndsAt, HaveNoHead, LineAt}

end_here : (x y : ℕ) (ys : Bytes) → x ≡ 13 → y ≡ 10 → has_line_end (x ∷ y ∷ ys) ≡ true
end_here x y ys p q = ap₂ (λ a b. has_line_end (a ∷ b ∷ ys)) p q

pub end_behind : (xs r : Bytes) → has_line_end (xs ++ (line_end ++ r)) ≡ true
end_behind [] r = refl
end_behind (x ∷ xs) r = or_right (starts_with nat_eq (x ∷ (xs ++ (line_end ++ r))) line_end) (has_line_end (xs ++ (line_end ++ r))) (end_behind xs r)

tail_one : (x : ℕ) (xs : Bytes) → has_line_end (x ∷ xs) ≡ false → has_line_end xs ≡ false
tail_one x xs h = (or_parts (starts_with nat_eq (x ∷ xs) line_end) (has_line_end xs) h).1

no_line_first : (x : ℕ) (xs r s : Bytes) → has_line_end (x ∷ xs) ≡ false → line_end ++ r ≡ (x ∷ xs) ++ (line_end ++ s) → ⊥
no_line_first x [] r s p e =
    let f : 13 ∷ 10 ∷ r ≡ x ∷ 13 ∷ 10 ∷ s = e in
    let g : ◌≡◌ {A = ℕ} 10 13 = cc in
    omega arith
no_line_first x (y ∷ ys) r s p e =
    let f : 13 ∷ 10 ∷ r ≡ x ∷ y ∷ (ys ++ (line_end ++ s)) = e in
    let a : x ≡ 13 = cc in
    let b : y ≡ 10 = cc in
    both_ways (has_line_end (x ∷ y ∷ ys)) p (end_here x y ys a b)

-- a line and its CR LF are cut from what stands behind them in one way
pub line_unique : (l m r s : Bytes) → has_line_end l ≡ false → has_line_end m ≡ false → l ++ (line_end ++ r) ≡ m ++ (line_end ++ s) → (l ≡ m) × (r ≡ s)
line_unique [] [] r s p q e =
    let f : 13 ∷ 10 ∷ r ≡ 13 ∷ 10 ∷ s = e in
    (refl, cc)
line_unique [] (y ∷ ys) r s p q e = absurd (no_line_first y ys r s q e)
line_unique (x ∷ xs) [] r s p q e = absurd (no_line_first x xs s r p (sym e))
line_unique (x ∷ xs) (y ∷ ys) r s p q e =
    let f : x ∷ (xs ++ (line_end ++ r)) ≡ y ∷ (ys ++ (line_end ++ s)) = e in
    let same : x ≡ y = cc in
    let tails : xs ++ (line_end ++ r) ≡ ys ++ (line_end ++ s) = cc in
    let rest = line_unique xs ys r s (tail_one x xs p) (tail_one y ys q) tails in
    (ap₂ ◌∷◌ same rest.0, rest.1)

pub ended_first : (l : Bytes) (ls : List Bytes) (t : Bytes) → ended (l ∷ ls) ++ t ≡ l ++ (line_end ++ (ended ls ++ t))
ended_first l ls t = append_assoc (l ++ line_end) (ended ls) t ∙ append_assoc l line_end (ended ls ++ t)

pub ended_push : (ls : List Bytes) (l : Bytes) → ended (ls ++ l ∷ []) ≡ ended ls ++ (l ++ line_end)
ended_push ls l = sym (flat_map_more (λ line. line ++ line_end) [] ls l)

-- bytes begin with one head at most
pub heads_unique : (ls ms : List Bytes) (r s : Bytes) → All IsLine ls → All IsLine ms → ended ls ++ (line_end ++ r) ≡ ended ms ++ (line_end ++ s) → (ls ≡ ms) × (r ≡ s)
heads_unique [] [] r s p q e =
    let f : 13 ∷ 10 ∷ r ≡ 13 ∷ 10 ∷ s = e in
    (refl, cc)
heads_unique [] (m ∷ ms) r s p q e =
    let first = All-head IsLine m ms q in
    let lines = line_unique [] m r (ended ms ++ (line_end ++ s)) refl first.one (e ∙ ended_first m ms (line_end ++ s)) in
    absurd (omega (arith, first.some, ap length lines.0))
heads_unique (l ∷ ls) [] r s p q e =
    let first = All-head IsLine l ls p in
    let lines = line_unique l [] (ended ls ++ (line_end ++ r)) s first.one refl (sym (ended_first l ls (line_end ++ r)) ∙ e) in
    absurd (omega (arith, first.some, ap length lines.0))
heads_unique (l ∷ ls) (m ∷ ms) r s p q e =
    let lines = line_unique l m (ended ls ++ (line_end ++ r)) (ended ms ++ (line_end ++ s)) (All-head IsLine l ls p).one (All-head IsLine m ms q).one (sym (ended_first l ls (line_end ++ r)) ∙ (e ∙ ended_first m ms (line_end ++ s))) in
    let rest = heads_unique ls ms r s (All-tail IsLine l ls p) (All-tail IsLine m ms q) lines.1 in
    (ap₂ ◌∷◌ lines.0 rest.0, rest.1)

-- lines, and bytes without CR LF behind them, begin with no head
pub no_head_behind : (ls ms : List Bytes) (r s : Bytes) → All IsLine ls → All IsLine ms → has_line_end r ≡ false → ended ls ++ r ≡ ended ms ++ (line_end ++ s) → ⊥
no_head_behind [] ms r s p q none e = both_ways (has_line_end r) none (ap has_line_end e ∙ end_behind (ended ms) s)
no_head_behind (l ∷ ls) [] r s p q none e =
    let first = All-head IsLine l ls p in
    let lines = line_unique l [] (ended ls ++ r) s first.one refl (sym (ended_first l ls r) ∙ e) in
    omega (arith, first.some, ap length lines.0)
no_head_behind (l ∷ ls) (m ∷ ms) r s p q none e =
    let lines = line_unique l m (ended ls ++ r) (ended ms ++ (line_end ++ s)) (All-head IsLine l ls p).one (All-head IsLine m ms q).one (sym (ended_first l ls r) ∙ (e ∙ ended_first m ms (line_end ++ s))) in
    no_head_behind ls ms r s (All-tail IsLine l ls p) (All-tail IsLine m ms q) none lines.1

-- ---- the first line

front_false : (b : ℕ) (bs : Bytes) (n : ℕ) → starts_with nat_eq (b ∷ bs) line_end ≡ false → starts_with nat_eq (b ∷ take n bs) line_end ≡ false
front_false b bs zero h = and_right (nat_eq 13 b) false refl
front_false b [] (suc n) h = h
front_false b (c ∷ cs) (suc n) h = h

-- bytes in front of which CR LF nowhere stands
pub one_before : (bytes : Bytes) (n : ℕ) → ((k : ℕ) → k < n → starts_with nat_eq (drop k bytes) line_end ≡ false) → has_line_end (take n bytes) ≡ false
one_before bytes zero h = refl
one_before [] (suc n) h = refl
one_before (b ∷ bs) (suc n) h =
    or_from (starts_with nat_eq (b ∷ take n bs) line_end) (has_line_end (take n bs)) (front_false b bs n (h 0 (omega arith))) (one_before bs n (λ k lt. h (suc k) (omega arith)))

end_first : (xs : Bytes) → starts_with nat_eq xs line_end ≡ true → (xs ≡ line_end ++ drop 2 xs) × (2 ≤ length xs)
end_first [] h = absurd (both_ways false refl h)
end_first (x ∷ []) h = absurd (both_ways false refl (and_parts (nat_eq 13 x) false h).1)
end_first (x ∷ y ∷ ys) h =
    let first = and_parts (nat_eq 13 x) (nat_eq 10 y && true) h in
    let second = and_parts (nat_eq 10 y) true first.1 in
    (ap₂ (λ a b. a ∷ b ∷ ys) (sym (eqb-true 13 x first.0)) (sym (eqb-true 10 y second.0)), omega arith)

pub line_at : (bytes : Bytes) (at : ℕ) → starts_with nat_eq (drop at bytes) line_end ≡ true → ((k : ℕ) → k < at → starts_with nat_eq (drop k bytes) line_end ≡ false) → LineAt bytes at
line_at bytes at here before =
    let first = end_first (drop at bytes) here in
    record {
      within = omega (arith, first.1, length-drop at bytes);
      bytes_are = sym (take-append-drop at bytes) ∙ ap (λ xs. take at bytes ++ xs) (first.0 ∙ ap (λ xs. line_end ++ xs) (drop-drop 2 at bytes));
      one = one_before bytes at before;
    }

-- ---- the lines of a head

-- bytes begin with lines of a head, and a rest
pub record HeadSoFar (bytes rest : Bytes) (at : ℕ) : Type 0 where
  pub lines : List Bytes
  pub are_lines : All IsLine lines
  pub bytes_are : bytes ≡ ended lines ++ rest
  pub at_is : at ≡ length (ended lines)

pub at_start : (bytes : Bytes) → HeadSoFar bytes bytes 0
at_start bytes = record { lines = []; are_lines = All-nil IsLine; bytes_are = refl; at_is = refl }

regrouped : (a b c d : Bytes) → a ++ (b ++ (c ++ d)) ≡ (a ++ (b ++ c)) ++ d
regrouped a b c d = sym (append_assoc a (b ++ c) d ∙ ap (λ xs. a ++ xs) (append_assoc b c d))

pub line_more : (bytes rest : Bytes) (at line : ℕ) → HeadSoFar bytes rest at → LineAt rest line → 0 < line → HeadSoFar bytes (drop (line + 2) rest) (at + (line + 2))
line_more bytes rest at line so_far here some =
    let size = length-take-le line rest (omega (arith, here.within)) in
    let pushed = ended_push so_far.lines (take line rest) in
    record {
      lines = so_far.lines ++ take line rest ∷ [];
      are_lines = All-push IsLine so_far.lines (take line rest) so_far.are_lines (record { some = omega (arith, size); one = here.one });
      bytes_are = so_far.bytes_are ∙ ap (λ xs. ended so_far.lines ++ xs) here.bytes_are ∙ regrouped (ended so_far.lines) (take line rest) line_end (drop (line + 2) rest)
          ∙ ap (λ xs. xs ++ drop (line + 2) rest) (sym pushed);
      at_is = omega (arith, so_far.at_is, size, ap length pushed, length-append (ended so_far.lines) (take line rest ++ line_end), length-append (take line rest) line_end);
    }

pub ends_at : (bytes rest : Bytes) (at line : ℕ) → HeadSoFar bytes rest at → LineAt rest line → line ≡ 0 → EndsAt bytes at
ends_at bytes rest at line so_far here none =
    let empty = subst (LineAt rest) none here in
    let behind : drop (at + 2) bytes ≡ drop 2 rest =
    sym (drop-drop 2 at bytes) ∙ ap (drop 2) (ap (drop at) so_far.bytes_are ∙ drop_at (ended so_far.lines) rest at (sym so_far.at_is)) in
    record {
      lines = so_far.lines;
      within = omega (arith, empty.within, so_far.at_is, ap length so_far.bytes_are, length-append (ended so_far.lines) rest);
      end_is = so_far.at_is;
      head = record {
        are_lines = so_far.are_lines;
        bytes_are = so_far.bytes_are ∙ ap (λ xs. ended so_far.lines ++ xs) (empty.bytes_are ∙ ap (λ xs. line_end ++ xs) (sym behind));
      };
    }

pub no_head : (bytes rest : Bytes) (at : ℕ) → HeadSoFar bytes rest at → has_line_end rest ≡ false → HaveNoHead bytes
no_head bytes rest at so_far none = λ lines behind head. no_head_behind so_far.lines lines rest behind so_far.are_lines head.are_lines none (sym so_far.bytes_are ∙ head.bytes_are)
