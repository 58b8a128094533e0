-- The length that the lines of a head say, line by line.
use Rattle.std.proofs.Common.{◌≡◌, ℕ, ◌+◌, ◌≤◌, Bool, true, false, List, [], ◌∷◌, ◌++◌, All, Option, Some, None, Result, Ok, Err, IsOk, MatchResult, ok_or, if◌then◌else◌, length, take, drop, refl, sym, ap, ◌∙◌, subst, arith, append_assoc, append-nil}
use Rattle.std.proofs.lemmas.Bool.{both_ways}
use Rattle.std.proofs.lemmas.List.{flat_map_more}
use Rattle.std.proofs.lemmas.List.Elements.{All-head, All-nil, All-push, All-tail}
use Rattle.adapter_frames.specs.declared.heads.HeadFault.{HeadFault}
use Rattle.adapter_frames.specs.declared.heads.HeadFault.TheVariants.{HeadTooLong, BadHeader, NoLength, TwoLengths, BadLength, TooLong}
use Rattle.adapter_frames.specs.Heads.{Bytes, FirstFault, IsLine, Say, ended, fault_behind, has_line_end, length_behind, length_said, line_end, line_says, said}
use Rattle.adapter_frames.specs.Places.{HaveFault, LineAt, SayOne, clipped, clipped_says, found_with}
use Rattle.adapter_frames.proofs.HeadLines.{end_behind, line_unique}

-- what was found is the one length that was said, if one was
abbrev pub Holds : Option ℕ → List ℕ → Type 0
Holds None lengths = lengths ≡ []
Holds (Some size) lengths = (number : ℕ) × (lengths ≡ number ∷ []) × (size ≡ clipped number)

-- lines that were seen without a fault, and those that are left
pub record LengthSoFar (lines : List Bytes) (rest : Bytes) (found : Option ℕ) : Type 0 where
  pub before : List Bytes
  pub left : List Bytes
  pub are : lines ≡ before ++ left
  pub left_lines : All IsLine left
  pub rest_is : rest ≡ ended left
  pub lengths : List ℕ
  pub say : Say before lengths
  pub holds : Holds found lengths

abbrev Sound : Bytes → Type 0
Sound line = IsOk (line_says line)

pub length_start : (lines : List Bytes) (head : Bytes) → All IsLine lines → head ≡ ended lines → LengthSoFar lines head None
length_start lines head are_lines is = record {
  before = [];
  left = lines;
  are = refl;
  left_lines = are_lines;
  rest_is = is;
  lengths = [];
  say = record { sound = All-nil Sound; lengths_are = refl };
  holds = refl;
}

-- the line at the front of what is left
next_line : (left : List Bytes) (rest : Bytes) (line : ℕ) → All IsLine left → rest ≡ ended left → LineAt rest line
    → (behind : List Bytes) × (left ≡ take line rest ∷ behind) × (drop (line + 2) rest ≡ ended behind) × All IsLine behind
next_line [] rest line p e here = absurd (omega (arith, here.within, ap length e))
next_line (m ∷ ms) rest line p e here =
    let first = All-head IsLine m ms p in
    let lines = line_unique (take line rest) m (drop (line + 2) rest) (ended ms) here.one first.one (sym here.bytes_are ∙ (e ∙ append_assoc m line_end (ended ms))) in
    (ms, ap (λ x. x ∷ ms) (sym lines.0), lines.1, All-tail IsLine m ms p)

no_line_left : (left : List Bytes) (rest : Bytes) → rest ≡ ended left → has_line_end rest ≡ false → left ≡ []
no_line_left [] rest e none = refl
no_line_left (m ∷ ms) rest e none = absurd (both_ways (has_line_end rest) none (ap has_line_end (e ∙ append_assoc m line_end (ended ms)) ∙ end_behind m (ended ms)))

say_push : (before : List Bytes) (lengths : List ℕ) (line : Bytes) → Say before lengths → Sound line → Say (before ++ line ∷ []) (lengths ++ said (line_says line))
say_push before lengths line say sound = record {
  sound = All-push Sound before line say.sound sound;
  lengths_are = sym (flat_map_more (λ line. said (line_says line)) [] before line) ∙ ap (λ xs. xs ++ said (line_says line)) say.lengths_are;
}

found_step : (found : Option ℕ) (says : Result (Option ℕ) HeadFault) (next : Option ℕ) (lengths : List ℕ) → Holds found lengths → found_with found (clipped_says says) ≡ Ok next
    → Holds next (lengths ++ said says) × IsOk says
found_step None (Err fault) next lengths holds e = absurd cc
found_step (Some size) (Err fault) next lengths holds e = absurd cc
found_step None (Ok None) next lengths holds e =
    let same : None ≡ next = cc in
    (subst (λ o. Holds o (lengths ++ [])) same (append-nil lengths ∙ holds), refl)
found_step (Some size) (Ok None) next lengths holds e =
    let same : Some size ≡ next = cc in
    (subst (λ o. Holds o (lengths ++ [])) same (holds.0, append-nil lengths ∙ holds.1, holds.2), refl)
found_step None (Ok (Some number)) next lengths holds e =
    let same : Some (clipped number) ≡ next = cc in
    (subst (λ o. Holds o (lengths ++ number ∷ [])) same (number, ap (λ xs. xs ++ number ∷ []) holds, refl), refl)
found_step (Some size) (Ok (Some number)) next lengths holds e = absurd cc

found_fault : (found : Option ℕ) (says : Result (Option ℕ) HeadFault) (lengths : List ℕ) (fault : HeadFault) → Holds found lengths → found_with found (clipped_says says) ≡ Err fault
    → fault_behind lengths says ≡ Some fault
found_fault None (Err own) [] fault holds e = cc
found_fault None (Err own) (length ∷ lengths) fault holds e = cc
found_fault (Some size) (Err own) [] fault holds e = cc
found_fault (Some size) (Err own) (length ∷ lengths) fault holds e = cc
found_fault None (Ok None) lengths fault holds e = absurd cc
found_fault (Some size) (Ok None) lengths fault holds e = absurd cc
found_fault None (Ok (Some number)) lengths fault holds e = absurd cc
found_fault (Some size) (Ok (Some number)) [] fault holds e = absurd cc
found_fault (Some size) (Ok (Some number)) (length ∷ lengths) fault holds e = cc

at_most_one : (found : Option ℕ) (lengths : List ℕ) → Holds found lengths → length lengths ≤ 1
at_most_one None lengths holds = omega (arith, ap length holds)
at_most_one (Some size) lengths holds = omega (arith, ap length holds.1)

-- the faults that a line can have
abbrev pub IsOfLine : HeadFault → Type 0
IsOfLine BadHeader = Unit {0}
IsOfLine TwoLengths = Unit {0}
IsOfLine BadLength = Unit {0}
IsOfLine HeadTooLong = ⊥
IsOfLine NoLength = ⊥
IsOfLine TooLong = ⊥

of_value : (is_length : Bool) (number : Option ℕ) (fault : HeadFault) → (if is_length then length_said number else Ok None) ≡ Err fault → IsOfLine fault
of_value true None fault e = let same : BadLength ≡ fault = cc in subst IsOfLine same tt
of_value true (Some number) fault e = absurd cc
of_value false None fault e = absurd cc
of_value false (Some number) fault e = absurd cc

of_line : (line : Bytes) (colon : Option ℕ) (fault : HeadFault) → length_behind line colon ≡ Err fault → IsOfLine fault
of_line line None fault e = let same : BadHeader ≡ fault = cc in subst IsOfLine same tt
of_line line (Some colon) fault e = of_value _ _ fault e

of_says : (lengths : List ℕ) (says : Result (Option ℕ) HeadFault) (fault : HeadFault) → ((own : HeadFault) → says ≡ Err own → IsOfLine own) → fault_behind lengths says ≡ Some fault → IsOfLine fault
of_says [] (Err own) fault of_own e = let same : own ≡ fault = cc in subst IsOfLine same (of_own own refl)
of_says (length ∷ lengths) (Err own) fault of_own e = let same : own ≡ fault = cc in subst IsOfLine same (of_own own refl)
of_says [] (Ok None) fault of_own e = absurd cc
of_says (length ∷ lengths) (Ok None) fault of_own e = absurd cc
of_says [] (Ok (Some number)) fault of_own e = absurd cc
of_says (length ∷ lengths) (Ok (Some number)) fault of_own e = let same : TwoLengths ≡ fault = cc in subst IsOfLine same tt

pub first_is_of_line : (lines : List Bytes) (fault : HeadFault) → FirstFault lines fault → IsOfLine fault
first_is_of_line lines fault first = of_says first.lengths (line_says first.line) fault (λ own e. of_line first.line _ own e) first.fault_is

have_fault : (lines : List Bytes) (fault : HeadFault) → IsOfLine fault → FirstFault lines fault → HaveFault lines fault
have_fault lines HeadTooLong of first = absurd of
have_fault lines BadHeader of first = first
have_fault lines NoLength of first = absurd of
have_fault lines TwoLengths of first = first
have_fault lines BadLength of first = first
have_fault lines TooLong of first = absurd of

-- one line more
pub length_more : (lines : List Bytes) (rest : Bytes) (line : ℕ) (found next : Option ℕ) → LengthSoFar lines rest found → LineAt rest line
    → found_with found (clipped_says (line_says (take line rest))) ≡ Ok next → LengthSoFar lines (drop (line + 2) rest) next
length_more lines rest line found next so_far here is =
    let front = next_line so_far.left rest line so_far.left_lines so_far.rest_is here in
    let step = found_step found (line_says (take line rest)) next so_far.lengths so_far.holds is in
    record {
      before = so_far.before ++ take line rest ∷ [];
      left = front.0;
      are = so_far.are ∙ ap (λ xs. so_far.before ++ xs) front.1 ∙ sym (append_assoc so_far.before (take line rest ∷ []) front.0);
      left_lines = front.3;
      rest_is = front.2;
      lengths = so_far.lengths ++ said (line_says (take line rest));
      say = say_push so_far.before so_far.lengths (take line rest) so_far.say step.1;
      holds = step.0;
    }

-- a line at fault
pub length_fault : (lines : List Bytes) (rest : Bytes) (line : ℕ) (found : Option ℕ) (fault : HeadFault) → LengthSoFar lines rest found → LineAt rest line
    → found_with found (clipped_says (line_says (take line rest))) ≡ Err fault → HaveFault lines fault
length_fault lines rest line found fault so_far here is =
    let front = next_line so_far.left rest line so_far.left_lines so_far.rest_is here in
    let first : FirstFault lines fault = record {
      before = so_far.before;
      line = take line rest;
      after = front.0;
      are = so_far.are ∙ ap (λ xs. so_far.before ++ xs) front.1;
      lengths = so_far.lengths;
      say = so_far.say;
      once = at_most_one found so_far.lengths so_far.holds;
      fault_is = found_fault found (line_says (take line rest)) so_far.lengths fault so_far.holds is;
    } in
    have_fault lines fault (first_is_of_line lines fault first) first

all_seen : (lines : List Bytes) (rest : Bytes) (found : Option ℕ) → (so_far : LengthSoFar lines rest found) → has_line_end rest ≡ false → Say lines so_far.lengths
all_seen lines rest found so_far none =
    let seen : lines ≡ so_far.before = so_far.are ∙ ap (λ xs. so_far.before ++ xs) (no_line_left so_far.left rest so_far.rest_is none) ∙ append-nil so_far.before in
    subst (λ ls. Say ls so_far.lengths) (sym seen) so_far.say

-- no line is left
pub length_end : (lines : List Bytes) (rest : Bytes) (found : Option ℕ) → LengthSoFar lines rest found → has_line_end rest ≡ false
    → MatchResult (ok_or found NoLength) (SayOne lines) (HaveFault lines)
length_end lines rest None so_far none = subst (Say lines) so_far.holds (all_seen lines rest None so_far none)
length_end lines rest (Some size) so_far none = record {
  number = so_far.holds.0;
  say = subst (Say lines) so_far.holds.1 (all_seen lines rest (Some size) so_far none);
  size_is = so_far.holds.2;
}
