-- Steps of the loop over segments.
use Rattle.std.proofs.Common.{◌≡◌, ℕ, zero, suc, List, [], ◌∷◌, ◌++◌, Option, Some, None, true, false, refl, sym, ap, ◌∙◌, arith}
use Rattle.gang_model.specs.declared.marks.Mark.TheVariants as mark
use Rattle.gang_model.specs.Source.Tokens.{Lexeme}
use Rattle.gang_model.specs.Source.Parsed.{ParsedSegments, ParsedNoMore, ParsedSegment}
use Rattle.source_answers.specs.declared.fault.SourceFault.{SourceFault}
use Rattle.ispc_lexer.specs.Options.{◌>>=◌}
use Rattle.ispc_parser_words.specs.Front.{Fails, begins}
use Rattle.source_tree.specs.declared.tree.Segment.{Segment as WrittenSegment}
use Rattle.source_tree.specs.Tree.{segments_view}
use Rattle.ispc_parser_shared.specs.Front.{Reader}
use Rattle.ispc_parser_shared.proofs.Fails.{fails_when}
use Rattle.ispc_parser_statements.specs.Statements.{Segment, segment_view, segments_of}

-- a segment, and those after it
abbrev pub before : Segment → ParsedSegments → ParsedSegments
before s segments = ParsedSegment s.at s.label s.stmts segments

abbrev pub append : ParsedSegments → ParsedSegments → ParsedSegments
append ParsedNoMore segments = segments
append (ParsedSegment at label ss front) segments = ParsedSegment at label ss (append front segments)

-- what was read before, and what is still read
abbrev pub after_front : ParsedSegments → Option (ParsedSegments × List Lexeme) → Option (ParsedSegments × List Lexeme)
after_front front read = read >>= λ x. Some (append front x.0, x.1)

pub segments_view-push : (ss : List WrittenSegment) (s : WrittenSegment) → segments_view (ss ++ s ∷ []) ≡ append (segments_view ss) (before (segment_view s) ParsedNoMore)
segments_view-push [] s = refl
segments_view-push (x ∷ ss) s = ap (before (segment_view x)) (segments_view-push ss s)

append-next : (front : ParsedSegments) (s : Segment) (segments : ParsedSegments) → append (append front (before s ParsedNoMore)) segments ≡ append front (before s segments)
append-next ParsedNoMore s segments = refl
append-next (ParsedSegment at label ss front) s segments = ap (ParsedSegment at label ss) (append-next front s segments)

append-none : (front : ParsedSegments) → append front ParsedNoMore ≡ front
append-none ParsedNoMore = refl
append-none (ParsedSegment at label ss front) = ap (ParsedSegment at label ss) (append-none front)

module _ (one : Reader Segment) where
  pub starts_none : (n : ℕ) (ts : List Lexeme) → after_front ParsedNoMore (segments_of one n ts) ≡ segments_of one n ts
  starts_none n ts = go (segments_of one n ts)
    where
      go : (r : Option (ParsedSegments × List Lexeme)) → after_front ParsedNoMore r ≡ r
      go None = refl
      go (Some x) = refl

  pub segments_done : (n : ℕ) (front : ParsedSegments) (ts : List Lexeme) → begins mark.RightBrace ts ≡ true → after_front front (segments_of one n ts) ≡ Some (front, ts)
  unfolding segments_of
  segments_done zero front ts e = ap (λ (x : ParsedSegments). Some (x, ts)) (append-none front)
  segments_done (suc n) front ts e = rw e (ap (λ (x : ParsedSegments). Some (x, ts)) (append-none front))

  pub segments_spent : (n : ℕ) (front : ParsedSegments) (ts : List Lexeme) → n ≡ 0 → after_front front (segments_of one n ts) ≡ Some (front, ts)
  unfolding segments_of
  segments_spent zero front ts e = ap (λ (x : ParsedSegments). Some (x, ts)) (append-none front)
  segments_spent (suc n) front ts e = absurd (omega arith)

  module _ (n m : ℕ) (front : ParsedSegments) (ts : List Lexeme) (total : Option (ParsedSegments × List Lexeme))
      (n-is : n ≡ suc m) (goes : begins mark.RightBrace ts ≡ false) (so_far : after_front front (segments_of one n ts) ≡ total) where
    pub segments_fail : (e : SourceFault) → Fails e (one ts) → Fails e total
    unfolding segments_of
    segments_fail e h = fails_when e (one ts) total (λ none. sym so_far ∙ rw (n-is, goes, none) refl) h

    pub segments_go_on : (s : Segment) (rest : List Lexeme) → one ts ≡ Some (s, rest)
        → after_front (append front (before s ParsedNoMore)) (segments_of one m rest) ≡ total
    unfolding segments_of
    segments_go_on s rest e = last (segments_of one m rest) ∙ sym next ∙ so_far
      where
        next : after_front front (segments_of one n ts) ≡ after_front front (segments_of one m rest >>= λ x. Some (before s x.0, x.1))
        next = rw (n-is, goes, e) refl

        last : (r : Option (ParsedSegments × List Lexeme)) → after_front (append front (before s ParsedNoMore)) r ≡ after_front front (r >>= λ x. Some (before s x.0, x.1))
        last None = refl
        last (Some x) = ap (λ (t : ParsedSegments). Some (t, x.1)) (append-next front s x.0)
