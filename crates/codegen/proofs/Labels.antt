-- The segments of a switch, one after another.
use Rattle.std.proofs.Common.{◌≡◌, ◌∙◌, ap, refl, sym, subst, ℕ, suc, ◌+◌, ◌<◌, List, [], ◌∷◌, ◌++◌, length, get_or, take}
use Rattle.std.proofs.lemmas.List.{take_more}
use Rattle.mask_states.specs.Points.{entries_of}
use Rattle.typed_tree.specs.declared.statements.Segment.{Segment}
use Rattle.typed_tree.specs.Views.{segments_view}
use Rattle.codegen.specs.declared.code.SegmentCode.{SegmentCode}
use Rattle.codegen.specs.Codes.{AreSegments}

-- behind others
one_more : (made : List SegmentCode) (segments : List Segment) (entries : List ℕ) (x : Segment) (entry : ℕ) → AreSegments made (segments_view segments) entries
    → AreSegments (made ++ record { label = x.label; entry = entry } ∷ []) (segments_view (segments ++ x ∷ [])) (entries ++ entry ∷ [])
one_more [] [] [] x entry h = (refl, refl, tt)
one_more [] [] (e ∷ entries) x entry h = absurd h
one_more [] (s ∷ segments) entries x entry h = absurd h
one_more (m ∷ made) [] entries x entry h = absurd h
one_more (m ∷ made) (s ∷ segments) [] x entry h = absurd h
one_more (m ∷ made) (s ∷ segments) (e ∷ entries) x entry h = (h.0, h.1, one_more made segments entries x entry h.2)

pub segment_more : (segments : List Segment) (entries : List ℕ) (i : ℕ) (x : Segment) (entry : ℕ) (made new : List SegmentCode) → i < length segments → i < length entries
    → x ≡ get_or segments i x → entry ≡ get_or entries i entry → AreSegments made (segments_view (take i segments)) (take i entries)
    → new ≡ made ++ record { label = x.label; entry = entry } ∷ [] → AreSegments new (segments_view (take (i + 1) segments)) (take (i + 1) entries)
segment_more segments entries i x entry made new below within here there before pushed =
    let now = one_more made (take i segments) (take i entries) x entry before in
    subst (λ l. AreSegments l (segments_view (take (i + 1) segments)) (take (i + 1) entries)) (sym pushed)
    (subst (λ es. AreSegments (made ++ record { label = x.label; entry = entry } ∷ []) (segments_view (take (i + 1) segments)) es)
    (sym (take_more entries i entry within ∙ ap (λ e. take i entries ++ e ∷ []) (sym there)))
    (subst (λ ss. AreSegments (made ++ record { label = x.label; entry = entry } ∷ []) (segments_view ss) (take i entries ++ entry ∷ []))
    (sym (take_more segments i x below ∙ ap (λ y. take i segments ++ y ∷ []) (sym here))) now))

-- there is an entry for each
pub entries_long : (segments : List Segment) (next : ℕ) → length (entries_of (segments_view segments) next) ≡ length segments
entries_long [] next = refl
entries_long (s ∷ segments) next = ap suc (entries_long segments next)
