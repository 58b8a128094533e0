-- Changes that are put behind others.
use Rattle.std.proofs.Common.{inl, inr, ◌≡◌, sym, ap, ◌∙◌, subst, List, [], ◌∷◌, ◌++◌}
use Rattle.std.specs.Prelude.{Contains, ◌⊎◌}
use Rattle.std.proofs.lemmas.List.{append-nil, append_assoc}
use Rattle.std.proofs.lemmas.List.Elements.{All-append, All-nil, All-push, All-weaker, Contains-append_left, Contains-append_right, Contains-push}
use Rattle.run_page.specs.declared.views.Change.{Change}
use Rattle.run_page.specs.Rows.{Adds}

-- none was put there where there is none
pub adds_none : (P : Change → Type 0) (changes : List Change) → ((it : Change) → P it → ⊥) → Adds P changes changes
adds_none P changes none = record { more = []; behind = sym (append-nil changes); sound = All-nil P; complete = λ it p. absurd (none it p) }

-- the same by another test that says the same
pub adds_same : (P Q : Change → Type 0) (old new : List Change) → ((it : Change) → P it → Q it) → ((it : Change) → Q it → P it) → Adds P old new → Adds Q old new
adds_same P Q old new to back adds = record { more = adds.more; behind = adds.behind; sound = All-weaker P Q to adds.more adds.sound; complete = λ it q. adds.complete it (back it q) }

-- with one change more
pub adds_push : (P Q : Change → Type 0) (old middle new : List Change) (it : Change) → new ≡ middle ++ it ∷ [] → Q it → ((x : Change) → P x → Q x) → ((x : Change) → Q x → P x ⊎ (it ≡ x)) → Adds P old middle → Adds Q old new
adds_push P Q old middle new it more is to from adds = record {
  more = adds.more ++ it ∷ [];
  behind = more ∙ ap (λ xs. xs ++ it ∷ []) adds.behind ∙ append_assoc old adds.more (it ∷ []);
  sound = All-push Q adds.more it (All-weaker P Q to adds.more adds.sound) is;
  complete = λ x q. elim (from x q) [
    | inl p ↦ Contains-append_left adds.more (it ∷ []) x (adds.complete x p)
    | inr same ↦ subst (Contains (adds.more ++ it ∷ [])) same (Contains-push adds.more it)
  ];
}

-- some, and then others
pub adds_join : (P Q R : Change → Type 0) (old middle new : List Change) → ((x : Change) → P x → R x) → ((x : Change) → Q x → R x) → ((x : Change) → R x → P x ⊎ Q x) → Adds P old middle → Adds Q middle new → Adds R old new
adds_join P Q R old middle new first second either a b = record {
  more = a.more ++ b.more;
  behind = b.behind ∙ ap (λ xs. xs ++ b.more) a.behind ∙ append_assoc old a.more b.more;
  sound = All-append R a.more b.more (All-weaker P R first a.more a.sound) (All-weaker Q R second b.more b.sound);
  complete = λ x r. elim (either x r) [
    | inl p ↦ Contains-append_left a.more b.more x (a.complete x p)
    | inr q ↦ Contains-append_right a.more b.more x (b.complete x q)
  ];
}
