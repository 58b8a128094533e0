-- How the answers for the parts of a statement make up what is known of the statement.
use Rattle.std.proofs.Common.{◌≡◌, ℕ, ◌+◌, List, ◌++◌, length, refl, sym, ap, subst, ◌∙◌, append_assoc, length-append}
use Rattle.std.specs.Prelude.{Result, Ok, Err}
use Rattle.gang_model.specs.declared.refusals.SourceRefusal.{SourceRefusal}
use Rattle.gang_model.specs.Types.Tree.{Stmt, Variable}
use Rattle.gang_model.specs.Source.Parsed.{ParsedStmt}
use Rattle.gang_model.specs.Types.Calls.{Context}
use Rattle.gang_model.specs.Types.Typing.{Scope}
use Rattle.gang_model.specs.Source.Judged.{Judged, Sound, both, ◌>>=◌, answer_of}
use Rattle.gang_model.specs.Types.Statements.{Made, made, statement}
use Rattle.gang_model.specs.Source.Judged as definitions
use Rattle.gang_model.proofs.JudgedLaws as laws
use Rattle.source_answers.specs.Answers.{pair_view}
use Rattle.source_answers.specs.Apart.{seen}
use Rattle.type_check_parts.specs.Typed.{IsTyped}

both_seen : {A B C D : Type 0} (f : A → C) (g : B → D) (l : Result A SourceRefusal) (r : Result B SourceRefusal)
    → definitions.both_answers (seen f l) (seen g r) ≡ seen (pair_view f g) (definitions.both_answers l r)
both_seen f g (Ok a) (Ok b) = refl
both_seen f g (Ok a) (Err fault) = refl
both_seen f g (Err fault) (Ok b) = refl
both_seen f g (Err fault) (Err later) = refl

-- two parts that are judged each by itself
pub seen-both : {A B C D : Type 0} (f : A → C) (g : B → D) (l : Result A SourceRefusal) (r : Result B SourceRefusal) (whole : Result (A × B) SourceRefusal) (j : Judged C) (k : Judged D)
    → whole ≡ definitions.both_answers l r → answer_of j ≡ seen f l → answer_of k ≡ seen g r → answer_of (both j k) ≡ seen (pair_view f g) whole
seen-both f g l r whole j k w h i =
    laws.answer_of-both j k ∙ (ap (λ x. definitions.both_answers x (answer_of k)) h ∙ (ap (definitions.both_answers (seen f l)) i ∙ (both_seen f g l r ∙ ap (seen (pair_view f g)) (sym w))))

-- the same in the same scope
pub typed-at : {A : Type 0} (view : A → Stmt) (answer : Result A SourceRefusal) (s : ParsedStmt) (context : Context) (scope scope' : Scope) (k k' step step' : ℕ)
    (before after : List Variable) (count : ℕ)
    → IsTyped view answer (statement s context scope k step) before after count → scope ≡ scope' → k ≡ k' → step ≡ step'
    → IsTyped view answer (statement s context scope' k' step') before after count
typed-at view answer s context scope scope' k k' step step' before after count h e i n =
    subst (λ x. IsTyped view answer (statement s context x k' step') before after count) e
    (subst (λ x. IsTyped view answer (statement s context scope x step') before after count) i
    (subst (λ x. IsTyped view answer (statement s context scope k x) before after count) n h))

-- the variables of two parts, one after the other
pub variables-two : {A : Type 0} (l0 l1 l2 xs ys : List A) → l1 ≡ l0 ++ xs → l2 ≡ l1 ++ ys → l2 ≡ l0 ++ (xs ++ ys)
variables-two l0 l1 l2 xs ys h i = i ∙ (ap (λ l. l ++ ys) h ∙ append_assoc l0 xs ys)

pub length-two : {A : Type 0} (xs ys : List A) (m n : ℕ) → length xs ≡ m → length ys ≡ n → length (xs ++ ys) ≡ m + n
length-two xs ys m n h i = length-append xs ys ∙ (ap (λ x. x + length ys) h ∙ ap (λ x. m + x) i)

-- how many variables a function has after a statement
pub next-number : {A : Type 0} (view : A → Stmt) (answer : Result A SourceRefusal) (j : Judged Made) (before after : List Variable) (count : ℕ)
    → IsTyped view answer j before after count → length after ≡ length before + count
next-number view answer j before after count h =
    ap length h.variables ∙ (length-append before h.declared ∙ ap (λ x. length before + x) h.counted)

seen_twice : {A : Type 0} (view : A → Stmt) (declared : List Variable) (answer : Result A SourceRefusal)
    → seen (λ s. made s declared) (seen view answer) ≡ seen (λ s. made (view s) declared) answer
seen_twice view declared (Ok a) = refl
seen_twice view declared (Err fault) = refl

-- a statement that is made of its parts
pub typed-parts : {A P C : Type 0} (view : A → Stmt) (parts : P → C) (r : Result P SourceRefusal) (j : Judged C) (next : C → Judged Made) (form : P → Stmt) (answer : Result A SourceRefusal)
    (before after declared : List Variable) (count : ℕ)
    → answer_of j ≡ seen parts r → seen view answer ≡ seen form r → ((p : P) → next (parts p) ≡ Sound (made (form p) declared))
    → after ≡ before ++ declared → length declared ≡ count
    → IsTyped view answer (j >>= next) before after count
typed-parts {P = P} view parts r j next form answer before after declared count h f n v l = record {
  declared = declared;
  variables = v;
  counted = l;
  answered = laws.answer_of-then j next ∙ (ap (λ x. definitions.then_answer x (λ y. answer_of (next y))) h
      ∙ (by r ∙ (ap (seen (λ s. made s declared)) (sym f) ∙ seen_twice view declared answer)));
}
  where
    by : (q : Result P SourceRefusal) → definitions.then_answer (seen parts q) (λ y. answer_of (next y)) ≡ seen (λ s. made s declared) (seen form q)
    by (Ok p) = ap answer_of (n p)
    by (Err fault) = refl
