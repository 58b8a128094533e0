-- A source has one list of tokens, or one first fault.
use Rattle.std.proofs.Common.{◌≡◌, inr, ℕ, ◌≤◌, List, length, Result, Ok, Err, refl, sym, ap, ◌∙◌, arith}
use Rattle.std.specs.Prelude.{IfOk, IfErr}
use Rattle.gang_types.specs.declared.places.Place.{Place}
use Rattle.gang_model.specs.declared.refusals.RefusalNumber.{RefusalNumber}
use Rattle.gang_model.specs.declared.refusals.SourceRefusal.{SourceRefusal}
use Rattle.gang_model.specs.Source.Tokens.{Lexeme}
use Rattle.gang_model.specs.Source.Lexes.{first_place, max_source, Lexes, IsFirstFault}
use Rattle.source_answers.specs.declared.fault.SourceFault.{SourceFault}
use Rattle.source_answers.specs.declared.fault.SourceFault.TheVariants as fault
use Rattle.ispc_lexer.specs.Source.{Gives, lexed}
use Rattle.ispc_lexer.specs.Refusal.{IsRefusal}
use Rattle.ispc_lexer.proofs.Lexed.{fine, ok_is, err_is, lex_sound, lex_fault, lex_complete, lex_stuck}

-- what the source is, as the code finds it
lexed_tokens : (source : List ℕ) (ts : List Lexeme) → Lexes source ts → lexed (length source) 0 first_place source ≡ Ok ts
lexed_tokens source ts l = lex_complete l.0 (length source) 0 first_place source (omega arith) l.1 ∙ ap fine l.2

lexed_fault : (source : List ℕ) (n : RefusalNumber) (p : Place) → IsFirstFault source n p → lexed (length source) 0 first_place source ≡ Err (record { number = n; place = p })
lexed_fault source n p q = lex_stuck q.0 (length source) 0 first_place source q.1 (omega arith) q.2 q.3 ∙ rw (q.4, q.5) refl

pub same_tokens : (source : List ℕ) (ts us : List Lexeme) → Lexes source ts → Lexes source us → ts ≡ us
same_tokens source ts us l k = ok_is ts us (sym (lexed_tokens source ts l) ∙ lexed_tokens source us k)

pub same_fault : (source : List ℕ) (m n : RefusalNumber) (p q : Place) → IsFirstFault source m p → IsFirstFault source n q → (m ≡ n) × (p ≡ q)
same_fault source m n p q f g =
    let one : SourceRefusal = record { number = m; place = p } in
    let other : SourceRefusal = record { number = n; place = q } in
    let same : one ≡ other = err_is one other (sym (lexed_fault source m p f) ∙ lexed_fault source n q g) in
    (ap (λ (r : SourceRefusal). r.number) same, ap (λ (r : SourceRefusal). r.place) same)

pub no_tokens : (source : List ℕ) (n : RefusalNumber) (p : Place) (ts : List Lexeme) → IsFirstFault source n p → Lexes source ts → ⊥
no_tokens source n p ts f l = let both = sym (lexed_fault source n p f) ∙ lexed_tokens source ts l in absurd cc

-- ---- what `tokens` says

module _ {X : Type 0} (view : X → List Lexeme) (source : List ℕ) (small : length source ≤ max_source) where
  pub is_found : (r : Result X SourceFault) → Gives view r (lexed (length source) 0 first_place source) → IfOk r (λ v. (length source ≤ max_source) × Lexes source (view v))
  is_found (Ok v) h = (small, lex_sound (length source) 0 first_place source (view v) (omega arith) h)
  is_found (Err e) h = tt

  pub is_one : (r : Result X SourceFault) → Gives view r (lexed (length source) 0 first_place source) → IfOk r (λ v. (ts : List Lexeme) → Lexes source ts → ts ≡ view v)
  is_one (Ok v) h = λ ts l. same_tokens source ts (view v) l (lex_sound (length source) 0 first_place source (view v) (omega arith) h)
  is_one (Err e) h = tt

  pub is_refusal : (r : Result X SourceFault) → Gives view r (lexed (length source) 0 first_place source) → IfErr r (IsRefusal source)
  is_refusal (Ok v) h = tt
  is_refusal (Err fault.Memory) h = tt
  is_refusal (Err (fault.Refused f)) h =
      let first : IsFirstFault source f.number f.place = lex_fault (length source) 0 first_place source f (omega arith) h in
      inr (
        small,
        record {
          first = first;
          only = λ other place q. same_fault source other f.number place f.place q first;
          none = λ ts l. no_tokens source f.number f.place ts first l;
        },
      )
