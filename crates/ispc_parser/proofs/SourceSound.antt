-- What is read as functions and file-scope variables is spelled so.
use Rattle.std.proofs.Common.{◌≡◌, inl, inr, ℕ, zero, suc, ◌≤◌, List, [], ◌∷◌, length, Some, Bool, true, false, ◌||◌, refl, subst, arith}
use Rattle.gang_types.specs.declared.places.Place.{Place}
use Rattle.gang_model.specs.declared.marks.Mark.TheVariants as mark
use Rattle.gang_model.specs.declared.forms.Spec.{Spec}
use Rattle.gang_model.specs.declared.forms.GlobalForm.{GlobalForm}
use Rattle.gang_model.specs.declared.forms.GlobalForm.TheVariants as form
use Rattle.gang_model.specs.declared.forms.Literal.{Literal}
use Rattle.gang_model.specs.declared.forms.Literal.TheVariants as literal
use Rattle.gang_model.specs.Source.Tokens.{named, marked, Lexeme}
use Rattle.gang_model.specs.Source.Parsed.{Name, ParsedParam, ParsedItem, ParsedFunctionItem, ParsedGlobalItem, ParsedSource}
use Rattle.gang_model.specs.Source.Spells.{Takes, TakesAt, Opens}
use Rattle.gang_model.specs.Source.SpellsStatements.{SpellsSpec, SpellsList, SpellsStmts}
use Rattle.gang_model.specs.Source.SpellsSource.{max_nesting, max_params, SpellsEmptyBrackets, SpellsParam, SpellsParams, SpellsLiteral, SpellsForm, SpellsItem, IsTree}
use Rattle.ispc_parser_words.specs.Front.{begins, take}
use Rattle.ispc_parser_words.proofs.Tokens.{take_takes}
use Rattle.ispc_parser_shared.specs.Front.{take_at, name_of, number_of}
use Rattle.ispc_parser_shared.specs.SpecWords.{local_spec_of, outer_spec_of}
use Rattle.ispc_parser_shared.proofs.Tokens.{take_at_sound, name_sound, number_sound}
use Rattle.ispc_parser_shared.proofs.SpecTokens.{local_spec_sound, outer_spec_sound}
use Rattle.ispc_parser_shared.proofs.CommaLists.{list_sound}
use Rattle.ispc_parser_statements.specs.Statements.{within, parsers}
use Rattle.ispc_parser_statements.proofs.StatementsSound.{within_sound, parsers_sound}
use Rattle.ispc_parser.specs.Source.{brackets_of, param_of, some_params_of, lone_void, params_of, Body, function_body_of, function_of, signed, literal_of, form_of, global_of, declared_of, item_of, is_empty, items_of, tree_of}
use Rattle.std.proofs.lemmas.Option.{same_Some}
use Rattle.ispc_lexer.proofs.Runs.{which, bind_some, chosen}

-- ---- functions

brackets_sound : (b : Bool) (ts rest : List Lexeme) → brackets_of ts ≡ Some (b, rest) → SpellsEmptyBrackets b ts rest
unfolding brackets_of
brackets_sound b ts rest e =
    elim (which (begins mark.LeftBracket ts) _ _ (Some (b, rest)) e) [
      | inl p ↦
          let q1 = bind_some (take mark.LeftBracket ts) _ (b, rest) p.1 in
          let q2 = bind_some (take mark.RightBracket q1.0) _ (b, rest) q1.2 in
          subst (λ (y : Bool × List Lexeme). SpellsEmptyBrackets y.0 ts y.1) (same_Some (true, q2.0) (b, rest) q2.2)
          (q1.0, take_takes mark.LeftBracket ts q1.0 q1.1, take_takes mark.RightBracket q1.0 q2.0 q2.1)
      | inr p ↦ subst (λ (y : Bool × List Lexeme). SpellsEmptyBrackets y.0 ts y.1) (same_Some (false, ts) (b, rest) p.1) refl
    ]

param_sound : (x : ParsedParam) (ts rest : List Lexeme) → param_of ts ≡ Some (x, rest) → SpellsParam x ts rest
unfolding param_of
param_sound x ts rest e =
    let q1 = bind_some (local_spec_of ts) _ (x, rest) e in
    let q2 = bind_some (name_of q1.0.1) _ (x, rest) q1.2 in
    let q3 = bind_some (brackets_of q2.0.1) _ (x, rest) q2.2 in
    let s = local_spec_sound q1.0.0 ts q1.0.1 q1.1 in
    subst (λ (y : ParsedParam × List Lexeme). SpellsParam y.0 ts y.1) (same_Some (record { at = q2.0.0.0; name = q2.0.0.1; spec = q1.0.0; is_array = q3.0.0 }, q3.0.1) (x, rest) q3.2)
    (q1.0.1, q2.0.1, s.0, s.1, name_sound q2.0.0 q1.0.1 q2.0.1 q2.1, brackets_sound q3.0.0 q2.0.1 q3.0.1 q3.1)

abbrev Params : List ParsedParam → List Lexeme → List Lexeme → Type 0
Params xs ts rest = SpellsParams xs ts rest × (length xs ≤ max_params)

some_params_sound : (xs : List ParsedParam) (ts rest : List Lexeme) → some_params_of ts ≡ Some (xs, rest) → Params xs ts rest
unfolding some_params_of
some_params_sound xs ts rest e = let l = list_sound param_of SpellsParam param_sound max_params xs ts rest e in (listed xs l.0, l.1)
  where
    listed : (ys : List ParsedParam) → SpellsList SpellsParam ys ts rest → SpellsParams ys ts rest
    listed [] h = absurd h
    listed (y ∷ ys) h = h

lone_void_sound : (ts rest : List Lexeme) → lone_void ts ≡ Some rest → Takes (marked mark.Void) ts rest
unfolding lone_void
lone_void_sound ts rest e =
    let q = bind_some (take mark.Void ts) _ rest e in
    elim (which (begins mark.RightParen q.0) _ _ (Some rest) q.2) [
      | inl p ↦ subst (λ (r : List Lexeme). Takes (marked mark.Void) ts r) (same_Some q.0 rest p.1) (take_takes mark.Void ts q.0 q.1)
      | inr p ↦ let no_value = p.1 in absurd cc
    ]

params_sound : (xs : List ParsedParam) (ts rest : List Lexeme) → params_of ts ≡ Some (xs, rest) → Params xs ts rest
unfolding params_of
params_sound xs ts rest e =
    elim (which (begins mark.RightParen ts) _ _ (Some (xs, rest)) e) [
      | inl p ↦ subst (λ (y : List ParsedParam × List Lexeme). Params y.0 ts y.1) (same_Some ([], ts) (xs, rest) p.1) (inl refl, omega arith)
      | inr p ↦
          elim (chosen (lone_void ts) _ _ (Some (xs, rest)) p.1) [
            | inl v ↦ subst (λ (y : List ParsedParam × List Lexeme). Params y.0 ts y.1) (same_Some ([], v.0) (xs, rest) v.2) (inr (lone_void_sound ts v.0 v.1), omega arith)
            | inr v ↦ some_params_sound xs ts rest v.1
          ]
    ]

abbrev InBraces : Body → List Lexeme → List Lexeme → Type 0
InBraces body ts rest = (a b : List Lexeme) × Takes (marked mark.LeftBrace) ts a × Opens max_nesting (λ inner. SpellsStmts body.stmts inner a b) × TakesAt (marked mark.RightBrace) body.closing b rest

body_sound : (x : Body) (ts rest : List Lexeme) → function_body_of ts ≡ Some (x, rest) → InBraces x ts rest
unfolding function_body_of
body_sound x ts rest e =
    let q1 = bind_some (take mark.LeftBrace ts) _ (x, rest) e in
    let q2 = bind_some ((within 63 (parsers 63)).stmts q1.0) _ (x, rest) q1.2 in
    let q3 = bind_some (take_at mark.RightBrace q2.0.1) _ (x, rest) q2.2 in
    subst (λ (y : Body × List Lexeme). InBraces y.0 ts y.1) (same_Some (record { stmts = q2.0.0; closing = q3.0.0 }, q3.0.1) (x, rest) q3.2)
    (q1.0, q2.0.1, take_takes mark.LeftBrace ts q1.0 q1.1, (within_sound 63 (parsers 63) (parsers_sound 63)).stmts q2.0.0 q1.0 q2.0.1 q2.1, take_at_sound mark.RightBrace q3.0.0 q2.0.1 q3.0.1 q3.1)

-- behind the words and the name that all begins with
module _ (spec : Spec) (at : Place) (n : Name) (all a b : List Lexeme) (words : SpellsSpec spec all a) (name : TakesAt (named n) at a b) where
  function_sound : (x : ParsedItem) (rest : List Lexeme) → spec.is_constant ≡ false → function_of spec at n b ≡ Some (x, rest) → SpellsItem x all rest
  unfolding function_of
  function_sound x rest may e =
      let q1 = bind_some (take mark.LeftParen b) _ (x, rest) e in
      let q2 = bind_some (params_of q1.0) _ (x, rest) q1.2 in
      let q3 = bind_some (take mark.RightParen q2.0.1) _ (x, rest) q2.2 in
      let q4 = bind_some (function_body_of q3.0) _ (x, rest) q3.2 in
      let ps = params_sound q2.0.0 q1.0 q2.0.1 q2.1 in
      let body = body_sound q4.0.0 q3.0 q4.0.1 q4.1 in
      subst (λ (y : ParsedItem × List Lexeme). SpellsItem y.0 all y.1)
      (same_Some (ParsedFunctionItem (record { at = at; name = n; spec = spec; params = q2.0.0; body = q4.0.0.stmts; closing = q4.0.0.closing }), q4.0.1) (x, rest) q4.2)
      (a, b, q1.0, q2.0.1, q3.0, body.0, body.1, words, may, name, take_takes mark.LeftParen b q1.0 q1.1, ps.0, ps.1, take_takes mark.RightParen q2.0.1 q3.0 q3.1, body.2, body.3, body.4)

-- ---- file-scope variables

literal_sound : (x : Literal) (ts rest : List Lexeme) → literal_of ts ≡ Some (x, rest) → SpellsLiteral x ts rest
unfolding literal_of
literal_sound x ts rest e =
    elim (chosen (take mark.Minus ts) _ _ (Some (x, rest)) e) [
      | inl p ↦
          let q = bind_some (number_of p.0) _ (x, rest) p.2 in
          subst (λ (y : Literal × List Lexeme). SpellsLiteral y.0 ts y.1) (same_Some (signed true q.0.0, q.0.1) (x, rest) q.2)
          (p.0, take_takes mark.Minus ts p.0 p.1, number_sound q.0.0 p.0 q.0.1 q.1)
      | inr p ↦
          elim (chosen (take mark.True ts) _ _ (Some (x, rest)) p.1) [
            | inl t ↦ subst (λ (y : Literal × List Lexeme). SpellsLiteral y.0 ts y.1) (same_Some (literal.Truth true, t.0) (x, rest) t.2) (take_takes mark.True ts t.0 t.1)
            | inr t ↦
                elim (chosen (take mark.False ts) _ _ (Some (x, rest)) t.1) [
                  | inl f ↦ subst (λ (y : Literal × List Lexeme). SpellsLiteral y.0 ts y.1) (same_Some (literal.Truth false, f.0) (x, rest) f.2) (take_takes mark.False ts f.0 f.1)
                  | inr f ↦
                      let q = bind_some (number_of ts) _ (x, rest) f.1 in
                      subst (λ (y : Literal × List Lexeme). SpellsLiteral y.0 ts y.1) (same_Some (signed false q.0.0, q.0.1) (x, rest) q.2)
                      (ts, refl, number_sound q.0.0 ts q.0.1 q.1)
                ]
          ]
    ]

form_sound : (x : GlobalForm) (ts rest : List Lexeme) → form_of ts ≡ Some (x, rest) → SpellsForm x ts rest
unfolding form_of
form_sound x ts rest e =
    elim (chosen (take mark.LeftBracket ts) _ _ (Some (x, rest)) e) [
      | inl p ↦
          let q1 = bind_some (number_of p.0) _ (x, rest) p.2 in
          let q2 = bind_some (take mark.RightBracket q1.0.1) _ (x, rest) q1.2 in
          subst (λ (y : GlobalForm × List Lexeme). SpellsForm y.0 ts y.1) (same_Some (form.Array q1.0.0.value, q2.0) (x, rest) q2.2)
          (q1.0.0.is_unsigned, q1.0.0.is_long, p.0, q1.0.1, take_takes mark.LeftBracket ts p.0 p.1, number_sound q1.0.0 p.0 q1.0.1 q1.1, take_takes mark.RightBracket q1.0.1 q2.0 q2.1)
      | inr p ↦
          elim (chosen (take mark.Assign ts) _ _ (Some (x, rest)) p.1) [
            | inl v ↦
                let q = bind_some (literal_of v.0) _ (x, rest) v.2 in
                subst (λ (y : GlobalForm × List Lexeme). SpellsForm y.0 ts y.1) (same_Some (form.Initial q.0.0, q.0.1) (x, rest) q.2)
                (v.0, take_takes mark.Assign ts v.0 v.1, literal_sound q.0.0 v.0 q.0.1 q.1)
            | inr v ↦ subst (λ (y : GlobalForm × List Lexeme). SpellsForm y.0 ts y.1) (same_Some (form.Plain, ts) (x, rest) v.1) refl
          ]
    ]

no_outer_words : (a b : Bool) → (a || b) ≡ false → (a ≡ false) × (b ≡ false)
no_outer_words false false e = (refl, refl)
no_outer_words true b e = absurd cc
no_outer_words false true e = absurd cc

module _ (spec : Spec) (at : Place) (n : Name) (all a b : List Lexeme) (words : SpellsSpec spec all a) (name : TakesAt (named n) at a b) where
  global_sound : (x : ParsedItem) (rest : List Lexeme) → (spec.is_exported || spec.is_inline) ≡ false → global_of spec at n b ≡ Some (x, rest) → SpellsItem x all rest
  unfolding global_of
  global_sound x rest may e =
      let q1 = bind_some (form_of b) _ (x, rest) e in
      let q2 = bind_some (take mark.Semicolon q1.0.1) _ (x, rest) q1.2 in
      let no = no_outer_words spec.is_exported spec.is_inline may in
      subst (λ (y : ParsedItem × List Lexeme). SpellsItem y.0 all y.1) (same_Some (ParsedGlobalItem (record { at = at; name = n; spec = spec; form = q1.0.0 }), q2.0) (x, rest) q2.2)
      (a, b, q1.0.1, words, no.0, no.1, name, form_sound q1.0.0 b q1.0.1 q1.1, take_takes mark.Semicolon q1.0.1 q2.0 q2.1)

  declared_sound : (x : ParsedItem) (rest : List Lexeme) → declared_of spec at n b ≡ Some (x, rest) → SpellsItem x all rest
  unfolding declared_of
  declared_sound x rest e =
      elim (which (begins mark.LeftParen b) _ _ (Some (x, rest)) e) [
        | inl p ↦
            elim (which spec.is_constant _ _ (Some (x, rest)) p.1) [
              | inl c ↦ let no_value = c.1 in absurd cc
              | inr c ↦ function_sound spec at n all a b words name x rest c.0 c.1
            ]
        | inr p ↦
            elim (which (spec.is_exported || spec.is_inline) _ _ (Some (x, rest)) p.1) [
              | inl c ↦ let no_value = c.1 in absurd cc
              | inr c ↦ global_sound x rest c.0 c.1
            ]
      ]

-- ---- sources

item_sound : (x : ParsedItem) (ts rest : List Lexeme) → item_of ts ≡ Some (x, rest) → SpellsItem x ts rest
unfolding item_of
item_sound x ts rest e =
    let q1 = bind_some (outer_spec_of ts) _ (x, rest) e in
    let q2 = bind_some (name_of q1.0.1) _ (x, rest) q1.2 in
    declared_sound q1.0.0 q2.0.0.0 q2.0.0.1 ts q1.0.1 q2.0.1 (outer_spec_sound q1.0.0 ts q1.0.1 q1.1) (name_sound q2.0.0 q1.0.1 q2.0.1 q2.1) x rest q2.2

is_nil : (ts : List Lexeme) → is_empty ts ≡ true → ts ≡ []
is_nil [] e = refl
is_nil (t ∷ ts) e = absurd cc

items_sound : (n : ℕ) (xs : ParsedSource) (ts : List Lexeme) → items_of n ts ≡ Some xs → IsTree xs ts
unfolding items_of
items_sound zero xs ts e =
    elim (which (is_empty ts) _ _ (Some xs) e) [
      | inl p ↦ subst (λ (y : ParsedSource). IsTree y ts) (same_Some [] xs p.1) (is_nil ts p.0)
      | inr p ↦ let no_value = p.1 in absurd cc
    ]
items_sound (suc n) xs ts e =
    elim (which (is_empty ts) _ _ (Some xs) e) [
      | inl p ↦ subst (λ (y : ParsedSource). IsTree y ts) (same_Some [] xs p.1) (is_nil ts p.0)
      | inr p ↦
          let q1 = bind_some (item_of ts) _ xs p.1 in
          let q2 = bind_some (items_of n q1.0.1) _ xs q1.2 in
          subst (λ (y : ParsedSource). IsTree y ts) (same_Some (q1.0.0 ∷ q2.0) xs q2.2)
          (q1.0.1, item_sound q1.0.0 ts q1.0.1 q1.1, items_sound n q2.0 q1.0.1 q2.1)
    ]

pub tree_sound : (tree : ParsedSource) (ts : List Lexeme) → tree_of ts ≡ Some tree → IsTree tree ts
unfolding tree_of
tree_sound tree ts e = items_sound (length ts) tree ts e
