-- What a parse that succeeds found of an option of the caller's.
use Rattle.std.proofs.Common.{zero, suc, ◌≡◌, ◌∙◌, ◌<◌, ◌≤◌, ℕ, Bool, true, false, true≢false, cond, List, [], ◌∷◌, length, Some, None, refl, sym, ap, subst, inl, inr, arith}
use Rattle.std.specs.List.{All, slice_index_or}
use Rattle.std.specs.Str.{bytes_eq}
use Rattle.std.specs.Prelude.{find, option_map}
use Rattle.std.proofs.lemmas.Slice.Eq.{bytes_eq-Decides}
use Rattle.clap.specs.Facts.{Entry, EntryPasses, HasIn, args_of, groups_of, least_values, parser_of, parser_of_value}
use Rattle.clap.specs.Built.{IsAuto, IsParsedFrom, SameRules}
use Rattle.clap.specs.Matches.{found_of, matched_of}
use Rattle.clap.specs.Values.{Accepts, reading_of}
use Rattle.clap.specs.Walk.{Text}
use Rattle.clap.specs.declared.builder.action.ArgAction.TheVariants.{Count, Set}
use Rattle.clap.specs.declared.builder.arg.Arg.{Arg}
use Rattle.clap.specs.declared.builder.command.Command.{Command}
use Rattle.clap.specs.declared.builder.command.Command.TheViews.{out-Command}
use Rattle.clap.specs.declared.builder.value_parser.ValueParser.{ValueParser}
use Rattle.clap.specs.declared.parser.matches.ArgMatches.{ArgMatches}
use Rattle.clap.specs.declared.parser.matches.MatchedArg.{MatchedArg}
use Rattle.clap.proofs.CallerLemmas.{entry_by_id, same_rules_by_id}

fewer : (e : Entry) (es : List Entry) (id : Text) (i : ℕ) → i < length (e ∷ es)
    → ((d : Entry) → bytes_eq (slice_index_or (e ∷ es) i d).0.now id ≡ true) → bytes_eq e.0.now id ≡ false → HasIn es id
fewer e es id zero lt hit miss = absurd (true≢false (sym (hit e) ∙ miss))
fewer e es id (suc i) lt hit miss = (i, omega arith, hit)

-- an id that has an entry is found
pub entry_found : (es : List Entry) (id : Text) → HasIn es id
    → (x : MatchedArg) × (option_map (λ e. e.1) (find (λ e. bytes_eq e.0.now id) es) ≡ Some x)
entry_found [] id has = absurd (omega (arith, has.1))
entry_found (e ∷ es) id has = go (bytes_eq e.0.now id) refl (entry_found es id)
  where
    go : (b : Bool) → bytes_eq e.0.now id ≡ b
        → (HasIn es id → (x : MatchedArg) × (option_map (λ e. e.1) (find (λ e. bytes_eq e.0.now id) es) ≡ Some x))
        → (x : MatchedArg) × (option_map (λ e. e.1) (cond b (Some e) (find (λ e. bytes_eq e.0.now id) es)) ≡ Some x)
    go true hit rest = (e.1, refl)
    go false miss rest = rest (fewer e es id has.0 has.1 has.2 miss)

accepts_as : (a y : Arg) (q : ValueParser) (t : Text) → SameRules a y → a.value_parser ≡ Some q
    → Accepts y.ignore_case (parser_of y) t → Accepts a.ignore_case q t
accepts_as a y q t s parser read =
    let is_q : parser_of y ≡ q = ap parser_of_value (s.parser q parser) in
    let as_q : Accepts y.ignore_case q t = subst (λ (w : ValueParser). Accepts y.ignore_case w t) is_q read in
    subst (λ (b : Bool). Accepts b q t) s.ignore_case as_q

module _ (old : Command) (m : ArgMatches) (p : IsParsedFrom old m) (local : (out-Command old).has_globals ≡ false)
    (no_groups : groups_of p.built ≡ []) (k : ℕ) (d : Arg) (lt : k < length (args_of old))
    (unique : (j : ℕ) (e : Arg) → j < length (args_of old)
    → bytes_eq (slice_index_or (args_of old) j e).id.now (slice_index_or (args_of old) k d).id.now ≡ true → j ≡ k)
    (named : (slice_index_or (args_of old) k d).id.now ≡ [] → ⊥)
    (own : IsAuto (slice_index_or (args_of old) k d) → ⊥) where
  abbrev wanted : Arg
  wanted = slice_index_or (args_of old) k d

  -- the entry of an argument of the caller's, with what passed
  entry_of : (x : MatchedArg) → matched_of (found_of m) wanted.id.now ≡ Some x
      → (e : Entry) × (e.1 ≡ x) × (e.0.now ≡ wanted.id.now) × EntryPasses p.built e × (e.1.is_group ≡ true → ⊥)
  entry_of x found =
      let parsed = p.parsed (p.from.globals ∙ local) in
      let got = entry_by_id (EntryPasses p.built) (found_of m).entries.items wanted.id.now x parsed.values found in
      let key = (bytes_eq-Decides got.0.0.now wanted.id.now).0 got.2 in (
        got.0,
        got.1,
        key,
        got.3,
        λ g. elim (got.3.3 g) [
          | inl empty ↦ named (sym key ∙ empty)
          | inr lots ↦
              let bad : 0 < 0 = rw no_groups at lots in
              absurd (omega arith)
        ],
      )

  -- an argument of the built command with its id has its rules
  rules_of : (id : Text) (j : ℕ) (y : Arg) → id ≡ wanted.id.now → j < length (args_of p.built) → slice_index_or (args_of p.built) j y ≡ y
      → bytes_eq y.id.now id ≡ true → SameRules wanted y
  rules_of id j y key high at same =
      same_rules_by_id old m p k d lt unique own j y high at (subst (λ (w : Text). bytes_eq y.id.now w ≡ true) key same)

  -- each value of it passed its parser
  pub values_pass : (q : ValueParser) → wanted.value_parser ≡ Some q → (x : MatchedArg) → matched_of (found_of m) wanted.id.now ≡ Some x
      → All (λ v. Accepts wanted.ignore_case q v.now) x.vals.items
  values_pass q parser x found =
      let e = entry_of x found in
      elim e.3.0 [
        | inl g ↦ absurd (e.4 g)
        | inr passed ↦ subst (λ (y : MatchedArg). All (λ v. Accepts wanted.ignore_case q v.now) y.vals.items) e.1 (λ j w low.
            let one = passed j w low in
            accepts_as wanted one.1 q _ (rules_of e.0.0.now one.0 one.1 e.2 one.2 one.3 one.4.0) parser one.4.1)
      ]

  -- they are read as it says
  pub values_read : (q : ValueParser) → wanted.value_parser ≡ Some q → (x : MatchedArg) → matched_of (found_of m) wanted.id.now ≡ Some x
      → x.reading ≡ reading_of q
  values_read q parser x found =
      let e = entry_of x found in
      elim e.3.4 [
        | inl g ↦ absurd (e.4 g)
        | inr read ↦
            let s = rules_of e.0.0.now read.0 read.1 e.2 read.2 read.3 read.4.0 in
            ap (λ (y : MatchedArg). y.reading) (sym e.1) ∙ sym read.4.1 ∙ ap reading_of (ap parser_of_value (s.parser q parser))
      ]

  -- and there is one, where a use takes one
  pub has_values : wanted.action ≡ Some Set → wanted.val_delim ≡ None → 1 ≤ least_values wanted → (x : MatchedArg)
      → matched_of (found_of m) wanted.id.now ≡ Some x → 0 < length x.vals.items
  has_values set delim least x found =
      let e = entry_of x found in
      elim e.3.1 [
        | inl g ↦ absurd (e.4 g.0)
        | inr (inl some) ↦ subst (λ (y : MatchedArg). 0 < length y.vals.items) e.1 some
        | inr (inr (inl counts)) ↦
            let any = counts.1 in
            let s = rules_of e.0.0.now any.0 any.1 e.2 any.2 any.3 any.4.0 in
            let is_set : any.1.action ≡ Some Set = s.action Set set in
            let bad : Set ≡ Count = rw is_set at any.4.1 in
            cc
        | inr (inr (inr none)) ↦
            let s = rules_of e.0.0.now none.0 none.1 e.2 none.2 none.3 none.4.0 in
            elim none.4.1 [
              | inl zero_values ↦
                  let one = s.least set least in
                  absurd (omega arith)
              | inr splits ↦
                  let bad : false ≡ true = rw (s.val_delim, delim) at splits in
                  cc
            ]
      ]
