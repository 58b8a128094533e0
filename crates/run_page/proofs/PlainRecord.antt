-- No `<` stands in the text of a record.
use Rattle.std.proofs.Common.{◌≡◌, ◌∷◌, [], ℕ, true, List, Option, Some, None, refl, codes, decimal, map}
use Rattle.std.specs.declared.alloc.Global.{Global}
use Rattle.std.specs.List.{concat}
use Rattle.std.specs.Prelude.{Vec, slice_get, slice_range}
use Rattle.gang_types.specs.Masks.{lanes_of, word_of_lanes}
use Rattle.gang_types.specs.Values.{value_of}
use Rattle.gang_model.specs.Texts.Text.{Bytes}
use Rattle.lane_picture.specs.declared.columns.StepsEnd.{StepsEnd}
use Rattle.lane_picture.specs.declared.columns.StepsEnd.TheVariants as end
use Rattle.json_texts.specs.Json.{is_plain, list_text, string_text}
use Rattle.json_texts.proofs.Plain.{ArePlain, are_plain, plain_concat, plain_decimal, plain_if, plain_list, plain_string, plain_whole}
use Rattle.run_page.specs.declared.moments.Call.{Call}
use Rattle.run_page.specs.declared.moments.Moment.{Moment}
use Rattle.run_page.specs.declared.moments.Stand.{Stand}
use Rattle.run_page.specs.declared.page.Subject.{Subject}
use Rattle.run_page.specs.declared.record.Record.{Record}
use Rattle.run_page.specs.declared.variables.Variable.{Variable}
use Rattle.run_page.specs.Moments.{steps_of}
use Rattle.run_page.specs.Recording.{changes_of}
use Rattle.run_page.specs.RecordText.{ChangeRow, Gone, Words, call_count, call_text, calls_text, change_rows, end_text, fault_name, fault_number, has_same_calls, head_text, kind_name, moment_text, moment_texts, record_text, row_text, stand_text, type_name, type_or_plain, value_text, variable_text}

-- the name of a function
abbrev function_text : Vec ℕ Global → Bytes
function_text name = string_text name.items

plain_end : (ended : StepsEnd) → is_plain (end_text ended) ≡ true
plain_end end.Ended = plain_list (string_text (codes "ended") ∷ []) (plain_string (codes "ended"), tt)
plain_end end.StepLimit = plain_list (string_text (codes "limit") ∷ []) (plain_string (codes "limit"), tt)
plain_end (end.AtFault fault) = plain_list (string_text (codes "fault") ∷ string_text (fault_number fault.name) ∷ string_text (fault_name fault.name) ∷ decimal fault.lane ∷ [])
    (plain_string (codes "fault"), (plain_string (fault_number fault.name), (plain_string (fault_name fault.name), (plain_decimal fault.lane, tt))))

plain_variable : (v : Variable) → is_plain (variable_text v) ≡ true
plain_variable v = plain_list (decimal v.depth ∷ string_text v.name.items ∷ string_text (type_name v.shown.value_type) ∷ string_text (kind_name v.shown.is_array v.shown.rate) ∷ decimal v.shown.count ∷ [])
    (plain_decimal v.depth, (plain_string v.name.items, (plain_string (type_name v.shown.value_type), (plain_string (kind_name v.shown.is_array v.shown.rate), (plain_decimal v.shown.count, tt)))))

plain_value : (variables : List Variable) (v word : ℕ) → is_plain (value_text variables v word) ≡ true
plain_value variables v word = plain_whole (value_of (type_or_plain (slice_get variables v)) word)

plain_row : (variables : List Variable) (row : ChangeRow) → is_plain (row_text variables row) ≡ true
plain_row variables (Words v first words) =
    plain_list (decimal v ∷ decimal first ∷ map (value_text variables v) words) (plain_decimal v, (plain_decimal first, are_plain (value_text variables v) (plain_value variables v) words))
plain_row variables (Gone v) = plain_list (decimal v ∷ []) (plain_decimal v, tt)

plain_stand : (stand : Option Stand) → is_plain (stand_text stand) ≡ true
plain_stand None = refl
plain_stand (Some s) = plain_concat
    (decimal s.place.line ∷ codes "," ∷ decimal s.place.col ∷ codes "," ∷ decimal s.function ∷ codes "," ∷ decimal s.depth ∷ codes "," ∷ decimal (word_of_lanes (lanes_of 16 s.lanes)) ∷ [])
    (plain_decimal s.place.line, (refl, (plain_decimal s.place.col, (refl, (plain_decimal s.function, (refl, (plain_decimal s.depth, (refl, (plain_decimal (word_of_lanes (lanes_of 16 s.lanes)), tt)))))))))

plain_call : (call : Call) → is_plain (call_text call) ≡ true
plain_call call = plain_list (decimal call.place.line ∷ decimal call.place.col ∷ decimal call.function ∷ [])
    (plain_decimal call.place.line, (plain_decimal call.place.col, (plain_decimal call.function, tt)))

plain_calls : (calls : List Call) (before : ℕ) (moment : Moment) → is_plain (calls_text calls before moment) ≡ true
plain_calls calls before moment =
    let added = slice_range calls moment.first_call moment.end_of_calls in
    plain_if (has_same_calls before moment) [] (concat (codes "," ∷ decimal moment.kept_calls ∷ codes "," ∷ list_text (map call_text added) ∷ [])) refl
    (plain_concat (codes "," ∷ decimal moment.kept_calls ∷ codes "," ∷ list_text (map call_text added) ∷ [])
    (refl, (plain_decimal moment.kept_calls, (refl, (plain_list (map call_text added) (are_plain call_text plain_call added), tt)))))

module _ (kept : Record) where
  plain_moment : (before : ℕ) (moment : Moment) → is_plain (moment_text kept before moment) ≡ true
  plain_moment before moment =
      let variables = kept.variables.items in
      let rows = change_rows (changes_of kept.changes.items moment) in
      plain_concat
      (codes "\n[" ∷ stand_text moment.stand ∷ codes "," ∷ list_text (map (row_text variables) rows) ∷ calls_text kept.calls.items before moment ∷ codes "]" ∷ [])
      (refl, (plain_stand moment.stand, (refl, (plain_list (map (row_text variables) rows) (are_plain (row_text variables) (plain_row variables) rows), (plain_calls kept.calls.items before moment, (refl, tt))))))

  plain_moments : (before : ℕ) (moments : List Moment) → ArePlain (moment_texts kept before moments)
  plain_moments before [] = tt
  plain_moments before (moment ∷ moments) = (plain_moment before moment, plain_moments (call_count moment) moments)

  -- no `<` stands in the text of a record, whatever the source and the names are
  pub plain_record : (subject : Subject) (ended : StepsEnd) → is_plain (record_text subject ended kept) ≡ true
  plain_record subject ended = plain_concat
      (head_text subject kept ∷ end_text ended
      ∷ codes ",\n\"functions\":" ∷ list_text (map function_text kept.functions.items)
      ∷ codes ",\n\"variables\":" ∷ list_text (map variable_text kept.variables.items)
      ∷ codes ",\n\"steps\":" ∷ list_text (map decimal (steps_of kept.moments.items))
      ∷ codes ",\n\"moments\":" ∷ list_text (moment_texts kept 0 kept.moments.items)
      ∷ codes "}" ∷ []) (
        plain_head,
        (
          plain_end ended,
          (
            refl,
            (
              plain_list (map function_text kept.functions.items) (are_plain function_text (λ name. plain_string name.items) kept.functions.items),
              (
                refl,
                (
                  plain_list (map variable_text kept.variables.items) (are_plain variable_text plain_variable kept.variables.items),
                  (
                    refl,
                    (
                      plain_list (map decimal (steps_of kept.moments.items)) (are_plain decimal plain_decimal (steps_of kept.moments.items)),
                      (refl, (plain_list (moment_texts kept 0 kept.moments.items) (plain_moments 0 kept.moments.items), (refl, tt))),
                    ),
                  ),
                ),
              ),
            ),
          ),
        ),
      )
    where
      plain_head : is_plain (head_text subject kept) ≡ true
      plain_head = plain_concat
          (codes "{\"name\":" ∷ string_text subject.title.now ∷ codes ",\n\"source\":" ∷ string_text subject.source.now ∷ codes ",\n\"width\":" ∷ decimal kept.width
          ∷ codes ",\"first\":" ∷ decimal subject.first_number ∷ codes ",\"most_words\":" ∷ decimal subject.most_words ∷ codes ",\"end\":" ∷ []) (
            refl,
            (
              plain_string subject.title.now,
              (
                refl,
                (
                  plain_string subject.source.now,
                  (
                    refl,
                    (
                      plain_decimal kept.width,
                      (refl, (plain_decimal subject.first_number, (refl, (plain_decimal subject.most_words, (refl, tt))))),
                    ),
                  ),
                ),
              ),
            ),
          )
