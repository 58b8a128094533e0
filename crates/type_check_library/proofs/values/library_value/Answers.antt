use Rattle.std.proofs.Common.{[], ◌∷◌, ◌∙◌, ap, sym}
use Rattle.type_check_library.specs.Calls.{call_view, call_of_one_view, call_of_two_view, call_of_three_view}
use Rattle.type_check_library.proofs.RemovedValues.{takes_one, takes_two, takes_three, one_removed, two_removed, three_removed, of_call}
use Rattle.type_check_library.proofs.values.library_value.Goals as goal

pub returns-in-OfOne : goal.returns-in-OfOne
returns-in-OfOne c =
    record {
      value = of_call c.value_of_one.result (call_of_one_view c.in-OfOne.call) (call_view c.args.call) (c.remove-first.result ∷ []) c.args.values.items
          (ap call_view c.in-OfOne.is)
          (one_removed c.args.values.items c.remove-first.result
          (sym c.args.values.ok.0 ∙ (c.requires.count ∙ takes_one c.args.call c.in-OfOne.call c.in-OfOne.is)) c.remove-first.ensures.value)
          c.value_of_one.ensures.value;
    }

pub returns-in-OfTwo : goal.returns-in-OfTwo
returns-in-OfTwo c =
    record {
      value = of_call c.value_of_two.result (call_of_two_view c.in-OfTwo.call) (call_view c.args.call) (c.remove-first-in-OfTwo.result ∷ c.remove-second.result ∷ [])
          c.args.values.items (ap call_view c.in-OfTwo.is)
          (two_removed c.args.values.items c.remove-second.new.self.items c.remove-first-in-OfTwo.result c.remove-second.result
          (sym c.args.values.ok.0 ∙ (c.requires.count ∙ takes_two c.args.call c.in-OfTwo.call c.in-OfTwo.is))
          c.remove-second.ensures.value c.remove-second.ensures.items c.remove-first-in-OfTwo.ensures.value)
          c.value_of_two.ensures.value;
    }

pub returns : goal.returns
returns c =
    record {
      value = of_call c.value_of_three.result (call_of_three_view c.in-OfThree.call) (call_view c.args.call)
          (c.remove-first-in-OfThree.result ∷ c.remove-second-in-OfThree.result ∷ c.remove-third.result ∷ []) c.args.values.items
          (ap call_view c.in-OfThree.is)
          (three_removed c.args.values.items c.remove-third.new.self.items c.remove-second-in-OfThree.new.self.items
          c.remove-first-in-OfThree.result c.remove-second-in-OfThree.result c.remove-third.result
          (sym c.args.values.ok.0 ∙ (c.requires.count ∙ takes_three c.args.call c.in-OfThree.call c.in-OfThree.is))
          c.remove-third.ensures.value c.remove-third.ensures.items c.remove-second-in-OfThree.ensures.value c.remove-second-in-OfThree.ensures.items
          c.remove-first-in-OfThree.ensures.value)
          c.value_of_three.ensures.value;
    }
