use Rattle.std.proofs.Common.{◌≡◌, Some, true, take}
use Rattle.page_engine.specs.Fitting.{answering, timed, anywhere, fit_at}
use Rattle.page_file.specs.Members.{each_of}
use Rattle.page_file.specs.Spelled.{answer_effect, timed_effect, effect_of}
use Rattle.page_file.proofs.writing.+json.Given as goal
use Rattle.wd_json.specs.Json.{items_data}
use Rattle.wd_json.specs.Whole.{items_are_whole}

abbrev pub invariant-all_json-loop-effect : goal.invariant-all_json-loop-effect
invariant-all_json-loop-effect l = record {
  answers : fit_at answering l.effect-items ≡ true → each_of answer_effect l.values.items ≡ Some (take l.effect-index l.effect-items);
  timed : fit_at timed l.effect-items ≡ true → each_of timed_effect l.values.items ≡ Some (take l.effect-index l.effect-items);
  handled : fit_at anywhere l.effect-items ≡ true → each_of effect_of l.values.items ≡ Some (take l.effect-index l.effect-items);
  whole : items_are_whole (items_data l.values.items) ≡ true;
}
