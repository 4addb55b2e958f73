use Rattle.std.proofs.Common.{◌≡◌, List, IfOk, Some, ap, sym, subst, ◌∙◌}
use Rattle.std.proofs.lemmas.List.{take_all}
use Rattle.page_engine.specs.Fitting.{anywhere, timed, answering, fits_at, fit_at}
use Rattle.page_file.specs.Members.{each_of}
use Rattle.page_file.specs.Spelled.{answer_effect, timed_effect, effect_of, all_in}
use Rattle.page_file.proofs.EachRead.{fit_more, all_in_list, prompt_parts, after_parts}
use Rattle.page_file.proofs.WholeValues.{list_whole, items_more}
use Rattle.page_file.proofs.writing.+json.Goals as goal
use Rattle.wd_json.specs.Json.{data_of, items_data}
use Rattle.wd_json.specs.Whole.{is_whole, items_are_whole}
use Rattle.wd_json.specs.declared.value.Json.{Json}
use Rattle.wd_json.specs.declared.value.Json.TheVariants as json

pub all_json-loop-effect-preserved : goal.all_json-loop-effect-preserved
all_json-loop-effect-preserved t c =
    let es = c.as_slice-effect-items.result.now in
    let i = c.loop-effect.effect-index in
    let e = c.effect-item.result in
    let vs = c.loop-effect.values.items in
    let v = c.in_ok-effect_json.field-0 in
    record {
      answers = λ fit. ap (each_of answer_effect) c.in_ok-push.ensures.items ∙ fit_more answering answer_effect vs v es i e c.loop-effect-test.true c.effect-item.is c.loop-effect.invariant.answers c.in_ok-effect_json.ensures.answers fit;
      timed = λ fit. ap (each_of timed_effect) c.in_ok-push.ensures.items ∙ fit_more timed timed_effect vs v es i e c.loop-effect-test.true c.effect-item.is c.loop-effect.invariant.timed c.in_ok-effect_json.ensures.timed fit;
      handled = λ fit. ap (each_of effect_of) c.in_ok-push.ensures.items ∙ fit_more anywhere effect_of vs v es i e c.loop-effect-test.true c.effect-item.is c.loop-effect.invariant.handled c.in_ok-effect_json.ensures.handled fit;
      whole = ap (λ (xs : List Json). items_are_whole (items_data xs)) c.in_ok-push.ensures.items ∙ items_more vs v c.loop-effect.invariant.whole c.in_ok-effect_json.ensures.whole;
    }

pub all_json-returns-clause-answers : goal.all_json-returns-clause-answers
all_json-returns-clause-answers t c fit =
    ap (λ vs. all_in answer_effect (json.List vs)) c.from_vec.ensures ∙ all_in_list answer_effect c.loop-effect.values.items
    ∙ c.loop-effect.invariant.answers (ap (fit_at answering) c.as_slice-effect-items.ensures ∙ fit)
    ∙ ap Some (take_all c.loop-effect.effect-index c.as_slice-effect-items.result.now c.loop-effect-test.false ∙ c.as_slice-effect-items.ensures)

pub all_json-returns-clause-timed : goal.all_json-returns-clause-timed
all_json-returns-clause-timed t c fit =
    ap (λ vs. all_in timed_effect (json.List vs)) c.from_vec.ensures ∙ all_in_list timed_effect c.loop-effect.values.items
    ∙ c.loop-effect.invariant.timed (ap (fit_at timed) c.as_slice-effect-items.ensures ∙ fit)
    ∙ ap Some (take_all c.loop-effect.effect-index c.as_slice-effect-items.result.now c.loop-effect-test.false ∙ c.as_slice-effect-items.ensures)

pub all_json-returns-clause-handled : goal.all_json-returns-clause-handled
all_json-returns-clause-handled t c fit =
    ap (λ vs. all_in effect_of (json.List vs)) c.from_vec.ensures ∙ all_in_list effect_of c.loop-effect.values.items
    ∙ c.loop-effect.invariant.handled (ap (fit_at anywhere) c.as_slice-effect-items.ensures ∙ fit)
    ∙ ap Some (take_all c.loop-effect.effect-index c.as_slice-effect-items.result.now c.loop-effect-test.false ∙ c.as_slice-effect-items.ensures)

pub all_json-returns-clause-whole : goal.all_json-returns-clause-whole
all_json-returns-clause-whole t c =
    ap (λ (vs : List Json). is_whole (data_of (json.List vs))) c.from_vec.ensures ∙ list_whole c.loop-effect.values.items c.loop-effect.invariant.whole

pub effect_json-returns-in_ok-dismissed-in-Prompt-clause-timed : goal.effect_json-returns-in_ok-dismissed-in-Prompt-clause-timed
effect_json-returns-in_ok-dismissed-in-Prompt-clause-timed t c fits =
    let p = c.in-Prompt in
    let parts = prompt_parts p.kind p.text p.answer p.accepted p.dismissed timed (ap (λ e. fits_at e timed) (sym p.is) ∙ fits) in
    subst (λ e. IfOk c.prompt_json.result (λ v. timed_effect v ≡ Some e)) (sym p.is)
    (c.prompt_json.ensures.timed p.accepted p.dismissed (c.in_ok-accepted-in-Prompt.ensures.answers parts.0) (c.in_ok-dismissed-in-Prompt.ensures.answers parts.1))

pub effect_json-returns-in_ok-dismissed-in-Prompt-clause-handled : goal.effect_json-returns-in_ok-dismissed-in-Prompt-clause-handled
effect_json-returns-in_ok-dismissed-in-Prompt-clause-handled t c fits =
    let p = c.in-Prompt in
    let parts = prompt_parts p.kind p.text p.answer p.accepted p.dismissed anywhere (ap (λ e. fits_at e anywhere) (sym p.is) ∙ fits) in
    subst (λ e. IfOk c.prompt_json.result (λ v. effect_of v ≡ Some e)) (sym p.is)
    (c.prompt_json.ensures.handled p.accepted p.dismissed (c.in_ok-accepted-in-Prompt.ensures.answers parts.0) (c.in_ok-dismissed-in-Prompt.ensures.answers parts.1))

pub effect_json-returns-in_ok-effects-in-After-clause-handled : goal.effect_json-returns-in_ok-effects-in-After-clause-handled
effect_json-returns-in_ok-effects-in-After-clause-handled t c fits =
    let a = c.in-After in
    let parts = after_parts a.ms a.effects anywhere (ap (λ e. fits_at e anywhere) (sym a.is) ∙ fits) in
    subst (λ e. IfOk c.after_json.result (λ v. effect_of v ≡ Some e)) (sym a.is)
    (c.after_json.ensures.handled a.effects parts.0 (c.in_ok-effects-in-After.ensures.timed parts.1))
