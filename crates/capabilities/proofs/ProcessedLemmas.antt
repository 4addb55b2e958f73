-- The answer to a request, by what its parts are.
use Rattle.std.proofs.Common.{◌≡◌, ℕ, List, Option, Some, None, IfSome, Result, Ok, Err, IfOk, IfErr, codes, refl, ap, sym, ◌∙◌, subst}
use Rattle.wd_json.specs.declared.value.Json.{Json}
use Rattle.capabilities.specs.Values.{Members}
use Rattle.capabilities.specs.Form.{Asked, asked_of, asked_by, asked_in, capabilities_in, always_in, firsts_in}
use Rattle.std.specs.List.{list_all}
use Rattle.capabilities.specs.Table.{is_match}
use Rattle.capabilities.specs.Timeouts.{AreInRange}
use Rattle.capabilities.proofs.Ranges.{read-range}
use Rattle.capabilities.proofs.Whole.{Whole, AreWhole, AskedWhole, asked-whole, found-whole, proxy-whole}
use Rattle.capabilities.specs.Choice.{wrong_name, chosen}
use Rattle.capabilities.specs.Processed.{processed, answer_of, answer_of_names, answer_of_merge, answer_of_form, matched_of, IsCause, NamesPart}
use Rattle.capabilities.specs.declared.matched.Matched.{Matched}
use Rattle.capabilities.specs.declared.fault.CapFault.{CapFault}
use Rattle.capabilities.specs.declared.fault.CapFault.TheVariants.{Invalid, NoMatch, Memory}

pub answer_of-wrong : (offered : List ℕ) (always : Members) (firsts : List Members) (name : List ℕ) → wrong_name always firsts ≡ Some name → answer_of offered always firsts ≡ Err (Invalid name)
unfolding answer_of
answer_of-wrong offered always firsts name e = ap (λ w. answer_of_names w (chosen offered always firsts)) e

pub answer_of-chosen : (offered : List ℕ) (always : Members) (firsts : List Members) (o : Option Members) → wrong_name always firsts ≡ None → chosen offered always firsts ≡ o → answer_of offered always firsts ≡ answer_of_merge o
unfolding answer_of
answer_of-chosen offered always firsts o e f = ap (λ w. answer_of_names w (chosen offered always firsts)) e ∙ ap answer_of_merge f

pub processed-no_capabilities : (offered : List ℕ) (p : Json) → capabilities_in p ≡ None → processed offered p ≡ Err (Invalid (codes "capabilities"))
unfolding processed
processed-no_capabilities offered p e = ap (λ o. answer_of_form offered (asked_by o)) e

pub processed-forms : (offered : List ℕ) (p : Json) (caps : Members) (a : Option Members) (f : Option (List Members)) → capabilities_in p ≡ Some caps → always_in caps ≡ a → firsts_in caps ≡ f
    → processed offered p ≡ answer_of_form offered (asked_of a f)
unfolding processed
processed-forms offered p caps a f e always firsts =
    ap (λ o. answer_of_form offered (asked_by o)) e ∙ ap (λ o. answer_of_form offered (asked_of o (firsts_in caps))) always ∙ ap (λ o. answer_of_form offered (asked_of a o)) firsts

pub cause_of : (answer : Result Matched CapFault) (part : List ℕ) (fault : CapFault) → answer ≡ Err (Invalid part) → NamesPart part fault → IsCause answer fault
cause_of answer part (Invalid name) e h = let same : name ≡ part = h in e ∙ ap (λ n. Err (Invalid n)) (sym same)
cause_of answer part NoMatch e h = absurd h
cause_of answer part Memory e h = tt

-- what holds of what every merge asks for holds of the answer
pub answer_of-holds : (offered : List ℕ) (always : Members) (firsts : List Members) (P : Matched → Type 0) → ((ms : Members) → chosen offered always firsts ≡ Some ms → P (matched_of ms)) → IfOk (answer_of offered always firsts) P
unfolding answer_of
answer_of-holds offered always firsts P h = by (wrong_name always firsts) (chosen offered always firsts) refl
  where
    by : (w : Option (List ℕ)) (o : Option Members) → chosen offered always firsts ≡ o → IfOk (answer_of_names w o) P
    by (Some name) o e = tt
    by None None e = tt
    by None (Some ms) e = h ms e

-- a result that is the answer where it is Ok
pub ok-holds : (r answer : Result Matched CapFault) (P : Matched → Type 0) → IfOk r (λ m. answer ≡ Ok m) → IfOk answer P → IfOk r P
ok-holds (Ok m) answer P e h = subst (λ a. IfOk a P) e h
ok-holds (Err f) answer P e h = tt

pub ok-same : (r one other : Result Matched CapFault) → other ≡ one → IfOk r (λ m. one ≡ Ok m) → IfOk r (λ m. other ≡ Ok m)
ok-same r one other e h = subst (λ a. IfOk r (λ m. a ≡ Ok m)) (sym e) h

pub cause-same : (r one other : Result Matched CapFault) → other ≡ one → IfErr r (IsCause one) → IfErr r (IsCause other)
cause-same r one other e h = subst (λ a. IfErr r (IsCause a)) (sym e) h

-- what a request with whole numbers is answered with has whole numbers
pub processed-whole : (offered : List ℕ) (p : Json) → Whole p → IfOk (processed offered p) (λ m. Whole m.proxy)
unfolding processed
processed-whole offered p h = by (asked_in p) (asked-whole p h)
  where
    found : (o : Option Members) → IfSome o AreWhole → (ms : Members) → o ≡ Some ms → AreWhole ms
    found None w ms e = cc
    found (Some ns) w ms e = let same : ns ≡ ms = cc in subst AreWhole same w

    by : (r : Result Asked (List ℕ)) → IfOk r AskedWhole → IfOk (answer_of_form offered r) (λ m. Whole m.proxy)
    by (Err part) w = tt
    by (Ok asked) w = answer_of-holds offered asked.always asked.firsts (λ m. Whole m.proxy) (λ ms e.
        proxy-whole (codes "proxy") ms (found (chosen offered asked.always asked.firsts) (found-whole (list_all (is_match offered)) asked.always asked.firsts w.always w.firsts) ms e))

-- the timeouts that a session has are in range
pub processed-range : (offered : List ℕ) (p : Json) → IfOk (processed offered p) (λ m. AreInRange m.timeouts)
unfolding processed
processed-range offered p = by (asked_in p)
  where
    by : (r : Result Asked (List ℕ)) → IfOk (answer_of_form offered r) (λ m. AreInRange m.timeouts)
    by (Err part) = tt
    by (Ok asked) = answer_of-holds offered asked.always asked.firsts (λ m. AreInRange m.timeouts) (λ ms e. read-range ms)
