-- A session that is opened.
use Rattle.std.proofs.Common.{◌≡◌, ◌∙◌, ◌+◌, ◌++◌, ℕ, List, [], ◌∷◌, Option, Ok, ap, sym, subst, refl, arith}
use Rattle.capabilities.specs.Processed.{processed}
use Rattle.capabilities.specs.Timeouts.{AreInRange}
use Rattle.capabilities.specs.declared.matched.Matched.{Matched}
use Rattle.wd_json.specs.declared.value.Json.{Json}
use Rattle.remote_end.specs.declared.reply.Reply.{Reply}
use Rattle.remote_end.specs.declared.session.Session.{Session}
use Rattle.remote_end.specs.declared.setting.Setting.{Setting}
use Rattle.remote_end.specs.State.{State, Opens, IsWhole}
use Rattle.remote_end.specs.Waits.{IsKept}
use Rattle.remote_end.specs.Plan.{at_once}
use Rattle.remote_end.specs.Replies.{success}
use Rattle.remote_end.specs.Opening.{opened, session_value}
use Rattle.remote_end.specs.SessionRows.{new_session}
use Rattle.remote_end.specs.Step.{EndsWith}

module _ (setting : Setting) (next : ℕ) (matched : Matched) (reading : ℕ) (session : Session) (is : session ≡ opened setting next matched reading) where
  pub in_range : AreInRange matched.timeouts → AreInRange session.matched.timeouts
  in_range h = let P : Session → Type 0 = λ s. AreInRange s.matched.timeouts in subst P (sym is) h

  pub is_whole : AreInRange matched.timeouts → IsWhole session
  is_whole h = let whole : IsWhole (opened setting next matched reading) = record { known = refl; page = refl; timeouts = h; moment = omega arith; address = refl } in subst IsWhole (sym is) whole

  pub is_kept : AreInRange matched.timeouts → IsKept session
  is_kept h =
      let kept : IsKept (opened setting next matched reading) = record { whole = subst IsWhole is (is_whole h); fits = tt } in
      subst IsKept (sym is) kept

  pub number_of_opened : session.number ≡ next
  number_of_opened = ap (λ (s : Session). s.number) is

  pub opens : (old new : List Session) (parameters : Json) (value : Json) (reply : Reply)
      → processed setting.offer.name parameters ≡ Ok matched → value ≡ session_value setting session → reply ≡ success value → new ≡ old ++ session ∷ []
      → (named : Option (List ℕ))
      → EndsWith (new_session setting (record { next = next; sessions = old }) reading (processed setting.offer.name parameters))
      (record { next = next; sessions = old }) named (record { next = next + 1; sessions = new }) reply
  opens old new parameters value reply matches value_is reply_is new_is named =
      let s : Session = opened setting next matched reading in
      let before : State = record { next = next; sessions = old } in
      record {
        after = Opens s;
        idle = refl;
        plan_is = ap (new_session setting before reading) matches
            ∙ ap (λ (r : Reply). at_once r (Opens s)) (sym (reply_is ∙ ap success (value_is ∙ ap (session_value setting) is)));
        new_is = ap (λ (xs : List Session). let t : State = record { next = next + 1; sessions = xs } in t) (new_is ∙ ap (λ (t : Session). old ++ t ∷ []) is);
      }
