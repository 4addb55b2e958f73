-- The session that a request names is the one that its path names, and no command waits in it where it is free.
use Rattle.std.proofs.Common.{◌≡◌, ◌∙◌, ℕ, List, Option, Some, None, Ok, slice_get, sym, ap, refl, subst}
use Rattle.std.specs.Option.{option_map}
use Rattle.std.specs.Str.{encode_utf8_all}
use Rattle.std.specs.Cmp.Lexicographic.{bytes_decides}
use Rattle.std.proofs.lemmas.Bool.Decides.{same_from_decides}
use Rattle.std.proofs.lemmas.List.Elements.{All-get_or}
use Rattle.std.proofs.lemmas.Option.{get_or_from_slice_get, slice_get_within}
use Rattle.endpoints.specs.Segments.{decoded}
use Rattle.endpoints.specs.Path.{same_text}
use Rattle.endpoints.specs.Route.{asked, IsRouteOf}
use Rattle.endpoints.specs.declared.route.Route.{Route}
use Rattle.endpoints.proofs.Second.{second}
use Rattle.wd_http.specs.declared.request.Request.{Request}
use Rattle.remote_end.specs.declared.order.Order.{Order}
use Rattle.remote_end.specs.declared.session.Session.{Session}
use Rattle.remote_end.specs.declared.waiting.Waiting.{Waiting}
use Rattle.remote_end.specs.declared.waiting.Waiting.TheVariants.{Find, Ended}
use Rattle.page_engine.specs.Scene.{PageState}
use Rattle.remote_end.specs.State.{State, at_place, session_named, place_numbered}
use Rattle.remote_end.specs.Meaning.{Means, method_bytes, target_bytes}
use Rattle.remote_end.specs.Naming.{named_segment, session_with, number_named, session_of}
use Rattle.remote_end.specs.Waits.{AreIdle, Fits, next_in, busy_in, busy_of}
use Rattle.remote_end.specs.Step.{IsFree}
use Rattle.remote_end.specs.Standing.{AreSound}
use Rattle.remote_end.proofs.NumberLemmas.{numbered_at}
use Rattle.remote_end.proofs.SoundLemmas.{kept_at}

-- texts are compared either way
pub swapped : (a b : List ℕ) → same_text a b ≡ same_text b a
swapped a b =
    let d = bytes_decides a b in
    same_from_decides (same_text a b) (same_text b a) (λ e. sym (d.0 e), λ e. d.1 (sym e)) (bytes_decides b a)

-- ---- the path of a request with a session

-- the path of a request whose route has a session's text names a segment that is that text, percent-decoded
pub named_is_second : (method target text : List ℕ) (route : Route) → IsRouteOf method target route → route.session ≡ Some text
    → (segment : List ℕ) × (named_segment (asked target) ≡ Some segment) × (decoded segment ≡ encode_utf8_all text)
named_is_second method target text route is e =
    let s = second method target text route is e in
    (s.0, ap named_segment s.2, s.3)

-- so it names the session of that identifier
pub named_as_route : (method target text : List ℕ) (route : Route) (sessions : List Session) → IsRouteOf method target route → route.session ≡ Some text
    → session_of target sessions ≡ option_map (λ (s : Session). s.number) (session_named route.session sessions)
unfolding session_of
named_as_route method target text route sessions is e =
    let s = named_is_second method target text route is e in
    ap (λ (o : Option (List ℕ)). number_named o sessions) s.1
    ∙ ap (λ (bytes : List ℕ). option_map (λ (s : Session). s.number) (session_with bytes sessions)) s.2
    ∙ ap (λ (o : Option (List ℕ)). option_map (λ (s : Session). s.number) (session_named o sessions)) (sym e)

-- ---- a session in which no command waits

-- where no next moment is, nothing waits in an open session
idle_in : (waiting : Option Waiting) (s : Session) (page : PageState) (at : ℕ) → Fits waiting page at → next_in waiting s ≡ None → waiting ≡ None
idle_in None s page at fits e = refl
idle_in (Some (Find find)) s page at fits e = cc
idle_in (Some (Ended reply)) s page at fits e = absurd fits

placed_at : (sessions : List Session) (o : Option ℕ) (s : Session) → at_place sessions o ≡ Some s → (place : ℕ) × (slice_get sessions place ≡ Some s)
placed_at sessions None s e = cc
placed_at sessions (Some place) s e = (place, e)

idle_at : (next place : ℕ) (sessions : List Session) (s : Session) → AreSound next sessions → slice_get sessions place ≡ Some s → busy_of s.number sessions ≡ None → s.waiting ≡ None
idle_at next place sessions s sound here free =
    let there : place_numbered s.number sessions ≡ Some place = numbered_at 1 sessions next place s sound.numbers here in
    let found : at_place sessions (place_numbered s.number sessions) ≡ Some s = ap (at_place sessions) there ∙ here in
    idle_in s.waiting s s.page s.at (kept_at sessions place s here sound.kept).fits (sym (ap busy_in found) ∙ free)

-- no command waits in the session that the request of an order names
pub free_named : (next : ℕ) (sessions : List Session) (request : Request) (order : Order) → AreSound next sessions → IsFree (record { next = next; sessions = sessions }) request
    → Means (record { next = next; sessions = sessions }) request (Ok order) → (s : Session) → session_named order.route.session sessions ≡ Some s → s.waiting ≡ None
free_named next sessions request order sound free means s is = by order.route.session refl
  where
    by : (named : Option (List ℕ)) → order.route.session ≡ named → s.waiting ≡ None
    by None e = absurd (let x : session_named None sessions ≡ Some s = sym (ap (λ (o : Option (List ℕ)). session_named o sessions) e) ∙ is in cc)
    by (Some text) e =
        let there = placed_at sessions _ s is in
        let number : session_of (target_bytes request) sessions ≡ Some s.number =
        named_as_route (method_bytes request) (target_bytes request) text order.route sessions means.endpoint e ∙ ap (option_map (λ (t : Session). t.number)) is in
        idle_at next there.0 sessions s sound there.1 (free s.number number)

-- where no command waits at all, each request is free
pub free_idle : (state : State) (request : Request) → AreIdle state.sessions → IsFree state request
free_idle state request idle number named = by (at_place state.sessions (place_numbered number state.sessions)) refl
  where
    by : (o : Option Session) → at_place state.sessions (place_numbered number state.sessions) ≡ o → busy_in o ≡ None
    by None e = refl
    by (Some s) e =
        let there = placed_at state.sessions (place_numbered number state.sessions) s e in
        let P : Session → Type 0 = λ t. t.waiting ≡ None in
        let within = slice_get_within state.sessions there.0 s there.1 in
        let none : s.waiting ≡ None = subst P (get_or_from_slice_get state.sessions there.0 s s there.1) (All-get_or P state.sessions there.0 s within idle) in
        ap (λ (w : Option Waiting). next_in w s) none
