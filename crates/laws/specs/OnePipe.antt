-- What is sent under `pipe` is a function of the site, the browser's name and the bytes that come.
use Rattle.std.specs.Prelude.{◌≡◌, ℕ, true, List, None, length, map, refl}
use Rattle.std.specs.List.{All}
use Rattle.page_engine.specs.declared.site.Site.{Site}
use Rattle.wd_http.specs.Made.{LineCall}
use Rattle.wd_http.specs.Talk.{Connection, Talk}
use Rattle.remote_end.specs.Standing.{Standing}
use Rattle.webdriverd.specs.Headline.{ServesPipe}

-- no call failed on these connections
abbrev pub AreFine : List Connection → Type 0
AreFine connections = All (λ (c : Connection). c.failed ≡ None) connections

abbrev pub sent_on : List Connection → List (List ℕ)
sent_on connections = map (λ (c : Connection). c.sent) connections

-- Two pipes over one site with one name of the browser, whose lines tell and give the same bytes, each as many
-- connections, on which no call fails: they send the same bytes, and leave the machine in the same state.
abbrev pub PipesAreOne : {O P : Type 0} → Type 0 → (O → LineCall → O → Type 0) → (P → LineCall → P → Type 0) → Type 0
PipesAreOne {O} {P} E makes does = (site : Site) (name : List ℕ) (line left : O) (other rest : P) (a b c d : Talk) (e f g : E) (one two : Standing)
    → (p : ServesPipe site name makes line left true a b e f one) (q : ServesPipe site name does other rest true c d e g two) → a.coming ≡ c.coming
    → length (p.gave refl).served ≡ length (q.gave refl).served → AreFine (p.gave refl).served → AreFine (q.gave refl).served
    → (sent_on (p.gave refl).served ≡ sent_on (q.gave refl).served) × (one.state ≡ two.state)
