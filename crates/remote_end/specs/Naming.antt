-- The open session that the path of a request names, whether or not the path has an endpoint.
use Rattle.std.specs.Prelude.{ℕ, List, [], ◌∷◌, Option, Some, None, codes, if◌then◌else◌}
use Rattle.std.specs.List.{position}
use Rattle.std.specs.Option.{option_map}
use Rattle.endpoints.specs.Segments.{decoded}
use Rattle.endpoints.specs.Path.{same_text}
use Rattle.endpoints.specs.Route.{asked}
use Rattle.references.specs.Identifier.{is_text_of}
use Rattle.remote_end.specs.declared.session.Session.{Session}
use Rattle.remote_end.specs.State.{at_place}

-- the second segment of a path that begins with a slash and has the first segment `session`
abbrev pub named_segment : List (List ℕ) → Option (List ℕ)
named_segment ([] ∷ first ∷ second ∷ rest) = if same_text first (codes "session") then Some second else None
named_segment path = None

-- the first open session whose identifier has this text
abbrev pub session_with : List ℕ → List Session → Option Session
session_with text sessions = at_place sessions (position (λ (s : Session). is_text_of s.id text) sessions)

-- the number of the session whose identifier a segment is, percent-decoded
abbrev pub number_named : Option (List ℕ) → List Session → Option ℕ
number_named None sessions = None
number_named (Some segment) sessions = option_map (λ (s : Session). s.number) (session_with (decoded segment) sessions)

-- the number of the session that a target's path names
unfoldable pub session_of : List ℕ → List Session → Option ℕ
session_of target sessions = number_named (named_segment (asked target)) sessions
