-- The path that is spelled from a route.
use Rattle.std.specs.Prelude.{◌≡◌, ◌≢◌, ℕ, List, [], Bool, true, false, Option, is_some, codes, map, if◌then◌else◌}
use Rattle.std.specs.List.{join_with_byte, list_any}
use Rattle.std.specs.Option.{option_map, unwrap_or, IfSome}
use Rattle.std.specs.Str.{encode_utf8_all}
use Rattle.percent_encoding.specs.declared.ascii_set.AsciiSet.{AsciiSet}
use Rattle.percent_encoding.specs.Percent.{percent_encode}
use Rattle.endpoints.specs.declared.route.Route.{Route}
use Rattle.endpoints.specs.Path.{same_text, is_variable}
use Rattle.endpoints.specs.Route.{pattern}

-- the bytes of the text that a route has for a variable
abbrev pub bytes_in : Route → List ℕ → Option (List ℕ)
bytes_in route part =
    if same_text part (codes "{session}") then option_map encode_utf8_all route.session
    else if same_text part (codes "{item}") then option_map encode_utf8_all route.item
    else option_map encode_utf8_all route.name

-- a literal stays, and a variable's text is escaped
abbrev pub written_in : Bool → AsciiSet → List ℕ → List ℕ → List ℕ
written_in true set part text = percent_encode set text
written_in false set part text = part

abbrev pub written : AsciiSet → List ℕ → List ℕ → List ℕ
written set part text = written_in (is_variable part) set part text

abbrev pub spelled : AsciiSet → Route → List ℕ → List ℕ
spelled set route part = written set part (unwrap_or (bytes_in route part) [])

-- the segments of the command's path, with a slash between them
abbrev pub spelling : AsciiSet → Route → List ℕ
spelling set route = join_with_byte 47 (map (spelled set route) (pattern route.command))

-- the variable is in the pattern exactly where there is a text for it, and that isn't empty
pub record HasVariable (parts : List (List ℕ)) (variable : List ℕ) (text : Option (List ℕ)) : Type 0 where
  pub there : is_some text ≡ list_any (λ part. same_text part variable) parts
  pub nonempty : IfSome text (λ t. t ≢ [])

-- exactly the variables of the command's path are there, and none is empty
pub record HasVariables (route : Route) : Type 0 where
  pub session : HasVariable (pattern route.command) (codes "{session}") (option_map encode_utf8_all route.session)
  pub item : HasVariable (pattern route.command) (codes "{item}") (option_map encode_utf8_all route.item)
  pub name : HasVariable (pattern route.command) (codes "{name}") (option_map encode_utf8_all route.name)
