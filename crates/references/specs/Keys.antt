-- The names of the one member of a reference, as they stand in JSON.
use Rattle.std.specs.Prelude.{ℕ, List, codes}

-- to an element: the web element identifier (W3C WebDriver, section 11)
unfoldable pub element_key : List ℕ
element_key = codes "element-6066-11e4-a52e-4f735466cecf"

-- to a shadow root: the shadow root identifier (WebDriver Level 2, section 11)
unfoldable pub shadow_key : List ℕ
shadow_key = codes "shadow-6066-11e4-a52e-4f735466cecf"
