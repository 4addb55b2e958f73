-- The table of parameters: which of them each command looks at, in order, and the name and the kind of each.
use Rattle.std.specs.Prelude.{ℕ, List, [], ◌∷◌, Bool, true, false, codes}
use Rattle.endpoints.specs.declared.command.Command.{Command}
use Rattle.endpoints.specs.declared.command.Command.TheVariants as command
use Rattle.parameters.specs.declared.kind.Kind.{Kind}
use Rattle.parameters.specs.declared.kind.Kind.TheVariants as kind
use Rattle.parameters.specs.declared.parameter.Parameter.{Parameter}
use Rattle.parameters.specs.declared.parameter.Parameter.TheVariants.{ScriptTimeout, PageLoadTimeout, ImplicitTimeout, Url, Handle, X, Y, Width, Height, Id, Using, Value, Text, Script, Args}

-- the names and kinds
abbrev pub name_of : Parameter → List ℕ
name_of ScriptTimeout = codes "script"
name_of PageLoadTimeout = codes "pageLoad"
name_of ImplicitTimeout = codes "implicit"
name_of Url = codes "url"
name_of Handle = codes "handle"
name_of X = codes "x"
name_of Y = codes "y"
name_of Width = codes "width"
name_of Height = codes "height"
name_of Id = codes "id"
name_of Using = codes "using"
name_of Value = codes "value"
name_of Text = codes "text"
name_of Script = codes "script"
name_of Args = codes "args"

abbrev pub kind_of : Parameter → Kind
kind_of ScriptTimeout = kind.Span
kind_of PageLoadTimeout = kind.Span
kind_of ImplicitTimeout = kind.Span
kind_of Url = kind.Address
kind_of Handle = kind.Text
kind_of X = kind.Place
kind_of Y = kind.Place
kind_of Width = kind.Size
kind_of Height = kind.Size
kind_of Id = kind.Frame
kind_of Using = kind.Using
kind_of Value = kind.Text
kind_of Text = kind.Text
kind_of Script = kind.Text
kind_of Args = kind.List

-- the rows; the parameters of New Session and of Perform Actions are looked at elsewhere
abbrev pub row_of : Command → List Parameter
row_of command.SetTimeouts = ScriptTimeout ∷ PageLoadTimeout ∷ ImplicitTimeout ∷ []
row_of command.NavigateTo = Url ∷ []
row_of command.SwitchToWindow = Handle ∷ []
row_of command.SetWindowRect = X ∷ Y ∷ Width ∷ Height ∷ []
row_of command.SwitchToFrame = Id ∷ []
row_of command.FindElement = Using ∷ Value ∷ []
row_of command.FindElements = Using ∷ Value ∷ []
row_of command.FindElementFromElement = Using ∷ Value ∷ []
row_of command.FindElementsFromElement = Using ∷ Value ∷ []
row_of command.FindElementFromShadowRoot = Using ∷ Value ∷ []
row_of command.FindElementsFromShadowRoot = Using ∷ Value ∷ []
row_of command.ElementSendKeys = Text ∷ []
row_of command.ExecuteScript = Script ∷ Args ∷ []
row_of command.ExecuteAsyncScript = Script ∷ Args ∷ []
row_of command.SendAlertText = Text ∷ []
row_of c = []

-- the commands of cookies and of screenshots
abbrev pub is_unsupported : Command → Bool
is_unsupported command.GetAllCookies = true
is_unsupported command.AddCookie = true
is_unsupported command.DeleteAllCookies = true
is_unsupported command.GetNamedCookie = true
is_unsupported command.DeleteCookie = true
is_unsupported command.TakeScreenshot = true
is_unsupported command.TakeElementScreenshot = true
is_unsupported c = false
