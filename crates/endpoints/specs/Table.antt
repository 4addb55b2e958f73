-- The table of commands: the name, the method and the path of each. A segment `{session}`, `{item}` or `{name}` of a path is a variable; an item is an element or a shadow root.
use Rattle.std.specs.Prelude.{ℕ, List, codes}
use Rattle.endpoints.specs.declared.command.Command.{Command}
use Rattle.endpoints.specs.declared.command.Command.TheVariants.{NewSession, DeleteSession, Status, GetTimeouts, SetTimeouts, NavigateTo, GetCurrentUrl, Back, Forward, Refresh, GetTitle, GetWindowHandle, CloseWindow, SwitchToWindow, GetWindowHandles, GetWindowRect, SetWindowRect, MaximizeWindow, FullscreenWindow, MinimizeWindow, SwitchToFrame, SwitchToParentFrame, GetActiveElement, FindElement, FindElements, FindElementFromElement, FindElementsFromElement, FindElementFromShadowRoot, FindElementsFromShadowRoot, GetElementShadowRoot, IsElementSelected, GetElementAttribute, GetElementProperty, GetElementCssValue, GetElementText, GetElementTagName, GetElementRect, IsElementEnabled, IsElementDisplayed, ElementClick, ElementClear, ElementSendKeys, GetPageSource, ExecuteScript, ExecuteAsyncScript, GetAllCookies, AddCookie, DeleteAllCookies, GetNamedCookie, DeleteCookie, PerformActions, ReleaseActions, DismissAlert, AcceptAlert, GetAlertText, SendAlertText, TakeScreenshot, TakeElementScreenshot}

pub record Row : Type 0 where
  pub name : List ℕ
  pub method : List ℕ
  pub path : List ℕ

abbrev pub get : List ℕ → List ℕ → Row
get name path = record { name = name; method = codes "GET"; path = path }

abbrev pub post : List ℕ → List ℕ → Row
post name path = record { name = name; method = codes "POST"; path = path }

abbrev pub delete : List ℕ → List ℕ → Row
delete name path = record { name = name; method = codes "DELETE"; path = path }

abbrev pub row_of : Command → Row
row_of NewSession = post (codes "NewSession") (codes "/session")
row_of DeleteSession = delete (codes "DeleteSession") (codes "/session/{session}")
row_of Status = get (codes "Status") (codes "/status")
row_of GetTimeouts = get (codes "GetTimeouts") (codes "/session/{session}/timeouts")
row_of SetTimeouts = post (codes "SetTimeouts") (codes "/session/{session}/timeouts")
row_of NavigateTo = post (codes "NavigateTo") (codes "/session/{session}/url")
row_of GetCurrentUrl = get (codes "GetCurrentUrl") (codes "/session/{session}/url")
row_of Back = post (codes "Back") (codes "/session/{session}/back")
row_of Forward = post (codes "Forward") (codes "/session/{session}/forward")
row_of Refresh = post (codes "Refresh") (codes "/session/{session}/refresh")
row_of GetTitle = get (codes "GetTitle") (codes "/session/{session}/title")
row_of GetWindowHandle = get (codes "GetWindowHandle") (codes "/session/{session}/window")
row_of CloseWindow = delete (codes "CloseWindow") (codes "/session/{session}/window")
row_of SwitchToWindow = post (codes "SwitchToWindow") (codes "/session/{session}/window")
row_of GetWindowHandles = get (codes "GetWindowHandles") (codes "/session/{session}/window/handles")
row_of GetWindowRect = get (codes "GetWindowRect") (codes "/session/{session}/window/rect")
row_of SetWindowRect = post (codes "SetWindowRect") (codes "/session/{session}/window/rect")
row_of MaximizeWindow = post (codes "MaximizeWindow") (codes "/session/{session}/window/maximize")
row_of FullscreenWindow = post (codes "FullscreenWindow") (codes "/session/{session}/window/fullscreen")
row_of MinimizeWindow = post (codes "MinimizeWindow") (codes "/session/{session}/window/minimize")
row_of SwitchToFrame = post (codes "SwitchToFrame") (codes "/session/{session}/frame")
row_of SwitchToParentFrame = post (codes "SwitchToParentFrame") (codes "/session/{session}/frame/parent")
row_of GetActiveElement = get (codes "GetActiveElement") (codes "/session/{session}/element/active")
row_of FindElement = post (codes "FindElement") (codes "/session/{session}/element")
row_of FindElements = post (codes "FindElements") (codes "/session/{session}/elements")
row_of FindElementFromElement = post (codes "FindElementFromElement") (codes "/session/{session}/element/{item}/element")
row_of FindElementsFromElement = post (codes "FindElementsFromElement") (codes "/session/{session}/element/{item}/elements")
row_of FindElementFromShadowRoot = post (codes "FindElementFromShadowRoot") (codes "/session/{session}/shadow/{item}/element")
row_of FindElementsFromShadowRoot = post (codes "FindElementsFromShadowRoot") (codes "/session/{session}/shadow/{item}/elements")
row_of GetElementShadowRoot = get (codes "GetElementShadowRoot") (codes "/session/{session}/element/{item}/shadow")
row_of IsElementSelected = get (codes "IsElementSelected") (codes "/session/{session}/element/{item}/selected")
row_of GetElementAttribute = get (codes "GetElementAttribute") (codes "/session/{session}/element/{item}/attribute/{name}")
row_of GetElementProperty = get (codes "GetElementProperty") (codes "/session/{session}/element/{item}/property/{name}")
row_of GetElementCssValue = get (codes "GetElementCssValue") (codes "/session/{session}/element/{item}/css/{name}")
row_of GetElementText = get (codes "GetElementText") (codes "/session/{session}/element/{item}/text")
row_of GetElementTagName = get (codes "GetElementTagName") (codes "/session/{session}/element/{item}/name")
row_of GetElementRect = get (codes "GetElementRect") (codes "/session/{session}/element/{item}/rect")
row_of IsElementEnabled = get (codes "IsElementEnabled") (codes "/session/{session}/element/{item}/enabled")
row_of IsElementDisplayed = get (codes "IsElementDisplayed") (codes "/session/{session}/element/{item}/displayed")
row_of ElementClick = post (codes "ElementClick") (codes "/session/{session}/element/{item}/click")
row_of ElementClear = post (codes "ElementClear") (codes "/session/{session}/element/{item}/clear")
row_of ElementSendKeys = post (codes "ElementSendKeys") (codes "/session/{session}/element/{item}/value")
row_of GetPageSource = get (codes "GetPageSource") (codes "/session/{session}/source")
row_of ExecuteScript = post (codes "ExecuteScript") (codes "/session/{session}/execute/sync")
row_of ExecuteAsyncScript = post (codes "ExecuteAsyncScript") (codes "/session/{session}/execute/async")
row_of GetAllCookies = get (codes "GetAllCookies") (codes "/session/{session}/cookie")
row_of AddCookie = post (codes "AddCookie") (codes "/session/{session}/cookie")
row_of DeleteAllCookies = delete (codes "DeleteAllCookies") (codes "/session/{session}/cookie")
row_of GetNamedCookie = get (codes "GetNamedCookie") (codes "/session/{session}/cookie/{name}")
row_of DeleteCookie = delete (codes "DeleteCookie") (codes "/session/{session}/cookie/{name}")
row_of PerformActions = post (codes "PerformActions") (codes "/session/{session}/actions")
row_of ReleaseActions = delete (codes "ReleaseActions") (codes "/session/{session}/actions")
row_of DismissAlert = post (codes "DismissAlert") (codes "/session/{session}/alert/dismiss")
row_of AcceptAlert = post (codes "AcceptAlert") (codes "/session/{session}/alert/accept")
row_of GetAlertText = get (codes "GetAlertText") (codes "/session/{session}/alert/text")
row_of SendAlertText = post (codes "SendAlertText") (codes "/session/{session}/alert/text")
row_of TakeScreenshot = get (codes "TakeScreenshot") (codes "/session/{session}/screenshot")
row_of TakeElementScreenshot = get (codes "TakeElementScreenshot") (codes "/session/{session}/element/{item}/screenshot")
