-- The error codes: what each is called in a reply, and its status.
use Rattle.std.specs.Prelude.{ℕ, List, codes}
use Rattle.wd_errors.specs.declared.code.Code.{Code}
use Rattle.wd_errors.specs.declared.code.Code.TheVariants.{ElementClickIntercepted, ElementNotInteractable, InsecureCertificate, InvalidArgument, InvalidCookieDomain, InvalidElementState, InvalidSelector, InvalidSessionId, NoSuchAlert, NoSuchCookie, NoSuchElement, NoSuchFrame, NoSuchWindow, NoSuchShadowRoot, StaleElementReference, DetachedShadowRoot, UnknownCommand, UnknownMethod, JavascriptError, MoveTargetOutOfBounds, ScriptTimeout, SessionNotCreated, Timeout, UnableToSetCookie, UnableToCaptureScreen, UnexpectedAlertOpen, UnknownError, UnsupportedOperation}

pub record Row : Type 0 where
  pub text : List ℕ
  pub status : ℕ

abbrev pub row : ℕ → List ℕ → Row
row status text = record { text = text; status = status }

-- the row of each code
abbrev pub row_of : Code → Row
row_of ElementClickIntercepted = row 400 (codes "element click intercepted")
row_of ElementNotInteractable = row 400 (codes "element not interactable")
row_of InsecureCertificate = row 400 (codes "insecure certificate")
row_of InvalidArgument = row 400 (codes "invalid argument")
row_of InvalidCookieDomain = row 400 (codes "invalid cookie domain")
row_of InvalidElementState = row 400 (codes "invalid element state")
row_of InvalidSelector = row 400 (codes "invalid selector")
row_of InvalidSessionId = row 404 (codes "invalid session id")
row_of NoSuchAlert = row 404 (codes "no such alert")
row_of NoSuchCookie = row 404 (codes "no such cookie")
row_of NoSuchElement = row 404 (codes "no such element")
row_of NoSuchFrame = row 404 (codes "no such frame")
row_of NoSuchWindow = row 404 (codes "no such window")
row_of NoSuchShadowRoot = row 404 (codes "no such shadow root")
row_of StaleElementReference = row 404 (codes "stale element reference")
row_of DetachedShadowRoot = row 404 (codes "detached shadow root")
row_of UnknownCommand = row 404 (codes "unknown command")
row_of UnknownMethod = row 405 (codes "unknown method")
row_of JavascriptError = row 500 (codes "javascript error")
row_of MoveTargetOutOfBounds = row 500 (codes "move target out of bounds")
row_of ScriptTimeout = row 500 (codes "script timeout")
row_of SessionNotCreated = row 500 (codes "session not created")
row_of Timeout = row 500 (codes "timeout")
row_of UnableToSetCookie = row 500 (codes "unable to set cookie")
row_of UnableToCaptureScreen = row 500 (codes "unable to capture screen")
row_of UnexpectedAlertOpen = row 500 (codes "unexpected alert open")
row_of UnknownError = row 500 (codes "unknown error")
row_of UnsupportedOperation = row 500 (codes "unsupported operation")
