-- A search over all codes finds each code by its text.
use Rattle.std.proofs.Common.{◌≡◌, ◌≢◌, ℕ, Bool, List, [], ◌∷◌, Option, Some, None, IfNone, ap, rules, nat_eq}
use Rattle.std.specs.List.{find}
use Rattle.std.specs.Option.{option_map}
use Rattle.std.specs.Cmp.Lexicographic.{pointwise}
use Rattle.wd_errors.specs.Codes.{row_of}
use Rattle.wd_errors.specs.declared.code.Code.{Code}
use Rattle.wd_errors.specs.declared.code.Code.TheVariants.{ElementClickIntercepted, ElementNotInteractable, InsecureCertificate, InvalidArgument, InvalidCookieDomain, InvalidElementState, InvalidSelector, InvalidSessionId, NoSuchAlert, NoSuchCookie, NoSuchElement, NoSuchFrame, NoSuchWindow, NoSuchShadowRoot, StaleElementReference, DetachedShadowRoot, UnknownCommand, UnknownMethod, JavascriptError, MoveTargetOutOfBounds, ScriptTimeout, SessionNotCreated, Timeout, UnableToSetCookie, UnableToCaptureScreen, UnexpectedAlertOpen, UnknownError, UnsupportedOperation}

-- every code
abbrev pub all_codes : List Code
all_codes =
    ElementClickIntercepted ∷ ElementNotInteractable ∷ InsecureCertificate ∷ InvalidArgument ∷
    InvalidCookieDomain ∷ InvalidElementState ∷ InvalidSelector ∷ InvalidSessionId ∷ NoSuchAlert ∷
    NoSuchCookie ∷ NoSuchElement ∷ NoSuchFrame ∷ NoSuchWindow ∷ NoSuchShadowRoot ∷
    StaleElementReference ∷ DetachedShadowRoot ∷ UnknownCommand ∷ UnknownMethod ∷
    JavascriptError ∷ MoveTargetOutOfBounds ∷ ScriptTimeout ∷ SessionNotCreated ∷ Timeout ∷
    UnableToSetCookie ∷ UnableToCaptureScreen ∷ UnexpectedAlertOpen ∷ UnknownError ∷
    UnsupportedOperation ∷ []

abbrev pub has_text : List ℕ → Code → Bool
has_text text c = pointwise nat_eq (row_of c).text text

-- the first code with this text
abbrev pub code_with : List ℕ → Option Code
code_with text = find (has_text text) all_codes

pub code_with-text : (code : Code) → code_with (row_of code).text ≡ Some code
code_with-text code = search rules

-- where nothing is found, no code has the text
pub no_code : (text : List ℕ) (result : Option Code) → option_map (λ x. x) result ≡ code_with text → IfNone result ((code : Code) → (row_of code).text ≢ text)
no_code text (Some code) e = tt
no_code text None e = λ code t. cc (e, code_with-text code, ap code_with t)
