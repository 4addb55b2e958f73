-- What a route to a command says of a request.
use Rattle.std.proofs.Common.{◌≡◌, ℕ, List, sym, ap, ◌∙◌, subst}
use Rattle.std.specs.Option.{IfSome}
use Rattle.std.specs.Str.{IsUtf8}
use Rattle.wd_errors.specs.declared.code.Code.TheVariants.{UnknownCommand}
use Rattle.endpoints.specs.declared.command.Command.{Command}
use Rattle.endpoints.specs.declared.route.Route.{Route}
use Rattle.wd_errors.specs.declared.code.Code.{Code}
use Rattle.wd_json.specs.declared.fault.Fault.{Fault}
use Rattle.wd_json.specs.declared.fault.Fault.TheVariants.{Refused, Memory}
use Rattle.endpoints.specs.Table.{row_of}
use Rattle.endpoints.specs.Path.{path_in, segments, value_of}
use Rattle.endpoints.specs.Route.{asked, FitsPath, AllTexts, value_in, bytes_for, IsRouteOf, SameRoute, IsCause, IsUnread, IsNoText}
use Rattle.endpoints.proofs.Rows.{one-row}

-- commands of one path have the same variables
texts_same : (c d : Command) (path : List (List ℕ)) → (row_of c).path ≡ (row_of d).path → AllTexts c path → AllTexts d path
texts_same c d path e t = record { session = to _ t.session; item = to _ t.item; name = to _ t.name }
  where
    to : (v : List ℕ) → IfSome (value_in v c path) IsUtf8 → IfSome (value_in v d path) IsUtf8
    to v h = subst (λ p. IfSome (value_of v (segments p) path) IsUtf8) e h

-- a variable without a text
pub unread : (c : Command) (path : List (List ℕ)) (v pattern : List ℕ) → pattern ≡ (row_of c).path → (AllTexts c path → IfSome (value_in v c path) IsUtf8)
    → (fault : Fault Code) → IsNoText (value_of v (segments pattern) path) fault → IsUnread c path fault
unread c path v pattern e pick (Refused UnknownCommand) n = λ t. n (subst (λ p. IfSome (value_of v (segments p) path) IsUtf8) (sym e) (pick t))
unread c path v pattern e pick (Refused code) n = absurd n
unread c path v pattern e pick Memory n = tt

-- a fitting command whose variables have no texts
pub cause_of : (method target path : List ℕ) (c : Command) → path ≡ path_in target → FitsPath c (segments path) → (fault : Fault Code)
    → IsUnread c (segments path) fault → IsCause method target fault
cause_of method target path c e f (Refused UnknownCommand) u =
    let to : (P : List ℕ → Type 0) → P (path_in target) → P path = λ P h. subst P (sym e) h in
    λ d g t. u (texts_same d c (segments path) (one-row d c (segments path) (to (λ p. FitsPath d (segments p)) g) f).0 (to (λ p. AllTexts d (segments p)) t))
cause_of method target path c e f (Refused code) u = absurd u
cause_of method target path c e f Memory u = tt

pub same_route : (method target : List ℕ) (a b : Route) → IsRouteOf method target a → IsRouteOf method target b → SameRoute a b
same_route method target a b x y =
    let one = one-row a.command b.command (asked target) x.path_fits y.path_fits in
    let same : (v : List ℕ) → bytes_for v a.command target ≡ bytes_for v b.command target = λ v. ap (λ p. value_of v (segments p) (asked target)) one.0 in
    record {
      command = one.1 (x.method_is ∙ sym y.method_is);
      session = x.session ∙ same _ ∙ sym y.session;
      item = x.item ∙ same _ ∙ sym y.item;
      name = x.name ∙ same _ ∙ sym y.name;
    }
