-- A list of resumes is one resume.
use Rattle.std.proofs.Common.{◌≡◌, ◌<◌, ◌≤◌, ℕ, max, Bool, true, false, List, Option, Some, None, sym, refl, subst, arith}
use Rattle.std.specs.Prelude.{nat_le}
use Rattle.std.proofs.lemmas.Bool.{leb-true, leb-false}
use Rattle.waits.specs.Reaching.{Reaches, Stays, Goes, IsLater}
use Rattle.waits.proofs.Steps.{not_later}
use Rattle.remote_end.specs.declared.session.Session.{Session}
use Rattle.remote_end.specs.Waits.{next_moment, StepsAt}
use Rattle.remote_end.specs.Resumed.{IsResumed, AreResumed, NoMore, Again, greatest, ResumesAreOne}
use Rattle.remote_end.specs.declared.setting.Setting.{Setting}

wider : (setting : Setting) (a b : ℕ) → a ≤ b → (s t : Session) → Reaches next_moment (StepsAt setting) a s t → Reaches next_moment (StepsAt setting) b s t
wider setting a b h s t (Stays x) = Stays x
wider setting a b h s t (Goes x y z m first within step more) = Goes x y z m first (omega (arith, within, h)) step (wider setting a b h y z more)

joined : (setting : Setting) (r : ℕ) (s t u : Session) → Reaches next_moment (StepsAt setting) r s t → Reaches next_moment (StepsAt setting) r t u → Reaches next_moment (StepsAt setting) r s u
joined setting r s t u (Stays x) more = more
joined setting r s t u (Goes x y z m first within step rest) more = Goes x y u m first within step (joined setting r y z u rest more)

-- an early resume changes nothing
pub early_stays : (setting : Setting) (r : ℕ) (s t : Session) → Reaches next_moment (StepsAt setting) r s t → IsLater (next_moment s) r → t ≡ s
early_stays setting r s t (Stays x) later = refl
early_stays setting r s t (Goes x y z m first within step rest) later = absurd (not_later (next_moment x) m r first within later)

later_less : (o : Option ℕ) (a b : ℕ) → a ≤ b → IsLater o b → IsLater o a
later_less None a b h later = tt
later_less (Some m) a b h later = let l : b < m = later in omega (arith, l, h)

two : (setting : Setting) (s t u : Session) (a b : ℕ) → IsResumed setting s a t → IsResumed setting t b u → IsResumed setting s (max a b) u
two setting s t u a b first second = by (nat_le b a) refl
  where
    by : (early : Bool) → nat_le b a ≡ early → IsResumed setting s (max a b) u
    by true is =
        let less : b ≤ a = leb-true b a is in
        let most : max a b ≡ a = omega (arith, less) in
        let same : u ≡ t = early_stays setting b t u second.reaches (later_less (next_moment t) b a less first.later) in
        let P : Session → Type 0 = λ x. IsResumed setting s a x in
        let Q : ℕ → Type 0 = λ m. IsResumed setting s m u in
        subst Q (sym most) (subst P (sym same) first)
    by false is =
        let more : a < b = leb-false b a is in
        let most : max a b ≡ b = omega (arith, more) in
        let Q : ℕ → Type 0 = λ m. IsResumed setting s m u in
        subst Q (sym most) (record { reaches = joined setting b s t u (wider setting a b (omega (arith, more)) s t first.reaches) second.reaches; later = second.later })

all_of : (setting : Setting) (t u : Session) (readings : List ℕ) → AreResumed setting t readings u → (s : Session) (r : ℕ) → IsResumed setting s r t → IsResumed setting s (greatest r readings) u
all_of setting t u rs (NoMore x) s r first = first
all_of setting t u rs (Again x y z b readings one more) s r first = all_of setting y z readings more s (max r b) (two setting s x y r b first one)

pub resumes_are_one : ResumesAreOne
resumes_are_one setting s t u r readings first more = all_of setting t u readings more s r first
