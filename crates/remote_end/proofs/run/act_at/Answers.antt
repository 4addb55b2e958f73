use Rattle.std.proofs.Common.{◌≡◌, ℕ, [], Some, length, slice_get, slice_set, sym, ap, ◌∙◌, refl, subst}
use Rattle.std.proofs.lemmas.Option.{slice_get_read}
use Rattle.std.proofs.lemmas.Result.{IfOk-weaker}
use Rattle.remote_end.specs.declared.outcome.Outcome.{Outcome}
use Rattle.remote_end.specs.declared.session.Session.{Session}
use Rattle.remote_end.specs.Advance.{Advanced}
use Rattle.remote_end.specs.Moments.{start_of}
use Rattle.remote_end.specs.Step.{RowComes, GoesOn, IsRow}
use Rattle.remote_end.specs.Waits.{RowLeaves}
use Rattle.remote_end.proofs.RunAtLemmas.{some_session, removed_again, ends_here, stays_here, waits_here}
use Rattle.remote_end.proofs.SoundLemmas.{sound_set, sound_carried, sound_without, kept_idle}
use Rattle.remote_end.proofs.run.act_at.Goals as goal

pub returns-in-Replied-clause-runs : goal.returns-in-Replied-clause-runs
returns-in-Replied-clause-runs c =
    let olds = c.args.sessions.now.items in
    let s = c.index_mut.result.now in
    let here : slice_get olds c.args.place ≡ Some s = slice_get_read olds (length olds) c.args.place s refl c.requires.within c.index_mut.ensures.value in
    let seen : slice_get olds c.args.place ≡ Some c.index.result.now = slice_get_read olds (length olds) c.args.place c.index.result.now refl c.requires.within c.index.ensures in
    let same = some_session c.index.result.now s (sym seen ∙ here) in
    let start = c.start_of-start.ensures.start ∙ ap (λ (t : Session). start_of (Some t) c.args.reading) same in
    let begins = c.in_ok-reply.ensures.begins in
    let w = c.begin_in.new.session in
    let P : ℕ → Type 0 = λ m. Advanced c.args.setting.now s m begins.begun in
    let Q : Outcome → Type 0 = λ o. RowComes c.args.setting.now (IsRow c.args.setting.now c.args.order.now begins.begun []) o w in
    let R : Outcome → Type 0 = λ o. RowLeaves o w in
    let leaves = subst R c.in-Replied.is c.in_ok-reply.ensures.leaves in
    stays_here c.args.setting.now c.args.order.now c.args.reading olds c.args.place s here begins.begun (subst P start begins.advanced) w c.in-Replied.reply leaves.0 (subst Q c.in-Replied.is begins.comes)

pub returns-in-Replied-clause-sound : goal.returns-in-Replied-clause-sound
returns-in-Replied-clause-sound c next sound =
    let olds = c.args.sessions.now.items in
    let s = c.index_mut.result.now in
    let here : slice_get olds c.args.place ≡ Some s = slice_get_read olds (length olds) c.args.place s refl c.requires.within c.index_mut.ensures.value in
    let R : Outcome → Type 0 = λ o. RowLeaves o c.begin_in.new.session in
    let leaves = subst R c.in-Replied.is c.in_ok-reply.ensures.leaves in
    let kept = c.in_ok-reply.ensures.kept in
    sound_set next olds c.args.place s c.begin_in.new.session here kept.1 (kept_idle c.begin_in.new.session kept.0 leaves.0) sound

pub returns-in-Ended-clause-runs : goal.returns-in-Ended-clause-runs
returns-in-Ended-clause-runs c =
    let olds = c.args.sessions.now.items in
    let s = c.index_mut.result.now in
    let here : slice_get olds c.args.place ≡ Some s = slice_get_read olds (length olds) c.args.place s refl c.requires.within c.index_mut.ensures.value in
    let seen : slice_get olds c.args.place ≡ Some c.index.result.now = slice_get_read olds (length olds) c.args.place c.index.result.now refl c.requires.within c.index.ensures in
    let same = some_session c.index.result.now s (sym seen ∙ here) in
    let start = c.start_of-start.ensures.start ∙ ap (λ (t : Session). start_of (Some t) c.args.reading) same in
    let begins = c.in_ok-reply.ensures.begins in
    let w = c.begin_in.new.session in
    let P : ℕ → Type 0 = λ m. Advanced c.args.setting.now s m begins.begun in
    let Q : Outcome → Type 0 = λ o. RowComes c.args.setting.now (IsRow c.args.setting.now c.args.order.now begins.begun []) o w in
    ends_here c.args.setting.now c.args.order.now c.args.reading olds c.args.place s here begins.begun (subst P start begins.advanced) w c.in-Ended.reply c.remove.new.self.items (subst Q c.in-Ended.is begins.comes) c.remove.ensures.items

pub returns-in-Ended-clause-sound : goal.returns-in-Ended-clause-sound
returns-in-Ended-clause-sound c next sound =
    let olds = c.args.sessions.now.items in
    sound_without next olds c.remove.new.self.items c.args.place (c.remove.ensures.items ∙ removed_again olds c.args.place c.begin_in.new.session) sound

pub returns-in-Waits-clause-runs : goal.returns-in-Waits-clause-runs
returns-in-Waits-clause-runs c =
    let olds = c.args.sessions.now.items in
    let s = c.index_mut.result.now in
    let here : slice_get olds c.args.place ≡ Some s = slice_get_read olds (length olds) c.args.place s refl c.requires.within c.index_mut.ensures.value in
    let seen : slice_get olds c.args.place ≡ Some c.index.result.now = slice_get_read olds (length olds) c.args.place c.index.result.now refl c.requires.within c.index.ensures in
    let same = some_session c.index.result.now s (sym seen ∙ here) in
    let start = c.start_of-start.ensures.start ∙ ap (λ (t : Session). start_of (Some t) c.args.reading) same in
    let begins = c.in_ok-reply.ensures.begins in
    let w = c.begin_in.new.session in
    let P : ℕ → Type 0 = λ m. Advanced c.args.setting.now s m begins.begun in
    let Q : Outcome → Type 0 = λ o. RowComes c.args.setting.now (IsRow c.args.setting.now c.args.order.now begins.begun []) o w in
    IfOk-weaker c.carry_at.result _ _ (λ step goes.
    let G : ℕ → Type 0 = λ m. GoesOn c.args.setting.now (slice_set olds c.args.place w) c.args.place m c.carry_at.new.sessions.items step in
    waits_here c.args.setting.now c.args.order.now c.args.reading olds c.args.place s here begins.begun (subst P start begins.advanced) w c.carry_at.new.sessions.items step c.requires.within c.in_ok-reply.ensures.kept.1
    (subst Q c.in-Waits.is begins.comes) (subst G start goes)) c.carry_at.ensures.goes

pub returns-in-Waits-clause-sound : goal.returns-in-Waits-clause-sound
returns-in-Waits-clause-sound c next sound =
    let olds = c.args.sessions.now.items in
    let s = c.index_mut.result.now in
    let here : slice_get olds c.args.place ≡ Some s = slice_get_read olds (length olds) c.args.place s refl c.requires.within c.index_mut.ensures.value in
    sound_carried c.args.setting.now next olds c.carry_at.new.sessions.items c.args.place c.start_of-start.result s here c.begin_in.new.session c.in_ok-reply.ensures.kept.1 c.carry_at.result c.carry_at.ensures.goes c.carry_at.ensures.kept sound
