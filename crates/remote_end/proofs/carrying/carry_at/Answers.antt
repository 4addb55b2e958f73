use Rattle.std.proofs.Common.{◌≡◌, List, length, slice_get, slice_set, sym, ap, ◌∙◌, refl, subst}
use Rattle.std.specs.List.{insert}
use Rattle.std.proofs.lemmas.Option.{slice_get_read}
use Rattle.remote_end.specs.declared.session.Session.{Session}
use Rattle.remote_end.specs.declared.setting.Setting.{Setting}
use Rattle.remote_end.specs.Waits.{IsKept}
use Rattle.remote_end.proofs.NumberLemmas.{insert_removed}
use Rattle.remote_end.proofs.RunAtLemmas.{some_session, here_set}
use Rattle.remote_end.proofs.carrying.carry_at.Goals as goal

pub carry-requires : goal.carry-requires
carry-requires c =
    let olds = c.args.sessions.now.items in
    c.requires.going c.remove-session.result (slice_get_read olds (length olds) c.args.place c.remove-session.result refl c.requires.within c.remove-session.ensures.value)

pub returns-clause-goes : goal.returns-clause-goes
returns-clause-goes c =
    let olds = c.args.sessions.now.items in
    let here = slice_get_read olds (length olds) c.args.place c.remove-session.result refl c.requires.within c.remove-session.ensures.value in
    record {
      session = c.remove-session.result;
      here = here;
      left = c.carry.new.going.1;
      comes = c.in_ok-step.ensures.comes;
      number = c.in_ok-step.ensures.number;
      fewer = c.in_ok-step.ensures.fewer;
      new_is = c.in_ok-insert.ensures.items ∙ ap (λ (l : List Session). insert l c.args.place c.going.inside.session) c.remove-session.ensures.items
          ∙ insert_removed olds c.args.place c.going.inside.session c.requires.within ∙ ap (λ (g : Setting × Session). slice_set olds c.args.place g.1) c.going.view_is;
    }

pub returns-clause-kept : goal.returns-clause-kept
returns-clause-kept c s there =
    let olds = c.args.sessions.now.items in
    let left = c.carry.new.going.1 in
    let new_is : c.insert.new.self.items ≡ slice_set olds c.args.place left = c.in_ok-insert.ensures.items ∙ ap (λ (l : List Session). insert l c.args.place c.going.inside.session) c.remove-session.ensures.items
    ∙ insert_removed olds c.args.place c.going.inside.session c.requires.within ∙ ap (λ (g : Setting × Session). slice_set olds c.args.place g.1) c.going.view_is in
    let same = some_session left s (sym (here_set olds c.args.place left c.requires.within) ∙ sym (ap (λ (l : List Session). slice_get l c.args.place) new_is) ∙ there) in
    subst IsKept same c.in_ok-step.ensures.kept
