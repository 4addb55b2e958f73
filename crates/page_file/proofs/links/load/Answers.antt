use Rattle.std.proofs.Common.{◌≡◌, rules, Option, true, false, Some, None}
use Rattle.std.specs.Str.{encode_utf8_all}
use Rattle.url.specs.Parts.{Parts}
use Rattle.url.specs.Parser.{parse_url}
use Rattle.page_file.specs.Leading.{frame_from, page_leads}
use Rattle.page_engine.specs.Links.{parsed, frames}
use Rattle.page_file.specs.Members.{each_of}
use Rattle.page_file.proofs.Linked.{frame_lost, effect_lost, all_found}
use Rattle.page_file.proofs.links.load.Goals as goal

pub returns-in_default : goal.returns-in_default
returns-in_default c =
    let pages = c.args.pages.now in
    let page = c.args.page.now in
    let base : Option Parts = c.in_ok-base.base in
    let own : base ≡ parsed (parse_url None (encode_utf8_all page.address)) = search rules in
    let none : each_of (frame_from pages base) (frames page) ≡ None = search rules in
    frame_lost pages page base own none

pub returns-then-not-branch : goal.returns-then-not-branch
returns-then-not-branch c =
    let pages = c.args.pages.now in
    let page = c.args.page.now in
    let base : Option Parts = c.in_ok-base.base in
    let own : base ≡ parsed (parse_url None (encode_utf8_all page.address)) = search rules in
    let there : each_of (frame_from pages base) (frames page) ≡ Some c.in-Some.frames = search rules in
    let lost : page_leads pages base page ≡ false = search rules in
    effect_lost pages page base own c.in-Some.frames there lost

pub returns : goal.returns
returns c =
    let pages = c.args.pages.now in
    let page = c.args.page.now in
    let base : Option Parts = c.in_ok-base.base in
    let own : base ≡ parsed (parse_url None (encode_utf8_all page.address)) = search rules in
    let there : each_of (frame_from pages base) (frames page) ≡ Some c.in-Some.frames = search rules in
    let all : page_leads pages base page ≡ true = search rules in
    record { nodes = search rules; frames = all_found pages page base own c.in-Some.frames there all }
