use Rattle.std.proofs.Common.{◌≤◌, length, take, sym, ap, subst, ◌∙◌, arith}
use Rattle.std.specs.List.{AllByRecursion}
use Rattle.std.proofs.lemmas.List.{take_all}
use Rattle.pl_block.specs.Numbered.{AreNumbered}
use Rattle.pl_block.specs.Spelling.{IsBlock}
use Rattle.pl_pages.specs.Page.{page_of}
use Rattle.pl_pages.specs.State.{AreVersions, lsns_of}
use Rattle.pl_pages.proofs.Touching.{given_at}
use Rattle.pl_pages.proofs.pages.find_or_make.Goals as goal

pub show-requires-clause-lsns : goal.show-requires-clause-lsns
show-requires-clause-lsns c =
    let page = c.args.page in
    let log = c.args.log.now.hardened in
    let index = c.catch_up.new.index in
    let whole : length log ≤ index.entered = omega (arith, c.in_ok-catch_up.ensures.all, c.hard-hard.ensures.value) in
    c.lsns.ensures.value ∙ c.in_ok-catch_up.ensures.index.lsns page
    ∙ ap (lsns_of page) (take_all index.entered log whole)
    ∙ ap (λ l. lsns_of page l.hardened) (sym c.in_ok-catch_up.ensures.log)

pub show-requires-clause-versions : goal.show-requires-clause-versions
show-requires-clause-versions c =
    let log = c.args.log.now.hardened in
    let index = c.catch_up.new.index in
    let same = sym c.in_ok-catch_up.ensures.log in
    let whole : length log ≤ index.entered = omega (arith, c.in_ok-catch_up.ensures.all, c.hard-hard.ensures.value) in
    record {
      numbered = subst (λ l. AreNumbered 1 l.hardened) same c.hard-hard.ensures.valid.numbered;
      blocks = subst (λ l. AllByRecursion IsBlock l.hardened) same
          (subst (AllByRecursion IsBlock) (take_all index.entered log whole) c.in_ok-catch_up.ensures.index.blocks);
      truth = subst (λ l. AreVersions c.args.versions.now.versions l.hardened) same c.requires.of.truth;
    }

pub returns-clause-page : goal.returns-clause-page
returns-clause-page c =
    let same = c.in_ok-catch_up.ensures.log in
    let hard : c.args.lsn ≤ length c.catch_up.new.log.hardened = omega (arith, c.requires.hard, ap (λ l. length l.hardened) same) in
    record {
      within = c.in_ok-place.ensures.after.within;
      bytes = given_at c.show.new.versions.versions c.in_ok-place.place c.args.page c.args.lsn c.catch_up.new.log.hardened c.in_ok-place.ensures.kept.truth hard c.in_ok-place.ensures.after
          ∙ ap (λ l. page_of c.args.page (take c.args.lsn l.hardened)) same;
    }
