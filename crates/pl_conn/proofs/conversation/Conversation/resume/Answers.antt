use Rattle.std.proofs.Common.{length, drop, refl, rules, sym, ap, ◌∙◌}
use Rattle.std.proofs.lemmas.List.{take_rest}
use Rattle.std.proofs.lemmas.Result.{err_from_is_err_and}
use Rattle.pl_conn.specs.Resting.{Middle, middle}
use Rattle.pl_conn.proofs.Turning.{drop_some, heard_more, kept_as, moved_as, moves_on, none_empty, none_left, on_err, on_ok, only_heard, only_told, rested, some_there, speaks_then, speaks_whole, turned, turned_on, unless_waiting}
use Rattle.pl_conn.proofs.conversation.Conversation.resume.Goals as goal

pub returns-in_err-tell-clause-value : goal.returns-in_err-tell-clause-value
returns-in_err-tell-clause-value g c =
    let p = err_from_is_err_and c.from_residual.result c.from_residual.ensures.1 in
    rw (p.1, p.2, c.in_err-tell.ensures.cause)
    (c.tell.new.self, only_told _ _ (g.R.Read.remaining c.args.reader.now) _ (g.R.Read.remaining c.args.reader.now) _ _ _ c.tell.ensures.value, c.in_err-tell.ensures.err)

pub returns-then-left-gt0-clause-value : goal.returns-then-left-gt0-clause-value
returns-then-left-gt0-clause-value g c =
    (only_told _ _ (g.R.Read.remaining c.args.reader.now) _ (g.R.Read.remaining c.args.reader.now) _ _ _ c.tell.ensures.value, search rules)

pub returns-in_err-heard-clause-value : goal.returns-in_err-heard-clause-value
returns-in_err-heard-clause-value g c =
    let p = err_from_is_err_and c.from_residual-in_err-heard.result c.from_residual-in_err-heard.ensures.1 in
    let hears = rw (c.load.ensures.value, c.unread.ensures.value) at c.hear.ensures.value in
    rw (p.1, p.2, c.in_err-heard.ensures.cause)
    (middle c.hear.new.inbox _, only_heard _ _ _ _ _ _ _ _ _ c.tell.ensures.value (none_left _ (search rules)) hears, (refl, c.in_err-heard.ensures.cut))

-- what is not written of the replies, after a write that failed
pub returns-then-is_err-clause-value : goal.returns-then-is_err-clause-value
returns-then-is_err-clause-value g c =
    let hears = rw (c.load.ensures.value, c.unread.ensures.value) at c.hear.ensures.value in
    let speaks = rw c.as_slice-bytes.ensures.value at c.speak-taken.ensures.value in
    let less = on_err _ _ c.speak-taken.ensures.err (sym c.is_err.ensures.value ∙ c.if-is_err.true) in (
      middle _ _,
      turned _ _ _ _ _ _ _ _ _ _ _ c.hear.new.inbox c.tell.ensures.value (none_left _ (search rules)) hears speaks,
      drop_some c.speak-taken.result.1 c.speak-taken.new.outbox.text less,
    )

pub returns-then-is_ok-clause-value : goal.returns-then-is_ok-clause-value
returns-then-is_ok-clause-value g c =
    let hears = rw (c.load.ensures.value, c.unread.ensures.value) at c.hear.ensures.value in
    let speaks = rw c.as_slice-bytes.ensures.value at c.speak-taken.ensures.value in
    let holds = on_ok _ _ c.keep.ensures.ok (sym c.is_ok.ensures.value ∙ c.if-is_ok.true) in
    let kept = rw (c.text.ensures.value, c.as_slice-bytes.ensures.value, take_rest c.hear.new.inbox c.speak-taken.result.0, take_rest c.speak-taken.new.outbox.text c.speak-taken.result.1) at holds in
    let within = rw c.as_slice-bytes.ensures.value at c.speak-taken.ensures.few.0 in
    let all = rw c.as_slice-bytes.ensures.value at c.speak-taken.ensures.all in
    let some = rw (c.load.ensures.value, c.unread.ensures.value) at c.in_ok-heard.ensures.some in
    rested _ _ _ _ _ _ _
    (kept_as _ _ _ _ _ _ (turned _ _ _ _ _ _ _ _ _ _ _ c.hear.new.inbox c.tell.ensures.value (none_left _ (search rules)) hears speaks) kept)
    (sym c.left-then-is_ok.ensures.value) c.in_ok-heard.ensures.end
    (λ again.
    let a = rw c.unread-then-is_ok.ensures.value at (c.rest_after.ensures.again again) in
    let none = sym (ap (λ (m : Middle). length m.waiting) kept) ∙ sym c.left-then-is_ok.ensures.value ∙ a.0 in (
      a.0,
      moved_as _ _ _ _ _ _
          (turned_on _ _ _ _ _ _ _ _ _ _ c.hear.new.inbox _ _ c.tell.ensures.value (none_left _ (search rules)) hears speaks within
          (moves_on c.tell.new.self.unread c.hear.new.inbox c.keep.new.self.unread c.speak-taken.result.0 (ap (λ (m : Middle). m.unread) kept)
          (heard_more _ _ _ _ hears) some a.1 (unless_waiting c.speak-taken.result.1 c.speak-taken.new.outbox.text all none))) kept,
    ))
    (rw c.unread-then-is_ok.ensures.value at c.rest_after.ensures.input) c.rest_after.ensures.output
    (rw c.unread-then-is_ok.ensures.value at c.rest_after.ensures.over) (rw c.unread-then-is_ok.ensures.value at c.rest_after.ensures.err)

-- all is written, and there is no memory for what is unread
pub returns-then-is_empty-clause-value : goal.returns-then-is_empty-clause-value
returns-then-is_empty-clause-value g c =
    let hears = rw (c.load.ensures.value, c.unread.ensures.value) at c.hear.ensures.value in
    let speaks = rw c.as_slice-bytes.ensures.value at c.speak-taken.ensures.value in
    let none = rw (c.text.ensures.value, take_rest c.speak-taken.new.outbox.text c.speak-taken.result.1) at (none_empty _ _ c.is_empty.ensures c.if-is_empty.true) in
    let ends = rw (c.as_slice-bytes.ensures.value, take_rest c.hear.new.inbox c.speak-taken.result.0) at c.end_of.ensures.value in (
      ends.0,
      turned _ _ _ _ _ _ _ _ _ _ _ c.hear.new.inbox c.tell.ensures.value (none_left _ (search rules)) hears
          (speaks_then _ _ _ _ _ _ _ c.hear.new.inbox (drop c.speak-taken.result.0 c.hear.new.inbox) ends.0
          (speaks_whole _ _ _ _ _ c.hear.new.inbox (drop c.speak-taken.result.0 c.hear.new.inbox) _ none speaks) ends.1),
      ends.2 _,
    )

pub returns-clause-value : goal.returns-clause-value
returns-clause-value g c =
    let hears = rw (c.load.ensures.value, c.unread.ensures.value) at c.hear.ensures.value in
    let speaks = rw c.as_slice-bytes.ensures.value at c.speak-taken.ensures.value in
    let some = rw (c.text.ensures.value, take_rest c.speak-taken.new.outbox.text c.speak-taken.result.1) at (some_there _ _ c.is_empty.ensures c.if-is_empty.false) in
    (middle _ _, turned _ _ _ _ _ _ _ _ _ _ _ c.hear.new.inbox c.tell.ensures.value (none_left _ (search rules)) hears speaks, some)
