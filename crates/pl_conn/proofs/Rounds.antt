-- Rounds of materialising, one after the other.
use Rattle.std.proofs.Common.{◌≡◌, ℕ, ◌+◌, ◌<◌, ◌≤◌, Bool, true, false, List, [], ◌∷◌, length, count_by, add_comm, refl, sym, ap, subst, ◌∙◌, arith}
use Rattle.std.specs.Prelude.{IsTrue, drop, unwrap_or, if◌then◌else◌}
use Rattle.std.specs.List.{AllByRecursion}
use Rattle.std.proofs.lemmas.List.Sums.{sum_by-cons}
use Rattle.pl_table.specs.Requests.Request.{Query}
use Rattle.pl_core.specs.declared.reply.Reply.{Reply}
use Rattle.pl_conn.specs.declared.page_server.Worked.{Worked}
use Rattle.pl_conn.specs.Materialising.{is_done, reported_epoch, goes_on, last_reported_epoch, Asks, Round, Works}

-- this many rounds, after each of which another may follow
pub record Going {P : Type 0} (calls : P → Query → Reply → P → Type 0) (request : ℕ → Query) (before : P) (worked : Worked) (round : ℕ) (now : P) : Type 0 where
  pub replies : List Reply
  pub asks : Asks calls request before replies now
  pub onward : AllByRecursion (λ reply. IsTrue (goes_on reply)) replies
  pub count : length replies ≡ round
  pub few : worked.done ≤ round
  pub done : worked.done ≡ count_by is_done replies
  pub epoch : worked.epoch ≡ last_reported_epoch replies

pub going_start : {P : Type 0} (calls : P → Query → Reply → P → Type 0) (request : ℕ → Query) (before : P) → Going calls request before (record { done = 0; epoch = 1 }) 0 before
going_start calls request before = record { replies = []; asks = refl; onward = tt; count = refl; few = omega arith; done = refl; epoch = refl }

at_most_one : (b : Bool) → (if b then 1 else 0) ≤ 1
at_most_one true = omega arith
at_most_one false = omega arith

asks_next : {P : Type 0} (calls : P → Query → Reply → P → Type 0) (request : ℕ → Query) (before : P) (worked new : Worked) (round : ℕ) (now after : P) (more : Bool) (g : Going calls request before worked round now) (r : Round calls request now worked new more after)
    → Asks calls request before (r.reply ∷ g.replies) after
asks_next calls request before worked new round now after more g r =
    (now, g.asks, subst (λ (e : ℕ). calls now (request e) r.reply after) g.epoch r.call)

counted : {P : Type 0} (calls : P → Query → Reply → P → Type 0) (request : ℕ → Query) (before : P) (worked new : Worked) (round : ℕ) (now after : P) (more : Bool) (g : Going calls request before worked round now) (r : Round calls request now worked new more after)
    → new.done ≡ count_by is_done (r.reply ∷ g.replies)
counted calls request before worked new round now after more g r =
    r.done ∙ ap (λ (n : ℕ). n + (if is_done r.reply then 1 else 0)) g.done ∙ add_comm (count_by is_done g.replies) (if is_done r.reply then 1 else 0)
    ∙ sym (sum_by-cons (λ (x : Reply). if is_done x then 1 else 0) r.reply g.replies)

all_rest : (replies : List Reply) → AllByRecursion (λ reply. IsTrue (goes_on reply)) replies → AllByRecursion (λ reply. IsTrue (goes_on reply)) (drop 1 replies)
all_rest [] all = tt
all_rest (reply ∷ replies) all = all.1

pub going_more : {P : Type 0} (calls : P → Query → Reply → P → Type 0) (request : ℕ → Query) (before : P) (worked new : Worked) (round : ℕ) (now after : P)
    → Going calls request before worked round now → Round calls request now worked new true after → Going calls request before new (round + 1) after
going_more calls request before worked new round now after g r =
    let one = at_most_one (is_done r.reply) in
    let few = g.few in
    let done = r.done in
    let count = g.count in
    record {
      replies = r.reply ∷ g.replies;
      asks = asks_next calls request before worked new round now after true g r;
      onward = (sym r.onward, g.onward);
      count = omega (arith, count);
      few = omega (arith, one, few, done);
      done = counted calls request before worked new round now after true g r;
      epoch = r.epoch ∙ ap (unwrap_or (reported_epoch r.reply)) g.epoch;
    }

pub works_all : {P : Type 0} (calls : P → Query → Reply → P → Type 0) (request : ℕ → Query) (before : P) (worked : Worked) (rounds : ℕ) (now : P)
    → Going calls request before worked rounds now → Works calls request rounds before worked now
works_all calls request before worked rounds now g = record {
  replies = g.replies;
  asks = g.asks;
  most = let count = g.count in omega (arith, count);
  onward = all_rest g.replies g.onward;
  ended = λ _. g.count;
  done = g.done;
  epoch = g.epoch;
}

pub works_ended : {P : Type 0} (calls : P → Query → Reply → P → Type 0) (request : ℕ → Query) (before : P) (worked new : Worked) (round rounds : ℕ) (now after : P)
    → round < rounds → Going calls request before worked round now → Round calls request now worked new false after → Works calls request rounds before new after
works_ended calls request before worked new round rounds now after less g r = record {
  replies = r.reply ∷ g.replies;
  asks = asks_next calls request before worked new round now after false g r;
  most = let count = g.count in omega (arith, count, less);
  onward = g.onward;
  ended = λ all. let ends = r.onward in let goes = all.0 in cc;
  done = counted calls request before worked new round now after false g r;
  epoch = r.epoch ∙ ap (unwrap_or (reported_epoch r.reply)) g.epoch;
}
