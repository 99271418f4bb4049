-- Words that `clap` takes name a subcommand of the program with all its options.
use Rattle.std.proofs.Common.{◌≡◌, ◌∙◌, ◌||◌, ◌∷◌, ℕ, Bool, true, false, cond, zero, suc, refl, sym, true≢false, is_some, take, drop, inl, inr, List, [], Option, Some, None, codes}
use Rattle.std.specs.Prelude.{pos, option_map}
use Rattle.std.specs.List.{list_all, list_any}
use Rattle.std.specs.Option.{option_map_or}
use Rattle.std.specs.Str.{bytes_eq}
use Rattle.std.proofs.lemmas.Slice.Eq.{bytes_eq-Decides}
use Rattle.clap.specs.Facts.{explicit_source}
use Rattle.clap.specs.Walk.{Rule, Text, answers_to, finished, has_row, nothing_held, rows_after, settled, walk, walk_from}
use Rattle.clap.specs.Simple.{App, Shape, argument_words, built, entered, is_simple, label_of, names_of, rows_at, subcommand_of}
use Rattle.clap.specs.Takes.{built_takes, default_passes, entered_passes, is_given, is_valid, level_passes, settle_passes, takes, walk_passes}
use Rattle.clap.specs.declared.builder.value_parser.ValueParser.TheVariants.{Signed}
use Rattle.clap.proofs.OnLiterals.{clap_on_literals}
use Rattle.clap.proofs.ValueTestLemmas.{accepts-Accepts}
use Rattle.clap.proofs.WalkLemmas.{both}
use Rattle.pl_command.specs.CommandLine.{GivesAsk, GivesPlay, GivesServe, IsWholeCommand, most_u32, own_app, play_app}
use Rattle.pl_command.proofs.Passes.{Each, NoHelpStop, settled_keeps, walk_keeps, walk_stop}
use Rattle.pl_command.proofs.Rows.{AllGood, Defaulted, Limits, Use, defaults_good, gives_number, gives_text, gives_words, given_row, help_use, kept_row, limits_in, no_default, number_use, text_use, there, keeps_default, may_give_number, words_use}

-- ---- the program, as `clap` builds it

abbrev whole : App
whole = built own_app

abbrev shape_at : List Shape → ℕ → Shape
shape_at [] n = play_app.top
shape_at (s ∷ rest) zero = s
shape_at (s ∷ rest) (suc n) = shape_at rest n

abbrev play : Shape
play = shape_at whole.subs 0

abbrev serve : Shape
serve = shape_at whole.subs 1

abbrev ask : Shape
ask = shape_at whole.subs 2

abbrev help : Shape
help = shape_at whole.subs 3

abbrev rule_at : List Rule → ℕ → Rule
rule_at [] n = Rattle.clap.specs.Simple.help_rule
rule_at (a ∷ rest) zero = a
rule_at (a ∷ rest) (suc n) = rule_at rest n

-- ---- the numbers of each subcommand

abbrev play_limits : Limits
play_limits = limits_in ((codes "primary", (0, most_u32)) ∷ [])

abbrev serve_limits : Limits
serve_limits = limits_in
    ((codes "primary", (0, most_u32)) ∷ (codes "dbs", (1, 16)) ∷ (codes "workers", (1, 64)) ∷ (codes "connections", (1, most_u32))
    ∷ (codes "audit", (1, 16777216)) ∷ (codes "pager", (0, most_u32)) ∷ (codes "partition", (0, 65535)) ∷ (codes "rounds", (0, most_u32))
    ∷ (codes "idle-polls", (0, 10000)) ∷ [])

abbrev ask_limits : Limits
ask_limits = limits_in ((codes "id", (0, most_u32)) ∷ (codes "db", (0, most_u32)) ∷ (codes "epoch", (0, most_u32)) ∷ [])

play_uses : Each (Use play_limits play) play.rules
play_uses = (
  text_use play_limits play 1 (codes "table") refl,
  (
    number_use play_limits play 1 (codes "primary") 0 most_u32 true [] refl,
    (
      help_use play_limits play 1,
      tt,
    ),
  ),
)

serve_uses : Each (Use serve_limits serve) serve.rules
serve_uses = (
  text_use serve_limits serve 1 (codes "listen") refl,
  (
    text_use serve_limits serve 1 (codes "table") refl,
    (
      number_use serve_limits serve 1 (codes "primary") 0 most_u32 true [] refl,
      (
        number_use serve_limits serve 1 (codes "dbs") 1 16 true [] refl,
        (
          number_use serve_limits serve 1 (codes "workers") 1 64 true [] refl,
          (
            number_use serve_limits serve 1 (codes "connections") 1 most_u32 true [] refl,
            (
              number_use serve_limits serve 1 (codes "audit") 1 16777216 true [] refl,
              (
                number_use serve_limits serve 1 (codes "pager") 0 most_u32 false (codes "0" ∷ []) refl,
                (
                  number_use serve_limits serve 1 (codes "partition") 0 65535 false (codes "0" ∷ []) refl,
                  (
                    number_use serve_limits serve 1 (codes "rounds") 0 most_u32 false (codes "0" ∷ []) refl,
                    (
                      number_use serve_limits serve 1 (codes "idle-polls") 0 10000 false [] refl,
                      (
                        help_use serve_limits serve 1,
                        tt,
                      ),
                    ),
                  ),
                ),
              ),
            ),
          ),
        ),
      ),
    ),
  ),
)

ask_uses : Each (Use ask_limits ask) ask.rules
ask_uses = (
  text_use ask_limits ask 1 (codes "to") refl,
  (
    number_use ask_limits ask 1 (codes "id") 0 most_u32 true [] refl,
    (
      text_use ask_limits ask 1 (codes "token") refl,
      (
        number_use ask_limits ask 1 (codes "db") 0 most_u32 true [] refl,
        (
          number_use ask_limits ask 1 (codes "epoch") 0 most_u32 true [] refl,
          (
            words_use ask_limits ask refl,
            (
              help_use ask_limits ask 2,
              tt,
            ),
          ),
        ),
      ),
    ),
  ),
)

play_defaults : Each (Defaulted play_limits) play.rules
play_defaults = (no_default play_limits (rule_at play.rules 0) refl, (no_default play_limits (rule_at play.rules 1) refl, (no_default play_limits (rule_at play.rules 2) refl, tt)))

serve_defaults : Each (Defaulted serve_limits) serve.rules
serve_defaults = (
  no_default serve_limits (rule_at serve.rules 0) refl,
  (
    no_default serve_limits (rule_at serve.rules 1) refl,
    (
      no_default serve_limits (rule_at serve.rules 2) refl,
      (
        no_default serve_limits (rule_at serve.rules 3) refl,
        (
          no_default serve_limits (rule_at serve.rules 4) refl,
          (
            no_default serve_limits (rule_at serve.rules 5) refl,
            (
              no_default serve_limits (rule_at serve.rules 6) refl,
              (
                keeps_default serve_limits (rule_at serve.rules 7) (codes "0") refl (refl, accepts-Accepts false (Signed (pos 0) (pos most_u32)) (codes "0") refl),
                (
                  keeps_default serve_limits (rule_at serve.rules 8) (codes "0") refl (refl, accepts-Accepts false (Signed (pos 0) (pos 65535)) (codes "0") refl),
                  (
                    keeps_default serve_limits (rule_at serve.rules 9) (codes "0") refl (refl, accepts-Accepts false (Signed (pos 0) (pos most_u32)) (codes "0") refl),
                    (
                      no_default serve_limits (rule_at serve.rules 10) refl,
                      (
                        no_default serve_limits (rule_at serve.rules 11) refl,
                        tt,
                      ),
                    ),
                  ),
                ),
              ),
            ),
          ),
        ),
      ),
    ),
  ),
)

ask_defaults : Each (Defaulted ask_limits) ask.rules
ask_defaults = (
  no_default ask_limits (rule_at ask.rules 0) refl,
  (
    no_default ask_limits (rule_at ask.rules 1) refl,
    (
      no_default ask_limits (rule_at ask.rules 2) refl,
      (
        no_default ask_limits (rule_at ask.rules 3) refl,
        (
          no_default ask_limits (rule_at ask.rules 4) refl,
          (
            no_default ask_limits (rule_at ask.rules 5) refl,
            (
              no_default ask_limits (rule_at ask.rules 6) refl,
              tt,
            ),
          ),
        ),
      ),
    ),
  ),
)

-- ---- the rows at the end of a subcommand that passes

good_rows : (limits : Limits) (s : Shape) → Each (Use limits s) s.rules → Each (Defaulted limits) s.rules → (rest : List Text)
    → level_passes s [] nothing_held rest false ≡ true
    → AllGood limits (rows_after s.rules [] rest) × (is_valid s (rows_after s.rules [] rest) false ≡ true)
good_rows limits s uses defaults rest e =
    let start = walk_from nothing_held in
    let end = (walk s.rules [] nothing_held rest).held in
    let p = both (walk_passes s [] start rest) _ e in
    let q = both (settle_passes s.rules s.args_override_self end) _ p.1 in
    let kept = walk_keeps s (AllGood limits) uses [] start rest p.0 tt in
    let left = settled_keeps s (AllGood limits) uses end q.0 kept in
    (defaults_good limits s.rules _ defaults left, (both (list_all default_passes s.rules) _ q.1).1)

play_passes : (rest : List Text) → level_passes play [] nothing_held rest false ≡ true → GivesPlay (rows_after play.rules [] rest)
play_passes rest e =
    let rows = rows_after play.rules [] rest in
    let both_of = good_rows play_limits play play_uses play_defaults rest e in
    let good = both_of.0 in
    let table = both (is_given (codes "table") rows) _ both_of.1 in
    let primary = both (is_given (codes "primary") rows) _ table.1 in
    record {
      table = gives_text play_limits (codes "table") rows (given_row play_limits (codes "table") rows good table.0);
      primary = gives_number play_limits (codes "primary") 0 most_u32 rows refl (given_row play_limits (codes "primary") rows good primary.0);
    }

serve_passes : (rest : List Text) → level_passes serve [] nothing_held rest false ≡ true → GivesServe (rows_after serve.rules [] rest)
serve_passes rest e =
    let rows = rows_after serve.rules [] rest in
    let left = (settled serve.rules (walk serve.rules [] nothing_held rest).held).rows in
    let both_of = good_rows serve_limits serve serve_uses serve_defaults rest e in
    let good = both_of.0 in
    let listen = both (is_given (codes "listen") rows) _ both_of.1 in
    let table = both (is_given (codes "table") rows) _ listen.1 in
    let primary = both (is_given (codes "primary") rows) _ table.1 in
    let dbs = both (is_given (codes "dbs") rows) _ primary.1 in
    let workers = both (is_given (codes "workers") rows) _ dbs.1 in
    let connections = both (is_given (codes "connections") rows) _ workers.1 in
    let audit = both (is_given (codes "audit") rows) _ connections.1 in
    let pager : has_row (codes "pager") rows ≡ true = there (codes "pager") (take 7 serve.rules) (drop 8 serve.rules) (rule_at serve.rules 7) (codes "0") left refl refl refl in
    let partition : has_row (codes "partition") rows ≡ true =
    there (codes "partition") (take 8 serve.rules) (drop 9 serve.rules) (rule_at serve.rules 8) (codes "0") left refl refl refl in
    let rounds : has_row (codes "rounds") rows ≡ true = there (codes "rounds") (take 9 serve.rules) (drop 10 serve.rules) (rule_at serve.rules 9) (codes "0") left refl refl refl in
    record {
      listen = gives_text serve_limits (codes "listen") rows (given_row serve_limits (codes "listen") rows good listen.0);
      table = gives_text serve_limits (codes "table") rows (given_row serve_limits (codes "table") rows good table.0);
      primary = gives_number serve_limits (codes "primary") 0 most_u32 rows refl (given_row serve_limits (codes "primary") rows good primary.0);
      dbs = gives_number serve_limits (codes "dbs") 1 16 rows refl (given_row serve_limits (codes "dbs") rows good dbs.0);
      workers = gives_number serve_limits (codes "workers") 1 64 rows refl (given_row serve_limits (codes "workers") rows good workers.0);
      connections = gives_number serve_limits (codes "connections") 1 most_u32 rows refl (given_row serve_limits (codes "connections") rows good connections.0);
      audit = gives_number serve_limits (codes "audit") 1 16777216 rows refl (given_row serve_limits (codes "audit") rows good audit.0);
      pager = gives_number serve_limits (codes "pager") 0 most_u32 rows refl (kept_row serve_limits (codes "pager") rows good pager);
      partition = gives_number serve_limits (codes "partition") 0 65535 rows refl (kept_row serve_limits (codes "partition") rows good partition);
      rounds = gives_number serve_limits (codes "rounds") 0 most_u32 rows refl (kept_row serve_limits (codes "rounds") rows good rounds);
      idle_polls = may_give_number serve_limits (codes "idle-polls") 0 10000 rows refl good;
    }

ask_passes : (rest : List Text) → level_passes ask [] nothing_held rest false ≡ true → GivesAsk (rows_after ask.rules [] rest)
ask_passes rest e =
    let rows = rows_after ask.rules [] rest in
    let both_of = good_rows ask_limits ask ask_uses ask_defaults rest e in
    let good = both_of.0 in
    let to = both (is_given (codes "to") rows) _ both_of.1 in
    let id = both (is_given (codes "id") rows) _ to.1 in
    let token = both (is_given (codes "token") rows) _ id.1 in
    let db = both (is_given (codes "db") rows) _ token.1 in
    let epoch = both (is_given (codes "epoch") rows) _ db.1 in
    let words = both (is_given (codes "words") rows) _ epoch.1 in
    record {
      to = gives_text ask_limits (codes "to") rows (given_row ask_limits (codes "to") rows good to.0);
      id = gives_number ask_limits (codes "id") 0 most_u32 rows refl (given_row ask_limits (codes "id") rows good id.0);
      token = gives_text ask_limits (codes "token") rows (given_row ask_limits (codes "token") rows good token.0);
      db = gives_number ask_limits (codes "db") 0 most_u32 rows refl (given_row ask_limits (codes "db") rows good db.0);
      epoch = gives_number ask_limits (codes "epoch") 0 most_u32 rows refl (given_row ask_limits (codes "epoch") rows good epoch.0);
      words = gives_words ask_limits rows (given_row ask_limits (codes "words") rows good words.0);
    }

-- ---- the subcommand

-- the one that is found of the four
abbrev pick : Bool → Bool → Bool → Bool → Option Shape
pick p s a h = cond p (Some play) (cond s (Some serve) (cond a (Some ask) (cond h (Some help) None)))

entered_by : (p s a h : Bool) (rest : List Text) → (h ≡ true → ⊥)
    → option_map_or (λ x. level_passes x [] nothing_held rest false) (pick p s a h) true ≡ true
    → is_some (option_map (λ x. rows_at x rest) (pick p s a h)) ≡ true
    → IsWholeCommand (option_map (λ x. rows_at x rest) (pick p s a h))
entered_by true s a h rest off e has = (rows_after play.rules [] rest, inl (refl, play_passes rest e))
entered_by false true a h rest off e has = (rows_after serve.rules [] rest, inr (inl (refl, serve_passes rest e)))
entered_by false false true h rest off e has = (rows_after ask.rules [] rest, inr (inr (refl, ask_passes rest e)))
entered_by false false false true rest off e has = absurd (off refl)
entered_by false false false false rest off e has = absurd (true≢false (sym has))

no_help : (name : Text) → bytes_eq name (codes "help") ≡ false → (bytes_eq (codes "help") name || false) ≡ true → ⊥
no_help name off is = true≢false (sym ((bytes_eq-Decides name (codes "help")).1 (sym ((bytes_eq-Decides (codes "help") name).0 (plain _ is)))) ∙ off)
  where
    plain : (b : Bool) → (b || false) ≡ true → b ≡ true
    plain true e = refl
    plain false e = e

entered_is : (stop : Option (Text × List Text)) → NoHelpStop stop → entered_passes whole stop ≡ true → is_some (entered whole stop) ≡ true
    → IsWholeCommand (entered whole stop)
entered_is None off e has = absurd (true≢false (sym has))
entered_is (Some p) off e has =
    entered_by (answers_to p.0 (label_of play)) (answers_to p.0 (label_of serve)) (answers_to p.0 (label_of ask)) (bytes_eq (codes "help") p.0 || false) p.1
    (no_help p.0 off) e has

-- words that `clap` takes name a subcommand with all its options
pub takes_given : (words : List Text) → takes own_app words ≡ true → IsWholeCommand (subcommand_of own_app words)
takes_given words e =
    let rest = argument_words own_app words in
    let names = names_of whole in
    let start = walk_from nothing_held in
    let end = walk whole.top.rules names nothing_held rest in
    let has = is_some (entered whole end.stopped) in
    let a = both (is_simple own_app) (built_takes whole nothing_held rest) e in
    let b = both (entered_passes whole end.stopped) (level_passes whole.top names nothing_held rest has) a.1 in
    let p = both (walk_passes whole.top names start rest) _ b.1 in
    let q = both (settle_passes whole.top.rules whole.top.args_override_self end.held) _ p.1 in
    let r = both (list_all default_passes whole.top.rules) (is_valid whole.top (finished whole.top.rules end.held) has) q.1 in
    let asked = both (has || list_any (λ row. explicit_source row.source) (finished whole.top.rules end.held)) _ r.1 in
    let entered_one : has ≡ true = (both has _ asked.1).0 in
    entered_is end.stopped (walk_stop whole.top refl names start rest p.0 tt) b.0 entered_one

-- and there are such words of each
play_taken : takes own_app (codes "p" ∷ codes "play" ∷ codes "--table" ∷ codes "a" ∷ codes "--primary=2" ∷ []) ≡ true
unfolding clap_on_literals
play_taken = refl

ask_taken : takes own_app (codes "p" ∷ codes "ask" ∷ codes "--to" ∷ codes "a" ∷ codes "--id=1" ∷ codes "--token=00" ∷ codes "--db" ∷ codes "0" ∷ codes "--epoch" ∷ codes "1"
    ∷ codes "failover" ∷ codes "5" ∷ []) ≡ true
unfolding clap_on_literals
ask_taken = refl

serve_taken : takes own_app (codes "p" ∷ codes "serve" ∷ codes "--listen" ∷ codes "a" ∷ codes "--table=t" ∷ codes "--primary=2" ∷ codes "--dbs=16" ∷ codes "--workers=64"
    ∷ codes "--connections=1" ∷ codes "--audit=16777216" ∷ codes "--rounds=3" ∷ codes "--idle-polls=10000" ∷ []) ≡ true
unfolding clap_on_literals
serve_taken = refl
