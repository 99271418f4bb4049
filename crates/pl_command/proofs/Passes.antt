-- What a walk of `clap` keeps, if it takes the words: what each use that passes keeps, and that no subcommand that it stops at is `help`.
use Rattle.std.proofs.Common.{◌≡◌, ◌∙◌, ◌&&◌, ◌||◌, ◌∷◌, ℕ, Bool, true, false, not, cond, zero, suc, refl, sym, true≢false, is_some, fold, List, [], Option, Some, None, length, drop, codes}
use Rattle.std.specs.Prelude.{IfSome, ⊤, encode_utf8, slice_get}
use Rattle.std.specs.List.{find}
use Rattle.std.specs.Option.{option_map_or}
use Rattle.std.specs.Str.{bytes_eq, chars}
use Rattle.clap.specs.Lexer.{long_of, short_of}
use Rattle.clap.specs.Walk.{Held, Names, Outcome, Row, Rule, Step, Text, Waiting, Walk, after_flag, after_step, arg_by_id, arg_by_index, arg_by_long, arg_by_short, attached_value, bundle_met, bundle_step, done, flag_met, idle, is_pending, long_met, long_or_other, next, option, option_met, option_word, plain, plain_word, positional, reacted, refused, settled, settled_rows, short_met, short_or_plain, subcommand, subcommand_met, subcommand_or_other, takes_several, takes_values, to_positional, trailing, used, used_by_id, value, waits, walked, walked_from, word_met}
use Rattle.clap.specs.Simple.{Shape}
use Rattle.clap.specs.Takes.{bundle_passes, bundle_step_passes, flag_word_passes, flags_pass, long_passes, option_passes, other_passes, positional_passes, react_passes, settle_passes, short_passes, step_passes, turn_passes, use_passes, walk_passes, word_passes}
use Rattle.clap.proofs.WalkLemmas.{both}

-- each of a list
abbrev pub Each : {X : Type 0} → (X → Type 0) → List X → Type 0
Each P [] = ⊤
Each P (x ∷ xs) = P x × Each P xs

-- and so what is found in it
found_by : {X : Type 0} (P : X → Type 0) (b : Bool) (x : X) (o : Option X) → P x → IfSome o P → IfSome (cond b (Some x) o) P
found_by P true x o here there = here
found_by P false x o here there = there

pub found_each : {X : Type 0} (P : X → Type 0) (test : X → Bool) (xs : List X) → Each P xs → IfSome (find test xs) P
found_each P test [] each = tt
found_each P test (x ∷ xs) each = found_by P (test x) x (find test xs) each.0 (found_each P test xs each.1)

module _ (s : Shape) (Q : List Row → Type 0) where
  abbrev c : List Rule
  c = s.rules

  abbrev again : Bool
  again = s.args_override_self

  -- each use that passes keeps it
  abbrev pub Keeps : Rule → Type 0
  Keeps a = (values : List Text) (rows : List Row) → use_passes again a values rows ≡ true → Q rows → Q (used a values rows)

  module _ (each : Each Keeps c) where
    by_id : (o : Option Rule) → IfSome o Keeps → (values : List Text) (rows : List Row) → option_map_or (λ a. use_passes again a values rows) o true ≡ true
        → Q rows → Q (used_by_id o values rows)
    by_id None k values rows e q = q
    by_id (Some a) k values rows e q = k values rows e q

    settle_keeps : (p : Option (Text × List Text)) (rows : List Row)
        → option_map_or (λ (p : Text × List Text). option_map_or (λ a. use_passes again a p.1 rows) (arg_by_id c p.0) true) p true ≡ true
        → Q rows → Q (settled_rows c p rows)
    settle_keeps None rows e q = q
    settle_keeps (Some p) rows e q = by_id (arg_by_id c p.0) (found_each Keeps _ c each) p.1 rows e q

    pub settled_keeps : (h : Held) → settle_passes c again h ≡ true → Q h.rows → Q (settled c h).rows
    settled_keeps h e q = settle_keeps h.pending h.rows e q

    reacted_keeps : (a : Rule) → Keeps a → (values : List Text) (h : Held) → react_passes c again a values h ≡ true → Q h.rows → Q (reacted c a values h).rows
    reacted_keeps a k values h e q =
        let p = both (settle_passes c again h) (use_passes again a values (settled c h).rows) e in
        k values (settled c h).rows p.1 (settled_keeps h p.0 q)

    option_keeps : (a : Rule) → Keeps a → (v : Option Text) (h : Held) → option_passes c again a v h ≡ true → Q h.rows → Q (option_met c a v h).0.rows
    option_keeps a k (Some v) h e q = reacted_keeps a k (v ∷ []) h e q
    option_keeps a k None h e q = settled_keeps h e q

    long_by : (b : Bool) (a : Rule) → Keeps a → (v : Option Text) (h : Held)
        → cond b (option_passes c again a v h) (not (is_some v) && react_passes c again a [] h) ≡ true
        → Q h.rows → Q (cond b (option_met c a v h) (flag_met c a v h)).0.rows
    long_by true a k v h e q = option_keeps a k v h e q
    long_by false a k (Some v) h e q = q
    long_by false a k None h e q = reacted_keeps a k [] h e q

    long_keeps : (o : Option Rule) → IfSome o Keeps → (v : Option Text) (h : Held) → long_passes c again o v h ≡ true → Q h.rows → Q (long_met c o v h).0.rows
    long_keeps None k v h e q = q
    long_keeps (Some a) k v h e q = long_by (takes_values a) a k v h e q

    short_by : (b : Bool) (a : Rule) → Keeps a → (rest : Text) (h : Held) (ok : Held → Bool) (go : Held → Held × Outcome)
        → ((g : Held) → ok g ≡ true → Q g.rows → Q (go g).0.rows)
        → cond b (option_passes c again a (attached_value rest) h) (react_passes c again a [] h && ok (reacted c a [] h)) ≡ true
        → Q h.rows → Q (cond b (option_met c a (attached_value rest) h) (go (reacted c a [] h))).0.rows
    short_by true a k rest h ok go after e q = option_keeps a k (attached_value rest) h e q
    short_by false a k rest h ok go after e q =
        let p = both (react_passes c again a [] h) (ok (reacted c a [] h)) e in
        after (reacted c a [] h) p.1 (reacted_keeps a k [] h p.0 q)

    short_keeps : (o : Option Rule) → IfSome o Keeps → (rest : Text) (h : Held) (ok : Held → Bool) (go : Held → Held × Outcome)
        → ((g : Held) → ok g ≡ true → Q g.rows → Q (go g).0.rows)
        → short_passes c again o rest h ok ≡ true → Q h.rows → Q (short_met c o rest h go).0.rows
    short_keeps None k rest h ok go after e q = q
    short_keeps (Some a) k rest h ok go after e q = short_by (takes_values a) a k rest h ok go after e q

    bundle_keeps : (o : Option ℕ) (flags : Text) (skip : ℕ) (so_far : Outcome) (h : Held) (ok : Text → ℕ → Held → Bool) (go : Text → ℕ → Outcome → Held → Held × Outcome)
        → ((t : Text) (n : ℕ) (x : Outcome) (g : Held) → ok t n g ≡ true → Q g.rows → Q (go t n x g).0.rows)
        → bundle_step_passes c again o flags skip h ok ≡ true → Q h.rows → Q (bundle_step c o flags skip so_far h go).0.rows
    bundle_keeps None flags skip so_far h ok go after e q = q
    bundle_keeps (Some x) flags zero so_far h ok go after e q =
        let rest = drop (length (encode_utf8 x)) flags in
        short_keeps (arg_by_short c x) (found_each Keeps _ c each) rest h (ok rest 0) (go rest 0 done) (λ g. after rest 0 done g) e q
    bundle_keeps (Some x) flags (suc skip) so_far h ok go after e q = after _ skip so_far h e q

    flags_keep : (k : ℕ) (flags : Text) (skip : ℕ) (so_far : Outcome) (h : Held) → flags_pass c again k flags skip h ≡ true
        → Q h.rows → Q (bundle_met c k flags skip so_far h).0.rows
    unfolding flags_pass bundle_met
    flags_keep zero flags skip so_far h e q = q
    flags_keep (suc k) flags skip so_far h e q =
        bundle_keeps (slice_get (chars flags) 0) flags skip so_far h (flags_pass c again k) (bundle_met c k) (λ t n x g. flags_keep k t n x g) e q

    option_word_keeps : (o : Option Rule) (id word : Text) (h : Held) → Q h.rows → Q (option_word o id word h).0.rows
    option_word_keeps None id word h q = q
    option_word_keeps (Some a) id word h q = q

    plain_keeps : (waiting : Waiting) (word : Text) (h : Held) → Q h.rows → Q (plain_word c waiting word h).0.rows
    plain_keeps idle word h q = q
    plain_keeps (option id) word h q = option_word_keeps (arg_by_id c id) id word h q
    plain_keeps positional word h q = q

    after_flag_keeps : (waiting : Waiting) (word : Text) (h : Held) (x : Outcome) → Q h.rows → Q (after_flag c waiting word h x).0.rows
    after_flag_keeps waiting word h done q = q
    after_flag_keeps waiting word h (waits id) q = q
    after_flag_keeps waiting word h plain q = plain_keeps waiting word h q
    after_flag_keeps waiting word h refused q = plain_keeps waiting word h q

    short_word_keeps : (waiting : Waiting) (word : Text) (o : Option Text) (h : Held) → option_map_or (λ flags. bundle_passes c again flags h) o true ≡ true
        → Q h.rows → Q (short_or_plain c waiting word o h).0.rows
    short_word_keeps waiting word None h e q = plain_keeps waiting word h q
    short_word_keeps waiting word (Some flags) h e q =
        after_flag_keeps waiting word _ _ (flags_keep (length flags) flags h.skip plain (record h { skip = 0 }) e q)

    flag_keeps : (waiting : Waiting) (word : Text) (o : Option (Text × Option Text)) (h : Held) → flag_word_passes c again o word h ≡ true
        → Q h.rows → Q (long_or_other c waiting word o h).0.rows
    flag_keeps waiting word (Some p) h e q =
        after_flag_keeps waiting word _ _ (long_keeps (arg_by_long c p.0) (found_each Keeps _ c each) p.1 h e q)
    flag_keeps waiting word None h e q = short_word_keeps waiting word (short_of word) h e q

    dash_keeps : (b : Bool) (waiting : Waiting) (position : ℕ) (word : Text) (h : Held) → (b || flag_word_passes c again (long_of word) word h) ≡ true
        → Q h.rows → Q (cond b (h, trailing position) (long_or_other c waiting word (long_of word) h)).0.rows
    dash_keeps true waiting position word h e q = q
    dash_keeps false waiting position word h e q = flag_keeps waiting word (long_of word) h e q

    other_keeps : (o : Option Text) (waiting : Waiting) (position : ℕ) (word : Text) (h : Held) → other_passes s o word h ≡ true
        → Q h.rows → Q (subcommand_or_other c o waiting position word h).0.rows
    other_keeps (Some name) waiting position word h e q = q
    other_keeps None waiting position word h e q = dash_keeps (bytes_eq word (45 ∷ 45 ∷ [])) waiting position word h e q

    word_keeps : (names : Names) (b : Bool) (waiting : Waiting) (position : ℕ) (word : Text) (h : Held) → word_passes s names b waiting word h ≡ true
        → Q h.rows → Q (word_met c names b waiting position word h).0.rows
    word_keeps names true waiting position word h e q = q
    word_keeps names false waiting position word h e q = other_keeps (subcommand_met names waiting word) waiting position word h e q

    pushed_by : (b : Bool) (h : Held) → (b || settle_passes c again h) ≡ true → Q h.rows → Q (cond b h (settled c h)).rows
    pushed_by true h e q = q
    pushed_by false h e q = settled_keeps h e q

    to_positional_keeps : (o : Option Rule) (word : Text) (w : Walk) (h : Held) → option_map_or (λ a. positional_passes c again a h) o false ≡ true
        → Q h.rows → Q (to_positional c o word w h).held.rows
    to_positional_keeps None word w h e q = q
    to_positional_keeps (Some a) word w h e q = pushed_by (is_pending a h.pending && takes_several a) h e q

    step_keeps : (word : Text) (w : Walk) (h : Held) (x : Step) → step_passes s w.position h x ≡ true → Q h.rows → Q (after_step c word w h x).held.rows
    step_keeps word w h (next waiting) e q = q
    step_keeps word w h (trailing position) e q = q
    step_keeps word w h (subcommand name) e q = q
    step_keeps word w h value e q = to_positional_keeps (arg_by_index c w.position) word w h e q

    turn_keeps : (names : Names) (o : Option (Text × List Text)) (w : Walk) (word : Text)
        → (is_some o || (word_passes s names w.is_trailing w.waiting word w.held
        && step_passes s w.position (word_met c names w.is_trailing w.waiting w.position word w.held).0 (word_met c names w.is_trailing w.waiting w.position word w.held).1)) ≡ true
        → Q w.held.rows → Q (walked_from c names o w word).held.rows
    turn_keeps names (Some p) w word e q = q
    turn_keeps names None w word e q =
        let p = both (word_passes s names w.is_trailing w.waiting word w.held) _ e in
        step_keeps word w _ _ p.1 (word_keeps names w.is_trailing w.waiting w.position word w.held p.0 q)

    -- what the rows have at the start of a walk that passes, they have at its end
    pub walk_keeps : (names : Names) (w : Walk) (words : List Text) → walk_passes s names w words ≡ true
        → Q w.held.rows → Q (fold (walked c names) w words).held.rows
    unfolding walk_passes walked
    walk_keeps names w [] e q = q
    walk_keeps names w (word ∷ rest) e q =
        let p = both (turn_passes s names w word) _ e in
        walk_keeps names (walked c names w word) rest p.1 (turn_keeps names w.stopped w word p.0 q)

-- ---- `help` is not a subcommand that a walk stops at

abbrev pub NoHelp : Text → Type 0
NoHelp name = bytes_eq name (codes "help") ≡ false

abbrev NoHelpStep : Step → Type 0
NoHelpStep (subcommand name) = NoHelp name
NoHelpStep _ = ⊤

abbrev pub NoHelpStop : Option (Text × List Text) → Type 0
NoHelpStop o = IfSome o (λ p. NoHelp p.0)

module _ (s : Shape) (has : s.disable_help_subcommand ≡ false) where
  abbrev rules : List Rule
  rules = s.rules

  plain_step : (waiting : Waiting) (word : Text) (h : Held) → NoHelpStep (plain_word rules waiting word h).1
  plain_step idle word h = tt
  plain_step (option id) word h = tt
  plain_step positional word h = tt

  after_flag_step : (waiting : Waiting) (word : Text) (h : Held) (x : Outcome) → NoHelpStep (after_flag rules waiting word h x).1
  after_flag_step waiting word h done = tt
  after_flag_step waiting word h (waits id) = tt
  after_flag_step waiting word h plain = plain_step waiting word h
  after_flag_step waiting word h refused = plain_step waiting word h

  short_step : (waiting : Waiting) (word : Text) (o : Option Text) (h : Held) → NoHelpStep (short_or_plain rules waiting word o h).1
  short_step waiting word None h = plain_step waiting word h
  short_step waiting word (Some flags) h = after_flag_step waiting word _ _

  flag_step : (waiting : Waiting) (word : Text) (o : Option (Text × Option Text)) (h : Held) → NoHelpStep (long_or_other rules waiting word o h).1
  flag_step waiting word (Some p) h = after_flag_step waiting word _ _
  flag_step waiting word None h = short_step waiting word (short_of word) h

  dash_step : (b : Bool) (waiting : Waiting) (position : ℕ) (word : Text) (h : Held)
      → NoHelpStep (cond b (h, trailing position) (long_or_other rules waiting word (long_of word) h)).1
  dash_step true waiting position word h = tt
  dash_step false waiting position word h = flag_step waiting word (long_of word) h

  name_by : (b d : Bool) → d ≡ false → (not b || d) ≡ true → b ≡ false
  name_by true d off e = absurd (true≢false (sym e ∙ off))
  name_by false d off e = refl

  other_step : (o : Option Text) (waiting : Waiting) (position : ℕ) (word : Text) (h : Held) → other_passes s o word h ≡ true
      → NoHelpStep (subcommand_or_other rules o waiting position word h).1
  other_step (Some name) waiting position word h e = name_by (bytes_eq name (codes "help")) s.disable_help_subcommand has e
  other_step None waiting position word h e = dash_step (bytes_eq word (45 ∷ 45 ∷ [])) waiting position word h

  word_step : (names : Names) (b : Bool) (waiting : Waiting) (position : ℕ) (word : Text) (h : Held) → word_passes s names b waiting word h ≡ true
      → NoHelpStep (word_met rules names b waiting position word h).1
  word_step names true waiting position word h e = tt
  word_step names false waiting position word h e = other_step (subcommand_met names waiting word) waiting position word h e

  to_positional_stop : (o : Option Rule) (word : Text) (w : Walk) (h : Held) → NoHelpStop w.stopped → NoHelpStop (to_positional rules o word w h).stopped
  to_positional_stop None word w h n = n
  to_positional_stop (Some a) word w h n = tt

  step_stop : (word : Text) (w : Walk) (h : Held) (x : Step) → NoHelpStep x → NoHelpStop w.stopped → NoHelpStop (after_step rules word w h x).stopped
  step_stop word w h (next waiting) x n = n
  step_stop word w h (trailing position) x n = n
  step_stop word w h (subcommand name) x n = x
  step_stop word w h value x n = to_positional_stop (arg_by_index rules w.position) word w h n

  turn_stop : (names : Names) (o : Option (Text × List Text)) (w : Walk) (word : Text)
      → (is_some o || (word_passes s names w.is_trailing w.waiting word w.held
      && step_passes s w.position (word_met rules names w.is_trailing w.waiting w.position word w.held).0 (word_met rules names w.is_trailing w.waiting w.position word w.held).1)) ≡ true
      → NoHelpStop o → NoHelpStop w.stopped → NoHelpStop (walked_from rules names o w word).stopped
  turn_stop names (Some p) w word e o n = o
  turn_stop names None w word e o n =
      let p = both (word_passes s names w.is_trailing w.waiting word w.held) _ e in
      step_stop word w _ _ (word_step names w.is_trailing w.waiting w.position word w.held p.0) n

  -- a walk that passes stops at no subcommand `help`
  pub walk_stop : (names : Names) (w : Walk) (words : List Text) → walk_passes s names w words ≡ true
      → NoHelpStop w.stopped → NoHelpStop (fold (walked rules names) w words).stopped
  unfolding walk_passes walked
  walk_stop names w [] e n = n
  walk_stop names w (word ∷ rest) e n =
      let p = both (turn_passes s names w word) _ e in
      walk_stop names (walked rules names w word) rest p.1 (turn_stop names w.stopped w word p.0 n n)
