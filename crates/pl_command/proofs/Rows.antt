-- What the options of a subcommand leave if `clap` takes the words: each was found, and each number lies in its range.
use Rattle.std.proofs.Common.{◌≡◌, ◌∙◌, ◌&&◌, ◌||◌, ◌∷◌, ◌++◌, ℕ, Bool, true, false, not, cond, refl, sym, ap, subst, true≢false, inl, inr, fold, List, [], Option, Some, None, codes}
use Rattle.std.specs.Prelude.{IfSome, pos, unwrap_or, slice_get, option_and_then, option_map}
use Rattle.std.specs.List.{find}
use Rattle.std.specs.Option.{option_map_or}
use Rattle.std.specs.Str.{bytes_eq}
use Rattle.std.proofs.lemmas.Slice.Eq.{bytes_eq-Decides}
use Rattle.clap.specs.Values.{IsSignedIn, read_as}
use Rattle.clap.specs.Facts.{explicit_source}
use Rattle.clap.specs.Walk.{Row, Rule, Text, at_row, default_rows, first_of, has_row, more_values, reading_by, row_text, with_default, with_values, without}
use Rattle.clap.specs.Simple.{Shape, filled, help_rule, with_index}
use Rattle.clap.specs.Takes.{is_given, use_passes, value_passes}
use Rattle.clap.specs.declared.builder.action.ArgAction.TheVariants.{Set}
use Rattle.clap.specs.declared.builder.value_parser.ValueParser.TheVariants.{Signed}
use Rattle.clap.specs.declared.builder.value_parser.Reading.{Reading}
use Rattle.clap.specs.declared.builder.value_parser.Reading.TheVariants.{AsWritten, WithoutMinus}
use Rattle.clap.specs.declared.parser.matches.ValueSource.{ValueSource}
use Rattle.clap.specs.declared.parser.matches.ValueSource.TheVariants.{CommandLine, DefaultValue}
use Rattle.clap.proofs.TakesLemmas.{passes_as}
use Rattle.clap.proofs.ValueTestLemmas.{accepts-Accepts}
use Rattle.clap.proofs.WalkLemmas.{both}
use Rattle.pl_command.specs.CommandLine.{GivesNumber, GivesText, GivesWords, MayGiveNumber, number_option, text_option, words_rule}
use Rattle.pl_command.proofs.Passes.{Each, Keeps}

-- the least and the most number of an option, by its name, if it has a number
abbrev pub Limits : Type 0
Limits = Text → Option (ℕ × ℕ)

abbrev pub limits_in : List (Text × (ℕ × ℕ)) → Limits
limits_in list name = option_map (λ p. p.1) (find (λ p. bytes_eq p.0 name) list)

-- the first value of a number lies in its range
abbrev pub Reads : Option (ℕ × ℕ) → Reading → Text → Type 0
Reads limit how v = IfSome limit (λ p. (how ≡ WithoutMinus) × IsSignedIn (pos p.0) (pos p.1) v)

module _ (limits : Limits) where
  -- the row has a value, and if the option has a number, that lies in its range
  abbrev pub Good : Row → Type 0
  Good r = (v : Text) × (vs : List Text) × (r.values ≡ v ∷ vs) × Reads (limits r.id) r.reading v

  abbrev pub AllGood : List Row → Type 0
  AllGood rows = Each Good rows

  each_append : (xs ys : List Row) → AllGood xs → AllGood ys → AllGood (xs ++ ys)
  each_append [] ys g h = h
  each_append (x ∷ xs) ys g h = (g.0, each_append xs ys g.1 h)

  at_row_by : (b : Bool) (changed : List Row) (r : Row) (rs more : List Row) → AllGood changed → Good r → AllGood rs → AllGood more
      → AllGood (cond b (changed ++ rs) (r ∷ more))
  at_row_by true changed r rs more new old rest later = each_append changed rs new rest
  at_row_by false changed r rs more new old rest later = (old, later)

  at_row_good : (id : Text) (change : Row → List Row) (missing rows : List Row) → ((r : Row) → Good r → AllGood (change r)) → AllGood missing → AllGood rows
      → AllGood (at_row id change missing rows)
  at_row_good id change missing [] new none g = none
  at_row_good id change missing (r ∷ rs) new none g =
      at_row_by (bytes_eq r.id id) (change r) r rs (at_row id change missing rs) (new r g.0) g.0 g.1 (at_row_good id change missing rs new none g.1)

  without_good : (id : Text) (rows : List Row) → AllGood rows → AllGood (without id rows)
  without_good id rows g = at_row_good id (λ _. []) [] rows (λ r h. tt) tt g

  more_good : (s : ValueSource) (values : List Text) (r : Row) → Good r → AllGood (more_values s values r)
  more_good s values r g = ((g.0, g.1 ++ values, ap (λ l. l ++ values) g.2, g.3), tt)

  -- values are put into good rows
  values_good : (id : Text) (how : Reading) (s : ValueSource) (v : Text) (vs : List Text) (rows : List Row)
      → Reads (limits id) how v → AllGood rows → AllGood (with_values id how s (v ∷ vs) rows)
  values_good id how s v vs rows read g =
      at_row_good id (more_values s (v ∷ vs)) _ rows (more_good s (v ∷ vs)) ((v, vs, refl, read), tt) g

  -- ---- the uses of an option

  abbrev pub Use : Shape → Rule → Type 0
  Use s a = Keeps s AllGood a

  -- an option with any text
  pub text_use : (s : Shape) (i : ℕ) (id : Text) → limits id ≡ None → Use s (with_index i (filled (text_option id)))
  text_use s i id none [] rows e g = absurd (true≢false (sym e))
  text_use s i id none (v ∷ vs) rows e g =
      values_good id AsWritten CommandLine v vs (without id rows) (subst (λ o. Reads o AsWritten v) (sym none) tt) (without_good id rows g)

  first_passes : (s : Shape) (a : Rule) (v : Text) (vs : List Text) (rows : List Row) → a.action ≡ Some Set
      → use_passes s.args_override_self a (v ∷ vs) rows ≡ true → value_passes a v ≡ true
  first_passes s a v vs rows set e =
      let again = s.args_override_self in
      let as_set = passes_as Set again a (v ∷ vs) (v ∷ vs) rows rows (sym (ap (λ o. unwrap_or o Set) set)) refl refl e in
      (both (value_passes a v) _ (both (not (has_row a.id rows) || again) _ as_set).1).0

  -- an option with a number, which may have a default
  pub number_use : (s : Shape) (i : ℕ) (id : Text) (least most : ℕ) (must : Bool) (ds : List Text) → limits id ≡ Some (least, most)
      → Use s (with_index i (filled (record (number_option id least most) { required = must; defaults = ds })))
  number_use s i id least most must ds is [] rows e g = absurd (true≢false (sym e))
  number_use s i id least most must ds is (v ∷ vs) rows e g =
      let a = with_index i (filled (record (number_option id least most) { required = must; defaults = ds })) in
      let read : IsSignedIn (pos least) (pos most) v = accepts-Accepts false (Signed (pos least) (pos most)) v (first_passes s a v vs rows refl e) in
      values_good id WithoutMinus CommandLine v vs (without id rows) (subst (λ o. Reads o WithoutMinus v) (sym is) (refl, read)) (without_good id rows g)

  -- the words after the options
  pub words_use : (s : Shape) → limits (codes "words") ≡ None → Use s (with_index 1 (filled words_rule))
  words_use s none [] rows e g = absurd (true≢false (sym e))
  words_use s none (v ∷ vs) rows e g =
      values_good (codes "words") AsWritten CommandLine v vs rows (subst (λ o. Reads o AsWritten v) (sym none) tt) g

  last_fails : (a b : Bool) → (a && (b && false)) ≡ true → ⊥
  last_fails true true e = true≢false (sym e)
  last_fails true false e = true≢false (sym e)
  last_fails false b e = true≢false (sym e)

  -- the option that asks for help never passes
  pub help_use : (s : Shape) (i : ℕ) → Use s (with_index i (filled help_rule))
  help_use s i values rows e g = absurd (last_fails _ _ e)

  -- ---- defaults

  default_by : (b : Bool) (rows more : List Row) → AllGood rows → AllGood more → AllGood (cond b rows more)
  default_by true rows more g h = g
  default_by false rows more g h = h

  -- the default of an option is a good value
  abbrev pub Defaulted : Rule → Type 0
  Defaulted a = (rows : List Row) → AllGood rows → AllGood (with_default rows a)

  pub no_default : (a : Rule) → a.defaults ≡ [] → Defaulted a
  no_default a none rows g =
      default_by (has_row a.id rows) rows (default_rows a.id (reading_by a) a.defaults rows) g
      (subst (λ ds. AllGood (default_rows a.id (reading_by a) ds rows)) (sym none) g)

  pub keeps_default : (a : Rule) (v : Text) → a.defaults ≡ v ∷ [] → Reads (limits a.id) (reading_by a) v → Defaulted a
  keeps_default a v is read rows g =
      default_by (has_row a.id rows) rows (default_rows a.id (reading_by a) a.defaults rows) g
      (subst (λ ds. AllGood (default_rows a.id (reading_by a) ds rows)) (sym is) (values_good a.id (reading_by a) DefaultValue v [] rows read g))

  pub defaults_good : (c : List Rule) (rows : List Row) → Each Defaulted c → AllGood rows → AllGood (fold with_default rows c)
  defaults_good [] rows each g = g
  defaults_good (a ∷ rest) rows each g = defaults_good rest (with_default rows a) each.1 (each.0 rows g)

  -- ---- what is read of good rows

  -- the row of this name
  pub record Found (id : Text) (rows : List Row) : Type 0 where
    pub row : Row
    pub found : find (λ r. bytes_eq r.id id) rows ≡ Some row
    pub same : bytes_eq row.id id ≡ true
    pub good : Good row

  abbrev Named : Text → Row → Type 0
  Named id r = (bytes_eq r.id id ≡ true) × Good r

  found_by : (b : Bool) (id : Text) (r : Row) (o : Option Row) → bytes_eq r.id id ≡ b → Good r → IfSome o (Named id) → IfSome (cond b (Some r) o) (Named id)
  found_by true id r o is g rest = (is, g)
  found_by false id r o is g rest = rest

  found_good : (id : Text) (rows : List Row) → AllGood rows → IfSome (find (λ r. bytes_eq r.id id) rows) (Named id)
  found_good id [] g = tt
  found_good id (r ∷ rs) g = found_by (bytes_eq r.id id) id r (find (λ x. bytes_eq x.id id) rs) refl g.0 (found_good id rs g.1)

  row_of : (id : Text) (rows : List Row) (o : Option Row) → find (λ r. bytes_eq r.id id) rows ≡ o → IfSome o (Named id)
      → option_map_or (λ r. explicit_source r.source) o false ≡ true → Found id rows
  row_of id rows None is g e = absurd (true≢false (sym e))
  row_of id rows (Some r) is g e = record { row = r; found = is; same = g.0; good = g.1 }

  -- an option that was given has a row
  pub given_row : (id : Text) (rows : List Row) → AllGood rows → is_given id rows ≡ true → Found id rows
  given_row id rows g e = row_of id rows (find (λ r. bytes_eq r.id id) rows) refl (found_good id rows g) e

  kept_by : (b : Bool) (id : Text) (r : Row) (rs : List Row) → bytes_eq r.id id ≡ b → Good r → (has_row id rs ≡ true → Found id rs)
      → (b || has_row id rs) ≡ true → Found id (r ∷ rs)
  kept_by true id r rs is g rest e = record { row = r; found = ap (λ b. cond b (Some r) (find (λ x. bytes_eq x.id id) rs)) is; same = is; good = g }
  kept_by false id r rs is g rest e =
      let f = rest e in
      record { row = f.row; found = ap (λ b. cond b (Some r) (find (λ x. bytes_eq x.id id) rs)) is ∙ f.found; same = f.same; good = f.good }

  -- so has one that a default was put in for
  pub kept_row : (id : Text) (rows : List Row) → AllGood rows → has_row id rows ≡ true → Found id rows
  kept_row id [] g e = absurd (true≢false (sym e))
  kept_row id (r ∷ rs) g e = kept_by (bytes_eq r.id id) id r rs refl g.0 (λ h. kept_row id rs g.1 h) e

  first_is : (id : Text) (rows : List Row) (f : Found id rows) → first_of id rows ≡ Some f.good.0
  first_is id rows f = ap (λ o. option_and_then (λ (r : Row). slice_get r.values 0) o) f.found ∙ ap (λ (vs : List Text). slice_get vs 0) f.good.2

  pub gives_text : (id : Text) (rows : List Row) → Found id rows → GivesText rows id
  gives_text id rows f = (f.good.0, first_is id rows f)

  pub gives_words : (rows : List Row) → Found (codes "words") rows → GivesWords rows
  gives_words rows f = (f.row.values, ap (option_map (λ (r : Row). r.values)) f.found)

  pub gives_number : (id : Text) (least most : ℕ) (rows : List Row) → limits id ≡ Some (least, most) → Found id rows → GivesNumber rows id least most
  gives_number id least most rows is f =
      let here : limits f.row.id ≡ Some (least, most) = ap limits ((bytes_eq-Decides f.row.id id).0 f.same) ∙ is in
      let read = subst (λ o. Reads o f.row.reading f.good.0) here f.good.3 in
      record {
        digits = f.good.0;
        value = ap (λ o. option_and_then row_text o) f.found ∙ ap (λ (vs : List Text). option_map (read_as f.row.reading) (slice_get vs 0)) f.good.2
            ∙ ap (λ how. Some (read_as how f.good.0)) read.0;
        number = read.1;
      }

  may_give : (id : Text) (least most : ℕ) (rows : List Row) (o : Option Row) → find (λ r. bytes_eq r.id id) rows ≡ o
      → limits id ≡ Some (least, most) → IfSome o (Named id) → MayGiveNumber rows id least most
  may_give id least most rows None is limit g = inl (ap (λ o. option_and_then (λ (r : Row). slice_get r.values 0) o) is)
  may_give id least most rows (Some r) is limit g =
      inr (gives_number id least most rows limit (record { row = r; found = is; same = g.0; good = g.1 }))

  -- an option without a default was left out, or has a number in its range
  pub may_give_number : (id : Text) (least most : ℕ) (rows : List Row) → limits id ≡ Some (least, most) → AllGood rows → MayGiveNumber rows id least most
  may_give_number id least most rows limit g = may_give id least most rows (find (λ r. bytes_eq r.id id) rows) refl limit (found_good id rows g)

-- ---- the options that have a default have a row

or_right : (a b : Bool) → b ≡ true → (a || b) ≡ true
or_right true b e = refl
or_right false b e = e

kept_in : (b : Bool) (id name : Text) (s : ValueSource) (vs : List Text) (r : Row) (rs more : List Row) → (bytes_eq r.id id || has_row id rs) ≡ true
    → (has_row id rs ≡ true → has_row id more ≡ true) → has_row id (cond b (more_values s vs r ++ rs) (r ∷ more)) ≡ true
kept_in true id name s vs r rs more e rest = e
kept_in false id name s vs r rs more e rest = go (bytes_eq r.id id) e
  where
    go : (b : Bool) → (b || has_row id rs) ≡ true → (b || has_row id more) ≡ true
    go true h = refl
    go false h = rest h

values_keep : (id name : Text) (s : ValueSource) (vs : List Text) (missing rows : List Row) → has_row id rows ≡ true
    → has_row id (at_row name (more_values s vs) missing rows) ≡ true
values_keep id name s vs missing [] e = absurd (true≢false (sym e))
values_keep id name s vs missing (r ∷ rs) e =
    kept_in (bytes_eq r.id name) id name s vs r rs (at_row name (more_values s vs) missing rs) e (λ h. values_keep id name s vs missing rs h)

default_keeps : (id name : Text) (how : Reading) (ds : List Text) (rows : List Row) → has_row id rows ≡ true → has_row id (default_rows name how ds rows) ≡ true
default_keeps id name how [] rows e = e
default_keeps id name how (d ∷ ds) rows e = values_keep id name DefaultValue (d ∷ ds) _ rows e

keeps_by : (b : Bool) (id : Text) (rows more : List Row) → has_row id rows ≡ true → has_row id more ≡ true → has_row id (cond b rows more) ≡ true
keeps_by true id rows more e h = e
keeps_by false id rows more e h = h

pub kept_all : (id : Text) (c : List Rule) (rows : List Row) → has_row id rows ≡ true → has_row id (fold with_default rows c) ≡ true
kept_all id [] rows e = e
kept_all id (a ∷ rest) rows e =
    kept_all id rest (with_default rows a) (keeps_by (has_row a.id rows) id rows (default_rows a.id (reading_by a) a.defaults rows) e (default_keeps id a.id (reading_by a) a.defaults rows e))

made_by : (b : Bool) (id : Text) (s : ValueSource) (vs : List Text) (r : Row) (rs more : List Row) → bytes_eq r.id id ≡ b → has_row id more ≡ true
    → has_row id (cond b (more_values s vs r ++ rs) (r ∷ more)) ≡ true
made_by true id s vs r rs more is rest = ap (λ b. b || has_row id rs) is
made_by false id s vs r rs more is rest = or_right (bytes_eq r.id id) (has_row id more) rest

made_in : (id : Text) (how : Reading) (s : ValueSource) (v : Text) (vs : List Text) (rows : List Row) → bytes_eq id id ≡ true
    → has_row id (with_values id how s (v ∷ vs) rows) ≡ true
made_in id how s v vs [] same = ap (λ b. b || false) same
made_in id how s v vs (r ∷ rs) same = made_by (bytes_eq r.id id) id s (v ∷ vs) r rs (with_values id how s (v ∷ vs) rs) refl (made_in id how s v vs rs same)

-- after its default an option has a row
pub made : (a : Rule) (v : Text) (rows : List Row) → a.defaults ≡ v ∷ [] → bytes_eq a.id a.id ≡ true → has_row a.id (with_default rows a) ≡ true
made a v rows is same = go (has_row a.id rows) refl
  where
    go : (b : Bool) → has_row a.id rows ≡ b → has_row a.id (cond b rows (default_rows a.id (reading_by a) a.defaults rows)) ≡ true
    go true e = e
    go false e = subst (λ ds. has_row a.id (default_rows a.id (reading_by a) ds rows) ≡ true) (sym is) (made_in a.id (reading_by a) DefaultValue v [] rows same)

-- and so at the end
pub there : (id : Text) (front back : List Rule) (a : Rule) (v : Text) (rows : List Row) → a.defaults ≡ v ∷ [] → a.id ≡ id → bytes_eq id id ≡ true
    → has_row id (fold with_default rows (front ++ a ∷ back)) ≡ true
there id [] back a v rows is named same =
    kept_all id back (with_default rows a)
    (subst (λ n. has_row n (with_default rows a) ≡ true) named (made a v rows is (ap (λ n. bytes_eq n n) named ∙ same)))
there id (f ∷ front) back a v rows is named same = there id front back a v (with_default rows f) is named same
