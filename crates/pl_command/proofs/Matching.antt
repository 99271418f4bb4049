-- What `clap` says of the words that it matched.
use Rattle.std.proofs.Common.{◌≡◌, ◌∙◌, ◌⊎◌, Bool, not, length, take, ◌<◌, ◌≤◌, ◌^◌, ℕ, List, Option, Some, None, Result, Ok, refl, sym, ap, subst, codes, is_some, true, false, true≢false, unwrap_or, map, inl, inr, []}
use Rattle.std.specs.Prelude.{option_map}
use Rattle.std.specs.Borrow.{Bor}
use Rattle.std.specs.Str.{bytes_eq}
use Rattle.std.specs.Str.Parse.{ParsesUnsigned}
use Rattle.clap.specs.Lexer.{without_minus}
use Rattle.clap.specs.Walk.{Row, Text, first_of, rows_of}
use Rattle.clap.specs.Matches.{ReadsOne, first_value, matched_of, one_text, raw_values}
use Rattle.clap.specs.declared.parser.matches.Found.{Found}
use Rattle.clap.proofs.CallerReads.{signed_reads}
use Rattle.std.proofs.lemmas.List.{take_all}
use Rattle.clap.specs.Simple.{App, app_of}
use Rattle.clap.specs.Kinds.{IsAmong, Kinds}
use Rattle.clap.specs.declared.builder.command.Command.{Command}
use Rattle.clap.specs.declared.builder.command.Command.TheViews.{out-Command}
use Rattle.clap.specs.declared.error.kind.ErrorKind.{ErrorKind}
use Rattle.clap.specs.declared.error.kind.ErrorKind.TheVariants.{OutOfMemory}
use Rattle.clap.proofs.WalkLemmas.{both, first_value-rows, one_text-rows, raw_values-rows}
use Rattle.pl_command.specs.CommandLine.{GivesAsk, GivesNumber, GivesPlay, GivesServe, GivesText, GivesWords, HasNumber, HasText, HasWords, IsWholeCommand}

-- both parts of what is there
pub both_parts : {S : Type 0} (s : Option S) (f : S → Text) (g : S → List Row) (name : Text) (rows : List Row) → option_map f s ≡ Some name
    → option_map (λ (p : Text × List Row). p.1) (option_map {U = Text × List Row} (λ b. (f b, g b)) s) ≡ Some rows
    → option_map {U = Text × List Row} (λ b. (f b, g b)) s ≡ Some (name, rows)
both_parts None f g name rows named held = cc
both_parts (Some b) f g name rows named held =
    let is_name : f b ≡ name = cc in
    let is_rows : g b ≡ rows = cc in
    rw (is_name, is_rows) refl

-- what `get_one` read
one_read : (E : Type 0) (G : Text → Result ℕ E → Type 0) (o : Option Text) (r : Option ℕ) (n : ℕ) → (o ≡ None → r ≡ None)
    → ((t : Text) → o ≡ Some t → ReadsOne G t r) → r ≡ Some n → (t : Text) × (o ≡ Some t) × G t (Ok n)
one_read E G None r n none value is =
    let no : r ≡ None = none refl in
    cc
one_read E G (Some t) r n none value is = (t, refl, subst (λ (x : Option ℕ). ReadsOne G t x) is (value t refl))

-- a number that was read and lies in the range
pub has_number : (E : Type 0) (G : Text → Result ℕ E → Type 0) → ((u : Text) (x : Result ℕ E) → G u x → ParsesUnsigned 32 10 u x)
    → (f : Found) (name : Text) (least most : ℕ) (r : Option ℕ) (n : ℕ) → (one_text f name ≡ None → r ≡ None)
    → ((t : Text) → one_text f name ≡ Some t → ReadsOne G t r) → r ≡ Some n → least ≤ n → n ≤ most → HasNumber (rows_of f) name least most n
has_number E G only f name least most r n none value is low high =
    let read = one_read E G (one_text f name) r n none value is in
    record {
      digits = read.0;
      value = sym (one_text-rows f name) ∙ read.1;
      number = (only read.0 (Ok n) read.2).1;
      at_least = low;
      at_most = high;
    }

-- a number that was found is read, and lies in its range
pub number_read : (E : Type 0) (G : Text → Result ℕ E → Type 0) → ((u : Text) (x : Result ℕ E) → G u x → ParsesUnsigned 32 10 u x)
    → (f : Found) (name : Text) (least most : ℕ) (r : Option ℕ) → ((t : Text) → one_text f name ≡ Some t → ReadsOne G t r) → most < 2 ^ 32
    → GivesNumber (rows_of f) name least most → (n : ℕ) × (r ≡ Some n) × (least ≤ n) × (n ≤ most)
number_read E G only f name least most r value small given =
    let text : one_text f name ≡ Some (without_minus given.digits) = one_text-rows f name ∙ given.value in
    signed_reads E G 32 least most given.digits r (value (without_minus given.digits) text) only small given.number

pub none_of : {X : Type 0} (r : Option X) → ((x : X) → r ≡ Some x → ⊥) → r ≡ None
none_of None never = refl
none_of (Some x) never = absurd (never x refl)

-- if no text is read, none was found
pub text_missing : (f : Found) (name : Text) (r : Option (Bor Text)) → option_map (λ t. t.now) r ≡ first_value f name → r ≡ None → GivesText (rows_of f) name → ⊥
text_missing f name r value none given =
    true≢false (sym (ap is_some (value ∙ first_value-rows f name ∙ given.1)) ∙ ap (λ o. is_some (option_map (λ (t : Bor Text). t.now) o)) none)

-- if no text is read, the option was left out
pub left_out : (f : Found) (name : Text) (r : Option (Bor Text)) → option_map (λ t. t.now) r ≡ first_value f name → r ≡ None → first_of name (rows_of f) ≡ None
left_out f name r value none = sym (first_value-rows f name) ∙ sym value ∙ ap (option_map (λ (t : Bor Text). t.now)) none

-- if a text is read, it was not
pub not_left_out : (f : Found) (name : Text) (r : Option (Bor Text)) (t : Bor Text) → option_map (λ t. t.now) r ≡ first_value f name → r ≡ Some t
    → first_of name (rows_of f) ≡ None → ⊥
not_left_out f name r t value is left =
    true≢false (sym (ap (λ o. is_some (option_map (λ (t : Bor Text). t.now) o)) is) ∙ ap is_some (value ∙ first_value-rows f name ∙ left))

-- the text that is read is the one that was found
pub has_text : (f : Found) (name : Text) (r : Option (Bor Text)) (t : Bor Text) (copy : Text) → option_map (λ t. t.now) r ≡ first_value f name → r ≡ Some t
    → copy ≡ t.now → HasText (rows_of f) name copy
has_text f name r t copy value is same = sym (first_value-rows f name) ∙ sym value ∙ ap (option_map (λ (t : Bor Text). t.now)) is ∙ ap Some (sym same)

abbrev texts_of : Bor (List (Bor Text)) → List Text
texts_of s = map (λ v. v.now) s.now

-- if no words are read, none were found
pub words_missing : (f : Found) (r : Option (Bor (List (Bor Text)))) → option_map (λ s. map (λ v. v.now) s.now) r ≡ option_map raw_values (matched_of f (codes "words"))
    → r ≡ None → GivesWords (rows_of f) → ⊥
words_missing f r value none given =
    true≢false (sym (ap is_some (value ∙ raw_values-rows f (codes "words") ∙ given.1)) ∙ ap (λ o. is_some (option_map texts_of o)) none)

-- the words that are read are those that were found
pub words_found : (f : Found) (r : Option (Bor (List (Bor Text)))) (given : Bor (List (Bor Text))) (words : List Text) (n : ℕ)
    → option_map (λ s. map (λ v. v.now) s.now) r ≡ option_map raw_values (matched_of f (codes "words")) → r ≡ Some given
    → words ≡ map (λ v. v.now) (take n given.now) → length given.now ≤ n → HasWords (rows_of f) words
words_found f r given words n value is so_far whole =
    sym (raw_values-rows f (codes "words")) ∙ sym value ∙ ap (option_map texts_of) is ∙ ap Some (sym (so_far ∙ ap (map (λ (v : Bor Text). v.now)) (take_all n given.now whole)))

abbrev pub is_memory : ErrorKind → Bool
is_memory OutOfMemory = true
is_memory _ = false

-- a request, for help say, is among the kinds that may come
pub among_asked : (kinds : Kinds) (k asked : ErrorKind) → is_memory asked ≡ false → (k ≡ OutOfMemory) ⊎ IsAmong k kinds → k ≡ asked → IsAmong asked kinds
among_asked kinds k asked other (inl memory) is = absurd (true≢false (ap is_memory (sym memory ∙ is) ∙ other))
among_asked kinds k asked other (inr among) is = subst (λ x. IsAmong x kinds) is among

-- a command that is plain has no option for its subcommands too
pub no_globals : (c : Command) (a : App) → app_of c ≡ a → a.top.is_plain ≡ true → (out-Command c).has_globals ≡ false
no_globals c a is plain =
    let all : (app_of c).top.is_plain ≡ true = ap (λ (x : App). x.top.is_plain) is ∙ plain in
    let groups = both _ _ all in
    let external = both _ _ groups.1 in
    off (out-Command c).has_globals (both _ _ external.1).0
  where
    off : (b : Bool) → not b ≡ true → b ≡ false
    off true e = absurd (true≢false (sym e))
    off false e = refl

-- ---- the subcommand that was matched is the one that was named

abbrev name_of : Option (Text × List Row) → Text
name_of o = unwrap_or (option_map (λ p. p.0) o) []

abbrev rows_in : Option (Text × List Row) → List Row
rows_in o = unwrap_or (option_map (λ p. p.1) o) []

-- the name of what was found with its rows
pub named : {S : Type 0} (s : Option S) (f : S → Text) (g : S → List Row) (name : Text) (rows : List Row)
    → option_map {U = Text × List Row} (λ b. (f b, g b)) s ≡ Some (name, rows) → option_map f s ≡ Some name
named None f g name rows both_are = cc
named (Some b) f g name rows both_are = ap (λ (o : Option (Text × List Row)). option_map (λ p. p.0) o) both_are

-- what is None is not there
pub not_there : {S : Type 0} (o : Option S) → o ≡ None → is_some o ≡ true → ⊥
not_there o none some = true≢false (sym some ∙ ap is_some none)

pub play_only : (found : Option (Text × List Row)) (rows : List Row) → found ≡ Some (codes "play", rows) → IsWholeCommand found → GivesPlay rows
play_only found rows is given = elim given.1 [
  | inl p ↦ subst GivesPlay (ap rows_in (sym p.0 ∙ is)) p.1
  | inr q ↦ elim q [
    | inl p ↦ absurd (true≢false (ap (λ o. bytes_eq (name_of o) (codes "play")) (sym is ∙ p.0)))
    | inr p ↦ absurd (true≢false (ap (λ o. bytes_eq (name_of o) (codes "play")) (sym is ∙ p.0)))
  ]
]

pub serve_only : (found : Option (Text × List Row)) (rows : List Row) → found ≡ Some (codes "serve", rows) → IsWholeCommand found → GivesServe rows
serve_only found rows is given = elim given.1 [
  | inl p ↦ absurd (true≢false (ap (λ o. bytes_eq (name_of o) (codes "serve")) (sym is ∙ p.0)))
  | inr q ↦ elim q [
    | inl p ↦ subst GivesServe (ap rows_in (sym p.0 ∙ is)) p.1
    | inr p ↦ absurd (true≢false (ap (λ o. bytes_eq (name_of o) (codes "serve")) (sym is ∙ p.0)))
  ]
]

pub ask_only : (found : Option (Text × List Row)) (rows : List Row) → found ≡ Some (codes "ask", rows) → IsWholeCommand found → GivesAsk rows
ask_only found rows is given = elim given.1 [
  | inl p ↦ absurd (true≢false (ap (λ o. bytes_eq (name_of o) (codes "ask")) (sym is ∙ p.0)))
  | inr q ↦ elim q [
    | inl p ↦ absurd (true≢false (ap (λ o. bytes_eq (name_of o) (codes "ask")) (sym is ∙ p.0)))
    | inr p ↦ subst GivesAsk (ap rows_in (sym p.0 ∙ is)) p.1
  ]
]
