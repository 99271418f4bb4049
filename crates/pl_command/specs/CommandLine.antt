-- What the words of a call ask for: how `clap` matches them with the program's subcommands.
use Rattle.std.specs.Prelude.{◌≡◌, ◌≤◌, ◌⊎◌, ℕ, ⊤, true, false, List, [], ◌∷◌, fold, map, Option, Some, None, pos, codes, string_bytes}
use Rattle.std.specs.Str.Parse.{digits_value, without_leading_plus}
use Rattle.clap.specs.Lexer.{usize_max, without_minus}
use Rattle.clap.specs.Values.{IsSignedIn}
use Rattle.clap.specs.Walk.{Row, Rule, Text, all_of, first_of, one_of}
use Rattle.clap.specs.Simple.{App, new_app, new_rule, on_top, subcommand_of, with_rule}
use Rattle.clap.specs.Simple.{with_subcommand}
use Rattle.clap.specs.Faults.{fault_of}
use Rattle.clap.specs.Kinds.{IsAmong}
use Rattle.clap.specs.declared.builder.value_parser.ValueParser.TheVariants.{Signed}
use Rattle.clap.specs.declared.error.kind.ErrorKind.TheVariants.{DisplayHelp, DisplayVersion}
use Rattle.pl_command.specs.declared.command_line.CommandLine.{CommandLine}
use Rattle.pl_command.specs.declared.command_line.CommandLine.TheVariants as lines
use Rattle.pl_command.specs.declared.command_line.ServeNumbers.{ServeNumbers}
use Rattle.pl_command.specs.declared.options.Takes.{Takes}
use Rattle.pl_command.specs.declared.options.Takes.TheVariants as takes
use Rattle.pl_command.specs.declared.command_line.CommandFault.{CommandFault}
use Rattle.pl_command.specs.declared.command_line.CommandFault.TheVariants as faults

-- the greatest number of 32 bits
abbrev pub most_u32 : ℕ
most_u32 = 4294967295

-- ---- the program as `clap` sees it

-- an option of a name, with one value, that is always given
abbrev pub text_option : Text → Rule
text_option name = record (new_rule name) { long = Some name; value_names = 1; required = true }

-- the same, with a number of a range
abbrev pub number_option : Text → ℕ → ℕ → Rule
number_option name least most =
    record (text_option name) { parser = Some (Signed (pos least) (pos most)) }

-- a number from 0 on, which is this one if the option is not given
abbrev pub number_or : Text → Text → ℕ → Rule
number_or default name most =
    record (number_option name 0 most) { required = false; defaults = default ∷ [] }

-- a number from 0 on, of an option that may be left out
abbrev pub optional_number : Text → ℕ → Rule
optional_number name most = record (number_option name 0 most) { required = false }

-- words after the options, at least one
abbrev pub words_option : Text → Rule
words_option name = record (new_rule name) {
  range = Some (record { start_inclusive = 1; end_inclusive = usize_max });
  value_names = 1;
  required = true;
}

-- the words of `ask`
abbrev pub words_rule : Rule
words_rule = words_option (codes "words")

-- the option that takes this
abbrev pub rule_that : Text → Takes → Rule
rule_that name (takes.Text value) = text_option name
rule_that name (takes.Number least most) = number_option name least most
rule_that name (takes.NumberOr default most) = number_or default.now name most
rule_that name (takes.OptionalNumber most) = optional_number name most
rule_that name takes.Words = words_option name

-- a subcommand with these options
abbrev pub subcommand_with : Text → List Rule → App
subcommand_with name rules = fold with_rule (new_app name) rules

-- `play --table FILE --primary N`
abbrev pub play_app : App
play_app = subcommand_with (codes "play")
    (text_option (codes "table") ∷ number_option (codes "primary") 0 most_u32 ∷ [])

-- `serve` with its options: three have a default, and the last may be left out
abbrev pub serve_app : App
serve_app = subcommand_with (codes "serve")
    (text_option (codes "listen") ∷ text_option (codes "table")
    ∷ number_option (codes "primary") 0 most_u32 ∷ number_option (codes "dbs") 1 16
    ∷ number_option (codes "workers") 1 64 ∷ number_option (codes "connections") 1 most_u32
    ∷ number_option (codes "audit") 1 16777216 ∷ number_or (codes "0") (codes "pager") most_u32
    ∷ number_or (codes "0") (codes "partition") 65535 ∷ number_or (codes "0") (codes "rounds") most_u32
    ∷ optional_number (codes "idle-polls") 10000 ∷ [])

-- `ask` with its options, and then words
abbrev pub ask_app : App
ask_app = subcommand_with (codes "ask")
    (text_option (codes "to") ∷ number_option (codes "id") 0 most_u32
    ∷ text_option (codes "token") ∷ number_option (codes "db") 0 most_u32
    ∷ number_option (codes "epoch") 0 most_u32 ∷ words_rule ∷ [])

-- the program, of which a subcommand is always given, and that has a version
abbrev pub top_app : App
top_app = on_top (λ s. record s { arg_required_else_help = true })
    (on_top (λ s. record s { subcommand_required = true })
    (on_top (λ s. record s { has_version = true }) (new_app (codes "pagelog"))))

-- and its subcommands
abbrev pub own_app : App
own_app = with_subcommand (with_subcommand (with_subcommand top_app play_app.top) serve_app.top) ask_app.top

-- ---- what was found of a subcommand's options is what a line says

-- the value of the option of this name
abbrev pub HasText : List Row → Text → Text → Type 0
HasText rows name text = first_of name rows ≡ Some text

-- the number that the value of the option of this name spells, or its default; it is in the range
pub record HasNumber (rows : List Row) (name : Text) (least most n : ℕ) : Type 0 where
  pub digits : Text
  pub value : one_of name rows ≡ Some digits
  pub number : n ≡ digits_value 10 (without_leading_plus digits)
  pub at_least : least ≤ n
  pub at_most : n ≤ most

-- the option of this name was left out, or has a number
abbrev pub MayHaveNumber : List Row → Text → ℕ → ℕ → Option ℕ → Type 0
MayHaveNumber rows name least most None = first_of name rows ≡ None
MayHaveNumber rows name least most (Some n) = HasNumber rows name least most n

-- the words after the options
abbrev pub HasWords : List Row → List Text → Type 0
HasWords rows words = all_of (codes "words") rows ≡ Some words

-- `play` with these options
pub record HasPlay (rows : List Row) (table : Text) (primary : ℕ) : Type 0 where
  pub table_is : HasText rows (codes "table") table
  pub primary_is : HasNumber rows (codes "primary") 0 most_u32 primary

-- the numbers among the options of `serve`
pub record HasNumbers (rows : List Row) (numbers : ServeNumbers) : Type 0 where
  pub primary_is : HasNumber rows (codes "primary") 0 most_u32 numbers.primary
  pub dbs_is : HasNumber rows (codes "dbs") 1 16 numbers.dbs
  pub workers_is : HasNumber rows (codes "workers") 1 64 numbers.workers
  pub connections_is : HasNumber rows (codes "connections") 1 most_u32 numbers.connections
  pub audit_is : HasNumber rows (codes "audit") 1 16777216 numbers.audit
  pub pager_is : HasNumber rows (codes "pager") 0 most_u32 numbers.pager
  pub partition_is : HasNumber rows (codes "partition") 0 65535 numbers.partition
  pub rounds_is : HasNumber rows (codes "rounds") 0 most_u32 numbers.rounds
  pub idle_polls_is : MayHaveNumber rows (codes "idle-polls") 0 10000 numbers.idle_polls

-- `serve` with these options
pub record HasServe (rows : List Row) (listen table : Text) (numbers : ServeNumbers) : Type 0 where
  pub listen_is : HasText rows (codes "listen") listen
  pub table_is : HasText rows (codes "table") table
  pub numbers_are : HasNumbers rows numbers

-- `ask` with these options and words
pub record HasAsk (rows : List Row) (to : Text) (id : ℕ) (token : Text) (db epoch : ℕ)
    (words : List Text) : Type 0 where
  pub to_is : HasText rows (codes "to") to
  pub id_is : HasNumber rows (codes "id") 0 most_u32 id
  pub token_is : HasText rows (codes "token") token
  pub db_is : HasNumber rows (codes "db") 0 most_u32 db
  pub epoch_is : HasNumber rows (codes "epoch") 0 most_u32 epoch
  pub words_are : HasWords rows words

-- what was found of the options of the subcommand of this name is what the line says
abbrev pub Has : Text → List Row → CommandLine → Type 0
Has name rows (lines.Help text) = ⊥
Has name rows (lines.Play table primary) =
    (name ≡ codes "play") × HasPlay rows (string_bytes table) primary
Has name rows (lines.Serve listen table numbers) =
    (name ≡ codes "serve") × HasServe rows (string_bytes listen) (string_bytes table) numbers
Has name rows (lines.Ask to id token db epoch words) =
    (name ≡ codes "ask") × HasAsk rows (string_bytes to) id (string_bytes token) db epoch
    (map string_bytes words.items)

-- a subcommand was named, and its options are those of the line
pub record Names (found : Option (Text × List Row)) (line : CommandLine) : Type 0 where
  pub name : Text
  pub rows : List Row
  pub subcommand : found ≡ Some (name, rows)
  pub options : Has name rows line

-- the words ask for this line: they name its subcommand, or are such as are answered by help or the version
abbrev pub AsksFor : List Text → CommandLine → Type 0
AsksFor words (lines.Help text) =
    IsAmong DisplayHelp (fault_of own_app words) ⊎ IsAmong DisplayVersion (fault_of own_app words)
AsksFor words (lines.Play table primary) =
    Names (subcommand_of own_app words) (lines.Play table primary)
AsksFor words (lines.Serve listen table numbers) =
    Names (subcommand_of own_app words) (lines.Serve listen table numbers)
AsksFor words (lines.Ask to id token db epoch words_are) =
    Names (subcommand_of own_app words) (lines.Ask to id token db epoch words_are)

-- ---- the options of a subcommand were found, and each number is in its range

-- the option of this name has a value
abbrev pub GivesText : List Row → Text → Type 0
GivesText rows name = (text : Text) × (first_of name rows ≡ Some text)

-- the option of this name has a number in the range, or a default that is one
pub record GivesNumber (rows : List Row) (name : Text) (least most : ℕ) : Type 0 where
  pub digits : Text
  pub value : one_of name rows ≡ Some (without_minus digits)
  pub number : IsSignedIn (pos least) (pos most) digits

-- the option of this name was left out, or has a number in the range
abbrev pub MayGiveNumber : List Row → Text → ℕ → ℕ → Type 0
MayGiveNumber rows name least most = (first_of name rows ≡ None) ⊎ GivesNumber rows name least most

-- there are words after the options
abbrev pub GivesWords : List Row → Type 0
GivesWords rows = (words : List Text) × (all_of (codes "words") rows ≡ Some words)

-- all options of `play` were found
pub record GivesPlay (rows : List Row) : Type 0 where
  pub table : GivesText rows (codes "table")
  pub primary : GivesNumber rows (codes "primary") 0 most_u32

-- all options of `serve` were found
pub record GivesServe (rows : List Row) : Type 0 where
  pub listen : GivesText rows (codes "listen")
  pub table : GivesText rows (codes "table")
  pub primary : GivesNumber rows (codes "primary") 0 most_u32
  pub dbs : GivesNumber rows (codes "dbs") 1 16
  pub workers : GivesNumber rows (codes "workers") 1 64
  pub connections : GivesNumber rows (codes "connections") 1 most_u32
  pub audit : GivesNumber rows (codes "audit") 1 16777216
  pub pager : GivesNumber rows (codes "pager") 0 most_u32
  pub partition : GivesNumber rows (codes "partition") 0 65535
  pub rounds : GivesNumber rows (codes "rounds") 0 most_u32
  pub idle_polls : MayGiveNumber rows (codes "idle-polls") 0 10000

-- all options of `ask` and its words were found
pub record GivesAsk (rows : List Row) : Type 0 where
  pub to : GivesText rows (codes "to")
  pub id : GivesNumber rows (codes "id") 0 most_u32
  pub token : GivesText rows (codes "token")
  pub db : GivesNumber rows (codes "db") 0 most_u32
  pub epoch : GivesNumber rows (codes "epoch") 0 most_u32
  pub words : GivesWords rows

-- a subcommand was named with all its options
abbrev pub IsWholeCommand : Option (Text × List Row) → Type 0
IsWholeCommand found = (rows : List Row)
    × (((found ≡ Some (codes "play", rows)) × GivesPlay rows)
    ⊎ (((found ≡ Some (codes "serve", rows)) × GivesServe rows)
    ⊎ ((found ≡ Some (codes "ask", rows)) × GivesAsk rows)))

-- ---- what is shown

-- a text to show
abbrev pub IsHelp : CommandLine → Type 0
IsHelp (lines.Help text) = ⊤
IsHelp _ = ⊥

-- a fault of the words
abbrev pub IsUsage : CommandFault → Type 0
IsUsage (faults.Usage text) = ⊤
IsUsage faults.NoMemory = ⊥
