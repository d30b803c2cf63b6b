-- What the words of the program's command line ask for.
use Rattle.std.specs.{Prelude.{◌≡◌, ◌≤◌, ℕ, [], ◌∷◌, Bool, List, Option, Some, codes, false, option_map, true}, Str.Parse.{digits_value, without_leading_plus}}
use Rattle.clap.specs.Words.{App, Row, Rule, Text, new_app, new_rule, one_of, subcommand_of, with_rule, with_subcommand}
use Rattle.clap.specs.declared.builder.action.ArgAction.TheVariants.{SetTrue}
use Rattle.clap.specs.declared.builder.value_parser.ValueParser.TheVariants as reads
use Rattle.fb_program.specs.{declared.asked.Settings.{Settings}, declared.asked.Settings.TheVariants.{Host, Script, Serve}}

-- an option `--name N` with N from 1 to a most, and its default
abbrev pub number_option : Text → ℕ → Text → Rule
number_option name most default = record (new_rule name) { long = Some name; parser = Some (reads.Unsigned 1 most); defaults = default ∷ [] }

-- `--port P`, which has no default
abbrev pub port_option : Rule
port_option = record (new_rule (codes "port")) { long = Some (codes "port"); parser = Some (reads.Unsigned 0 65535); required = true }

abbrev pub units_option : Text → Rule
units_option default = number_option (codes "units") 16384 default

-- of a script and of a server that ends by itself, and of one that stays
abbrev pub few_units : Text
few_units = codes "1024"

abbrev pub all_units : Text
all_units = codes "16384"

abbrev pub history_option : Rule
history_option = number_option (codes "history") 10000000 (codes "100000")

abbrev pub workers_option : Rule
workers_option = number_option (codes "workers") 16 (codes "2")

abbrev pub script_app : App
script_app = with_rule (with_rule (new_app (codes "script")) (units_option few_units)) history_option

abbrev pub serve_app : App
serve_app =
    with_rule (with_rule (
    with_rule (with_rule (with_rule (new_app (codes "serve")) port_option) workers_option)
    (number_option (codes "sessions") 64 (codes "1"))
    ) (units_option few_units)) history_option

-- `--memory N`, a number of bytes
abbrev pub memory_option : Rule
memory_option = number_option (codes "memory") 1099511627776 (codes "2147483648")

-- `--idle N`, a number of minutes, or 0 for none
abbrev pub idle_option : Rule
idle_option = record (new_rule (codes "idle")) { long = Some (codes "idle"); parser = Some (reads.Unsigned 0 10080); defaults = codes "60" ∷ [] }

-- `--secret FILE`, which has no default
abbrev pub secret_option : Rule
secret_option = record (new_rule (codes "secret")) { long = Some (codes "secret") }

-- `--open`, which has no value
abbrev pub open_option : Rule
open_option = record (new_rule (codes "open")) { long = Some (codes "open"); action = Some SetTrue }

abbrev pub host_app : App
host_app =
    with_rule (with_rule (
    with_rule (with_rule (with_rule (with_rule (with_rule (
    with_rule (with_rule (with_rule (new_app (codes "host")) port_option) workers_option)
    (number_option (codes "sessions") 255 (codes "32"))
    ) (units_option all_units)) history_option) memory_option) secret_option) open_option) idle_option)
    (number_option (codes "connections") 1000000000 (codes "1000000000"))

-- the program, which has a version and requires a subcommand
abbrev pub named_app : App
named_app = let a = new_app (codes "bench61499") in record a { top = record a.top { has_version = true; subcommand_required = true } }

abbrev pub bench_app : App
bench_app = with_subcommand (with_subcommand (with_subcommand named_app script_app.top) serve_app.top) host_app.top

-- the number that the matches give an option, which may be its default
abbrev pub number_of : Text → List Row → Option ℕ
number_of name rows = option_map (λ text. digits_value 10 (without_leading_plus text)) (one_of name rows)

abbrev pub IsNumberIn : ℕ → ℕ → Text → List Row → ℕ → Type 0
IsNumberIn least most name rows number = (number_of name rows ≡ Some number) × (least ≤ number) × (number ≤ most)

-- whether the option was given
abbrev pub IsFlagIn : Text → List Row → Bool → Type 0
IsFlagIn name rows flag = (one_of name rows ≡ Some (codes "true") → flag ≡ true) × (one_of name rows ≡ Some (codes "false") → flag ≡ false)

-- the limits are those of these matches
abbrev pub AreLimitsIn : List Row → (units history : ℕ) → Type 0
AreLimitsIn rows units history = IsNumberIn 1 16384 (codes "units") rows units × IsNumberIn 1 10000000 (codes "history") rows history

-- the settings of a script are those of these matches
abbrev pub IsScript : List Row → Settings → Type 0
IsScript rows (Script units history) = AreLimitsIn rows units history
IsScript rows (Serve port workers sessions units history) = ⊥
IsScript rows (Host it) = ⊥

-- the port, the workers, the sessions and the limits are those of these matches
abbrev pub AreServerNumbersIn : (most_sessions : ℕ) → List Row → (port workers sessions units history : ℕ) → Type 0
AreServerNumbersIn most_sessions rows port workers sessions units history =
    IsNumberIn 0 65535 (codes "port") rows port × IsNumberIn 1 16 (codes "workers") rows workers × IsNumberIn 1 most_sessions (codes "sessions") rows sessions
    × AreLimitsIn rows units history

-- the settings of a server are those of these matches
abbrev pub IsServe : List Row → Settings → Type 0
IsServe rows (Script units history) = ⊥
IsServe rows (Serve port workers sessions units history) = AreServerNumbersIn 64 rows port workers sessions units history
IsServe rows (Host it) = ⊥

-- the settings of a server that stays are those of these matches, except for the name of the file, which is left open
abbrev pub IsHost : List Row → Settings → Type 0
IsHost rows (Script units history) = ⊥
IsHost rows (Serve port workers sessions units history) = ⊥
IsHost rows (Host it) =
    AreServerNumbersIn 255 rows it.port it.workers it.sessions it.limits.units it.limits.history
    × IsNumberIn 1 1099511627776 (codes "memory") rows it.memory × IsFlagIn (codes "open") rows it.is_open × IsNumberIn 0 10080 (codes "idle") rows it.idle × IsNumberIn 1 1000000000 (codes "connections") rows it.connections

-- the settings are those of this subcommand and its matches
abbrev pub IsAsked : Option (Text × List Row) → Settings → Type 0
IsAsked found (Script units history) = (rows : List Row) × (found ≡ Some (codes "script", rows)) × IsScript rows (Script units history)
IsAsked found (Serve port workers sessions units history) =
    (rows : List Row) × (found ≡ Some (codes "serve", rows)) × IsServe rows (Serve port workers sessions units history)
IsAsked found (Host it) = (rows : List Row) × (found ≡ Some (codes "host", rows)) × IsHost rows (Host it)

-- The words, of which the first is the program's name, ask for these settings: by the subcommand that they name
-- and by clap's matches of its options.
abbrev pub Asks : List Text → Settings → Type 0
Asks words settings = IsAsked (subcommand_of bench_app words) settings
