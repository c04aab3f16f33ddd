-- What is refused of a configuration, in the order in which it is looked for. This project's own.
use Rattle.std.specs.Prelude.{ℕ, Bool, true, not, ◌||◌, ◌&&◌, ◌++◌, Option, Some, None, List, [], ◌∷◌, map, codes, if◌then◌else◌, is_some}
use Rattle.std.specs.List.{list_all, list_any, find}
use Rattle.std.specs.Option.{option_and_then, option_map, option_map_or, is_none, option_or}
use Rattle.toml.specs.Data.{Data, Members, get_member, as_str, as_table}
use Rattle.sc_tokens.specs.Names.{same_bytes}
use Rattle.sc_terms.specs.Ranges.{are_few}
use Rattle.sc_tokens.specs.Hosts.{is_host}
use Rattle.sc_config.specs.declared.faults.Check.{Check}
use Rattle.sc_config.specs.declared.faults.Check.TheVariants.{UnknownKeys, Missing, Range}
use Rattle.sc_config.specs.declared.faults.Wrong.{Wrong}
use Rattle.sc_config.specs.declared.faults.Wrong.TheVariants.{TopKey, AppKey, Host}
use Rattle.sc_tokens.specs.Bytes.{Bytes}
use Rattle.sc_config.specs.Documents.{elements, first_key, first_given}
use Rattle.sc_config.specs.KeyValues.{listen_in, text_in, number_in, flag_in, is_wrong_host, is_file, is_params, expires_in, is_app_name, is_salt}

-- a kind of refusal and the key at fault
abbrev pub Fault : Type 0
Fault = ℕ × Bytes

-- the kinds of refusals, by number: the text isn't UTF-8, or isn't TOML
abbrev pub SYNTAX : ℕ
SYNTAX = 1

-- a key isn't there that has to be
abbrev pub MISSING : ℕ
MISSING = 2

-- a key has a value that it can't have
abbrev pub RANGE : ℕ
RANGE = 3

-- two applications have one name
abbrev pub DOUBLE_NAME : ℕ
DOUBLE_NAME = 4

-- an application is of a kind that the catalogue lacks
abbrev pub UNKNOWN_KIND : ℕ
UNKNOWN_KIND = 5

-- the text has more than 65,536 bytes
abbrev pub LONG : ℕ
LONG = 6

-- a key isn't one of those that are read
abbrev pub UNKNOWN_KEY : ℕ
UNKNOWN_KEY = 7

-- the first fault of those that are there
unfoldable pub first_fault : List (Option Fault) → Option Fault
first_fault [] = None
first_fault (fault ∷ rest) = option_or fault (first_fault rest)

-- the fault, where it holds
abbrev pub fault_if : Bool → ℕ → Bytes → Option Fault
fault_if holds kind key = if holds then Some (kind, key) else None

-- ## Keys that aren't known

-- the key is one of the container's
unfoldable pub is_top_key : Bytes → Bool
is_top_key key =
    same_bytes key (codes "listen") || same_bytes key (codes "domain")
    || same_bytes key (codes "salt") || same_bytes key (codes "workers")
    || same_bytes key (codes "stop_after") || same_bytes key (codes "journal_steps")
    || same_bytes key (codes "journal_bytes")
    || same_bytes key (codes "epoch_steps") || same_bytes key (codes "journal_parts")
    || same_bytes key (codes "reuse") || same_bytes key (codes "record")
    || same_bytes key (codes "hosts") || same_bytes key (codes "app")

-- the key is one of an application's
unfoldable pub is_app_key : Bytes → Bool
is_app_key key =
    same_bytes key (codes "name") || same_bytes key (codes "kind")
    || same_bytes key (codes "params") || same_bytes key (codes "expires")

-- the entry is wrong: its key isn't known, or it is no host with an IPv4 address
unfoldable pub is_wrong : Wrong → Bytes → Data → Bool
is_wrong TopKey key value = not (is_top_key key)
is_wrong AppKey key value = not (is_app_key key)
is_wrong Host key value = is_wrong_host key value

-- the first key, in byte order, of an entry that is wrong
abbrev pub wrong_key : ℕ → Wrong → Members → Option Fault
wrong_key kind wrong table = option_map (λ key. (kind, key)) (first_key (is_wrong wrong) table)

-- ## Keys that are missing, or out of range

-- the key isn't there
unfoldable pub missing : Bytes → Members → Option Fault
missing key table = fault_if (is_none (get_member key table)) MISSING key

-- the key is there with another value than it can have, or absent where it has to be there
abbrev pub wrong_if : Bool → Bytes → Option Fault
wrong_if holds key = fault_if holds RANGE key

-- `listen` is no address and port
unfoldable pub wrong_listen : Members → Option Fault
wrong_listen top = wrong_if (is_none (listen_in (get_member (codes "listen") top))) (codes "listen")

-- the key has no text that passes the test
unfoldable pub wrong_text : (Bytes → Bool) → Bytes → Members → Option Fault
wrong_text test key table = wrong_if (is_none (text_in test (get_member key table))) key

-- the key has no number from low to high
unfoldable pub wrong_number : ℕ → ℕ → Bytes → Members → Option Fault
wrong_number low high key table =
    wrong_if (is_none (number_in low high low (get_member key table))) key

-- the key is neither true nor false
unfoldable pub wrong_flag : Bytes → Members → Option Fault
wrong_flag key table = wrong_if (is_none (flag_in (get_member key table))) key

-- the first of the container's numbers that is out of its range
unfoldable pub wrong_numbers : Members → Option Fault
wrong_numbers top = first_fault (
    wrong_number 1 32 (codes "workers") top
    ∷ wrong_number 0 1000000 (codes "stop_after") top
    ∷ wrong_number 1 1000000 (codes "journal_steps") top
    ∷ wrong_number 1 67108864 (codes "journal_bytes") top
    ∷ wrong_number 0 1000000 (codes "epoch_steps") top
    ∷ [])

-- the first key of a flag that is neither true nor false
unfoldable pub wrong_flags : Members → Option Fault
wrong_flags top =
    first_fault (wrong_flag (codes "journal_parts") top ∷ wrong_flag (codes "reuse") top ∷ [])

-- `record` is there, and is no file's name
unfoldable pub wrong_record : Members → Option Fault
wrong_record top = wrong_if (not (is_file (get_member (codes "record") top))) (codes "record")

-- `hosts` is no table, or one of its entries is wrong
unfoldable pub wrong_host_in : Option Members → Option Fault
wrong_host_in None = Some (RANGE, codes "hosts")
wrong_host_in (Some hosts) = wrong_key RANGE Host hosts

-- the fault of `hosts`, where it is there
unfoldable pub wrong_hosts : Option Data → Option Fault
wrong_hosts None = None
wrong_hosts (Some value) = wrong_host_in (as_table value)

-- the items of `app`, none where it is no array
abbrev pub apps_in : Members → List Data
apps_in top = option_map_or elements (get_member (codes "app") top) []

-- 1 to 64 tables
abbrev pub are_some_tables : List Data → Bool
are_some_tables values = are_few values && list_all (λ value. is_some (as_table value)) values

-- `app` isn't an array of 1 to 64 tables
unfoldable pub wrong_apps : Members → Option Fault
wrong_apps top = wrong_if (not (are_some_tables (apps_in top))) (codes "app")

-- `params` is no array of texts
unfoldable pub wrong_params : Members → Option Fault
wrong_params table = wrong_if (not (is_params (get_member (codes "params") table))) (codes "params")

-- `expires` is no number of minutes that a session can have
unfoldable pub wrong_expires : Members → Option Fault
wrong_expires table =
    wrong_if (is_none (expires_in (get_member (codes "expires") table))) (codes "expires")

-- any text
abbrev pub is_any : Bytes → Bool
is_any text = true

-- ## What is looked for in an application, in all of them, and before them

-- the first fault of an application that this check looks for
unfoldable pub app_fault : Check → Members → Option Fault
app_fault UnknownKeys table = wrong_key UNKNOWN_KEY AppKey table
app_fault Missing table =
    first_fault (missing (codes "name") table ∷ missing (codes "kind") table ∷ [])
app_fault Range table =
    first_fault
    (wrong_text is_app_name (codes "name") table ∷ wrong_text is_any (codes "kind") table
    ∷ wrong_params table ∷ wrong_expires table ∷ [])

-- of an item of `app`; what is no table has none of these faults
abbrev pub item_fault : Check → Data → Option Fault
item_fault check value = option_and_then (app_fault check) (as_table value)

-- the first of all applications, in their order
unfoldable pub apps_fault : Check → Members → Option Fault
apps_fault check top = first_given (item_fault check) (apps_in top)

-- the first fault of the container's own keys that this check looks for
unfoldable pub top_fault : Check → Members → Option Fault
top_fault UnknownKeys top = wrong_key UNKNOWN_KEY TopKey top
top_fault Missing top =
    first_fault
    (missing (codes "listen") top ∷ missing (codes "domain") top ∷ missing (codes "salt") top
    ∷ missing (codes "app") top ∷ [])
top_fault Range top = first_fault (
    wrong_listen top
    ∷ wrong_text is_host (codes "domain") top
    ∷ wrong_text is_salt (codes "salt") top
    ∷ wrong_numbers top
    ∷ wrong_flags top
    ∷ wrong_record top
    ∷ wrong_hosts (get_member (codes "hosts") top)
    ∷ wrong_apps top
    ∷ [])

-- the first of both: the container's own keys come before those of applications
unfoldable pub table_fault : Check → Members → Option Fault
table_fault check top = first_fault (top_fault check top ∷ apps_fault check top ∷ [])

-- ## Names and kinds of applications

-- the text of an application's key, empty where there is none
unfoldable pub app_text : Bytes → Data → Bytes
app_text key app =
    option_map_or (λ text. text)
    (option_and_then as_str (option_and_then (get_member key) (as_table app))) []

-- the first name that stands among those before it
unfoldable pub first_double : List Bytes → List Bytes → Option Bytes
first_double earlier [] = None
first_double earlier (name ∷ rest) =
    if list_any (λ other. same_bytes other name) earlier then Some name
    else first_double (earlier ++ name ∷ []) rest

-- the first name that an earlier application has
unfoldable pub double_name : List Data → Option Fault
double_name apps =
    option_map (λ name. (DOUBLE_NAME, name)) (first_double [] (map (app_text (codes "name")) apps))

-- one of the kinds has this name
abbrev pub is_kind : List Bytes → Bytes → Bool
is_kind kinds name = list_any (λ kind. same_bytes kind name) kinds

-- the first kind that is none of the kinds
unfoldable pub unknown_kind : List Bytes → List Data → Option Fault
unknown_kind kinds apps =
    option_map (λ app. (UNKNOWN_KIND, app_text (codes "kind") app))
    (find (λ app. not (is_kind kinds (app_text (codes "kind") app))) apps)

-- the first fault of a document
unfoldable pub first_refusal : List Bytes → Members → Option Fault
first_refusal kinds top = first_fault (
    table_fault UnknownKeys top
    ∷ table_fault Missing top
    ∷ table_fault Range top
    ∷ double_name (apps_in top)
    ∷ unknown_kind kinds (apps_in top)
    ∷ [])
