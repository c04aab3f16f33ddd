-- The settings that a TOML text gives, or its first refusal. The form is TOML's; the keys are this
-- project's own.
use Rattle.std.specs.Prelude.{ℕ, Bool, pos, false, Option, Some, None, Result, Ok, Err, List, [], ◌∷◌, map, codes, length, nat_lt, if◌then◌else◌, position}
use Rattle.std.specs.Option.{option_and_then, option_map_or, unwrap_or}
use Rattle.toml.specs.Data.{Data, Members, no_members, member, get_member, as_str, as_table}
use Rattle.sc_tokens.specs.Names.{same_bytes}
use Rattle.sc_terms.specs.declared.settings.Config.{Config}
use Rattle.sc_terms.specs.declared.settings.HostEntry.{HostEntry}
use Rattle.sc_terms.specs.declared.settings.AppEntry.{AppEntry}
use Rattle.sc_config.specs.declared.config_refused.ConfigRefused.{ConfigRefused}
use Rattle.sc_config.specs.declared.config_refused.ConfigRefused.TheVariants.{Refused, NoMemory}
use Rattle.sc_tokens.specs.Bytes.{Bytes}
use Rattle.sc_config.specs.Documents.{document, elements}
use Rattle.sc_config.specs.KeyValues.{listen_in, number_in, flag_in, expires_in, host_ip}
use Rattle.sc_config.specs.Faults.{Fault, LONG, SYNTAX, app_text, apps_in, first_refusal}

-- Each value below is taken from a document without fault, so what stands for an absent one is
-- never met.

-- ## The applications

-- the text of an item of `params`
abbrev pub param_text : Data → Bytes
param_text value = unwrap_or (as_str value) []

-- the parameters of an application, none where the key is absent
unfoldable pub params_in : Option Data → List Bytes
params_in value = map param_text (option_map_or elements value [])

-- the first place among the kinds
unfoldable pub kind_place : List Bytes → Bytes → ℕ
kind_place kinds name = unwrap_or (position (λ kind. same_bytes kind name) kinds) 0

-- the value of an application's key
unfoldable pub app_value : Bytes → Data → Option Data
app_value key app = option_and_then (get_member key) (as_table app)

-- the entry of an application; its kind is a place in the catalogue
unfoldable pub app_entry : List Bytes → Data → AppEntry
app_entry kinds app = record {
  name = app_text (codes "name") app;
  kind = kind_place kinds (app_text (codes "kind") app);
  params = params_in (app_value (codes "params") app);
  expires = unwrap_or (expires_in (app_value (codes "expires") app)) (pos 3);
}

-- ## The hosts

-- a name with its IPv4 address
unfoldable pub host_entry : Bytes → Data → HostEntry
host_entry name value = record { name = name; ip = unwrap_or (host_ip value) (0 ∷ 0 ∷ 0 ∷ 0 ∷ []) }

-- the entries of a table of hosts, in byte order
unfoldable pub host_entries : Members → List HostEntry
host_entries no_members = []
host_entries (member name value rest) = host_entry name value ∷ host_entries rest

-- the names that the container knows, none where the key is absent
unfoldable pub hosts_in : Option Data → List HostEntry
hosts_in value = option_map_or host_entries (option_and_then as_table value) []

-- ## The settings

-- the number of a key, the standard one where the key is absent
unfoldable pub number_at : ℕ → ℕ → ℕ → Bytes → Members → ℕ
number_at low high standard key top =
    unwrap_or (number_in low high standard (get_member key top)) standard

-- the key is true, false where it is absent
unfoldable pub flag_at : Bytes → Members → Bool
flag_at key top = unwrap_or (flag_in (get_member key top)) false

-- the text of one of the container's keys
unfoldable pub top_text : Bytes → Members → Bytes
top_text key top = unwrap_or (option_and_then as_str (get_member key top)) []

-- the settings of a document without fault, with standard values for what is absent
unfoldable pub config_of : List Bytes → Members → Config
config_of kinds top = record {
  listen = unwrap_or (listen_in (get_member (codes "listen") top)) (0 ∷ 0 ∷ 0 ∷ 0 ∷ [], 5060);
  domain = top_text (codes "domain") top;
  salt = top_text (codes "salt") top;
  workers = number_at 1 32 2 (codes "workers") top;
  stop_after = number_at 0 1000000 0 (codes "stop_after") top;
  journal_steps = number_at 1 1000000 1000000 (codes "journal_steps") top;
  journal_bytes = number_at 1 67108864 67108864 (codes "journal_bytes") top;
  epoch_steps = number_at 0 1000000 0 (codes "epoch_steps") top;
  journal_parts = flag_at (codes "journal_parts") top;
  reuse = flag_at (codes "reuse") top;
  recording = option_and_then as_str (get_member (codes "record") top);
  hosts = hosts_in (get_member (codes "hosts") top);
  app = map (app_entry kinds) (apps_in top);
}

-- the fault, or else the settings
unfoldable pub unless_refused : Option Fault → Config → Result Config Fault
unless_refused None config = Ok config
unless_refused (Some fault) config = Err fault

-- of a document, where the text is one
unfoldable pub settings_in : Option Members → List Bytes → Result Config Fault
settings_in None kinds = Err (SYNTAX, [])
settings_in (Some top) kinds = unless_refused (first_refusal kinds top) (config_of kinds top)

-- the settings that the text gives for a catalogue of these kinds, or the first refusal
unfoldable pub settings_of : Bytes → List Bytes → Result Config Fault
settings_of bytes kinds =
    if nat_lt 65536 (length bytes) then Err (LONG, []) else settings_in (document bytes) kinds

-- the fault that a refusal tells; want of memory tells none
unfoldable pub fault_told : ConfigRefused → Option Fault
fault_told (Refused kind key) = Some (kind, key)
fault_told NoMemory = None
