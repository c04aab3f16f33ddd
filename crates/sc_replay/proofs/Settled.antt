-- What a configuration and a routing table are that are read, or refused.
use Rattle.std.proofs.Common.{◌≡◌, ◌<◌, ℕ, true, Option, None, Some, List, [], Result, Ok, Err, length, refl, sym, subst, arith}
use Rattle.std.specs.Prelude.{nat_lt, IfOk, IfErr}
use Rattle.std.proofs.lemmas.Bool.Decides.{nat_tests}
use Rattle.sc_tokens.specs.Bytes.{Bytes}
use Rattle.sc_config.specs.ReadSettings.{settings_of}
use Rattle.sc_dar.specs.Tables.{table_of}
use Rattle.sc_edge.specs.Shelving.{GivesAll, IsLonger}
use Rattle.sc_terms.specs.declared.settings.Config.{Config}
use Rattle.sc_terms.specs.declared.settings.Dar.{Dar}
use Rattle.sc_switch.specs.declared.ran.Status.{Status}
use Rattle.sc_switch.specs.declared.ran.Status.TheVariants as statuses
use Rattle.sc_replay.specs.declared.settings.Settings.{Settings}
use Rattle.sc_replay.specs.Replaying.{TellsConfig, TellsTable, IsConfigFault, IsTableFault, IsTableRefused, IsUnset, app_names}
use Rattle.sc_replay.specs.Running.{IsConfigUnread, IsTableUnread}

is_longer : (text : Bytes) → 65536 < length text → nat_lt 65536 (length text) ≡ true
is_longer text longer = grind (arith, nat_tests, longer)

pub config_longer : (names : List Bytes) (told : Option Bytes) → IsLonger told 65536 → IsConfigFault names told 6 []
unfolding IsConfigFault settings_of
config_longer names None longer = tt
config_longer names (Some text) longer = rw (is_longer text longer) refl

pub table_longer : (names : List Bytes) (told : Option Bytes) → IsLonger told 65536 → IsTableFault names told 0 8
unfolding IsTableFault table_of
table_longer names None longer = tt
table_longer names (Some text) longer = rw (is_longer text longer) refl

pub config_fault : (names : List Bytes) (text : Bytes) (told : Option Bytes) (kind : ℕ) (key : Bytes) → GivesAll text told → settings_of text names ≡ Err (kind, key) → IsConfigFault names told kind key
unfolding IsConfigFault
config_fault names text None kind key gives fault = tt
config_fault names text (Some all) kind key gives fault = rw gives at fault

pub table_fault : (names : List Bytes) (text : Bytes) (told : Option Bytes) (line kind : ℕ) → GivesAll text told → table_of text names ≡ Err (record { line = line; kind = kind }) → IsTableFault names told line kind
unfolding IsTableFault
table_fault names text None line kind gives fault = tt
table_fault names text (Some all) line kind gives fault = rw gives at fault

-- ## Why there are none

config_never : (names : List Bytes) (told : Option Bytes) (read : Type 0) (status : Status) → IsConfigUnread names told ⊥ status → IsConfigUnread names told read status
unfolding IsConfigUnread
config_never names told read statuses.Done is = is
config_never names told read statuses.Usage is = is
config_never names told read (statuses.Config kind key) is = is
config_never names told read (statuses.Dar line kind) is = is
config_never names told read statuses.JournalFull is = is
config_never names told read statuses.Edge is = is
config_never names told read statuses.NoMemory is = is
config_never names told read (statuses.Script at kind) is = is
config_never names told read statuses.Read is = absurd is
config_never names told read statuses.Write is = is

-- of a text that was read
pub config_unread : (names : List Bytes) (told : Option Bytes) (read : Type 0) (r : Result Config Status) → IfErr r (λ status. IsConfigUnread names told ⊥ status) → IfErr r (λ status. IsConfigUnread names told read status)
config_unread names told read (Ok config) is = tt
config_unread names told read (Err status) is = config_never names told read status is

table_never : (names : List Bytes) (told : Option Bytes) (read : Type 0) (status : Status) → IsTableUnread names told ⊥ status → IsTableUnread names told read status
unfolding IsTableUnread
table_never names told read statuses.Done is = is
table_never names told read statuses.Usage is = is
table_never names told read (statuses.Config kind key) is = is
table_never names told read (statuses.Dar line kind) is = is
table_never names told read statuses.JournalFull is = is
table_never names told read statuses.Edge is = is
table_never names told read statuses.NoMemory is = is
table_never names told read (statuses.Script at kind) is = is
table_never names told read statuses.Read is = absurd is
table_never names told read statuses.Write is = is

pub table_unread : (names : List Bytes) (told : Option Bytes) (read : Type 0) (r : Result Dar Status) → IfErr r (λ status. IsTableUnread names told ⊥ status) → IfErr r (λ status. IsTableUnread names told read status)
table_unread names told read (Ok dar) is = tt
table_unread names told read (Err status) is = table_never names told read status is

-- ## Both

pub config_kept : (names : List Bytes) (told : Option Bytes) (config : Config) (r : Result Settings Status) → TellsConfig names told config → IfOk r (λ settings. settings.config ≡ config) → IfOk r (λ settings. TellsConfig names told settings.config)
config_kept names told config (Ok settings) tells same = subst (λ (c : Config). TellsConfig names told c) (sym same) tells
config_kept names told config (Err status) tells same = tt

pub table_kept : (told before : Option Bytes) (config : Config) (r : Result Settings Status) → before ≡ told → IfOk r (λ settings. settings.config ≡ config) → IfOk r (λ settings. TellsTable (app_names config) before settings.dar) → IfOk r (λ settings. TellsTable (app_names settings.config) told settings.dar)
table_kept told before config (Ok settings) held same table =
    subst (λ (c : Config). TellsTable (app_names c) told settings.dar) (sym same) (subst (λ (o : Option Bytes). TellsTable (app_names config) o settings.dar) held table)
table_kept told before config (Err status) held same table = tt

-- no configuration
pub unset_config : (names : List Bytes) (config dar : Option Bytes) (read : Type 0) (status : Status) → IsConfigUnread names config read status → IsUnset names config dar read status
unfolding IsConfigUnread IsUnset
unset_config names config dar read statuses.Done is = is
unset_config names config dar read statuses.Usage is = is
unset_config names config dar read (statuses.Config kind key) is = is
unset_config names config dar read (statuses.Dar line kind) is = absurd is
unset_config names config dar read statuses.JournalFull is = is
unset_config names config dar read statuses.Edge is = is
unset_config names config dar read statuses.NoMemory is = is
unset_config names config dar read (statuses.Script at kind) is = is
unset_config names config dar read statuses.Read is = is
unset_config names config dar read statuses.Write is = is

unset_table : (names : List Bytes) (config dar : Option Bytes) (before read : Type 0) (settings : Config) (status : Status) → TellsConfig names config settings → (before → read) → IsTableUnread (app_names settings) dar before status → IsUnset names config dar read status
unfolding IsTableUnread IsUnset IsTableRefused
unset_table names config dar before read settings statuses.Done tells rose is = is
unset_table names config dar before read settings statuses.Usage tells rose is = is
unset_table names config dar before read settings (statuses.Config kind key) tells rose is = absurd is
unset_table names config dar before read settings (statuses.Dar line kind) tells rose is = (settings, tells, is)
unset_table names config dar before read settings statuses.JournalFull tells rose is = is
unset_table names config dar before read settings statuses.Edge tells rose is = is
unset_table names config dar before read settings statuses.NoMemory tells rose is = is
unset_table names config dar before read settings (statuses.Script at kind) tells rose is = is
unset_table names config dar before read settings statuses.Read tells rose is = rose is
unset_table names config dar before read settings statuses.Write tells rose is = is

-- no table for the applications of a configuration; the shelf's count that rose in this call rose in both
pub table_unset : (names : List Bytes) (config told held : Option Bytes) (before read : Type 0) (settings : Config) (r : Result Settings Status) → TellsConfig names config settings → held ≡ told → (before → read)
    → IfErr r (λ status. IsTableUnread (app_names settings) held before status) → IfErr r (λ status. IsUnset names config told read status)
table_unset names config told held before read settings (Ok both) tells same rose is = tt
table_unset names config told held before read settings (Err status) tells same rose is =
    unset_table names config told before read settings status tells rose (subst (λ (o : Option Bytes). IsTableUnread (app_names settings) o before status) same is)
