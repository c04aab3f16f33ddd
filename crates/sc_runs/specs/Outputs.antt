-- The output of a run as text: a record for each message that its journal sends, and a last line.
-- This project's own.
use Rattle.std.specs.Prelude.{List, ◌++◌, length}
use Rattle.sc_terms.specs.declared.steps.Step.{Step}
use Rattle.sc_parts.specs.declared.setup.Setup.{Setup}
use Rattle.sc_tokens.specs.Bytes.{Bytes}
use Rattle.sc_model.specs.Records.{end_text, records}
use Rattle.sc_hosts.specs.Runs.{all_sent, live_count, net_from}
use Rattle.sc_hosts.specs.Sessions.{Form}

-- the records of all that a journal of epoch 0, begun at 0, sends
unfoldable pub journal_records : {S : Type 0} → Form S → Setup → List Step → Bytes
journal_records form setup journal = records (all_sent form setup 0 0 journal)

-- the last line: the steps, the sent messages and the live sessions
unfoldable pub end_line : {S : Type 0} → Form S → Setup → List Step → Bytes
end_line form setup journal =
    end_text (length journal) (length (all_sent form setup 0 0 journal))
    (live_count (net_from form setup 0 0 journal))

-- the whole output
unfoldable pub output : {S : Type 0} → Form S → Setup → List Step → Bytes
output form setup journal = journal_records form setup journal ++ end_line form setup journal
