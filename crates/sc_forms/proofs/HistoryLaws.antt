-- The laws of the two forms: sessions that are kept as their histories, and as what they are.
use Rattle.std.proofs.Common.{ap, sym, ◌∙◌}
use Rattle.std.specs.Prelude.{◌≡◌, ℕ, List, option_map}
use Rattle.sc_forms.proofs.CountMaps.{live_count-maps, waiting_count-maps, is_idle-maps, queued-maps, waiting-maps, purged-maps, listing_of-maps, all_sent_by-maps, are_lawful-maps, are_lawful_back}
use Rattle.sc_forms.proofs.HistoryForms.{histories-simulate}
use Rattle.sc_forms.proofs.LawfulMaps.{lawful-maps, lawful_back}
use Rattle.sc_forms.proofs.RunMaps.{all_sent-maps, chained-maps}
use Rattle.sc_forms.proofs.StepMaps.{live_at-maps}
use Rattle.sc_forms.specs.Simulations.{map_live, map_net}
use Rattle.sc_hosts.specs.EventLists.{events_of_session as queued, waiting, dropped_events as purged, listing_of}
use Rattle.sc_hosts.specs.Histories.{as_history, as_session, session_of}
use Rattle.sc_hosts.specs.Runs.{net_from as chained, all_sent, IsLawful, live_count, waiting_count, is_idle, Epoch, all_sent_by, AreLawful}
use Rattle.sc_hosts.specs.Steps.{live_at}
use Rattle.sc_parts.specs.declared.setup.Setup.{Setup}
use Rattle.sc_terms.specs.declared.steps.Step.{Step}
use Rattle.sc_value.specs.declared.ids.AppId.{AppId}

-- ## A journal

pub all_sent-histories : (setup : Setup) (epoch began : ℕ) (journal : List Step) → all_sent (as_history setup.config) setup epoch began journal ≡ all_sent as_session setup epoch began journal
all_sent-histories setup epoch began journal = sym (all_sent-maps (session_of setup.config) setup (as_history setup.config) as_session (histories-simulate setup.config) epoch began journal)

pub chained-histories : (setup : Setup) (epoch began : ℕ) (journal : List Step) → chained as_session setup epoch began journal ≡ map_net (session_of setup.config) (chained (as_history setup.config) setup epoch began journal)
chained-histories setup epoch began journal = chained-maps (session_of setup.config) setup (as_history setup.config) as_session (histories-simulate setup.config) epoch began journal

pub lawful-histories : (setup : Setup) (epoch began : ℕ) (journal : List Step) → IsLawful (as_history setup.config) setup epoch began journal → IsLawful as_session setup epoch began journal
lawful-histories setup epoch began journal lawful = lawful-maps (session_of setup.config) setup (as_history setup.config) as_session (histories-simulate setup.config) epoch began journal lawful

pub lawful_back-histories : (setup : Setup) (epoch began : ℕ) (journal : List Step) → IsLawful as_session setup epoch began journal → IsLawful (as_history setup.config) setup epoch began journal
lawful_back-histories setup epoch began journal lawful = lawful_back (session_of setup.config) setup (as_history setup.config) as_session (histories-simulate setup.config) epoch began journal lawful

-- ## What a reader is shown

pub live_count-histories : (setup : Setup) (epoch began : ℕ) (journal : List Step) → live_count (chained as_session setup epoch began journal) ≡ live_count (chained (as_history setup.config) setup epoch began journal)
live_count-histories setup epoch began journal = ap live_count (chained-histories setup epoch began journal) ∙ live_count-maps (session_of setup.config) _

pub waiting_count-histories : (setup : Setup) (epoch began : ℕ) (journal : List Step) → waiting_count (chained as_session setup epoch began journal) ≡ waiting_count (chained (as_history setup.config) setup epoch began journal)
waiting_count-histories setup epoch began journal = ap waiting_count (chained-histories setup epoch began journal) ∙ waiting_count-maps (session_of setup.config) _

pub is_idle-histories : (setup : Setup) (epoch began : ℕ) (journal : List Step) → is_idle (chained as_session setup epoch began journal) ≡ is_idle (chained (as_history setup.config) setup epoch began journal)
is_idle-histories setup epoch began journal = ap is_idle (chained-histories setup epoch began journal) ∙ is_idle-maps (session_of setup.config) _

pub live_at-histories : (setup : Setup) (epoch began : ℕ) (app : AppId) (journal : List Step) → live_at app (chained as_session setup epoch began journal) ≡ option_map (map_live (session_of setup.config)) (live_at app (chained (as_history setup.config) setup epoch began journal))
live_at-histories setup epoch began app journal = ap (live_at app) (chained-histories setup epoch began journal) ∙ live_at-maps (session_of setup.config) app _

pub queued-histories : (setup : Setup) (epoch began : ℕ) (app : AppId) (journal : List Step) → queued as_session setup epoch began app journal ≡ queued (as_history setup.config) setup epoch began app journal
queued-histories setup epoch began app journal = queued-maps (session_of setup.config) setup (as_history setup.config) as_session (histories-simulate setup.config) epoch began app journal

pub waiting-histories : (setup : Setup) (epoch began : ℕ) (app : AppId) (journal : List Step) → waiting as_session setup epoch began app journal ≡ waiting (as_history setup.config) setup epoch began app journal
waiting-histories setup epoch began app journal = waiting-maps (session_of setup.config) setup (as_history setup.config) as_session (histories-simulate setup.config) epoch began app journal

pub purged-histories : (setup : Setup) (epoch began : ℕ) (app : AppId) (journal : List Step) → purged as_session setup epoch began app journal ≡ purged (as_history setup.config) setup epoch began app journal
purged-histories setup epoch began app journal = purged-maps (session_of setup.config) setup (as_history setup.config) as_session (histories-simulate setup.config) epoch began app journal

pub listing_of-histories : (setup : Setup) (epoch began : ℕ) (journal : List Step) → listing_of as_session setup epoch began journal ≡ listing_of (as_history setup.config) setup epoch began journal
listing_of-histories setup epoch began journal = listing_of-maps (session_of setup.config) setup (as_history setup.config) as_session (histories-simulate setup.config) epoch began journal

-- ## Epochs

pub all_sent_by-histories : (setup : Setup) (epochs : List Epoch) → all_sent_by (as_history setup.config) setup epochs ≡ all_sent_by as_session setup epochs
all_sent_by-histories setup epochs = sym (all_sent_by-maps (session_of setup.config) setup (as_history setup.config) as_session (histories-simulate setup.config) epochs)

pub are_lawful-histories : (setup : Setup) (epochs : List Epoch) → AreLawful (as_history setup.config) setup epochs → AreLawful as_session setup epochs
are_lawful-histories setup epochs lawful = are_lawful-maps (session_of setup.config) setup (as_history setup.config) as_session (histories-simulate setup.config) epochs lawful

pub are_lawful_back-histories : (setup : Setup) (epochs : List Epoch) → AreLawful as_session setup epochs → AreLawful (as_history setup.config) setup epochs
are_lawful_back-histories setup epochs lawful = are_lawful_back (session_of setup.config) setup (as_history setup.config) as_session (histories-simulate setup.config) epochs lawful
