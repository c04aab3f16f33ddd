-- What a call does changes neither the view nor the drafts of its turn.
use Rattle.std.proofs.Common.{◌≡◌, ℕ, Option, Some, None, refl}
use Rattle.std.specs.List.{find}
use Rattle.sc_value.specs.declared.ids.ReqId.{ReqId}
use Rattle.sc_value.specs.declared.ids.SessId.{SessId}
use Rattle.sc_value.specs.declared.parts.Uri.{Uri}
use Rattle.sc_terms.specs.declared.calls.Answer.{Answer}
use Rattle.sc_terms.specs.declared.calls.Call.{Call}
use Rattle.sc_terms.specs.declared.calls.Call.TheVariants as calls
use Rattle.sc_terms.specs.declared.calls.Refusal.{Refusal}
use Rattle.sc_terms.specs.declared.inside.Inside.{Inside}
use Rattle.sc_terms.specs.declared.settings.Config.{Config}
use Rattle.sc_terms.specs.declared.views.RequestView.{RequestView}
use Rattle.sc_state.specs.declared.session.Kept.{Kept}
use Rattle.sc_state.specs.declared.working.Asked.{Asked}
use Rattle.sc_state.specs.declared.working.Asked.TheVariants as asked
use Rattle.sc_state.specs.declared.working.Draft.{Draft}
use Rattle.sc_state.specs.declared.working.Working.{Working}
use Rattle.sc_state.specs.declared.working.Written.{Written}
use Rattle.sc_tokens.specs.Bytes.{Bytes}
use Rattle.sc_model.specs.Dialogs.{DialogState}
use Rattle.sc_hosts.specs.Looking.{request_in}
use Rattle.sc_hosts.specs.Preparing.{kept_of}
use Rattle.sc_hosts.specs.Refusals.{awaits_ack, begun_by}
use Rattle.sc_hosts.specs.RefusalParts.{draft_in}
use Rattle.sc_hosts.specs.Giving.{answering, writes, drafts_own, drafts_later, drafts_leg, is_written, directs, forgets}
use Rattle.sc_hosts.specs.Working.{keeps_sent, sends_initial, sends_later, dialog_in, sends_in, sends_written, sends, ack_with, acknowledges, cancels, invalidates, effects_of_call as does, does_by}

answering_play : (config : Config) (request : Option RequestView) (answer : Answer) (working : Working) → (answering config request answer working).play ≡ working.play
unfolding answering
answering_play config None answer working = refl
answering_play config (Some request) answer working = refl

leg_play : (req : ReqId) (uri : Option Uri) (kept : Option Kept) (working : Working) → (drafts_leg req uri kept working).play ≡ working.play
unfolding drafts_leg writes
leg_play req uri None working = refl
leg_play req uri (Some kept) working = refl

in_play : (config : Config) (sess : SessId) (ask : Inside) (dialog : Option DialogState) (working : Working) → (sends_in config sess ask dialog working).play ≡ working.play
unfolding sends_in sends_later keeps_sent
in_play config sess ask None working = refl
in_play config sess ask (Some dialog) working = refl

written_play : (config : Config) (draft : Written) (sess : SessId) (a : Asked) (working : Working) → (sends_written config draft sess a working).play ≡ working.play
unfolding sends_written sends_initial keeps_sent
written_play config draft sess (asked.Initial request) working = refl
written_play config draft sess (asked.Later ask) working = in_play config sess ask (dialog_in working.known sess) working

sends_play : (config : Config) (number : ℕ) (written : Option Written) (draft : Option Draft) (working : Working) → (sends config number written draft working).play ≡ working.play
unfolding sends forgets
sends_play config number (Some written) (Some draft) working = written_play config written draft.sess written.asked working
sends_play config number (Some written) None working = refl
sends_play config number None draft working = refl

ack_play : (config : Config) (body : Bytes) (dialog : Option DialogState) (kept : Option Kept) (working : Working) → (ack_with config body dialog kept working).play ≡ working.play
unfolding ack_with
ack_play config body (Some dialog) (Some kept) working = refl
ack_play config body (Some dialog) None working = refl
ack_play config body None kept working = refl

acknowledges_play : (config : Config) (sess : SessId) (body : Bytes) (request : Option RequestView) (working : Working) → (acknowledges config sess body request working).play ≡ working.play
unfolding acknowledges
acknowledges_play config sess body None working = refl
acknowledges_play config sess body (Some request) working = ack_play config body (dialog_in working.known sess) (kept_of working.known request.id) working

does_play : (config : Config) (working : Working) (call : Call) → (does config working call).play ≡ working.play
unfolding does drafts_own drafts_later writes directs forgets cancels invalidates
does_play config working (calls.Respond req answer) = answering_play config (request_in working.play.view req) answer working
does_play config working (calls.CreateRequest ask) = refl
does_play config working (calls.CreateInDialog sess ask) = refl
does_play config working (calls.B2bCreate req uri) = leg_play req uri (kept_of working.known req) working
does_play config working (calls.SetDirective draft directive origin) = refl
does_play config working (calls.Send draft) = sends_play config draft (find (is_written draft) working.written) (draft_in working.play draft) working
does_play config working (calls.Discard draft) = refl
does_play config working (calls.Ack sess body) = acknowledges_play config sess body (find (awaits_ack sess) working.play.view.requests) working
does_play config working (calls.Cancel req) = refl
does_play config working (calls.ProxyTo req uris how) = refl
does_play config working (calls.ProxyCancel req) = refl
does_play config working (calls.B2bRespond sess answer) = answering_play config (begun_by working.play.view sess) answer working
does_play config working (calls.Link a b) = refl
does_play config working (calls.Unlink a) = refl
does_play config working (calls.StartTimer delay period info) = refl
does_play config working (calls.CancelTimer id) = refl
does_play config working (calls.SetAttribute name value) = refl
does_play config working (calls.RemoveAttribute name) = refl
does_play config working (calls.SetExpires minutes) = refl
does_play config working (calls.SetReadyFlag target flag) = refl
does_play config working (calls.InvalidateSession sess) = refl
does_play config working calls.InvalidateApplication = refl

pub does_by_play : (config : Config) (working : Working) (call : Call) (refused : Option Refusal) → (does_by config working call refused).play ≡ working.play
unfolding does_by
does_by_play config working call None = does_play config working call
does_by_play config working call (Some refused) = refl
