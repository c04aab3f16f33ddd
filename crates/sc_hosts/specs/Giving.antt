-- What a turn gives to its host: its answers, and the drafts that it writes (RFC 3261 sections
-- 8.1.1 and 8.2.6, JSR 289 section 12).
use Rattle.std.specs.Prelude.{ℕ, ◌+◌, ◌==◌, List, [], ◌∷◌, ◌++◌, Bool, Option, None, Some}
use Rattle.sc_value.specs.declared.ids.Directive.{Directive}
use Rattle.sc_value.specs.declared.ids.Directive.TheVariants.{Continue}
use Rattle.sc_value.specs.declared.ids.ReqId.{ReqId}
use Rattle.sc_value.specs.declared.parts.Uri.{Uri}
use Rattle.sc_value.specs.Lists.{change_first, remove_first}
use Rattle.sc_terms.specs.declared.settings.Config.{Config}
use Rattle.sc_terms.specs.declared.views.View.{View}
use Rattle.sc_terms.specs.declared.views.RequestView.{RequestView}
use Rattle.sc_terms.specs.declared.calls.Answer.{Answer}
use Rattle.sc_terms.specs.declared.calls.Ask.{Ask}
use Rattle.sc_terms.specs.declared.inside.Inside.{Inside}
use Rattle.sc_state.specs.declared.orders.Order.{Order}
use Rattle.sc_state.specs.declared.orders.Order.TheVariants as orders
use Rattle.sc_state.specs.declared.session.Kept.{Kept}
use Rattle.sc_state.specs.declared.session.Way.{Way}
use Rattle.sc_state.specs.declared.session.Way.TheVariants.{Received, Sent}
use Rattle.sc_state.specs.declared.working.Asked.TheVariants as asked
use Rattle.sc_state.specs.declared.working.Working.{Working}
use Rattle.sc_state.specs.declared.working.Written.{Written}
use Rattle.sc_hosts.specs.ViewChanges.{new_call_id, new_session, new_tag}
use Rattle.sc_hosts.specs.Legs.{new_leg}
use Rattle.sc_hosts.specs.Messages.{asked_request, leg_request, given_response}
use Rattle.sc_hosts.specs.Preparing.{kept_of, own_tag_of}

-- the turn gives these orders to its host, behind those that it gave
abbrev pub giving : List Order → Working → Working
giving given working = record working { orders = working.orders ++ given }

-- ## Answers

-- the answer to a kept request, by its server transaction; a sent request gets none
unfoldable pub answer_order : Config → View → Bool → Answer → Kept → Way → List Order
answer_order config view initial answer kept (Received event) =
    orders.Respond event
    (given_response config view (own_tag_of view kept.sess) initial kept.request answer) ∷ []
answer_order config view initial answer kept (Sent branch) = []

-- the answer to a request that may not be kept any more
unfoldable pub answers : Config → Answer → View → Option Kept → Bool → List Order
answers config answer view None initial = []
answers config answer view (Some kept) initial =
    answer_order config view initial answer kept kept.way

-- the answer to a received request that is shown
unfoldable pub answering : Config → Option RequestView → Answer → Working → Working
answering config None answer working = working
answering config (Some request) answer working =
    giving
    (answers config answer working.play.view (kept_of working.known request.id) request.initial)
    working

-- ## Drafts

-- what a draft is to be sent as is noted
unfoldable pub writes : Written → Working → Working
writes draft working = record working { written = working.written ++ draft ∷ [] }

-- the next SipSession has its leg, of which nothing is known yet
abbrev pub with_leg : Working → Working
with_leg working = record working {
  known =
      record working.known {
        legs = working.known.legs ++ new_leg (new_session working.play.view) None ∷ [];
      };
}

-- an initial request of one's own, with a Call-ID and a From tag that are drawn for it
unfoldable pub drafts_own : Ask → Working → Working
drafts_own ask working = with_leg (writes (record {
  number = working.play.drafted + 1;
  directive = ask.directive;
  origin = ask.origin;
  asked =
      asked.Initial (asked_request (new_call_id working.play.view) (new_tag working.play.view) ask);
}) working)

-- a request in a dialog; it is made once it is sent
unfoldable pub drafts_later : Inside → Working → Working
drafts_later ask working =
    writes
    (record {
      number = working.play.drafted + 1;
      directive = Continue;
      origin = None;
      asked = asked.Later ask;
    }) working

-- the second leg of a received request
unfoldable pub drafts_leg : ReqId → Option Uri → Option Kept → Working → Working
drafts_leg req uri None working = working
drafts_leg req uri (Some kept) working = with_leg (writes (record {
  number = working.play.drafted + 1;
  directive = Continue;
  origin = Some req;
  asked =
      asked.Initial
      (leg_request (new_call_id working.play.view) (new_tag working.play.view) uri kept.request);
}) working)

-- the draft has this number
abbrev pub is_written : ℕ → Written → Bool
is_written number draft = draft.number == number

-- how the router is to go on for a draft, and from which received request
unfoldable pub directs : ℕ → Directive → Option ReqId → Working → Working
directs number directive origin working = record working {
  written =
      change_first (is_written number)
      (λ draft. record draft { directive = directive; origin = origin }) working.written;
}

-- the content of a draft that was sent or dropped is let go
unfoldable pub forgets : ℕ → Working → Working
forgets number working =
    record working { written = remove_first (is_written number) working.written }
