-- Over every list of offers, PRACKs and timers of an INVITE the accepted offers are numbered 1, 2, 3 and so on.
use Rattle.std.proofs.Common.{◌≡◌, ℕ, ◌+◌, Bool, true, false, Option, None, Some, List, [], ◌∷◌, refl, ap, subst}
use Rattle.std.specs.Prelude.{cond, ◌==◌}
use Rattle.std.specs.List.{filter_map, cons_option}
use Rattle.sc_value.specs.declared.ids.ReqId.{ReqId}
use Rattle.sc_terms.specs.declared.calls.Call.TheVariants as calls
use Rattle.sc_state.specs.declared.working.Play.{Play}
use Rattle.sc_tokens.specs.Bytes.{Bytes}
use Rattle.sc_hosts.specs.Effects.{after_listed, answer_of}
use Rattle.sc_hosts.specs.HelperParts.{accepted_then}
use Rattle.sc_hosts.specs.Scripting.{Done, is_refused}
use Rattle.sc_promised.proofs.Attributes.{responded-attributes}
use Rattle.sc_promised.proofs.OfferLaws.{offered-pending}
use Rattle.sc_promised.proofs.Endings.{prack-last, late-last, same-rel}
use Rattle.sc_promised.proofs.Texts.{decimal-lacks}
use Rattle.sc_promised.specs.Reliable.{Remembered, Fresh, Pending, Acked, Failed, remembered_of, remembered_at, last_of, next_of, offer_answer, offer_call, offers, offer_by, offer_script, play_after, offered_as, CountFrom, Sound, Act, Offers, Pracks, Late, Happened, after, script_of, offered_number as offered, IsOf, IsSound, IsTrace, MOST_RSEQ}

-- an offer whose response was refused changes nothing
refused-same : (play : Play) (req : ReqId) (r c code : ℕ) (reason body : Bytes) (n : ℕ)
    → is_refused (answer_of play (offer_call req r code reason body)) ≡ true
    → remembered_at (play_after play (offers req r c code reason body)).view n ≡ remembered_at play.view n
unfolding offers accepted_then play_after remembered_of
refused-same play req r c code reason body n is =
    rw (is, play_after) (same-rel (after_listed play (calls.Respond req (offer_answer r code reason body))).view play.view n (responded-attributes play req (offer_answer r code reason body)))

-- the last RSeq after an offer that could have this one
moved : (play : Play) (req : ReqId) (r c code : ℕ) (reason body : Bytes) (refused : Bool)
    → is_refused (answer_of play (offer_call req r code reason body)) ≡ refused
    → (refused ≡ false → Sound play req r c code reason body)
    → last_of (remembered_at (play_after play (offers req r c code reason body)).view req.0) ≡ cond refused (last_of (remembered_at play.view req.0)) r
unfolding last_of
moved play req r c code reason body true is sound = ap last_of (refused-same play req r c code reason body req.0 is)
moved play req r c code reason body false is sound =
    let s = sound refl in
    ap last_of (offered-pending play req r c code reason body s.given (decimal-lacks r s.rseq) (decimal-lacks c s.cseq) (decimal-lacks s.given.timer s.timer) s.rseq s.cseq s.timer)

-- ## Counting

-- the number counts as the next, or the last stays
abbrev pub Counts : ℕ → Option ℕ → ℕ → Type 0
Counts last None later = later ≡ last
Counts last (Some n) later = (n ≡ last + 1) × (later ≡ n)

counted-by : (last r later : ℕ) (refused : Bool) → r ≡ last + 1 → later ≡ cond refused last r
    → Counts last (cond refused None (Some r)) later
counted-by last r later true next is = is
counted-by last r later false next is = (next, is)

offers-count : (play : Play) (req : ReqId) (r c code : ℕ) (reason body : Bytes)
    → r ≡ last_of (remembered_at play.view req.0) + 1
    → (is_refused (answer_of play (offer_call req r code reason body)) ≡ false → Sound play req r c code reason body)
    → Counts (last_of (remembered_at play.view req.0)) (offered_as play req code reason body (Some r)) (last_of (remembered_at (play_after play (offers req r c code reason body)).view req.0))
unfolding offered_as
offers-count play req r c code reason body next sound =
    counted-by (last_of (remembered_at play.view req.0)) r _ (is_refused (answer_of play (offer_call req r code reason body))) next
    (moved play req r c code reason body (is_refused (answer_of play (offer_call req r code reason body))) refl sound)

-- ## The list

-- one act: the RSeq that it offered, if it did, and the last one before and after
pub record Entry : Type 0 where
  pub before : ℕ
  pub offered : Option ℕ
  pub after : ℕ
  pub counts : Counts before offered after

-- nothing else writes: each begins where the one before ended
unfoldable pub IsChained : ℕ → List Entry → Type 0
IsChained last [] = Unit {0}
IsChained last (entry ∷ entries) = (entry.before ≡ last) × IsChained entry.after entries

counts-next : (found : Option ℕ) (last later : ℕ) (ns : List ℕ) → Counts last found later → CountFrom later ns
    → CountFrom last (cons_option found ns)
unfolding CountFrom
counts-next None last later ns counts rest = subst (λ (k : ℕ). CountFrom k ns) counts rest
counts-next (Some n) last later ns counts rest = (counts.0, subst (λ (k : ℕ). CountFrom k ns) counts.1 rest)

-- the accepted offers are numbered on from the last
pub numbered-on : (entries : List Entry) (last : ℕ) → IsChained last entries
    → CountFrom last (filter_map (λ entry. entry.offered) entries)
unfolding IsChained CountFrom
numbered-on [] last chained = tt
numbered-on (entry ∷ entries) last chained =
    counts-next entry.offered last entry.after (filter_map (λ entry. entry.offered) entries) (subst (λ (k : ℕ). Counts k entry.offered entry.after) chained.0 entry.counts) (numbered-on entries entry.after chained.1)

-- ## Each act

offers-most : (b : Bool) (play : Play) (req : ReqId) (r c code : ℕ) (reason body : Bytes)
    → r ≡ last_of (remembered_at play.view req.0)
    → (b ≡ false → is_refused (answer_of play (offer_call req (r + 1) code reason body)) ≡ false → Sound play req (r + 1) c code reason body)
    → Counts (last_of (remembered_at play.view req.0)) (offered_as play req code reason body (cond b None (Some (r + 1)))) (last_of (remembered_at (play_after play (cond b Done (offers req (r + 1) c code reason body))).view req.0))
unfolding offered_as play_after
offers-most true play req r c code reason body is sound = refl
offers-most false play req r c code reason body is sound = offers-count play req (r + 1) c code reason body (ap (λ n. n + 1) is) (sound refl)

offers-by : (rel : Remembered) (play : Play) (req : ReqId) (c code : ℕ) (reason body : Bytes)
    → remembered_at play.view req.0 ≡ rel
    → ((r : ℕ) → next_of rel ≡ Some r → is_refused (answer_of play (offer_call req r code reason body)) ≡ false → Sound play req r c code reason body)
    → Counts (last_of (remembered_at play.view req.0)) (offered_as play req code reason body (next_of rel)) (last_of (remembered_at (play_after play (offer_by rel req c code reason body)).view req.0))
unfolding next_of offer_by last_of offered_as play_after
offers-by Fresh play req c code reason body is sound = offers-count play req 1 c code reason body (rw is refl) (sound 1 refl)
offers-by (Pending r d t) play req c code reason body is sound = refl
offers-by (Acked r d) play req c code reason body is sound = offers-most (r == MOST_RSEQ) play req r c code reason body (rw is refl) (λ more. sound (r + 1) (rw more refl))
offers-by (Failed r d) play req c code reason body is sound = offers-most (r == MOST_RSEQ) play req r c code reason body (rw is refl) (λ more. sound (r + 1) (rw more refl))

offers-if : (b : Bool) (play : Play) (req : ReqId) (c code : ℕ) (reason body : Bytes)
    → ((r : ℕ) → next_of (remembered_at play.view req.0) ≡ Some r → is_refused (answer_of play (offer_call req r code reason body)) ≡ false → Sound play req r c code reason body)
    → Counts (last_of (remembered_at play.view req.0)) (cond b (offered_as play req code reason body (next_of (remembered_at play.view req.0))) None)
    (last_of (remembered_at (play_after play (cond b (offer_by (remembered_at play.view req.0) req c code reason body) Done)).view req.0))
unfolding play_after
offers-if true play req c code reason body sound = offers-by (remembered_at play.view req.0) play req c code reason body refl sound
offers-if false play req c code reason body sound = refl

act-counts : (n : ℕ) (play : Play) (act : Act) → IsOf n act → IsSound play act
    → Counts (last_of (remembered_at play.view n)) (offered (record { play = play; act = act })) (last_of (remembered_at (play_after play (script_of play.view act)).view n))
unfolding IsOf IsSound offered script_of offer_script
act-counts n play (Offers req request code reason body) of sound =
    subst (λ (n : ℕ). Counts (last_of (remembered_at play.view n)) (offered (record { play = play; act = Offers req request code reason body })) (last_of (remembered_at (play_after play (script_of play.view (Offers req request code reason body))).view n)))
    of (offers-if _ play req request.head.cseq.number code reason body sound)
act-counts n play (Pracks invited req request) of sound =
    subst (λ (n : ℕ). last_of (remembered_at (play_after play (script_of play.view (Pracks invited req request))).view n) ≡ last_of (remembered_at play.view n)) of (prack-last play invited req request)
act-counts n play (Late invited id) of sound =
    subst (λ (n : ℕ). last_of (remembered_at (play_after play (script_of play.view (Late invited id))).view n) ≡ last_of (remembered_at play.view n)) of (late-last play invited.0 id)

-- ## Every list of acts

counted : (acts : List Happened) (n : ℕ) (rel : Remembered) → IsTrace n rel acts
    → CountFrom (last_of rel) (filter_map offered acts)
unfolding IsTrace CountFrom
counted [] n rel trace = tt
counted (h ∷ acts) n rel trace =
    counts-next (offered h) (last_of rel) (last_of (remembered_at (after h).view n)) (filter_map offered acts)
    (subst (λ (rel : Remembered). Counts (last_of rel) (offered h) (last_of (remembered_at (after h).view n))) trace.2 (act-counts n h.play h.act trace.0 trace.1))
    (counted acts n (remembered_at (after h).view n) trace.3)

fresh-last : ◌≡◌ {A = ℕ} (last_of Fresh) 0
unfolding last_of
fresh-last = refl

-- the accepted offers of one INVITE are numbered 1, 2, 3 and so on
pub offers-counted : (acts : List Happened) (n : ℕ) → IsTrace n Fresh acts → CountFrom 0 (filter_map offered acts)
offers-counted acts n trace = subst (λ (k : ℕ). CountFrom k (filter_map offered acts)) fresh-last (counted acts n Fresh trace)
